-- `divide` copies the card and the read mask, and stores the mark.
-- Assumes nothing.
use mathlib.Core.Path.{ap, ap₂, ◌∙◌}
use Prim.Native.Nat.{ℕ, ◌<◌}
use native.Mathlib.Omega.{arith}
use lib.ListN.{length, get_or}
use Rattle.sizes.specs.Bounds.{max_total}
use Rattle.layout.specs.Reading.{read_place}
use Rattle.layout.specs.Stored.{put_place}
use Rattle.form.proofs.Known.{form-area}
use Rattle.fork.proofs.Indices.{read-index, copy_apart}
use Rattle.fork.proofs.Changes.{place-copied}
use Rattle.fork.proofs.Stores.{forked-left}
use Rattle.fork.proofs.divide.Goals as goal
use Rattle.fork.proofs.divide.Goals.{After-read_on-at}

here : (c : After-read_on-at) → let a = c.args in
    (c.read_on-at.result < max_total) × (c.read_on-at.result < length a.words.now)
here c =
    rw c.read_on-at.ensures (read-index _ _ (form-area _ _ c.requires.form_with) _
    c.requires.r_lt_runs 0)

pub snapshot_on-first-requires : goal.snapshot_on-first-requires
snapshot_on-first-requires c = record {
  ranged = (form-area _ _ c.requires.form_with).ranged;
  r_lt_runs = c.requires.r_lt_runs;
}

pub snapshot_on-second-requires : goal.snapshot_on-second-requires
snapshot_on-second-requires c = record {
  ranged = (form-area _ _ c.requires.form_with).ranged;
  r_lt_runs = c.requires.r_lt_runs;
}

pub read_on-at-requires : goal.read_on-at-requires
read_on-at-requires c = record {
  ranged = (form-area _ _ c.requires.form_with).ranged;
  r_lt_runs = c.requires.r_lt_runs;
}

pub place_size-n-requires : goal.place_size-n-requires
place_size-n-requires c =
    (form-area _ _ c.requires.form_with).ranged

pub copy-requires : goal.copy-requires
copy-requires c =
    rw (c.place_size-n.ensures, c.snapshot_on-second.ensures, c.snapshot_on-first.ensures)
    (copy_apart _ _ (form-area _ _ c.requires.form_with) _ c.requires.r_lt_runs)

pub put_marks-requires : goal.put_marks-requires
put_marks-requires c =
    record {
      store_area = rw c.copy.auto.words (form-area _ _ c.requires.form_with);
      r_lt_runs = c.requires.r_lt_runs;
    }

pub returns : goal.returns
returns c =
    let a = c.args in
    let l = a.words.now in
    let card = c.copy.ensures
    ∙ place-copied a.z l c.snapshot_on-second.result c.snapshot_on-first.result
    c.place_size-n.result c.place_size-n.ensures
    ∙ ap₂ (λ (i j : ℕ). put_place a.z l i (read_place a.z l j)) c.snapshot_on-second.ensures
    c.snapshot_on-first.ensures in
    c.put_marks.ensures
    ∙ forked-left l a.z a.r c.requires.form_with c.requires.r_lt_runs _ _ card
    (ap (λ (at : ℕ). get_or l at 0) c.read_on-at.ensures)

pub offset_bounds-words-at : goal.offset_bounds-words-at
offset_bounds-words-at c = omega (arith, here (goal.at.offset_bounds-words-at c).After-read_on-at)

pub bounds-words-at : goal.bounds-words-at
bounds-words-at c = (here (goal.at.bounds-words-at c).After-read_on-at).1
