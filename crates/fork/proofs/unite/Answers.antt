-- `unite` merges the branches, and clears the second.
-- Assumes nothing.
use mathlib.Core.Path.{ap, ◌∙◌}
use Prim.Native.Nat.{ℕ}
use lib.ListN.{length}
use Rattle.model.specs.Store.{empty_place}
use Rattle.layout.specs.Stored.{put_place}
use Rattle.version.proofs.Stores.{snapshot-area}
use Rattle.form.proofs.Known.{form-area}
use Rattle.fork.proofs.Changes.{zeros-place}
use Rattle.fork.proofs.Stores.{joined-left}
use Rattle.fork.proofs.unite.Goals as goal

pub snapshot_on-second-requires : goal.snapshot_on-second-requires
snapshot_on-second-requires c = record {
  ranged = (form-area _ _ c.requires.form_with).ranged;
  r_lt_runs = c.requires.r_lt_runs;
}

pub place_size-n-requires : goal.place_size-n-requires
place_size-n-requires c =
    (form-area _ _ c.requires.form_with).ranged

pub zero-requires : goal.zero-requires
zero-requires c =
    let a = c.args in
    let A = form-area a.words.now a.z c.requires.form_with in
    rw (c.merge_branches.auto.words, c.place_size-n.ensures, c.snapshot_on-second.ensures)
    (snapshot-area (length a.words.now) a.z A.ranged A.fits a.r 1 c.requires.r_lt_runs
    ).fits

pub put_marks-requires : goal.put_marks-requires
put_marks-requires c =
    record {
      store_area = rw (c.zero.auto.words ∙ c.merge_branches.auto.words) (form-area _ _
          c.requires.form_with);
      r_lt_runs = c.requires.r_lt_runs;
    }

pub returns : goal.returns
returns c =
    let a = c.args in
    let m = c.merge_branches.new.words in
    let card = c.zero.ensures
    ∙ zeros-place a.z m c.snapshot_on-second.result c.place_size-n.result
    c.place_size-n.ensures
    ∙ ap (λ (i : ℕ). put_place a.z m i empty_place) c.snapshot_on-second.ensures in
    c.put_marks.ensures
    ∙ joined-left a.words.now a.z a.r c.requires.form_with c.requires.r_lt_runs m _
    c.merge_branches.ensures card
