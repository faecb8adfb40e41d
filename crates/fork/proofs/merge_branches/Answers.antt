-- `merge_branches` merges the keys that the second card holds, and unites the read masks.
-- Assumes nothing.
-- Where the two read masks stand.
use mathlib.Core.Path.{ap, ap₂, ◌∙◌}
use mathlib.Core.List.{List}
use Prim.Native.Nat.{ℕ, ◌<◌}
use native.Mathlib.Omega.{arith}
use lib.Bits.{bit_or}
use lib.ListN.{length, get_or, set}
use Rattle.masks.specs.Mask.{test_bit, mask_below}
use Rattle.sizes.specs.Bounds.{max_total}
use Rattle.model.specs.Version.{held, merge}
use Rattle.layout.specs.Reading.{read_place}
use Rattle.layout.specs.Stored.{put_place}
use Rattle.version.specs.Places.{choice}
use Rattle.version.proofs.Stores.{snapshot-area, snapshot-pair}
use Rattle.form.proofs.Known.{form-area}
use Rattle.fork.proofs.Indices.{read-index}
use Rattle.fork.proofs.Stores.{merged-left}
use Rattle.fork.proofs.merge_branches.Goals as goal
use Rattle.fork.proofs.merge_branches.Goals.{After-read_on-theirs}

mine : (c : After-read_on-theirs) → let a = c.args in
    (c.read_on-mine.result < max_total) × (c.read_on-mine.result < length a.words.now)
mine c =
    rw c.read_on-mine.ensures (read-index _ _ (form-area _ _ c.requires.form_with) _
    c.requires.r_lt_runs 0)

theirs : (c : After-read_on-theirs) → let a = c.args in
    (c.read_on-theirs.result < max_total) × (c.read_on-theirs.result < length a.words.now)
theirs c =
    rw c.read_on-theirs.ensures (read-index _ _ (form-area _ _ c.requires.form_with) _
    c.requires.r_lt_runs 1)

pub snapshot_on-first-requires : goal.snapshot_on-first-requires
snapshot_on-first-requires c = record {
  ranged = (form-area _ _ c.requires.form_with).ranged;
  r_lt_runs = c.requires.r_lt_runs;
}

pub snapshot_on-second-requires : goal.snapshot_on-second-requires
snapshot_on-second-requires c = record {
  ranged = (form-area _ _ c.requires.form_with).ranged;
  r_lt_runs = c.requires.r_lt_runs;
}

pub read_on-mine-requires : goal.read_on-mine-requires
read_on-mine-requires c = record {
  ranged = (form-area _ _ c.requires.form_with).ranged;
  r_lt_runs = c.requires.r_lt_runs;
}

pub read_on-theirs-requires : goal.read_on-theirs-requires
read_on-theirs-requires c = record {
  ranged = (form-area _ _ c.requires.form_with).ranged;
  r_lt_runs = c.requires.r_lt_runs;
}

pub held_mask-held-requires : goal.held_mask-held-requires
held_mask-held-requires c =
    let A = form-area _ _ c.requires.form_with in
    rw c.snapshot_on-second.ensures
    (snapshot-area _ _ A.ranged A.fits c.args.r 1 c.requires.r_lt_runs)

pub merge_keys-requires : goal.merge_keys-requires
merge_keys-requires c =
    let A = form-area _ _ c.requires.form_with in
    rw (c.snapshot_on-second.ensures, c.snapshot_on-first.ensures)
    (snapshot-pair _ _ A.ranged A.fits c.args.r c.requires.r_lt_runs)

pub returns : goal.returns
returns c =
    let a = c.args in
    let l = a.words.now in
    let read : ℕ → ℕ → ℕ = λ at from. bit_or (get_or l at 0) (get_or l from 0) in
    let mask = c.held_mask-held.ensures ∙ ap (λ (at : ℕ). mask_below a.z.keys
    (λ k. held (read_place a.z l at k))) c.snapshot_on-second.ensures in
    let merged : ℕ → ℕ → List ℕ = λ at from.
    let p = read_place a.z l at in
    put_place a.z l at (choice (test_bit c.held_mask-held.result)
    (λ k. merge a.z.writers k (p k) (read_place a.z l from k)) p) in
    let card = c.merge_keys.ensures.merges
    ∙ ap₂ merged c.snapshot_on-first.ensures c.snapshot_on-second.ensures in
    ap (λ (at : ℕ). set c.merge_keys.new.words at
    (read c.read_on-mine.result c.read_on-theirs.result)) c.read_on-mine.ensures
    ∙ merged-left l a.z a.r c.requires.form_with c.requires.r_lt_runs c.held_mask-held.result mask
    _ _ card (ap₂ read c.read_on-mine.ensures c.read_on-theirs.ensures)

pub offset_bounds-words-mine : goal.offset_bounds-words-mine
offset_bounds-words-mine c =
    omega (arith, mine (goal.at.offset_bounds-words-mine c).After-read_on-theirs)

pub bounds-words-mine : goal.bounds-words-mine
bounds-words-mine c = (mine (goal.at.bounds-words-mine c).After-read_on-theirs).1

pub offset_bounds-words-theirs : goal.offset_bounds-words-theirs
offset_bounds-words-theirs c =
    omega (arith, theirs (goal.at.offset_bounds-words-theirs c).After-read_on-theirs)

pub bounds-words-theirs : goal.bounds-words-theirs
bounds-words-theirs c = (theirs (goal.at.bounds-words-theirs c).After-read_on-theirs).1

pub offset_bounds-words-mine-2 : goal.offset_bounds-words-mine-2
offset_bounds-words-mine-2 c =
    omega (
      arith,
      c.merge_keys.auto.words,
      mine (goal.at.offset_bounds-words-mine-2 c).After-read_on-theirs,
    )

pub bounds-words-mine-2 : goal.bounds-words-mine-2
bounds-words-mine-2 c =
    rw c.merge_keys.auto.words (mine (goal.at.bounds-words-mine-2 c).After-read_on-theirs).1
