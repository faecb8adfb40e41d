-- `moved_of` asks for the keys that both cards in place would move.
-- Assumes nothing.
-- Where the two read masks stand.
use mathlib.Core.Path.{◌∙◌}
use Prim.Native.Nat.{◌<◌}
use native.Mathlib.Omega.{arith}
use lib.ListN.{length}
use Rattle.sizes.specs.Bounds.{max_total}
use Rattle.version.proofs.Stores.{snapshot-area}
use Rattle.form.proofs.Known.{form-area}
use Rattle.fork.proofs.Indices.{read-index}
use Rattle.fork.proofs.Stores.{read_held, moved_at}
use Rattle.fork.proofs.moved_of.Goals as goal
use Rattle.fork.proofs.moved_of.Goals.{After-read_on-theirs}

mine : (c : After-read_on-theirs) → let a = c.args in
    (c.read_on-mine.result < max_total) × (c.read_on-mine.result < length a.words.now)
mine c =
    rw c.read_on-mine.ensures (read-index _ _ (form-area _ _ c.requires.form_with) _
    c.requires.r_lt_runs 0)

theirs : (c : After-read_on-theirs) → let a = c.args in
    (c.read_on-theirs.result < max_total) × (c.read_on-theirs.result < length a.words.now)
theirs c =
    rw c.read_on-theirs.ensures (read-index _ _ (form-area _ _ c.requires.form_with) _
    c.requires.r_lt_runs 1)

pub snapshot_on-first-requires : goal.snapshot_on-first-requires
snapshot_on-first-requires c = record {
  ranged = (form-area _ _ c.requires.form_with).ranged;
  r_lt_runs = c.requires.r_lt_runs;
}

pub snapshot_on-second-requires : goal.snapshot_on-second-requires
snapshot_on-second-requires c = record {
  ranged = (form-area _ _ c.requires.form_with).ranged;
  r_lt_runs = c.requires.r_lt_runs;
}

pub read_on-mine-requires : goal.read_on-mine-requires
read_on-mine-requires c = record {
  ranged = (form-area _ _ c.requires.form_with).ranged;
  r_lt_runs = c.requires.r_lt_runs;
}

pub read_on-theirs-requires : goal.read_on-theirs-requires
read_on-theirs-requires c = record {
  ranged = (form-area _ _ c.requires.form_with).ranged;
  r_lt_runs = c.requires.r_lt_runs;
}

pub moved_keys-requires : goal.moved_keys-requires
moved_keys-requires c =
    let a = c.args in
    let A = form-area a.words.now a.z c.requires.form_with in
    let area = snapshot-area (length a.words.now) a.z A.ranged A.fits a.r in
    rw (c.read_on-mine.ensures, c.snapshot_on-second.ensures, c.snapshot_on-first.ensures) record {
      area = (area 0 c.requires.r_lt_runs, area 1 c.requires.r_lt_runs);
      read_held = read_held a.words.now a.z a.r c.requires.form_with c.requires.r_lt_runs 0;
    }

pub returns : goal.returns
returns c =
    let a = c.args in
    c.moved_keys.ensures
    ∙ moved_at a.words.now a.z a.r c.requires.form_with c.requires.r_lt_runs _ _
    c.read_on-mine.result
    c.read_on-theirs.result c.snapshot_on-first.ensures c.snapshot_on-second.ensures
    c.read_on-mine.ensures c.read_on-theirs.ensures

pub offset_bounds-words-mine : goal.offset_bounds-words-mine
offset_bounds-words-mine c =
    omega (arith, mine (goal.at.offset_bounds-words-mine c).After-read_on-theirs)

pub bounds-words-mine : goal.bounds-words-mine
bounds-words-mine c = (mine (goal.at.bounds-words-mine c).After-read_on-theirs).1

pub offset_bounds-words-theirs : goal.offset_bounds-words-theirs
offset_bounds-words-theirs c =
    omega (arith, theirs (goal.at.offset_bounds-words-theirs c).After-read_on-theirs)

pub bounds-words-theirs : goal.bounds-words-theirs
bounds-words-theirs c = (theirs (goal.at.bounds-words-theirs c).After-read_on-theirs).1
