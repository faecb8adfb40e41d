-- `is_admissible` asks for what is left to ask of a store in form.
-- Assumes nothing.
-- The master stands behind the header.
use mathlib.Core.List.{List}
use Prim.Native.Nat.{ℕ}
use lib.ListN.{length}
use Rattle.sizes.specs.declared.Counts.{Counts}
use Rattle.sizes.specs.Bounds.{header_size, master_at}
use Rattle.version.specs.Places.{Area}
use Rattle.version.proofs.Stores.{master-area}
use Rattle.form.specs.Parts.{FormWith}
use Rattle.form.proofs.Known.{form-long, form-area}
use Rattle.admit.proofs.Small.{small-words}
use Rattle.admit.proofs.is_admissible.Goals as goal

master : (l : List ℕ) (z : Counts) → FormWith l z → Area (length l) z header_size
unfolding master_at
master l z H = let A = form-area l z H in master-area _ _ A.ranged A.fits

pub last_issue-last-requires : goal.last_issue-last-requires
last_issue-last-requires c = form-long _ c.requires.form

pub place_taken-requires : goal.place_taken-requires
place_taken-requires c =
    let H = c.requires in (master _ _ H, master _ _ H)

pub caches_taken-requires : goal.caches_taken-requires
caches_taken-requires c =
    let H = c.requires in (form-area _ _ H, master _ _ H)

pub snapshots_taken-requires : goal.snapshots_taken-requires
snapshots_taken-requires c =
    let H = c.requires in (H, master _ _ H)

pub pasts_covered-requires : goal.pasts_covered-requires
pasts_covered-requires c =
    let H = c.requires in (form-area _ _ H, master _ _ H)

pub own_counts-requires : goal.own_counts-requires
own_counts-requires c =
    let H = c.requires in (form-area _ _ H, master _ _ H)

pub returns : goal.returns
unfolding master_at
returns c =
    rw (
      c.own_counts.ensures,
      c.pasts_covered.ensures,
      c.snapshots_taken.ensures,
      c.caches_taken.ensures,
      c.place_taken.ensures,
      c.last_issue-last.ensures,
    )
    (small-words c.args.words.now c.args.z c.requires)
