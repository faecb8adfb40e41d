-- Where the words of the branches of run r stand in a buffer of len words.
-- read-index, mark-index: the read mask of branch n, and the mark. copy_apart: the two cards, to
-- copy the first to the second.
-- Assumes nothing.
use mathlib.Core.Logic.{inr}
use Prim.Native.Nat.{ℕ, ◌<◌}
use native.Mathlib.Omega.{arith}
use Rattle.words.specs.Words.{Apart}
use Rattle.sizes.specs.declared.Counts.{Counts}
use Rattle.sizes.specs.Bounds.{max_total, place_size, mark_at, read_at_of, snapshot_at}
use Rattle.sizes.proofs.Offsets.{ordered, run_lies, read-lies, branch-mark-lies}
use Rattle.version.proofs.Stores.{snapshot-area}
use Rattle.form.specs.Parts.{StoreArea}

module _ (len : ℕ) (z : Counts) (A : StoreArea len z) (r : ℕ) (h : r < z.runs) where
  pub read-index : (n : ℕ) → (read_at_of z r n < max_total) × (read_at_of z r n < len)
  read-index n =
      let q = ordered z A.ranged in
      let s = run_lies z r h in
      let t = read-lies z r n in
      (omega arith, omega (arith, A.fits))

  pub mark-index : (mark_at z r < max_total) × (mark_at z r < len)
  mark-index =
      let q = ordered z A.ranged in
      let s = run_lies z r h in
      let t = branch-mark-lies z r in
      (omega arith, omega (arith, A.fits))

  pub copy_apart : Apart len (snapshot_at z r 1) (snapshot_at z r 0) (place_size z)
  unfolding snapshot_at
  copy_apart = record {
    dst_in = (snapshot-area len z A.ranged A.fits r 1 h).fits;
    src_in = (snapshot-area len z A.ranged A.fits r 0 h).fits;
    apart = inr (omega arith);
  }
