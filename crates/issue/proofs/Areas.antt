-- Where a writer, a run's snapshot and the master lie in a buffer.
-- takes-area, saves-area: writer and place of a store. takes-writer, writer-first: the writer.
-- ..-room: words of a writer, and of key k.
-- Assumes nothing.
use mathlib.Core.Logic.{inl}
use Prim.Native.Nat.{ℕ, ◌+◌, ◌≤◌, ◌<◌}
use native.Mathlib.Omega.{arith}
use Rattle.words.specs.Words.{Apart}
use Rattle.sizes.specs.declared.Counts.{Counts}
use Rattle.sizes.specs.Bounds.{past_offset, writer_past_offset, past_size, version_size, writer_size, master_at, writer_at, snapshot_at, key_at, writer_row_at}
use Rattle.sizes.proofs.Offsets.{ordered, writer-lies, run_lies, snapshot-lies, key-lies, writer-row-lies}
use Rattle.version.specs.Places.{Merges}
use Rattle.form.specs.Parts.{StoreArea}
use Rattle.issue.specs.Saves.{WriterArea, Takes, Saves}

-- ---- where the parts lie

module _ (len : ℕ) (z : Counts) (A : StoreArea len z) where
  pub takes-area : (w r : ℕ) → w < z.writers → r < z.runs
      → Takes len z (writer_at z w) (snapshot_at z r 0)
  takes-area w r h i =
      let o = ordered z A.ranged in
      let x = writer-lies z w h in
      let a = run_lies z r i in
      let p = snapshot-lies z r 0 in
      let top = A.fits in
      record { ranged = A.ranged; low = omega arith; apart = omega arith; fits = omega arith }

  pub saves-area : (w : ℕ) → w < z.writers → Saves len z (master_at z) (writer_at z w)
  saves-area w h =
      let o = ordered z A.ranged in
      let x = writer-lies z w h in
      let top = A.fits in
      record { ranged = A.ranged; low = omega arith; apart = omega arith; fits = omega arith }

-- ---- the writer alone

pub takes-writer : (len : ℕ) (z : Counts) (at place : ℕ) → Takes len z at place
    → WriterArea len z at
takes-writer len z at place A =
    let a = A.apart in
    let b = A.fits in
    let c = A.low in
    record { ranged = A.ranged; low = omega arith; fits = omega arith }

pub writer-first : (len : ℕ) (z : Counts) (at : ℕ) → WriterArea len z at → at < len
unfolding writer_size
writer-first len z at A = omega (arith, A.fits)

-- ---- one key

-- The writer's past, and the past of key k of the place behind it.
pub take-room : (len : ℕ) (z : Counts) (at place k : ℕ) → Takes len z at place → k < z.keys
    → Apart len (at + writer_past_offset) (key_at z place k + past_offset) (past_size z)
unfolding version_size writer_size
take-room len z at place k A h =
    let v = key-lies z place k h in
    let a = A.apart in
    let b = A.fits in
    record { dst_in = omega arith; src_in = omega arith; apart = inl (omega arith) }

-- The version of key k of the place, and the past of the writer behind it.
pub save-room : (len : ℕ) (z : Counts) (place at k : ℕ) → Saves len z place at → k < z.keys
    → Merges len z (key_at z place k) (at + writer_past_offset)
unfolding version_size writer_size
save-room len z place at k A h =
    let v = key-lies z place k h in
    let a = A.apart in
    let b = A.fits in
    let c = A.low in
    record {
      ranged = A.ranged;
      low = omega arith;
      near = omega arith;
      target = omega arith;
      source = omega arith;
      apart = inl (omega arith);
    }

pub row_room : (len : ℕ) (z : Counts) (at k w : ℕ) → at + writer_size z ≤ len → k < z.keys
    → w < z.writers → writer_row_at z at k + w < len
row_room len z at k w a h i = omega (arith, (writer-row-lies z at k h).ends)
