-- What the laws of a client's own records speak of (CR 14).
-- OwnReads: an issue's reads are a snapshot. Written: an issue as it stands in a record.
-- Assumes nothing.
use mathlib.Core.Path.{◌≡◌}
use mathlib.Core.Bool.{So}
use Prim.Native.Nat.{ℕ, ◌<◌}
use Rattle.masks.specs.Mask.{mask_below}
use Rattle.model.specs.Version.{zero_past}
use Rattle.history.specs.History.{Issue, History}
use Rattle.history.specs.Copies.{held_copy, meets_copy}
use Rattle.history.proofs.Notions.{Good}
use Rattle.history.proofs.Tally as tallies
use Rattle.records.specs.Format.{Record, keys_in, writers_in, writer_at, mask_at, first_at, key_of, clock_of, ReadOf, reads_before}

-- What the run of an issue on top of h had read are copies, a snapshot of those that it read, and
-- nothing that was admitted (CR 6).
pub record OwnReads (K : ℕ) (h : History) (e : Issue) : Type 0 where
  pub good : (d : ℕ) → d < K → Good K h d (e.read d)
  pub meets : (d c : ℕ) → d < K → c < K → So (held_copy K h (e.read d))
      → So (held_copy K h (e.read c)) → So (meets_copy K h d (e.read d) (e.read c))
  pub rows : e.rows ≡ zero_past

-- Issue n of the record is e: a read for each sheet that it had read, rising, with its own row.
pub record Written (b : Record) (n : ℕ) (h : History) (e : Issue) : Type 0 where
  pub writer : writer_at b n ≡ e.writer
  pub mask : mask_at b n ≡ mask_below (keys_in b) e.keys
  pub first : first_at b n ≡ reads_before b n
  pub held : (x : ℕ) → ReadOf b n x
      → (key_of b x < keys_in b) × So (held_copy (keys_in b) h (e.read (key_of b x)))
  pub every : (d : ℕ) → d < keys_in b → So (held_copy (keys_in b) h (e.read d))
      → (x : ℕ) × ReadOf b n x × (key_of b x ≡ d)
  pub rising : (x y : ℕ) → ReadOf b n x → ReadOf b n y → x < y → key_of b x < key_of b y
  pub counts : (x : ℕ) → ReadOf b n x → (u : ℕ) → u < writers_in b
      → clock_of b x u ≡ tallies.tally (keys_in b) h (e.read (key_of b x)) u
