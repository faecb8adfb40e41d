-- What a walk over the reads of an issue meets, and what it makes of them.
-- read_of: read x, as a reader hands it out. InPlace: a step on what a reference holds.
-- Folds: n steps of a relation, one after the other.
-- Assumes nothing.
use Rattle.std.specs.Prelude.{◌≡◌, ℕ, zero, suc, ◌+◌}
use denote.Ref.{MutBor}
use Rattle.reader.specs.declared.Read.{Read}
use Rattle.records.specs.Format.{Record, writers_in, read_at_of, key_of}

abbrev pub read_of : Record → ℕ → Read
read_of b x = record {
  key = key_of b x;
  counts = read_at_of b x + 1;
  next = read_at_of b x + 1 + writers_in b;
}

-- A step on references, as a relation of what they hold before and after it.
pub record InPlace {T : Type 0} (P : MutBor T → MutBor T → Type 0) (t s : T) : Type 0 where
  pub from : MutBor T
  pub to : MutBor T
  pub before : from.now ≡ t
  pub step : P from to
  pub after : to.now ≡ s

-- Steps 0, 1 .. n - 1 of a relation lead from one value to another.
unfoldable pub Folds : {T : Type 0} → (ℕ → T → T → Type 0) → ℕ → T → T → Type 0
Folds R zero x y = x ≡ y
Folds {T} R (suc n) x y = (z : T) × Folds R n x z × R n z y
