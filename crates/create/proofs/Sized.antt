-- Sizes of counts in range, and the room that a buffer without a cause has.
-- total-is, tail-is: the total of some sizes, and where the tail begins.
-- room, same-room: what holds if new has no cause.
-- Assumes nothing.
use mathlib.Core.Path.{◌≡◌, refl, ap}
use mathlib.Core.List.{List}
use Prim.Native.Nat.{ℕ}
use native.Mathlib.Omega.{arith}
use lib.Dec.{leb}
use lib.ListN.{length}
use Rattle.words.proofs.Bools.{leb-le}
use Rattle.sizes.specs.declared.Counts.{Counts}
use Rattle.sizes.specs.declared.Sizes.{Sizes}
use Rattle.sizes.specs.Bounds.{ranged, sizes_of, tail_at, total_of}
use Rattle.sizes.proofs.Offsets.{ranged-out, ordered}
use Rattle.layout.specs.Calls.{new_cause}
use Rattle.model.proofs.Outcomes.{no-lack}
use Rattle.create.specs.Room.{Room}

pub total-is : (z : Counts) (at : Sizes) → at ≡ sizes_of z → at.total ≡ total_of z
unfolding sizes_of
total-is z at e = ap (λ (s : Sizes). s.total) e

pub tail-is : (z : Counts) (at : Sizes) → at ≡ sizes_of z → at.tail ≡ tail_at z
unfolding sizes_of
tail-is z at e = ap (λ (s : Sizes). s.tail) e

pub room : (l : List ℕ) (z : Counts) → new_cause l z ≡ 0 → Room (length l) z (sizes_of z)
unfolding new_cause sizes_of
room l z e =
    let a = no-lack (ranged z) 2 _ (omega arith) e in
    let b = no-lack (leb (total_of z) (length l)) 1 0 (omega arith) a.1 in
    let o = ordered z (ranged-out z a.0) in
    record {
      counts = ranged-out z a.0;
      sizes = refl;
      master_in = omega arith;
      sites_in = omega arith;
      writers_in_of = omega arith;
      runs_in_of = omega arith;
      tail_in = omega arith;
      total_in_of = omega arith;
      top = o.top;
      fits = leb-le (total_of z) (length l) b.0;
    }

-- The same room in another buffer of that length.
pub same-room : (m n : ℕ) (z : Counts) (at : Sizes) → Room m z at → m ≡ n → Room n z at
same-room m n z at R e = rw (← e) R
