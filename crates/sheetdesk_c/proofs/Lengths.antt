-- The answers of the exported calls on clocks, by cases of the lengths.
-- clock-at: a count of a lent clock. one-length: of clocks that are alike.
-- compared-.., covers-..: clocks that aren't alike, and others. merged-..: the same for a merge.
-- Assumes nothing.
use mathlib.Core.Path.{◌≡◌, refl, ◌∙◌}
use mathlib.Core.Bool.{Bool, true, false, So}
use mathlib.Core.List.{List}
use Prim.Native.Nat.{ℕ, ◌+◌}
use native.Mathlib.Omega.{arith}
use lib.Dec.{eqb, leb}
use lib.ListN.{length, get_or}
use Rattle.std.specs.Int.{from_bool}
use Rattle.words.specs.Numbers.{when}
use Rattle.words.specs.Words.{put}
use Rattle.words.proofs.Bools.{and_left, eqb-eq}
use Rattle.sizes.specs.Bounds.{max_writers}
use Rattle.clock.specs.declared.Standing.{Standing}
use Rattle.clock.specs.Clock.{standing, standing_number, covering, dominates, join, clock_at}
use Rattle.sheetdesk_c.specs.Pairs.{alike, compared, covers, together, merged}

pub clock-at : (l : List ℕ) (w : ℕ) → clock_at l 0 w ≡ get_or l w 0
unfolding clock_at
clock-at l w =
    let e : 0 + w ≡ w = omega arith in
    rw e

pub one-length : (p q : List ℕ) → So (alike p q) → length p ≡ length q
unfolding alike
one-length p q y =
    eqb-eq _ _ (and_left (eqb (length p) (length q)) (leb (length p) max_writers) y)

pub compared-no : (p q : List ℕ) → alike p q ≡ false → 4 ≡ compared p q
unfolding compared
compared-no p q n = rw n

pub compared-done : (p q : List ℕ) (s : Standing) → So (alike p q)
    → s ≡ standing (length p) (clock_at p 0) (clock_at q 0) → standing_number s ≡ compared p q
unfolding compared
compared-done p q s y d = rw (y, ← d)

pub covers-no : (p q : List ℕ) → alike p q ≡ false → 2 ≡ covers p q
unfolding covers
covers-no p q n = rw n

from-when : (b : Bool) → from_bool b ≡ when b 1
unfolding when
from-when true = refl
from-when false = refl

pub covers-test : (p q : List ℕ) (b : Bool) (s : Standing) → So (alike p q) → b ≡ covering s
    → s ≡ standing (length p) (clock_at p 0) (clock_at q 0) → from_bool b ≡ covers p q
unfolding covers dominates
covers-test p q b s y e d = from-when b ∙ rw (y, ← d, e)

pub merged-no : (t s : List ℕ) → alike t s ≡ false → (0 ≡ together t s) × (t ≡ merged t s)
unfolding together merged when
merged-no t s n = rw n (refl, refl)

pub merged-done : (t s m : List ℕ) (n : ℕ) → So (alike t s) → n ≡ length s
    → m ≡ put t 0 n (join (clock_at t 0) (clock_at s 0)) → (1 ≡ together t s) × (m ≡ merged t s)
unfolding together merged when
merged-done t s m n y e d =
    let k : n ≡ length t = omega (arith, e, one-length t s y) in
    rw y (refl, rw (← k) d)
