-- What derived operators answer of a type of one number: `x > y`, `x < y`, `x.max(y)`.
-- cmp-gt, cmp-lt: the facts of `gt` and `lt`. max-by: that of `max`.
-- Assumes nothing.
use mathlib.Core.Path.{◌≡◌}
use Prim.Native.Nat.{ℕ, max}
use native.Mathlib.Omega.{arith}
use lib.Dec.{ltb}
use Rattle.std.specs.Ordering.{is_gt, is_lt, nat_cmp, ord_max}
use Rattle.words.proofs.Bools.{test, ltb-lt, ltb-ge}
use Rattle.std.proofs.lemmas.Bool.Decides.{nat_tests}

pub cmp-gt : (a b : ℕ) → is_gt (nat_cmp a b) ≡ ltb b a
cmp-gt a b = grind (arith, nat_tests)

pub cmp-lt : (a b : ℕ) → is_lt (nat_cmp a b) ≡ ltb a b
cmp-lt a b = grind (arith, nat_tests)

-- The larger of two values that are compared by a number of each.
pub max-by : {K : Type 0} (f : K → ℕ) (x y : K)
    → f (ord_max (λ x y. nat_cmp (f x) (f y)) x y) ≡ max (f x) (f y)
max-by f x y =
    test (ltb (f y) (f x))
    (λ p. rw (cmp-lt (f y) (f x), p) (let l = ltb-lt (f y) (f x) p in omega arith))
    (λ p. rw (cmp-lt (f y) (f x), p) (let l = ltb-ge (f y) (f x) p in omega arith))
