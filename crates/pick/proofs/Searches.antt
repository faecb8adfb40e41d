-- What a search through the numbers below n finds, as `if_below` says it.
-- below-some, below-none: of a number. below-found, below-missed, is-below: what was found.
-- first-below: of std's `find` over a range.
-- Assumes nothing.
use mathlib.Core.Path.{◌≡◌, sym}
use Prim.Native.Nat.{ℕ, ◌≤◌, ◌<◌}
use native.Mathlib.Omega.{arith}
use lib.Dec.{ltb}
use Rattle.std.specs.Prelude.{Option, Some, None}
use Rattle.std.specs.Option.{is_some}
use Rattle.std.proofs.lemmas.Option.{cond_some, none-some}
use Rattle.words.specs.Tests.{Items}
use Rattle.words.specs.Turns.{first_below_of}
use Rattle.words.proofs.Bools.{test, lt-ltb, ge-ltb, ltb-lt, ltb-ge}
use Rattle.words.proofs.Firsts.{first-is, first-none}
use Rattle.words.proofs.Ranges.{Found}
use Rattle.pick.specs.Answers.{if_below}

pub below-some : (n i : ℕ) → i < n → Some i ≡ if_below n i
unfolding if_below
below-some n i h = rw (lt-ltb i n h)

pub below-none : (n i : ℕ) → n ≤ i → None ≡ if_below n i
unfolding if_below
below-none n i h = rw (ge-ltb i n h)

pub below-found : (n k i : ℕ) → Some i ≡ if_below n k → (i ≡ k) × (k < n)
unfolding if_below
below-found n k i e = let p = cond_some (ltb k n) k i (sym e) in (sym p.1, ltb-lt k n p.0)

pub below-missed : (n k : ℕ) → None ≡ if_below n k → n ≤ k
unfolding if_below
below-missed n k e =
    test (ltb k n) (λ y. absurd (none-some k (rw y at e))) (λ y. ltb-ge k n y)

pub is-below : (n k : ℕ) → is_some (if_below n k) ≡ ltb k n
unfolding if_below
is-below n k = test (ltb k n) (λ y. rw y) (λ y. rw y)

pub first-below : (n : ℕ) (p : Items) (r : Option ℕ) → Found n p r
    → r ≡ if_below n (first_below_of n p)
first-below n p None h = rw (first-none n p h) (below-none n n (omega arith))
first-below n p (Some i) h = rw (first-is n p i h.0 h.1 h.2) (below-some n i h.0)
