-- `present_writers` has the writers with a count on one side.
-- Assumes nothing.
use Rattle.std.proofs.Common.{◌≡◌, ◌∙◌, sym, ℕ, ◌||◌, max, rules, arith}
use lib.Dec.{leb}
use Rattle.words.proofs.Bools.{test, leb-le, le-leb, leb-gt}
use Rattle.clock.specs.Clock.{clock_at, join}
use Rattle.version.proofs.merge.present_writers.Goals as goal

either : (x y : ℕ) → leb 1 x || leb 1 y ≡ leb 1 (max x y)
either x y =
    test (leb 1 x)
    (λ p. rw p (sym (le-leb 1 (max x y) (omega (arith, leb-le 1 x p)))))
    (λ n. let e : max x y ≡ y = omega (arith, leb-gt 1 x n) in rw (n, e))

pub returns : goal.returns
unfolding join clock_at
returns c =
    let a = c.args in
    c.mask_of.ensures (λ u. leb 1 (join (clock_at a.words.now a.p) (clock_at a.words.now a.q) u))
    (λ k b h q. search rules ∙ either _ _)
