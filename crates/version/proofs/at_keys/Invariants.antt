-- `at_keys` takes a step for each key of the mask. The loop's invariant: those passed are taken.
-- Assumes nothing.
use Rattle.std.proofs.Common.{◌≡◌, cond, ℕ, List, ◌<◌, length}
use denote.Ref.{MutBor}
use Rattle.words.specs.Numbers.{fold_below}
use Rattle.masks.specs.Mask.{test_bit}
use Rattle.version.proofs.at_keys.Given as goal

abbrev pub invariant-loop-k : goal.invariant-loop-k
invariant-loop-k g l =
    (f : ℕ → List ℕ → List ℕ) → ((p q : MutBor (List ℕ)) (k : ℕ) → k < l.fn.keys
    → length p.now ≡ length l.fn.words → goal.F-post g l.step p k tt q → q.now ≡ f k p.now)
    → l.words ≡ fold_below l.k (λ k m. cond (test_bit l.fn.mask k) (f k m) m) l.fn.words
