-- `mask_of` has the items that pass. The loop's invariant: it has those passed.
-- Assumes nothing.
use Rattle.std.proofs.Common.{◌≡◌, ◌<◌, ℕ, Bool}
use Rattle.masks.specs.Mask.{mask_below}
use Rattle.masks.proofs.mask_of.Given as goal

abbrev pub invariant-loop-k : goal.invariant-loop-k
invariant-loop-k g l =
    (f : ℕ → Bool) → ((k : ℕ) (b : Bool) → k < l.n → goal.F-post g l.test k b → b ≡ f k)
    → l.mask ≡ mask_below l.k f
