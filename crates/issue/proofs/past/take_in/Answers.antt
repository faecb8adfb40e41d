-- `take_in` takes in each key of the mask. The loop's invariant: the keys passed are taken in.
-- Assumes nothing.
use mathlib.Core.Path.{◌≡◌, refl, ap, ◌∙◌}
use mathlib.Core.List.{List}
use Prim.Native.Nat.{ℕ}
use native.Mathlib.Omega.{arith}
use Rattle.words.specs.Numbers.{fold_below}
use Rattle.words.proofs.Numbers.{fold_more}
use Rattle.issue.proofs.Writers.{take_step, take-keys}
use Rattle.issue.proofs.past.take_in.Goals as goal

pub loop-k-init : goal.loop-k-init
unfolding fold_below
loop-k-init c = (omega arith, refl, refl)

pub take_if-requires : goal.take_if-requires
take_if-requires c =
    record {
      takes = rw c.loop-k.invariant.1 c.requires;
      k_lt_keys = omega arith;
    }

pub loop-k-preserved : goal.loop-k-preserved
loop-k-preserved c = (
  omega arith,
  c.take_if.auto.words ∙ c.loop-k.invariant.1,
  rw (fold_more, ← c.loop-k.invariant.2) c.take_if.ensures,
)

pub returns : goal.returns
returns c =
    let a = c.args in
    let e : c.loop-k.k ≡ a.z.keys = omega arith in
    let step : ℕ → List ℕ → List ℕ = take_step a.z a.at a.place a.read in
    c.loop-k.invariant.2 ∙ ap (λ (n : ℕ). fold_below n step a.words.now) e
    ∙ take-keys a.z a.words.now a.at (omega (arith, c.requires.apart, c.requires.fits))
    a.place a.read c.requires.apart

pub shape_of-words : goal.shape_of-words
shape_of-words c = c.loop-k.invariant.1
