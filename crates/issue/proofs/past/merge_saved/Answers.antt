-- `merge_saved` merges each key of the mask. The loop's invariant: the keys passed are merged.
-- Assumes nothing.
use mathlib.Core.Path.{◌≡◌, refl, ap₂, ◌∙◌}
use mathlib.Core.List.{List}
use Prim.Native.Nat.{ℕ, ◌^◌}
use native.Mathlib.Omega.{arith}
use Rattle.words.specs.Numbers.{fold_below}
use Rattle.words.proofs.Numbers.{fold_more}
use Rattle.masks.proofs.Bits.{shifted_one}
use Rattle.model.specs.Issue.{new_version}
use Rattle.issue.proofs.Masters.{save_step, save-keys}
use Rattle.issue.proofs.past.merge_saved.Goals as goal

pub loop-k-init : goal.loop-k-init
unfolding fold_below
loop-k-init c = (omega arith, refl, refl)

pub merge_if-requires : goal.merge_if-requires
merge_if-requires c =
    record {
      saves = rw c.loop-k.invariant.1 c.requires.saves;
      k_lt_keys = omega arith;
    }

pub loop-k-preserved : goal.loop-k-preserved
loop-k-preserved c = (
  omega arith,
  c.merge_if.auto.words ∙ c.loop-k.invariant.1,
  rw (fold_more, ← c.loop-k.invariant.2) c.merge_if.ensures,
)

pub returns : goal.returns
unfolding new_version
returns c =
    let a = c.args in
    let e : c.loop-k.k ≡ a.z.keys = omega arith in
    let one = shifted_one a.w 32 (omega (arith, c.requires.saves.ranged)) in
    let step : ℕ → ℕ → List ℕ → List ℕ =
    save_step a.z a.place a.at a.mask a.number.0 in
    c.loop-k.invariant.2 ∙ ap₂ (λ (n m : ℕ). fold_below n (step m) a.words.now) e one
    ∙ save-keys a.z a.words.now a.place a.at a.mask a.number.0 (2 ^ a.w)
    c.requires.saves

pub overflow_cast-leaders : goal.overflow_cast-leaders
overflow_cast-leaders c = omega (arith, c.requires.saves.ranged)

pub overflow_shl-leaders : goal.overflow_shl-leaders
overflow_shl-leaders c = omega (arith, c.requires.saves.ranged)

pub shape_of-words : goal.shape_of-words
shape_of-words c = c.loop-k.invariant.1
