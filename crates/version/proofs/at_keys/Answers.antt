-- `at_keys` takes a step for each key of the mask. The loop's invariant: those passed are taken.
-- Assumes nothing.
use Rattle.std.proofs.Common.{◌≡◌, ◌∙◌, refl, sym, ap, cond, ℕ, List, Bool, true, false, arith}
use Rattle.words.specs.Numbers.{fold_below}
use Rattle.words.proofs.Numbers.{fold_more}
use Rattle.masks.specs.Mask.{test_bit}
use Rattle.version.proofs.at_keys.Goals as goal
use Rattle.version.proofs.at_keys.Goals.{then-has, else-has}

taken : (b : Bool) (l m n : List ℕ) → b ≡ true → l ≡ m → l ≡ cond b m n
taken b l m n e q = rw e q

passed : (b : Bool) (l m n : List ℕ) → b ≡ false → l ≡ n → l ≡ cond b m n
passed b l m n e q = rw e q

pub loop-k-init : goal.loop-k-init
unfolding fold_below
loop-k-init g c = λ f h. refl

pub loop-k-preserved : goal.loop-k-preserved
loop-k-preserved g c = λ f h.
    rw (fold_more, ← c.loop-k.invariant f h)
    (elim c.if-has.branch [
      | then-has w ↦
          taken _ _ _ _ (sym c.has.ensures ∙ w.if-has.true)
          (w.words-is ∙ h _ _ c.loop-k.k c.loop-k-test.true c.loop-k.auto.words w.step.ensures)
      | else-has w ↦ passed _ _ _ _ (sym c.has.ensures ∙ w.if-has.false) w.words-is
    ])

pub returns : goal.returns
returns g c = λ f h.
    let a = c.args in
    let e : c.loop-k.k ≡ a.keys = omega arith in
    c.loop-k.invariant f h
    ∙ ap (λ (n : ℕ). fold_below n (λ k m. cond (test_bit a.mask k) (f k m) m) a.words.now) e
