-- `set_rows` sets each row of the mask. The loop's invariant: the rows passed are set.
-- Assumes nothing.
use mathlib.Core.Path.{◌≡◌, refl, ap, ◌∙◌}
use mathlib.Core.List.{List}
use Prim.Native.Nat.{ℕ}
use native.Mathlib.Omega.{arith}
use Rattle.words.specs.Numbers.{fold_below}
use Rattle.words.proofs.Numbers.{fold_more}
use Rattle.issue.proofs.Writers.{row_step, row-keys}
use Rattle.issue.proofs.past.set_rows.Goals as goal

pub loop-k-init : goal.loop-k-init
unfolding fold_below
loop-k-init c = (omega arith, refl, refl)

pub set_if-requires : goal.set_if-requires
set_if-requires c =
    record {
      writer_area = rw c.loop-k.invariant.1 c.requires.writer_area;
      w_lt_writers = (c.requires.w_lt_writers, omega arith);
    }

pub loop-k-preserved : goal.loop-k-preserved
loop-k-preserved c = (
  omega arith,
  c.set_if.auto.words ∙ c.loop-k.invariant.1,
  rw (fold_more, ← c.loop-k.invariant.2) c.set_if.ensures,
)

pub returns : goal.returns
returns c =
    let a = c.args in
    let e : c.loop-k.k ≡ a.z.keys = omega arith in
    let step : ℕ → List ℕ → List ℕ = row_step a.z a.at a.w a.mask a.new.0 in
    c.loop-k.invariant.2 ∙ ap (λ (n : ℕ). fold_below n step a.words.now) e
    ∙ row-keys a.z a.words.now a.at c.requires.writer_area.fits a.w a.mask a.new.0
    c.requires.w_lt_writers

pub shape_of-words : goal.shape_of-words
shape_of-words c = c.loop-k.invariant.1
