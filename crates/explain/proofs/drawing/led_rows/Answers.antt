-- `led_rows` has a row for each key. The loop's invariant: those passed are stored.
-- Assumes nothing.
-- The row of a key.
use mathlib.Core.Path.{◌≡◌, refl, ap, ◌∙◌}
use mathlib.Core.List.{List}
use Prim.Native.Nat.{ℕ}
use native.Mathlib.Omega.{arith}
use native.Mathlib.Nat.{zero-add}
use lib.ListN.{length-set}
use Rattle.words.specs.Numbers.{when}
use Rattle.words.specs.Words.{put}
use Rattle.words.proofs.Words.{put-more}
use Rattle.masks.specs.Mask.{test_bit, mask_below}
use Rattle.paths.specs.Rows.{no_items_of}
use Rattle.sizes.specs.declared.Counts.{Counts}
use Rattle.sets.specs.declared.growth.Rule.{Rule}
use Rattle.sets.specs.Leads.{leads_to}
use Rattle.sets.proofs.Leads.{rule_ranged}
use Rattle.explain.proofs.drawing.led_rows.Goals as goal

abbrev row : List ℕ → Counts → Rule → ℕ → ℕ → ℕ → ℕ
row words z rule scope mask t =
    when (test_bit mask t) (mask_below z.keys (leads_to z words rule scope t))

pub loop-t-init : goal.loop-t-init
unfolding put no_items_of
loop-t-init c = (omega arith, refl, refl)

pub loop-t-preserved : goal.loop-t-preserved
loop-t-preserved c = (
  omega arith,
  length-set c.loop-t.rows c.loop-t.t c.led_if.result ∙ c.loop-t.invariant.1,
  rw (put-more, zero-add, ← c.loop-t.invariant.2, c.led_if.ensures),
)

pub returns : goal.returns
returns c =
    let a = c.args in
    let e : c.loop-t.t ≡ a.z.keys = omega arith in
    c.loop-t.invariant.2
    ∙ ap (λ (n : ℕ). put no_items_of 0 n
    (row a.words.now a.z a.rule a.scope a.mask)) e

pub offset_bounds-rows-t : goal.offset_bounds-rows-t
offset_bounds-rows-t c = omega (arith, rule_ranged _ _ _ c.requires)

pub bounds-rows-t : goal.bounds-rows-t
bounds-rows-t c = omega (arith, rule_ranged _ _ _ c.requires)
