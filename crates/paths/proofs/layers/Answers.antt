-- `layers` has each layer, from the goal on. The loop's invariant: those passed are stored.
-- Assumes nothing.
use mathlib.Core.Path.{◌≡◌, refl, sym, ap, ◌∙◌}
use Prim.Native.Nat.{ℕ}
use native.Mathlib.Omega.{arith}
use native.Mathlib.Nat.{zero-add}
use lib.ListN.{length-set}
use Rattle.words.specs.Words.{put}
use Rattle.words.proofs.Words.{put-more}
use Rattle.masks.specs.Mask.{test_bit, mask_below}
use Rattle.paths.specs.Path.{near}
use Rattle.paths.specs.Rows.{leads_by, layer, no_items_of}
use Rattle.paths.proofs.Rows.{layer-first, layer-low, layer-more}
use Rattle.paths.proofs.layers.Goals as goal

pub loop-m-init : goal.loop-m-init
unfolding put no_items_of
loop-m-init c =
    let s = c in
    let a = s.args in
    (omega arith, refl, refl, sym (layer-first a.rows.now a.n a.goal s.requires.1))

pub leading_to-mask-requires : goal.leading_to-mask-requires
leading_to-mask-requires c =
    let l = c in
    let s = l in
    let a = s.args in
    (s.requires.0, rw l.loop-m.invariant.3 (layer-low a.rows.now a.n a.goal l.loop-m.m))

pub loop-m-preserved : goal.loop-m-preserved
loop-m-preserved c =
    let l = c in
    let a = l.args in (
      omega arith,
      length-set l.loop-m.masks l.loop-m.m l.loop-m.mask ∙ l.loop-m.invariant.1,
      rw (put-more, zero-add, ← l.loop-m.invariant.2, ← l.loop-m.invariant.3),
      c.leading_to-mask.ensures
          ∙ ap (λ (x : ℕ). mask_below a.n (near a.n (leads_by a.rows.now) (test_bit x) 1))
          l.loop-m.invariant.3
          ∙ layer-more a.rows.now a.n a.goal l.loop-m.m,
    )

pub returns : goal.returns
returns c =
    let l = c in
    let a = l.args in
    let e : l.loop-m.m ≡ a.n = omega arith in
    l.loop-m.invariant.2 ∙ ap (λ (m : ℕ). put no_items_of 0 m (layer a.rows.now a.n a.goal)) e
