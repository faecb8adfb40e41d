-- `site_sets` has T of each site. The loop's invariant: those passed are stored.
-- Assumes nothing.
-- The mask of a site.
use mathlib.Core.Path.{◌≡◌, refl, ap, ◌∙◌}
use mathlib.Core.List.{List}
use Prim.Native.Nat.{ℕ}
use native.Mathlib.Omega.{arith}
use native.Mathlib.Nat.{zero-add}
use lib.ListN.{length-set}
use Rattle.words.specs.Words.{put}
use Rattle.words.proofs.Words.{put-more}
use Rattle.masks.specs.Mask.{mask_below}
use Rattle.sizes.specs.declared.Counts.{Counts}
use Rattle.layout.specs.Reading.{store_of}
use Rattle.form.proofs.Known.{form-area}
use Rattle.prepare.specs.Turns.{no_sets, taken_at_of}
use Rattle.prepare.proofs.fetches.site_sets.Goals as goal

abbrev mask : List ℕ → Counts → ℕ → ℕ → ℕ
mask words z r o = mask_below z.keys (taken_at_of z (store_of words) r o)

pub loop-o-init : goal.loop-o-init
unfolding put no_sets
loop-o-init c = (omega arith, refl, refl)

pub loop-o-preserved : goal.loop-o-preserved
loop-o-preserved c = (
  omega arith,
  length-set c.loop-o.sets c.loop-o.o c.taken_at.result ∙ c.loop-o.invariant.1,
  rw (put-more, zero-add, ← c.loop-o.invariant.2, c.taken_at.ensures),
)

pub returns : goal.returns
returns c =
    let a = c.args in
    let e : c.loop-o.o ≡ a.z.sites = omega arith in
    c.loop-o.invariant.2 ∙ ap (λ (n : ℕ). put no_sets 0 n (mask a.words.now a.z a.r)) e

pub offset_bounds-sets-o : goal.offset_bounds-sets-o
offset_bounds-sets-o c = omega (arith, (form-area _ _ c.requires.form).ranged.sites-high)

pub bounds-sets-o : goal.bounds-sets-o
bounds-sets-o c = omega (arith, (form-area _ _ c.requires.form).ranged.sites-high)
