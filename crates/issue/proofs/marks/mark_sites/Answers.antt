-- `mark_sites` sets the mark of each site. The loop's invariant: those of the sites passed.
-- Assumes nothing.
use mathlib.Core.Path.{◌≡◌, refl, ap, ◌∙◌}
use Prim.Native.Nat.{ℕ}
use native.Mathlib.Omega.{arith}
use Rattle.words.specs.Numbers.{fold_below}
use Rattle.words.proofs.Numbers.{fold_more}
use Rattle.sizes.specs.Bounds.{site_at}
use Rattle.version.proofs.Stores.{site-whole}
use Rattle.issue.specs.Saves.{mark_at}
use Rattle.issue.proofs.marks.mark_sites.Goals as goal

pub loop-o-init : goal.loop-o-init
unfolding fold_below
loop-o-init c = (omega arith, refl, refl)

pub site_at-site-requires : goal.site_at-site-requires
site_at-site-requires c =
    record {
      ranged = c.requires.1.ranged;
      o_lt_sites = omega arith;
    }

pub mark_site-requires : goal.mark_site-requires
mark_site-requires c =
    let A = c.requires.1 in
    rw c.loop-o.invariant.1
    (c.requires.0, rw c.site_at-site.ensures (site-whole _ _ A.ranged A.fits _ (omega arith)))

pub loop-o-preserved : goal.loop-o-preserved
loop-o-preserved c =
    let at : c.site_at-site.result ≡ site_at c.args.z c.loop-o.o =
    c.site_at-site.ensures in (
      omega arith,
      c.mark_site.auto.words ∙ c.loop-o.invariant.1,
      rw (fold_more, ← c.loop-o.invariant.2, ← at) c.mark_site.ensures,
    )

pub returns : goal.returns
returns c =
    let a = c.args in
    let e : c.loop-o.o ≡ a.z.sites = omega arith in
    c.loop-o.invariant.2 ∙ ap (λ (n : ℕ). fold_below n (mark_at a.z a.master) a.words.now) e

pub shape_of-words : goal.shape_of-words
shape_of-words c = c.loop-o.invariant.1
