-- `store_allowances` stores the allowance of each site.
-- The loop's invariant: those of the sites passed.
-- Assumes nothing.
-- Where site o and its allowance lie in a buffer of len words.
-- The allowance that is stored lies in the buffer.
use mathlib.Core.Path.{◌≡◌, refl, ap, ◌∙◌}
use mathlib.Core.List.{List}
use Prim.Native.Nat.{ℕ, ◌≤◌, ◌<◌}
use native.Mathlib.Omega.{arith}
use lib.ListN.{length, set, length-set}
use Rattle.words.specs.Numbers.{fold_below}
use Rattle.words.proofs.Numbers.{fold_more}
use Rattle.sizes.specs.declared.Counts.{Counts}
use Rattle.sizes.specs.Bounds.{Ranged, place_limit, version_limit, total_of, site_at, allowance_at}
use Rattle.sizes.proofs.Offsets.{ordered, site-lies, allowance-lies}
use Rattle.create.specs.Room.{allowances_put}
use Rattle.create.proofs.store_allowances.Goals as goal
use Rattle.create.proofs.store_allowances.Goals.{After-allowance_at-at}

lies : (len : ℕ) (z : Counts) (o : ℕ) → Ranged z → total_of z ≤ len → o < z.sites
    → (site_at z o < place_limit) × (allowance_at z (site_at z o) < len)
    × (allowance_at z (site_at z o) < version_limit)
lies len z o R f h =
    let q = ordered z R in
    let a = site-lies z o h in
    let b = allowance-lies z (site_at z o) in (omega arith, omega arith, omega arith)

here : (c : After-allowance_at-at) → let at = c.allowance_at-at.result in
    (at < length c.loop-o.words) × (at < version_limit)
here c =
    let a = c.args in
    let d = lies (length a.words.now) a.z c.loop-o.o c.requires.0 c.requires.1 (omega arith) in
    rw (c.allowance_at-at.ensures, c.site_at-site.ensures, c.loop-o.invariant.0) (d.1, d.2)

pub loop-o-init : goal.loop-o-init
unfolding fold_below
loop-o-init c = (refl, refl)

pub site_at-site-requires : goal.site_at-site-requires
site_at-site-requires c = record {
  ranged = c.requires.0;
  o_lt_sites = omega arith;
}

pub allowance_at-at-requires : goal.allowance_at-at-requires
allowance_at-at-requires c = record {
  ranged = c.requires.0;
  at_lt_place_limit = rw c.site_at-site.ensures
      (lies _ c.args.z c.loop-o.o c.requires.0 c.requires.1 (omega arith)).0;
}

pub loop-o-preserved : goal.loop-o-preserved
loop-o-preserved c =
    let z = c.args.z in (
      length-set c.loop-o.words c.allowance_at-at.result c.narrow-keys.result
          ∙ c.loop-o.invariant.0,
      rw (
        fold_more (λ (o : ℕ) (m : List ℕ). set m (allowance_at z (site_at z o)) z.keys)
            c.loop-o.o c.args.words.now,
        ← c.loop-o.invariant.1,
        c.allowance_at-at.ensures,
        c.site_at-site.ensures,
        c.narrow-keys.ensures,
      ),
    )

pub returns : goal.returns
returns c =
    let a = c.args in
    let e : c.loop-o.o ≡ a.z.sites = omega arith in
    c.loop-o.invariant.1 ∙ ap (λ (n : ℕ). allowances_put a.z n a.words.now) e

pub narrow-keys-requires : goal.narrow-keys-requires
narrow-keys-requires c = omega (arith, c.requires.0.keys-high)

pub offset_bounds-words-at : goal.offset_bounds-words-at
offset_bounds-words-at c =
    omega (arith, here (goal.at.offset_bounds-words-at c).After-allowance_at-at)

pub bounds-words-at : goal.bounds-words-at
bounds-words-at c = omega (arith, here (goal.at.bounds-words-at c).After-allowance_at-at)

pub shape_of-words : goal.shape_of-words
shape_of-words c = c.loop-o.invariant.0
