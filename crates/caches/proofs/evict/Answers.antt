-- `evict` is refused for its cause, or clears E.
-- holds: a buffer in form, and the counts read from it. free, ready: in range. cache: the place
-- that may hold the key.
-- Assumes nothing.
use mathlib.Core.Path.{◌≡◌, sym, ◌∙◌}
use mathlib.Core.Bool.{false}
use Prim.Native.Nat.{◌<◌}
use native.Mathlib.Omega.{arith}
use lib.ListN.{length}
use Rattle.version.specs.Places.{Area}
use Rattle.version.proofs.Stores.{master-area, site-whole, site-area}
use Rattle.form.specs.Parts.{StoreArea, FormWith}
use Rattle.form.proofs.Known.{form-long, form-area, master-found}
use Rattle.caches.specs.Range.{out_of_range_of}
use Rattle.caches.proofs.Known.{inside, one-low}
use Rattle.caches.proofs.Evicts.{evict-out, evict-lacks, evict-done}
use Rattle.caches.proofs.evict.Goals as goal
use Rattle.caches.proofs.evict.Goals.{After-counts-z, After-site_at-at, Else-out_of_range}

holds : (c : After-counts-z) → FormWith c.args.words.now c.counts-z.result
holds c = record { form = c.requires; counts = c.counts-z.ensures }

free : (c : Else-out_of_range) → let a = c.args in
    out_of_range_of c.counts-z.result a.site a.key ≡ false
free c = sym c.out_of_range.ensures ∙ c.if-out_of_range.false

ready : (c : Else-out_of_range) → let z = c.counts-z.result in
    (c.args.site < z.sites) × (c.args.key < z.keys)
ready c = inside c.counts-z.result _ _ (sym c.out_of_range.ensures ∙ c.if-out_of_range.false)

area : (c : After-counts-z) → StoreArea (length c.args.words.now) c.counts-z.result
area c = form-area _ _ (holds c)

cache : (c : After-site_at-at)
    → Area (length c.args.words.now) c.counts-z.result c.site_at-at.result
cache c =
    let H : FormWith c.args.words.now c.counts-z.result =
    record { form = c.requires; counts = c.counts-z.ensures } in
    let A = form-area _ _ H in
    let none = sym c.out_of_range.ensures ∙ c.if-out_of_range.false in
    rw c.site_at-at.ensures
    (site-area _ _ A.ranged A.fits _ (inside c.counts-z.result _ _ none).0)

pub counts-z-requires : goal.counts-z-requires
counts-z-requires c = form-long _ c.requires

pub returns-then-out_of_range : goal.returns-then-out_of_range
returns-then-out_of_range c =
    let r = evict-out _ _ (holds (goal.at.returns-then-out_of_range c).After-counts-z) _ _
    (sym c.out_of_range.ensures ∙ c.if-out_of_range.true) in
    record { answers = r.0; leaves = r.1 }

pub site_at-at-requires : goal.site_at-at-requires
site_at-at-requires c = record {
  ranged = (area (goal.at.site_at-at-requires c).After-counts-z).ranged;
  o_lt_sites = (ready (goal.at.site_at-at-requires c).Else-out_of_range).0;
}

pub held-requires : goal.held-requires
held-requires c = record {
  area = cache (goal.at.held-requires c).After-site_at-at;
  k_lt_keys = (ready (goal.at.held-requires c).Else-out_of_range).1;
}

pub returns-then-not-held : goal.returns-then-not-held
returns-then-not-held c =
    let r = evict-lacks _ _ (holds (goal.at.returns-then-not-held c).After-counts-z) _ _ _
    c.site_at-at.ensures (free (goal.at.returns-then-not-held c).Else-out_of_range)
    (sym c.held.ensures ∙ c.if-not-held.true) in
    record { answers = r.0; leaves = r.1 }

pub areas-areas-requires : goal.areas-areas-requires
areas-areas-requires c = (area (goal.at.areas-areas-requires c).After-counts-z).ranged

pub with_item-unwanted-requires : goal.with_item-unwanted-requires
with_item-unwanted-requires c =
    omega (
      arith,
      ready (goal.at.with_item-unwanted-requires c).Else-out_of_range,
      (area (goal.at.with_item-unwanted-requires c).After-counts-z).ranged.keys-high,
    )

pub evict_keys-gone-requires : goal.evict_keys-gone-requires
evict_keys-gone-requires c =
    let A = area (goal.at.evict_keys-gone-requires c).After-counts-z in
    let R = ready (goal.at.evict_keys-gone-requires c).Else-out_of_range in
    record {
      area = (
        rw (master-found _ _ c.areas-areas.ensures) (master-area _ _ A.ranged A.fits),
        rw c.site_at-at.ensures (site-whole _ _ A.ranged A.fits _ R.0),
      );
      start_bound = one-low _ _ _ R.1 c.with_item-unwanted.ensures;
    }

pub returns : goal.returns
returns c =
    let r = evict-done _ _ (holds (goal.at.returns c).After-counts-z) _ _ _
    c.site_at-at.ensures (free (goal.at.returns c).Else-out_of_range)
    (sym c.held.ensures ∙ c.if-not-held.false) _ _ _ _
    (master-found _ _ c.areas-areas.ensures) c.with_item-unwanted.ensures
    c.evict_keys-gone.ensures.answers c.evict_keys-gone.ensures.leaves in
    record { answers = r.0; leaves = r.1 }
