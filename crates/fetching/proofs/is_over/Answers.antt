-- `is_over` compares the allowance with what would be held.
-- Assumes nothing.
-- Where the site lies.
-- Its allowance lies in the buffer.
use Prim.Native.Nat.{◌<◌}
use native.Mathlib.Omega.{arith}
use lib.ListN.{length}
use Rattle.sizes.specs.Bounds.{version_limit}
use Rattle.version.specs.Places.{SiteArea}
use Rattle.version.proofs.Areas.{site-cache, allowance_in}
use Rattle.version.proofs.Stores.{site-whole}
use Rattle.form.proofs.Known.{form-area}
use Rattle.fetching.proofs.Taking.{over-read}
use Rattle.fetching.proofs.is_over.Goals as goal
use Rattle.fetching.proofs.is_over.Goals.{After-allowance_at-at, After-site_at-cache}

area : (c : After-site_at-cache) → let a = c.args in
    SiteArea (length a.words.now) a.z c.site_at-cache.result
area c =
    let s = c in
    let a = s.args in
    let R = form-area a.words.now a.z s.requires.0 in
    rw c.site_at-cache.ensures
    (site-whole (length a.words.now) a.z R.ranged R.fits a.o s.requires.1)

here : (c : After-allowance_at-at) → let a = c.args in
    (c.allowance_at-at.result < version_limit) × (c.allowance_at-at.result < length a.words.now)
here c = rw c.allowance_at-at.ensures (allowance_in _ _ _ ((let it : let a = c.args in
    SiteArea (length a.words.now) a.z c.site_at-cache.result = let s = c in
    let a = s.args in
    let R = form-area a.words.now a.z s.requires.0 in
    rw c.site_at-cache.ensures
    (site-whole (length a.words.now) a.z R.ranged R.fits a.o s.requires.1) in it)))

pub site_at-cache-requires : goal.site_at-cache-requires
site_at-cache-requires c = let s = c in record {
  ranged = (form-area _ _ s.requires.0).ranged;
  o_lt_sites = s.requires.1;
}

pub returns : goal.returns
returns c =
    let n = c in
    let w = n in
    let t = w in
    let s = t in
    let a = s.args in
    over-read a.words.now a.z s.requires.0 a.o s.requires.1 t.site_at-cache.result
    w.allowance_at-at.result n.count_with-count.result a.taken t.site_at-cache.ensures
    w.allowance_at-at.ensures n.count_with-count.ensures

pub allowance_at-at-requires : goal.allowance_at-at-requires
allowance_at-at-requires c = let A = area (goal.at.allowance_at-at-requires c).After-site_at-cache
    in record {
      ranged = A.ranged;
      at_lt_place_limit = A.low;
    }

pub count_with-count-requires : goal.count_with-count-requires
count_with-count-requires c = site-cache _ _ _ (area
    (goal.at.count_with-count-requires c).After-site_at-cache)

pub offset_bounds-words-at : goal.offset_bounds-words-at
offset_bounds-words-at c = omega (
  arith,
  here (goal.at.offset_bounds-words-at
      c).After-allowance_at-at,
)

pub bounds-words-at : goal.bounds-words-at
bounds-words-at c = (here (goal.at.bounds-words-at c).After-allowance_at-at).1
