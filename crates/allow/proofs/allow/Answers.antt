-- `allow` is refused for its cause, or stores the allowance.
-- holds: a buffer in form, and the counts read from it. below: no cause, and so a site of the
-- store. area: where it lies. here: the allowance lies in the buffer.
-- Assumes nothing.
use mathlib.Core.Path.{refl, sym}
use Prim.Native.Nat.{◌<◌}
use native.Mathlib.Omega.{arith}
use lib.ListN.{length}
use Rattle.std.proofs.lemmas.Result.{err_from_is_err_and}
use Rattle.answers.specs.Refusals.{refusal_number}
use Rattle.answers.proofs.Refusals.{refusal_some}
use Rattle.sizes.specs.Bounds.{version_limit}
use Rattle.version.specs.Places.{SiteArea}
use Rattle.version.proofs.Areas.{allowance_in}
use Rattle.version.proofs.Stores.{site-whole}
use Rattle.form.specs.Parts.{FormWith}
use Rattle.form.proofs.Known.{form-long, form-area}
use Rattle.allow.proofs.Allows.{allow-below, allow-refused, allow-done}
use Rattle.allow.proofs.allow.Goals as goal
use Rattle.allow.proofs.allow.Goals.{After-allowance_at-at, After-counts-z, After-site_at-cache, In_ok-allow_cause}

holds : (c : After-counts-z) → FormWith c.args.words.now c.counts-z.result
holds c = record { form = c.requires; counts = c.counts-z.ensures }

below : (c : In_ok-allow_cause) → c.args.site < c.counts-z.result.sites
below c =
    let H : FormWith c.args.words.now c.counts-z.result =
    record { form = c.requires; counts = c.counts-z.ensures } in
    allow-below _ _ _ _ H (sym c.in_ok-allow_cause.ensures)

area : (c : After-site_at-cache)
    → SiteArea (length c.args.words.now) c.counts-z.result c.site_at-cache.result
area c =
    let H : FormWith c.args.words.now c.counts-z.result =
    record { form = c.requires; counts = c.counts-z.ensures } in
    let R = form-area _ _ H in
    rw c.site_at-cache.ensures
    (site-whole _ _ R.ranged R.fits _ (allow-below _ _ _ _ H (sym c.in_ok-allow_cause.ensures)))

here : (c : After-allowance_at-at) → let at = c.allowance_at-at.result in
    (at < version_limit) × (at < length c.args.words.now)
here c =
    let H : FormWith c.args.words.now c.counts-z.result =
    record { form = c.requires; counts = c.counts-z.ensures } in
    let R = form-area _ _ H in
    let low = allow-below _ _ _ _ H (sym c.in_ok-allow_cause.ensures) in
    rw (c.allowance_at-at.ensures, c.site_at-cache.ensures)
    (allowance_in _ _ _ (site-whole _ _ R.ranged R.fits _ low))

pub counts-z-requires : goal.counts-z-requires
counts-z-requires c = form-long _ c.requires

pub returns-in_err-allow_cause : goal.returns-in_err-allow_cause
returns-in_err-allow_cause c =
    let a = c.args in
    let p = err_from_is_err_and c.from_residual.result c.from_residual.ensures.1 in
    let e = c.in_err-allow_cause.field-0.0 in
    let r = allow-refused a.words.now a.site a.number (refusal_number e) c.requires
    c.in_err-allow_cause.ensures (refusal_some e) in
    rw (p.1, p.2) (record { answers = r.0; leaves = r.1 })

pub site_at-cache-requires : goal.site_at-cache-requires
site_at-cache-requires c = record {
  ranged = (form-area _ _ (holds (goal.at.site_at-cache-requires c).After-counts-z)).ranged;
  o_lt_sites = below (goal.at.site_at-cache-requires c).In_ok-allow_cause;
}

pub allowance_at-at-requires : goal.allowance_at-at-requires
allowance_at-at-requires c =
    let A = area (goal.at.allowance_at-at-requires c).After-site_at-cache in
    record { ranged = A.ranged; at_lt_place_limit = A.low }

pub offset_bounds-words-at : goal.offset_bounds-words-at
offset_bounds-words-at c =
    omega (arith, here (goal.at.offset_bounds-words-at c).After-allowance_at-at)

pub bounds-words-at : goal.bounds-words-at
bounds-words-at c = (here (goal.at.bounds-words-at c).After-allowance_at-at).1

pub returns : goal.returns
returns c =
    let r = allow-done _ _ _ _ (holds (goal.at.returns c).After-counts-z)
    (sym c.in_ok-allow_cause.ensures) _ _ _ c.site_at-cache.ensures
    c.allowance_at-at.ensures refl in
    record { answers = r.0; leaves = r.1 }
