-- `fetch` is refused for its cause, or T is taken.
-- holds: a buffer in form, and the counts read from it. free, ready: in range.
-- Assumes nothing.
use mathlib.Core.Path.{◌≡◌, sym, ◌∙◌}
use mathlib.Core.Bool.{false}
use Prim.Native.Nat.{◌<◌, ◌^◌}
use native.Mathlib.Omega.{arith}
use Rattle.std.proofs.lemmas.Result.{err_from_is_err_and}
use Rattle.answers.specs.Refusals.{refusal_number}
use Rattle.answers.proofs.Refusals.{refusal_some}
use Rattle.masks.proofs.Sets.{mask_lt}
use Rattle.form.specs.Parts.{FormWith}
use Rattle.form.proofs.Known.{form-long, form-area}
use Rattle.caches.specs.Range.{out_of_range_of}
use Rattle.caches.proofs.Known.{inside, one-low}
use Rattle.caches.proofs.Fetches.{fetch-out, fetch-refused, fetch-done}
use Rattle.caches.proofs.fetch.Goals as goal
use Rattle.caches.proofs.fetch.Goals.{After-counts-z, Else-out_of_range}

holds : (c : After-counts-z) → FormWith c.args.words.now c.counts-z.result
holds c = record { form = c.requires; counts = c.counts-z.ensures }

free : (c : Else-out_of_range) → let a = c.args in
    out_of_range_of c.counts-z.result a.site a.key ≡ false
free c = sym c.out_of_range.ensures ∙ c.if-out_of_range.false

ready : (c : Else-out_of_range) → let z = c.counts-z.result in
    (c.args.site < z.sites) × (c.args.key < z.keys)
ready c = inside c.counts-z.result _ _ (sym c.out_of_range.ensures ∙ c.if-out_of_range.false)

pub counts-z-requires : goal.counts-z-requires
counts-z-requires c = form-long _ c.requires

pub returns-then-out_of_range : goal.returns-then-out_of_range
returns-then-out_of_range c =
    let r = fetch-out _ _ (holds (goal.at.returns-then-out_of_range c).After-counts-z) _ _
    (sym c.out_of_range.ensures ∙ c.if-out_of_range.true) in
    record { answers = r.0; leaves = r.1 }

pub with_item-wanted-requires : goal.with_item-wanted-requires
with_item-wanted-requires c =
    let H = holds (goal.at.with_item-wanted-requires c).After-counts-z in
    omega (
      arith,
      ready (goal.at.with_item-wanted-requires c).Else-out_of_range,
      (form-area _ _ H).ranged.keys-high,
    )

pub find_taken-taken-requires : goal.find_taken-taken-requires
find_taken-taken-requires c =
    let R = ready (goal.at.find_taken-taken-requires c).Else-out_of_range in
    record {
      form_with = (holds (goal.at.find_taken-taken-requires c).After-counts-z, R.0);
      start_bound = one-low _ _ _ R.1 c.with_item-wanted.ensures;
    }

pub taking_cause-requires : goal.taking_cause-requires
taking_cause-requires c =
    let low : c.find_taken-taken.result < 2 ^ c.counts-z.result.keys =
    rw c.find_taken-taken.ensures (mask_lt _ _ _ (omega arith)) in
    record {
      form_with = (
        holds (goal.at.taking_cause-requires c).After-counts-z,
        (ready (goal.at.taking_cause-requires c).Else-out_of_range).0,
      );
      asked_bound = (low, low);
    }

pub returns-in_err-taking_cause : goal.returns-in_err-taking_cause
returns-in_err-taking_cause c =
    let p = err_from_is_err_and c.from_residual.result c.from_residual.ensures.1 in
    let e = c.in_err-taking_cause.field-0.0 in
    let r = fetch-refused _ _ (holds (goal.at.returns-in_err-taking_cause c).After-counts-z) _ _
    (free (goal.at.returns-in_err-taking_cause c).Else-out_of_range) _ _
    c.with_item-wanted.ensures c.find_taken-taken.ensures (refusal_number e)
    c.in_err-taking_cause.ensures (refusal_some e) in
    rw (p.1, p.2) (record { answers = r.0; leaves = r.1 })

pub take_keys-requires : goal.take_keys-requires
take_keys-requires c = (
  holds (goal.at.take_keys-requires c).After-counts-z,
  (ready (goal.at.take_keys-requires c).Else-out_of_range).0,
)

pub returns : goal.returns
returns c =
    let r = fetch-done _ _ (holds (goal.at.returns c).After-counts-z) _ _
    (free (goal.at.returns c).Else-out_of_range) _ _ c.with_item-wanted.ensures
    c.find_taken-taken.ensures (sym c.in_ok-taking_cause.ensures) _ c.take_keys.ensures in
    record { answers = r.0; leaves = r.1 }
