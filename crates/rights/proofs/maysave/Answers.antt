-- `maysave` is refused out of range, or stores the mask.
-- holds: a buffer in form, and the counts read from it. free, below: in range. here: the mask lies
-- in the buffer.
-- Assumes nothing.
use mathlib.Core.Path.{◌≡◌, sym, ◌∙◌}
use mathlib.Core.Bool.{false, ◌||◌}
use Prim.Native.Nat.{◌^◌, ◌<◌}
use native.Mathlib.Omega.{arith}
use lib.Dec.{leb}
use lib.ListN.{length}
use Rattle.sizes.specs.Bounds.{version_limit}
use Rattle.form.specs.Parts.{FormWith}
use Rattle.form.proofs.Known.{form-long, form-area}
use Rattle.form.proofs.Stores.{save_in}
use Rattle.rights.proofs.Rights.{right-inside, maysave-out, maysave-done}
use Rattle.rights.proofs.maysave.Goals as goal
use Rattle.rights.proofs.maysave.Goals.{After-counts-z, After-may_save_at-at, Else-out_of_range}

holds : (c : After-counts-z) → FormWith c.args.words.now c.counts-z.result
holds c = record { form = c.requires; counts = c.counts-z.ensures }

free : (c : Else-out_of_range) → let a = c.args in
    let z = c.counts-z.result in
    leb z.writers a.writer || leb (2 ^ z.keys) a.mask ≡ false
free c = sym c.out_of_range.ensures ∙ c.if-out_of_range.false

below : (c : Else-out_of_range) → c.args.writer < c.counts-z.result.writers
below c =
    let z = c.counts-z.result in
    right-inside z.writers _ (2 ^ z.keys) _ (sym c.out_of_range.ensures ∙ c.if-out_of_range.false)

here : (c : After-may_save_at-at) → let at = c.may_save_at-at.result in
    (at < version_limit) × (at < length c.args.words.now)
here c =
    let z = c.counts-z.result in
    let H : FormWith c.args.words.now z =
    record { form = c.requires; counts = c.counts-z.ensures } in
    let none = sym c.out_of_range.ensures ∙ c.if-out_of_range.false in
    rw c.may_save_at-at.ensures
    (save_in _ _ (form-area _ _ H) _ (right-inside z.writers _ (2 ^ z.keys) _ none))

pub counts-z-requires : goal.counts-z-requires
counts-z-requires c = form-long _ c.requires

pub out_of_range-requires : goal.out_of_range-requires
out_of_range-requires c =
    (form-area _ _ (holds (goal.at.out_of_range-requires c).After-counts-z)).ranged

pub returns-then-out_of_range : goal.returns-then-out_of_range
returns-then-out_of_range c =
    let r = maysave-out _ _ (holds (goal.at.returns-then-out_of_range c).After-counts-z) _ _
    (sym c.out_of_range.ensures ∙ c.if-out_of_range.true) in
    record { answers = r.0; leaves = r.1 }

pub may_save_at-at-requires : goal.may_save_at-at-requires
may_save_at-at-requires c = record {
  ranged = (form-area _ _ (holds (goal.at.may_save_at-at-requires c).After-counts-z)).ranged;
  w_lt_writers = below (goal.at.may_save_at-at-requires c).Else-out_of_range;
}

pub returns : goal.returns
returns c =
    let r = maysave-done _ _ (holds (goal.at.returns c).After-counts-z) _ _
    (free (goal.at.returns c).Else-out_of_range) _ c.may_save_at-at.ensures in
    record { answers = r.0; leaves = r.1 }

pub offset_bounds-words-at : goal.offset_bounds-words-at
offset_bounds-words-at c =
    omega (arith, here (goal.at.offset_bounds-words-at c).After-may_save_at-at)

pub bounds-words-at : goal.bounds-words-at
bounds-words-at c = (here (goal.at.bounds-words-at c).After-may_save_at-at).1
