-- `readable` makes the test of records, part by part.
-- Assumes nothing.
-- The layout fits, and so the header is there.
use Rattle.std.proofs.Common.{arith, refl, sym, ◌∙◌, ◌≤◌, ◌<◌, ◌^◌, length, get_or}
use mathlib.Core.Bool.{So}
use Rattle.records.specs.Format.{keys_in, writers_in, issues_in, layout_ok}
use Rattle.records.proofs.Reading.{layout_is}
use Rattle.audit.specs.Parts.{HeaderOf}
use Rattle.audit.proofs.Tested.{issues_ok, readable-unlaid, readable_unissued, readable-read, header_of, issues-of}
use Rattle.audit.proofs.readable.Goals as goal
use Rattle.audit.proofs.readable.Goals.{Else-not-issues_fit, Else-not-layout_fits}

laid : (e : Else-not-layout_fits) → So (layout_ok e.args.words.now)
laid e = sym e.layout_fits.ensures ∙ e.if-not-layout_fits.false

head : (e : Else-not-layout_fits) → 7 ≤ length e.args.words.now
head e = ((layout_is _).0 (laid e)).header

header : (e : Else-not-layout_fits) → get_or e.args.words.now 2 0 < 2 ^ 32
    → HeaderOf e.args.words.now (get_or e.args.words.now 1 0) (get_or e.args.words.now 2 0)
unfolding writers_in issues_in
header e few = header_of _ _ _ refl refl few (laid e)

issued : (c : Else-not-issues_fit) → So (issues_ok c.args.words.now (get_or c.args.words.now 2 0))
issued c = sym c.issues_fit.ensures ∙ c.if-not-issues_fit.false

pub returns-then-not-layout_fits : goal.returns-then-not-layout_fits
returns-then-not-layout_fits c =
    readable-unlaid _ (sym c.layout_fits.ensures ∙ c.if-not-layout_fits.true)

pub bounds-words-0 : goal.bounds-words-0
bounds-words-0 c = omega (arith, head (goal.at.bounds-words-0 c).Else-not-layout_fits)

pub bounds-words-1 : goal.bounds-words-1
bounds-words-1 c = omega (arith, head (goal.at.bounds-words-1 c).Else-not-layout_fits)

pub bounds-words-2 : goal.bounds-words-2
bounds-words-2 c = omega (arith, head (goal.at.bounds-words-2 c).Else-not-layout_fits)

pub issues_fit-requires : goal.issues_fit-requires
unfolding keys_in
issues_fit-requires c = (
  header (goal.at.issues_fit-requires c).Else-not-layout_fits (omega
      (arith, c.type_inv.words 2)),
  refl,
)

pub returns-then-not-issues_fit : goal.returns-then-not-issues_fit
unfolding issues_in
returns-then-not-issues_fit c =
    readable_unissued _ _ refl (laid (goal.at.returns-then-not-issues_fit
    c).Else-not-layout_fits)
    (sym c.issues_fit.ensures ∙ c.if-not-issues_fit.true)

pub reads_fit-requires : goal.reads_fit-requires
unfolding keys_in
reads_fit-requires c = (
  issues-of _ _ _ (header (goal.at.reads_fit-requires c).Else-not-layout_fits (omega
      (arith, c.type_inv.words 2)))
      (issued (goal.at.reads_fit-requires c).Else-not-issues_fit),
  refl,
)

pub returns : goal.returns
unfolding issues_in
returns c =
    c.reads_fit.ensures
    ∙ readable-read _ _ refl (laid (goal.at.returns c).Else-not-layout_fits)
    (issued (goal.at.returns c).Else-not-issues_fit)
