-- `audit`: unreadable, or judged by the first issue whose reads are no snapshot.
-- Assumes nothing.
-- The record is readable, and so its header is there.
use Rattle.std.proofs.Common.{arith, refl, sym, ◌∙◌, ◌≤◌, length}
use mathlib.Core.Bool.{So}
use Rattle.records.specs.Format.{writers_in, issues_in, readable}
use Rattle.records.proofs.Reading.{readable-is}
use Rattle.audit.proofs.Tested.{readable_of, answer-unread, answer-judged}
use Rattle.audit.proofs.audit.Goals as goal
use Rattle.audit.proofs.audit.Goals.{Else-not-readable}

read : (e : Else-not-readable) → So (readable e.args.words.now)
read e = sym e.readable.ensures ∙ e.if-not-readable.false

head : (e : Else-not-readable) → 7 ≤ length e.args.words.now
head e = ((readable-is _).0 (read e)).layout.header

pub returns-then-not-readable : goal.returns-then-not-readable
returns-then-not-readable c = answer-unread _ (sym c.readable.ensures ∙ c.if-not-readable.true)

pub bounds-words-1 : goal.bounds-words-1
bounds-words-1 c = omega (arith, head (goal.at.bounds-words-1 c).Else-not-readable)

pub bounds-words-2 : goal.bounds-words-2
bounds-words-2 c = omega (arith, head (goal.at.bounds-words-2 c).Else-not-readable)

pub first_unsound-requires : goal.first_unsound-requires
unfolding writers_in issues_in
first_unsound-requires c =
    readable_of _ _ _ refl refl (omega (arith, c.type_inv.words 2))
    (read (goal.at.first_unsound-requires c).Else-not-readable)

pub returns : goal.returns
returns c = answer-judged _ _ (read (goal.at.returns c).Else-not-readable) c.first_unsound.ensures
