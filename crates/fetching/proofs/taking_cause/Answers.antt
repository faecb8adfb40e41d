-- `taking_cause` tests the rows in their order.
-- Assumes nothing.
-- The rows by what is found.
use mathlib.Core.Path.{◌≡◌, sym, ◌∙◌}
use Rattle.model.specs.Outcome.{refuse}
use Rattle.layout.specs.Reading.{store_of}
use Rattle.fetching.specs.Takes.{takes_cause}
use Rattle.fetching.proofs.taking_cause.Goals as goal
use Rattle.fetching.proofs.taking_cause.Goals.{After-is_over-over}

tested : (c : After-is_over-over) → let n = c in
    let b = n in
    let a = b.args in
    takes_cause a.z (store_of a.words.now) a.o a.asked a.taken
    ≡ refuse b.is_barred-barred.result 13
    (refuse n.is_lacked-lacked.result 7 (refuse c.is_over-over.result 12 0))
unfolding takes_cause
tested c =
    let n = c in
    let b = n in
    rw (b.is_barred-barred.ensures, n.is_lacked-lacked.ensures, c.is_over-over.ensures)

pub returns-then-barred : goal.returns-then-barred
unfolding refuse
returns-then-barred c = sym (tested (goal.at.returns-then-barred c).After-is_over-over ∙ rw
    c.if-barred.true)

pub returns-then-lacked : goal.returns-then-lacked
unfolding refuse
returns-then-lacked c =
    let e = c in
    sym (tested (goal.at.returns-then-lacked c).After-is_over-over ∙ rw (
      e.if-barred.false,
      c.if-lacked.true,
    ))

pub returns-then-over : goal.returns-then-over
unfolding refuse
returns-then-over c =
    let f = c in
    let e = f in
    sym (tested (goal.at.returns-then-over c).After-is_over-over ∙ rw (
      e.if-barred.false,
      f.if-lacked.false,
      c.if-over.true,
    ))

pub returns : goal.returns
unfolding refuse
returns c =
    let f = c in
    let e = f in
    sym (tested (goal.at.returns c).After-is_over-over ∙ rw (
      e.if-barred.false,
      f.if-lacked.false,
      c.if-over.false,
    ))

pub is_barred-barred-requires : goal.is_barred-barred-requires
is_barred-barred-requires c = record {
  form_with = c.requires.form_with;
  asked_bound = c.requires.asked_bound.0;
}

pub is_lacked-lacked-requires : goal.is_lacked-lacked-requires
is_lacked-lacked-requires c = let s = c in record {
  form_with = s.requires.form_with.0;
  taken_bound = s.requires.asked_bound.1;
}

pub is_over-over-requires : goal.is_over-over-requires
is_over-over-requires c = c.requires.form_with
