-- `lines::command_with` answers unread for a wrong count of numbers.
-- Assumes nothing.
use native.Mathlib.Omega.{arith}
use borrow.Author.Rules.{rules}
use mathlib.Core.Path.{sym, ◌∙◌}
use Rattle.lines.proofs.Calls.{asked_miscounted, asked-counted}
use Rattle.lines.proofs.command_with.Goals as goal

pub has_count-requires : goal.has_count-requires
has_count-requires c = search rules

pub returns-then-not-has_count : goal.returns-then-not-has_count
returns-then-not-has_count c =
    let s = c in
    let e = sym c.has_count.ensures ∙ c.if-not-has_count.true in
    record {
      numbers_value = asked_miscounted _ s.args.numbers.now s.args.n s.requires e;
      result_in_bounds = omega arith;
    }

pub command_of-requires : goal.command_of-requires
command_of-requires c =
    let e = sym c.has_count.ensures ∙ c.if-not-has_count.false in
    record {
      so = e;
      n_in_bounds = c.requires;
    }

pub returns : goal.returns
returns c =
    let b = c in
    let s = b in
    let e = sym b.has_count.ensures ∙ b.if-not-has_count.false in
    let w = c.command_of.ensures in
    record {
      numbers_value = w.numbers_value ∙ asked-counted _ s.args.numbers.now s.args.n s.requires e;
      result_in_bounds = w.result_in_bounds;
    }
