-- `lines::command_of`: each arm is the call of its form.
-- Assumes nothing.
use native.Mathlib.Omega.{arith}
use mathlib.Core.Path.{ap}
use mathlib.Core.List.{List}
use mathlib.Core.Option.{some}
use Prim.Native.Nat.{ℕ}
use lib.ListN.{get_or, take}
use Rattle.model.specs.Calls.{open_run}
use Rattle.layout.specs.Calls.{on}
use Rattle.lines.specs.Grammar.{form_at, calling}
use Rattle.lines.proofs.Tables.{some_number, rest-first}
use Rattle.lines.proofs.command_of.Goals as goal

pub overflow_sub-result : goal.overflow_sub-result
overflow_sub-result c =
    let p = some_number c.in-1.is c.requires.so in omega (arith, p)

pub returns-in-0-clause-numbers_value : goal.returns-in-0-clause-numbers_value
unfolding calling form_at
returns-in-0-clause-numbers_value c = rw (
  c.in-0.is,
  c.number_at-a.ensures,
  c.number_at-b.ensures,
  c.number_at-c.ensures,
  c.number_at-d.ensures,
)

pub returns-in-1-clause-numbers_value : goal.returns-in-1-clause-numbers_value
unfolding calling form_at
returns-in-1-clause-numbers_value c =
    let p = some_number c.in-1.is c.requires.so in
    let r = rest-first c.args.numbers.now c.args.n p in
    let run = get_or (take c.args.n c.args.numbers.now) 0 0 in
    rw (c.in-1.is, c.number_at-a.ensures) (ap (λ (t : List ℕ). some (on (open_run run t))) r)

pub returns-in-1-clause-result_in_bounds : goal.returns-in-1-clause-result_in_bounds
returns-in-1-clause-result_in_bounds c =
    let p = some_number c.in-1.is c.requires.so in omega (arith, p, c.requires.n_in_bounds)

pub returns-in-2-clause-numbers_value : goal.returns-in-2-clause-numbers_value
unfolding calling form_at
returns-in-2-clause-numbers_value c = rw (c.in-2.is, c.number_at-a.ensures, c.number_at-b.ensures)

pub returns-in-3-clause-numbers_value : goal.returns-in-3-clause-numbers_value
unfolding calling form_at
returns-in-3-clause-numbers_value c = rw (c.in-3.is, c.number_at-a.ensures, c.number_at-b.ensures)

pub returns-in-4-clause-numbers_value : goal.returns-in-4-clause-numbers_value
unfolding calling form_at
returns-in-4-clause-numbers_value c = rw (c.in-4.is, c.number_at-a.ensures)

pub returns-in-5-clause-numbers_value : goal.returns-in-5-clause-numbers_value
unfolding calling form_at
returns-in-5-clause-numbers_value c = rw (
  c.in-5.is,
  c.number_at-a.ensures,
  c.number_at-b.ensures,
  c.number_at-c.ensures,
)

pub returns-in-6-clause-numbers_value : goal.returns-in-6-clause-numbers_value
unfolding calling form_at
returns-in-6-clause-numbers_value c = rw (
  c.in-6.is,
  c.number_at-a.ensures,
  c.number_at-b.ensures,
  c.number_at-c.ensures,
)

pub returns-in-7-clause-numbers_value : goal.returns-in-7-clause-numbers_value
unfolding calling form_at
returns-in-7-clause-numbers_value c = rw (c.in-7.is, c.number_at-a.ensures)

pub returns-in-8-clause-numbers_value : goal.returns-in-8-clause-numbers_value
unfolding calling form_at
returns-in-8-clause-numbers_value c = rw (
  c.in-8.is,
  c.number_at-a.ensures,
  c.number_at-b.ensures,
  c.number_at-c.ensures,
)
