-- `lines::later_command`: each arm is the call of its form, and no form has a higher number.
-- Assumes nothing.
use native.Mathlib.Omega.{arith}
use Prim.Native.Nat.{◌≤◌}
use lib.ListN.{length}
use Rattle.lines.specs.Grammar.{forms, form_at, calling}
use Rattle.lines.proofs.Tables.{in_table, not-past}
use Rattle.lines.proofs.later_command.Goals as goal

pub returns-in-9-clause-numbers_value : goal.returns-in-9-clause-numbers_value
unfolding calling form_at
returns-in-9-clause-numbers_value c = rw (
  c.in-9.is,
  c.number_at-a.ensures,
  c.number_at-b.ensures,
  c.number_at-c.ensures,
)

pub returns-in-10-clause-numbers_value : goal.returns-in-10-clause-numbers_value
unfolding calling form_at
returns-in-10-clause-numbers_value c = rw (c.in-10.is, c.number_at-a.ensures)

pub returns-in-11-clause-numbers_value : goal.returns-in-11-clause-numbers_value
unfolding calling form_at
returns-in-11-clause-numbers_value c = rw c.in-11.is

pub returns-in-12-clause-numbers_value : goal.returns-in-12-clause-numbers_value
unfolding calling form_at
returns-in-12-clause-numbers_value c = rw (
  c.in-12.is,
  c.number_at-a.ensures,
  c.number_at-b.ensures,
)

pub returns-in-13-clause-numbers_value : goal.returns-in-13-clause-numbers_value
unfolding calling form_at
returns-in-13-clause-numbers_value c = rw c.in-13.is

pub returns-in-14-clause-numbers_value : goal.returns-in-14-clause-numbers_value
unfolding calling form_at
returns-in-14-clause-numbers_value c = rw (
  c.in-14.is,
  c.number_at-a.ensures,
  c.number_at-b.ensures,
)

pub returns-in-15-clause-numbers_value : goal.returns-in-15-clause-numbers_value
unfolding calling form_at
returns-in-15-clause-numbers_value c = rw (
  c.in-15.is,
  c.number_at-a.ensures,
  c.number_at-b.ensures,
)

pub returns-in-16-clause-numbers_value : goal.returns-in-16-clause-numbers_value
unfolding calling form_at
returns-in-16-clause-numbers_value c = rw (c.in-16.is, c.number_at-a.ensures)

pub returns-in-17-clause-numbers_value : goal.returns-in-17-clause-numbers_value
unfolding calling form_at
returns-in-17-clause-numbers_value c = rw (c.in-17.is, c.number_at-a.ensures)

pub returns-in-18-clause-numbers_value : goal.returns-in-18-clause-numbers_value
unfolding calling form_at
returns-in-18-clause-numbers_value c = rw (c.in-18.is, c.number_at-a.ensures)

pub returns-in-19-clause-numbers_value : goal.returns-in-19-clause-numbers_value
unfolding calling form_at
returns-in-19-clause-numbers_value c = rw c.in-19.is

pub returns-in_default-clause-numbers_value : goal.returns-in_default-clause-numbers_value
returns-in_default-clause-numbers_value c =
    let h = c.requires.le_number in
    let past : length forms ≤ c.args.number = omega arith in
    absurd (not-past (in_table c.args.number c.args.n c.requires.so) past)
