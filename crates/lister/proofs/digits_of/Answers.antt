-- `lister::digits_of` stores a line's digits. Assumes nothing.
use native.Mathlib.Omega.{arith}
use lib.ListN.{length-set}
use Rattle.lister.proofs.Digits.{digits_1, digits_2, digits_3}
use Rattle.lister.proofs.digits_of.Goals as goal

pub returns-then-line-lt-CALLS : goal.returns-then-line-lt-CALLS
returns-then-line-lt-CALLS c =
    let a = c.args in
    record {
      result_nonzero = (omega arith, omega arith);
      digits_after = digits_1 a.digits.now a.line (omega arith) (omega arith);
    }

pub returns-then-line : goal.returns-then-line
returns-then-line c =
    let a = c.args in record {
      result_nonzero = (omega arith, omega arith);
      digits_after = digits_2 a.digits.now a.line (omega arith) (omega arith) (omega arith);
    }

pub returns : goal.returns
returns c =
    let a = c.args in record {
      result_nonzero = (omega arith, omega arith);
      digits_after = digits_3 a.digits.now a.line (omega arith) (omega arith) (omega arith);
    }

pub bounds-digits-1 : goal.bounds-digits-1
bounds-digits-1 c = simp length-set (omega arith)

pub bounds-digits-1-2 : goal.bounds-digits-1-2
bounds-digits-1-2 c = simp length-set (omega arith)
