-- `print::print_unread` meets its contract. Assumes nothing.
use native.Mathlib.Omega.{arith}
use Rattle.print.specs.Print.{unread_text}
use Rattle.print.proofs.print_unread.Goals as goal

pub returns : goal.returns
unfolding unread_text
returns c = let e = c.put_bytes.ensures in record {
  out_after = e.1;
  upper_bound = omega arith;
}
