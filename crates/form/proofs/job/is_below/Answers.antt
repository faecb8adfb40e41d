-- `is_below` compares a mask with a power of 64 bits, which is exact.
-- Assumes nothing.
use native.Mathlib.Omega.{arith}
use Rattle.masks.proofs.Bits.{shifted_one}
use Rattle.form.proofs.job.is_below.Goals as goal

pub returns : goal.returns
returns c = rw (shifted_one c.args.n 64 (omega arith))
