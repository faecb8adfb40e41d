-- `every_key` is one less than a power of 64 bits, and fits a word.
-- Assumes nothing.
use Prim.Native.Nat.{◌≤◌, ◌^◌}
use native.Mathlib.Omega.{arith}
use lib.Pow.{pow_mono, pow_pos}
use Rattle.masks.proofs.Bits.{shifted_one}
use Rattle.sizes.specs.Bounds.{max_keys}
use Rattle.create.proofs.tail.every_key.Goals as goal

pub overflow_sub-result : goal.overflow_sub-result
overflow_sub-result c = rw (shifted_one c.args.keys 64 (omega arith)) (pow_pos c.args.keys)

pub overflow_cast-result : goal.overflow_cast-result
overflow_cast-result c =
    let top : 2 ^ c.args.keys ≤ 2 ^ max_keys = pow_mono c.requires in
    rw (shifted_one c.args.keys 64 (omega arith)) (omega (arith, top))

pub returns : goal.returns
returns c = rw (shifted_one c.args.keys 64 (omega arith))
