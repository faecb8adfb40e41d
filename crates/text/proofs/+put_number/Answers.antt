-- `text::put_number` meets its contract: first the digits of the tenth part, then the last one.
-- Assumes nothing.
use mathlib.Core.Path.{◌∙◌}
use mathlib.Core.List.{[], ◌∷◌}
use native.Mathlib.Omega.{arith}
use Prim.Native.Nat.{◌+◌, ◌/◌, ◌%◌}
use lib.ListN.{take}
use Rattle.text.specs.Decimal.{decimal_of}
use Rattle.text.proofs.Puts.{put_both}
use Rattle.text.proofs.Decimals.{decimal-small, decimal-large, length-small, length-large}
use Rattle.text.proofs.+put_number.Goals as goal

pub put_byte-requires : goal.put_byte-requires
put_byte-requires t c =
    let e = length-small c.args.n c.if-n-lt10.true in
    let h = c.requires in omega arith

pub put_number-end-requires : goal.put_number-end-requires
put_number-end-requires t c =
    let e = length-large c.args.n c.if-n-lt10.false in
    let h = c.requires in (omega arith, omega arith)

pub put_byte-requires-else-n-lt10 : goal.put_byte-requires-else-n-lt10
put_byte-requires-else-n-lt10 t c =
    let e = length-large c.args.n c.if-n-lt10.false in
    let h = c.requires in
    let r = c.put_number-end.ensures.0 in
    let o = c.put_number-end.auto.out in omega arith

pub returns-then-n-lt10 : goal.returns-then-n-lt10
returns-then-n-lt10 t c =
    let p = c.put_byte.ensures in
    let n = c.args.n in (
      p.0 ∙ rw (length-small n c.if-n-lt10.true),
      rw (decimal-small n c.if-n-lt10.true) p.1,
    )

pub returns-else-n-lt10 : goal.returns-else-n-lt10
returns-else-n-lt10 t c =
    let p = c.put_byte-else-n-lt10.ensures in
    let q = c.put_number-end.ensures in
    let a = c.args in
    let e = length-large a.n c.if-n-lt10.false in
    let l = take a.at a.out.now in (
      omega (arith, p.0, q.0, e),
      rw (decimal-large a.n c.if-n-lt10.false)
          (put_both l (decimal_of (a.n / 10)) ((48 + a.n % 10) ∷ []) q.1 p.1),
    )
