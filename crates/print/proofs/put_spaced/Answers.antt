-- `print::put_spaced` meets its contract: a space, then the digits, of which a word has ten
-- at most. Assumes nothing.
use borrow.Author.Rules.{rules}
use native.Mathlib.Omega.{arith}
use mathlib.Core.List.{[], ◌∷◌}
use lib.ListN.{take}
use Rattle.text.specs.Decimal.{decimal_of}
use Rattle.text.proofs.Puts.{put_both}
use Rattle.text.proofs.Decimals.{decimal-length}
use Rattle.print.proofs.put_spaced.Goals as goal

pub put_byte-start-requires : goal.put_byte-start-requires
put_byte-start-requires c = search rules

pub put_number-requires : goal.put_number-requires
put_number-requires c =
    let s = c in
    let a = s.args in
    let d = decimal-length a.n (omega arith) in
    let e = s.put_byte-start.ensures.0 in omega arith

pub shape_of-out : goal.shape_of-out
shape_of-out c = search rules

pub returns : goal.returns
returns c =
    let e = c.put_number.ensures in
    let s = c in
    let f = s.put_byte-start.ensures in
    let a = s.args in
    let d = decimal-length a.n (omega arith) in (
      omega arith,
      put_both (take a.at a.out.now) (32 ∷ []) (decimal_of a.n) f.1 e.1,
    )
