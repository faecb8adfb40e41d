-- `text::put_bytes` meets its contract: i turns have stored the first i bytes.
-- Assumes nothing.
use native.Mathlib.Omega.{arith}
use native.Mathlib.Numerals.{add-one}
use mathlib.Core.Path.{◌≡◌, refl, ◌∙◌}
use lib.ListN.{length, length-set}
use lib.Seq.{paste, paste-zero, paste-suc, take-paste, take-length}
use Rattle.text.proofs.put_bytes.Goals as goal

pub loop-i-init : goal.loop-i-init
loop-i-init c = (omega arith, refl, paste-zero _ c.args.at c.args.bytes.now)

pub loop-i-preserved : goal.loop-i-preserved
loop-i-preserved c =
    let l = c.loop-i in
    let a = c.args in (
      omega arith,
      rw length-set l.invariant.1,
      rw (l.invariant.2, add-one)
          (paste-suc a.out.now a.at a.bytes.now l.i 0 (omega arith) (omega arith)),
    )

pub returns : goal.returns
returns c =
    let l = c.loop-i in
    let a = c.args in
    let n = length a.bytes.now in
    let e : l.i ≡ n = omega arith in
    let whole : l.out ≡ paste a.out.now a.at a.bytes.now n = rw (← e) l.invariant.2 in (
      refl,
      rw whole (take-paste _ _ _ n (omega arith) (omega arith) ∙ rw take-length refl),
      whole,
    )

pub shape_of-out : goal.shape_of-out
shape_of-out c = c.loop-i.invariant.1
