-- `text::put_first` puts the line up to its first space.
-- Assumes nothing.
use native.Mathlib.Omega.{arith}
use Rattle.text.proofs.Firsts.{first-is}
use Rattle.text.proofs.put_first.Goals as goal

pub returns : goal.returns
returns c =
    let p = c.put_bytes.ensures in
    let f = c.first_field-n in
    let e = first-is _ f.result _ f.ensures.1 in (omega arith, rw e p.1)
