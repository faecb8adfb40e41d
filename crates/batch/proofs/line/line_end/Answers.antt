-- `line_end` is the place of the first line end. Assumes nothing.
use native.Mathlib.Omega.{arith}
use mathlib.Core.Path.{◌≡◌, ap, ◌∙◌}
use Prim.Native.Nat.{ℕ, ◌+◌}
use lib.ListN.{drop, length-drop}
use Rattle.std.proofs.lemmas.List.{take_rest}
use Rattle.batch.proofs.Whole.{end-place}
use Rattle.batch.proofs.line.line_end.Goals as goal

pub overflow_add-result : goal.overflow_add-result
overflow_add-result c =
    let a = c.args in
    let s = a.text.now in
    let p = end-place (drop a.at s) c.bytes_before.result
    (rw (take_rest s a.at) at c.bytes_before.ensures) in
    omega (arith, p.0, length-drop a.at s)

pub returns : goal.returns
returns c =
    let a = c.args in
    let s = a.text.now in
    let p = end-place (drop a.at s) c.bytes_before.result
    (rw (take_rest s a.at) at c.bytes_before.ensures) in
    (omega (arith, p.0, length-drop a.at s), ap (λ (n : ℕ). a.at + n) p.1)
