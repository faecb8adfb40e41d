-- When the program reads on, and what its bound on the input leaves.
-- begins: before any read. goes-below, goes-up: where it reads on. over-unless: where it doesn't.
-- falls: the measure of the loop.
-- Assumes nothing.
use mathlib.Core.Path.{◌≡◌, refl, sym, ◌∙◌}
use mathlib.Core.Bool.{Bool, true, false, So, cond, not}
use mathlib.Core.List.{List}
use Prim.Native.Nat.{ℕ, suc, ◌<◌}
use native.Mathlib.Omega.{arith}
use lib.Dec.{leb}
use Rattle.words.proofs.Bools.{clash, test, and_right, not_elim, or-none, leb-gt, gt-leb, eqb-ne}
use Rattle.script.specs.Limits.{max_input}
use Rattle.streams.specs.Streams.{Reads, input_over, goes_on_of}
use Rattle.streams.specs.declared.Input.{Input}
use Rattle.streams.specs.declared.Output.{Output}

pub begins : (i : Input) (o : Output) → (i.all ≡ 0) × (i.ended ≡ false) → o.failed ≡ false
    → So (goes_on_of i o)
begins i o e f = rw (f, e.1, gt-leb max_input i.all (omega (arith, e.0))) refl

-- Where it reads on, the last read delivered something, and less than the limit was read.
pub goes-below : (i : Input) (o : Output) → So (goes_on_of i o)
    → (i.ended ≡ false) × (i.all < max_input)
goes-below i o h =
    let n = or-none i.ended (leb max_input i.all)
    (not_elim (and_right (not o.failed) (not (input_over i)) h)) in
    (n.0, leb-gt max_input i.all n.1)

-- Where it reads on, the last read brought something.
pub goes-up : (i j : Input) (o : Output) (chunk : List ℕ) → Reads i j chunk → So (goes_on_of j o)
    → (i.all < j.all) × (j.all < max_input)
goes-up i j o chunk r h =
    let g = goes-below j o h in
    let n = eqb-ne j.got 0 (sym r.ended ∙ g.0) in
    (omega (arith, n, r.all), g.1)

-- Where it doesn't, a write failed or the input is over.
pub over-unless : (i : Input) (o : Output) → goes_on_of i o ≡ false → o.failed ≡ false
    → So (input_over i)
over-unless i o h f =
    test (input_over i) (λ y. y) (λ n. clash (rw (f, n) refl) h)

-- If there is more to read, less of the input's bound is left.
pub falls : (a b : Bool) (x y : ℕ) → So a → (So b → x < y) → cond b (suc x) 0 < cond a (suc y) 0
falls true true x y h f = omega (arith, f refl)
falls true false x y h f = omega arith
falls false b x y h f = clash h refl
