-- `script::feed` meets its contract: at each turn the fold has taken in the bytes so far. Assumes
-- nothing.
use lib.Seq.{take_all}
use Rattle.script.specs.Fold.{byte_step}
use native.Mathlib.Omega.{arith}
use mathlib.Core.Path.{refl, ap, ◌∙◌}
use mathlib.Core.List.{[]}
use lib.ListN.{get_or}
use Rattle.script.specs.Fold.{progress, fed}
use Rattle.script.proofs.Steps.{fed-byte}
use Rattle.script.proofs.feed.Goals as goal

pub loop-byte-init : goal.loop-byte-init
unfolding fed
loop-byte-init c =
    (refl, refl, refl, refl, refl, omega arith, c.requires.ready_value, refl)

pub loop-byte-preserved : goal.loop-byte-preserved
loop-byte-preserved c =
    let s = c.step_byte-state.ensures in
    let o = c.loop-byte in
    let b = c.args.chunk.now in
    let m = c.step_byte-state.auto in (
      omega (arith, m, o.invariant),
      omega (arith, m, o.invariant),
      omega (arith, m, o.invariant),
      omega (arith, m, o.invariant),
      omega (arith, m, o.invariant),
      omega (arith, s, o.invariant),
      s.ready_value_2,
      s.out_after
          ∙ ap (λ p. byte_step p (get_or b o.byte-index 0)) o.invariant.7
          ∙ fed-byte _ b o.byte-index (omega arith),
    )

pub returns : goal.returns
returns c =
    let a = c.args in
    let o = c.loop-byte in
    let p = progress a.store.now a.line.now a.len [] in
    let e =
    o.invariant.7 ∙ ap (fed p) (take_all o.byte-index a.chunk.now (omega arith)) in record {
      ready_value_2 = o.invariant.6;
      out_after = e;
      end_bound = omega arith;
    }
