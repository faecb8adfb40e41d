-- `combine` puts each count together with another.
-- Assumes nothing.
use Rattle.std.proofs.Common.{rules, arith, refl, ◌≡◌, ◌∙◌}
use Rattle.std.proofs.Math.ListN.{length-set}
use Rattle.std.proofs.Math.Seq.{get_or-set_same, get_or-set_other}
use Rattle.words.proofs.Tests.{below-cases}
use Rattle.audit.proofs.counts.combine.Goals as goal

pub loop-u-init : goal.loop-u-init
loop-u-init g c =
    record { long = search rules; passed = λ v h. absurd (omega arith); left = λ v h. refl }

pub loop-u-preserved : goal.loop-u-preserved
loop-u-preserved g c =
    let I = c.loop-u.invariant in
    let n = c.loop-u.counts in
    let u = c.loop-u.u in
    let x = c.join.result in record {
      long = length-set n u x ∙ I.long;
      passed = λ v h.
          below-cases v u (omega arith)
          (λ e.
          rw (e, get_or-set_same n u x 0 (omega (arith, I.long)), ← I.left u (omega arith))
          c.join.ensures)
          (λ l.
          let f : v ≡ u → ⊥ = (λ e. absurd (omega arith)) in
          rw (get_or-set_other n u v x 0 f) (I.passed v l));
      left = λ v h.
          let f : v ≡ u → ⊥ = (λ e. absurd (omega arith)) in
          get_or-set_other n u v x 0 f ∙ I.left v (omega arith);
    }

pub returns : goal.returns
returns g c = λ u h. c.loop-u.invariant.passed u (omega arith)
