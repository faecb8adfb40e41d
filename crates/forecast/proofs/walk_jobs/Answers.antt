-- `walk_jobs`: the walk from job j on is what is left of the whole.
-- Assumes nothing.
use mathlib.Core.Path.{◌≡◌, refl, ap, ◌∙◌}
use Prim.Native.Nat.{◌-◌, ◌<◌}
use borrow.Author.Rules.{rules}
use native.Mathlib.Omega.{arith}
use lib.ListN.{length}
use Rattle.forecast.specs.Answers.{ended_of}
use Rattle.forecast.proofs.Walks.{is-through, goes-start, goes_on, goes-stops, goes_end}
use Rattle.forecast.proofs.walk_jobs.Goals as goal

pub loop-j-init : goal.loop-j-init
loop-j-init c =
    let s = c in (
      refl,
      goes-start _ _ _ _ s.requires.so s.requires.jobs_value.0
          s.requires.jobs_value.1,
    )

pub turn-told-requires : goal.turn-told-requires
turn-told-requires c =
    let l = c in
    let s = l in
    record {
      so = l.loop-j.invariant.1.form;
      j_lt_max_jobs = omega (arith, s.requires.jobs_value.2);
    }

pub shape_of-scratch-in_default : goal.shape_of-scratch-in_default
shape_of-scratch-in_default c = search rules

pub returns : goal.returns
unfolding ended_of
returns c =
    let r = goes_end _ _ _ _ _ _ c.loop-j.invariant.1 (omega arith) in
    record { answers = r.0; leaves = r.1 }

pub shape_of-scratch : goal.shape_of-scratch
shape_of-scratch c = c.loop-j.invariant.0

pub returns-in_default : goal.returns-in_default
returns-in_default c =
    let h : c.loop-j.j < c.args.jobs = omega arith in
    let k = c.turn-told.ensures in
    let r = goes-stops _ _ _ _ _ _ c.loop-j.invariant.1 h _ _ (k.answers, k.leaves)
    (λ e. c.in_default.not-Through (is-through _ e)) in
    record { answers = r.0; leaves = r.1 }

pub loop-j-preserved : goal.loop-j-preserved
unfolding ended_of
loop-j-preserved c =
    let h : c.loop-j.j < c.args.jobs = omega arith in
    let k = c.turn-told.ensures in
    let e : length c.turn-told.new.scratch ≡ length c.loop-j.scratch = search rules in (
      e ∙ c.loop-j.invariant.0,
      goes_on _ _ _ _ _ _ c.loop-j.invariant.1 h _ _ (k.answers, k.leaves)
          (ap ended_of c.in-Through.is),
    )
