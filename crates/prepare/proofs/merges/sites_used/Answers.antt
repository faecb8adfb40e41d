-- `sites_used` has the sites of the jobs. The loop's invariant: those of the jobs passed.
-- Assumes nothing.
use mathlib.Core.Path.{◌≡◌, ap, ◌∙◌}
use Prim.Native.Nat.{ℕ}
use native.Mathlib.Omega.{arith}
use Rattle.model.specs.Prepare.{uses_site}
use Rattle.layout.specs.Reading.{store_of}
use Rattle.trial.proofs.Known.{jobs-known, job-known}
use Rattle.prepare.proofs.Sites.{uses_none, uses_more}
use Rattle.prepare.proofs.merges.sites_used.Goals as goal

pub loop-j-init : goal.loop-j-init
loop-j-init c = (omega arith, uses_none _)

pub with_item-mask-requires : goal.with_item-mask-requires
with_item-mask-requires c =
    let a = c.args in
    let K = jobs-known a.words.now a.z a.r c.requires in
    let J = job-known a.words.now a.z a.r c.requires c.loop-j.j (omega arith) in
    rw c.job_of-job.ensures (omega (arith, J.site, K.area.ranged.sites-high))

pub loop-j-preserved : goal.loop-j-preserved
loop-j-preserved c =
    let a = c.args in (
      omega arith,
      rw (c.with_item-mask.ensures, c.job_of-job.ensures)
          (uses_more ((store_of a.words.now).run a.r).job c.loop-j.j _ c.loop-j.invariant.1),
    )

pub returns : goal.returns
returns c =
    let a = c.args in
    let e : c.loop-j.j ≡ ((store_of a.words.now).run a.r).jobs = omega arith in
    c.loop-j.invariant.1
    ∙ ap (λ (n : ℕ). uses_site n ((store_of a.words.now).run a.r).job) e
