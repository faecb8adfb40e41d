-- `visit_of` reads the job, the plan and the branch's read mask.
-- Assumes nothing.
-- The branch's read mask stands there.
use mathlib.Core.Path.{refl}
use native.Mathlib.Omega.{arith}
use Rattle.sizes.specs.Bounds.{snapshot_at}
use Rattle.form.proofs.Known.{form-area, master-found}
use Rattle.trial.proofs.Known.{job-known}
use Rattle.trial.proofs.Trials.{BranchAt, branch-at, visit-is}
use Rattle.trial.proofs.visit_of.Goals as goal
use Rattle.trial.proofs.visit_of.Goals.{After-read_on-read}

here : (c : After-read_on-read)
    → let s = c in
    let a = s.args in
    BranchAt a.words.now a.z a.r a.n (snapshot_at a.z a.r a.n)
    c.read_on-read.result
here c =
    let s = c in
    let a = s.args in
    rw c.read_on-read.ensures
    (branch-at a.words.now a.z a.r a.n s.requires.0.form s.requires.0.run _ refl)

pub areas-areas-requires : goal.areas-areas-requires
areas-areas-requires c = (form-area _ _ c.requires.0.form).ranged

pub site_at-cache-requires : goal.site_at-cache-requires
site_at-cache-requires c =
    let j = c in
    let s = j in
    let a = s.args in
    let J = job-known a.words.now a.z a.r s.requires.0 a.j s.requires.1 in
    let R = form-area a.words.now a.z s.requires.0.form in
    record {
      ranged = R.ranged;
      o_lt_sites = rw j.job_of-job.ensures J.site;
    }

pub read_on-read-requires : goal.read_on-read-requires
read_on-read-requires c =
    let s = c in
    record {
      ranged = (form-area _ _ s.requires.0.form).ranged;
      r_lt_runs = s.requires.0.run;
    }

pub returns : goal.returns
returns c =
    let i = c.before in
    let o = i in
    let w = o in
    let m = w in
    let p = m in
    let j = p in
    let s = j in
    let a = s.args in
    visit-is a.words.now a.z a.r a.j a.n a.snapshot i.read_on-read.result
    s.requires.0.form (here (goal.at.returns c).After-read_on-read).mask j.job_of-job.result.site
    m.areas-areas.result.master
    o.site_at-cache.result p.plan_keys-plan.result j.job_of-job.result refl
    (master-found a.z m.areas-areas.result m.areas-areas.ensures) o.site_at-cache.ensures
    p.plan_keys-plan.ensures j.job_of-job.ensures

pub job_of-job-requires : goal.job_of-job-requires
job_of-job-requires c =
    let r = c.requires in
    record { used_run = r.0; j_bound = r.1 }

pub plan_keys-plan-requires : goal.plan_keys-plan-requires
plan_keys-plan-requires c = c.requires.0

pub offset_bounds-words-read : goal.offset_bounds-words-read
offset_bounds-words-read c = omega (
  arith,
  (here (goal.at.offset_bounds-words-read
      c).After-read_on-read).low,
)

pub bounds-words-read : goal.bounds-words-read
bounds-words-read c = omega (arith, (here (goal.at.bounds-words-read c).After-read_on-read).low)
