-- `walk_back` visits each earlier issue, until the counts reach all that are left.
-- Assumes nothing.
use Rattle.std.proofs.Common.{arith, ◌≡◌, ◌∙◌, ◌+◌, ◌-◌, ◌%◌, ◌≤◌, eqb}
use Rattle.clock.specs.Clock.{clock_at}
use Rattle.records.specs.Format.{issues_in}
use Rattle.audit.specs.Parts.{Ranked}
use Rattle.audit.proofs.Places.{issue-keys}
use Rattle.audit.proofs.Walks.{back-stop, back_on, back_end}
use Rattle.audit.proofs.Rest.{walk-rest}
use Rattle.audit.proofs.walk.walk_back.Goals as goal

pub rest_counted-requires : goal.rest_counted-requires
rest_counted-requires c =
    let a = c.args.issue in
    let e : c.loop-j.j - 1 + 1 ≡ c.loop-j.j = omega arith in
    record {
      low = (
        omega arith,
        issue-keys a c.requires.readable,
      );
      among = c.requires.among;
      ranked = rw e c.loop-j.invariant.0;
    }

pub returns-then-reach_all : goal.returns-then-reach_all
returns-then-reach_all c =
    let a = c.args.issue in
    let H = a.in_order.0.header in
    let j = c.loop-j.j - 1 + 1 in
    let e : j ≡ c.loop-j.j = omega arith in
    let o : j ≤ issues_in a.words.now = omega (arith, H.issues, a.in_order.1) in
    let K : Ranked a.words.now a.w j c.loop-j.ranks = rw e c.loop-j.invariant.0 in
    walk-rest c.requires.readable a.i j a.w c.loop-j.ranks c.loop-j.reach (eqb (j % 8) 0) _ _ o
    H.writers K c.reach_all.ensures c.if-reach_all.true c.rest_counted.ensures
    ∙ rw e c.loop-j.invariant.1

pub visit-requires : goal.visit-requires
visit-requires c =
    let e : c.loop-j.j - 1 + 1 ≡ c.loop-j.j = omega arith in
    record {
      readable = (c.requires.readable, omega arith);
      among = c.requires.among;
      ranked = rw e c.loop-j.invariant.0;
    }

pub returns-then-not-visit : goal.returns-then-not-visit
returns-then-not-visit c =
    let e : c.loop-j.j ≡ c.loop-j.j - 1 + 1 = omega arith in
    back-stop _ _ _ _ _ (clock_at c.visit.new.reach 0) _ c.visit.result c.loop-j.invariant.1 e
    c.visit.ensures.reach_value c.if-not-visit.true

pub loop-j-preserved : goal.loop-j-preserved
loop-j-preserved c =
    let e : c.loop-j.j ≡ c.loop-j.j - 1 + 1 = omega arith in (
      c.visit.ensures.ranks,
      back_on _ _ _ _ _ _ _ c.visit.result c.loop-j.invariant.1 e c.visit.ensures.reach_value
          c.if-not-visit.false,
    )

pub returns : goal.returns
returns c = back_end _ _ _ _ _ c.loop-j.invariant.1 (omega arith)
