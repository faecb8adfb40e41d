-- `visit` is one turn of the walk: the issue is passed over, fails, or raises the counts.
-- Assumes nothing.
-- It is reached.
-- What the code finds is the test of the issue.
use Rattle.std.proofs.Common.{arith, sym, ◌≡◌, ◌∙◌, ◌≤◌, ◌<◌, get_or}
use Rattle.records.specs.Format.{issues_in, writer_at, rank}
use Rattle.records.specs.Walk.{fine, read_reach}
use Rattle.audit.specs.Parts.{Raised}
use Rattle.audit.proofs.Places.{issue-keys}
use Rattle.audit.proofs.Walks.{visit-past, visit-stop, visit-on}
use Rattle.audit.proofs.Judged.{fine-is}
use Rattle.audit.proofs.walk.visit.Goals as goal
use Rattle.audit.proofs.walk.visit.Goals.{After-saves_fine, Else-reach-earlier}

hit : (c : Else-reach-earlier) → rank c.args.issue.words.now c.args.j
    ≤ get_or c.args.reach.now (writer_at c.args.issue.words.now c.args.j) 0
hit c =
    let e = c.step_back-earlier.ensures.earlier in
    rw (← e.0, ← e.2) c.if-reach-earlier.false

found : (c : After-saves_fine) → c.saves_fine.result
    ≡ fine c.args.issue.words.now c.args.issue.i c.args.j
found c =
    let e = c.step_back-earlier.ensures.earlier in
    rw (← fine-is c.args.issue.words.now c.args.issue.i c.args.j, ← e.0, ← e.1, ← e.2)
    c.saves_fine.ensures

pub returns-then-reach-earlier : goal.returns-then-reach-earlier
returns-then-reach-earlier c =
    let e = c.step_back-earlier.ensures.earlier in
    let h : get_or c.args.reach.now (writer_at c.args.issue.words.now c.args.j) 0
    < rank c.args.issue.words.now c.args.j = rw (← e.0, ← e.2) c.if-reach-earlier.true in
    record {
      reach_value = visit-past _ _ _ _ h;
      ranks = c.step_back-earlier.ensures.ranks;
    }

pub saves_fine-requires : goal.saves_fine-requires
saves_fine-requires c =
    let a = c.args.issue in record {
      low = (
        issue-keys a c.requires.readable.0,
        c.step_back-earlier.ensures.known.0,
      );
      among = c.requires.among;
    }

pub returns-then-not-saves_fine : goal.returns-then-not-saves_fine
returns-then-not-saves_fine c =
    let f = sym (found (goal.at.returns-then-not-saves_fine c).After-saves_fine) ∙
    c.if-not-saves_fine.true in
    record {
      reach_value =
          visit-stop _ _ _ _ (hit (goal.at.returns-then-not-saves_fine c).Else-reach-earlier) f;
      ranks = c.step_back-earlier.ensures.ranks;
    }

pub returns : goal.returns
returns c =
    let a = c.args.issue in
    let R = c.requires.readable in
    let f = sym (found (goal.at.returns c).After-saves_fine) ∙ c.if-not-saves_fine.false in
    let l : c.args.j < issues_in a.words.now = omega
    (arith, R.1, a.in_order.1, a.in_order.0.header.issues) in
    let e = c.at.ensures in
    let S : Raised a.w (read_reach a.words.now c.args.j) c.args.reach.now c.raise.new.reach =
    rw (e.0, e.1, e.3) at c.raise.ensures in
    record {
      reach_value =
          visit-on _ _ _ _ R.0 _ a.in_order.0.header.writers l
          (hit (goal.at.returns c).Else-reach-earlier) f _ S;
      ranks = c.step_back-earlier.ensures.ranks;
    }
