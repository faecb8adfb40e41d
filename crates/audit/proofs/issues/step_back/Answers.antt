-- `step_back` takes the rank of an earlier issue.
-- Assumes nothing.
-- Its writer is one of the record's. Its rank is the count of that.
use Rattle.std.proofs.Common.{arith, refl, ◌<◌, ◌≡◌, get_or}
use Rattle.records.specs.Format.{writer_at, mask_at, rank}
use Rattle.audit.proofs.Places.{writer-low}
use Rattle.audit.proofs.Ranks.{rank_is, rank-some, ranked-down}
use Rattle.audit.proofs.issues.step_back.Goals as goal
use Rattle.audit.proofs.issues.step_back.Goals.{Start}

writer : (c : Start) → writer_at c.args.issue.words.now c.args.j < c.args.issue.w
writer c = writer-low c.args.issue c.args.j (omega (arith, c.requires.0))

ranked : (c : Start) → get_or c.args.ranks.now (writer_at c.args.issue.words.now c.args.j) 0
    ≡ rank c.args.issue.words.now c.args.j
ranked c =
    let a = c.args.issue in
    rank_is a.words.now a.w c.args.j c.args.ranks.now a.inside.1 (writer c) c.requires.1

pub bounds-issue-at : goal.bounds-issue-at
bounds-issue-at c =
    let a = c.args.issue in omega (arith, c.requires.0, a.in_order.1, a.inside.0)

pub bounds-issue-at-2 : goal.bounds-issue-at-2
bounds-issue-at-2 c =
    let a = c.args.issue in omega (arith, c.requires.0, a.in_order.1, a.inside.0)

pub bounds-ranks-u : goal.bounds-ranks-u
unfolding writer_at
bounds-ranks-u c =
    omega (arith, writer (goal.at.bounds-ranks-u c).Start, c.args.issue.inside.1)

pub bounds-ranks-u-2 : goal.bounds-ranks-u-2
unfolding writer_at
bounds-ranks-u-2 c =
    omega (arith, writer (goal.at.bounds-ranks-u-2 c).Start, c.args.issue.inside.1)

pub overflow_sub-ranks : goal.overflow_sub-ranks
unfolding writer_at
overflow_sub-ranks c =
    omega (
      arith,
      ranked (goal.at.overflow_sub-ranks c).Start,
      rank-some c.args.issue.words.now c.args.j,
    )

pub returns : goal.returns
unfolding writer_at mask_at
returns c =
    let a = c.args.issue in
    let w = writer (goal.at.returns c).Start in
    let r = ranked (goal.at.returns c).Start in
    record {
      earlier = (refl, refl, r);
      ranks = ranked-down a.words.now a.w c.args.j c.args.ranks.now a.inside.1 w c.requires.1;
      known = (w, omega (arith, r, rank-some a.words.now c.args.j));
    }
