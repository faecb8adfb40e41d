-- `issue_reads_fit` makes the test of an issue's reads, in two parts.
-- Assumes nothing.
-- The array has the counts of issues before issue i.
-- The reads' words are in order.
use Rattle.std.proofs.Common.{arith, sym, ◌≡◌, ◌∙◌, ◌<◌, ◌≤◌, ℕ}
use mathlib.Core.Bool.{So}
use Rattle.clock.specs.Clock.{clock_at}
use Rattle.records.specs.Format.{number_at, all_reads, issues_before}
use Rattle.audit.specs.Parts.{counted}
use Rattle.audit.proofs.Counted.{reads-uncounted, reads-counted, keys-low}
use Rattle.audit.proofs.Places.{reads_none}
use Rattle.audit.proofs.Walks.{clock_0}
use Rattle.audit.proofs.reads.issue_reads_fit.Goals as goal
use Rattle.audit.proofs.reads.issue_reads_fit.Goals.{Else-not-reads_counted, Start}

before : (s : Start) → (u : ℕ) → u < s.args.issue.w → clock_at s.args.prior 0 u
    ≡ issues_before s.args.issue.words.now s.args.issue.i u
before s u h = clock_0 s.args.prior u ∙ s.requires.1.counts u h

passed : (c : Else-not-reads_counted) → let a = c.args.issue in
    So (all_reads a.words.now a.i (counted a.words.now c.args.k a.w (clock_at c.args.prior 0)))
passed c = sym c.reads_counted.ensures ∙ c.if-not-reads_counted.false

pub returns-then-issue-eq0 : goal.returns-then-issue-eq0
unfolding number_at
returns-then-issue-eq0 c = reads_none _ _ _ c.if-issue-eq0.true

pub returns-then-not-reads_counted : goal.returns-then-not-reads_counted
returns-then-not-reads_counted c =
    reads-uncounted _ _ _ _ _ c.requires.0 c.args.issue.in_order.0.header.writers
    (before (goal.at.returns-then-not-reads_counted c).Start)
    (sym c.reads_counted.ensures ∙ c.if-not-reads_counted.true)

pub counts_saved-requires : goal.counts_saved-requires
counts_saved-requires c =
    let H = c.args.issue.in_order.0.header in
    let few : c.args.k ≤ 32 = omega (arith, c.requires.0, H.layout.keys.1) in
    record {
      low =
          keys-low _ _ _ _ _ c.requires.0 H.writers (before
          (goal.at.counts_saved-requires c).Start) few
          (passed (goal.at.counts_saved-requires c).Else-not-reads_counted);
      ranked = c.requires.1;
      least = c.least_counts.ensures;
    }

pub returns : goal.returns
returns c =
    c.counts_saved.ensures
    ∙ reads-counted _ _ _ _ _ c.requires.0 c.args.issue.in_order.0.header.writers
    (before (goal.at.returns c).Start) (passed (goal.at.returns c).Else-not-reads_counted)
