-- Fork and join keep a store fine.
-- Assumes nothing.
use mathlib.Core.Path.{◌≡◌, refl, sym, ap, ◌∙◌}
use mathlib.Core.Bool.{So}
use mathlib.Core.Logic.{inl, inr}
use Prim.Native.Nat.{ℕ, ◌≤◌}
use native.Mathlib.Omega.{arith}
use lib.Bits.{bit_or}
use Rattle.words.specs.Tests.{any_below}
use Rattle.words.proofs.Bools.{test, ◌∙˙◌, or_cases}
use Rattle.masks.specs.Mask.{test_bit}
use Rattle.masks.proofs.Bits.{test-or}
use Rattle.model.specs.Version.{held}
use Rattle.model.specs.Store.{Store, planned, with_run}
use Rattle.model.specs.Form.{run_formed}
use Rattle.model.specs.Outcome.{allowed, fork_row, join_row}
use Rattle.model.specs.Calls.Fork.{forked_run, fork_cause, fork_done, fork_rule_of, joined_place, joined_branch, joined_run, join_moved, join_cause, join_done, join_broken, join_rule_of}
use Rattle.model.proofs.Outcomes.{allowed-used}
use Rattle.model.proofs.Merges.{merge-cases, merge-held-left, merge-held-right}
use Rattle.model.proofs.FormedPlaces.{version-merge}
use Rattle.model.proofs.Formed.{well-out}
use Rattle.model.proofs.FormedNext.{formed-run}
use Rattle.model.proofs.Branches.{on_both, Snapshot, none-vacant, vacant-snapshot}
use Rattle.model.proofs.Plans.{read_both, Plan, plan-out, plan_in}
use Rattle.model.proofs.Forks.{Forkable, forkable, Joinable, joinable, or-zero, or_same}
use Rattle.layout.proofs.Runs.{FitRun}
use Rattle.layout.proofs.Fit.{fit-empty, fit-merged, fit-run}
use Rattle.layout.proofs.Follow.{Fine}
use Rattle.layout.proofs.Kept.{Kept, kept-done, kept-unless}
use Rattle.layout.proofs.Rules.Step.{state-kept}

-- ---- fork

module _ (s : Store) (r : ℕ) (F : Fine s) (A : Forkable s r) where
  fork-used : 1 ≤ (s.run r).state
  unfolding allowed
  fork-used = allowed-used fork_row (s.run r).state refl A.open_run_lem

  fork-was : Plan s.counts (s.run r)
  fork-was = plan-out s.counts (s.run r) fork-used ((well-out s F.formed).run r A.run_in)

  -- A run that was never forked has read on its one branch.
  first_reads : read_both (s.run r) ≡ (s.run r).branch.read
  first_reads = elim fork-was.mark.single [
    | inl e ↦ absurd (omega (arith, e, A.single))
    | inr e ↦ ap (bit_or (s.run r).branch.read) e.read ∙ or-zero (s.run r).branch.read
  ]

  forked-formed : So (run_formed s.counts (forked_run (s.run r)))
  unfolding forked_run
  forked-formed =
      let a = s.run r in
      plan_in s.counts (forked_run a) fork-used (record {
        state = fork-was.state;
        jobs = fork-was.jobs;
        masks = record {
          low = fork-was.masks.low;
          reads = or_same a.branch.read ∙ sym first_reads ∙ fork-was.masks.reads;
        };
        mark = record { high = omega arith; single = inl refl };
        snapshot = on_both (Snapshot s.counts a.jobs a.job) (forked_run a)
            (fork-was.snapshot 0) (fork-was.snapshot 0);
      })

  fork-done-kept : Kept s (fork_done s r)
  unfolding fork_done forked_run with_run
  fork-done-kept =
      let b = forked_run (s.run r) in
      let fitting = F.fits.run.each r A.run_in in
      let fits : FitRun s.counts b = record {
        job = fitting.job;
        snapshot = fitting.snapshot;
        second = fitting.snapshot;
      } in
      kept-done s (with_run s r b) _ F (fit-run s F.fits r b A.run_in fits)
      (formed-run s (well-out s F.formed) r b forked-formed) refl

pub fork-kept : (r : ℕ) (s : Store) → Fine s → Kept s (fork_rule_of r s)
unfolding fork_rule_of
fork-kept r s F =
    kept-unless s (fork_cause s r) (fork_done s r) F (λ e. fork-done-kept s r F (forkable s r e))

-- ---- join

module _ (s : Store) (r : ℕ) (F : Fine s) (A : Joinable s r) where
  join-used : 1 ≤ (s.run r).state
  unfolding allowed
  join-used = allowed-used join_row (s.run r).state refl A.open_run_lem

  join-was : Plan s.counts (s.run r)
  join-was = plan-out s.counts (s.run r) join-used ((well-out s F.formed).run r A.run_in)

  joined-snapshot : Snapshot s.counts (s.run r).jobs (s.run r).job (joined_branch s r)
  unfolding joined_branch joined_place
  joined-snapshot =
      let z = s.counts in
      let x = (s.run r).branch in
      let y = (s.run r).second in
      let X = join-was.snapshot 0 in
      let Y = join-was.snapshot 1 in
      record {
        place = λ k l.
            version-merge z k (x.snapshot k) (y.snapshot k) (X.place k l) (Y.place k l);
        carried = λ k l. merge-cases z.writers k
            (λ v. So (held v) → So (planned (s.run r).jobs (s.run r).job k)) (x.snapshot k)
            (y.snapshot k) (λ p _ _. X.carried k l p) (λ p _ _. X.carried k l p)
            (λ _. Y.carried k l);
        has = λ k l p. elim (or_cases (test_bit x.read k) (test_bit y.read k)
            (test-or x.read y.read k ∙˙ p)) [
              | inl h ↦
                  merge-held-left z.writers k (x.snapshot k) (y.snapshot k) (X.has k l h)
              | inr h ↦
                  merge-held-right z.writers k (x.snapshot k) (y.snapshot k) (Y.has k l h)
            ];
      }

  joined-formed : So (run_formed s.counts (joined_run s r))
  unfolding joined_run joined_branch
  joined-formed =
      let a = s.run r in
      plan_in s.counts (joined_run s r) join-used (record {
        state = join-was.state;
        jobs = join-was.jobs;
        masks = record {
          low = join-was.masks.low;
          reads = or-zero (read_both a) ∙ join-was.masks.reads;
        };
        mark = record { high = omega arith; single = inr (none-vacant s.counts) };
        snapshot = on_both (Snapshot s.counts a.jobs a.job) (joined_run s r)
            joined-snapshot (vacant-snapshot a.jobs a.job (none-vacant s.counts));
      })

  join-done-kept : Kept s (join_done s r)
  unfolding join_done joined_run joined_branch joined_place with_run
  join-done-kept =
      let b = joined_run s r in
      let a = s.run r in
      let fitting = F.fits.run.each r A.run_in in
      let fits : FitRun s.counts b = record {
        job = fitting.job;
        snapshot = fit-merged s.counts a.branch.snapshot a.second.snapshot
            fitting.snapshot fitting.second;
        second = fit-empty s.counts;
      } in
      kept-done s (with_run s r b) _ F (fit-run s F.fits r b A.run_in fits)
      (formed-run s (well-out s F.formed) r b joined-formed) refl

  join-broken-kept : Kept s (join_broken s r)
  unfolding join_broken
  join-broken-kept = state-kept s r F A.run_in join-was _

pub join_kept : (r : ℕ) (s : Store) → Fine s → Kept s (join_rule_of r s)
unfolding join_rule_of
join_kept r s F =
    kept-unless s (join_cause s r) _ F (λ e.
    let A = joinable s r e in
    test (any_below s.counts.keys (join_moved s r))
    (λ t. rw t (join-broken-kept s r F A)) (λ t. rw t (join-done-kept s r F A)))
