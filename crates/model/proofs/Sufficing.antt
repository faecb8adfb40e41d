-- What is left to ask for admission, of a store in form.
-- run-jobs, run-carries: a run, free or not. Sufficing: less than `Admissible` asks.
-- admissible-small: it suffices. sufficing: it is implied.
-- Assumes nothing.
use mathlib.Core.Bool.{So}
use Prim.Native.Nat.{ℕ, ◌≤◌, ◌<◌}
use native.Mathlib.Omega.{arith}
use Rattle.words.proofs.Bools.{test}
use Rattle.clock.specs.Clock.{Clock, present}
use Rattle.clock.proofs.Order.{dominates-trans, present-mono, present-some}
use Rattle.sizes.specs.Runs.{max_jobs}
use Rattle.sizes.specs.declared.Counts.{Counts}
use Rattle.model.specs.Algebra.{everything, needs_met, causal_cut}
use Rattle.model.specs.Version.{held, versions}
use Rattle.model.specs.Store.{Run, branch_of, Store, planned}
use Rattle.model.specs.Form.{run_formed}
use Rattle.model.proofs.Needs.{dependency-iff, supersedes-iff}
use Rattle.model.proofs.Cuts.{needs_met-intro, overlapping_cut-intro, overlapping_cut-at}
use Rattle.model.proofs.FormedPlaces.{version-zero}
use Rattle.model.proofs.Formed.{Formed}
use Rattle.model.proofs.Plans.{free-out, free-or-plan, run-branch}
use Rattle.model.proofs.Admits.{EveryVersion, EveryPast, Covered, Counted, Admissible}

-- A run, free or not, has at most 8 jobs,
pub run-jobs : (z : Counts) (a : Run) → So (run_formed z a) → a.jobs ≤ max_jobs
run-jobs z a F =
    free-or-plan z a F (λ p. omega (arith, (free-out z a p).jobs)) (λ P. P.jobs.high)

-- and carries only keys of its plan.
pub run-carries : (z : Counts) (a : Run) → So (run_formed z a) → (n k : ℕ) → k < z.keys
    → So (held ((branch_of n a).snapshot k)) → So (planned a.jobs a.job k)
run-carries z a F n k l h = (run-branch z a F n).carried k l h

-- The master's own rows.
abbrev pub own_rows : Store → ℕ → Clock
own_rows s d = (s.master d).past d

-- The needs of shelves and cards, and of counts only those of the master's own rows.
pub record Sufficing (s : Store) : Type 0 where
  pub caches : (o : ℕ) → o < s.counts.sites
      → So (needs_met (versions s.counts.writers) s.counts.keys everything
      (s.site o).cache)
  pub snapshots : (r : ℕ) → r < s.counts.runs → (n : ℕ)
      → So (needs_met (versions s.counts.writers) s.counts.keys
      (planned (s.run r).jobs (s.run r).job) (branch_of n (s.run r)).snapshot)
  pub covered : EveryPast s (Covered s)
  pub counted : Counted s (own_rows s)
  pub numbered : EveryVersion s (λ v. v.issue ≤ s.last)

module _ (s : Store) where
  -- A row that the master's covers has counts as low.
  below-own : Counted s (own_rows s) → (q : ℕ → Clock) → Covered s q → Counted s q
  below-own C q f d l =
      dominates-trans s.counts.writers (λ u. (s.writer u).count) (own_rows s d) (q d) (C d l)
      (f d l)

  -- What has a count on the master is held there.
  master-held : Formed s → (d : ℕ) → d < s.counts.keys
      → So (present s.counts.writers (own_rows s d)) → So (held (s.master d))
  master-held F d l own =
      let some = present-some s.counts.writers (own_rows s d) own in
      test (held (s.master d)) (λ y. y) (λ no.
      absurd (omega (
        arith,
        some.2,
        version-zero s.counts d (s.master d) (F.master d l) no d l some.0 some.1,
      )))

  -- The master is a cut, since its own rows cover all rows.
  master-cut : Formed s → EveryPast s (Covered s)
      → So (causal_cut (versions s.counts.writers) s.counts.keys s.master)
  unfolding causal_cut
  master-cut F C =
      let W = s.counts.writers in
      needs_met-intro (versions W) s.counts.keys everything s.master
      (λ k d lk ld _ _ h n.
      let row = C.versions.master k lk d ld in
      let own = present-mono W (own_rows s d) ((s.master k).past d) row
      ((dependency-iff W k (s.master k) d).0 n).1 in
      (supersedes-iff W d (s.master d) ((s.master k).past d)).1 (master-held F d ld own, row))

  pub admissible-small : Formed s → Sufficing s → Admissible s
  unfolding causal_cut
  admissible-small F S =
      let W = s.counts.writers in
      let K = s.counts.keys in
      let every : (q : ℕ → Clock) → Covered s q → Counted s q = below-own S.counted in
      let C = S.covered in
      record {
        master = master-cut F C;
        caches = S.caches;
        snapshots = λ r l n.
            overlapping_cut-intro (versions W) K (planned (s.run r).jobs (s.run r).job)
            (branch_of n (s.run r)).snapshot (run-carries s.counts (s.run r) (F.run r l) n)
            (S.snapshots r l n);
        covered = C;
        counted = record {
          versions = record {
            master = λ k l. every (s.master k).past (C.versions.master k l);
            caches = λ o i k l. every ((s.site o).cache k).past (C.versions.caches o i k l);
            snapshots = λ r i n k l.
                every ((branch_of n (s.run r)).snapshot k).past (C.versions.snapshots r i n k l);
          };
          writers = λ w l. every (s.writer w).past (C.writers w l);
        };
        numbered = S.numbered;
      }

  pub sufficing : Admissible s → Sufficing s
  unfolding causal_cut
  sufficing A = record {
    caches = A.caches;
    snapshots = λ r l n.
        needs_met-intro (versions s.counts.writers) s.counts.keys
        (planned (s.run r).jobs (s.run r).job) (branch_of n (s.run r)).snapshot
        (λ k d lk ld _. overlapping_cut-at (versions s.counts.writers) s.counts.keys
        (planned (s.run r).jobs (s.run r).job) (branch_of n (s.run r)).snapshot
        (A.snapshots r l n) k d lk ld);
    covered = A.covered;
    counted = λ d l. A.counted.versions.master d l d l;
    numbered = A.numbered;
  }
