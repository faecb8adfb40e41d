-- Admission as statements.
-- EveryVersion, EveryPast: what holds "anywhere" on a store. Admissible: the conditions.
-- admissible-out, admissible_in: from the test to the statements, and back.
-- Assumes nothing.
use mathlib.Core.Bool.{Bool, So, ◌&&◌}
use Prim.Native.Nat.{ℕ, ◌≤◌, ◌<◌}
use lib.Dec.{leb}
use Rattle.words.specs.Tests.{all_below}
use Rattle.words.proofs.Bools.{and_intro, and_left, and_right, leb-le, le-leb}
use Rattle.words.proofs.Tests.{all-intro, all-at}
use Rattle.clock.specs.Clock.{Clock, Dominates}
use Rattle.clock.proofs.Order.{covers-standing}
use Rattle.model.specs.Algebra.{Place, causal_cut, overlapping_cut}
use Rattle.model.specs.Version.{Version, versions}
use Rattle.model.specs.Store.{branch_of, Store, planned}
use Rattle.model.specs.Calls.Admit.{each_branch, every_place, every_version, every_past, causal_cuts, overlapping_cuts, master_covers, counts_within, number_within, admissible}
use Rattle.model.proofs.Branches.{each-out, each_in}

-- Every version on master, caches and snapshots.
pub record EveryVersion (s : Store) (P : Version → Type 0) : Type 0 where
  pub master : (k : ℕ) → k < s.counts.keys → P (s.master k)
  pub caches : (o : ℕ) → o < s.counts.sites → (k : ℕ) → k < s.counts.keys
      → P ((s.site o).cache k)
  pub snapshots : (r : ℕ) → r < s.counts.runs → (n k : ℕ) → k < s.counts.keys
      → P ((branch_of n (s.run r)).snapshot k)

-- Every past: of these versions, and of the writers.
pub record EveryPast (s : Store) (P : (ℕ → Clock) → Type 0) : Type 0 where
  pub versions : EveryVersion s (λ v. P v.past)
  pub writers : (w : ℕ) → w < s.counts.writers → P (s.writer w).past

-- The master's own rows are as large as those of a past.
abbrev pub Covered : Store → (ℕ → Clock) → Type 0
Covered s past =
    (d : ℕ) → d < s.counts.keys → Dominates s.counts.writers ((s.master d).past d) (past d)

-- The writers' counts are as large as those of a past.
abbrev pub Counted : Store → (ℕ → Clock) → Type 0
Counted s past =
    (d : ℕ) → d < s.counts.keys
    → Dominates s.counts.writers (λ u. (s.writer u).count) (past d)

pub record Admissible (s : Store) : Type 0 where
  pub master : So (causal_cut (versions s.counts.writers) s.counts.keys s.master)
  pub caches : (o : ℕ) → o < s.counts.sites
      → So (causal_cut (versions s.counts.writers) s.counts.keys (s.site o).cache)
  pub snapshots : (r : ℕ) → r < s.counts.runs → (n : ℕ)
      → So (overlapping_cut (versions s.counts.writers) s.counts.keys
      (planned (s.run r).jobs (s.run r).job) (branch_of n (s.run r)).snapshot)
  pub covered : EveryPast s (Covered s)
  pub counted : EveryPast s (Counted s)
  pub numbered : EveryVersion s (λ v. v.issue ≤ s.last)

-- ---- tests of every version and every past

module _ (s : Store) where
  pub version-out : (p : Version → Bool) (P : Version → Type 0) → ((v : Version) → So (p v) → P v)
      → So (every_version s p) → EveryVersion s P
  unfolding every_version every_place
  version-out p P f h =
      let z = s.counts in
      let all : Place Version → Bool = λ a. all_below z.keys (λ k. p (a k)) in
      let c = all_below z.sites (λ o. all (s.site o).cache) in
      let both : ℕ → Bool = λ i. each_branch (s.run i) (λ b. all b.snapshot) in
      let r = all_below z.runs both in
      let at : (a : Place Version) → So (all a) → (k : ℕ) → k < z.keys → P (a k) =
      λ a x k l. f (a k) (all-at z.keys (λ k. p (a k)) x k l) in
      let rest = and_right (all s.master) (c && r) h in
      record {
        master = at s.master (and_left (all s.master) (c && r) h);
        caches = λ o l. at (s.site o).cache
            (all-at z.sites (λ o. all (s.site o).cache) (and_left c r rest) o l);
        snapshots = λ i l n. at (branch_of n (s.run i)).snapshot
            (each-out (s.run i) (λ b. all b.snapshot)
            (all-at z.runs both (and_right c r rest) i l) n);
      }

  pub version_in : (p : Version → Bool) (P : Version → Type 0) → ((v : Version) → P v → So (p v))
      → EveryVersion s P → So (every_version s p)
  unfolding every_version every_place
  version_in p P f E =
      let z = s.counts in
      let all : Place Version → Bool = λ a. all_below z.keys (λ k. p (a k)) in
      let every : (a : Place Version) → ((k : ℕ) → k < z.keys → P (a k)) → So (all a) =
      λ a g. all-intro z.keys (λ k. p (a k)) (λ k l. f (a k) (g k l)) in
      and_intro (every s.master E.master)
      (and_intro
      (all-intro z.sites (λ o. all (s.site o).cache)
      (λ o l. every (s.site o).cache (E.caches o l)))
      (all-intro z.runs (λ i. each_branch (s.run i) (λ b. all b.snapshot))
      (λ i l. each_in (s.run i) (λ b. all b.snapshot)
      (λ n. every (branch_of n (s.run i)).snapshot (E.snapshots i l n)))))

  pub past-out : (p : (ℕ → Clock) → Bool) (P : (ℕ → Clock) → Type 0)
      → ((q : ℕ → Clock) → So (p q) → P q) → So (every_past s p) → EveryPast s P
  unfolding every_past
  past-out p P f h =
      let W = s.counts.writers in
      let v = every_version s (λ v. p v.past) in
      let w = all_below W (λ w. p (s.writer w).past) in
      record {
        versions = version-out (λ v. p v.past) (λ v. P v.past) (λ v. f v.past)
            (and_left v w h);
        writers = λ i l. f (s.writer i).past
            (all-at W (λ w. p (s.writer w).past) (and_right v w h) i l);
      }

  pub past_in : (p : (ℕ → Clock) → Bool) (P : (ℕ → Clock) → Type 0)
      → ((q : ℕ → Clock) → P q → So (p q)) → EveryPast s P → So (every_past s p)
  unfolding every_past
  past_in p P f E =
      let W = s.counts.writers in
      and_intro
      (version_in (λ v. p v.past) (λ v. P v.past) (λ v. f v.past) E.versions)
      (all-intro W (λ w. p (s.writer w).past) (λ w l. f (s.writer w).past (E.writers w l)))

  -- ---- one past

  pub covered_out : (q : ℕ → Clock) → So (master_covers s q) → Covered s q
  unfolding master_covers
  covered_out q h d l =
      (covers-standing s.counts.writers ((s.master d).past d) (q d)).0
      (all-at s.counts.keys _ h d l)

  pub covered_in : (q : ℕ → Clock) → Covered s q → So (master_covers s q)
  unfolding master_covers
  covered_in q f =
      all-intro s.counts.keys _ (λ d l.
      (covers-standing s.counts.writers ((s.master d).past d) (q d)).1 (f d l))

  pub counted-out : (q : ℕ → Clock) → So (counts_within s q) → Counted s q
  unfolding counts_within
  counted-out q h d l u i =
      leb-le _ _
      (all-at s.counts.writers (λ u. leb (q d u) (s.writer u).count)
      (all-at s.counts.keys _ h d l) u i)

  pub counted_in : (q : ℕ → Clock) → Counted s q → So (counts_within s q)
  unfolding counts_within
  counted_in q f =
      all-intro s.counts.keys _ (λ d l.
      all-intro s.counts.writers (λ u. leb (q d u) (s.writer u).count)
      (λ u i. le-leb _ _ (f d l u i)))

  -- ---- all of it

  pub admissible-out : So (admissible s) → Admissible s
  unfolding admissible causal_cuts overlapping_cuts number_within
  admissible-out h =
      let z = s.counts in
      let cut : Place Version → Bool = causal_cut (versions z.writers) z.keys in
      let caches = all_below z.sites (λ o. cut (s.site o).cache) in
      let rows = every_past s (master_covers s) in
      let counts = every_past s (counts_within s) in
      let numbers = every_version s (number_within s) in
      let cuts = and_left (causal_cuts s) (overlapping_cuts s && (rows && (counts && numbers))) h
      in
      let h₂ = and_right (causal_cuts s) (overlapping_cuts s && (rows && (counts && numbers))) h in
      let h₃ = and_right (overlapping_cuts s) (rows && (counts && numbers)) h₂ in
      let h₄ = and_right rows (counts && numbers) h₃ in
      record {
        master = and_left (cut s.master) caches cuts;
        caches = all-at z.sites (λ o. cut (s.site o).cache)
            (and_right (cut s.master) caches cuts);
        snapshots = λ r l. each-out (s.run r) _ (all-at z.runs _
            (and_left (overlapping_cuts s) (rows && (counts && numbers)) h₂) r l);
        covered = past-out (master_covers s) (Covered s) covered_out
            (and_left rows (counts && numbers) h₃);
        counted = past-out (counts_within s) (Counted s) counted-out (and_left counts numbers h₄);
        numbered = version-out (number_within s) (λ v. v.issue ≤ s.last) (λ v. leb-le _ _)
            (and_right counts numbers h₄);
      }

  pub admissible_in : Admissible s → So (admissible s)
  unfolding admissible causal_cuts overlapping_cuts number_within
  admissible_in A =
      let z = s.counts in
      and_intro
      (and_intro A.master (all-intro z.sites _ A.caches))
      (and_intro (all-intro z.runs _ (λ r l. each_in (s.run r) _ (A.snapshots r l)))
      (and_intro (past_in (master_covers s) (Covered s) covered_in A.covered)
      (and_intro (past_in (counts_within s) (Counted s) counted_in A.counted)
      (version_in (number_within s) (λ v. v.issue ≤ s.last) (λ v. le-leb _ _) A.numbered))))
