-- The laws of step.
-- done-moves: where it is done.
-- Assumes nothing.
use mathlib.Core.Path.{◌≡◌, refl, sym, ap, ◌∙◌}
use mathlib.Core.Bool.{Bool, true, false, not, So, ◌||◌, false≢true}
use mathlib.Core.Logic.{◌≢◌, inl, inr}
use mathlib.Core.List.{List, ◌∷◌}
use Prim.Native.Nat.{ℕ, ◌<◌}
use native.Mathlib.Omega.{arith}
use lib.Dec.{eqb}
use Rattle.words.specs.Tests.{any_below, only}
use Rattle.words.specs.Lists.{put_at}
use Rattle.words.proofs.Bools.{test, clash, ◌∙˙◌, eqb-eq, eq-eqb, eqb-ne, and_cases, or_left, or_right, or_cases}
use Rattle.words.proofs.Tests.{any_none}
use Rattle.words.proofs.Lists.{put_at_same, put_at_other}
use Rattle.masks.specs.Mask.{test_bit}
use Rattle.masks.proofs.Bits.{test-or, test_low}
use Rattle.model.specs.Store.{Branch, forked_mark, branch_of, Store, planned, with_sites, with_cache, with_run, with_state, with_job_done}
use Rattle.model.specs.Outcome.{broken_state}
use Rattle.model.specs.Calls.{step}
use Rattle.model.specs.Step.{step_branch, step_site, step_reads, step_cache, step_plan, step_pull, step_snapshot, step_moved, step_cause, step_broken, step_done, step_rule_of}
use Rattle.model.proofs.Steps.{Accepted, accepted, accepted-used, step_snapshot-out, stepped_branch, stepped_run}
use Rattle.model.proofs.Forks.{on-second, on-either, done-branch}
use Rattle.layout.proofs.Rules.Step.{valid}
use Rattle.layout.proofs.Follow.{Fine}
use Rattle.history.specs.Book.{Book, BookBranch, book_branch, book_rule, with_book_run, with_book_caches}
use Rattle.consistency.specs.Roles.{role_of, is_on}
use Rattle.consistency.specs.Trace.{ReadSet, Among, read_now, finish_by, finish, first, later}
use Rattle.consistency.proofs.Invariant.{BranchFollows, RunFollows, ReadAs, Entered, Covers, Inv, Moves}
use Rattle.consistency.proofs.Laws.{works, Laws, laws-unless}
use Rattle.consistency.proofs.Changing.{HasRead, copy-same, inv-cache, inv-run, inv-state}
use Rattle.consistency.proofs.Following.{plan-same}
use Rattle.consistency.proofs.Stepped.{copy_branch, copy_cache, copy_snapshot, copy_next, copy_run, book-step, either, step_cache-related, step_cache-closed, step_snapshot-related, step_snapshot-closed, copy_snapshot-out}

-- ---- a step that is done

-- The jobs stay.
after-follows : (s : Store) (b : Book) (r j n : ℕ)
    → ((m : ℕ) → BranchFollows s.counts.writers s.counts.keys b.history b.base
    (planned (s.run r).jobs (s.run r).job) (branch_of m (stepped_run s r j n))
    (book_branch m (copy_run s b r j n)))
    → RunFollows s.counts.writers s.counts.keys b.history b.base
    (stepped_run s r j n) (copy_run s b r j n)
unfolding with_job_done copy_run
after-follows s b r j n f = record { jobs = refl; job = refl; line = f }

-- A test that is its own opposite.
not-self : (b : Bool) → b ≡ not b → ⊥
not-self true e = false≢true (sym e)
not-self false e = false≢true e

module _ {s : Store} {b : Book} {f : ℕ → List ReadSet} {r j n : ℕ} (fine : Fine s)
    (v : Inv s b f) (a : Accepted s r j n)
    (none : any_below s.counts.keys (step_moved s r j n) ≡ false) where
  abbrev next : Store
  next = with_run (with_cache s (step_site s r j n) (step_cache s r j n)) r (stepped_run s r j n)

  abbrev next_book : Book
  next_book =
      with_book_run (with_book_caches b (put_at b.cache (step_site s r j n)
      (copy_cache s b r j n))) r
      (copy_run s b r j n)

  -- The branch that was stepped.
  branch_follows : BranchFollows s.counts.writers s.counts.keys b.history b.base
      (step_plan s r j n) (stepped_branch s r j n) (copy_next s b r j n)
  unfolding copy_next step_reads
  branch_follows =
      let F = v.follows in
      let G = (F.run r a.run_in).line n in
      let reads = ((s.run r).job j).reads in
      let job-reads = (valid s r j n fine a).reads in
      record {
        read = λ k h. test-or (step_branch s r j n).read reads k
            ∙ ap (λ (c : Bool). c || test_bit reads k) (G.read k h);
        low = λ k p.
            elim (or_cases ((copy_branch s b r j n).read k) (test_bit reads k) p) [
              | inl q ↦ G.low k q
              | inr q ↦ test_low reads s.counts.keys k job-reads q
            ];
        snapshot = λ k h. (step_snapshot-related fine F a k h).counts;
        led = λ e k h. (step_snapshot-related fine F a k h).led e;
        closed = step_snapshot-closed fine F a;
      }

  stepped-follows : RunFollows s.counts.writers s.counts.keys b.history b.base
      (stepped_run s r j n) (copy_run s b r j n)
  unfolding step_plan
  stepped-follows =
      let G = v.follows.run r a.run_in in
      let plan = planned (s.run r).jobs (s.run r).job in
      after-follows s b r j n (λ m. either s b r j n
      (BranchFollows s.counts.writers s.counts.keys b.history b.base plan) m
      (λ _. branch_follows) (λ _. rw (plan-same G) (G.line m)))

  -- A key that was read is outside of C,
  unmoved : (k : ℕ) → k < s.counts.keys → So ((copy_branch s b r j n).read k)
      → step_pull s r j n k ≡ false
  unfolding step_moved
  unmoved k h p =
      elim (and_cases (step_pull s r j n k) (test_bit (step_branch s r j n).read k)
      (any_none s.counts.keys (step_moved s r j n) none k h)) [
        | inl e ↦ e
        | inr e ↦ clash (((v.follows.run r a.run_in).line n).read k h ∙ p) e
      ]

  -- so what earlier jobs have read on this branch is still so,
  abbrev As : ReadSet → Branch → BookBranch → Type 0
  As x p q = ReadAs s.counts.writers s.counts.keys p q x

  still : (x : ReadSet) → As x (step_branch s r j n) (copy_branch s b r j n)
      → As x (stepped_branch s r j n) (copy_next s b r j n)
  unfolding copy_next
  still x R =
      let F = v.follows in
      record {
        keys = λ k h p. or_left (step_reads s r j n k) (R.keys k h p);
        version = λ k h p. R.version k h p
            ∙ sym (step_snapshot-out s r j n k (unmoved k h (R.keys k h p)));
        copy = λ k h p.
            rw (copy_snapshot-out fine F a k h (unmoved k h (R.keys k h p))) (R.copy k h p);
      }

  -- A run that isn't forked is stepped on branch 0.
  on-first : (s.run r).mark ≢ forked_mark → eqb n 0 ≡ true
  on-first w =
      test (eqb n 0) (λ y. y) (λ y. absurd (w (on-second (s.run r).mark n a.on_branch y)))

  still-entered : (x : ReadSet) → Among x (f r)
      → Entered s.counts.writers s.counts.keys b.history b.base (stepped_run s r j n)
      (copy_run s b r j n) x
  unfolding with_job_done
  still-entered x i =
      let E = v.reads r a.run_in x i in
      record {
        stands = E.stands;
        lines = λ m o.
            let R = E.lines m o in
            either s b r j n (As x) m (λ e. still x (rw e at R)) (λ _. R);
        placed = E.placed;
        single = E.single;
      }

  -- and this one has read what is on the snapshot now.
  next-run : next.run r ≡ stepped_run s r j n
  unfolding with_run with_cache with_sites
  next-run = put_at_same s.run r (stepped_run s r j n)

  next-book-run : next_book.run r ≡ copy_run s b r j n
  unfolding with_book_run with_book_caches
  next-book-run = put_at_same b.run r (copy_run s b r j n)

  now : ReadSet
  now = record {
    keys = step_reads s r j n;
    version = step_snapshot s r j n;
    copy = copy_snapshot s b r j n;
    on = only n;
  }

  now-is : read_now r j n next next_book ≡ now
  unfolding read_now now copy_run copy_next with_job_done step_reads
  now-is = rw (next-run, next-book-run) (test (eqb n 0) (λ y. rw y refl) (λ y. rw y refl))

  now_as : As now (stepped_branch s r j n) (copy_next s b r j n)
  unfolding now copy_next
  now_as = record {
    keys = λ k h p. or_right ((copy_branch s b r j n).read k) p;
    version = λ k h p. refl;
    copy = λ k h p. copy-same;
  }

  now-entered : Entered s.counts.writers s.counts.keys b.history b.base
      (stepped_run s r j n) (copy_run s b r j n) now
  unfolding now with_job_done only
  now-entered = record {
    stands = λ k h p. step_snapshot-related fine v.follows a k h;
    lines = λ m o.
        let e : m ≡ n = eqb-eq m n o in
        either s b r j n (As now) m (λ _. now_as)
        (λ d. absurd (not-self (eqb n 0) (ap (λ (i : ℕ). eqb i 0) (sym e) ∙ d)));
    placed = elim (on-either (s.run r).mark n a.on_branch) [
      | inl e ↦ inl (eq-eqb 0 n (sym e))
      | inr e ↦ inr (eq-eqb 1 n (sym e))
    ];
    single = λ w. eq-eqb 0 n (sym (eqb-eq n 0 (on-first w)));
  }

  -- All that was read is covered: on the branch that was stepped by this job too.
  covers : Covers s.counts.keys (stepped_run s r j n) (now ∷ f r)
  unfolding now step_reads only
  covers m k l h p =
      let old = v.covered r a.run_in in
      let more : So (test_bit (branch_of m (s.run r)).read k)
      → (x : ReadSet) × Among x (now ∷ f r) × So (x.on m) × So (x.keys k) =
      λ q. let x = old m k l h q in (x.0, later x.1, x.2, x.3) in
      done-branch (λ b. So (test_bit b.read k)
      → (x : ReadSet) × Among x (now ∷ f r) × So (x.on m) × So (x.keys k)) (s.run r) n _ _ m
      (λ e q. elim (or_cases (test_bit (step_branch s r j n).read k)
      (test_bit ((s.run r).job j).reads k)
      (test-or (step_branch s r j n).read ((s.run r).job j).reads k ∙˙ q)) [
        | inl o ↦ more (rw (sym e) at o)
        | inr o ↦ (now, first, eq-eqb m n (one_of m l e), o)
      ]) (λ _ q. more q) p
    where
      one_of : (m : ℕ) → m < 2 → eqb m 0 ≡ eqb n 0 → m ≡ n
      one_of m l e = elim (on-either (s.run r).mark n a.on_branch) [
        | inl z ↦ eqb-eq m 0 (e ∙ rw z refl) ∙ sym z
        | inr z ↦ omega (arith, eqb-ne m 0 (e ∙ rw z refl), z, l)
      ]

  done-inv : Inv next next_book (put_at f r (read_now r j n next next_book ∷ f r))
  unfolding with_cache with_sites with_book_caches
  done-inv =
      let F = v.follows in
      let xs = now ∷ f r in
      let w = inv-cache v (step_site s r j n) (step_cache s r j n) (copy_cache s b r j n)
      (step_cache-related fine F a) (step_cache-closed fine F a) in
      rw now-is
      (inv-run w (put_at f r xs) r (stepped_run s r j n) (copy_run s b r j n) stepped-follows
      a.run_in (put_at_other f r xs) (λ x i. read x (rw (put_at_same f r xs) at i))
      (rw (put_at_same f r xs) covers)) where
        read : HasRead s b (stepped_run s r j n) (copy_run s b r j n) (now ∷ f r)
        read x first = now-entered
        read x (later i) = still-entered x i

done-moves : {s : Store} {b : Book} {f : ℕ → List ReadSet} {r j n : ℕ} → Fine s → Inv s b f
    → Accepted s r j n → any_below s.counts.keys (step_moved s r j n) ≡ false
    → Moves (step r j n) s b f (step_done s r j n)
unfolding step_done book_rule finish finish_by role_of
done-moves {s} {b} {f} {r} {j} {n} fine v a none =
    rw (book-step s b r j n v.follows a.run_in) (done-inv fine v a none)

-- Broken or done, its run was in use and goes on.
pub step-laws : (r j n : ℕ) (s : Store) → Fine s → Laws (step r j n) s (step_rule_of r j n s)
unfolding step_rule_of step_broken step_done with_run with_cache with_sites with_state
    with_job_done role_of is_on
step-laws r j n s fine =
    laws-unless (step r j n) s (step_cause s r j n) _ (λ e.
    let a = accepted s r j n e in
    let used = accepted-used a in
    test (any_below s.counts.keys (step_moved s r j n)) (λ t. rw t (record {
      moves = λ b f v. inv-state v r broken_state a.run_in;
      turns = (r, eq-eqb r r refl, works r _ _ used (omega arith) refl refl);
    })) (λ t. rw t (record {
      moves = λ b f v. done-moves fine v a t;
      turns = works r _ _ used used refl refl;
    })))
