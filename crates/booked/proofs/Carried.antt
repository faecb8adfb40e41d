-- A run whose card holds its plan, through every call that doesn't disturb it.
-- prepare-carried: it is so after an accepted prepare. cause_by, run_after: what a step makes of
-- such a run, by the run and what offices may hold. rule_run: so it is, a clause for each call.
-- carried-after, rule_carried: it stays carried.
-- Assumes nothing.
use mathlib.Core.Path.{◌≡◌, refl, sym, ap, ◌∙◌}
use mathlib.Core.Bool.{Bool, false, cond, ◌&&◌, So, false≢true}
use mathlib.Core.List.{List}
use mathlib.Core.Option.{Option, none, some}
use Prim.Native.Nat.{ℕ, zero, suc, ◌<◌}
use native.Mathlib.Omega.{arith}
use lib.Dec.{eqb, leb}
use Rattle.words.proofs.Bools.{test, leb-gt, gt-leb, eqb-eq, eqb-ne, ne_eqb}
use Rattle.words.proofs.Lists.{put_at_same}
use Rattle.masks.specs.Mask.{test_bit}
use Rattle.sizes.specs.declared.Counts.{Counts}
use Rattle.model.specs.Tail.{barred}
use Rattle.model.specs.Store.{Run, forked_mark, Store, with_sites, with_caches, with_run, with_snapshot, with_job_done}
use Rattle.model.specs.Outcome.{refused, done, refuse, unless, allowed, prepare_row, open_state, run_cause}
use Rattle.model.specs.Runs.{open_cause, open_rule, drop_done, drop_rule, drop_cause}
use Rattle.model.specs.Prepare.{prepare_cause, prepare_done, prepare_rule, prepare_snapshot, prepare_caches}
use Rattle.model.specs.Issue.{issue_cause, issue_done, issue_rule}
use Rattle.model.specs.Step.{job_cause, step_rule_of}
use Rattle.model.specs.Calls.Fork.{fork_cause, fork_done, fork_rule_of, join_cause, join_rule_of}
use Rattle.model.specs.Calls.{StoreCall, open_run, fetch, evict, prepare, step, issue, drop_run, allow, pick, mayhold, maysave, fork, join, ask, rule_of}
use Rattle.model.proofs.Formed.{well-out}
use Rattle.model.proofs.Outcomes.{no-cause, no-lack, unless-cases, next_store}
use Rattle.model.proofs.Plans.{valid-out, plan-out, state-low}
use Rattle.layout.specs.Calls.{on, is_ok_of}
use Rattle.layout.proofs.Follow.{Fine}
use Rattle.layout.proofs.Rules.{rule_kept}
use Rattle.consistency.specs.Roles.{role_of, is_on}
use Rattle.consistency.proofs.Lasting.{rule_lasts}
use Rattle.booked.specs.Prepared.{unsettles, booked_cause, ran_on_of, steps_of}
use Rattle.booked.proofs.Holding.{prepared-plan}
use Rattle.booked.proofs.Idle.{Carried, carried_step}

-- The run of a store.
abbrev pub CarriedIn : ℕ → Store → Type 0
CarriedIn r s = Carried s.counts r (s.run r)

-- ---- an accepted prepare

-- Only an open run may be prepared.
open_state_lem : (n : ℕ) → n < 3 → So (allowed prepare_row n) → n ≡ open_state
unfolding allowed
open_state_lem zero h p = absurd (false≢true p)
open_state_lem (suc zero) h p = refl
open_state_lem (suc (suc zero)) h p = absurd (false≢true p)
open_state_lem (suc (suc (suc n))) h p = absurd (omega arith)

-- What it leaves.
abbrev prepared_store : Store → ℕ → Store
prepared_store s r =
    with_run (with_caches s (prepare_caches s r)) r (with_snapshot (s.run r)
    (prepare_snapshot s r))

prepare-leaves : (s : Store) (r : ℕ) → Fine s → prepare_cause s r ≡ 0
    → CarriedIn r (prepared_store s r)
unfolding prepare_cause run_cause with_run with_caches with_sites with_snapshot
prepare-leaves s r F e =
    let z = s.counts in
    let a = s.run r in
    let b = no-cause (leb z.runs r) 3 _ (omega arith) e in
    let c = no-lack (allowed prepare_row a.state) 4 _ (omega arith) b.1 in
    let m = no-cause (eqb a.mark forked_mark) 14 _ (omega arith) c.1 in
    let d = no-lack (eqb a.done 0) 6 _ (omega arith) m.1 in
    let t = no-cause _ 13 _ (omega arith) d.1 in
    let f = no-cause _ 7 _ (omega arith) t.1 in
    let in_range_lem = leb-gt z.runs r b.0 in
    let G = (well-out s F.formed).run r in_range_lem in
    let now : a.state ≡ open_state = open_state_lem a.state (state-low z a G) c.0 in
    let P = plan-out z a (omega (arith, now)) G in
    rw (put_at_same s.run r (with_snapshot a (prepare_snapshot s r))) (record {
      run_in = in_range_lem;
      open_run_lem = now;
      single = eqb-ne a.mark forked_mark m.0;
      holds = prepared-plan s r (λ j l. (valid-out z j (a.job j) (P.jobs.valid j l)).site)
          f.0;
    })

pub prepare-carried : (s : Store) (r : ℕ) → Fine s → So (is_ok_of (prepare_rule r s))
    → CarriedIn r (next_store (prepare_rule r s) s)
unfolding prepare_rule prepare_done is_ok_of
prepare-carried s r F =
    unless-cases (λ x. So (is_ok_of x) → CarriedIn r (next_store x s)) (prepare_cause s r)
    (prepare_done s r) (λ e _. prepare-leaves s r F e) (λ _ p. absurd (false≢true p))

-- ---- what a call makes of it

-- The cause of a step of it, as `booked_cause`: of run a, by the masks of what offices may hold.
unfoldable pub cause_by : Counts → ℕ → (ℕ → ℕ) → Run → ℕ → ℕ → ℕ
cause_by z r right a j n =
    let x = a.job j in
    refuse (leb z.runs r) 3
    (job_cause a j n
    (refuse (barred z.keys (right x.site) (test_bit x.reads)) 13
    0))

-- The run after a call that steps a job of it on a line, or doesn't.
unfoldable pub run_after : Counts → ℕ → (ℕ → ℕ) → Option (ℕ × ℕ) → Run → Run
run_after z r right none a = a
run_after z r right (some (j, n)) a = cond (eqb (cause_by z r right a j n) 0) (ran_on_of a j) a

-- Where both tests don't hold and the first does.
passed : (a b : Bool) → So a → a && b ≡ false → b ≡ false
passed a b p e = ap (λ (x : Bool). x && b) (sym p) ∙ e

-- A refused call leaves the store.
turned_down : (n : ℕ) (a : List ℕ) (s t : Store) → is_ok_of (unless n (done a t)) ≡ false
    → next_store (unless n (done a t)) s ≡ s
unfolding is_ok_of
turned_down n a s t =
    unless-cases (λ x. is_ok_of x ≡ false → next_store x s ≡ s) n (done a t)
    (λ _ e. absurd (false≢true (sym e))) (λ _ _. refl)

module _ (r : ℕ) (s : Store) (F : Fine s) (C : CarriedIn r s) where
  -- An open run isn't opened, and one that isn't forked isn't joined.
  open_refused : (l : List ℕ) → open_rule r l s ≡ refused 4
  unfolding open_rule open_cause run_cause refuse unless allowed
  open_refused l = rw (gt-leb s.counts.runs r C.run_in, C.open_run_lem) refl

  join-refused : join_rule_of r s ≡ refused 14
  unfolding join_rule_of join_cause run_cause refuse unless allowed
  join-refused =
      rw (
        gt-leb s.counts.runs r C.run_in,
        C.open_run_lem,
        ne_eqb (s.run r).mark forked_mark C.single,
      ) refl

  step_run : (j n : ℕ) → (next_store (step_rule_of r j n s) s).run r
      ≡ run_after s.counts r s.tail.may_hold (some (j, n)) (s.run r)
  unfolding booked_cause cause_by run_after unless with_run
  step_run j n =
      rw (carried_step s r j n F C) (test (eqb (booked_cause s r j n) 0)
      (λ y. rw y (put_at_same s.run r (ran_on_of (s.run r) j))) (λ n. rw n refl))

  -- A call on other runs or on none: by the frame law.
  others : (c : StoreCall) → is_on r (role_of c) ≡ false
      → (next_store (rule_of c s) s).run r ≡ s.run r
  others c n = (rule_lasts c s r F).others n

  -- One that disturbs it, refused.
  refused-run : (q n : ℕ) (a : List ℕ) (t : Store) → So (eqb r q)
      → eqb r q && is_ok_of (unless n (done a t)) ≡ false
      → (next_store (unless n (done a t)) s).run r ≡ s.run r
  refused-run q n a t y e =
      ap (λ (u : Store). u.run r)
      (turned_down n a s t (passed (eqb r q) (is_ok_of (unless n (done a t))) y e))

  pub rule_run : (c : StoreCall) → unsettles r c && is_ok_of (rule_of c s) ≡ false
      → (next_store (rule_of c s) s).run r
      ≡ run_after s.counts r s.tail.may_hold (steps_of r (on c)) (s.run r)
  unfolding rule_of run_after steps_of unsettles is_on role_of prepare_rule prepare_done issue_rule
      issue_done drop_rule drop_done fork_rule_of fork_done
  rule_run (open_run q l) e =
      test (eqb r q) (λ y. rw (← eqb-eq r q y, open_refused l) refl) (others (open_run q l))
  rule_run (fetch o k) e = others (fetch o k) refl
  rule_run (evict o k) e = others (evict o k) refl
  rule_run (prepare q) e =
      test (eqb r q) (λ y. refused-run q (prepare_cause s q) _ _ y e) (others (prepare q))
  rule_run (step q j n) e =
      test (eqb r q) (λ y. rw (y, ← eqb-eq r q y) (step_run j n))
      (λ y. rw y (others (step q j n) y))
  rule_run (issue q w S) e =
      test (eqb r q) (λ y. refused-run q (issue_cause s q w S) _ _ y e) (others (issue q w S))
  rule_run (drop_run q) e =
      test (eqb r q) (λ y. refused-run q (drop_cause s q) _ _ y e) (others (drop_run q))
  rule_run (allow o n) e = others (allow o n) refl
  rule_run pick e = others pick refl
  rule_run (mayhold o m) e = others (mayhold o m) refl
  rule_run (maysave w m) e = others (maysave w m) refl
  rule_run (fork q) e =
      test (eqb r q) (λ y. refused-run q (fork_cause s q) _ _ y e) (others (fork q))
  rule_run (join q) e =
      test (eqb r q) (λ y. rw (← eqb-eq r q y, join-refused) refl) (others (join q))
  rule_run (ask q) e = others (ask q) refl

-- A step keeps state, plan, mark and card.
pub carried-after : (z : Counts) (r : ℕ) (right : ℕ → ℕ) (x : Option (ℕ × ℕ)) (a : Run)
    → Carried z r a → Carried z r (run_after z r right x a)
unfolding run_after ran_on_of with_job_done
carried-after z r right none a C = C
carried-after z r right (some (j, n)) a C =
    test (eqb (cause_by z r right a j n) 0)
    (λ y. rw y (record {
      run_in = C.run_in;
      open_run_lem = C.open_run_lem;
      single = C.single;
      holds = C.holds;
    }))
    (λ y. rw y C)

-- Accepted or not, a call that doesn't disturb it.
pub rule_carried : (r : ℕ) (s : Store) (c : StoreCall) → Fine s → CarriedIn r s
    → unsettles r c && is_ok_of (rule_of c s) ≡ false → CarriedIn r (next_store (rule_of c s) s)
rule_carried r s c F C e =
    rw ((rule_kept c s F).counts, rule_run r s F C c e)
    (carried-after s.counts r s.tail.may_hold (steps_of r (on c)) (s.run r) C)
