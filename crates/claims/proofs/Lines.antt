-- A step and the other line, and which calls set a run's mark (CR 10).
-- keeps-other. rule_marks: a clause for each call; marked-by-calls: on a buffer in form.
-- Assumes nothing.
use mathlib.Core.Path.{◌≡◌, refl, sym, ap, ◌∙◌}
use mathlib.Core.Bool.{Bool, true, false, not, cond, true≢false, false≢true}
use Prim.Native.Nat.{ℕ}
use lib.Dec.{eqb}
use Rattle.words.specs.Tests.{any_below}
use Rattle.words.specs.Lists.{put_at}
use Rattle.words.proofs.Bools.{test}
use Rattle.words.proofs.Lists.{put_at_same, put_at_cases}
use Rattle.model.specs.Store.{Run, branch_of, free_run, Store, with_master, with_last, with_sites, with_cache, with_caches, with_marks, with_writer, with_run, with_state, with_snapshot, with_job_done}
use Rattle.model.specs.Outcome.{Outcome}
use Rattle.model.specs.Runs.{opened_run, open_cause, open_done, open_rule, drop_cause, drop_done, drop_rule}
use Rattle.model.specs.Prepare.{prepare_cause, prepare_done, prepare_rule}
use Rattle.model.specs.Step.{step_cause, step_moved, step_broken, step_done, step_rule_of}
use Rattle.model.specs.Issue.{issue_cause, saved_store, issued_store, issue_done, issue_rule}
use Rattle.model.specs.Calls.Fork.{forked_run, fork_cause, fork_done, fork_rule_of, joined_run, join_moved, join_cause, join_done, join_broken, join_rule_of}
use Rattle.model.specs.Calls.{StoreCall, open_run, fetch, evict, prepare, step, issue, drop_run, allow, pick, mayhold, maysave, fork, join, ask, rule_of}
use Rattle.model.proofs.Outcomes.{next_store, unless-cases}
use Rattle.model.proofs.Forks.{done-branch}
use Rattle.layout.specs.Reading.{store_of}
use Rattle.layout.specs.Calls.{on, call_on, is_ok_of}
use Rattle.layout.proofs.Follow.{Fine, form-fine}
use Rattle.layout.proofs.Forms.{form_rule, left-store}
use Rattle.consistency.specs.Roles.{role_of, is_on}
use Rattle.consistency.proofs.Lasting.{rule_lasts}
use Rattle.claims.specs.Lines.{KeepsOther, mark_by, MarkedByCalls}

-- ---- a step and the other line

step_other : (s : Store) (r j n m : ℕ) → eqb m 0 ≡ not (eqb n 0)
    → branch_of m ((next_store (step_rule_of r j n s) s).run r) ≡ branch_of m (s.run r)
unfolding step_rule_of step_broken step_done with_run with_cache with_state
step_other s r j n m e =
    let b = any_below s.counts.keys (step_moved s r j n) in
    unless-cases (λ x. branch_of m ((next_store x s).run r) ≡ branch_of m (s.run r))
    (step_cause s r j n) (cond b (step_broken s r j n) (step_done s r j n))
    (λ _. test b (λ y. rw (y, put_at_same) refl) (λ y. rw (y, put_at_same)
    (done-branch (λ x. x ≡ branch_of m (s.run r)) (s.run r) n _ _ m
    (λ f. absurd (differ (eqb n 0) (sym f ∙ e))) (λ _. refl)))) (λ _. refl)
  where
    differ : (b : Bool) → ¬ (b ≡ not b)
    differ true f = true≢false f
    differ false f = false≢true f

pub keeps-other : KeepsOther
unfolding rule_of
keeps-other l r j n m F e =
    ap (λ (t : Store). branch_of m (t.run r)) (left-store (step r j n) l F)
    ∙ step_other (store_of l) r j n m e

-- ---- the mark

-- An outcome of a call leaves the mark that it should.
abbrev Marks : StoreCall → Store → ℕ → Outcome → Type 0
Marks c s r x =
    let m = (s.run r).mark in
    ((next_store x s).run r).mark ≡ cond (is_ok_of x) (mark_by (role_of c) r m) m

-- A run that changed at x, or stayed.
put-mark : (f : ℕ → Run) (x : ℕ) (a : Run) (r : ℕ)
    → (put_at f x a r).mark ≡ cond (eqb r x) a.mark (f r).mark
unfolding put_at
put-mark f x a r = test (eqb r x) (λ y. rw y refl) (λ y. rw y refl)

put-kept : (f : ℕ → Run) (x : ℕ) (a : Run) (r : ℕ) → a.mark ≡ (f x).mark
    → (put_at f x a r).mark ≡ (f r).mark
put-kept f x a r e =
    put_at_cases (λ (y : Run). y.mark ≡ (f r).mark) f x a r (λ i. rw i e) (λ _. refl)

either_way : (b : Bool) (m : ℕ) → m ≡ cond b m m
either_way true m = refl
either_way false m = refl

-- A call on no run.
elsewhere-marks : (c : StoreCall) (s : Store) (r : ℕ) → Fine s → is_on r (role_of c) ≡ false
    → mark_by (role_of c) r (s.run r).mark ≡ (s.run r).mark → Marks c s r (rule_of c s)
elsewhere-marks c s r F o e =
    rw e (ap (λ (a : Run). a.mark) ((rule_lasts c s r F).others o)
    ∙ either_way (is_ok_of (rule_of c s)) (s.run r).mark)

rule_marks : (c : StoreCall) (s : Store) (r : ℕ) → Fine s → Marks c s r (rule_of c s)
unfolding rule_of open_rule open_done opened_run prepare_rule prepare_done step_rule_of
    step_broken step_done
    issue_rule issue_done issued_store saved_store drop_rule drop_done fork_rule_of fork_done
    forked_run
    join_rule_of join_broken join_done joined_run with_master with_last with_sites with_cache
    with_caches
    with_marks with_writer with_run with_state with_snapshot with_job_done role_of is_on mark_by
    is_ok_of
rule_marks (open_run x l) s r F =
    unless-cases (Marks (open_run x l) s r) (open_cause s x l) (open_done s x l)
    (λ _. put-mark s.run x (opened_run l) r) (λ _. refl)
rule_marks (fetch o k) s r F = elsewhere-marks (fetch o k) s r F refl refl
rule_marks (evict o k) s r F = elsewhere-marks (evict o k) s r F refl refl
rule_marks (prepare x) s r F =
    unless-cases (Marks (prepare x) s r) (prepare_cause s x) (prepare_done s x)
    (λ _. put-kept s.run x _ r refl) (λ _. refl)
rule_marks (step x j n) s r F =
    let b = any_below s.counts.keys (step_moved s x j n) in
    unless-cases (Marks (step x j n) s r) (step_cause s x j n)
    (cond b (step_broken s x j n) (step_done s x j n))
    (λ _. test b (λ y. rw y (put-kept s.run x _ r refl))
    (λ y. rw y (put-kept s.run x _ r refl))) (λ _. refl)
rule_marks (issue x w S) s r F =
    unless-cases (Marks (issue x w S) s r) (issue_cause s x w S) (issue_done s x w S)
    (λ _. test (eqb S 0) (λ y. rw y (put-mark s.run x free_run r))
    (λ y. rw y (put-mark s.run x free_run r))) (λ _. refl)
rule_marks (drop_run x) s r F =
    unless-cases (Marks (drop_run x) s r) (drop_cause s x) (drop_done s x)
    (λ _. put-mark s.run x free_run r) (λ _. refl)
rule_marks (allow o n) s r F = elsewhere-marks (allow o n) s r F refl refl
rule_marks pick s r F = elsewhere-marks pick s r F refl refl
rule_marks (mayhold o m) s r F = elsewhere-marks (mayhold o m) s r F refl refl
rule_marks (maysave w m) s r F = elsewhere-marks (maysave w m) s r F refl refl
rule_marks (fork x) s r F =
    unless-cases (Marks (fork x) s r) (fork_cause s x) (fork_done s x)
    (λ _. put-mark s.run x (forked_run (s.run x)) r) (λ _. refl)
rule_marks (join x) s r F =
    let b = any_below s.counts.keys (join_moved s x) in
    unless-cases (Marks (join x) s r) (join_cause s x) (cond b (join_broken s x) (join_done s x))
    (λ _. test b (λ y. rw y (put-kept s.run x _ r refl))
    (λ y. rw y (put-mark s.run x (joined_run s x) r))) (λ _. refl)
rule_marks (ask q) s r F = elsewhere-marks (ask q) s r F refl refl

pub marked-by-calls : MarkedByCalls
marked-by-calls l c r F =
    let s = store_of l in
    let m = (s.run r).mark in
    let ok : is_ok_of (rule_of c s) ≡ is_ok_of (call_on (on c) l) = ap is_ok_of (sym
    (form_rule c l F)) in
    ap (λ (t : Store). (t.run r).mark) (left-store c l F) ∙ rule_marks c s r (form-fine l F)
    ∙ ap (λ (b : Bool). cond b (mark_by (role_of c) r m) m) ok
