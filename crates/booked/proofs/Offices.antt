-- What offices may hold after a call: mayhold sets it, and no other call does.
-- may_hold_after: by the counts and the call alone. rule_mayhold: so it is, a clause for each
-- call.
-- Assumes nothing.
use mathlib.Core.Path.{◌≡◌, refl}
use mathlib.Core.Bool.{cond}
use Prim.Native.Nat.{ℕ, ◌^◌}
use lib.Dec.{eqb, leb, ltb}
use Rattle.words.specs.Tests.{any_below}
use Rattle.words.specs.Lists.{put_at}
use Rattle.words.proofs.Bools.{test}
use Rattle.sizes.specs.declared.Counts.{Counts}
use Rattle.model.specs.Store.{Store, with_master, with_last, with_sites, with_cache, with_caches, with_marks, with_writer, with_run, with_tail_of}
use Rattle.model.specs.Outcome.{Outcome, refuse, unless}
use Rattle.model.specs.Caches.{fetch_cause, fetch_done, fetch_rule, evict_cause, evict_done, evict_rule}
use Rattle.model.specs.Runs.{open_cause, open_done, open_rule, drop_cause, drop_done, drop_rule}
use Rattle.model.specs.Prepare.{prepare_cause, prepare_done, prepare_rule}
use Rattle.model.specs.Step.{step_cause, step_moved, step_broken, step_done, step_rule_of}
use Rattle.model.specs.Issue.{issue_cause, saved_store, issued_store, issue_done, issue_rule}
use Rattle.model.specs.Calls.Allow.{allow_cause, allow_done, allow_rule}
use Rattle.model.specs.Calls.Fork.{fork_cause, fork_done, fork_rule_of, join_moved, join_cause, join_done, join_broken, join_rule_of}
use Rattle.model.specs.Calls.Pick.{pick_turn, pick_done, pick_rule}
use Rattle.model.specs.Calls.Rights.{right_cause, mayhold_done, mayhold_rule, maysave_rule}
use Rattle.model.specs.Calls.{StoreCall, open_run, fetch, evict, prepare, step, issue, drop_run, allow, pick, mayhold, maysave, fork, join, ask, reply_of, rule_of}
use Rattle.model.proofs.Outcomes.{next_store, unless-cases, replied-cases}

unfoldable pub may_hold_after : Counts → StoreCall → (ℕ → ℕ) → ℕ → ℕ
may_hold_after z (open_run r l) right = right
may_hold_after z (fetch o k) right = right
may_hold_after z (evict o k) right = right
may_hold_after z (prepare r) right = right
may_hold_after z (step r j n) right = right
may_hold_after z (issue r w S) right = right
may_hold_after z (drop_run r) right = right
may_hold_after z (allow o n) right = right
may_hold_after z pick right = right
may_hold_after z (mayhold o m) right =
    cond (eqb (refuse (leb z.sites o) 3 (refuse (leb (2 ^ z.keys) m) 3 0)) 0)
    (put_at right o m) right
may_hold_after z (maysave w m) right = right
may_hold_after z (fork r) right = right
may_hold_after z (join r) right = right
may_hold_after z (ask q) right = right

-- An outcome leaves what offices may hold.
abbrev Leaves : Store → Outcome → Type 0
Leaves s x = (next_store x s).tail.may_hold ≡ s.tail.may_hold

pub rule_mayhold : (c : StoreCall) (s : Store)
    → (next_store (rule_of c s) s).tail.may_hold ≡ may_hold_after s.counts c s.tail.may_hold
unfolding rule_of open_rule open_done fetch_rule fetch_done evict_rule evict_done prepare_rule
    prepare_done
    step_rule_of step_broken step_done issue_rule issue_done issued_store saved_store drop_rule
    drop_done
    allow_rule allow_done pick_rule pick_done mayhold_rule mayhold_done maysave_rule right_cause
    unless
    fork_rule_of fork_done join_rule_of join_broken join_done with_master with_last with_sites
    with_cache
    with_caches with_marks with_writer with_run with_tail_of may_hold_after
rule_mayhold (open_run r l) s =
    unless-cases (Leaves s) (open_cause s r l) (open_done s r l) (λ _. refl) (λ _. refl)
rule_mayhold (fetch o k) s =
    unless-cases (Leaves s) (fetch_cause s o k) (fetch_done s o k) (λ _. refl) (λ _. refl)
rule_mayhold (evict o k) s =
    unless-cases (Leaves s) (evict_cause s o k) (evict_done s o k) (λ _. refl) (λ _. refl)
rule_mayhold (prepare r) s =
    unless-cases (Leaves s) (prepare_cause s r) (prepare_done s r) (λ _. refl) (λ _. refl)
rule_mayhold (step r j n) s =
    let b = any_below s.counts.keys (step_moved s r j n) in
    unless-cases (Leaves s) (step_cause s r j n) (cond b (step_broken s r j n) (step_done s r j n))
    (λ _. test b (λ y. rw y refl) (λ n. rw n refl)) (λ _. refl)
rule_mayhold (issue r w S) s =
    unless-cases (Leaves s) (issue_cause s r w S) (issue_done s r w S)
    (λ _. test (eqb S 0) (λ y. rw y refl) (λ n. rw n refl)) (λ _. refl)
rule_mayhold (drop_run r) s =
    unless-cases (Leaves s) (drop_cause s r) (drop_done s r) (λ _. refl) (λ _. refl)
rule_mayhold (allow o n) s =
    unless-cases (Leaves s) (allow_cause s o n) (allow_done s o n) (λ _. refl) (λ _. refl)
rule_mayhold pick s =
    test (ltb (pick_turn s) s.counts.runs) (λ y. rw y refl) (λ n. rw n refl)
rule_mayhold (mayhold o m) s =
    let z = s.counts in
    test (eqb (refuse (leb z.sites o) 3 (refuse (leb (2 ^ z.keys) m) 3 0)) 0)
    (λ y. rw y refl) (λ n. rw n refl)
rule_mayhold (maysave w m) s =
    unless-cases (Leaves s) (right_cause s s.counts.writers w m) _ (λ _. refl) (λ _. refl)
rule_mayhold (fork r) s =
    unless-cases (Leaves s) (fork_cause s r) (fork_done s r) (λ _. refl) (λ _. refl)
rule_mayhold (join r) s =
    let b = any_below s.counts.keys (join_moved s r) in
    unless-cases (Leaves s) (join_cause s r) (cond b (join_broken s r) (join_done s r))
    (λ _. test b (λ y. rw y refl) (λ n. rw n refl)) (λ _. refl)
rule_mayhold (ask q) s = replied-cases (Leaves s) (reply_of q s) refl refl
