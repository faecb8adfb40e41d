-- Pick alone, of the calls on a store, moves the round.
-- rule_round: a clause for each call.
-- Assumes nothing.
use mathlib.Core.Path.{◌≡◌, refl}
use mathlib.Core.Bool.{cond}
use mathlib.Core.Logic.{◌⊎◌, inl, inr}
use lib.Dec.{eqb}
use Rattle.words.specs.Tests.{any_below}
use Rattle.words.proofs.Bools.{test}
use Rattle.model.specs.Store.{Store, with_master, with_last, with_sites, with_cache, with_caches, with_marks, with_writer, with_run, with_tail_of}
use Rattle.model.specs.Outcome.{Outcome}
use Rattle.model.specs.Caches.{fetch_cause, fetch_done, fetch_rule, evict_cause, evict_done, evict_rule}
use Rattle.model.specs.Runs.{open_cause, open_done, open_rule, drop_cause, drop_done, drop_rule}
use Rattle.model.specs.Prepare.{prepare_cause, prepare_done, prepare_rule}
use Rattle.model.specs.Step.{step_cause, step_moved, step_broken, step_done, step_rule_of}
use Rattle.model.specs.Issue.{issue_cause, saved_store, issued_store, issue_done, issue_rule}
use Rattle.model.specs.Calls.Allow.{allow_cause, allow_done, allow_rule}
use Rattle.model.specs.Calls.Fork.{fork_cause, fork_done, fork_rule_of, join_moved, join_cause, join_done, join_broken, join_rule_of}
use Rattle.model.specs.Calls.Rights.{right_cause, mayhold_done, mayhold_rule, maysave_rule}
use Rattle.model.specs.Calls.{StoreCall, open_run, fetch, evict, prepare, step, issue, drop_run, allow, pick, mayhold, maysave, fork, join, ask, reply_of, rule_of}
use Rattle.model.proofs.Outcomes.{next_store, unless-cases, replied-cases}

-- An outcome leaves the round.
abbrev Leaves : Store → Outcome → Type 0
Leaves s x = (next_store x s).tail.round ≡ s.tail.round

-- A pick, or a call that leaves the round.
pub rule_round : (c : StoreCall) (s : Store) → (c ≡ pick) ⊎ Leaves s (rule_of c s)
unfolding rule_of open_rule open_done fetch_rule fetch_done evict_rule evict_done prepare_rule
    prepare_done
    step_rule_of step_broken step_done issue_rule issue_done issued_store saved_store drop_rule
    drop_done
    allow_rule allow_done with_master with_last with_sites with_cache with_caches with_marks
    with_writer
    with_run mayhold_rule mayhold_done maysave_rule with_tail_of
    fork_rule_of fork_done join_rule_of join_broken join_done
rule_round (open_run r l) s =
    inr (unless-cases (Leaves s) (open_cause s r l) (open_done s r l) (λ _. refl) (λ _. refl))
rule_round (fetch o k) s =
    inr (unless-cases (Leaves s) (fetch_cause s o k) (fetch_done s o k) (λ _. refl) (λ _. refl))
rule_round (evict o k) s =
    inr (unless-cases (Leaves s) (evict_cause s o k) (evict_done s o k) (λ _. refl) (λ _. refl))
rule_round (prepare r) s =
    inr (unless-cases (Leaves s) (prepare_cause s r) (prepare_done s r) (λ _. refl) (λ _. refl))
rule_round (step r j n) s =
    let b = any_below s.counts.keys (step_moved s r j n) in
    inr (unless-cases (Leaves s) (step_cause s r j n)
    (cond b (step_broken s r j n) (step_done s r j n))
    (λ _. test b (λ y. rw y refl) (λ n. rw n refl)) (λ _. refl))
rule_round (issue r w S) s =
    inr (unless-cases (Leaves s) (issue_cause s r w S) (issue_done s r w S)
    (λ _. test (eqb S 0) (λ y. rw y refl) (λ n. rw n refl)) (λ _. refl))
rule_round (drop_run r) s =
    inr (unless-cases (Leaves s) (drop_cause s r) (drop_done s r) (λ _. refl) (λ _. refl))
rule_round (allow o n) s =
    inr (unless-cases (Leaves s) (allow_cause s o n) (allow_done s o n) (λ _. refl) (λ _. refl))
rule_round pick s = inl refl
rule_round (mayhold o m) s =
    inr (unless-cases (Leaves s) (right_cause s s.counts.sites o m) (mayhold_done s o m)
    (λ _. refl) (λ _. refl))
rule_round (maysave w m) s =
    inr (unless-cases (Leaves s) (right_cause s s.counts.writers w m) _ (λ _. refl) (λ _. refl))
rule_round (fork r) s =
    inr (unless-cases (Leaves s) (fork_cause s r) (fork_done s r) (λ _. refl) (λ _. refl))
rule_round (join r) s =
    let b = any_below s.counts.keys (join_moved s r) in
    inr (unless-cases (Leaves s) (join_cause s r) (cond b (join_broken s r) (join_done s r))
    (λ _. test b (λ y. rw y refl) (λ n. rw n refl)) (λ _. refl))
rule_round (ask q) s = inr (replied-cases (Leaves s) (reply_of q s) refl refl)
