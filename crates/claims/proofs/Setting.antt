-- Mayhold and maysave alone, of the calls on a store, set rights.
-- rule_rights: a clause for each call. set-by-calls: on a buffer in form.
-- Assumes nothing.
use mathlib.Core.Path.{◌≡◌, refl, sym, ap, ◌∙◌}
use mathlib.Core.Bool.{Bool, cond}
use lib.Dec.{eqb, ltb}
use Rattle.words.specs.Tests.{any_below}
use Rattle.words.proofs.Bools.{test}
use Rattle.model.specs.Store.{Store, with_master, with_last, with_sites, with_cache, with_caches, with_marks, with_writer, with_run, with_tail_of}
use Rattle.model.specs.Outcome.{Outcome}
use Rattle.model.specs.Caches.{fetch_cause, fetch_done, fetch_rule, evict_cause, evict_done, evict_rule}
use Rattle.model.specs.Runs.{open_cause, open_done, open_rule, drop_cause, drop_done, drop_rule}
use Rattle.model.specs.Prepare.{prepare_cause, prepare_done, prepare_rule}
use Rattle.model.specs.Step.{step_cause, step_moved, step_broken, step_done, step_rule_of}
use Rattle.model.specs.Issue.{issue_cause, saved_store, issued_store, issue_done, issue_rule}
use Rattle.model.specs.Calls.Allow.{allow_cause, allow_done, allow_rule}
use Rattle.model.specs.Calls.Fork.{fork_cause, fork_done, fork_rule_of, join_moved, join_cause, join_done, join_broken, join_rule_of}
use Rattle.model.specs.Calls.Pick.{pick_turn, pick_done, pick_rule}
use Rattle.model.specs.Calls.Rights.{right_cause, mayhold_done, mayhold_rule, maysave_rule}
use Rattle.model.specs.Calls.{StoreCall, open_run, fetch, evict, prepare, step, issue, drop_run, allow, pick, mayhold, maysave, fork, join, ask, reply_of, rule_of}
use Rattle.model.proofs.Outcomes.{next_store, unless-cases, replied-cases}
use Rattle.layout.specs.Reading.{store_of}
use Rattle.layout.specs.Calls.{on, call_on, is_ok_of}
use Rattle.layout.proofs.Forms.{form_rule, left-store}
use Rattle.claims.specs.Rights.{right_of_at, hold_after, save_after, SetByCalls}

-- An outcome of a call leaves the rights that it should.
abbrev Sets : StoreCall → Store → Outcome → Type 0
Sets c s x =
    ((next_store x s).tail.may_hold ≡ hold_after (right_of_at c) (is_ok_of x) s.tail.may_hold)
    × ((next_store x s).tail.may_save ≡ save_after (right_of_at c) (is_ok_of x) s.tail.may_save)

rule_rights : (c : StoreCall) (s : Store) → Sets c s (rule_of c s)
unfolding rule_of open_rule open_done fetch_rule fetch_done evict_rule evict_done prepare_rule
    prepare_done
    step_rule_of step_broken step_done issue_rule issue_done issued_store saved_store drop_rule
    drop_done
    allow_rule allow_done pick_rule pick_done mayhold_rule mayhold_done maysave_rule with_master
    with_last
    with_sites with_cache with_caches with_marks with_writer with_run with_tail_of
    fork_rule_of fork_done join_rule_of join_broken join_done right_of_at hold_after save_after
    is_ok_of
rule_rights (open_run r l) s =
    unless-cases (Sets (open_run r l) s) (open_cause s r l) (open_done s r l) (λ _. (refl, refl))
    (λ _. (refl, refl))
rule_rights (fetch o k) s =
    unless-cases (Sets (fetch o k) s) (fetch_cause s o k) (fetch_done s o k) (λ _. (refl, refl))
    (λ _. (refl, refl))
rule_rights (evict o k) s =
    unless-cases (Sets (evict o k) s) (evict_cause s o k) (evict_done s o k) (λ _. (refl, refl))
    (λ _. (refl, refl))
rule_rights (prepare r) s =
    unless-cases (Sets (prepare r) s) (prepare_cause s r) (prepare_done s r) (λ _. (refl, refl))
    (λ _. (refl, refl))
rule_rights (step r j n) s =
    let b = any_below s.counts.keys (step_moved s r j n) in
    unless-cases (Sets (step r j n) s) (step_cause s r j n)
    (cond b (step_broken s r j n) (step_done s r j n))
    (λ _. test b (λ y. rw y (refl, refl)) (λ n. rw n (refl, refl))) (λ _. (refl, refl))
rule_rights (issue r w S) s =
    unless-cases (Sets (issue r w S) s) (issue_cause s r w S) (issue_done s r w S)
    (λ _. test (eqb S 0) (λ y. rw y (refl, refl)) (λ n. rw n (refl, refl))) (λ _. (refl, refl))
rule_rights (drop_run r) s =
    unless-cases (Sets (drop_run r) s) (drop_cause s r) (drop_done s r) (λ _. (refl, refl))
    (λ _. (refl, refl))
rule_rights (allow o n) s =
    unless-cases (Sets (allow o n) s) (allow_cause s o n) (allow_done s o n) (λ _. (refl, refl))
    (λ _. (refl, refl))
rule_rights pick s =
    test (ltb (pick_turn s) s.counts.runs) (λ y. rw y (refl, refl)) (λ n. rw n (refl, refl))
rule_rights (mayhold o m) s =
    unless-cases (Sets (mayhold o m) s) (right_cause s s.counts.sites o m) (mayhold_done s o m)
    (λ _. (refl, refl)) (λ _. (refl, refl))
rule_rights (maysave w m) s =
    unless-cases (Sets (maysave w m) s) (right_cause s s.counts.writers w m) _
    (λ _. (refl, refl)) (λ _. (refl, refl))
rule_rights (fork r) s =
    unless-cases (Sets (fork r) s) (fork_cause s r) (fork_done s r) (λ _. (refl, refl))
    (λ _. (refl, refl))
rule_rights (join r) s =
    let b = any_below s.counts.keys (join_moved s r) in
    unless-cases (Sets (join r) s) (join_cause s r) (cond b (join_broken s r) (join_done s r))
    (λ _. test b (λ y. rw y (refl, refl)) (λ n. rw n (refl, refl))) (λ _. (refl, refl))
rule_rights (ask q) s =
    replied-cases (Sets (ask q) s) (reply_of q s) (refl, refl) (refl, refl)

pub set-by-calls : SetByCalls
set-by-calls l c F =
    let s = store_of l in
    let rule = rule_rights c s in
    let next = left-store c l F in
    let ok : is_ok_of (rule_of c s) ≡ is_ok_of (call_on (on c) l) = ap is_ok_of (sym
    (form_rule c l F)) in (
      ap (λ (t : Store). t.tail.may_hold) next ∙ rule.0
          ∙ ap (λ (b : Bool). hold_after (right_of_at c) b s.tail.may_hold) ok,
      ap (λ (t : Store). t.tail.may_save) next ∙ rule.1
          ∙ ap (λ (b : Bool). save_after (right_of_at c) b s.tail.may_save) ok,
    )
