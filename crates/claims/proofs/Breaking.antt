-- Step and join alone break a run.
-- rule_breaks: a clause for each call. broken-alone: on any buffer.
-- Assumes nothing.
use mathlib.Core.Path.{◌≡◌, refl}
use mathlib.Core.Bool.{So, false}
use Prim.Native.Nat.{ℕ}
use lib.Dec.{ltb}
use Rattle.words.proofs.Bools.{test, clash}
use Rattle.model.specs.Store.{Store}
use Rattle.model.specs.Outcome.{Outcome, unless}
use Rattle.model.specs.Caches.{fetch_cause, fetch_done, fetch_rule, evict_cause, evict_done, evict_rule}
use Rattle.model.specs.Runs.{open_cause, open_done, open_rule, drop_cause, drop_done, drop_rule}
use Rattle.model.specs.Prepare.{prepare_cause, prepare_done, prepare_rule}
use Rattle.model.specs.Issue.{issue_cause, issue_done, issue_rule}
use Rattle.model.specs.Calls.Allow.{allow_cause, allow_done, allow_rule}
use Rattle.model.specs.Calls.Fork.{fork_cause, fork_done, fork_rule_of}
use Rattle.model.specs.Calls.Pick.{pick_turn, pick_done, pick_rule}
use Rattle.model.specs.Calls.Rights.{right_cause, mayhold_done, mayhold_rule, maysave_rule}
use Rattle.model.specs.Calls.{StoreCall, open_run, fetch, evict, prepare, step, issue, drop_run, allow, pick, mayhold, maysave, fork, join, ask, reply_of, rule_of}
use Rattle.model.proofs.Outcomes.{unless-cases, replied-cases}
use Rattle.layout.specs.Reading.{store_of}
use Rattle.layout.specs.Buffer.{in_form}
use Rattle.layout.proofs.Forms.{no-form, form_rule}
use Rattle.consistency.specs.Roles.{role_of}
use Rattle.consistency.specs.Claim.{is_broken}
use Rattle.claims.specs.Refusals.{may_break, BrokenAlone}

abbrev Whole : Outcome → Type 0
Whole x = is_broken x ≡ false

-- A call that does what it does, or is refused, breaks nothing.
whole : (n : ℕ) (x : Outcome) → Whole x → Whole (unless n x)
unfolding is_broken
whole n x e = unless-cases Whole n x (λ _. e) (λ _. refl)

rule_breaks : (c : StoreCall) (s : Store) → So (is_broken (rule_of c s)) → So (may_break
    (role_of c))
unfolding rule_of open_rule open_done fetch_rule fetch_done evict_rule evict_done prepare_rule
    prepare_done
    issue_rule issue_done drop_rule drop_done allow_rule allow_done pick_rule pick_done
    mayhold_rule
    mayhold_done maysave_rule fork_rule_of fork_done is_broken may_break role_of
rule_breaks (open_run r l) s p = clash p (whole (open_cause s r l) (open_done s r l) refl)
rule_breaks (fetch o k) s p = clash p (whole (fetch_cause s o k) (fetch_done s o k) refl)
rule_breaks (evict o k) s p = clash p (whole (evict_cause s o k) (evict_done s o k) refl)
rule_breaks (prepare r) s p = clash p (whole (prepare_cause s r) (prepare_done s r) refl)
rule_breaks (step r j n) s p = refl
rule_breaks (issue r w S) s p = clash p (whole (issue_cause s r w S) (issue_done s r w S) refl)
rule_breaks (drop_run r) s p = clash p (whole (drop_cause s r) (drop_done s r) refl)
rule_breaks (allow o n) s p = clash p (whole (allow_cause s o n) (allow_done s o n) refl)
rule_breaks pick s p =
    clash p (test (ltb (pick_turn s) s.counts.runs) (λ y. rw y refl) (λ n. rw n refl))
rule_breaks (mayhold o m) s p =
    clash p (whole (right_cause s s.counts.sites o m) (mayhold_done s o m) refl)
rule_breaks (maysave w m) s p = clash p (whole (right_cause s s.counts.writers w m) _ refl)
rule_breaks (fork r) s p = clash p (whole (fork_cause s r) (fork_done s r) refl)
rule_breaks (join r) s p = refl
rule_breaks (ask q) s p = clash p (replied-cases Whole (reply_of q s) refl refl)

pub broken-alone : BrokenAlone
unfolding is_broken
broken-alone c l p =
    test (in_form l)
    (λ F. rule_breaks c (store_of l) (rw (form_rule c l F) at p))
    (λ n. clash (rw (no-form c l n) at p) refl)
