-- No shelf holds a barred sheet after any call on a buffer in form, and what is read and saved is
-- what may be: a call that is answered ok has passed every row.
-- Assumes nothing.
use mathlib.Core.Path.{◌≡◌, refl, sym, ap, ◌∙◌}
use mathlib.Core.Bool.{So, true≢false, cond}
use mathlib.Core.List.{List}
use Prim.Native.Nat.{ℕ}
use native.Mathlib.Omega.{arith}
use lib.Dec.{eqb}
use Rattle.words.specs.Tests.{any_below}
use Rattle.words.proofs.Bools.{test, clash, eqb-eq, eq-eqb}
use Rattle.model.specs.Store.{Store}
use Rattle.model.specs.Outcome.{Outcome, refused, done, unless}
use Rattle.model.specs.Caches.{fetch_cause, fetch_done, fetch_rule}
use Rattle.model.specs.Prepare.{prepare_cause, prepare_done, prepare_rule}
use Rattle.model.specs.Step.{step_site, step_reads, step_moved, step_broken, step_done, step_cause, step_rule_of}
use Rattle.model.specs.Issue.{issue_cause, issue_done, issue_rule}
use Rattle.model.specs.Calls.{StoreCall, fetch, prepare, step, issue, rule_of}
use Rattle.model.proofs.Outcomes.{no-cause}
use Rattle.model.proofs.Steps.{accepted}
use Rattle.model.proofs.Rights.{unbarred-at}
use Rattle.model.proofs.Formed.{well-out}
use Rattle.model.proofs.Entitled.{step-entitled, prepare-entitled, issue-entitled}
use Rattle.layout.specs.Reading.{store_of}
use Rattle.layout.specs.Buffer.{in_form}
use Rattle.layout.specs.Calls.{on, call_on, leaves}
use Rattle.layout.proofs.Follow.{form-fine}
use Rattle.layout.proofs.Forms.{form-kept, form-refused, no-form}
use Rattle.consistency.specs.Claim.{is_refused}
use Rattle.consistency.proofs.Marking.{unbarred}
use Rattle.claims.specs.Rights.{StaysUnbarred, TakesEntitled, PreparesEntitled, ReadsEntitled, SavesEntitled}

pub stays-unbarred : StaysUnbarred
stays-unbarred l c F =
    let m = leaves (call_on (on c) l) l in
    unbarred (store_of m) (form-fine m (form-kept c l F))

refused-not : {n : ℕ} {a : List ℕ} {t : Store} → ¬ (refused n ≡ done a t)
unfolding is_refused
refused-not e = true≢false (ap is_refused e)

-- A call that is answered ok: the buffer is in form, and there is no cause.
formed : (c : StoreCall) (l : List ℕ) (a : List ℕ) (t : Store) → call_on (on c) l ≡ done a t
    → So (in_form l)
formed c l a t f =
    test (in_form l) (λ F. F) (λ N. absurd (refused-not (sym (no-form c l N) ∙ f)))

free : (c : StoreCall) (l : List ℕ) (n : ℕ) (x : Outcome) (a : List ℕ) (t : Store)
    → rule_of c (store_of l) ≡ unless n x → call_on (on c) l ≡ done a t → n ≡ 0
free c l n x a t e f =
    test (in_form l)
    (λ F. test (eqb n 0) (λ y. eqb-eq n 0 y) (λ y.
    absurd (refused-not (sym (form-refused c l n x F e (λ h. clash (eq-eqb n 0 h) y)) ∙ f))))
    (λ N. absurd (refused-not (sym (no-form c l N) ∙ f)))

pub takes-entitled : TakesEntitled
unfolding rule_of fetch_rule fetch_cause
takes-entitled l o k a t e d h p =
    let s = store_of l in
    let no = free (fetch o k) l (fetch_cause s o k) (fetch_done s o k) a t refl e in
    let x = no-cause _ 3 _ (omega arith) no in
    let y = no-cause _ 3 _ (omega arith) x.1 in
    let z = no-cause _ 13 _ (omega arith) y.1 in
    unbarred-at s.counts.keys (s.tail.may_hold o) _ z.0 d h p

pub prepares-entitled : PreparesEntitled
unfolding rule_of prepare_rule
prepares-entitled l r a t e j k lj lk p =
    let s = store_of l in
    let cause = free (prepare r) l (prepare_cause s r) (prepare_done s r) a t refl e in
    prepare-entitled s r j k (well-out s (form-fine l (formed (prepare r) l a t e)).formed) cause
    lj lk p

pub reads-entitled : ReadsEntitled
unfolding rule_of step_rule_of step_site step_reads
reads-entitled l r j n a t e k h p =
    let s = store_of l in
    let x = cond (any_below s.counts.keys (step_moved s r j n)) (step_broken s r j n)
    (step_done s r j n) in
    step-entitled s r j n k
    (accepted s r j n (free (step r j n) l (step_cause s r j n) x a t refl e)) h p

pub saves-entitled : SavesEntitled
unfolding rule_of issue_rule
saves-entitled l r w S a t e k h p =
    let s = store_of l in
    issue-entitled s r w S k
    (free (issue r w S) l (issue_cause s r w S) (issue_done s r w S) a t refl e) h p
