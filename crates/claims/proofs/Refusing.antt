-- A call is refused by the numbers that are listed for it.
-- refused_as_listed: of every call on any buffer. eleven_alone: 11 is admit's.
-- Assumes nothing.
use mathlib.Core.Path.{◌≡◌, refl, sym, ap, subst, ◌∙◌}
use mathlib.Core.Bool.{Bool, true, false, So, cond, true≢false, ◌||◌}
use mathlib.Core.List.{List, [], ◌∷◌}
use Prim.Native.Nat.{ℕ}
use lib.Dec.{eqb, ltb}
use Rattle.words.specs.Tests.{any_below}
use Rattle.words.proofs.Bools.{test, clash, or_right}
use Rattle.model.specs.Store.{Store}
use Rattle.model.specs.Outcome.{Outcome, refused, broken, done, told, refuse, unless, replied, run_cause}
use Rattle.model.specs.Caches.{fetch_cause, fetch_done, fetch_rule, evict_cause, evict_done, evict_rule}
use Rattle.model.specs.Runs.{open_cause, open_done, open_rule, drop_cause, drop_done, drop_rule}
use Rattle.model.specs.Prepare.{prepare_cause, prepare_done, prepare_rule}
use Rattle.model.specs.Step.{job_cause, step_cause, step_moved, step_broken, step_done, step_rule_of}
use Rattle.model.specs.Issue.{raise_cause, issue_cause, issue_done, issue_rule}
use Rattle.model.specs.Calls.Allow.{allow_cause, allow_done, allow_rule}
use Rattle.model.specs.Calls.Rights.{right_cause, mayhold_done, mayhold_rule, maysave_rule}
use Rattle.model.specs.Calls.Fork.{fork_cause, fork_done, fork_rule_of, join_moved, join_cause, join_done, join_broken, join_rule_of}
use Rattle.model.specs.Calls.Pick.{pick_turn, pick_done, pick_rule}
use Rattle.model.specs.Calls.Look.{look_cause, look_reply}
use Rattle.model.specs.Calls.Explain.{explain_reply}
use Rattle.model.specs.Calls.Stale.{stale_cause, stale_reply}
use Rattle.model.specs.Calls.Audit.{unreadable, judged, audit_reply}
use Rattle.model.specs.Calls.Admit.{admit_cause, admit_reply}
use Rattle.model.specs.Calls.Forecast.{forecast_cause, forecast_reply}
use Rattle.model.specs.Calls.{Query, look, explain, stale, admit, forecast, StoreCall, open_run, fetch, evict, prepare, step, issue, drop_run, allow, pick, mayhold, maysave, fork, join, ask, reply_of, rule_of}
use Rattle.layout.specs.Reading.{store_of}
use Rattle.layout.specs.Buffer.{in_form}
use Rattle.layout.specs.Calls.{new, audit, on, new_cause, new_on, on_store, call_on}
use Rattle.claims.specs.Refusals.{is_one_of, asked_refusals, store_refusals, refusals_of, RefusedAsListed, ElevenAlone}

-- ---- rows of the refusal table

-- The number of a refusal; 0 of any other outcome.
abbrev number : Outcome → ℕ
number (refused n) = n
number (broken m u) = 0
number (done a u) = 0
number (told w a) = 0

-- An outcome that isn't refused.
abbrev Taken : Outcome → Type 0
Taken x = (n : ℕ) → ¬ (x ≡ refused n)

abbrev refusal : Outcome → Bool
refusal (refused n) = true
refusal (broken m u) = false
refusal (done a u) = false
refusal (told w a) = false

taken : (x : Outcome) → refusal x ≡ false → Taken x
taken x f n e = true≢false (sym (ap refusal e) ∙ f)

-- A number of the list.
record In (L : List ℕ) (n : ℕ) : Type 0 where
  pub is : So (is_one_of n L)

-- No cause.
none : {L : List ℕ} → In (0 ∷ L) 0
none = record { is = refl }

-- One row more: its number is listed, and so are those below.
row : {L : List ℕ} (b : Bool) (n rest : ℕ) → So (is_one_of n L) → In L rest
    → In L (refuse b n rest)
unfolding refuse
row true n rest p q = record { is = p }
row false n rest p q = q

choice : {L : List ℕ} (b : Bool) (n m : ℕ) → In L n → In L m → In L (cond b n m)
choice true n m p q = p
choice false n m p q = q

-- Refused for a cause that is 0 or listed.
by-cause : (c n : ℕ) (x : Outcome) (L : List ℕ) → Taken x → In (0 ∷ L) c
    → unless c x ≡ refused n → In L n
unfolding unless
by-cause c n x L t p e =
    test (eqb c 0)
    (λ y. absurd (t n (sym (ap (λ (b : Bool). cond b x (refused c)) y) ∙ e)))
    (λ y. let f : refused c ≡ refused n = sym (ap (λ (b : Bool). cond b x (refused c)) y) ∙ e in
    subst (In L) (ap number f)
    (record { is = subst (λ (b : Bool). So (b || is_one_of c L)) y p.is }))

-- ---- the calls

step-taken : (s : Store) (r j n : ℕ) (b : Bool)
    → Taken (cond b (step_broken s r j n) (step_done s r j n))
unfolding step_broken step_done
step-taken s r j n true = taken _ refl
step-taken s r j n false = taken _ refl

step-listed : (s : Store) (r j n : ℕ) →
    In (0 ∷ 3 ∷ 4 ∷ 14 ∷ 6 ∷ 13 ∷ 7 ∷ 12 ∷ []) (step_cause s r j n)
unfolding step_cause job_cause
step-listed s r j n =
    row _ _ _ refl (row _ _ _ refl (row _ _ _ refl (row _ _ _ refl (row _ _ _ refl
    (row _ _ _ refl (row _ _ _ refl (row _ _ _ refl none)))))))

join-taken : (s : Store) (r : ℕ) (b : Bool) → Taken (cond b (join_broken s r) (join_done s r))
unfolding join_broken join_done
join-taken s r true = taken _ refl
join-taken s r false = taken _ refl

abbrev issuing : List ℕ
issuing = 0 ∷ 3 ∷ 4 ∷ 14 ∷ 6 ∷ 13 ∷ 9 ∷ 10 ∷ []

raise-listed : (s : Store) (w : ℕ) → In issuing (raise_cause s w)
unfolding raise_cause
raise-listed s w = row _ _ _ refl (row _ _ _ refl none)

issue-listed : (s : Store) (r w S : ℕ) → In issuing (issue_cause s r w S)
unfolding issue_cause run_cause
issue-listed s r w S =
    row _ _ _ refl (row _ _ _ refl (row _ _ _ refl (row _ _ _ refl (row _ _ _ refl
    (row _ _ _ refl (row _ _ _ refl (choice (eqb S 0) 0 (raise_cause s w) none
    (raise-listed s w))))))))

-- Pick is refused by nothing.
pick-taken : (s : Store) → Taken (pick_rule s)
unfolding pick_rule pick_done
pick-taken s =
    test (ltb (pick_turn s) s.counts.runs) (λ y. rw y (taken _ refl)) (λ n. rw n (taken _ refl))

asked : (q : Query) (s : Store) → In (0 ∷ asked_refusals q) (reply_of q s).cause
unfolding reply_of asked_refusals look_reply look_cause explain_reply stale_reply stale_cause
    admit_reply
    admit_cause forecast_reply forecast_cause run_cause
asked (look p i k) s =
    row _ _ _ refl (row _ _ _ refl (row _ _ _ refl (row _ _ _ refl none)))
asked (explain r j n) s = step-listed s r j n
asked (stale o) s = row _ _ _ refl none
asked admit s = row _ _ _ refl none
asked (forecast n r) s =
    row _ _ _ refl (row _ _ _ refl (row _ _ _ refl (row _ _ _ refl none)))

rule_listed : (c : StoreCall) (s : Store) (n : ℕ) → rule_of c s ≡ refused n
    → In (store_refusals c) n
unfolding rule_of store_refusals open_rule open_cause open_done run_cause fetch_rule fetch_cause
    fetch_done
    evict_rule evict_cause evict_done prepare_rule prepare_cause prepare_done step_rule_of
    issue_rule
    issue_done drop_rule drop_cause drop_done allow_rule allow_cause allow_done mayhold_rule
    mayhold_done
    maysave_rule right_cause fork_rule_of fork_cause fork_done join_rule_of join_cause replied
rule_listed (open_run r l) s n e =
    by-cause _ n _ _ (taken _ refl)
    (row _ _ _ refl (row _ _ _ refl (row _ _ _ refl none))) e
rule_listed (fetch o k) s n e =
    by-cause _ n _ _ (taken _ refl)
    (row _ _ _ refl (row _ _ _ refl (row _ _ _ refl (row _ _ _ refl (row _ _ _ refl none))))) e
rule_listed (evict o k) s n e =
    by-cause _ n _ _ (taken _ refl)
    (row _ _ _ refl (row _ _ _ refl (row _ _ _ refl none))) e
rule_listed (prepare r) s n e =
    by-cause _ n _ _ (taken _ refl)
    (row _ _ _ refl (row _ _ _ refl (row _ _ _ refl (row _ _ _ refl (row _ _ _ refl
    (row _ _ _ refl (row _ _ _ refl none))))))) e
rule_listed (step r j i) s n e =
    by-cause _ n _ _ (step-taken s r j i (any_below s.counts.keys (step_moved s r j i)))
    (step-listed s r j i) e
rule_listed (issue r w S) s n e = by-cause _ n _ _ (taken _ refl) (issue-listed s r w S) e
rule_listed (drop_run r) s n e =
    by-cause _ n _ _ (taken _ refl) (row _ _ _ refl (row _ _ _ refl none)) e
rule_listed (allow o k) s n e =
    by-cause _ n _ _ (taken _ refl)
    (row _ _ _ refl (row _ _ _ refl (row _ _ _ refl none))) e
rule_listed pick s n e = absurd (pick-taken s n e)
rule_listed (mayhold o m) s n e =
    by-cause _ n _ _ (taken _ refl) (row _ _ _ refl (row _ _ _ refl none)) e
rule_listed (maysave w m) s n e =
    by-cause _ n _ _ (taken _ refl) (row _ _ _ refl (row _ _ _ refl none)) e
rule_listed (fork r) s n e =
    by-cause _ n _ _ (taken _ refl) (row _ _ _ refl (row _ _ _ refl (row _ _ _ refl none))) e
rule_listed (join r) s n e =
    by-cause _ n _ _ (join-taken s r (any_below s.counts.keys (join_moved s r)))
    (row _ _ _ refl (row _ _ _ refl (row _ _ _ refl none))) e
rule_listed (ask q) s n e = by-cause _ n _ _ (taken _ refl) (asked q s) e

-- ---- on any buffer

pub refused_as_listed : RefusedAsListed
unfolding call_on audit_reply replied unless new_on new_cause on_store refusals_of
refused_as_listed (new k w n p) l m e =
    (by-cause _ m _ (2 ∷ 1 ∷ []) (taken _ refl)
    (row _ _ _ refl (row _ _ _ refl none)) e).is
refused_as_listed (audit unreadable) l m e =
    subst (λ (i : ℕ). So (is_one_of i (15 ∷ []))) (ap number e) refl
refused_as_listed (audit (judged n)) l m e = absurd (taken _ refl m e)
refused_as_listed (on c) l m e =
    test (in_form l)
    (λ y. or_right (eqb m 1) (rule_listed c (store_of l) m
    (sym (ap (λ (b : Bool). cond b (rule_of c (store_of l)) (refused 1)) y) ∙ e)).is)
    (λ y. subst (λ (i : ℕ). So (is_one_of i (1 ∷ store_refusals c)))
    (ap number (sym (ap (λ (b : Bool). cond b (rule_of c (store_of l)) (refused 1)) y) ∙ e)) refl)

pub eleven_alone : ElevenAlone
unfolding refusals_of store_refusals asked_refusals
eleven_alone (new k w n p) l e = clash (refused_as_listed (new k w n p) l 11 e) refl
eleven_alone (audit v) l e = clash (refused_as_listed (audit v) l 11 e) refl
eleven_alone (on (open_run r j)) l e = clash (refused_as_listed (on (open_run r j)) l 11 e) refl
eleven_alone (on (fetch o k)) l e = clash (refused_as_listed (on (fetch o k)) l 11 e) refl
eleven_alone (on (evict o k)) l e = clash (refused_as_listed (on (evict o k)) l 11 e) refl
eleven_alone (on (prepare r)) l e = clash (refused_as_listed (on (prepare r)) l 11 e) refl
eleven_alone (on (step r j n)) l e = clash (refused_as_listed (on (step r j n)) l 11 e) refl
eleven_alone (on (issue r w S)) l e = clash (refused_as_listed (on (issue r w S)) l 11 e) refl
eleven_alone (on (drop_run r)) l e = clash (refused_as_listed (on (drop_run r)) l 11 e) refl
eleven_alone (on (allow o n)) l e = clash (refused_as_listed (on (allow o n)) l 11 e) refl
eleven_alone (on pick) l e = clash (refused_as_listed (on pick) l 11 e) refl
eleven_alone (on (mayhold o m)) l e = clash (refused_as_listed (on (mayhold o m)) l 11 e) refl
eleven_alone (on (maysave w m)) l e = clash (refused_as_listed (on (maysave w m)) l 11 e) refl
eleven_alone (on (fork r)) l e = clash (refused_as_listed (on (fork r)) l 11 e) refl
eleven_alone (on (join r)) l e = clash (refused_as_listed (on (join r)) l 11 e) refl
eleven_alone (on (ask (look p i k))) l e =
    clash (refused_as_listed (on (ask (look p i k))) l 11 e) refl
eleven_alone (on (ask (explain r j n))) l e =
    clash (refused_as_listed (on (ask (explain r j n))) l 11 e) refl
eleven_alone (on (ask (stale o))) l e = clash (refused_as_listed (on (ask (stale o))) l 11 e) refl
eleven_alone (on (ask admit)) l e = refl
eleven_alone (on (ask (forecast n r))) l e =
    clash (refused_as_listed (on (ask (forecast n r))) l 11 e) refl
