-- A call that is made, or refused, and the form of the buffer after it.
-- does_it, does_not, not-made: what a call that was made, or refused, comes to. call-form,
-- made-form: in form stays in form, and an accepted call leaves it in form.
-- Assumes nothing.
use mathlib.Core.Path.{◌≡◌, refl, sym, ap, subst, ◌∙◌}
use mathlib.Core.Bool.{Bool, false, So, ◌&&◌, ◌||◌}
use mathlib.Core.Logic.{⊎_elim}
use mathlib.Core.List.{List, [], ◌∷◌}
use mathlib.Core.Option.{Option, none, some}
use Prim.Native.Nat.{ℕ, suc, ◌≤◌, ◌<◌}
use native.Mathlib.Omega.{arith}
use lib.Dec.{eqb, leb, ltb}
use lib.ListN.{length, get_or, take}
use borrow.Author.Tests.{lt-ltb, le-leb, not-true, not-false}
use Rattle.words.proofs.Bools.{clash, test, and_left, and_right, and_cases, or_true_right, or-false-right, leb-le, eqb-eq, eqb-ne}
use Rattle.sizes.specs.Bounds.{counts_of}
use Rattle.answers.specs.Answers.{max_answer, answer_room, over, Lays}
use Rattle.model.specs.Outcome.{Outcome, refused, broken, done, told, answer}
use Rattle.model.specs.Calls.{StoreCall, Query, open_run, ask}
use Rattle.layout.specs.Buffer.{in_form}
use Rattle.layout.specs.Calls.{Call, new, audit, on, new_cause, call_on, leaves, is_new, is_ok_of}
use Rattle.layout.proofs.Follow.{fine-form}
use Rattle.layout.specs.Forecast.{foreseen}
use Rattle.layout.proofs.Foreseeing.{foreseen-none}
use Rattle.layout.proofs.Forms.{no-form, form-kept, audit-leaves, ask-leaves}
use Rattle.layout.proofs.Rules.{new-fine, new-done, new-refused}
use Rattle.records.specs.Audit.{verdict_of, audit_of, audit_call}
use Rattle.records.proofs.Exact.{audit_anywhere}
use Rattle.command.specs.declared.Command.{Command}
use Rattle.command.specs.Commands.{spelled}
use Rattle.calls.specs.Performs.{asks_new, Does, Exported, scratch_after, TurnedDown, Made, MadeOf}

-- ---- one call

-- w: the words of the call's answer.
does_it : (c : Call) (l m a b w : List ℕ) (n : ℕ) → w ≡ answer (call_on c l)
    → m ≡ leaves (call_on c l) l → Lays w a b n → n ≤ max_answer → Does c l m a b n
does_it c l m a b w n p q r f = record {
  answers = subst (λ (v : List ℕ). Lays v a b n) p r;
  changes = q;
  few = f;
}

-- On a buffer that isn't in form.
does_not : (c : StoreCall) (l a b : List ℕ) (n : ℕ) → in_form l ≡ false
    → Lays (2 ∷ 1 ∷ []) a b n → Does (on c) l l a b n
unfolding answer leaves
does_not c l a b n f r =
    let out = no-form c l f in record {
      answers = rw out r;
      changes = rw out refl;
      few = omega (arith, r.count);
    }

-- An answer slice that is too short.
pub export_short : (c : Call) (l a : List ℕ) → length a < answer_room → Exported c l l a a 0
export_short c l a h = record {
  does = λ f. absurd (omega (arith, f, h));
  short = λ _. (refl, refl, refl);
}

pub export_done : (c : Call) (l m a b w : List ℕ) (n : ℕ) → answer_room ≤ length a
    → w ≡ answer (call_on c l) → m ≡ leaves (call_on c l) l → Lays w a b n → n ≤ max_answer
    → Exported c l m a b n
export_done c l m a b w n h p q r f = record {
  does = λ _. does_it c l m a b w n p q r f;
  short = λ s. absurd (omega (arith, s, h));
}

-- A call that only answers.
pub export_asked : (q : Query) (l a b w : List ℕ) (n : ℕ) → answer_room ≤ length a
    → w ≡ answer (call_on (on (ask q)) l) → Lays w a b n → n ≤ max_answer
    → Exported (on (ask q)) l l a b n
export_asked q l a b w n h p r f = export_done _ l l a b w n h p (sym (ask-leaves q l)) r f

-- An audit, on any desk.
pub audits-done : (b l a c w : List ℕ) (n : ℕ) → answer_room ≤ length a → w ≡ answer (audit_of b)
    → Lays w a c n → n ≤ max_answer → Exported (audit_call b) l l a c n
audits-done b l a c w n h p r f =
    export_done (audit_call b) l l a c w n h (p ∙ ap answer (sym (audit_anywhere b l)))
    (sym (audit-leaves (verdict_of b) l)) r f

-- The count of an answer's words, in fewer bits.
pub count_fits : (a b w : List ℕ) (n : ℕ) → Lays w a b n → length w ≤ max_answer → n < 4294967296
count_fits a b w n r f = omega (arith, r.count, f)

pub count_same : (a b w : List ℕ) (n k : ℕ) → k ≡ n → Lays w a b n → Lays w a b k
count_same a b w n k e r = rw e r

-- An answer that is counted in fewer bits: k for n.
pub done_counted : (c : Call) (l m a b w : List ℕ) (n k : ℕ) → answer_room ≤ length a
    → w ≡ answer (call_on c l) → m ≡ leaves (call_on c l) l → Lays w a b n → length w ≤ max_answer
    → k ≡ n → Exported c l m a b k
done_counted c l m a b w n k h p q r f e =
    export_done c l m a b w k h p q (count_same a b w n k e r) (omega (arith, e, r.count, f))

pub asked_counted : (q : Query) (l a b w : List ℕ) (n k : ℕ) → answer_room ≤ length a
    → w ≡ answer (call_on (on (ask q)) l) → Lays w a b n → length w ≤ max_answer → k ≡ n
    → Exported (on (ask q)) l l a b k
asked_counted q l a b w n k h p r f e =
    done_counted _ l l a b w n k h p (sym (ask-leaves q l)) r f e

-- f: whether the buffer is in form. g: whether the call can be made.
module _ (l a : List ℕ) (f g : Bool) (e : f ≡ in_form l)
    (d : g ≡ f && leb answer_room (length a)) where
  pub can-make-form : So g → So (in_form l)
  can-make-form y = sym e ∙ and_left f (leb answer_room (length a)) (sym d ∙ y)

  pub can-make-room : So g → answer_room ≤ length a
  can-make-room y =
      leb-le answer_room (length a) (and_right f (leb answer_room (length a)) (sym d ∙ y))

  pub export_not : (c : StoreCall) (b : List ℕ) (n : ℕ) → g ≡ false → TurnedDown a b n
      → Exported (on c) l l a b n
  export_not c b n z t = record {
    does = λ h.
        ⊎_elim (λ y. does_not c l a b n (sym e ∙ y) (t.laid h))
        (λ y. clash (le-leb answer_room (length a) h) y)
        (and_cases f (leb answer_room (length a)) (sym d ∙ z));
    short = λ h. let s = t.short h in (s.0, refl, s.1);
  }

  -- The scratch of a forecast that isn't made.
  pub scratch-not : (m : List ℕ) (r : ℕ) → g ≡ false → m ≡ scratch_after l m r a
  unfolding scratch_after
  scratch-not m r z =
      ⊎_elim
      (λ y. rw (foreseen-none l m r (sym e ∙ y)) (test (leb answer_room (length a))
      (λ h. rw h) (λ h. rw h)))
      (λ y. rw y) (and_cases f (leb answer_room (length a)) (sym d ∙ z))

  -- And of one that is.
  pub scratch-made : (m x : List ℕ) (r : ℕ) → So g → x ≡ foreseen l m r
      → x ≡ scratch_after l m r a
  unfolding scratch_after
  scratch-made m x r y q = rw (le-leb _ _ (can-make-room y)) q

-- Open's job words are told by another number that is the same.
pub does_open : (r k j : ℕ) (ws l m a b : List ℕ) (n : ℕ) → k ≡ j
    → Does (on (open_run r (take k ws))) l m a b n → Does (on (open_run r (take j ws))) l m a b n
does_open r k j ws l m a b n e d =
    subst (λ (i : ℕ). Does (on (open_run r (take i ws))) l m a b n) e d

-- And so are the words of a record.
pub does-audit : (k j : ℕ) (ws l a b : List ℕ) (n : ℕ) → k ≡ j
    → Does (audit_call (take k ws)) l l a b n → Does (audit_call (take j ws)) l l a b n
does-audit k j ws l a b n e d = subst (λ (i : ℕ). Does (audit_call (take i ws)) l l a b n) e d

-- The call that a command spells.
pub made_of : (k j : Command) (ws l m a b : List ℕ) (n : ℕ) (c : Call) → k ≡ j
    → Exported c l m a b n → spelled j ws ≡ some c → answer_room ≤ length a
    → MadeOf k ws l m a b n
unfolding Made MadeOf
made_of k j ws l m a b n c e x s h = rw (e, s) (x.does h)

-- What a function of `calls` is asked: whether it may make its call, and what that comes to.
pub ruleset exports = (
  export_short,
  export_not,
  export_done,
  export_asked,
  count_fits,
  can-make-form,
  can-make-room,
  not-true,
  not-false,
)

-- ---- the form of the buffer after a call

pub call-form : (c : Call) (l : List ℕ)
    → in_form l || (is_new c && is_ok_of (call_on c l)) ≡ in_form (leaves (call_on c l) l)
unfolding leaves is_ok_of is_new call_on
call-form (audit v) l = rw (audit-leaves v l) (or-false-right (in_form l))
call-form (on c) l =
    test (in_form l) (λ yes. rw yes (sym (form-kept c l yes)))
    (λ no. rw (no-form c l no) (or-false-right (in_form l)))
call-form (new k w n p) l =
    let z = counts_of k w n p in
    test (eqb (new_cause l z) 0)
    (λ t. let e = eqb-eq (new_cause l z) 0 t in
    rw (new-done l z e)
    (or_true_right (in_form l) ∙ sym (fine-form _ l (new-fine l k w n p e))))
    (λ t. rw (new-refused l z (eqb-ne (new_cause l z) 0 t)) (or-false-right (in_form l)))

-- Whether a call was answered `ok` is told by its first word.
first-ok : (x : Outcome) (a : List ℕ)
    → ltb 0 (length (answer x)) && eqb (get_or (over (answer x) a) 0 0) 0 ≡ is_ok_of x
unfolding answer over is_ok_of
first-ok (refused n) a = refl
first-ok (broken m s) a = refl
first-ok (done b s) a = rw (lt-ltb 0 (suc (length b)) (omega arith))
first-ok (told w b) a = rw (lt-ltb 0 (suc (length b)) (omega arith))

pub made-form : (o : Option Call) (l m a b : List ℕ) (n : ℕ) → Made o l m a b n
    → in_form l || (asks_new o && (ltb 0 n && eqb (get_or b 0 0) 0)) ≡ in_form m
unfolding Made asks_new
made-form none l m a b n (e, f, g) = rw e (or-false-right (in_form l))
made-form (some c) l m a b n d =
    rw (d.changes, d.answers.count, d.answers.laid, first-ok (call_on c l) a)
    (call-form c l)
