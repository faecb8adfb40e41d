-- How long a run lasts, from what each call makes of the runs.
-- turned-lasts, turns-lasts: by its role, by its outcome. rule_lasts: a rule on a store.
-- lasting: the claim.
-- Assumes nothing.
use mathlib.Core.Path.{◌≡◌, refl, ap}
use mathlib.Core.Bool.{Bool, true, false, ◌&&◌, false≢true}
use mathlib.Core.Logic.{◌≢◌}
use Prim.Native.Nat.{ℕ}
use lib.Dec.{eqb}
use Rattle.words.proofs.Bools.{clash, and_intro, and-false-right, eq-eqb, ne_eqb}
use Rattle.words.proofs.Lists.{put_at_cases}
use Rattle.model.specs.Store.{Run, Store}
use Rattle.model.specs.Outcome.{Outcome, refused, broken, done, told, free_state}
use Rattle.model.specs.Calls.{StoreCall, rule_of}
use Rattle.model.proofs.Outcomes.{next_store}
use Rattle.layout.specs.Reading.{store_of}
use Rattle.layout.specs.Calls.{is_ok_of}
use Rattle.layout.proofs.Follow.{Fine, form-fine}
use Rattle.layout.proofs.Forms.{form_rule, left-store}
use Rattle.consistency.specs.Roles.{Role, opening, working, freeing, elsewhere, role_of, is_on, opens, frees}
use Rattle.consistency.specs.Lasting.{GoesOn, Lasts, Lasting}
use Rattle.consistency.proofs.Laws.{Changed, Turned, Turns}
use Rattle.consistency.proofs.Calls.{laws}

module _ (p : Role) (ok : Bool) where
  -- A run that is neither opened nor freed stays free, or goes on.
  goes_on : (r : ℕ) (a b : Run) → opens r p && ok ≡ false → frees r p && ok ≡ false
      → (is_on r p ≡ false → b ≡ a) → (a.state ≡ free_state → b.state ≡ free_state)
      → (a.state ≢ free_state → GoesOn a b) → Lasts p ok r a b
  goes_on r a b o f n e g = record {
    others = n;
    lasts = λ u _. g u;
    freed = λ y. clash y f;
    begun = λ z u. absurd (u (e z));
    opened = λ y. clash y o;
  }

  stays : (r : ℕ) (a : Run) → opens r p && ok ≡ false → frees r p && ok ≡ false
      → Lasts p ok r a a
  stays r a o f =
      goes_on r a a o f (λ _. refl) (λ e. e)
      (λ u. record { used = u; jobs = refl; job = λ i. refl })

  -- Run x alone is changed.
  put-lasts : {P : Run → Run → Type 0} (x r : ℕ) (f g : ℕ → Run) (C : Changed P x f g)
      → Lasts p ok x (f x) C.run → (r ≢ x → Lasts p ok r (f r) (f r))
      → Lasts p ok r (f r) (g r)
  put-lasts x r f g C L n =
      rw C.put (put_at_cases (Lasts p ok r (f r)) f x C.run r (λ e. rw e L) n)

-- An accepted call.
turned-lasts : (p : Role) (r : ℕ) (f g : ℕ → Run) → Turned p f g → Lasts p true r (f r) (g r)
unfolding is_on opens frees
turned-lasts (opening x) r f g T =
    let own = eq-eqb x x refl in
    put-lasts (opening x) true x r f g T (record {
      others = λ n. clash own n;
      lasts = λ u _. absurd (u T.how.0);
      freed = λ z. absurd (false≢true z);
      begun = λ _ _. and_intro own refl;
      opened = λ _. T.how;
    }) (λ n. stays (opening x) true r (f r) (rw (ne_eqb r x n) refl) refl)
turned-lasts (working x w) r f g T =
    put-lasts (working x w) true x r f g T
    (goes_on (working x w) true x (f x) T.run refl refl (λ n. clash (eq-eqb x x refl) n)
    (λ e. absurd (T.how.0 e)) (λ _. T.how.1))
    (λ _. stays (working x w) true r (f r) refl refl)
turned-lasts (freeing x) r f g T =
    let own = eq-eqb x x refl in
    put-lasts (freeing x) true x r f g T (record {
      others = λ n. clash own n;
      lasts = λ _ n. clash (and_intro own refl) n;
      freed = λ _. T.how;
      begun = λ _ u. absurd (u (ap (λ (a : Run). a.state) T.how));
      opened = λ z. absurd (false≢true z);
    }) (λ n. stays (freeing x) true r (f r) refl (rw (ne_eqb r x n) refl))
turned-lasts elsewhere r f g e = rw e (stays elsewhere true r (f r) refl refl)

-- A call, whatever it came to.
turns-lasts : (p : Role) (r : ℕ) (s : Store) (x : Outcome) → Turns p s x
    → Lasts p (is_ok_of x) r (s.run r) ((next_store x s).run r)
unfolding is_ok_of opens frees
turns-lasts p r s (refused n) T =
    stays p false r (s.run r) (and-false-right (opens r p)) (and-false-right (frees r p))
turns-lasts p r s (broken m t) (q, y, T) =
    put-lasts p false q r s.run t.run T
    (goes_on p false q (s.run q) T.run (and-false-right (opens q p))
    (and-false-right (frees q p)) (λ n. clash y n) (λ e. absurd (T.how.0 e)) (λ _. T.how.1))
    (λ _. stays p false r (s.run r) (and-false-right (opens r p)) (and-false-right (frees r p)))
turns-lasts p r s (done a t) T = turned-lasts p r s.run t.run T
turns-lasts p r s (told w a) e = rw e (stays elsewhere (eqb w 0) r (s.run r) refl refl)

pub rule_lasts : (c : StoreCall) (s : Store) (r : ℕ) → Fine s → let x = rule_of c s in
    Lasts (role_of c) (is_ok_of x) r (s.run r) ((next_store x s).run r)
rule_lasts c s r F = turns-lasts (role_of c) r s (rule_of c s) (laws c s F).turns

pub lasting : Lasting
lasting l c r f =
    let s = store_of l in
    let F = form-fine l f in
    rw (left-store c l f, form_rule c l f) (rule_lasts c s r F)
