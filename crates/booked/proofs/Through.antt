-- A prepared run goes through: lists of calls on buffers.
-- CarriedAt: a buffer in form in which run r is carried. call-run, call-mayhold, call-counts: what
-- a call makes of the run, and of what it goes by. call-carried, list-carried: it stays carried.
-- goes_through, never-stops, after-beginning: the claims.
-- untouched-..: what that test says, call by call.
-- Assumes nothing.
use mathlib.Core.Path.{◌≡◌, refl, sym, ap, ◌∙◌}
use mathlib.Core.Bool.{Bool, true, false, not, ◌&&◌, So, false≢true}
use mathlib.Core.Logic.{◌≢◌}
use mathlib.Core.List.{List, [], ◌∷◌, ◌++◌}
use Prim.Native.Nat.{ℕ}
use native.Mathlib.Omega.{arith}
use lib.ListN.{get_or}
use Rattle.words.proofs.Bools.{test, and_intro, and_left, and_right, not_elim}
use Rattle.sizes.specs.Bounds.{counts_of, total_of}
use Rattle.sizes.specs.declared.Counts.{Counts}
use Rattle.model.specs.Store.{Store, fresh}
use Rattle.model.specs.Outcome.{done, answer, refuse, unless, allowed, step_row, open_state}
use Rattle.model.specs.Prepare.{prepare_rule}
use Rattle.model.specs.Step.{job_cause}
use Rattle.model.specs.Calls.{StoreCall, prepare, step, rule_of}
use Rattle.model.proofs.Outcomes.{unless-cases}
use Rattle.layout.specs.Reading.{store_of}
use Rattle.layout.specs.Buffer.{in_form}
use Rattle.layout.specs.Calls.{Call, new, audit, on, new_cause, new_on, call_on, leaves, is_ok_of, after}
use Rattle.layout.proofs.Follow.{form-fine}
use Rattle.layout.proofs.Forms.{form_rule, form-kept, left-store, audit-leaves}
use Rattle.layout.proofs.Rules.{rule_kept}
use Rattle.consistency.specs.Trace.{follow}
use Rattle.consistency.proofs.Theorem.{began_consistent}
use Rattle.booked.specs.Prepared.{unsettles, disturbs, untouched, booked_cause, Smooth, prepared, steps_of, GoesThrough, NeverStops, AfterBeginning}
use Rattle.booked.proofs.Idle.{carried_step}
use Rattle.booked.proofs.Offices.{may_hold_after, rule_mayhold}
use Rattle.booked.proofs.Carried.{CarriedIn, prepare-carried, run_after, rule_run, rule_carried}

-- ---- one call

pub record CarriedAt (r : ℕ) (l : List ℕ) : Type 0 where
  pub formed : So (in_form l)
  pub carried : CarriedIn r (store_of l)

-- A refused new leaves the buffer.
new-refused : (k w n p : ℕ) (l : List ℕ) → let out = call_on (new k w n p) l in
    is_ok_of out ≡ false → leaves out l ≡ l
unfolding call_on new_on is_ok_of leaves
new-refused k w n p l =
    let z = counts_of k w n p in
    unless-cases (λ x. is_ok_of x ≡ false → leaves x l ≡ l) (new_cause l z)
    (done (total_of z ∷ []) (fresh z)) (λ _ f. absurd (false≢true (sym f))) (λ _ _. refl)

-- What offices may hold after a call that doesn't begin the desk anew.
unfoldable pub may_hold_by : Counts → Call → (ℕ → ℕ) → ℕ → ℕ
may_hold_by z (new k w n p) right = right
may_hold_by z (audit v) right = right
may_hold_by z (on c) right = may_hold_after z c right

module _ (r : ℕ) (l : List ℕ) (R : CarriedAt r l) where
  -- A call that doesn't disturb it,
  abbrev Quiet : Call → Type 0
  Quiet c = disturbs r c && is_ok_of (call_on c l) ≡ false

  -- by the rule on the store.
  rule_quiet : (c : StoreCall) → Quiet (on c)
      → unsettles r c && is_ok_of (rule_of c (store_of l)) ≡ false
  unfolding disturbs
  rule_quiet c e = rw (form_rule c l R.formed) at e

  pub call-run : (c : Call) → Quiet c → let s = store_of l in
      (store_of (leaves (call_on c l) l)).run r
      ≡ run_after s.counts r s.tail.may_hold (steps_of r c) (s.run r)
  unfolding disturbs steps_of run_after
  call-run (new k w n p) e = rw (new-refused k w n p l e) refl
  call-run (audit v) e = rw (audit-leaves v l) refl
  call-run (on c) e =
      rw (left-store c l R.formed)
      (rule_run r (store_of l) (form-fine l R.formed) R.carried c (rule_quiet c e))

  pub call-mayhold : (c : Call) → Quiet c → let s = store_of l in
      (store_of (leaves (call_on c l) l)).tail.may_hold
      ≡ may_hold_by s.counts c s.tail.may_hold
  unfolding disturbs may_hold_by
  call-mayhold (new k w n p) e = rw (new-refused k w n p l e) refl
  call-mayhold (audit v) e = rw (audit-leaves v l) refl
  call-mayhold (on c) e = rw (left-store c l R.formed) (rule_mayhold c (store_of l))

  pub call-counts : (c : Call) → Quiet c
      → (store_of (leaves (call_on c l) l)).counts ≡ (store_of l).counts
  unfolding disturbs
  call-counts (new k w n p) e = rw (new-refused k w n p l e) refl
  call-counts (audit v) e = rw (audit-leaves v l) refl
  call-counts (on c) e =
      rw (left-store c l R.formed)
      (rule_kept c (store_of l) (form-fine l R.formed)).counts

  pub call-carried : (c : Call) → Quiet c → CarriedAt r (leaves (call_on c l) l)
  unfolding disturbs
  call-carried (new k w n p) e = rw (new-refused k w n p l e) R
  call-carried (audit v) e = rw (audit-leaves v l) R
  call-carried (on c) e = record {
    formed = form-kept c l R.formed;
    carried = rw (left-store c l R.formed)
        (rule_carried r (store_of l) c (form-fine l R.formed) R.carried (rule_quiet c e));
  }

  -- A step of it.
  pub carried-calls : (j n : ℕ) → Smooth (store_of l) r j n (call_on (on (step r j n)) l)
  unfolding rule_of
  carried-calls j n =
      form_rule (step r j n) l R.formed
      ∙ carried_step (store_of l) r j n (form-fine l R.formed) R.carried

-- ---- lists

-- The two parts of `untouched`.
pub quiet-rest : (r : ℕ) (c : Call) (cs : List Call) (l : List ℕ) → So (untouched r (c ∷ cs) l)
    → So (untouched r cs (leaves (call_on c l) l))
unfolding untouched
quiet-rest r c cs l u =
    and_right (not (disturbs r c && is_ok_of (call_on c l)))
    (untouched r cs (leaves (call_on c l) l)) u

pub quiet-first : (r : ℕ) (c : Call) (cs : List Call) (l : List ℕ) → So (untouched r (c ∷ cs) l)
    → disturbs r c && is_ok_of (call_on c l) ≡ false
unfolding untouched
quiet-first r c cs l u =
    not_elim (and_left (not (disturbs r c && is_ok_of (call_on c l)))
    (untouched r cs (leaves (call_on c l) l)) u)

pub list-carried : (r : ℕ) (cs : List Call) (l : List ℕ) → CarriedAt r l → So (untouched r cs l)
    → CarriedAt r (after cs l)
unfolding after
list-carried r [] l R u = R
list-carried r (c ∷ cs) l R u =
    list-carried r cs (leaves (call_on c l) l) (call-carried r l R c (quiet-first r c cs l u))
    (quiet-rest r c cs l u)

pub prepared-carried : (l : List ℕ) (r : ℕ) → So (in_form l) → So (is_ok_of
    (call_on (on (prepare r)) l))
    → CarriedAt r (prepared r l)
unfolding rule_of
prepared-carried l r f p =
    let s = store_of l in
    let q : So (is_ok_of (prepare_rule r s)) = rw (form_rule (prepare r) l f) at p in
    record {
      formed = form-kept (prepare r) l f;
      carried = rw (left-store (prepare r) l f) (prepare-carried s r (form-fine l f) q);
    }

pub goes_through : GoesThrough
goes_through l r f p cs u =
    carried-calls r (after cs (prepared r l))
    (list-carried r cs (prepared r l) (prepared-carried l r f p) u)

-- ---- the answers

-- A cause that isn't 4, 7 or 12.
abbrev Mild : ℕ → Type 0
Mild n = (n ≢ 7) × (n ≢ 12) × (n ≢ 4)

mild-row : (b : Bool) (n rest : ℕ) → Mild n → Mild rest → Mild (refuse b n rest)
unfolding refuse
mild-row true n rest p q = p
mild-row false n rest p q = q

-- The row of states is passed by an open run.
mild-state : (state rest : ℕ) → state ≡ open_state → Mild rest
    → Mild (refuse (not (allowed step_row state)) 4 rest)
unfolding allowed refuse
mild-state state rest e q = rw e q

booked_mild : (s : Store) (r j n : ℕ) → (s.run r).state ≡ open_state → Mild (booked_cause s r j n)
unfolding booked_cause job_cause
booked_mild s r j n e =
    let three : Mild 3 = (λ e. omega arith, λ e. omega arith, λ e. omega arith) in
    let six : Mild 6 = (λ e. omega arith, λ e. omega arith, λ e. omega arith) in
    let right : Mild 13 = (λ e. omega arith, λ e. omega arith, λ e. omega arith) in
    let line : Mild 14 = (λ e. omega arith, λ e. omega arith, λ e. omega arith) in
    let none : Mild 0 = (λ e. omega arith, λ e. omega arith, λ e. omega arith) in
    mild-row _ 3 _ three (mild-row _ 3 _ three (mild-state (s.run r).state _ e
    (mild-row _ 14 _ line (mild-row _ 6 _ six (mild-row _ 13 0 right none)))))

-- Equal lists differ in no word.
word : {X : Type 0} {a b : List ℕ} (i : ℕ) → a ≡ b → (get_or a i 0 ≡ get_or b i 0 → X) → X
word i e f = f (ap (λ (l : List ℕ). get_or l i 0) e)

mild-answers : (n : ℕ) (a : List ℕ) (t : Store) → Mild n
    → let words = answer (unless n (done a t)) in
    ((mask : ℕ) → words ≢ 1 ∷ mask ∷ []) × (words ≢ 2 ∷ 7 ∷ []) × (words ≢ 2 ∷ 12 ∷ [])
    × (words ≢ 2 ∷ 4 ∷ [])
unfolding answer
mild-answers n a t m =
    unless-cases (λ x. ((mask : ℕ) → answer x ≢ 1 ∷ mask ∷ []) × (answer x ≢ 2 ∷ 7 ∷ [])
    × (answer x ≢ 2 ∷ 12 ∷ []) × (answer x ≢ 2 ∷ 4 ∷ [])) n (done a t)
    (λ _. (
      λ m h. word 0 h (λ e. omega arith),
      λ h. word 0 h (λ e. omega arith),
      λ h. word 0 h (λ e. omega arith),
      λ h. word 0 h (λ e. omega arith),
    ))
    (λ _. (
      λ m h. word 0 h (λ e. omega arith),
      λ h. word 1 h m.0,
      λ h. word 1 h m.1,
      λ h. word 1 h m.2,
    ))

pub carried_unstopped : (r : ℕ) (l : List ℕ) → CarriedAt r l
    → (j n : ℕ) → let words = answer (call_on (on (step r j n)) l) in
    ((mask : ℕ) → words ≢ 1 ∷ mask ∷ []) × (words ≢ 2 ∷ 7 ∷ []) × (words ≢ 2 ∷ 12 ∷ [])
    × (words ≢ 2 ∷ 4 ∷ [])
carried_unstopped r l R j n =
    let s = store_of l in
    rw (carried-calls r l R j n)
    (mild-answers (booked_cause s r j n) _ _ (booked_mild s r j n R.carried.open_run_lem))

pub never-stops : NeverStops
never-stops l r f p cs u =
    carried_unstopped r (after cs (prepared r l))
    (list-carried r cs (prepared r l) (prepared-carried l r f p) u)

-- "a desk that began with new or admission": it is in form at every point of a list.
pub after-beginning : AfterBeginning
after-beginning t B before r p =
    let l = (follow before t).buffer in
    let f = (began_consistent t B (before ++ []) before [] refl).formed in
    (goes_through l r f p, never-stops l r f p)

-- ---- `untouched` says of each call of a list, on the buffer as it finds it, that it doesn't
-- ---- disturb the run or isn't accepted

pub untouched-at : (r : ℕ) (sofar : List Call) (c : Call) (rest : List Call) (l : List ℕ)
    → So (untouched r (sofar ++ (c ∷ rest)) l) → So (disturbs r c)
    → is_ok_of (call_on c (after sofar l)) ≡ false
unfolding after
untouched-at r [] c rest l u d = rw d at (quiet-first r c rest l u)
untouched-at r (b ∷ sofar) c rest l u d =
    untouched-at r sofar c rest (leaves (call_on b l) l)
    (quiet-rest r b (sofar ++ (c ∷ rest)) l u) d

pub untouched-all : (r : ℕ) (cs : List Call) (l : List ℕ)
    → ((sofar : List Call) (c : Call) (rest : List Call) → cs ≡ sofar ++ (c ∷ rest)
    → So (disturbs r c) → is_ok_of (call_on c (after sofar l)) ≡ false)
    → So (untouched r cs l)
unfolding untouched after
untouched-all r [] l f = refl
untouched-all r (b ∷ cs) l f =
    and_intro {a = not (disturbs r b && is_ok_of (call_on b l))}
    (test (disturbs r b) (λ d. rw (d, f [] b cs refl d) refl) (λ n. rw n refl))
    (untouched-all r cs (leaves (call_on b l) l)
    (λ sofar c rest e. f (b ∷ sofar) c rest (ap (λ (x : List Call). b ∷ x) e)))
