-- What a prepared run reads is settled by its card, the calls on it and what offices may hold:
-- another run may be stepped or not.
-- Steps, steps-view: a call is a step or none. notes, reads: what a run reads, by itself;
-- reads_so: so it is. reads-without: steps of another run left out. independent-of, independent:
-- the claim.
-- Assumes nothing.
use mathlib.Core.Path.{◌≡◌, refl, sym, ap, ap₂, ◌∙◌}
use mathlib.Core.Bool.{Bool, false, cond, ◌&&◌, So}
use mathlib.Core.Logic.{◌⊎◌, inl, inr, ◌≢◌}
use mathlib.Core.List.{List, [], ◌∷◌, ◌++◌}
use mathlib.Core.Option.{Option, none, some}
use Prim.Native.Nat.{ℕ}
use lib.Dec.{eqb}
use Rattle.words.proofs.Bools.{test, eqb-eq, ne_eqb}
use Rattle.sizes.specs.declared.Counts.{Counts}
use Rattle.model.specs.Store.{Run, Store, with_job_done}
use Rattle.model.specs.Outcome.{unless}
use Rattle.model.specs.Calls.{open_run, fetch, evict, prepare, step, issue, drop_run, allow, pick, mayhold, maysave, fork, join, ask}
use Rattle.layout.specs.Reading.{store_of}
use Rattle.layout.specs.Calls.{Call, new, audit, on, call_on, leaves, is_ok_of}
use Rattle.booked.specs.Prepared.{disturbs, untouched, booked_cause, ran_on_of, prepared, Read, read_off_of, steps_of, noted, read_by, left_out_of, without, Booked, Independent}
use Rattle.booked.proofs.Offices.{may_hold_after}
use Rattle.booked.proofs.Carried.{cause_by, run_after}
use Rattle.booked.proofs.Through.{CarriedAt, may_hold_by, call-run, call-mayhold, call-counts, call-carried, carried-calls, quiet-first, quiet-rest, list-carried, prepared-carried}

-- ---- a call is a step, or none of any run

pub data Steps : Call → Type 0 where
  is_step : (q j n : ℕ) → Steps (on (step q j n))
  no_step_lem : {c : Call} → ((p : ℕ) → steps_of p c ≡ none) → Steps c

pub steps-view : (c : Call) → Steps c
unfolding steps_of
steps-view (new k w n q) = no_step_lem (λ p. refl)
steps-view (audit v) = no_step_lem (λ p. refl)
steps-view (on (open_run q l)) = no_step_lem (λ p. refl)
steps-view (on (fetch o k)) = no_step_lem (λ p. refl)
steps-view (on (evict o k)) = no_step_lem (λ p. refl)
steps-view (on (prepare q)) = no_step_lem (λ p. refl)
steps-view (on (step q j n)) = is_step q j n
steps-view (on (issue q w S)) = no_step_lem (λ p. refl)
steps-view (on (drop_run q)) = no_step_lem (λ p. refl)
steps-view (on (allow o n)) = no_step_lem (λ p. refl)
steps-view (on pick) = no_step_lem (λ p. refl)
steps-view (on (mayhold o m)) = no_step_lem (λ p. refl)
steps-view (on (maysave w m)) = no_step_lem (λ p. refl)
steps-view (on (fork q)) = no_step_lem (λ p. refl)
steps-view (on (join q)) = no_step_lem (λ p. refl)
steps-view (on (ask q)) = no_step_lem (λ p. refl)

-- ---- what run p reads, by itself

module _ (z : Counts) (p : ℕ) where
  -- What a call adds, by the run before it; a list of calls.
  unfoldable notes : (ℕ → ℕ) → Option (ℕ × ℕ) → Run → List Read
  notes right none a = []
  notes right (some (j, n)) a =
      cond (eqb (cause_by z p right a j n) 0) (read_off_of a j n ∷ []) []

  unfoldable reads : List Call → (ℕ → ℕ) → Run → List Read
  reads [] right a = []
  reads (c ∷ cs) right a =
      notes right (steps_of p c) a
      ++ reads cs (may_hold_by z c right) (run_after z p right (steps_of p c) a)

-- Of a store.
abbrev reads_of : ℕ → List Call → Store → List Read
reads_of p cs s = reads s.counts p cs s.tail.may_hold (s.run p)

-- ---- one call

module _ (p : ℕ) (l : List ℕ) (R : CarriedAt p l) where
  -- A step of it is accepted or not by the run and what offices may hold.
  step_ok : (j n : ℕ) → let s = store_of l in
      is_ok_of (call_on (on (step p j n)) l)
      ≡ eqb (cause_by s.counts p s.tail.may_hold (s.run p) j n) 0
  unfolding booked_cause cause_by unless is_ok_of
  step_ok j n =
      rw (carried-calls p l R j n) (test (eqb (booked_cause (store_of l) p j n) 0)
      (λ y. rw y refl) (λ y. rw y refl))

  -- The cards are as they were.
  step-notes : (z : Counts) (right : ℕ → ℕ) (j n : ℕ) (a b : Run) (ok : Bool)
      → ok ≡ eqb (cause_by z p right a j n) 0 → b ≡ run_after z p right (some (j, n)) a
      → noted (some (j, n)) ok b ≡ notes z p right (some (j, n)) a
  unfolding noted notes run_after read_off_of ran_on_of with_job_done
  step-notes z right j n a b ok e f =
      test (eqb (cause_by z p right a j n) 0)
      (λ y. rw (f, e, y) (test (eqb n 0) (λ h. rw h refl) (λ h. rw h refl)))
      (λ y. rw (e, y) refl)

  call-notes : {c : Call} → Steps c → disturbs p c && is_ok_of (call_on c l) ≡ false
      → let s = store_of l in
      noted (steps_of p c) (is_ok_of (call_on c l)) ((store_of (leaves (call_on c l) l)).run p)
      ≡ notes s.counts p s.tail.may_hold (steps_of p c) (s.run p)
  unfolding noted notes steps_of
  call-notes (no_step_lem f) e = rw (f p) refl
  call-notes (is_step q j n) e =
      let s = store_of l in
      let c = on (step q j n) in
      test (eqb p q)
      (λ y. let after : (store_of (leaves (call_on c l) l)).run p
      ≡ run_after s.counts p s.tail.may_hold (some (j, n)) (s.run p) =
      rw y at (call-run p l R c e) in
      rw y (step-notes s.counts s.tail.may_hold j n (s.run p) _ (is_ok_of (call_on c l))
      (rw (← eqb-eq p q y) (step_ok j n)) after))
      (λ y. rw y refl)

-- ---- lists

reads_so : (p : ℕ) (cs : List Call) (l : List ℕ) → CarriedAt p l → So (untouched p cs l)
    → read_by p cs l ≡ reads_of p cs (store_of l)
unfolding read_by reads
reads_so p [] l R u = refl
reads_so p (c ∷ cs) l R u =
    let e = quiet-first p c cs l u in
    let m = leaves (call_on c l) l in
    let rest : read_by p cs m ≡ reads (store_of l).counts p cs
    (may_hold_by (store_of l).counts c (store_of l).tail.may_hold)
    (run_after (store_of l).counts p (store_of l).tail.may_hold (steps_of p c) ((store_of l).run
    p)) =
    reads_so p cs m (call-carried p l R c e) (quiet-rest p c cs l u)
    ∙ rw (call-counts p l R c e, call-mayhold p l R c e, call-run p l R c e) refl in
    ap₂ (λ (x y : List Read). x ++ y) (call-notes p l R (steps-view c) e) rest

-- A call steps run q, and then it does nothing to p, or it stays in the list.
stays-or-goes : (z : Counts) (p q : ℕ) → p ≢ q → {c : Call} → Steps c → (steps_of q c ≡ none)
    ⊎ ((x : ℕ × ℕ) × (steps_of q c ≡ some x) × (steps_of p c ≡ none)
    × ((right : ℕ → ℕ) → may_hold_by z c right ≡ right))
unfolding steps_of may_hold_by may_hold_after
stays-or-goes z p q n (no_step_lem f) = inl (f q)
stays-or-goes z p q n (is_step x j i) =
    test (eqb q x)
    (λ y. let no : eqb p x ≡ false = ne_eqb p x (λ e. n (e ∙ sym (eqb-eq q x y))) in
    inr ((j, i), rw y refl, rw no refl, λ right. refl))
    (λ y. inl (rw y refl))

-- Steps of another run, left out.
reads-without : (z : Counts) (p q : ℕ) → p ≢ q → (cs : List Call) (right : ℕ → ℕ) (a : Run)
    → reads z p (without q cs) right a ≡ reads z p cs right a
unfolding reads without left_out_of notes run_after
reads-without z p q n [] right a = refl
reads-without z p q n (c ∷ cs) right a =
    let to : Option (ℕ × ℕ) → List Read = λ x. reads z p (left_out_of x c (without q cs)) right a
    in
    elim (stays-or-goes z p q n (steps-view c)) [
      | inl e ↦ ap to e ∙ ap (λ (x : List Read). notes z p right (steps_of p c) a ++ x)
          (reads-without z p q n cs (may_hold_by z c right)
          (run_after z p right (steps_of p c) a))
      | inr e ↦ ap to e.1 ∙ reads-without z p q n cs right a
          ∙ sym (ap (λ (x : Option (ℕ × ℕ)). notes z p right x a
          ++ reads z p cs (may_hold_by z c right) (run_after z p right x a)) e.2
          ∙ ap (λ (x : ℕ → ℕ). reads z p cs x a) (e.3 right))
    ]

pub booked_carried : (m : List ℕ) (r : ℕ) → Booked m r → CarriedAt r m
booked_carried m r B =
    rw B.now (list-carried r B.between (prepared r B.base)
    (prepared-carried B.base r B.formed B.accepted) B.quiet)

-- Whatever q is: only p has to be prepared.
pub independent-of : (m : List ℕ) (p q : ℕ) → p ≢ q → Booked m p → (cs : List Call)
    → So (untouched p cs m) → So (untouched p (without q cs) m)
    → read_by p cs m ≡ read_by p (without q cs) m
independent-of m p q n B cs u v =
    let s = store_of m in
    let R = booked_carried m p B in
    reads_so p cs m R u
    ∙ sym (reads-without s.counts p q n cs s.tail.may_hold (s.run p))
    ∙ sym (reads_so p (without q cs) m R v)

pub independent : Independent
independent m p q n B _ = independent-of m p q n B
