-- What becomes of a prepared run: the jobs that its own accepted steps did, and nothing else.
-- Assumes nothing.
use mathlib.Core.Path.{◌≡◌, refl, sym, ap, ◌∙◌}
use mathlib.Core.Bool.{Bool, cond, So}
use mathlib.Core.List.{List, [], ◌∷◌}
use Prim.Native.Nat.{ℕ}
use lib.Dec.{eqb}
use Rattle.words.proofs.Bools.{test, eqb-eq}
use Rattle.model.specs.Store.{Store}
use Rattle.model.specs.Outcome.{done, unless}
use Rattle.layout.specs.Reading.{store_of}
use Rattle.layout.specs.Calls.{Call, call_on, leaves, is_ok_of, after}
use Rattle.booked.specs.Prepared.{untouched, booked_cause, ran_on_of, steps_of, ran_by, ran_through, StaysPrepared}
use Rattle.booked.proofs.Carried.{cause_by, run_after}
use Rattle.booked.proofs.Through.{CarriedAt, call-run, call-carried, carried-calls, quiet-rest, quiet-first, prepared-carried}
use Rattle.booked.proofs.Independent.{Steps, is_step, no_step_lem, steps-view}

-- A call that is done unless it has a cause.
ok-unless : (n : ℕ) (a : List ℕ) (t : Store) → is_ok_of (unless n (done a t)) ≡ eqb n 0
unfolding unless is_ok_of
ok-unless n a t = test (eqb n 0) (λ y. rw y refl) (λ y. rw y refl)

-- By its cause, or by its answer.
step-ran : (r : ℕ) (l : List ℕ) → CarriedAt r l → {c : Call} → Steps c → let s = store_of l in
    run_after s.counts r s.tail.may_hold (steps_of r c) (s.run r)
    ≡ ran_by (steps_of r c) (is_ok_of (call_on c l)) (s.run r)
unfolding run_after ran_by steps_of booked_cause cause_by
step-ran r l R (no_step_lem f) = rw (f r) refl
step-ran r l R (is_step q j n) =
    test (eqb r q)
    (λ y.
    let a = (store_of l).run r in
    let e = ok-unless (booked_cause (store_of l) r j n) _ _ in
    let ok = ap is_ok_of (carried-calls r l R j n) ∙ e in
    rw (y, ← eqb-eq r q y) (ap (λ (b : Bool). cond b (ran_on_of a j) a) (sym ok)))
    (λ y. rw y refl)

list-ran : (r : ℕ) (cs : List Call) (l : List ℕ) → CarriedAt r l → So (untouched r cs l)
    → (store_of (after cs l)).run r ≡ ran_through r cs l ((store_of l).run r)
unfolding after ran_through
list-ran r [] l R u = refl
list-ran r (c ∷ cs) l R u =
    let e = quiet-first r c cs l u in
    let m = leaves (call_on c l) l in
    list-ran r cs m (call-carried r l R c e) (quiet-rest r c cs l u)
    ∙ ap (ran_through r cs m) (call-run r l R c e ∙ step-ran r l R (steps-view c))

pub stays-prepared : StaysPrepared
stays-prepared l r F ok cs u = list-ran r cs _ (prepared-carried l r F ok) u
