-- What a reader takes out of the claim of specs/Lasting: one run, one call on a buffer in form.
-- Nothing here knows how it is proved: a claim that says less is refused here.
-- Assumes nothing.
use mathlib.Core.Path.{◌≡◌, refl}
use mathlib.Core.Bool.{So}
use mathlib.Core.Logic.{◌≢◌}
use mathlib.Core.List.{List}
use Prim.Native.Nat.{ℕ}
use Rattle.words.proofs.Bools.{eq-eqb, ne_eqb, and_intro, and_left, and_right}
use Rattle.model.specs.Store.{Run, free_run}
use Rattle.model.specs.Outcome.{free_state, open_state}
use Rattle.model.specs.Calls.{StoreCall, open_run, fetch, evict, prepare, step, drop_run, Query, ask}
use Rattle.layout.specs.Reading.{store_of}
use Rattle.layout.specs.Buffer.{in_form}
use Rattle.layout.specs.Calls.{on, call_on, leaves, is_ok_of}
use Rattle.consistency.specs.Roles.{role_of, is_on, opens, frees}
use Rattle.consistency.specs.Lasting.{Lasting}

module _ (lasting : Lasting) (l : List ℕ) (r : ℕ) (F : So (in_form l)) where
  -- Run r after a call.
  abbrev next : StoreCall → Run
  next c = (store_of (leaves (call_on (on c) l) l)).run r

  -- A run that was free and isn't after a call was opened by it,
  pub begun_open : (c : StoreCall) → ((store_of l).run r).state ≡ free_state
      → (next c).state ≢ free_state → So (opens r (role_of c)) × So (is_ok_of (call_on (on c) l))
  begun_open c a b =
      let p = (lasting l c r F).begun a b in
      (and_left (opens r (role_of c)) _ p, and_right (opens r (role_of c)) _ p)

  -- and an accepted open finds it free and leaves it open.
  pub open_begins : (ws : List ℕ) → So (is_ok_of (call_on (on (open_run r ws)) l))
      → (((store_of l).run r).state ≡ free_state) × ((next (open_run r ws)).state ≡ open_state)
  unfolding role_of opens
  open_begins ws p = (lasting l (open_run r ws) r F).opened (and_intro (eq-eqb r r refl) p)

  -- An accepted drop leaves it all zero,
  pub drop-frees : So (is_ok_of (call_on (on (drop_run r)) l)) → next (drop_run r) ≡ free_run
  unfolding role_of frees
  drop-frees p = (lasting l (drop_run r) r F).freed (and_intro (eq-eqb r r refl) p)

  -- and a step leaves it in use, with its jobs.
  pub step-goes-on : (j n : ℕ) → ((store_of l).run r).state ≢ free_state
      → ((next (step r j n)).state ≢ free_state) × ((next (step r j n)).jobs ≡
      ((store_of l).run r).jobs)
  unfolding role_of frees
  step-goes-on j n u =
      let G = (lasting l (step r j n) r F).lasts u refl in
      (G.used, G.jobs)

  pub works-on : (j n i : ℕ) → ((store_of l).run r).state ≢ free_state
      → ((next (step r j n)).job i ≡ ((store_of l).run r).job i)
      × ((next (prepare r)).state ≢ free_state)
      × ((next (prepare r)).job i ≡ ((store_of l).run r).job i)
  unfolding role_of frees
  works-on j n i u =
      let G = (lasting l (step r j n) r F).lasts u refl in
      let H = (lasting l (prepare r) r F).lasts u refl in
      (G.job i, H.used, H.job i)

  -- Fetch, evict and the calls that only answer leave every run, and a step every other one.
  pub others-stay : (o k x j n : ℕ) (q : Query) → r ≢ x → let a = (store_of l).run r in
      (next (fetch o k) ≡ a) × (next (evict o k) ≡ a) × (next (ask q) ≡ a)
      × (next (step x j n) ≡ a)
  unfolding role_of is_on
  others-stay o k x j n q w = (
    (lasting l (fetch o k) r F).others refl,
    (lasting l (evict o k) r F).others refl,
    (lasting l (ask q) r F).others refl,
    (lasting l (step x j n) r F).others (ne_eqb r x w),
  )
