-- "Issue and drop alone free a run, new aside; a freed run is all zero. A run lasts from its open
-- until it is freed."
-- GoesOn: a run after a call. Lasts: one call. Lasting: every call.
-- Assumes nothing.
use Rattle.std.specs.Prelude.{◌≡◌, Bool, false, ◌&&◌, ◌≢◌, List, ℕ}
use Rattle.std.proofs.Math.Bool.{So}
use Rattle.model.specs.Store.{Run, free_run}
use Rattle.model.specs.Outcome.{free_state, open_state}
use Rattle.model.specs.Calls.{StoreCall}
use Rattle.layout.specs.Reading.{store_of}
use Rattle.layout.specs.Buffer.{in_form}
use Rattle.layout.specs.Calls.{on, call_on, leaves, is_ok_of}
use Rattle.consistency.specs.Roles.{Role, role_of, is_on, opens, frees}

-- Run a goes on as b: not free, with the same jobs.
pub record GoesOn (a b : Run) : Type 0 where
  pub used : b.state ≢ free_state
  pub jobs : b.jobs ≡ a.jobs
  pub job : (i : ℕ) → b.job i ≡ a.job i

-- A call of role p, answered ok or not. Run r was a, and is b after it.
pub record Lasts (p : Role) (ok : Bool) (r : ℕ) (a b : Run) : Type 0 where
  -- A call that is not on run r leaves run r.
  pub others : is_on r p ≡ false → b ≡ a
  -- "Issue and drop alone free a run": otherwise one that isn't free goes on.
  pub lasts : a.state ≢ free_state → frees r p && ok ≡ false → GoesOn a b
  -- "a freed run is all zero"
  pub freed : So (frees r p && ok) → b ≡ free_run
  -- "from its open": an accepted open, and nothing else, makes a free run one that isn't; it is
  -- open then.
  pub begun : a.state ≡ free_state → b.state ≢ free_state → So (opens r p && ok)
  pub opened : So (opens r p && ok) → (a.state ≡ free_state) × (b.state ≡ open_state)

-- On every buffer in form.
abbrev pub Lasting : Type 0
Lasting =
    (l : List ℕ) (c : StoreCall) (r : ℕ) → So (in_form l)
    → Lasts (role_of c) (is_ok_of (call_on (on c) l)) r ((store_of l).run r)
    ((store_of (leaves (call_on (on c) l) l)).run r)
