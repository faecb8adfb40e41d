-- What a call is to a run: "A run lasts from its open until it is freed."
-- Work, Role, role_of. is_on, opens, frees: a call of that role is on run r, opens it, frees it.
-- Assumes nothing.
use Rattle.std.specs.Prelude.{Bool, false, ℕ, eqb}
use Rattle.model.specs.Calls.{StoreCall, open_run, fetch, evict, prepare, step, issue, drop_run, allow, pick, mayhold, maysave, fork, join, ask}

-- What a call that works on a run does to its jobs.
pub data Work : Type 0 where
  prepares : Work  -- none is finished
  finishes : ℕ → ℕ → Work  -- job j of it is, on branch n
  forks : Work  -- what its jobs have read stands on both branches
  joins : Work  -- and on one again

-- An accepted call opens a run, works on it, frees it, or is on no run.
pub data Role : Type 0 where
  opening : ℕ → Role
  working : ℕ → Work → Role
  freeing : ℕ → Role
  elsewhere : Role

unfoldable pub role_of : StoreCall → Role
role_of (open_run r l) = opening r
role_of (fetch o k) = elsewhere
role_of (evict o k) = elsewhere
role_of (prepare r) = working r prepares
role_of (step r j n) = working r (finishes j n)
role_of (issue r w S) = freeing r
role_of (drop_run r) = freeing r
role_of (allow o n) = elsewhere
role_of pick = elsewhere
role_of (mayhold o m) = elsewhere
role_of (maysave w m) = elsewhere
role_of (fork r) = working r forks
role_of (join r) = working r joins
role_of (ask q) = elsewhere

unfoldable pub is_on : ℕ → Role → Bool
is_on r (opening x) = eqb r x
is_on r (working x w) = eqb r x
is_on r (freeing x) = eqb r x
is_on r elsewhere = false

unfoldable pub opens : ℕ → Role → Bool
opens r (opening x) = eqb r x
opens r (working x w) = false
opens r (freeing x) = false
opens r elsewhere = false

unfoldable pub frees : ℕ → Role → Bool
frees r (opening x) = false
frees r (working x w) = false
frees r (freeing x) = eqb r x
frees r elsewhere = false
