-- Laws of outcomes: the rows of the refusal table, the table of states, and a call refused or not.
-- no-cause, no-lack: a row that is passed. run-rest: the rows of a call on a run.
-- allowed-used: the run isn't free. free-state: it is.
-- unless-..: refused for a cause, or what the call does. next_store: the store after a call.
-- replied-..: the same of a call that only answers, whichever it is; it leaves the store.
-- Assumes nothing.
use mathlib.Core.Path.{◌≡◌, refl}
use mathlib.Core.Bool.{Bool, true, false, not, So, false≢true, cond}
use mathlib.Core.Logic.{◌≢◌}
use Prim.Native.Nat.{ℕ, zero, suc, ◌≤◌, ◌<◌}
use native.Mathlib.Omega.{arith}
use lib.Dec.{eqb, leb}
use Rattle.words.proofs.Bools.{test, clash, eqb-eq, eqb-ne, ne_eqb}
use Rattle.model.specs.Store.{Store}
use Rattle.model.specs.Outcome.{Outcome, refused, broken, done, told, refuse, unless, Reply, replied, allowed, open_row_of, free_state, run_cause}

-- A row of the refusal table that is passed: its cause doesn't hold, and the rows below are left.
pub no-cause : (b : Bool) (n rest : ℕ) → 0 < n → refuse b n rest ≡ 0 → (b ≡ false) × (rest ≡ 0)
unfolding refuse
no-cause true n rest l e = absurd (omega arith)
no-cause false n rest l e = (refl, e)

-- The same where the cause is that something fails.
pub no-lack : (b : Bool) (n rest : ℕ) → 0 < n → refuse (not b) n rest ≡ 0 → So b × (rest ≡ 0)
unfolding refuse
no-lack true n rest l e = (refl, e)
no-lack false n rest l e = absurd (omega arith)

-- A run in a state that a call allows isn't free, if the call doesn't allow a free one.
pub allowed-used : (row n : ℕ) → allowed row free_state ≡ false → So (allowed row n) → 1 ≤ n
allowed-used row zero e p = clash p e
allowed-used row (suc n) e p = omega arith

-- Only a free run may be opened.
pub free-state : (n : ℕ) → n < 3 → So (allowed open_row_of n) → n ≡ free_state
unfolding allowed
free-state zero h p = refl
free-state (suc zero) h p = absurd (false≢true p)
free-state (suc (suc zero)) h p = absurd (false≢true p)
free-state (suc (suc (suc n))) h p = absurd (omega arith)

-- The rows that the calls on a run share: the first of them that holds, or where neither does the
-- rows that are left.
pub run-rest : (s : Store) (call r rest : ℕ) → let n = run_cause s call r 0 in
    run_cause s call r rest ≡ cond (eqb n 0) rest n
unfolding run_cause refuse
run-rest s call r rest = rows (leb s.counts.runs r) (not (allowed call (s.run r).state))
  where
    rows : (a b : Bool) → let n = refuse a 3 (refuse b 4 0) in
        refuse a 3 (refuse b 4 rest) ≡ cond (eqb n 0) rest n
    rows true b = refl
    rows false true = refl
    rows false false = refl

-- ---- a call that may be refused

pub unless-done : (n : ℕ) (x : Outcome) → n ≡ 0 → unless n x ≡ x
unfolding unless
unless-done n x e = rw e

pub unless-refused : (n : ℕ) (x : Outcome) → n ≢ 0 → unless n x ≡ refused n
unfolding unless
unless-refused n x e = rw (ne_eqb n 0 e)

pub unless-cases {ℓ} : (P : Outcome → Type ℓ) (n : ℕ) (x : Outcome) → (n ≡ 0 → P x)
    → (n ≢ 0 → P (refused n)) → P (unless n x)
unfolding unless
unless-cases P n x f g =
    test (eqb n 0) (λ y. rw y (f (eqb-eq n 0 y))) (λ y. rw y (g (eqb-ne n 0 y)))

-- The store after a call.
abbrev pub next_store : Outcome → Store → Store
next_store (refused n) s = s
next_store (broken m t) s = t
next_store (done a t) s = t
next_store (told w a) s = s

-- ---- a call that only answers

pub replied-told : (a : Reply) → a.cause ≡ 0 → replied a ≡ told a.word a.numbers
unfolding replied
replied-told a e = unless-done a.cause _ e

pub replied-refused : (a : Reply) → a.cause ≢ 0 → replied a ≡ refused a.cause
unfolding replied
replied-refused a n = unless-refused a.cause _ n

pub replied-cases {ℓ} : (P : Outcome → Type ℓ) (a : Reply) → P (told a.word a.numbers)
    → P (refused a.cause) → P (replied a)
unfolding replied
replied-cases P a f g = unless-cases P a.cause _ (λ _. f) (λ _. g)
