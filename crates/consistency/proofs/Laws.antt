-- What the file of each call shows of it.
-- Turned: what an accepted call makes of the runs, by its role. Turns: a call, by its outcome.
-- Laws: of a call on a store. laws-unless: of one that may be refused.
-- Assumes nothing.
use mathlib.Core.Path.{◌≡◌, refl}
use mathlib.Core.Bool.{So}
use mathlib.Core.Logic.{◌≢◌}
use mathlib.Core.List.{List}
use Prim.Native.Nat.{ℕ, ◌≤◌}
use native.Mathlib.Omega.{arith}
use Rattle.words.specs.Lists.{put_at}
use Rattle.model.specs.Store.{Run, Store, free_run}
use Rattle.model.specs.Outcome.{Outcome, refused, broken, done, told, unless, free_state, open_state}
use Rattle.model.specs.Calls.{StoreCall}
use Rattle.model.proofs.Outcomes.{unless-cases}
use Rattle.history.specs.Book.{Book}
use Rattle.consistency.specs.Roles.{Role, opening, working, freeing, elsewhere, role_of, is_on}
use Rattle.consistency.specs.Trace.{ReadSet}
use Rattle.consistency.specs.Lasting.{GoesOn}
use Rattle.consistency.proofs.Invariant.{Inv, Moves}

-- Of the runs f run r alone is changed, by P.
pub record Changed (P : Run → Run → Type 0) (r : ℕ) (f g : ℕ → Run) : Type 0 where
  pub run : Run
  pub how : P (f r) run
  pub put : g ≡ put_at f r run

-- A run that was in use goes on.
abbrev pub Works : ℕ → (ℕ → Run) → (ℕ → Run) → Type 0
Works = Changed (λ a b. (a.state ≢ free_state) × GoesOn a b)

pub works : (r : ℕ) (f : ℕ → Run) (b : Run) → 1 ≤ (f r).state → 1 ≤ b.state
    → b.jobs ≡ (f r).jobs → b.job ≡ (f r).job → Works r f (put_at f r b)
works r f b u v n j =
    let goes : GoesOn (f r) b =
    record { used = λ e. omega (arith, v, e); jobs = n; job = λ i. rw j refl } in
    record { run = b; how = (λ e. omega (arith, u, e), goes); put = refl }

abbrev pub Turned : Role → (ℕ → Run) → (ℕ → Run) → Type 0
Turned (opening r) = Changed (λ a b. (a.state ≡ free_state) × (b.state ≡ open_state)) r
Turned (working r w) = Works r
Turned (freeing r) = Changed (λ a b. b ≡ free_run) r
Turned elsewhere = λ f g. g ≡ f

abbrev pub Turns : Role → Store → Outcome → Type 0
Turns p s (refused n) = Unit
Turns p s (broken m t) = (r : ℕ) × So (is_on r p) × Works r s.run t.run
Turns p s (done a t) = Turned p s.run t.run
Turns p s (told w a) = p ≡ elsewhere

-- Call c came to x on the store s.
pub record Laws (c : StoreCall) (s : Store) (x : Outcome) : Type 0 where
  -- It keeps the invariant.
  pub moves : (b : Book) (f : ℕ → List ReadSet) → Inv s b f → Moves c s b f x
  -- It does to the runs what its role says.
  pub turns : Turns (role_of c) s x

pub laws-unless : (c : StoreCall) (s : Store) (n : ℕ) (x : Outcome) → (n ≡ 0 → Laws c s x)
    → Laws c s (unless n x)
laws-unless c s n x f =
    unless-cases (Laws c s) n x f (λ _. record { moves = λ b f v. v; turns = tt })
