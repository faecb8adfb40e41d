-- What picks promise: nothing to do only if no run waits, and a run that waits is picked in time.
-- Exact: of one answer. Picks, AtPicks: how many picks a list of calls has, and what holds at
-- each. Picked: one of them answers a run. Fair: the claim. A list begins on any buffer in form,
-- and has no new, which frees every run.
-- Assumes nothing.
use Rattle.std.specs.Prelude.{◌≡◌, false, ◌↔◌, List, [], ◌∷◌, ℕ, suc, ◌<◌}
use Rattle.std.proofs.Math.Bool.{So}
use Rattle.model.specs.Store.{Store}
use Rattle.model.specs.Outcome.{answer}
use Rattle.model.specs.Calls.{StoreCall, pick}
use Rattle.model.specs.Calls.Pick.{nothing_word, waiting}
use Rattle.layout.specs.Reading.{counts_in, store_of}
use Rattle.layout.specs.Buffer.{in_form}
use Rattle.layout.specs.Calls.{on, call_on, leaves}

-- ""Nothing to do" is answered only if no open run has such a job", and then it is.
abbrev pub Exact : Store → List ℕ → Type 0
Exact s w =
    (w ≡ nothing_word ∷ []) ↔ ((r : ℕ) → r < s.counts.runs → waiting (s.run r) ≡ false)

-- There are n picks among the calls, or more.
pub data Picks : ℕ → List StoreCall → Type 0 where
  none : {cs : List StoreCall} → Picks 0 cs
  one : {n : ℕ} {cs : List StoreCall} → Picks n cs → Picks (suc n) (pick ∷ cs)
  other : {n : ℕ} {c : StoreCall} {cs : List StoreCall} → Picks n cs → Picks n (c ∷ cs)

-- Q of the store at each pick; "each call gets the buffer as the last one left it".
unfoldable pub AtPicks : (Store → Type 0) → List ℕ → List StoreCall → Type 0
AtPicks Q l [] = Unit {0}
AtPicks Q l (c ∷ cs) = (c ≡ pick → Q (store_of l)) × AtPicks Q (leaves (call_on (on c) l) l) cs

-- A pick answers run r: the first call of the list, or a later one.
pub data Picked (r : ℕ) : List ℕ → List StoreCall → Type 0 where
  now : {l : List ℕ} {cs : List StoreCall} (j : ℕ)
      → answer (call_on (on pick) l) ≡ 0 ∷ r ∷ j ∷ [] → Picked r l (pick ∷ cs)
  later : {l : List ℕ} {c : StoreCall} {cs : List StoreCall}
      → Picked r (leaves (call_on (on c) l) l) cs → Picked r l (c ∷ cs)

-- "A run that stays open and keeps having such a job is picked within P picks, whatever becomes of
-- other runs." Between the picks anything may happen, to that run too.
abbrev pub Fair : Type 0
Fair =
    (l : List ℕ) (cs : List StoreCall) (r : ℕ) → So (in_form l) → r < (counts_in l).runs
    → AtPicks (λ s. So (waiting (s.run r))) l cs → Picks (counts_in l).runs cs → Picked r l cs
