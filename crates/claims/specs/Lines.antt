-- CR 10: two lines of a run, on any buffer.
-- KeepsOther: a step works on its line. MarkedByCalls: fork and join alone set a run's mark.
-- ForksOpen, JoinsForked: what they ask. JoinKeepsReads, BreakSetsState: a join that goes through,
-- and one that breaks.
-- Assumes nothing.
use Rattle.std.specs.Prelude.{◌≡◌, cond, false, not, List, ℕ, ◌<◌, eqb, set}
use Rattle.std.proofs.Math.Bool.{So}
use Rattle.masks.specs.Mask.{test_bit}
use Rattle.sizes.specs.Bounds.{run_at_of}
use Rattle.model.specs.Store.{forked_mark, joined_mark, branch_of, Store}
use Rattle.model.specs.Outcome.{broken, open_state, broken_state}
use Rattle.model.specs.Calls.{StoreCall, step, fork, join}
use Rattle.layout.specs.Reading.{store_of}
use Rattle.layout.specs.Buffer.{in_form}
use Rattle.layout.specs.Calls.{on, call_on, leaves, is_ok_of}
use Rattle.consistency.specs.Roles.{prepares, finishes, forks, joins, Role, opening, working, freeing, elsewhere, role_of}
use Rattle.consistency.specs.Claim.{is_refused}

-- "Step .. treat each line as a card with its own reads": whatever it comes to, the other line m
-- keeps its read mask and its card.
abbrev pub KeepsOther : Type 0
KeepsOther =
    (l : List ℕ) (r j n m : ℕ) → So (in_form l) → eqb m 0 ≡ not (eqb n 0)
    → branch_of m ((store_of (leaves (call_on (on (step r j n)) l) l)).run r)
    ≡ branch_of m ((store_of l).run r)

-- ---- "a mark (0 never forked, 1 forked, 2 joined)"

-- The mark m of run r after an accepted call, by its role.
unfoldable pub mark_by : Role → ℕ → ℕ → ℕ
mark_by (opening x) r m = cond (eqb r x) 0 m
mark_by (working x prepares) r m = m
mark_by (working x (finishes j n)) r m = m
mark_by (working x forks) r m = cond (eqb r x) forked_mark m
mark_by (working x joins) r m = cond (eqb r x) joined_mark m
mark_by (freeing x) r m = cond (eqb r x) 0 m
mark_by elsewhere r m = m

abbrev pub MarkedByCalls : Type 0
MarkedByCalls =
    (l : List ℕ) (c : StoreCall) (r : ℕ) → So (in_form l)
    → let x = call_on (on c) l in
    let m = ((store_of l).run r).mark in
    ((store_of (leaves x l)).run r).mark ≡ cond (is_ok_of x) (mark_by (role_of c) r m) m

-- "An open run may fork once": "A second fork .. is 14".
abbrev pub ForksOpen : Type 0
ForksOpen =
    (l : List ℕ) (r : ℕ) → So (is_ok_of (call_on (on (fork r)) l))
    → (((store_of l).run r).state ≡ open_state) × (((store_of l).run r).mark ≡ 0)

-- "Joining, for an open run"; "a join when not forked .. is 14". It may break all the same.
abbrev pub JoinsForked : Type 0
JoinsForked =
    (l : List ℕ) (r : ℕ) → is_refused (call_on (on (join r)) l) ≡ false
    → (((store_of l).run r).state ≡ open_state) × (((store_of l).run r).mark ≡ forked_mark)

-- ---- joining

-- "merges the cards sheet by sheet and unites the read masks if every sheet read on either line
-- stays the version that was read": key k, read on line n, is so on the card, and is read.
abbrev pub JoinKeepsReads : Type 0
JoinKeepsReads =
    (l : List ℕ) (r n k : ℕ) → So (is_ok_of (call_on (on (join r)) l))
    → let s = store_of l in
    let a = ((store_of (leaves (call_on (on (join r)) l) l)).run r).branch in
    k < s.counts.keys → So (test_bit (branch_of n (s.run r)).read k)
    → (a.snapshot k ≡ (branch_of n (s.run r)).snapshot k) × So (test_bit a.read k)

-- "otherwise only the state changes": of all the buffer's words that one alone.
abbrev pub BreakSetsState : Type 0
BreakSetsState =
    (l : List ℕ) (r m : ℕ) (t : Store) → call_on (on (join r)) l ≡ broken m t
    → leaves (call_on (on (join r)) l) l ≡ set l (run_at_of (store_of l).counts r) broken_state
