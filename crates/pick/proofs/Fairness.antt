-- Fair: a run that waits at each of as many picks as there are runs is picked.
-- soon: more picks than turns up to the run. fair: the claim.
-- Assumes nothing.
use mathlib.Core.Path.{◌≡◌, refl, sym, ap, subst, ◌∙◌}
use mathlib.Core.Bool.{So}
use mathlib.Core.Logic.{◌⊎◌, inl, inr, ⊎_elim}
use mathlib.Core.List.{List, [], ◌∷◌}
use Prim.Native.Nat.{ℕ, ◌<◌}
use native.Mathlib.Omega.{arith}
use native.Mathlib.Nat.{not-suc-le-zero}
use Rattle.words.specs.Tests.{Items}
use Rattle.words.specs.Turns.{turn}
use Rattle.words.proofs.Turns.{turn_of, turn_of_low}
use Rattle.sizes.specs.declared.Counts.{Counts}
use Rattle.model.specs.Store.{Store, with_tail_of}
use Rattle.model.specs.Outcome.{answer}
use Rattle.model.specs.Calls.{StoreCall, pick, rule_of}
use Rattle.model.specs.Calls.Pick.{waiting, ready_job, pick_turn, picked_run, pick_done}
use Rattle.model.proofs.Outcomes.{next_store}
use Rattle.model.proofs.Formed.{well-out}
use Rattle.layout.specs.Reading.{counts_in, store_of}
use Rattle.layout.specs.Buffer.{in_form}
use Rattle.layout.specs.Calls.{on, call_on, leaves}
use Rattle.layout.proofs.Follow.{form-fine}
use Rattle.layout.proofs.Rules.{rule_kept}
use Rattle.layout.proofs.Forms.{form_rule, form-kept, left-store}
use Rattle.layout.proofs.Readings.{counts_in_lem}
use Rattle.pick.specs.Fairness.{Picks, Picks.none, Picks.one, Picks.other, AtPicks, Picked, Picked.now, Picked.later, Fair}
use Rattle.pick.proofs.Turning.{first_turn, met-before, nears}
use Rattle.pick.proofs.Rounds.{rule_round}
use Rattle.pick.proofs.Picks.{picked-job}

-- The buffer after a call, and the turns up to run r.
abbrev after : StoreCall → List ℕ → List ℕ
after c l = leaves (call_on (on c) l) l

abbrev turns_to : ℕ → List ℕ → ℕ
turns_to r l = turn_of (counts_in l).runs (store_of l).tail.round r

module _ (l : List ℕ) (F : So (in_form l)) where
  round-low : (store_of l).tail.round < (counts_in l).runs
  round-low = rw (← counts_in_lem l) (well-out (store_of l) (form-fine l F).formed).tail.round

  same_runs : (c : StoreCall) → (counts_in (after c l)).runs ≡ (counts_in l).runs
  same_runs c =
      let s = store_of l in
      ap (λ (z : Counts). z.runs)
      (sym (counts_in_lem (after c l)) ∙ ap (λ (t : Store). t.counts) (left-store c l F)
      ∙ (rule_kept c s (form-fine l F)).counts ∙ counts_in_lem l)

  -- A call that leaves the round leaves the turns up to r.
  stays : (c : StoreCall) (r : ℕ) → let s = store_of l in
      (next_store (rule_of c s) s).tail.round ≡ s.tail.round → turns_to r (after c l) ≡ turns_to r
      l
  stays c r e = rw (same_runs c, left-store c l F, e)

  -- A pick answers r, or brings it nearer.
  moves : (r : ℕ) → r < (counts_in l).runs → So (waiting ((store_of l).run r))
      → ((j : ℕ) × (answer (call_on (on pick) l) ≡ 0 ∷ r ∷ j ∷ []))
      ⊎ (turns_to r (after pick l) < turns_to r l)
  unfolding answer pick_done pick_turn picked_run with_tail_of
  moves r h q =
      let s = store_of l in
      let P = (counts_in l).runs in
      let w : Items = λ i. waiting (s.run i) in
      let c : s.counts.runs ≡ P = ap (λ (z : Counts). z.runs) (counts_in_lem l) in
      let low = round-low in
      let met : pick_turn s < s.counts.runs = rw c (met-before P s.tail.round w low r h q) in
      let e = picked-job s met in
      let first = first_turn P s.tail.round w low in
      let run : turn P s.tail.round first ≡ r → picked_run s ≡ r = λ y. rw c y in
      ⊎_elim (λ y. inl (
        ready_job (s.run r),
        ap answer (form_rule pick l F ∙ e)
            ∙ ap (λ (k : ℕ). 0 ∷ k ∷ ready_job (s.run k) ∷ []) (run y),
      ))
      (λ n. inr (rw (same_runs pick, left-store pick l F, e, c) n))
      (nears P s.tail.round w low r h q)

-- More picks than turns up to the run.
soon : {n : ℕ} {cs : List StoreCall} → Picks n cs → (l : List ℕ) (r : ℕ) → So (in_form l)
    → r < (counts_in l).runs → AtPicks (λ s. So (waiting (s.run r))) l cs → turns_to r l < n
    → Picked r l cs
unfolding AtPicks
soon none l r F h q m = absurd (not-suc-le-zero m)
soon (one p) l r F h q m =
    ⊎_elim (λ x. now x.0 x.1)
    (λ k. later (soon p (after pick l) r (form-kept pick l F) (rw (same_runs l F pick) h) q.1
    (omega (arith, k, m))))
    (moves l F r h (q.0 refl))
soon (other {n = n} {c = c} {cs = cs} p) l r F h q m =
    let rest : turns_to r (after c l) < n → Picked r (after c l) cs =
    soon p (after c l) r (form-kept c l F) (rw (same_runs l F c) h) q.1 in
    ⊎_elim (λ e.
    ⊎_elim (λ x. subst (λ d. Picked r l (d ∷ cs)) (sym e) (now x.0 x.1))
    (λ k.
    let nearer : turns_to r (after c l) < turns_to r l =
    subst (λ d. turns_to r (after d l) < turns_to r l) (sym e) k in
    later (rest (omega (arith, nearer, m))))
    (moves l F r h (q.0 e)))
    (λ x. later (rest (rw (stays l F c r x) m)))
    (rule_round c (store_of l))

pub fair : Fair
fair l cs r F h q p =
    soon p l r F h q
    (turn_of_low (counts_in l).runs (store_of l).tail.round r (round-low l F) h)
