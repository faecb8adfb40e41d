-- What Fair gives, and what a picked job is good for.
-- picked_in_a_row: by Fair, as many picks in a row as there are runs pick each run that waits.
-- pick-runs: a pick leaves every run. two_runs: of two runs, with another call between two picks.
-- picked-steps: the run alone refuses no step of a job that is picked.
-- Assumes nothing.
use mathlib.Core.Path.{◌≡◌, refl, sym, ap, subst, ◌∙◌}
use mathlib.Core.Bool.{So}
use mathlib.Core.Logic.{◌≢◌}
use mathlib.Core.List.{List, [], ◌∷◌}
use Prim.Native.Nat.{ℕ, zero, suc, ◌<◌}
use native.Mathlib.Decide.{dec_lt}
use native.Mathlib.Omega.{arith}
use lib.Dec.{ltb}
use lib.ListN.{get_or}
use Rattle.words.proofs.Bools.{test}
use Rattle.model.specs.Store.{Run, Store, with_tail_of}
use Rattle.model.specs.Outcome.{answer}
use Rattle.model.specs.Step.{job_cause}
use Rattle.model.specs.Calls.{StoreCall, pick, rule_of}
use Rattle.model.specs.Calls.Pick.{waiting, ready_job, pick_turn, picked_run, pick_done, pick_rule}
use Rattle.model.proofs.Outcomes.{next_store}
use Rattle.layout.specs.Reading.{counts_in, store_of}
use Rattle.layout.specs.Buffer.{in_form}
use Rattle.layout.specs.Calls.{on, call_on, leaves}
use Rattle.layout.proofs.Forms.{form_rule, form-kept, left-store}
use Rattle.form.specs.Parts.{FormWith}
use Rattle.pick.specs.Fairness.{Picks, Picks.none, Picks.one, Picks.other, AtPicks, Picked, Fair}
use Rattle.pick.proofs.Waiting.{ready-steps}
use Rattle.pick.proofs.Picks.{picked-job, picked_none, picked-waits}

-- ---- picks in a row

-- n picks.
unfoldable pub in_row : ℕ → List StoreCall
in_row zero = []
in_row (suc n) = pick ∷ in_row n

row-picks : (n : ℕ) → Picks n (in_row n)
unfolding in_row
row-picks zero = none
row-picks (suc n) = one (row-picks n)

-- "A pick steps nothing": every run stays.
rule_runs : (s : Store) → (next_store (rule_of pick s) s).run ≡ s.run
unfolding rule_of pick_rule pick_done with_tail_of
rule_runs s =
    test (ltb (pick_turn s) s.counts.runs) (λ y. rw y refl) (λ n. rw n refl)

pub pick-runs : (l : List ℕ) → So (in_form l)
    → (store_of (leaves (call_on (on pick) l) l)).run ≡ (store_of l).run
pick-runs l F = ap (λ (s : Store). s.run) (left-store pick l F) ∙ rule_runs (store_of l)

row-waits : (n r : ℕ) (l : List ℕ) → So (in_form l) → So (waiting ((store_of l).run r))
    → AtPicks (λ s. So (waiting (s.run r))) l (in_row n)
unfolding in_row AtPicks
row-waits zero r l F w = tt
row-waits (suc n) r l F w = (
  λ _. w,
  row-waits n r _ (form-kept pick l F)
      (subst (λ (f : ℕ → Run). So (waiting (f r))) (sym (pick-runs l F)) w),
)

pub picked_in_a_row : Fair → (l : List ℕ) (r : ℕ) → So (in_form l) → r < (counts_in l).runs
    → So (waiting ((store_of l).run r)) → Picked r l (in_row (counts_in l).runs)
picked_in_a_row fair l r F h w =
    fair l (in_row (counts_in l).runs) r F h (row-waits (counts_in l).runs r l F w)
    (row-picks (counts_in l).runs)

-- ---- other calls between picks

-- "whatever becomes of other runs": with two runs one of two picks answers run r if it waits at
-- both, whatever call stands between them. Run r needn't wait at that one.
pub two_runs : Fair → (l : List ℕ) (c : StoreCall) (r : ℕ) → So (in_form l)
    → (counts_in l).runs ≡ 2 → r < 2 → c ≢ pick → So (waiting ((store_of l).run r))
    → let m = leaves (call_on (on pick) l) l in
    So (waiting ((store_of (leaves (call_on (on c) m) m)).run r))
    → Picked r l (pick ∷ c ∷ pick ∷ [])
unfolding AtPicks
two_runs fair l c r F n h other-call first second =
    fair l (pick ∷ c ∷ pick ∷ []) r F (rw n h)
    (λ _. first, (λ e. absurd (other-call e), (λ _. second, tt)))
    (subst (λ (k : ℕ). Picks k (pick ∷ c ∷ pick ∷ [])) (sym n) (one (other (one none))))

-- ---- the job that is picked

pub picked-steps : (l : List ℕ) (r j : ℕ) → So (in_form l)
    → answer (call_on (on pick) l) ≡ 0 ∷ r ∷ j ∷ []
    → (r < (counts_in l).runs) × (job_cause ((store_of l).run r) j 0 0 ≡ 0)
unfolding answer pick_done picked_run store_of
picked-steps l r j F e =
    let s = store_of l in
    let H : FormWith l (counts_in l) = record { form = F; counts = refl } in
    elim (dec_lt (pick_turn s) s.counts.runs) [
      | yes h ↦
          let w = sym (ap answer (form_rule pick l F ∙ picked-job s h)) ∙ e in
          let run : picked_run s ≡ r = ap (λ (x : List ℕ). get_or x 1 0) w in
          let job : ready_job (s.run (picked_run s)) ≡ j = ap (λ (x : List ℕ). get_or x 2 0) w in
          let m = picked-waits l (counts_in l) H (pick_turn s) refl h s.tail.round (picked_run s)
          refl refl in (
            subst (λ (k : ℕ). k < (counts_in l).runs) run m.0,
            subst (λ (k : ℕ). job_cause (s.run r) k 0 0 ≡ 0) job
                (subst (λ (k : ℕ). job_cause (s.run k) (ready_job (s.run (picked_run s))) 0 0 ≡ 0)
                run
                (ready-steps (s.run (picked_run s)) 0 m.1)),
          )
      | no h ↦
          let w = sym (ap answer (form_rule pick l F ∙ picked_none s (omega arith))) ∙ e in
          absurd (omega (arith, ap (λ (x : List ℕ). get_or x 0 0) w))
    ]
