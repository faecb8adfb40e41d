-- What a pick comes to on a store, and on a buffer in form.
-- picked-job, picked_none: its outcome. few-picked: how many words. exact-words: nothing just
-- where no run waits.
-- picked-waits: the run that is met. pick-done, pick-nothing: what the call answers and leaves, by
-- what the code has found.
-- Assumes nothing.
use mathlib.Core.Path.{◌≡◌, refl, sym, ap, ap₂, subst, ◌∙◌}
use mathlib.Core.Bool.{So}
use mathlib.Core.List.{List, [], ◌∷◌}
use Prim.Native.Nat.{ℕ, ◌≤◌, ◌<◌}
use native.Mathlib.Decide.{dec_lt}
use native.Mathlib.Omega.{arith}
use lib.ListN.{length, get_or, set}
use Rattle.std.specs.Prelude.{Option, Some, None}
use Rattle.words.specs.Tests.{Items}
use Rattle.words.specs.Turns.{turn}
use Rattle.words.proofs.Bools.{lt-ltb, ge-ltb}
use Rattle.words.proofs.Firsts.{first-top}
use Rattle.sizes.specs.declared.Counts.{Counts}
use Rattle.sizes.specs.Bounds.{round_at_of}
use Rattle.model.specs.Store.{Store}
use Rattle.model.specs.Outcome.{told, answer}
use Rattle.model.specs.Calls.{pick, rule_of}
use Rattle.model.specs.Calls.Pick.{nothing_word, waiting, ready_job, pick_turn, picked_run, pick_done, pick_rule}
use Rattle.model.proofs.Formed.{well-out}
use Rattle.layout.specs.Reading.{store_of}
use Rattle.layout.specs.Buffer.{in_form}
use Rattle.layout.specs.Calls.{on, call_on, leaves}
use Rattle.layout.proofs.Follow.{form-fine}
use Rattle.layout.proofs.Forms.{form_rule}
use Rattle.layout.proofs.Updates.{put-round}
use Rattle.form.specs.Parts.{FormWith}
use Rattle.form.proofs.Known.{form-counts, form-again, Ends, ends}
use Rattle.answers.specs.Answers.{max_answer}
use Rattle.pick.specs.declared.Picked.{Picked}
use Rattle.pick.specs.Answers.{picked_words}
use Rattle.pick.specs.Fairness.{Exact}
use Rattle.pick.proofs.Known.{round-low, seek}
use Rattle.pick.proofs.Turning.{first_turn, first-met, exact}

-- ---- the rule

module _ (s : Store) where
  turn-top : pick_turn s ≤ s.counts.runs
  unfolding pick_turn
  turn-top = first-top s.counts.runs _

  pub picked-job : pick_turn s < s.counts.runs → rule_of pick s ≡ pick_done s (picked_run s)
  unfolding rule_of pick_rule
  picked-job h = rw (lt-ltb (pick_turn s) s.counts.runs h)

  pub picked_none : s.counts.runs ≤ pick_turn s → rule_of pick s ≡ told nothing_word []
  unfolding rule_of pick_rule
  picked_none h = rw (ge-ltb (pick_turn s) s.counts.runs h)

  -- An answer of run and job isn't nothing.
  not-nothing : (r j : ℕ) → 0 ∷ r ∷ j ∷ [] ≡ nothing_word ∷ [] → 0 ≡ nothing_word
  not-nothing r j e = ap (λ (w : List ℕ). get_or w 0 0) e

  rule_exact : s.tail.round < s.counts.runs → Exact s (answer (rule_of pick s))
  unfolding answer pick_turn pick_done
  rule_exact h =
      let P = s.counts.runs in
      let ex = exact P s.tail.round (λ r. waiting (s.run r)) h in (
        λ e. elim (dec_lt (pick_turn s) P) [
          | yes l ↦
              absurd (omega (arith, not-nothing _ _ (sym (ap answer (picked-job l)) ∙ e)))
          | no l ↦ ex.0 (omega (arith, turn-top))
        ],
        λ f. ap answer (picked_none (omega (arith, ex.1 f))),
      )

-- ---- the answer

pub few-picked : (p : Option Picked) → length (picked_words p) ≤ max_answer
unfolding picked_words
few-picked (Some p) = omega arith
few-picked None = omega arith

-- ---- the call

module _ (l : List ℕ) where
  pub exact-words : So (in_form l) → (w : List ℕ) → w ≡ answer (call_on (on pick) l)
      → Exact (store_of l) w
  exact-words F w e =
      let s = store_of l in
      rw (e, form_rule pick l F)
      (rule_exact s (well-out s (form-fine l F).formed).tail.round)

  -- z: the counts. last: the round. i: the turn of the first run that waits.
  module _ (z : Counts) (H : FormWith l z) (i : ℕ) (t : i ≡ pick_turn (store_of l)) where
    pub pick-nothing : z.runs ≤ i → Ends pick l (nothing_word ∷ []) l
    unfolding answer leaves
    pick-nothing h =
        let s = store_of l in
        ends pick l (told nothing_word []) (nothing_word ∷ []) l
        (form_rule pick l H.form
        ∙ picked_none s (omega (arith, t, ap (λ (z : Counts). z.runs) (form-counts l z H))))
        refl refl

    -- The run that is met waits.
    pub picked-waits : i < z.runs → (last r : ℕ) → last ≡ (store_of l).tail.round
        → r ≡ turn z.runs last i → (r < z.runs) × So (waiting ((store_of l).run r))
    picked-waits h last r e er =
        let P = z.runs in
        let w : Items = λ k. waiting ((store_of l).run k) in
        let low : last < P = rw e (round-low l z H) in
        let f : first_turn P last w low ≡ i = seek l z H last e ∙ sym t in
        let m = first-met P last w low (omega (arith, f, h)) in
        let same : turn P last (first_turn P last w low) ≡ r = ap (turn P last) f ∙ sym er in
        (subst (λ (k : ℕ). k < P) same m.0, subst (λ (k : ℕ). So (w k)) same m.1)

    pub pick-done : i < z.runs → (last r j : ℕ) (m : List ℕ) → last ≡ (store_of l).tail.round
        → r ≡ turn z.runs last i → j ≡ ready_job ((store_of l).run r)
        → m ≡ set l (round_at_of z) r → Ends pick l (0 ∷ r ∷ j ∷ []) m
    unfolding answer leaves pick_done picked_run
    pick-done h last r j m e er ej em =
        let s = store_of l in
        let c = form-counts l z H in
        let same : turn z.runs last i ≡ turn s.counts.runs s.tail.round (pick_turn s) =
        ap₂ (λ (y : Counts) (k : ℕ). turn y.runs k i) (sym c) e
        ∙ ap (turn s.counts.runs s.tail.round) t in
        let run : r ≡ picked_run s = er ∙ same in
        ends pick l (pick_done s r) (0 ∷ r ∷ j ∷ []) m
        (form_rule pick l H.form
        ∙ picked-job s (omega (arith, t, ap (λ (z : Counts). z.runs) c))
        ∙ ap (pick_done s) (sym run))
        (ap (λ (k : ℕ). 0 ∷ r ∷ k ∷ []) ej)
        (em ∙ rw (← c) (ap (λ (w : List ℕ). set w (round_at_of s.counts) r) (sym
        (form-again l z H))
        ∙ put-round s l r))
