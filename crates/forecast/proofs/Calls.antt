-- What forecast comes to on a buffer in form: forecast-refused, forecast-done.
-- Assumes nothing.
use mathlib.Core.Path.{◌≡◌, refl, sym, ap, ◌∙◌}
use mathlib.Core.Bool.{So}
use mathlib.Core.Logic.{◌≢◌}
use mathlib.Core.List.{List, [], ◌∷◌}
use Prim.Native.Nat.{ℕ, ◌≤◌}
use native.Mathlib.Omega.{arith}
use lib.ListN.{length}
use Rattle.model.specs.Store.{Store}
use Rattle.model.specs.Outcome.{answer}
use Rattle.model.specs.Calls.Forecast.{Ended, ended_word, ended_numbers, forecast_cause, forecast_walk, forecast_reply}
use Rattle.model.specs.Calls.{ask, forecast, reply_of}
use Rattle.layout.specs.Reading.{store_of}
use Rattle.layout.specs.Buffer.{written, in_form}
use Rattle.layout.specs.Calls.{on, call_on}
use Rattle.layout.specs.Forecast.{foreseen}
use Rattle.layout.proofs.Whole.{store-back, written_twice}
use Rattle.layout.proofs.Follow.{fine-form, form-fine}
use Rattle.layout.proofs.Forms.{ask-refused, ask-told}
use Rattle.layout.proofs.Foreseeing.{foreseen-refused, foreseen-done, walk_kept}
use Rattle.std.specs.Prelude.{Result, Ok, Err}
use Rattle.answers.specs.Answers.{max_answer}
use Rattle.answers.specs.declared.refusal.Refusal.{Refusal}
use Rattle.answers.specs.Refusals.{refusal_number}
use Rattle.answers.proofs.Refusals.{refusal_some}
use Rattle.forecast.specs.declared.Foretold.{Foretold}
use Rattle.forecast.specs.Answers.{foretold_words, ended_of}

-- What is answered with a scratch m, and the scratch after it.
abbrev pub Forecasts : List ℕ → List ℕ → ℕ → Result Foretold Refusal → List ℕ → Type 0
Forecasts l m r x n =
    (foretold_words x ≡ answer (call_on (on (ask (forecast (length m) r))) l))
    × (n ≡ foreseen l m r)

ended-words : (x : Foretold)
    → foretold_words (Ok x) ≡ ended_word (ended_of x) ∷ ended_numbers (ended_of x)
unfolding ended_of ended_word ended_numbers
ended-words Foretold.Through = refl
ended-words (Foretold.Breaks j m) = refl
ended-words (Foretold.Turned j n) = refl

module _ (l m : List ℕ) (r : ℕ) (F : So (in_form l)) where
  pub forecast-refused : (d : Refusal)
      → refusal_number d ≡ forecast_cause (store_of l) (length m) r → Forecasts l m r (Err d) m
  unfolding answer reply_of forecast_reply
  forecast-refused d e =
      let c : forecast_cause (store_of l) (length m) r ≢ 0 = λ g. refusal_some d (e ∙ g) in (
        ap (λ (k : ℕ). 2 ∷ k ∷ []) e ∙ sym (ap answer (ask-refused (forecast (length m) r) l F c)),
        sym (foreseen-refused l m r c),
      )

  -- The copy holds the store.
  abbrev pub copy : List ℕ
  copy = written (store_of l) m

  pub copy-form : So (in_form copy)
  copy-form = fine-form (store_of l) m (form-fine l F)

  pub copy-store : store_of copy ≡ store_of l
  copy-store = store-back (store_of l) m (form-fine l F).fits

  pub forecast-done : forecast_cause (store_of l) (length m) r ≡ 0 → (x : Foretold) (n : List ℕ)
      → ended_of x ≡ (forecast_walk r (store_of copy)).ended
      → n ≡ written (forecast_walk r (store_of copy)).store copy
      → Forecasts l m r (Ok x) n
  unfolding answer reply_of forecast_reply forecast_walk
  forecast-done e x n p q =
      let s = store_of l in
      let w = forecast_walk r s in
      let K = walk_kept r _ s (form-fine l F) in (
        ended-words x
            ∙ ap (λ (y : Ended). ended_word y ∷ ended_numbers y)
            (p ∙ ap (λ (t : Store). (forecast_walk r t).ended) copy-store)
            ∙ sym (ap answer (ask-told (forecast (length m) r) l F e)),
        q ∙ ap (λ (t : Store). written (forecast_walk r t).store copy) copy-store
            ∙ written_twice s w.store m K.1 ∙ sym (foreseen-done l m r F e),
      )
