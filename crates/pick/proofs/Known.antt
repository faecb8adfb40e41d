-- What is known of a buffer in form before a pick.
-- round_in, round-here, round-low: the round. used_open: an open run. seek: the turn of the first
-- run that waits, by the code's numbers.
-- Assumes nothing.
use mathlib.Core.Path.{◌≡◌, sym, ap₂}
use mathlib.Core.List.{List}
use Prim.Native.Nat.{ℕ, ◌<◌}
use native.Mathlib.Omega.{arith}
use lib.ListN.{length, get_or}
use Rattle.words.specs.Turns.{first_below_of, turn}
use Rattle.sizes.specs.declared.Counts.{Counts}
use Rattle.sizes.specs.Bounds.{round_at_of}
use Rattle.sizes.proofs.Offsets.{ordered, round-lies}
use Rattle.model.specs.Outcome.{open_state}
use Rattle.model.specs.Calls.Pick.{waiting, pick_turn}
use Rattle.model.proofs.Formed.{well-out}
use Rattle.layout.specs.Reading.{read_tail_of, store_of}
use Rattle.layout.proofs.Follow.{form-fine}
use Rattle.form.specs.Parts.{FormWith}
use Rattle.form.proofs.Known.{form-area, form-counts}
use Rattle.trial.specs.Jobs.{UsedRun}

module _ (l : List ℕ) (z : Counts) (H : FormWith l z) where
  pub round_in : get_or l (round_at_of z) 0 ≡ (store_of l).tail.round
  unfolding store_of read_tail_of
  round_in = rw H.counts

  -- at: where it stands.
  pub round-here : (at : ℕ) → at ≡ round_at_of z → (at < length l) × (at < 1000000)
  round-here at e =
      let A = form-area l z H in
      let q = ordered z A.ranged in
      let t = round-lies z in
      (omega (arith, e, A.fits), omega (arith, e))

  pub round-low : (store_of l).tail.round < z.runs
  round-low =
      rw (← form-counts l z H)
      (well-out (store_of l) (form-fine l H.form).formed).tail.round

  pub used_open : (r : ℕ) → r < z.runs → ((store_of l).run r).state ≡ open_state → UsedRun l z r
  used_open r h e = record { form = H; run = h; used = omega (arith, e) }

  pub seek : (last : ℕ) → last ≡ (store_of l).tail.round
      → first_below_of z.runs (λ i. waiting ((store_of l).run (turn z.runs last i)))
      ≡ pick_turn (store_of l)
  unfolding pick_turn
  seek last e =
      let s = store_of l in
      ap₂ (λ (y : Counts) (k : ℕ).
      first_below_of y.runs (λ i. waiting (s.run (turn y.runs k i))))
      (sym (form-counts l z H)) e
