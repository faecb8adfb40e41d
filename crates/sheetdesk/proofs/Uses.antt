-- What a reader takes from Ran ("It ends only if a write failed, a read delivered nothing, or 2^55
-- bytes are read; unless a write failed, the answers to all lines were handed over").
-- ran-whole: unless a write failed, the input is over and all of it is answered. ran_over: it
-- ended for one of the three reasons.
-- Assumes nothing.
use mathlib.Core.Path.{◌≡◌, refl}
use mathlib.Core.Bool.{So, false}
use mathlib.Core.Logic.{◌⊎◌, inl, inr, ⊎_elim}
use mathlib.Core.List.{List}
use Prim.Native.Nat.{ℕ, ◌≤◌}
use Rattle.words.proofs.Bools.{clash, or_cases, leb-le}
use Rattle.script.specs.Limits.{max_input}
use Rattle.script.specs.Tie.{Finished}
use Rattle.streams.specs.Streams.{input_over}
use Rattle.sheetdesk.specs.declared.Kept.{Kept}
use Rattle.sheetdesk.specs.Runs.{Ran, Ran.stopped, Ran.ended}

module _ (l m line : List ℕ) (k : Kept) where
  pub ran-whole : Ran l m line k → k.output.failed ≡ false
      → So (input_over k.input) × Finished l m k.input.all k.output.all
  ran-whole (stopped f _) e = clash f e
  ran-whole (ended o f) _ = (o, f)

  pub ran_over : Ran l m line k
      → So k.output.failed ⊎ (So k.input.ended ⊎ (max_input ≤ k.input.all))
  ran_over (stopped f _) = inl f
  ran_over (ended o _) =
      inr (⊎_elim (λ e. inl e) (λ e. inr (leb-le _ _ e)) (or_cases _ _ o))
