-- A version that was read from words (CR 10: for `model`'s Stays, Moved and Rows).
-- fit-inside, place_inside: it has no count outside of the counts. version-flat: its past lies in
-- the words as one clock.
-- Assumes nothing.
use mathlib.Core.Path.{◌≡◌, sym, ap, ◌∙◌}
use mathlib.Core.Logic.{inl, inr}
use mathlib.Core.List.{List}
use Prim.Native.Nat.{ℕ, ◌+◌, ◌*◌, ◌<◌}
use native.Mathlib.Omega.{arith}
use Rattle.words.proofs.Lists.{upto_in}
use Rattle.words.proofs.Tests.{below_or_not}
use Rattle.clock.specs.Clock.{Clock, clock_at}
use Rattle.sizes.specs.Bounds.{past_offset}
use Rattle.sizes.specs.declared.Counts.{Counts}
use Rattle.model.specs.Algebra.{Place}
use Rattle.model.specs.Version.{Version}
use Rattle.model.proofs.Stays.{Inside}
use Rattle.model.proofs.Rows.{Flat}
use Rattle.layout.specs.Reading.{read_word_of, read_clock, read_past_of, read_version}
use Rattle.layout.proofs.Parts.{FitVersion, FitPlace}

pub fit-inside : (z : Counts) (v : Version) → FitVersion z v → Inside z.writers z.keys v
fit-inside z v F d w (inl o) = ap (λ (p : Clock). p w) (F.past.rest d o)
fit-inside z v F d w (inr o) = elim (below_or_not d z.keys) [
  | inl l ↦ (F.past.each d l).rest w o
  | inr h ↦ ap (λ (p : Clock). p w) (F.past.rest d h)
]

pub place_inside : (z : Counts) (p : Place Version) → FitPlace z p → (k : ℕ) → k < z.keys
    → Inside z.writers z.keys (p k)
place_inside z p F k h = fit-inside z (p k) (F.each k h)

pub version-flat : (z : Counts) (l : List ℕ) (at : ℕ)
    → Flat z.writers z.keys (read_version z l at).past (clock_at l (at + past_offset))
unfolding read_version read_past_of read_clock clock_at
version-flat z l at d i w h =
    let W = z.writers in
    let past : ℕ = at + past_offset in
    let e : past + (d * W + w) ≡ past + d * W + w * 1 = omega arith in
    ap (read_word_of l) e
    ∙ sym (ap (λ (p : Clock). p w)
    (upto_in z.keys (λ (w : ℕ). 0) (λ d. read_clock z l (past + d * W)) d i)
    ∙ upto_in W 0 (λ w. read_word_of l (past + d * W + w * 1)) w h)
