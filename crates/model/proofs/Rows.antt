-- Two pasts compared as two clocks: K rows of W counts lie one behind the other.
-- Flat: a clock that is a past. rows-cover, rows-covered: its standing tells whether each row of
-- the one covers that of the other, and the other way round. keeps-rows: CR 10's test by it.
-- Assumes nothing.
use mathlib.Core.Path.{◌≡◌, sym, ap, ◌∙◌}
use mathlib.Core.Bool.{not, ◌&&◌}
use Prim.Native.Nat.{ℕ, ◌+◌, ◌*◌, ◌<◌}
use lib.Dec.{eqb, leb, ltb}
use Rattle.words.specs.Tests.{Items, any_below, all_below}
use Rattle.words.proofs.Tests.{any_same, all_same, any-rows, all-not}
use Rattle.clock.specs.Clock.{Clock, exceeds, standing, covering, covered, dominates}
use Rattle.clock.proofs.Standings.{standing-flip}
use Rattle.clock.proofs.Order.{covering-not}
use Rattle.model.specs.Version.{Version}
use Rattle.model.specs.Stays.{keeps}

abbrev pub Flat : ℕ → ℕ → (ℕ → Clock) → Clock → Type 0
Flat W K p f = (d : ℕ) → d < K → (w : ℕ) → w < W → f (d * W + w) ≡ p d w

module _ (W K : ℕ) (p q : ℕ → Clock) (f g : Clock) (F : Flat W K p f) (G : Flat W K q g) where
  rows_exceed : exceeds (K * W) g f ≡ any_below K (λ d. exceeds W (q d) (p d))
  unfolding exceeds
  rows_exceed =
      let over : Items = λ i. ltb (f i) (g i) in
      let row : ℕ → Items = λ d w. ltb (p d w) (q d w) in
      any-rows over W K
      ∙ any_same K (λ d. any_below W (λ w. over (d * W + w))) (λ d. any_below W (row d))
      (λ d l. any_same W (λ w. over (d * W + w)) (row d) (λ w h. rw (F d l w h, G d l w h)))

  pub rows-cover : covering (standing (K * W) f g) ≡ all_below K (λ d. dominates W (p d) (q d))
  unfolding dominates
  rows-cover =
      covering-not (K * W) f g
      ∙ (ap not rows_exceed
      ∙ (sym (all-not K (λ d. exceeds W (q d) (p d)))
      ∙ all_same K (λ d. not (exceeds W (q d) (p d))) (λ d. dominates W (p d) (q d))
      (λ d l. sym (covering-not W (p d) (q d)))))

-- The other way round it is the same standing, flipped: one comparison answers both.
pub rows-covered : (W K : ℕ) (p q : ℕ → Clock) (f g : Clock) → Flat W K p f → Flat W K q g
    → covered (standing (K * W) f g) ≡ all_below K (λ d. dominates W (q d) (p d))
rows-covered W K p q f g F G =
    ap covering (sym (standing-flip (K * W) f g)) ∙ rows-cover W K q p g f G F

-- The test of one version, and of the other, by one comparison.
module _ (W K m : ℕ) (a b : Version) (f g : Clock) (F : Flat W K a.past f)
    (G : Flat W K b.past g) where
  pub keeps-rows : keeps W K m a b
      ≡ leb b.issue a.issue && (eqb m a.leaders && covering (standing (K * W) f g))
  unfolding keeps
  keeps-rows = rw (rows-cover W K a.past b.past f g F G)

  pub keeps-rows-other : keeps W K m b a
      ≡ leb a.issue b.issue
      && (eqb m b.leaders && covered (standing (K * W) f g))
  unfolding keeps
  keeps-rows-other = rw (rows-covered W K a.past b.past f g F G)
