-- The least sets T, E and C of document 01, and the places that they leave.
-- draw_set: T and C. fetch_set, fetched: T. evict_set, evicted: E. pull_set, pulled: C.
-- Assumes nothing.
use Rattle.std.specs.Prelude.{Bool, cond, not, ◌&&◌, ℕ}
use Rattle.words.specs.Tests.{Items, any_below}
use Rattle.reach.specs.Closure.{closure}
use Rattle.model.specs.Algebra.{Algebra, Place, everything, lacking}

module _ {A : Type 0} (alg : Algebra A) (K : ℕ) where
  -- A member t draws in d: d is in the scope, needed by the source's t, the target doesn't meet
  -- that need and the source holds d.
  unfoldable pub draws : Items → Place A → Place A → ℕ → Items
  draws scope target source t d =
      scope d
      && (alg.needs t (source t) d
      && (not (alg.meets d (target d) (source t)) && alg.held (source d)))

  unfoldable pub draw_set : Items → Place A → Place A → Items → Items
  draw_set scope target source start = closure K (draws scope target source) start

  -- T: "the least set with k in it such that, if t is in T, d is needed by the master's t, the
  -- shelf doesn't meet that need and the master holds d, then d is in T". From several keys: "T
  -- from all of them".
  unfoldable pub fetch_set : Place A → Place A → Items → Items
  fetch_set master cache start = draw_set everything cache master start

  -- "The shelf takes the master's version of each sheet in T."
  unfoldable pub fetched : Place A → Place A → Items → Place A
  fetched master cache start k = cond (fetch_set master cache start k) (master k) (cache k)

  -- "A sheet to be fetched isn't held by the master."
  unfoldable pub unfetchable : Place A → Items → Bool
  unfetchable master start = any_below K (lacking alg K master start)

  -- E: "the least set with k in it such that a sheet held on the shelf that needs a member is a
  -- member".
  unfoldable pub evict_set : Place A → Items → Items
  evict_set cache start = closure K (λ t d. alg.held (cache d) && alg.needs d (cache d) t) start

  -- "E leaves the shelf."
  unfoldable pub evicted : Place A → Items → Place A
  evicted cache start k = cond (evict_set cache start k) alg.nothing (cache k)

  -- C: "the least set with every sheet of R that the card lacks, such that if c is in C, d is a
  -- plan's sheet needed by the shelf's c, the card doesn't meet that need and the shelf holds d,
  -- then d is in C".
  unfoldable pub pull_set : Items → Place A → Place A → Items → Items
  pull_set plan snapshot cache reads = draw_set plan snapshot cache (lacking alg K snapshot reads)

  -- "each c in C becomes on the card the merge of the card's and the shelf's version"
  unfoldable pub pulled : Items → Place A → Place A → Items → Place A
  pulled plan snapshot cache reads k =
      cond (pull_set plan snapshot cache reads k) (alg.merge k (snapshot k) (cache k)) (snapshot k)
