-- What the rules ask of a version. Document 01 has the rules once for versions (module Version)
-- and once for the book's copies (crate history): they are stated once, over an algebra, and
-- taken for both.
-- Algebra, Place; needs_met, causal_cut, overlapping_cut ("keyset-overlapping cut").
-- Assumes nothing.
use Rattle.std.specs.Prelude.{Bool, true, not, ◌&&◌, ◌||◌, ℕ}
use Rattle.words.specs.Tests.{Items, all_below}

pub record Algebra (A : Type 0) : Type 0 where
  pub nothing : A  -- not held
  pub held : A → Bool
  -- needs k a d: a, a version of key k, needs key d
  pub needs : ℕ → A → Items
  -- meets d b a: b, a version of key d, meets the need of d that a has
  pub meets : ℕ → A → A → Bool
  -- merge k a b: of two versions of key k
  pub merge : ℕ → A → A → A

-- The version of each key on the master, a cache ("shelf") or a snapshot ("card").
abbrev pub Place : Type 0 → Type 0
Place A = ℕ → A

abbrev pub empty : {A : Type 0} → Algebra A → Place A
empty alg k = alg.nothing

abbrev pub everything : Items
everything k = true

abbrev pub implies : Bool → Bool → Bool
implies a b = not a || b

module _ {A : Type 0} (alg : Algebra A) (K : ℕ) where
  -- Every need among the keys of a set is met by a held version.
  unfoldable pub needs_met : Items → Place A → Bool
  needs_met S p =
      all_below K (λ k. implies (S k && alg.held (p k))
      (all_below K (λ d. implies (S d && alg.needs k (p k) d) (alg.meets d (p d) (p k)))))

  -- "A causal cut: every need of every held version is met by a held version."
  unfoldable pub causal_cut : Place A → Bool
  causal_cut p = needs_met everything p

  -- "A keyset-overlapping cut for a set of sheets: only those sheets are held, and every need
  -- among them is met."
  unfoldable pub overlapping_cut : Items → Place A → Bool
  overlapping_cut S p = all_below K (λ k. implies (alg.held (p k)) (S k)) && needs_met S p

  -- The keys of a set that a place lacks.
  unfoldable pub lacking : Place A → Items → Items
  lacking p S k = S k && not (alg.held (p k))
