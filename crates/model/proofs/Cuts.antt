-- Laws of cuts, for every algebra: from the tests to statements and back.
-- needsMet-.., causalCut-.., overlappingCut-..; implies-..: a test that asks for another.
-- Assumes nothing.
use mathlib.Core.Path.{refl}
use mathlib.Core.Bool.{Bool, true, false, ◌&&◌, So}
use Prim.Native.Nat.{ℕ, ◌<◌}
use Rattle.words.specs.Tests.{Items, all_below}
use Rattle.words.proofs.Bools.{clash, and_intro, and_left, and_right}
use Rattle.words.proofs.Tests.{all-intro, all-at}
use Rattle.model.specs.Algebra.{Algebra, Place, everything, implies, needs_met, causal_cut, overlapping_cut}

pub implies_in : (a b : Bool) → (So a → So b) → So (implies a b)
implies_in true b f = f refl
implies_in false b f = refl

pub implies-out : (a b : Bool) → So (implies a b) → So a → So b
implies-out true b p q = p
implies-out false b p q = clash q refl

module _ {A : Type 0} (alg : Algebra A) (K : ℕ) where
  pub needs_met-at : (S : Items) (p : Place A) → So (needs_met alg K S p) → (k d : ℕ) → k < K → d
      < K
      → So (S k) → So (S d) → So (alg.held (p k)) → So (alg.needs k (p k) d)
      → So (alg.meets d (p d) (p k))
  unfolding needs_met
  needs_met-at S p s k d lk ld pk pd h n =
      let each : Items = λ d. implies (S d && alg.needs k (p k) d) (alg.meets d (p d) (p k)) in
      implies-out (S d && alg.needs k (p k) d) (alg.meets d (p d) (p k))
      (all-at K each
      (implies-out (S k && alg.held (p k)) (all_below K each) (all-at K _ s k lk) (and_intro pk h))
      d ld)
      (and_intro pd n)

  pub needs_met-intro : (S : Items) (p : Place A)
      → ((k d : ℕ) → k < K → d < K → So (S k) → So (S d) → So (alg.held (p k))
      → So (alg.needs k (p k) d) → So (alg.meets d (p d) (p k)))
      → So (needs_met alg K S p)
  unfolding needs_met
  needs_met-intro S p f =
      all-intro K _ (λ k lk.
      implies_in (S k && alg.held (p k)) _ (λ u.
      all-intro K _ (λ d ld.
      implies_in (S d && alg.needs k (p k) d) (alg.meets d (p d) (p k)) (λ v.
      f k d lk ld (and_left (S k) (alg.held (p k)) u) (and_left (S d) (alg.needs k (p k) d) v)
      (and_right (S k) (alg.held (p k)) u) (and_right (S d) (alg.needs k (p k) d) v)))))

  pub causal_cut-at : (p : Place A) → So (causal_cut alg K p) → (k d : ℕ) → k < K → d < K
      → So (alg.held (p k)) → So (alg.needs k (p k) d) → So (alg.meets d (p d) (p k))
  unfolding causal_cut
  causal_cut-at p s k d lk ld = needs_met-at everything p s k d lk ld refl refl

  -- Only keys of the set are held.
  pub overlapping_cut-within : (S : Items) (p : Place A) → So (overlapping_cut alg K S p)
      → (k : ℕ) → k < K → So (alg.held (p k)) → So (S k)
  unfolding overlapping_cut
  overlapping_cut-within S p s k l =
      let each : Items = λ k. implies (alg.held (p k)) (S k) in
      implies-out (alg.held (p k)) (S k)
      (all-at K each (and_left (all_below K each) (needs_met alg K S p) s) k l)

  pub overlapping_cut-at : (S : Items) (p : Place A) → So (overlapping_cut alg K S p)
      → (k d : ℕ) → k < K → d < K → So (S d) → So (alg.held (p k)) → So (alg.needs k (p k) d)
      → So (alg.meets d (p d) (p k))
  unfolding overlapping_cut
  overlapping_cut-at S p s k d lk ld pd h =
      let each : Items = λ k. implies (alg.held (p k)) (S k) in
      needs_met-at S p (and_right (all_below K each) (needs_met alg K S p) s) k d lk ld
      (overlapping_cut-within S p s k lk h) pd h

  pub overlapping_cut-intro : (S : Items) (p : Place A)
      → ((k : ℕ) → k < K → So (alg.held (p k)) → So (S k)) → So (needs_met alg K S p)
      → So (overlapping_cut alg K S p)
  unfolding overlapping_cut
  overlapping_cut-intro S p f =
      and_intro (all-intro K _ (λ k l. implies_in (alg.held (p k)) (S k) (f k l)))
