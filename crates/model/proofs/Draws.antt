-- Laws of the sets T, E and C and of the places that they leave, for every algebra.
-- lacking-iff, draws-iff: the parts of these tests. drawSet-..: what is in T and C, and why.
-- drawn-same: their masks.
-- fetchSet-.., pullSet-..: T and C. fetched-, evicted-, pulled- with in: at a
-- member of the set; with out: at another key; with cases: at either; with none: from nothing.
-- unfetchable-set: the master lacks a key of the start exactly if it lacks one of T.
-- Assumes nothing.
use mathlib.Core.Path.{◌≡◌, sym, ap, ◌∙◌, fun_ext}
use mathlib.Core.Bool.{false, not, ◌&&◌, ◌||◌, So}
use mathlib.Core.Logic.{◌⊎◌, inl, inr, ◌↔◌}
use Prim.Native.Nat.{ℕ, ◌<◌}
use Rattle.words.specs.Tests.{Items, Within, none}
use Rattle.words.proofs.Bools.{test, clash, same_test, and_intro, and_left, and_right, and-false-right, or_left, or_right, or_cases, not-intro, not_elim}
use Rattle.words.proofs.Tests.{any_none, any_same}
use Rattle.masks.specs.Mask.{mask_below}
use Rattle.masks.proofs.Sets.{mask-same}
use Rattle.reach.specs.Closure.{Reach}
use Rattle.reach.proofs.Closures.{closure-start, closure-closed, closure-reached, closure-least, closure-same, closure-none}
use Rattle.model.specs.Algebra.{Algebra, Place, everything, lacking}
use Rattle.model.specs.Sets.{draws, draw_set, fetch_set, fetched, unfetchable, evict_set, evicted, pull_set, pulled}

module _ {A : Type 0} (alg : Algebra A) (K : ℕ) where
  pub lacking-iff : (p : Place A) (S : Items) (k : ℕ)
      → So (lacking alg K p S k) ↔ So (S k) × (alg.held (p k) ≡ false)
  unfolding lacking
  lacking-iff p S k =
      let gone = not (alg.held (p k)) in (
        λ s. (and_left (S k) gone s, not_elim (and_right (S k) gone s)),
        λ h. and_intro h.0 (not-intro h.1),
      )

  module _ (scope : Items) (target source : Place A) where
    pub draws-iff : (t d : ℕ) → So (draws alg K scope target source t d)
        ↔ So (scope d) × So (alg.needs t (source t) d)
        × (alg.meets d (target d) (source t) ≡ false) × So (alg.held (source d))
    unfolding draws
    draws-iff t d =
        let a = alg.needs t (source t) d in
        let m = not (alg.meets d (target d) (source t)) in
        let h = alg.held (source d) in (
          λ s.
              let u = and_right (scope d) (a && (m && h)) s in
              let v = and_right a (m && h) u in (
                and_left (scope d) (a && (m && h)) s,
                and_left a (m && h) u,
                not_elim (and_left m h v),
                and_right m h v,
              ),
          λ x. and_intro x.0 (and_intro x.1 (and_intro (not-intro x.2) x.3)),
        )

    module _ (start : Items) where
      pub draw_set-reached : (d : ℕ) → d < K → So (draw_set alg K scope target source start d)
          → Reach K (draws alg K scope target source) start d
      unfolding draw_set
      draw_set-reached = closure-reached K (draws alg K scope target source) start

      pub draw_set-start : (d : ℕ) → So (start d) → So (draw_set alg K scope target source start d)
      unfolding draw_set
      draw_set-start = closure-start K (draws alg K scope target source) start

      -- A need of a member's version at the source, of a key in the scope that the source holds,
      -- is met at the target, or that key is a member.
      pub draw_set-closed : (t d : ℕ) → t < K → d < K
          → So (draw_set alg K scope target source start t) → So (scope d)
          → So (alg.needs t (source t) d) → So (alg.held (source d))
          → So (alg.meets d (target d) (source t))
          ⊎ So (draw_set alg K scope target source start d)
      unfolding draw_set
      draw_set-closed t d lt ld p q n h =
          test (alg.meets d (target d) (source t)) (λ y. inl y)
          (λ m. inr (closure-closed K (draws alg K scope target source) start t d lt ld p
          ((draws-iff t d).1 (q, n, m, h))))

      -- Members are in the scope if the start is, and held by the source.
      pub draw_set-scope : Within K start scope
          → Within K (draw_set alg K scope target source start) scope
      unfolding draw_set
      draw_set-scope f =
          closure-least K (draws alg K scope target source) start scope f
          (λ t d _ _ _ e. ((draws-iff t d).0 e).0)

      pub draw_set-held : Within K start (λ d. alg.held (source d))
          → Within K (draw_set alg K scope target source start) (λ d. alg.held (source d))
      unfolding draw_set
      draw_set-held f =
          closure-least K (draws alg K scope target source) start (λ d. alg.held (source d)) f
          (λ t d _ _ _ e. ((draws-iff t d).0 e).3)

  -- The mask of one by what is below K.
  pub drawn-same : (scope : Items) (target p q : Place A) (a b : Items)
      → ((k : ℕ) → k < K → p k ≡ q k) → ((k : ℕ) → k < K → a k ≡ b k)
      → mask_below K (draw_set alg K scope target p a) ≡ mask_below K (draw_set alg K scope target
      q b)
  unfolding draw_set draws
  drawn-same scope target p q a b f g =
      mask-same K (draw_set alg K scope target p a) (draw_set alg K scope target q b)
      (closure-same K (draws alg K scope target p) (draws alg K scope target q) a b
      (λ t d i j. rw (f t i, f d j)) g)

  -- ---- T

  -- Where nothing is unfetchable, the master holds all that is to be fetched,
  pub fetchable-held : (master : Place A) (start : Items) → unfetchable alg K master start ≡ false
      → Within K start (λ d. alg.held (master d))
  unfolding unfetchable
  fetchable-held master start u d l p =
      test (alg.held (master d)) (λ y. y)
      (λ n. clash ((lacking-iff master start d).1 (p, n))
      (any_none K (lacking alg K master start) u d l))

  module _ (master cache : Place A) (start : Items) where
    pub fetch_set-start : (k : ℕ) → So (start k) → So (fetch_set alg K master cache start k)
    unfolding fetch_set
    fetch_set-start = draw_set-start everything cache master start

    pub fetched_in : (k : ℕ) → So (fetch_set alg K master cache start k)
        → fetched alg K master cache start k ≡ master k
    unfolding fetched
    fetched_in k p = rw p

    pub fetched-out : (k : ℕ) → fetch_set alg K master cache start k ≡ false
        → fetched alg K master cache start k ≡ cache k
    unfolding fetched
    fetched-out k n = rw n

    -- and all that is fetched,
    pub fetch_set-held : unfetchable alg K master start ≡ false
        → Within K (fetch_set alg K master cache start) (λ d. alg.held (master d))
    unfolding fetch_set
    fetch_set-held u = draw_set-held everything cache master start (fetchable-held master start u)

    -- and the cache then holds it, and all that it held.
    pub fetched-held : unfetchable alg K master start ≡ false → (k : ℕ) → k < K
        → So (start k) ⊎ So (alg.held (cache k))
        → So (alg.held (fetched alg K master cache start k))
    fetched-held u k l p =
        test (fetch_set alg K master cache start k)
        (λ y. rw (fetched_in k y) (fetch_set-held u k l y))
        (λ n. rw (fetched-out k n) (elim p [
          | inl s ↦ clash (fetch_set-start k s) n
          | inr h ↦ h
        ]))

    -- What a cache takes is asked for, or held by the master.
    pub fetch_set-taken : Within K (fetch_set alg K master cache start)
        (λ d. start d || alg.held (master d))
    unfolding fetch_set draw_set
    fetch_set-taken =
        closure-least K (draws alg K everything cache master) start
        (λ d. start d || alg.held (master d)) (λ d _ p. or_left (alg.held (master d)) p)
        (λ t d _ _ _ e. or_right (start d) ((draws-iff everything cache master t d).0 e).3)

    -- So the master lacks a key of the start exactly if it lacks one of T.
    pub unfetchable-set : unfetchable alg K master start
        ≡ unfetchable alg K master (fetch_set alg K master cache start)
    unfolding unfetchable lacking
    unfetchable-set =
        let T = fetch_set alg K master cache start in
        let gone : Items = λ k. not (alg.held (master k)) in
        any_same K (λ k. start k && gone k) (λ k. T k && gone k)
        (λ k l. test (alg.held (master k))
        (λ y. rw y (and-false-right (start k) ∙ sym (and-false-right (T k))))
        (λ n. rw (same_test (fetch_set-start k) (λ p.
        elim (or_cases (start k) (alg.held (master k)) (fetch_set-taken k l p)) [
          | inl q ↦ q
          | inr q ↦ clash q n
        ]))))

  -- From nothing nothing is fetched.
  pub fetch_set-none : (master cache : Place A) → fetch_set alg K master cache none ≡ none
  unfolding fetch_set draw_set
  fetch_set-none master cache = closure-none K (draws alg K everything cache master)

  pub fetched-none : (master cache : Place A) → fetched alg K master cache none ≡ cache
  fetched-none master cache =
      fun_ext (λ k. fetched-out master cache none k
      (ap (λ (m : Items). m k) (fetch_set-none master cache)))

  -- ---- E

  module _ (cache : Place A) (start : Items) where
    pub evicted_in : (k : ℕ) → So (evict_set alg K cache start k)
        → evicted alg K cache start k ≡ alg.nothing
    unfolding evicted
    evicted_in k p = rw p

    pub evicted-out : (k : ℕ) → evict_set alg K cache start k ≡ false
        → evicted alg K cache start k ≡ cache k
    unfolding evicted
    evicted-out k n = rw n

  -- ---- C

  module _ (plan : Items) (snapshot cache : Place A) (reads : Items) where
    -- A key read that the snapshot lacks is a member.
    pub pull_set-start : (k : ℕ) → So (reads k) → alg.held (snapshot k) ≡ false
        → So (pull_set alg K plan snapshot cache reads k)
    unfolding pull_set
    pull_set-start k p n =
        draw_set-start plan snapshot cache (lacking alg K snapshot reads) k
        ((lacking-iff snapshot reads k).1 (p, n))

    pub pull_set-reached : (k : ℕ) → k < K → So (pull_set alg K plan snapshot cache reads k)
        → Reach K (draws alg K plan snapshot cache) (lacking alg K snapshot reads) k
    unfolding pull_set
    pull_set-reached = draw_set-reached plan snapshot cache (lacking alg K snapshot reads)

    -- Members are the plan's.
    pub pull_set-plan : Within K reads plan
        → Within K (pull_set alg K plan snapshot cache reads) plan
    unfolding pull_set
    pull_set-plan f =
        draw_set-scope plan snapshot cache (lacking alg K snapshot reads)
        (λ d l p. f d l ((lacking-iff snapshot reads d).0 p).0)

    pub pulled_in : (k : ℕ) → So (pull_set alg K plan snapshot cache reads k)
        → pulled alg K plan snapshot cache reads k ≡ alg.merge k (snapshot k) (cache k)
    unfolding pulled
    pulled_in k p = rw p

    pub pulled-out : (k : ℕ) → pull_set alg K plan snapshot cache reads k ≡ false
        → pulled alg K plan snapshot cache reads k ≡ snapshot k
    unfolding pulled
    pulled-out k n = rw n

    pub pulled-cases {ℓ} : (P : A → Type ℓ) (k : ℕ)
        → (So (pull_set alg K plan snapshot cache reads k)
        → P (alg.merge k (snapshot k) (cache k)))
        → (pull_set alg K plan snapshot cache reads k ≡ false → P (snapshot k))
        → P (pulled alg K plan snapshot cache reads k)
    pulled-cases P k f g =
        test (pull_set alg K plan snapshot cache reads k) (λ y. rw (pulled_in k y) (f y))
        (λ n. rw (pulled-out k n) (g n))
