-- Where one algebra stands for another: the same sets, and places that stand for each other.
-- Simulates: what is asked of the two. Agree: sets that are equal as far as it counts.
-- Related: places that stand for each other, key by key.
-- ..-same: of sets and tests. ..-rel: of places.
-- Assumes nothing.
use mathlib.Core.Path.{◌≡◌, refl, ap₂}
use mathlib.Core.Bool.{Bool, ◌&&◌, cond, So}
use Prim.Native.Nat.{ℕ, ◌<◌}
use Rattle.words.specs.Tests.{Items}
use Rattle.words.proofs.Bools.{test, and-false-right}
use Rattle.words.proofs.Tests.{all_same}
use Rattle.reach.proofs.Closures.{closure-same}
use Rattle.model.specs.Algebra.{Algebra, Place, everything, implies, lacking, needs_met, causal_cut, overlapping_cut}
use Rattle.model.specs.Sets.{draws, draw_set, fetch_set, fetched, evict_set, evicted, pull_set, pulled}
use Rattle.model.specs.Step.{read_start}

-- Rel k a b: a, a version of key k, stands for b.
pub record Simulates {A B : Type 0} (X : Algebra A) (Y : Algebra B) (K : ℕ)
    (Rel : ℕ → A → B → Type 0) : Type 0 where
  pub nothing : (k : ℕ) → Rel k X.nothing Y.nothing
  pub held : (k : ℕ) (a : A) (b : B) → k < K → Rel k a b → X.held a ≡ Y.held b
  pub needs : (k d : ℕ) (a : A) (b : B) → k < K → d < K → Rel k a b
      → X.needs k a d ≡ Y.needs k b d
  pub meets : (k d : ℕ) (a : A) (b : B) (a' : A) (b' : B) → k < K → d < K
      → Rel d a b → Rel k a' b' → So (Y.needs k b' d) → X.meets d a a' ≡ Y.meets d b b'
  pub merge : (k : ℕ) (a a' : A) (b b' : B) → k < K → Rel k a b → Rel k a' b'
      → Rel k (X.merge k a a') (Y.merge k b b')

abbrev pub Agree : ℕ → Items → Items → Type 0
Agree n S S' = (i : ℕ) → i < n → S i ≡ S' i

abbrev pub Related : {A B : Type 0} → ℕ → (ℕ → A → B → Type 0) → Place A → Place B → Type 0
Related K Rel p q = (k : ℕ) → k < K → Rel k (p k) (q k)

-- ---- related values under tests that agree

pub cond-rel : {A B : Type 0} (R : A → B → Type 0) (b b' : Bool) (x x' : A) (y y' : B) → b ≡ b'
    → R x y → R x' y' → R (cond b x x') (cond b' y y')
cond-rel R b b' x x' y y' e p q = rw e (test b' (λ h. rw h p) (λ h. rw h q))

module _ {A B : Type 0} {X : Algebra A} {Y : Algebra B} {K : ℕ} {Rel : ℕ → A → B → Type 0}
    (L : Simulates X Y K Rel) where
  pub lacking-same : (p : Place A) (q : Place B) (S S' : Items) → Related K Rel p q → Agree K S S'
      → Agree K (lacking X K p S) (lacking Y K q S')
  unfolding lacking
  lacking-same p q S S' r e k l = rw (e k l, L.held k (p k) (q k) l (r k l))

  pub read_start-same : (p c : Place A) (p' c' : Place B) (s s' : Items) → Related K Rel p p'
      → Related K Rel c c' → Agree K s s'
      → Agree K (read_start X K p c s) (read_start Y K p' c' s')
  unfolding read_start
  read_start-same p c p' c' s s' rp rc e =
      lacking-same c c' (lacking X K p s) (lacking Y K p' s') rc (lacking-same p p' s s' rp e)

  -- ---- the sets T, E and C, and the places that they leave

  module _ (S S' : Items) (p₁ p₂ : Place A) (q₁ q₂ : Place B) (e : Agree K S S')
      (r₁ : Related K Rel p₁ q₁) (r₂ : Related K Rel p₂ q₂) where
    pub draws-same : (t d : ℕ) → t < K → d < K → draws X K S p₁ p₂ t d ≡ draws Y K S' q₁ q₂ t d
    unfolding draws
    draws-same t d lt ld =
        let n = L.needs t d (p₂ t) (q₂ t) lt ld (r₂ t lt) in
        let h = L.held d (p₂ d) (q₂ d) ld (r₂ d ld) in
        let m = L.meets t d (p₁ d) (q₁ d) (p₂ t) (q₂ t) lt ld (r₁ d ld) (r₂ t lt) in
        test (Y.needs t (q₂ t) d) (λ y. rw (e d ld, n, m y, h)) (λ z. rw (e d ld, n, z))

    pub draw_set-same : (s s' : Items) → Agree K s s'
        → Agree K (draw_set X K S p₁ p₂ s) (draw_set Y K S' q₁ q₂ s')
    unfolding draw_set
    draw_set-same s s' f = closure-same K (draws X K S p₁ p₂) (draws Y K S' q₁ q₂) s s' draws-same
        f

  module _ (m c : Place A) (m' c' : Place B) (s s' : Items) (rm : Related K Rel m m')
      (rc : Related K Rel c c') (e : Agree K s s') where
    pub fetch_set-same : Agree K (fetch_set X K m c s) (fetch_set Y K m' c' s')
    unfolding fetch_set
    fetch_set-same = draw_set-same everything everything c m c' m' (λ _ _. refl) rc rm s s' e

    pub fetched-rel : Related K Rel (fetched X K m c s) (fetched Y K m' c' s')
    unfolding fetched
    fetched-rel k l =
        cond-rel (Rel k) (fetch_set X K m c s k) (fetch_set Y K m' c' s' k) (m k) (c k) (m' k) (c'
        k)
        (fetch_set-same k l) (rm k l) (rc k l)

  module _ (c : Place A) (c' : Place B) (s s' : Items) (r : Related K Rel c c')
      (e : Agree K s s') where
    pub evict_set-same : Agree K (evict_set X K c s) (evict_set Y K c' s')
    unfolding evict_set
    evict_set-same =
        closure-same K (λ t d. X.held (c d) && X.needs d (c d) t)
        (λ t d. Y.held (c' d) && Y.needs d (c' d) t) s s'
        (λ t d lt ld.
        let n = L.needs d t (c d) (c' d) ld lt (r d ld) in
        rw (L.held d (c d) (c' d) ld (r d ld), n))
        e

    pub evicted-rel : Related K Rel (evicted X K c s) (evicted Y K c' s')
    unfolding evicted
    evicted-rel k l =
        cond-rel (Rel k) (evict_set X K c s k) (evict_set Y K c' s' k) X.nothing (c k)
        Y.nothing (c' k) (evict_set-same k l) (L.nothing k) (r k l)

  module _ (S S' : Items) (p c : Place A) (p' c' : Place B) (s s' : Items) (f : Agree K S S')
      (rp : Related K Rel p p') (rc : Related K Rel c c') (e : Agree K s s') where
    pub pull_set-same : Agree K (pull_set X K S p c s) (pull_set Y K S' p' c' s')
    unfolding pull_set
    pull_set-same =
        draw_set-same S S' p c p' c' f rp rc (lacking X K p s) (lacking Y K p' s')
        (lacking-same p p' s s' rp e)

    pub pulled-rel : Related K Rel (pulled X K S p c s) (pulled Y K S' p' c' s')
    unfolding pulled
    pulled-rel k l =
        cond-rel (Rel k) (pull_set X K S p c s k) (pull_set Y K S' p' c' s' k)
        (X.merge k (p k) (c k)) (p k) (Y.merge k (p' k) (c' k)) (p' k) (pull_set-same k l)
        (L.merge k (p k) (c k) (p' k) (c' k) l (rp k l) (rc k l)) (rp k l)

  -- ---- cuts

  module _ (S S' : Items) (p : Place A) (q : Place B) (e : Agree K S S')
      (r : Related K Rel p q) where
    -- The needs of one key.
    need-same : (k : ℕ) → k < K
        → Agree K (λ d. implies (S d && X.needs k (p k) d) (X.meets d (p d) (p k)))
        (λ d. implies (S' d && Y.needs k (q k) d) (Y.meets d (q d) (q k)))
    need-same k lk d ld =
        let n = L.needs k d (p k) (q k) lk ld (r k lk) in
        let m = L.meets k d (p d) (q d) (p k) (q k) lk ld (r d ld) (r k lk) in
        test (Y.needs k (q k) d) (λ y. rw (e d ld, n, m y))
        (λ z. rw (e d ld, n, z, and-false-right))

    pub needs_met-same : needs_met X K S p ≡ needs_met Y K S' q
    unfolding needs_met
    needs_met-same =
        all_same K _ _ (λ k l.
        rw (e k l, L.held k (p k) (q k) l (r k l), all_same K _ _ (need-same k l)))

    pub overlapping_cut-same : overlapping_cut X K S p ≡ overlapping_cut Y K S' q
    unfolding overlapping_cut
    overlapping_cut-same =
        ap₂ ◌&&◌
        (all_same K (λ k. implies (X.held (p k)) (S k)) (λ k. implies (Y.held (q k)) (S' k))
        (λ k l. rw (e k l, L.held k (p k) (q k) l (r k l))))
        needs_met-same

  pub causal_cut-same : (p : Place A) (q : Place B) → Related K Rel p q
      → causal_cut X K p ≡ causal_cut Y K q
  unfolding causal_cut
  causal_cut-same p q r = needs_met-same everything everything p q (λ _ _. refl) r
