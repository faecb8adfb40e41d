-- Two fetches of lacking keys in turn are one fetch, for every algebra.
-- fetch_set-twice: its T is the two T together. fetched-twice: the cache after it.
-- Assumes nothing.
use mathlib.Core.Path.{◌≡◌, refl, sym, ap, ◌∙◌, fun_ext}
use mathlib.Core.Bool.{Bool, true, false, cond, not, ◌&&◌, ◌||◌, So}
use mathlib.Core.Logic.{inl, inr, ⊎_elim}
use Prim.Native.Nat.{ℕ, zero, suc, ◌-◌, ◌<◌}
use native.Mathlib.Nat.{not-suc-le-zero}
use native.Mathlib.Omega.{arith}
use Rattle.words.specs.Tests.{Items}
use Rattle.words.proofs.Bools.{test, same_test, and_intro, and-false-right, or_left, or_right, or_cases, ◌∙˙◌}
use Rattle.words.proofs.Tests.{any-intro}
use Rattle.reach.specs.Closure.{Reach, Reach.here, Reach.next, round, rounds, closure}
use Rattle.reach.proofs.Closures.{round-from, closure-reached, closure-soon}
use Rattle.model.specs.Algebra.{Algebra, Place, everything, lacking}
use Rattle.model.specs.Sets.{draws, draw_set, fetch_set, fetched}
use Rattle.model.proofs.Draws.{fetched-out, fetch_set-start}

-- ---- a least set of items below n, with the items from n on to which they lead

-- Every item of a is in b.
abbrev Inside : Items → Items → Type 0
Inside a b = (d : ℕ) → So (a d) → So (b d)

-- Every item to which a member below n leads is a member.
abbrev Leads : ℕ → (ℕ → Items) → Items → Type 0
Leads n edge m = (t d : ℕ) → t < n → So (m t) → So (edge t d) → So (m d)

-- To what a member after f rounds leads, that is a member after one more.
rounds-lead : (f n : ℕ) (edge : ℕ → Items) (m : Items) (t d : ℕ) → t < n
    → So (rounds f n edge m t) → So (edge t d) → So (rounds (suc f) n edge m d)
unfolding rounds round
rounds-lead zero n edge m t d l p q =
    or_right (m d) (any-intro n (λ t. m t && edge t d) t l (and_intro p q))
rounds-lead (suc f) n edge m t d l p q = rounds-lead f n edge (round n edge m) t d l p q

-- Where something is reached something starts.
reach-first : {n : ℕ} {edge : ℕ → Items} {start : Items} {d : ℕ} → Reach n edge start d
    → (k : ℕ) × (k < n) × So (start k)
reach-first (here {d = d} l p) = (d, l, p)
reach-first (next r _ _) = reach-first r

-- It is such a set,
closure-leads : (n : ℕ) (edge : ℕ → Items) (start : Items) → Leads n edge (closure n edge start)
unfolding closure
closure-leads zero edge start t d l p q = absurd (not-suc-le-zero l)
closure-leads (suc n) edge start t d l p q =
    let s = reach-first (closure-reached (suc n) edge start t l p) in
    let soon = closure-soon (suc n) edge start s.0 s.1 s.2 t l p in
    let e : suc n - 1 ≡ n = omega arith in
    rounds-lead n (suc n) edge start t d l (rw e at soon) q

rounds-inside : (f n : ℕ) (edge : ℕ → Items) (s m : Items) → Inside s m → Leads n edge m
    → Inside (rounds f n edge s) m
unfolding rounds
rounds-inside zero n edge s m g c = g
rounds-inside (suc f) n edge s m g c = rounds-inside f n edge (round n edge s) m one c
  where
    one : Inside (round n edge s) m
    one d q =
        elim (round-from n edge s d q) [
          | inl y ↦ g d y
          | inr y ↦ c y.0 d y.1 (g y.0 y.2) y.3
        ]

-- and the least one.
closure-inside : (n : ℕ) (edge : ℕ → Items) (s m : Items) → Inside s m → Leads n edge m
    → Inside (closure n edge s) m
unfolding closure
closure-inside n edge s m = rounds-inside n n edge s m

module _ {A : Type 0} (alg : Algebra A) (K : ℕ) (master : Place A) where
  -- ---- T from the keys of a set that a cache lacks

  -- What t draws in, and T.
  abbrev drawn : Place A → ℕ → Items
  drawn p = draws alg K everything p master

  abbrev taken : Place A → Items → Items
  taken p S = fetch_set alg K master p (lacking alg K p S)

  -- T has what is lacked, it draws in nothing more, and it is the least such set.
  taken_start : (p : Place A) (S : Items) → Inside (lacking alg K p S) (taken p S)
  taken_start p S = fetch_set-start alg K master p (lacking alg K p S)

  taken-leads : (p : Place A) (S : Items) → Leads K (drawn p) (taken p S)
  unfolding fetch_set draw_set
  taken-leads p S = closure-leads K (drawn p) (lacking alg K p S)

  taken-inside : (p : Place A) (S m : Items) → Inside (lacking alg K p S) m → Leads K (drawn p) m
      → Inside (taken p S) m
  unfolding fetch_set draw_set
  taken-inside p S m = closure-inside K (drawn p) (lacking alg K p S) m

  -- What is lacked and what is drawn in go by the version that stands there.
  lacking-at : (p q : Place A) (S : Items) (k : ℕ) → p k ≡ q k
      → lacking alg K p S k ≡ lacking alg K q S k
  unfolding lacking
  lacking-at p q S k e = rw e

  draws-at : (p q : Place A) (t d : ℕ) → p d ≡ q d → drawn p t d ≡ drawn q t d
  unfolding draws
  draws-at p q t d e = rw e

  -- Of two sets together a place lacks what it lacks of either.
  lacking-or : (p : Place A) (a b : Items) (k : ℕ)
      → lacking alg K p (λ k. a k || b k) k ≡ lacking alg K p a k || lacking alg K p b k
  unfolding lacking
  lacking-or p a b k = spread (a k) (b k) (not (alg.held (p k)))
    where
      spread : (c d h : Bool) → (c || d) && h ≡ (c && h) || (d && h)
      spread true d true = refl
      spread true d false = sym (and-false-right d)
      spread false d h = refl

  -- ---- two fetches: of the keys of a, and then, on the cache p that this leaves, of those of b

  module _ (cache : Place A) (a b : Items) (p : Place A)
      (e : p ≡ fetched alg K master cache (lacking alg K cache a)) where
    abbrev union : Items
    union k = a k || b k

    abbrev first : Items
    first = taken cache a

    abbrev second : Items
    second = taken p b

    -- A key outside of the first T stands as before: so it is lacked, and drawn in, as before.
    stands : (k : ℕ) → first k ≡ false → p k ≡ cache k
    stands k n =
        ap (λ (q : Place A). q k) e ∙ fetched-out alg K master cache (lacking alg K cache a) k n

    lacks : (k : ℕ) → first k ≡ false → lacking alg K p b k ≡ lacking alg K cache b k
    lacks k n = lacking-at p cache b k (stands k n)

    draws_in_lem : (t d : ℕ) → first d ≡ false → drawn p t d ≡ drawn cache t d
    draws_in_lem t d n = draws-at p cache t d (stands d n)

    -- Each of the two T is in that of both,
    union-start : (k : ℕ) → So (lacking alg K cache a k || lacking alg K cache b k)
        → So (taken cache union k)
    union-start k s = taken_start cache union k (lacking-or cache a b k ∙ s)

    first_in : Inside first (taken cache union)
    first_in =
        taken-inside cache a (taken cache union)
        (λ k s. union-start k (or_left (lacking alg K cache b k) s)) (taken-leads cache union)

    second_in : Inside second (taken cache union)
    second_in =
        taken-inside p b (taken cache union)
        (λ k s. test (first k) (first_in k)
        (λ n. union-start k (or_right (lacking alg K cache a k) (lacks k n ∙˙ s))))
        (λ t d l s q. test (first d) (first_in d)
        (λ n. taken-leads cache union t d l s (draws_in_lem t d n ∙˙ q)))

    -- and that of both is in the two together.
    start_in : Inside (lacking alg K cache union) (λ k. first k || second k)
    start_in k s =
        test (first k) (or_left (second k)) (λ n. ⊎_elim
        (λ y. or_left (second k) (taken_start cache a k y))
        (λ y. or_right (first k) (taken_start p b k (lacks k n ∙ y)))
        (or_cases (lacking alg K cache a k) (lacking alg K cache b k)
        (lacking-or cache a b k ∙˙ s)))

    leads_in : Leads K (drawn cache) (λ k. first k || second k)
    leads_in t d l s q =
        test (first d) (or_left (second d)) (λ n. ⊎_elim
        (λ y. or_left (second d) (taken-leads cache a t d l y q))
        (λ y. or_right (first d) (taken-leads p b t d l y (draws_in_lem t d n ∙ q)))
        (or_cases (first t) (second t) s))

    -- T of both at once is the two T together;
    pub fetch_set-twice : (k : ℕ)
        → fetch_set alg K master cache (lacking alg K cache a) k
        || fetch_set alg K master p (lacking alg K p b) k
        ≡ fetch_set alg K master cache (lacking alg K cache (λ k. a k || b k)) k
    fetch_set-twice k =
        same_test
        (λ s. ⊎_elim (first_in k) (second_in k) (or_cases (first k) (second k) s))
        (taken-inside cache union (λ k. first k || second k) start_in leads_in k)

    -- and the cache after one fetch of both is that after the two.
    pub fetched-twice : fetched alg K master p (lacking alg K p b)
        ≡ fetched alg K master cache (lacking alg K cache (λ k. a k || b k))
    unfolding fetched
    fetched-twice =
        fun_ext (λ k. ap (λ (q : Place A). cond (second k) (master k) (q k)) e
        ∙ choice (first k) (second k) (master k) (cache k)
        ∙ ap (λ (c : Bool). cond c (master k) (cache k)) (fetch_set-twice k))
      where
        choice : (c d : Bool) (x y : A) → cond d x (cond c x y) ≡ cond (c || d) x y
        choice true true x y = refl
        choice true false x y = refl
        choice false d x y = refl
