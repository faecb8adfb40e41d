-- Laws of the least set.
-- closure-start, -closed, -least: it is the least closed set with the start in it.
-- closure-iff, -unique: it is what is reached. closure-soon: how many rounds it takes at most.
-- closure-mono, -same: a larger start and more edges.
-- closure-between, closure-fixed, outside-falls: for a recursion that grows a set.
-- closure-none: nothing leads nowhere.
-- Assumes nothing.
use mathlib.Core.Path.{◌≡◌, refl, ◌∙◌, fun_ext}
use mathlib.Core.Bool.{false, not, ◌&&◌, So}
use mathlib.Core.Logic.{◌⊎◌, inl, inr, ◌↔◌}
use Prim.Native.Nat.{ℕ, zero, suc, ◌-◌, ◌≤◌, ◌<◌}
use native.Mathlib.Omega.{arith}
use native.Mathlib.Decide.{dec_lt}
use Rattle.words.specs.Tests.{Items, Within, any_below, none}
use Rattle.words.proofs.Bools.{test, clash, same_test, ◌∙˙◌, and_intro, and_left, and_right, or_left, or_right, or_cases, not-intro, not_elim}
use Rattle.words.proofs.Tests.{any-intro, any_some, any-no}
use Rattle.words.proofs.Numbers.{count-top, count_less}
use Rattle.reach.specs.Closure.{Reach, Reach.here, Reach.next, Closed, round, rounds, closure, outside}

-- ---- what is outside of a set

outside-top : (n : ℕ) (m : Items) → outside n m ≤ n
unfolding outside
outside-top n m = count-top n (λ i. not (m i))

-- A set that has an item more has fewer outside.
pub outside-falls : (n : ℕ) (a b : Items) → Within n a b → (i : ℕ) → i < n → a i ≡ false → So (b i)
    → outside n b < outside n a
unfolding outside
outside-falls n a b h i l p q =
    count_less n (λ j. not (b j)) (λ j. not (a j)) still i l (rw q) (not-intro p)
  where
    still : Within n (λ j. not (b j)) (λ j. not (a j))
    still j k r = test (a j) (λ y. clash (h j k y) (not_elim r)) (λ x. not-intro x)

-- ---- rounds

round-grows : (n : ℕ) (edge : ℕ → Items) (m : Items) (d : ℕ) → So (m d) → So (round n edge m d)
unfolding round
round-grows n edge m d p = or_left _ p

round-adds : (n : ℕ) (edge : ℕ → Items) (m : Items) (t d : ℕ) → t < n
    → So (m t) → So (edge t d) → So (round n edge m d)
unfolding round
round-adds n edge m t d l p q =
    or_right (m d) (any-intro n (λ t. m t && edge t d) t l (and_intro p q))

-- To what a round has added a member leads.
pub round-from : (n : ℕ) (edge : ℕ → Items) (m : Items) (d : ℕ) → So (round n edge m d)
    → So (m d) ⊎ ((t : ℕ) × (t < n) × So (m t) × So (edge t d))
unfolding round
round-from n edge m d p =
    elim (or_cases (m d) (any_below n (λ t. m t && edge t d)) p) [
      | inl q ↦ inl q
      | inr q ↦
          let r = any_some n (λ t. m t && edge t d) q in
          let a = m r.0 in
          let b = edge r.0 d in
          inr (r.0, r.1, and_left a b r.2, and_right a b r.2)
    ]

-- Rounds keep what is in the set,
rounds-grow : (f n : ℕ) (edge : ℕ → Items) (m : Items) (d : ℕ) → So (m d)
    → So (rounds f n edge m d)
unfolding rounds
rounds-grow zero n edge m d p = p
rounds-grow (suc f) n edge m d p =
    rounds-grow f n edge (round n edge m) d (round-grows n edge m d p)

-- and a closed set closed.
round-closed : (n : ℕ) (edge : ℕ → Items) (m : Items) → Closed n edge m
    → Closed n edge (round n edge m)
round-closed n edge m c t d l k p q =
    round-grows n edge m d (c t d l k (back (round-from n edge m t p)) q)
  where
    back : So (m t) ⊎ ((s : ℕ) × (s < n) × So (m s) × So (edge s t)) → So (m t)
    back (inl h) = h
    back (inr h) = c h.0 t h.1 l h.2 h.3

rounds-closed : (f n : ℕ) (edge : ℕ → Items) (m : Items) → Closed n edge m
    → Closed n edge (rounds f n edge m)
unfolding rounds
rounds-closed zero n edge m c = c
rounds-closed (suc f) n edge m c =
    rounds-closed f n edge (round n edge m) (round-closed n edge m c)

-- A set to which a round adds nothing is closed.
stuck-closed : (n : ℕ) (edge : ℕ → Items) (m : Items)
    → ¬ (outside n (round n edge m) < outside n m) → Closed n edge m
stuck-closed n edge m h t d l k p q =
    test (m d) (λ y. y)
    (λ x. absurd (h (outside-falls n m (round n edge m) (λ i _. round-grows n edge m i) d k x
    (round-adds n edge m t d l p q))))

-- As many rounds as there are items outside close the set.
enough-rounds : (f n : ℕ) (edge : ℕ → Items) (m : Items) → outside n m ≤ f
    → Closed n edge (rounds f n edge m)
unfolding rounds
enough-rounds zero n edge m h = stuck-closed n edge m (λ l. omega arith)
enough-rounds (suc f) n edge m h =
    elim (dec_lt (outside n (round n edge m)) (outside n m)) [
      | yes l ↦ enough-rounds f n edge (round n edge m) (omega arith)
      | no l ↦
          let c = round-closed n edge m (stuck-closed n edge m l) in
          rounds-closed f n edge (round n edge m) c
    ]

-- What rounds add is reached.
rounds-reached : (f n : ℕ) (edge : ℕ → Items) (start m : Items)
    → ((d : ℕ) → d < n → So (m d) → Reach n edge start d)
    → (d : ℕ) → d < n → So (rounds f n edge m d) → Reach n edge start d
unfolding rounds
rounds-reached zero n edge start m h d l p = h d l p
rounds-reached (suc f) n edge start m h d l p =
    rounds-reached f n edge start (round n edge m) one d l p
  where
    one : (d : ℕ) → d < n → So (round n edge m d) → Reach n edge start d
    one d l q =
        elim (round-from n edge m d q) [
          | inl y ↦ h d l y
          | inr y ↦ next (h y.0 y.1 y.2) l y.3
        ]

-- ---- the least closed set

pub closure-closed : (n : ℕ) (edge : ℕ → Items) (start : Items)
    → Closed n edge (closure n edge start)
unfolding closure
closure-closed n edge start = enough-rounds n n edge start (outside-top n start)

pub closure-start : (n : ℕ) (edge : ℕ → Items) (start : Items) (d : ℕ) → So (start d)
    → So (closure n edge start d)
unfolding closure
closure-start n edge start = rounds-grow n n edge start

pub closure-reached : (n : ℕ) (edge : ℕ → Items) (start : Items) (d : ℕ) → d < n
    → So (closure n edge start d) → Reach n edge start d
unfolding closure
closure-reached n edge start = rounds-reached n n edge start start (λ d l p. here l p)

pub reach-low : {n : ℕ} {edge : ℕ → Items} {start : Items} {t : ℕ} → Reach n edge start t → t < n
reach-low (here h _) = h
reach-low (next _ h _) = h

-- Reached items are in every closed set that holds the start.
pub reach-within : {n : ℕ} {edge : ℕ → Items} {start : Items} (m : Items) → Within n start m
    → Closed n edge m → (d : ℕ) → Reach n edge start d → So (m d)
reach-within m s c d (here l p) = s d l p
reach-within m s c d (next {t = t} r l e) = c t d (reach-low r) l (reach-within m s c t r) e

pub closure-least : (n : ℕ) (edge : ℕ → Items) (start m : Items) → Within n start m
    → Closed n edge m → Within n (closure n edge start) m
closure-least n edge start m s c d l p =
    reach-within m s c d (closure-reached n edge start d l p)

pub closure-iff : (n : ℕ) (edge : ℕ → Items) (start : Items) (d : ℕ) → d < n
    → So (closure n edge start d) ↔ Reach n edge start d
closure-iff n edge start d l = (
  closure-reached n edge start d l,
  reach-within (closure n edge start) (λ i _. closure-start n edge start i)
      (closure-closed n edge start) d,
)

-- Where the start has an item, one round less is enough.
pub closure-soon : (n : ℕ) (edge : ℕ → Items) (start : Items) (k : ℕ) → k < n → So (start k)
    → Within n (closure n edge start) (rounds (n - 1) n edge start)
closure-soon n edge start k l p =
    closure-least n edge start (rounds (n - 1) n edge start)
    (λ i _. rounds-grow (n - 1) n edge start i)
    (enough-rounds (n - 1) n edge start (omega (arith, falls, outside-top n none)))
  where
    falls : outside n start < outside n none
    falls = outside-falls n none start (λ i _ q. clash q refl) k l refl p

-- ---- a larger start and more edges

pub closure-mono : (n : ℕ) (e₁ e₂ : ℕ → Items) (s₁ s₂ : Items)
    → ((t : ℕ) → t < n → Within n (e₁ t) (e₂ t)) → Within n s₁ s₂
    → Within n (closure n e₁ s₁) (closure n e₂ s₂)
closure-mono n e₁ e₂ s₁ s₂ f g =
    closure-least n e₁ s₁ (closure n e₂ s₂) (λ d l p. closure-start n e₂ s₂ d (g d l p))
    (λ t d lt ld p q. closure-closed n e₂ s₂ t d lt ld p (f t lt d ld q))

-- Only items below n count.
pub closure-same : (n : ℕ) (e₁ e₂ : ℕ → Items) (s₁ s₂ : Items)
    → ((t d : ℕ) → t < n → d < n → e₁ t d ≡ e₂ t d) → ((d : ℕ) → d < n → s₁ d ≡ s₂ d)
    → (d : ℕ) → d < n → closure n e₁ s₁ d ≡ closure n e₂ s₂ d
closure-same n e₁ e₂ s₁ s₂ f g d l =
    same_test
    (closure-mono n e₁ e₂ s₁ s₂ (λ t lt i k q. f t i lt k ∙˙ q) (λ i k q. g i k ∙˙ q) d l)
    (closure-mono n e₂ e₁ s₂ s₁ (λ t lt i k q. f t i lt k ∙ q) (λ i k q. g i k ∙ q) d l)

-- ---- a recursion that grows a set

-- A set between the start and its closure has the same closure: what one call may add.
pub closure-between : (n : ℕ) (edge : ℕ → Items) (s m : Items) → Within n s m
    → Within n m (closure n edge s) → (d : ℕ) → d < n → closure n edge m d ≡ closure n edge s d
closure-between n edge s m low up d l =
    same_test (closure-least n edge m (closure n edge s) up (closure-closed n edge s) d l)
    (closure-mono n edge edge s m (λ t _ i _ q. q) low d l)

-- A closed set is its own closure: where the recursion ends.
pub closure-fixed : (n : ℕ) (edge : ℕ → Items) (m : Items) → Closed n edge m
    → (d : ℕ) → d < n → closure n edge m d ≡ m d
closure-fixed n edge m c d l =
    same_test (closure-least n edge m m (λ i _ p. p) c d l) (closure-start n edge m d)

-- Where nothing starts nothing joins.
pub closure-none : (n : ℕ) (edge : ℕ → Items) → closure n edge none ≡ none
unfolding closure rounds round
closure-none n edge = still n
  where
    still : (f : ℕ) → rounds f n edge none ≡ none
    still zero = refl
    still (suc f) =
        rw (fun_ext (λ d. any-no n (λ t. none t && edge t d) (λ t l. refl))) (still f)
