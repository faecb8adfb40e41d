-- The rule that lists scripts keeps their order.
-- sorted-scripts: over any list. in_order, neighbours, once: of the listing.
-- Assumes nothing.
use mathlib.Core.Path.{◌≡◌, refl, sym, subst, ◌∙◌}
use mathlib.Core.Logic.{inl, inr, ⊎_elim}
use mathlib.Core.List.{List, [], ◌∷◌, ◌++◌, map}
use Prim.Native.Nat.{ℕ, zero, suc, ◌<◌}
use native.Mathlib.Omega.{arith}
use native.Mathlib.Nat.{not-suc-le-zero}
use native.Mathlib.Decide.{ℕ_discrete}
use lib.ListN.{length, get_or}
use Rattle.words.proofs.Tests.{below_or_not}
use Rattle.model.specs.Calls.{StoreCall}
use Rattle.listing.specs.Scripts.{each, scripts, AllOf, Lex}
use Rattle.listing.specs.Calls.{calls, CallBefore, Before, listing}
use Rattle.listing.proofs.CallOrder.{Sorted, calls-sorted}
use Rattle.listing.proofs.Strict.{before-irrefl}
use Rattle.listing.proofs.Members.{Script, all-imp, all_append, all_map, all-before, scripts-only}

-- ---- lists in order

pub sorted-append : {A : Type 0} (R : A → A → Type 0) (a b : List A) → Sorted R a → Sorted R b
    → AllOf (λ x. AllOf (R x) b) a → Sorted R (a ++ b)
unfolding Sorted AllOf
sorted-append R [] b p q h = q
sorted-append R (x ∷ xs) b p q h =
    (all_append (R x) xs b p.0 h.0, sorted-append R xs b p.1 q h.1)

pub sorted-map : {A B : Type 0} (R : A → A → Type 0) (S : B → B → Type 0) (f : A → B)
    → ((x y : A) → R x y → S (f x) (f y)) → (l : List A) → Sorted R l → Sorted S (map f l)
unfolding Sorted
sorted-map R S f h [] p = tt
sorted-map R S f h (x ∷ xs) p =
    (all_map (R x) (S (f x)) f (h x) xs p.0, sorted-map R S f h xs p.1)

both : {A : Type 0} (P Q R : A → Type 0) → ((x : A) → P x → Q x → R x) → (l : List A)
    → AllOf P l → AllOf Q l → AllOf R l
unfolding AllOf
both P Q R h [] p q = tt
both P Q R h (x ∷ xs) p q = (h x p.0 q.0, both P Q R h xs p.1 q.1)

-- By another order that holds for what is in P.
pub sorted-by : {A : Type 0} (P : A → Type 0) (R S : A → A → Type 0)
    → ((x y : A) → P x → P y → R x y → S x y) → (l : List A) → AllOf P l → Sorted R l → Sorted S l
unfolding Sorted AllOf
sorted-by P R S h [] p q = tt
sorted-by P R S h (x ∷ xs) p q =
    let later : AllOf (S x) xs = both (R x) P (S x) (λ y r k. h x y p.0 k r) xs q.0 p.1 in
    (later, sorted-by P R S h xs p.1 q.1)

pub sorted-scripts : {A : Type 0} (R : A → A → Type 0) (xs : List A) → Sorted R xs → (n : ℕ)
    → Sorted (Lex R) (scripts xs n)
unfolding Sorted AllOf scripts Lex each
sorted-scripts {A = A} R xs h zero = (tt, tt)
sorted-scripts {A = A} R xs h (suc n) = go (scripts xs n) (sorted-scripts R xs h n) xs h
  where
    go : (S : List (List A)) → Sorted (Lex R) S → (ys : List A) → Sorted R ys
        → Sorted (Lex R) (each (λ x. map (λ s. x ∷ s) S) ys)
    go S q [] p = tt
    go S q (y ∷ ys) p =
        sorted-append (Lex R) (map (λ s. y ∷ s) S) (each (λ x. map (λ s. x ∷ s) S) ys)
        (sorted-map (Lex R) (Lex R) (λ s. y ∷ s) (λ s t k. inr (refl, k)) S q) (go S q ys p.1)
        (all_map (λ s. Unit {0}) (λ s. AllOf (Lex R s) (each (λ x. map (λ s. x ∷ s) S) ys))
        (λ s. y ∷ s)
        (λ s _. all-before (R y) (λ t. Unit {0}) (Lex R (y ∷ s)) (λ x t k _. inl k) S (units S) ys
        p.0)
        S (units S))
      where
        units : (S : List (List A)) → AllOf (λ s. Unit {0}) S
        units [] = tt
        units (s ∷ S) = (tt, units S)

-- ---- by position

pub all_get_d : {A : Type 0} (P : A → Type 0) (l : List A) (d : A) → AllOf P l → (i : ℕ)
    → i < length l → P (get_or l i d)
unfolding AllOf
all_get_d P [] d p i h = absurd (not-suc-le-zero h)
all_get_d P (x ∷ xs) d p zero h = p.0
all_get_d P (x ∷ xs) d p (suc i) h = all_get_d P xs d p.1 i (omega arith)

pub sorted-at : {A : Type 0} (R : A → A → Type 0) (l : List A) (d : A) → Sorted R l → (i j : ℕ)
    → i < j → j < length l → R (get_or l i d) (get_or l j d)
unfolding Sorted
sorted-at R [] d p i j h k = absurd (not-suc-le-zero k)
sorted-at R (x ∷ xs) d p i zero h k = absurd (not-suc-le-zero h)
sorted-at R (x ∷ xs) d p zero (suc j) h k = all_get_d (R x) xs d p.0 j (omega arith)
sorted-at R (x ∷ xs) d p (suc i) (suc j) h k =
    sorted-at R xs d p.1 i j (omega arith) (omega arith)

-- ---- the listing

abbrev scripts₂ : ℕ → List (List StoreCall)
scripts₂ n = scripts (calls 2 2 2) n

long : (n : ℕ) → AllOf (λ s. length s ≡ n) (scripts₂ n)
long n =
    all-imp (Script (calls 2 2 2) n) (λ s. length s ≡ n) (λ s p. p.0) (scripts₂ n)
    (scripts-only (calls 2 2 2) n)

pub scripts-sorted : (n : ℕ) → Sorted Before (scripts₂ n)
unfolding Before
scripts-sorted n =
    sorted-by (λ s. length s ≡ n) (Lex CallBefore) Before (λ x y p q r. inr (p ∙ sym q, r))
    (scripts₂ n) (long n) (sorted-scripts CallBefore (calls 2 2 2) calls-sorted n)

-- Shorter ones stand before longer ones.
shorter : (m n : ℕ) → m < n → AllOf (λ a. AllOf (Before a) (scripts₂ n)) (scripts₂ m)
unfolding Before
shorter m n h =
    all-imp (λ s. length s ≡ m) (λ a. AllOf (Before a) (scripts₂ n))
    (λ a p. all-imp (λ s. length s ≡ n) (Before a) (λ b q. inl (rw (p, q) h)) (scripts₂ n)
    (long n))
    (scripts₂ m) (long m)

pub listing-sorted : Sorted Before listing
unfolding listing
listing-sorted =
    sorted-append Before (scripts₂ 1) (scripts₂ 2 ++ scripts₂ 3) (scripts-sorted 1)
    (sorted-append Before (scripts₂ 2) (scripts₂ 3) (scripts-sorted 2) (scripts-sorted 3)
    (shorter 2 3 (omega arith)))
    (both (λ a. AllOf (Before a) (scripts₂ 2)) (λ a. AllOf (Before a) (scripts₂ 3))
    (λ a. AllOf (Before a) (scripts₂ 2 ++ scripts₂ 3))
    (λ a p q. all_append (Before a) (scripts₂ 2) (scripts₂ 3) p q) (scripts₂ 1)
    (shorter 1 2 (omega arith)) (shorter 1 3 (omega arith)))

-- "Shorter scripts come first; of equal lengths the first differing call decides".
pub in_order : (i j : ℕ) → i < j → j < length listing
    → Before (get_or listing i []) (get_or listing j [])
in_order = sorted-at Before listing [] listing-sorted

pub neighbours : (i : ℕ) → suc i < length listing
    → Before (get_or listing i []) (get_or listing (suc i) [])
neighbours i h = in_order i (suc i) (omega arith) h

-- "Each stands there just once".
pub once : (i j : ℕ) → i < length listing → j < length listing
    → get_or listing i [] ≡ get_or listing j [] → i ≡ j
once i j h k e =
    let a = get_or listing i [] in
    let b = get_or listing j [] in
    elim (ℕ_discrete i j) [
      | yes p ↦ p
      | no p ↦ absurd (⊎_elim
          (λ l. before-irrefl b (subst (λ x. Before x b) e (in_order i j l k)))
          (λ l. before-irrefl b (subst (λ x. Before b x) e (in_order j i (omega arith) h)))
          (below_or_not i j))
    ]
