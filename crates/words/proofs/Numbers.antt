-- Laws of values under a test, of counts, of the largest value and of steps in turn.
-- Assumes nothing.
use mathlib.Core.Path.{◌≡◌, refl}
use mathlib.Core.Bool.{Bool, true, false, ◌||◌, So}
use Prim.Native.Nat.{ℕ, zero, suc, ◌+◌, ◌≤◌, ◌<◌, max}
use native.Mathlib.Omega.{arith}
use native.Mathlib.Nat.{not-suc-le-zero}
use native.Mathlib.Numerals.{add-one}
use native.Mathlib.Decide.{dec_le}
use Rattle.words.specs.Tests.{Items, Within}
use Rattle.words.specs.Numbers.{when, count_below, largest, fold_below}
use Rattle.words.proofs.Bools.{clash}
use Rattle.words.proofs.Tests.{below-cases}

-- ---- a value under a test

pub when-yes : (b : Bool) (x : ℕ) → So b → when b x ≡ x
unfolding when
when-yes b x p = rw p

pub when-no : (b : Bool) (x : ℕ) → b ≡ false → when b x ≡ 0
unfolding when
when-no b x p = rw p

pub when-pos : (b : Bool) (x : ℕ) → 1 ≤ when b x → So b
unfolding when
when-pos true x h = refl
when-pos false x h = absurd (not-suc-le-zero h)

pub when-le : (b : Bool) (x : ℕ) → when b x ≤ x
unfolding when
when-le true x = omega arith
when-le false x = omega arith

pub when-or : (a b : Bool) (x : ℕ) → when (a || b) x ≡ max (when a x) (when b x)
unfolding when
when-or true true x = omega arith
when-or true false x = omega arith
when-or false b x = omega arith

-- A stronger test gives no larger value.
pub when-mono : (a b : Bool) (x : ℕ) → (So a → So b) → when a x ≤ when b x
unfolding when
when-mono true true x f = omega arith
when-mono true false x f = clash (f refl) refl
when-mono false b x f = omega arith

-- ---- counts

pub count-one : (p : Items) (n : ℕ) → So (p n) → count_below (suc n) p ≡ suc (count_below n p)
unfolding count_below
count-one p n h = omega (arith, when-yes (p n) 1 h)

pub count-top : (n : ℕ) (p : Items) → count_below n p ≤ n
unfolding count_below
count-top zero p = omega arith
count-top (suc n) p = omega (arith, count-top n p, when-le (p n) 1)

pub count_same : (n : ℕ) (p q : Items) → ((i : ℕ) → i < n → p i ≡ q i)
    → count_below n p ≡ count_below n q
unfolding count_below
count_same zero p q h = refl
count_same (suc n) p q h = rw (count_same n p q (λ i l. h i (omega arith)), h n (omega arith))

-- A part has no larger count,
pub count-le : (n : ℕ) (p q : Items) → Within n p q → count_below n p ≤ count_below n q
unfolding count_below
count-le zero p q h = omega arith
count-le (suc n) p q h =
    let low = count-le n p q (λ i l. h i (omega arith)) in
    omega (arith, low, when-mono (p n) (q n) 1 (h n (omega arith)))

-- and a smaller one if an item is left out.
pub count_less : (n : ℕ) (p q : Items) → Within n p q → (d : ℕ) → d < n → p d ≡ false → So (q d)
    → count_below n p < count_below n q
unfolding count_below
count_less zero p q h d l a b = absurd (not-suc-le-zero l)
count_less (suc n) p q h d l a b =
    let low : Within n p q = λ i k. h i (omega arith) in
    below-cases d n l
    (λ e.
    let u = when-no (p n) 1 (rw (← e) a) in
    let v = when-yes (q n) 1 (rw (← e) b) in omega (arith, count-le n p q low))
    (λ k. omega (arith, count_less n p q low d k a b, when-mono (p n) (q n) 1 (h n (omega arith))))

-- Below a larger bound the count is no smaller,
pub count-mono : (m n : ℕ) (p : Items) → m ≤ n → count_below m p ≤ count_below n p
unfolding count_below
count-mono m zero p h = let e : m ≡ 0 = omega arith in rw e (omega arith)
count-mono m (suc n) p h =
    below-cases m (suc n) (omega arith) (λ e. rw e (omega arith))
    (λ l. omega (arith, count-mono m n p (omega arith)))

-- and larger if an item in between passes.
pub count-between : (m n i : ℕ) (p : Items) → m ≤ i → i < n → So (p i)
    → count_below m p < count_below n p
count-between m n i p h l a =
    omega (arith, count-mono m i p h, count-mono (suc i) n p l, count-one p i a)

-- ---- the largest value

pub largest-at : (n : ℕ) (f : ℕ → ℕ) (i : ℕ) → i < n → f i ≤ largest n f
unfolding largest
largest-at zero f i l = absurd (not-suc-le-zero l)
largest-at (suc n) f i l =
    below-cases i n l (λ e. rw e (omega arith)) (λ k. omega (arith, largest-at n f i k))

pub largest-le : (n : ℕ) (f : ℕ → ℕ) (c : ℕ) → ((i : ℕ) → i < n → f i ≤ c) → largest n f ≤ c
unfolding largest
largest-le zero f c h = omega arith
largest-le (suc n) f c h =
    omega (arith, h n (omega arith), largest-le n f c (λ i l. h i (omega arith)))

-- Where it is not 0 it is one of them.
pub largest-some : (n : ℕ) (f : ℕ → ℕ) → 1 ≤ largest n f
    → (i : ℕ) × (i < n) × (f i ≡ largest n f)
unfolding largest
largest-some zero f h = absurd (not-suc-le-zero h)
largest-some (suc n) f h =
    elim (dec_le (largest n f) (f n)) [
      | yes l ↦ (n, omega arith, omega arith)
      | no l ↦ let r = largest-some n f (omega arith) in (r.0, omega arith, omega (arith, r.2))
    ]

pub largest-same : (n : ℕ) (f g : ℕ → ℕ) → ((i : ℕ) → i < n → f i ≡ g i)
    → largest n f ≡ largest n g
unfolding largest
largest-same zero f g h = refl
largest-same (suc n) f g h =
    omega (arith, h n (omega arith), largest-same n f g (λ i l. h i (omega arith)))

pub largest-max : (n : ℕ) (f g : ℕ → ℕ)
    → largest n (λ i. max (f i) (g i)) ≡ max (largest n f) (largest n g)
unfolding largest
largest-max zero f g = refl
largest-max (suc n) f g = omega (arith, largest-max n f g)

-- ---- steps in turn

pub fold_more {ℓ} : {A : Type ℓ} (f : ℕ → A → A) (n : ℕ) (x : A)
    → fold_below (n + 1) f x ≡ f n (fold_below n f x)
unfolding fold_below
fold_more f n x = rw add-one

pub fold_same {ℓ} : {A : Type ℓ} (n : ℕ) (f g : ℕ → A → A)
    → ((i : ℕ) (x : A) → i < n → f i x ≡ g i x) → (x : A) → fold_below n f x ≡ fold_below n g x
unfolding fold_below
fold_same zero f g h x = refl
fold_same (suc n) f g h x =
    rw (fold_same n f g (λ i y l. h i y (omega arith)) x) (h n (fold_below n g x) (omega arith))

-- What each step keeps, all of them keep.
pub fold-keeps {ℓ κ} : {A : Type ℓ} (P : A → Type κ) (n : ℕ) (f : ℕ → A → A)
    → ((i : ℕ) (x : A) → i < n → P x → P (f i x)) → (x : A) → P x → P (fold_below n f x)
unfolding fold_below
fold-keeps P zero f h x p = p
fold-keeps P (suc n) f h x p =
    h n (fold_below n f x) (omega arith) (fold-keeps P n f (λ i y l. h i y (omega arith)) x p)
