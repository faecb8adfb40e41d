-- Tests as facts: a test passes or fails, and what that says of its parts.
-- Assumes nothing.
use mathlib.Core.Path.{◌≡◌, refl, sym, ◌∙◌}
use mathlib.Core.Bool.{Bool, true, false, not, ◌&&◌, ◌||◌, So, true≢false, false≢true}
use mathlib.Core.Logic.{◌⊎◌, inl, inr, ◌≢◌}
use Prim.Native.Nat.{ℕ, suc, ◌≤◌, ◌<◌}
use native.Mathlib.Omega.{arith}
use lib.Dec.{leb, ltb, eqb, T, leb→le, le→leb, nleb→lt, eqb→eq, eqb_refl}

-- ---- one test

-- A test passes or fails.
pub test {ℓ} : {X : Type ℓ} (b : Bool) → (So b → X) → (b ≡ false → X) → X
test true f g = f refl
test false f g = g refl

pub clash {ℓ} : {X : Type ℓ} {b : Bool} → So b → b ≡ false → X
clash p q = absurd (true≢false (sym p ∙ q))

-- Two tests that pass together are equal.
pub same_test : {a b : Bool} → (So a → So b) → (So b → So a) → a ≡ b
same_test {a = true} {b} f g = sym (f refl)
same_test {a = false} {b = true} f g = g refl
same_test {a = false} {b = false} f g = refl

-- A test that passes, through an equation of tests.
infixr 25 ◌∙˙◌
pub ◌∙˙◌ : {a b : Bool} → a ≡ b → So a → So b
e ∙˙ p = sym e ∙ p

-- ---- and, or, not

pub and_intro : {a b : Bool} → So a → So b → So (a && b)
and_intro {a = true} p q = q
and_intro {a = false} p q = p

pub and_left : (a b : Bool) → So (a && b) → So a
and_left true b p = refl
and_left false b p = p

pub and_right : (a b : Bool) → So (a && b) → So b
and_right true b p = p
and_right false b p = absurd (false≢true p)

pub and_cases : (a b : Bool) → a && b ≡ false → (a ≡ false) ⊎ (b ≡ false)
and_cases false b h = inl refl
and_cases true b h = inr h

pub and_assoc : (a b c : Bool) → (a && b) && c ≡ a && (b && c)
and_assoc true b c = refl
and_assoc false b c = refl

pub and-false-right : (a : Bool) → a && false ≡ false
and-false-right true = refl
and-false-right false = refl

pub or_left : {a : Bool} (b : Bool) → So a → So (a || b)
or_left {a = true} b p = refl
or_left {a = false} b p = absurd (false≢true p)

pub or_right : (a : Bool) {b : Bool} → So b → So (a || b)
or_right true p = refl
or_right false p = p

pub or_cases : (a b : Bool) → So (a || b) → So a ⊎ So b
or_cases true b p = inl refl
or_cases false b p = inr p

pub or-none : (a b : Bool) → a || b ≡ false → (a ≡ false) × (b ≡ false)
or-none false b h = (refl, h)
or-none true b h = absurd (true≢false h)

pub or_true_right : (a : Bool) → a || true ≡ true
or_true_right true = refl
or_true_right false = refl

pub or-false-right : (a : Bool) → a || false ≡ a
or-false-right true = refl
or-false-right false = refl

pub not-intro : {b : Bool} → b ≡ false → So (not b)
not-intro p = rw p

pub not_elim : {b : Bool} → So (not b) → b ≡ false
not_elim {b = true} p = absurd (false≢true p)
not_elim {b = false} p = refl

-- A test that is made first, and ends the work where it fails.
pub first-fails : (a b : Bool) → not a ≡ true → false ≡ a && b
first-fails true b e = absurd (false≢true e)
first-fails false b e = refl

pub first_passes : (a b : Bool) → not a ≡ false → b ≡ a && b
first_passes true b e = refl
first_passes false b e = absurd (true≢false e)

-- ---- tests of numbers

so_of_T : {b : Bool} → T b → So b
so_of_T {b = true} t = refl
so_of_T {b = false} t = absurd t

T-of-so : {b : Bool} → So b → T b
T-of-so {b = true} t = tt
T-of-so {b = false} t = absurd (false≢true t)

pub leb-le : (m n : ℕ) → So (leb m n) → m ≤ n
leb-le m n p = leb→le m n (T-of-so p)

pub le-leb : (m n : ℕ) → m ≤ n → So (leb m n)
le-leb m n p = so_of_T (le→leb m n p)

-- A failed `leb` is the order the other way.
pub leb-gt : (m n : ℕ) → leb m n ≡ false → n < m
leb-gt m n p = nleb→lt m n (T-of-so (not-intro p))

pub gt-leb : (m n : ℕ) → n < m → leb m n ≡ false
gt-leb m n h = test (leb m n) (λ p. absurd (omega (arith, leb-le m n p))) (λ p. p)

pub ltb-lt : (m n : ℕ) → So (ltb m n) → m < n
ltb-lt m n p = leb-le (suc m) n p

pub lt-ltb : (m n : ℕ) → m < n → So (ltb m n)
lt-ltb m n h = le-leb (suc m) n h

pub ltb-ge : (m n : ℕ) → ltb m n ≡ false → n ≤ m
ltb-ge m n p = omega (arith, leb-gt (suc m) n p)

pub ge-ltb : (m n : ℕ) → n ≤ m → ltb m n ≡ false
ge-ltb m n h = gt-leb (suc m) n (omega arith)

pub eqb-eq : (m n : ℕ) → So (eqb m n) → m ≡ n
eqb-eq m n p = eqb→eq m n (T-of-so p)

pub eq-eqb : (m n : ℕ) → m ≡ n → So (eqb m n)
eq-eqb m n p = rw p (so_of_T (eqb_refl n))

pub ne_eqb : (m n : ℕ) → m ≢ n → eqb m n ≡ false
ne_eqb m n h = test (eqb m n) (λ p. absurd (h (eqb-eq m n p))) (λ p. p)

pub eqb-ne : (m n : ℕ) → eqb m n ≡ false → m ≢ n
eqb-ne m n p e = clash (eq-eqb m n e) p

pub not-ltb : (m n : ℕ) → not (ltb m n) ≡ leb n m
not-ltb m n =
    test (ltb m n) (λ t. rw (t, gt-leb n m (ltb-lt m n t)))
    (λ t. rw (t, le-leb n m (ltb-ge m n t)))

pub not-not : (b : Bool) → not (not b) ≡ b
not-not true = refl
not-not false = refl

pub eqb-sym : (m n : ℕ) → eqb m n ≡ eqb n m
eqb-sym m n =
    same_test (λ p. eq-eqb n m (sym (eqb-eq m n p))) (λ p. eq-eqb m n (sym (eqb-eq n m p)))
