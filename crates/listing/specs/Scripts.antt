-- Lists built by rule over anything: here over calls.
-- firsts, rows: over numbers below a bound. each: over a list. scripts: all lists of n elements;
-- script_at: one of them. In, AllOf: some element, each element. Lex: the first difference
-- decides.
-- Assumes nothing.
use Rattle.std.specs.Prelude.{◌≡◌, ◌⊎◌, List, [], ◌∷◌, ◌++◌, map, ℕ, zero, suc, ◌/◌, ◌%◌, ◌^◌, length, get_or}

-- f 0, f 1, .. f (n - 1).
unfoldable pub firsts : {A : Type 0} → ℕ → (ℕ → A) → List A
firsts zero f = []
firsts (suc n) f = f 0 ∷ firsts n (λ i. f (suc i))

-- The lists f 0, f 1, .. f (n - 1), one after the other.
unfoldable pub rows : {A : Type 0} → ℕ → (ℕ → List A) → List A
rows zero f = []
rows (suc n) f = f 0 ++ rows n (λ i. f (suc i))

-- The lists f x for each x of a list, one after the other.
unfoldable pub each : {A B : Type 0} → (A → List B) → List A → List B
each f [] = []
each f (x ∷ xs) = f x ++ each f xs

-- Every list of n elements, each one of xs: for each x of xs, in order, x before each list that is
-- one shorter.
unfoldable pub scripts : {A : Type 0} → List A → ℕ → List (List A)
scripts xs zero = [] ∷ []
scripts xs (suc n) = each (λ x. map (λ s. x ∷ s) (scripts xs n)) xs

-- List i of them by its digits, the first one first: each is the number of an element of xs, in
-- order from 0. x: for a number that no element has.
unfoldable pub script_at : {A : Type 0} → List A → A → ℕ → ℕ → List A
script_at xs x zero i = []
script_at xs x (suc n) i =
    get_or xs (i / length xs ^ n) x ∷ script_at xs x n (i % length xs ^ n)

-- x is an element.
unfoldable pub In : {A : Type 0} → A → List A → Type 0
In x [] = ⊥
In x (y ∷ ys) = (x ≡ y) ⊎ In x ys

-- Each element is in P.
unfoldable pub AllOf : {A : Type 0} → (A → Type 0) → List A → Type 0
AllOf P [] = Unit {0}
AllOf P (x ∷ xs) = P x × AllOf P xs

-- "the first differing .. decides": by R. What is only a part of the other comes first.
unfoldable pub Lex : {A : Type 0} → (A → A → Type 0) → List A → List A → Type 0
Lex R [] [] = ⊥
Lex R [] (y ∷ ys) = Unit {0}
Lex R (x ∷ xs) [] = ⊥
Lex R (x ∷ xs) (y ∷ ys) = R x y ⊎ ((x ≡ y) × Lex R xs ys)
