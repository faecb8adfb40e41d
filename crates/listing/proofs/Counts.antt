-- How many there are: by the rules, and no list is computed.
-- length-calls: of any counts; length-scripts: over any list; length-listing.
-- Assumes nothing.
use mathlib.Core.Path.{◌≡◌, refl, sym, ap, ap₂, ◌∙◌}
use mathlib.Core.List.{List, [], ◌∷◌, ◌++◌, map}
use Prim.Native.Nat.{ℕ, zero, suc, ◌+◌, ◌*◌, ◌^◌}
use native.Mathlib.Omega.{arith}
use native.Mathlib.Nat.{mul_assoc, pow-zero, pow-succ'}
use lib.ListN.{length, length-append, length-map}
use Rattle.model.specs.Calls.{open_run, fetch, evict, step, issue, drop_run}
use Rattle.listing.specs.Scripts.{firsts, rows, each, scripts}
use Rattle.listing.specs.Calls.{one_job, calls, listing}

pub length-firsts : {A : Type 0} (n : ℕ) (f : ℕ → A) → length (firsts n f) ≡ n
unfolding firsts
length-firsts zero f = refl
length-firsts (suc n) f = ap suc (length-firsts n (λ i. f (suc i)))

pub length-rows : {A : Type 0} (n v : ℕ) (f : ℕ → List A) → ((i : ℕ) → length (f i) ≡ v)
    → length (rows n f) ≡ n * v
unfolding rows
length-rows zero v f h = omega arith
length-rows (suc n) v f h =
    rw (length-append, h 0, length-rows n v (λ i. f (suc i)) (λ i. h (suc i))) (omega arith)

pub length-each : {A B : Type 0} (v : ℕ) (f : A → List B) (xs : List A)
    → ((x : A) → length (f x) ≡ v) → length (each f xs) ≡ length xs * v
unfolding each
length-each v f [] h = omega arith
length-each v f (x ∷ xs) h = rw (length-append, h x, length-each v f xs h) (omega arith)

-- "The count per length is proved from the rule."
pub length-scripts : {A : Type 0} (xs : List A) (n : ℕ) → length (scripts xs n) ≡ length xs ^ n
unfolding scripts
length-scripts xs zero = sym (pow-zero (length xs))
length-scripts xs (suc n) =
    length-each (length xs ^ n) (λ x. map (λ s. x ∷ s) (scripts xs n)) xs
    (λ x. length-map (scripts xs n) (λ s. x ∷ s) ∙ length-scripts xs n)
    ∙ sym (pow-succ' (length xs) n)

both : {A : Type 0} (a b : List A) {m n : ℕ} → length a ≡ m → length b ≡ n
    → length (a ++ b) ≡ m + n
both a b e f = length-append a b ∙ ap₂ (λ (x y : ℕ). x + y) e f

pub length-calls : (K W N : ℕ)
    → length (calls K W N) ≡ 2 * N * K + N * 2 ^ K + W * 2 ^ K + 2
unfolding calls
length-calls K W N =
    let p = 2 ^ K in
    let fetches = rows N (λ o. firsts K (λ k. fetch o k)) in
    let evicts = rows N (λ o. firsts K (λ k. evict o k)) in
    let opens = rows N (λ o. firsts p (λ m. open_run 0 (one_job o m))) in
    let issues = rows W (λ w. firsts p (λ S. issue 0 w S)) in
    let later = step 0 0 0 ∷ (issues ++ (drop_run 0 ∷ [])) in
    let f : length fetches ≡ N * K = length-rows N K _ (λ o. length-firsts K _) in
    let e : length evicts ≡ N * K = length-rows N K _ (λ o. length-firsts K _) in
    let o : length opens ≡ N * p = length-rows N p _ (λ o. length-firsts p _) in
    let i : length issues ≡ W * p = length-rows W p _ (λ w. length-firsts p _) in
    let l : length later ≡ suc (W * p + 1) = ap suc (both issues (drop_run 0 ∷ []) i refl) in
    let whole : length (calls K W N) ≡ N * K + (N * K + (N * p + suc (W * p + 1))) =
    both fetches (evicts ++ (opens ++ later)) f (both evicts (opens ++ later) e
    (both opens later o l)) in
    let two : 2 * N * K ≡ 2 * (N * K) = mul_assoc 2 N K in
    whole ∙ omega (arith, two)

-- 26 for the counts of `new 2 2 2 1`.
pub calls_26 : length (calls 2 2 2) ≡ 26
calls_26 = length-calls 2 2 2

-- 26, 676 and 17,576.
pub scripts_26 : (n : ℕ) → length (scripts (calls 2 2 2) n) ≡ 26 ^ n
scripts_26 n = length-scripts (calls 2 2 2) n ∙ ap (λ (m : ℕ). m ^ n) calls_26

pub per_length :
    (length (scripts (calls 2 2 2) 1) ≡ 26)
    × (length (scripts (calls 2 2 2) 2) ≡ 676)
    × (length (scripts (calls 2 2 2) 3) ≡ 17576)
per_length = (scripts_26 1, scripts_26 2, scripts_26 3)

pub length-listing : length listing ≡ 18278
unfolding listing
length-listing =
    let s₁ = scripts (calls 2 2 2) 1 in
    let s₂ = scripts (calls 2 2 2) 2 in
    let s₃ = scripts (calls 2 2 2) 3 in
    length-append s₁ (s₂ ++ s₃)
    ∙ rw (length-append s₂ s₃, scripts_26 1, scripts_26 2, scripts_26 3)
