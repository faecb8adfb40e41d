-- Which script stands where: list i by its digits.
-- script_at_lem: over any list. first-length, second-length, third-length: in the listing.
-- Assumes nothing.
use mathlib.Core.Path.{◌≡◌, refl, sym, ap, ◌∙◌}
use mathlib.Core.List.{List, [], ◌∷◌, ◌++◌, map}
use Prim.Native.Nat.{ℕ, zero, suc, ◌+◌, ◌*◌, ◌/◌, ◌%◌, ◌^◌, ◌<◌}
use native.Mathlib.Omega.{arith}
use native.Mathlib.Nat.{zero-add, suc-add, mul-zero, not-suc-le-zero, mod-lt, div-add-mod', div-lt_iff_lt-mul, pow-succ'}
use lib.ListN.{length, get_or, length-map, get_or-append}
use Rattle.model.specs.Calls.{StoreCall, open_run, fetch, step, issue, drop_run}
use Rattle.listing.specs.Scripts.{firsts, rows, each, scripts, script_at}
use Rattle.listing.specs.Calls.{one_job, calls, listing}
use Rattle.listing.proofs.Counts.{length-scripts, scripts_26}

-- ---- elements of lists

get_d_right : {A : Type 0} (a b : List A) (d : A) (i : ℕ)
    → get_or (a ++ b) (length a + i) d ≡ get_or b i d
get_d_right [] b d i = rw (zero-add i)
get_d_right (x ∷ xs) b d i = rw (suc-add (length xs) i) (get_d_right xs b d i)

get_d_map : {A B : Type 0} (f : A → B) (l : List A) (i : ℕ) (d : A) (e : B) → i < length l
    → get_or (map f l) i e ≡ f (get_or l i d)
get_d_map f [] i d e h = absurd (not-suc-le-zero h)
get_d_map f (x ∷ xs) zero d e h = refl
get_d_map f (x ∷ xs) (suc i) d e h = get_d_map f xs i d e (omega arith)

-- Element r of the lists' list k, where all have v elements.
get_d_each : {A B : Type 0} (v : ℕ) (f : A → List B) → ((x : A) → length (f x) ≡ v) → (xs : List A)
    (d : A) (e : B) (k r : ℕ) → k < length xs → r < v
    → get_or (each f xs) (k * v + r) e ≡ get_or (f (get_or xs k d)) r e
unfolding each
get_d_each v f h [] d e k r hk hr = absurd (not-suc-le-zero hk)
get_d_each v f h (x ∷ xs) d e zero r hk hr =
    let z : 0 * v + r ≡ r = omega arith in
    rw z (get_or-append (f x) (each f xs) e r (rw (h x) hr))
get_d_each v f h (x ∷ xs) d e (suc k) r hk hr =
    let z : suc k * v + r ≡ length (f x) + (k * v + r) = rw (h x) (omega arith) in
    rw z (get_d_right (f x) (each f xs) e (k * v + r) ∙ get_d_each v f h xs d e k r (omega arith)
    hr)

-- ---- scripts over any list

alone : {A : Type 0} (i : ℕ) → get_or {A = List A} ([] ∷ []) i [] ≡ []
alone zero = refl
alone (suc i) = refl

some_below : (a v i : ℕ) → i < a * v → 0 < v
some_below a zero i h = absurd (not-suc-le-zero (rw (mul-zero a) at h))
some_below a (suc v) i h = omega arith

pub script_at_lem : {A : Type 0} (xs : List A) (d : A) (n i : ℕ) → i < length xs ^ n
    → get_or (scripts xs n) i [] ≡ script_at xs d n i
unfolding scripts script_at
script_at_lem xs d zero i h = alone i
script_at_lem {A = A} xs d (suc n) i h =
    let v = length xs ^ n in
    let f : A → List (List A) = λ x. map (λ s. x ∷ s) (scripts xs n) in
    let g : i < length xs * v = rw (pow-succ' (length xs) n) at h in
    let pos : 0 < v = some_below (length xs) v i g in
    let hq : i / v < length xs = (div-lt_iff_lt-mul pos).1 g in
    let hr : i % v < v = mod-lt i pos in
    let x = get_or xs (i / v) d in
    ap (λ (j : ℕ). get_or (each f xs) j []) (sym (div-add-mod' i v))
    ∙ get_d_each v f (λ y. length-map (scripts xs n) (λ s. y ∷ s) ∙ length-scripts xs n) xs d []
    (i / v) (i % v) hq hr
    ∙ get_d_map (λ s. x ∷ s) (scripts xs n) (i % v) [] [] (rw (length-scripts xs n) hr)
    ∙ ap (λ (s : List A). x ∷ s) (script_at_lem xs d n (i % v) hr)

-- ---- the listing

abbrev pub twenty_six : ℕ → ℕ → List StoreCall
twenty_six n i = script_at (calls 2 2 2) (drop_run 0) n i

pub script_26 : (n i : ℕ) → i < 26 ^ n → get_or (scripts (calls 2 2 2) n) i [] ≡ twenty_six n i
script_26 n i h =
    script_at_lem (calls 2 2 2) (drop_run 0) n i
    (rw (sym (length-scripts (calls 2 2 2) n) ∙ scripts_26 n) h)

pub first-length : (i : ℕ) → i < 26 → get_or listing i [] ≡ twenty_six 1 i
unfolding listing
first-length i h =
    let s₁ = scripts (calls 2 2 2) 1 in
    let s₂ = scripts (calls 2 2 2) 2 in
    let s₃ = scripts (calls 2 2 2) 3 in
    get_or-append s₁ (s₂ ++ s₃) [] i (rw (scripts_26 1) h) ∙ script_26 1 i h

pub second-length : (i : ℕ) → i < 676 → get_or listing (26 + i) [] ≡ twenty_six 2 i
unfolding listing
second-length i h =
    let s₁ = scripts (calls 2 2 2) 1 in
    let s₂ = scripts (calls 2 2 2) 2 in
    let s₃ = scripts (calls 2 2 2) 3 in
    ap (λ (j : ℕ). get_or (s₁ ++ (s₂ ++ s₃)) (j + i) []) (sym (scripts_26 1))
    ∙ get_d_right s₁ (s₂ ++ s₃) [] i
    ∙ get_or-append s₂ s₃ [] i (rw (scripts_26 2) h) ∙ script_26 2 i h

pub third-length : (i : ℕ) → i < 17576 → get_or listing (702 + i) [] ≡ twenty_six 3 i
unfolding listing
third-length i h =
    let s₁ = scripts (calls 2 2 2) 1 in
    let s₂ = scripts (calls 2 2 2) 2 in
    let s₃ = scripts (calls 2 2 2) 3 in
    let e : 702 + i ≡ length s₁ + (length s₂ + i) =
    rw (scripts_26 1, scripts_26 2) (omega arith) in
    ap (λ (j : ℕ). get_or (s₁ ++ (s₂ ++ s₃)) j []) e
    ∙ get_d_right s₁ (s₂ ++ s₃) [] (length s₂ + i)
    ∙ get_d_right s₂ s₃ [] i ∙ script_26 3 i h

-- Lines 1, 26, 27, 42, 433, 703, 6547 and 18,278, by their digits.
pub numbered :
    (get_or listing 0 [] ≡ fetch 0 0 ∷ [])
    × (get_or listing 25 [] ≡ drop_run 0 ∷ [])
    × (get_or listing 26 [] ≡ fetch 0 0 ∷ fetch 0 0 ∷ [])
    × (get_or listing 41 [] ≡ fetch 0 0 ∷ open_run 0 (one_job 1 3) ∷ [])
    × (get_or listing 432 [] ≡ open_run 0 (one_job 1 3) ∷ step 0 0 0 ∷ [])
    × (get_or listing 702 [] ≡ fetch 0 0 ∷ fetch 0 0 ∷ fetch 0 0 ∷ [])
    × (get_or listing 6546 [] ≡ open_run 0 (one_job 0 0) ∷ step 0 0 0 ∷ issue 0 0 3 ∷ [])
    × (get_or listing 18277 [] ≡ drop_run 0 ∷ drop_run 0 ∷ drop_run 0 ∷ [])
unfolding script_at calls rows firsts
numbered = (
  first-length 0 (omega arith),
  first-length 25 (omega arith),
  second-length 0 (omega arith),
  second-length 15 (omega arith),
  second-length 406 (omega arith),
  third-length 0 (omega arith),
  third-length 5844 (omega arith),
  third-length 17575 (omega arith),
)
