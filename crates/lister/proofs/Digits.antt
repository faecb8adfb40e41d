-- Which calls a line has: its digits, each the number of a call.
-- call-at: a call by its number. digits_1, digits_2, digits_3: the calls of a line by division,
-- stored one by one.
-- Assumes nothing.
use mathlib.Core.Path.{◌≡◌, refl, sym, ap, ap₂, ◌∙◌}
use mathlib.Core.List.{List, [], ◌∷◌, map}
use Prim.Native.Nat.{ℕ, zero, suc, ◌+◌, ◌-◌, ◌/◌, ◌%◌, ◌≤◌, ◌<◌}
use native.Mathlib.Omega.{arith}
use native.Mathlib.Nat.{not-suc-le-zero}
use lib.ListN.{length, get_or, take, set}
use Rattle.model.specs.Calls.{StoreCall, drop_run}
use Rattle.listing.specs.Scripts.{firsts, rows, script_at}
use Rattle.listing.specs.Calls.{calls, listing}
use Rattle.listing.proofs.Counts.{calls_26}
use Rattle.listing.proofs.Positions.{twenty_six, first-length, second-length, third-length}
use Rattle.lister.specs.Numbered.{call_at, line_count, longest}

-- ---- a digit's call

calls_at : calls 2 2 2 ≡ firsts 26 call_at
unfolding calls rows firsts call_at
calls_at = refl

get_d_firsts : {A : Type 0} (n : ℕ) (f : ℕ → A) (d : A) (i : ℕ) → i < n
    → get_or (firsts n f) i d ≡ f i
unfolding firsts
get_d_firsts zero f d i h = absurd (not-suc-le-zero h)
get_d_firsts (suc n) f d zero h = refl
get_d_firsts (suc n) f d (suc i) h = get_d_firsts n (λ j. f (suc j)) d i (omega arith)

pub call-at : (i : ℕ) → i < 26 → get_or (calls 2 2 2) i (drop_run 0) ≡ call_at i
call-at i h = rw calls_at (get_d_firsts 26 call_at (drop_run 0) i h)

-- ---- digits

digit : (j k : ℕ) → j ≡ k → k < 26 → get_or (calls 2 2 2) j (drop_run 0) ≡ call_at k
digit j k e h = rw e (call-at k h)

cons : {x y : StoreCall} {xs ys : List StoreCall} → x ≡ y → xs ≡ ys → x ∷ xs ≡ y ∷ ys
cons e f = ap₂ (λ z zs. z ∷ zs) e f

pub script_1 : (i : ℕ) → i < 26 → twenty_six 1 i ≡ call_at i ∷ []
unfolding script_at
script_1 i h = cons (digit _ i (rw calls_26 (omega arith)) h) refl

pub script_2 : (i : ℕ) → i < 676 → twenty_six 2 i ≡ call_at (i / 26) ∷ call_at (i % 26) ∷ []
unfolding script_at
script_2 i h =
    cons (digit _ (i / 26) (rw calls_26) (omega arith))
    (cons (digit _ (i % 26) (rw calls_26 (omega arith)) (omega arith)) refl)

pub script_3 : (i : ℕ) → i < 17576
    → twenty_six 3 i ≡ call_at (i / 676) ∷ call_at (i % 676 / 26) ∷ call_at (i % 26) ∷ []
unfolding script_at
script_3 i h =
    cons (digit _ (i / 676) (rw calls_26) (omega arith))
    (cons (digit _ (i % 676 / 26) (rw calls_26) (omega arith))
    (cons (digit _ (i % 26) (rw calls_26 (omega arith)) (omega arith)) refl))

front_1 : (l : List ℕ) (a : ℕ) → longest ≤ length l → take 1 (set l 0 a) ≡ a ∷ []
front_1 [] a h = absurd (omega arith)
front_1 (x ∷ l) a h = refl

front_2 : (l : List ℕ) (a b : ℕ) → longest ≤ length l
    → take 2 (set (set l 0 a) 1 b) ≡ a ∷ b ∷ []
front_2 [] a b h = absurd (omega arith)
front_2 (x ∷ []) a b h = absurd (omega arith)
front_2 (x ∷ y ∷ l) a b h = refl

front_3 : (l : List ℕ) (a b c : ℕ) → longest ≤ length l
    → take 3 (set (set (set l 0 a) 1 b) 2 c) ≡ a ∷ b ∷ c ∷ []
front_3 [] a b c h = absurd (omega arith)
front_3 (x ∷ []) a b c h = absurd (omega arith)
front_3 (x ∷ y ∷ []) a b c h = absurd (omega arith)
front_3 (x ∷ y ∷ z ∷ l) a b c h = refl

-- Line n of the listing by its digits, stored one by one.
pub digits_1 : (l : List ℕ) (n : ℕ) → longest ≤ length l → n < 26
    → map call_at (take 1 (set l 0 n)) ≡ get_or listing n []
digits_1 l n g h = ap (map call_at) (front_1 l n g) ∙ sym (first-length n h ∙ script_1 n h)

pub digits_2 : (l : List ℕ) (n : ℕ) → longest ≤ length l → 26 ≤ n → n < 702
    → map call_at (take 2 (set (set l 0 ((n - 26) / 26)) 1 ((n - 26) % 26))) ≡ get_or listing n []
digits_2 l n g h k =
    let i = n - 26 in
    let e : n ≡ 26 + i = omega arith in
    let f : i < 676 = omega arith in
    ap (map call_at) (front_2 l (i / 26) (i % 26) g)
    ∙ sym (ap (λ (j : ℕ). get_or listing j []) e ∙ second-length i f ∙ script_2 i f)

pub digits_3 : (l : List ℕ) (n : ℕ) → longest ≤ length l → 702 ≤ n → n < line_count
    → map call_at (take 3 (set (set (set l 0 ((n - 702) / 676)) 1 ((n - 702) % 676 / 26)) 2
    ((n - 702) % 26))) ≡ get_or listing n []
digits_3 l n g h k =
    let i = n - 702 in
    let e : n ≡ 702 + i = omega arith in
    let f : i < 17576 = omega arith in
    ap (map call_at) (front_3 l (i / 676) (i % 676 / 26) (i % 26) g)
    ∙ sym (ap (λ (j : ℕ). get_or listing j []) e ∙ third-length i f ∙ script_3 i f)
