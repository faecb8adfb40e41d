-- The first field of a line.
-- fields-some: a line has one. field-split: where it ends. first-is: the first field told by its
-- length. same-bytes: words compared by `==`. or-all: the place of a byte, or past the last.
-- Assumes nothing.
use mathlib.Core.Path.{◌≡◌, refl, sym, ap}
use mathlib.Core.Bool.{Bool, true, false, cond, not, ◌&&◌}
use mathlib.Core.List.{List, [], ◌∷◌}
use Prim.Native.Nat.{ℕ, suc, ◌+◌, ◌-◌, ◌≤◌}
use native.Mathlib.Numerals.{add-one}
use native.Mathlib.Decide.{dec_lt}
use native.Mathlib.Omega.{arith}
use lib.Dec.{eqb}
use lib.ListN.{length, take}
use borrow.Author.Tests.{lt-ltb, le-ltb}
use Rattle.std.specs.List.{position, position_or_len}
use Rattle.std.specs.Cmp.Lexicographic.{pointwise}
use Rattle.std.specs.Prelude.{nat_eq, unwrap_or}
use Rattle.std.proofs.lemmas.List.Sums.{prefix_len-le-length}
use Rattle.text.specs.Bytes.{same_bytes}
use Rattle.text.specs.Fields.{in_first_of, fields_of, first_of, fields_after}

abbrev space : ℕ → Bool
space b = eqb b 32

pub fields-some {κ} : (P : List (List ℕ) → Type κ)
    → ((f : List ℕ) (fs : List (List ℕ)) → P (f ∷ fs)) → (l : List ℕ) → P (fields_of l)
unfolding fields_of in_first_of
fields-some P k [] = k [] []
fields-some P k (b ∷ bs) = go (eqb b 32) (fields_of bs)
  where
    go : (t : Bool) (F : List (List ℕ)) → P (cond t ([] ∷ F) (in_first_of b F))
    go true F = k [] F
    go false [] = k (b ∷ []) []
    go false (f ∷ fs) = k (b ∷ f) fs

-- A first field that is a byte longer leaves the same fields after it.
after-suc : (b : ℕ) (bs : List ℕ) (n : ℕ) → fields_after n bs ≡ fields_after (suc n) (b ∷ bs)
unfolding fields_after
after-suc b bs n = elim (dec_lt n (length bs)) [
  | yes h ↦
      let e : suc n + 1 ≡ suc (suc n) = omega arith in
      rw (lt-ltb n (length bs) h, lt-ltb (suc n) (suc (length bs)) (omega arith), e, add-one) refl
  | no h ↦ rw (le-ltb n (length bs) (omega arith), le-ltb (suc n) (suc (length bs)) (omega arith))
]

parts-more : (b : ℕ) (bs : List ℕ) (n : ℕ) (t : Bool)
    → fields_of bs ≡ take n bs ∷ fields_after n bs
    → cond t ([] ∷ fields_of bs) (in_first_of b (fields_of bs))
    ≡ take (cond (not t) (1 + n) 0) (b ∷ bs) ∷ fields_after (cond (not t) (1 + n) 0) (b ∷ bs)
unfolding in_first_of fields_after
parts-more b bs n true e = rw (lt-ltb 0 (suc (length bs)) (omega arith)) refl
parts-more b bs n false e =
    let f : 1 + n ≡ suc n = omega arith in
    rw (e, f)
    (ap (λ (F : List (List ℕ)). (b ∷ take n bs) ∷ F) (after-suc b bs n))

parts : (l : List ℕ)
    → fields_of l ≡ take (position_or_len space l) l ∷ fields_after (position_or_len space l) l
unfolding fields_of fields_after
parts [] = refl
parts (b ∷ bs) = parts-more b bs (position_or_len space bs) (space b) (parts bs)

-- The fields of a line, told by the place of its first space.
pub field-split : (l : List ℕ) (n : ℕ) → n ≡ position_or_len space l
    → (n ≤ length l) × (fields_of l ≡ take n l ∷ fields_after n l)
field-split l n e = rw e (prefix_len-le-length (λ b. not (space b)) l, parts l)

pub first-is : (l : List ℕ) (n : ℕ) (fs : List (List ℕ)) → fields_of l ≡ take n l ∷ fs
    → first_of l ≡ take (n - 0) l
unfolding first_of
first-is l n fs e = let z : n - 0 ≡ n = omega arith in rw (z, e)

-- ---- words compared byte by byte

pub same-bytes : (s w : List ℕ) → pointwise nat_eq s w ≡ same_bytes s w
unfolding same_bytes
same-bytes [] [] = refl
same-bytes [] (y ∷ ys) = refl
same-bytes (x ∷ xs) [] = refl
same-bytes (x ∷ xs) (y ∷ ys) = ap (λ (t : Bool). nat_eq x y && t) (same-bytes xs ys)

-- The place of the first element that passes, or past the last.
pub or-all : (p : ℕ → Bool) (xs : List ℕ)
    → unwrap_or (position p xs) (length xs) ≡ position_or_len p xs
or-all p xs = elim (dec_lt (position_or_len p xs) (length xs)) [
  | yes h ↦ rw (lt-ltb _ _ h)
  | no h ↦
      let m = prefix_len-le-length (λ x. not (p x)) xs in
      let e : position_or_len p xs ≡ length xs = omega arith in
      rw (le-ltb (position_or_len p xs) (length xs) (omega arith)) (sym e)
]
