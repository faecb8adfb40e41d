-- How the numbers of a line's fields come up byte by byte.
-- number_from, first_from: a number, and the numbers of fields, where the first goes on after
-- others worth v. in_range: of the digits so far. told_from: the numbers xs and those from place i
-- on. The laws: what a byte at place i, or the line's end, makes of them.
-- Assumes nothing.
use mathlib.Core.Path.{◌≡◌, refl, sym, ap, ◌∙◌}
use mathlib.Core.Bool.{Bool, true, false, cond, not, ◌&&◌, ◌||◌}
use mathlib.Core.List.{List, [], ◌∷◌, ◌++◌, append_assoc}
use mathlib.Core.Option.{Option, none, some}
use Prim.Native.Nat.{ℕ, ◌+◌, ◌*◌, ◌-◌, ◌<◌, ◌≤◌}
use native.Mathlib.Numerals.{add-one}
use native.Mathlib.Omega.{arith}
use lib.Dec.{leb}
use lib.ListN.{length, get_or, drop, take, set, drop_of_length-le}
use lib.Seq.{drop-cons, take-suc-set}
use borrow.Author.Tests.{eq-eqb, ne_eqb, le-leb, lt-leb}
use Rattle.std.specs.Prelude.{Option as Answer, Some, None, is_some, unwrap_or, IfSome}
use Rattle.words.proofs.Bools.{and-false-right}
use Rattle.text.proofs.Firsts.{fields-some}
use Rattle.text.specs.Fields.{in_first_of, fields_of, is_digit_of, digits_only, value_from, is_empty, max_number, number_of, number_before, numbers_of}

-- The number of a field after digits worth v; there are none where any is false.
unfoldable pub number_from : Bool → ℕ → List ℕ → Option ℕ
number_from any v f =
    cond ((any || not (is_empty f)) && digits_only f && leb (value_from v f) max_number)
    (some (value_from v f)) none

unfoldable pub first_from : Bool → ℕ → List (List ℕ) → Option (List ℕ)
first_from any v [] = number_before (number_from any v []) (some [])
first_from any v (f ∷ fs) = number_before (number_from any v f) (numbers_of fs)

unfoldable pub behind : List ℕ → Option (List ℕ) → Option (List ℕ)
behind xs none = none
behind xs (some ns) = some (xs ++ ns)

-- Some digits, worth v, or none yet.
abbrev pub in_range : Answer ℕ → Type 0
in_range o = IfSome o (λ v. v ≤ max_number)

abbrev pub told_from : List ℕ → ℕ → Answer ℕ → List ℕ → Option (List ℕ)
told_from s i o xs = behind xs (first_from (is_some o) (unwrap_or o 0) (fields_of (drop i s)))

-- ---- one field

value_grows : (v : ℕ) (f : List ℕ) → v ≤ value_from v f
unfolding value_from
value_grows v [] = omega arith
value_grows v (b ∷ f) = let g = value_grows (v * 10 + (b - 48)) f in omega arith

number-digit : (any : Bool) (v b : ℕ) (f : List ℕ) → is_digit_of b ≡ true
    → number_from any v (b ∷ f) ≡ number_from true (v * 10 + (b - 48)) f
unfolding number_from digits_only value_from is_empty
number-digit true v b f d = rw d
number-digit false v b f d = rw d

number-other : (any : Bool) (v b : ℕ) (f : List ℕ) → is_digit_of b ≡ false
    → number_from any v (b ∷ f) ≡ none
unfolding number_from digits_only value_from is_empty
number-other true v b f n = rw n
number-other false v b f n = rw n

number-over : (v : ℕ) (f : List ℕ) → max_number < v → number_from true v f ≡ none
unfolding number_from
number-over v f o =
    let g = value_grows v f in
    let h : max_number < value_from v f = omega arith in simp (lt-leb _ _ h, and-false-right)

number-ends : (v : ℕ) → v ≤ max_number → number_from true v [] ≡ some v
unfolding number_from digits_only value_from
number-ends v h = simp (le-leb _ _ h)

-- ---- the fields

first-digit : (any : Bool) (v b : ℕ) (F : List (List ℕ)) → is_digit_of b ≡ true
    → first_from any v (in_first_of b F) ≡ first_from true (v * 10 + (b - 48)) F
unfolding first_from in_first_of numbers_of
first-digit any v b [] d = rw (number-digit any v b [] d)
first-digit any v b (f ∷ fs) d = rw (number-digit any v b f d)

first-other : (any : Bool) (v b : ℕ) (F : List (List ℕ)) → is_digit_of b ≡ false
    → first_from any v (in_first_of b F) ≡ none
unfolding first_from in_first_of number_before
first-other any v b [] n = rw (number-other any v b [] n)
first-other any v b (f ∷ fs) n = rw (number-other any v b f n)

first-over : (v : ℕ) (F : List (List ℕ)) → max_number < v → first_from true v F ≡ none
unfolding first_from number_before
first-over v [] o = rw (number-over v [] o)
first-over v (f ∷ fs) o = rw (number-over v f o)

-- Where nothing has been read of the first field.
pub first-start : (l : List ℕ) → first_from false 0 (fields_of l) ≡ numbers_of (fields_of l)
unfolding first_from numbers_of number_from number_of
first-start l =
    fields-some (λ (F : List (List ℕ)). first_from false 0 F ≡ numbers_of F) (λ f fs. refl) l

-- ---- numbers behind others

behind-none : (o : Option (List ℕ)) → behind [] o ≡ o
unfolding behind
behind-none none = refl
behind-none (some ns) = refl

behind-number : (xs : List ℕ) (v : ℕ) (o : Option (List ℕ))
    → behind xs (number_before (some v) o) ≡ behind (xs ++ (v ∷ [])) o
unfolding behind number_before
behind-number xs v none = refl
behind-number xs v (some ns) = ap some (sym (append_assoc xs (v ∷ []) ns))

pub told-start : (s : List ℕ) → told_from s 0 None [] ≡ numbers_of (fields_of s)
told-start s = behind-none _ ∙ first-start s

-- A store at the end of the first k.
pub stored : (l : List ℕ) (k v : ℕ) → k < length l
    → take (k + 1) (set l k v) ≡ take k l ++ (v ∷ [])
stored l k v h = rw add-one (take-suc-set l k v h)

-- ---- a byte at place i

module _ (s : List ℕ) (i : ℕ) (xs : List ℕ) (h : i < length s) where
  at_space : get_or s i 0 ≡ 32 → fields_of (drop i s) ≡ [] ∷ fields_of (drop (i + 1) s)
  unfolding fields_of
  at_space e = rw (drop-cons s i 0, add-one) (simp (eq-eqb _ _ e))

  pub gap : get_or s i 0 ≡ 32 → told_from s i None xs ≡ none
  unfolding first_from number_from number_before is_empty behind
  gap e = rw (at_space e)

  pub number : (v : ℕ) → get_or s i 0 ≡ 32 → v ≤ max_number
      → told_from s i (Some v) xs ≡ told_from s (i + 1) None (xs ++ (v ∷ []))
  unfolding first_from
  number v e m =
      rw (at_space e, number-ends v m, first-start (drop (i + 1) s))
      (behind-number xs v (numbers_of (fields_of (drop (i + 1) s))))

  module _ (o : Answer ℕ) (ns : get_or s i 0 ≡ 32 → ⊥) where
    at_other : fields_of (drop i s) ≡ in_first_of (get_or s i 0) (fields_of (drop (i + 1) s))
    unfolding fields_of
    at_other = rw (drop-cons s i 0, add-one) (simp (ne_eqb _ _ ns))

    pub other : is_digit_of (get_or s i 0) ≡ false → told_from s i o xs ≡ none
    unfolding behind
    other n =
        rw (
          at_other,
          first-other (is_some o) (unwrap_or o 0) (get_or s i 0) (fields_of (drop (i + 1) s)) n,
        )

    pub digit : is_digit_of (get_or s i 0) ≡ true
        → told_from s i o xs
        ≡ told_from s (i + 1) (Some (unwrap_or o 0 * 10 + (get_or s i 0 - 48))) xs
    digit d =
        rw (
          at_other,
          first-digit (is_some o) (unwrap_or o 0) (get_or s i 0) (fields_of (drop (i + 1) s)) d,
        )

    pub over : is_digit_of (get_or s i 0) ≡ true
        → max_number < unwrap_or o 0 * 10 + (get_or s i 0 - 48) → told_from s i o xs ≡ none
    unfolding behind
    over d m =
        let n = unwrap_or o 0 * 10 + (get_or s i 0 - 48) in
        digit d ∙ rw (first-over n (fields_of (drop (i + 1) s)) m)

module _ (s : List ℕ) (i : ℕ) (xs : List ℕ) (h : length s ≤ i) where
  pub ends-bare : told_from s i None xs ≡ none
  unfolding fields_of first_from number_from number_before is_empty behind
  ends-bare = rw (drop_of_length-le s h)

  pub ends : (v : ℕ) → v ≤ max_number → told_from s i (Some v) xs ≡ some (xs ++ (v ∷ []))
  unfolding fields_of first_from number_before behind numbers_of
  ends v m = rw (drop_of_length-le s h, number-ends v m)
