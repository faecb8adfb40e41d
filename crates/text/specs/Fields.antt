-- The parts of a line between spaces, and the numbers that they spell.
-- fields_of: the parts, called fields. first_of, fields_after: the first, and all others.
-- max_number: the largest. number_of: the number of a field. numbers_of: the numbers of all.
-- numbers_in, how_many: the numbers that the code's answer tells.
-- Assumes nothing.
use Rattle.std.specs.Prelude.{Bool, true, false, cond, not, ◌&&◌, List, [], ◌∷◌, ℕ, ◌+◌, ◌*◌, ◌-◌, eqb, leb, ltb, length, get_or, take, drop}
use Rattle.std.proofs.Math.Option.{Option, none, some}
use Rattle.std.specs.Prelude.{Option as Answer, None, Some}

-- A byte in front of the first field.
unfoldable pub in_first_of : ℕ → List (List ℕ) → List (List ℕ)
in_first_of b [] = (b ∷ []) ∷ []
in_first_of b (f ∷ fs) = (b ∷ f) ∷ fs

-- "Words and numbers are one space apart": each space (32) ends a field. An empty line is one
-- empty field, and two spaces have an empty field between them.
unfoldable pub fields_of : List ℕ → List (List ℕ)
fields_of [] = [] ∷ []
fields_of (b ∷ bs) = cond (eqb b 32) ([] ∷ fields_of bs) (in_first_of b (fields_of bs))

-- The first field.
unfoldable pub first_of : List ℕ → List ℕ
first_of l = get_or (fields_of l) 0 []

-- The fields after a first one of n bytes.
unfoldable pub fields_after : ℕ → List ℕ → List (List ℕ)
fields_after n l = cond (ltb n (length l)) (fields_of (drop (n + 1) l)) []

-- One of `0` (48) to `9` (57).
abbrev pub is_digit_of : ℕ → Bool
is_digit_of b = leb 48 b && leb b 57

unfoldable pub digits_only : List ℕ → Bool
digits_only [] = true
digits_only (b ∷ bs) = is_digit_of b && digits_only bs

-- What digits spell after others worth v.
unfoldable pub value_from : ℕ → List ℕ → ℕ
value_from v [] = v
value_from v (b ∷ bs) = value_from (v * 10 + (b - 48)) bs

unfoldable pub is_empty : List ℕ → Bool
is_empty [] = true
is_empty (b ∷ bs) = false

-- "a number over 4,294,967,295, gives `unread`"
abbrev pub max_number : ℕ
max_number = 4294967295

-- "a number is digits only, leading zeros allowed". Any other field is none.
unfoldable pub number_of : List ℕ → Option ℕ
number_of f =
    cond (not (is_empty f) && digits_only f && leb (value_from 0 f) max_number)
    (some (value_from 0 f)) none

-- A number in front of others, if all are numbers.
unfoldable pub number_before : Option ℕ → Option (List ℕ) → Option (List ℕ)
number_before none ns = none
number_before (some n) none = none
number_before (some n) (some ns) = some (n ∷ ns)

-- The numbers of all fields, if each is one.
unfoldable pub numbers_of : List (List ℕ) → Option (List ℕ)
numbers_of [] = some []
numbers_of (f ∷ fs) = number_before (number_of f) (numbers_of fs)

-- What `text::numbers` tells: its answer, how many numbers there are, and the words that it left.
unfoldable pub numbers_in : Answer ℕ → List ℕ → Option (List ℕ)
numbers_in (Some n) l = some (take n l)
numbers_in None l = none

-- How many they are.
unfoldable pub how_many : Answer ℕ → ℕ
how_many (Some n) = n
how_many None = 0
