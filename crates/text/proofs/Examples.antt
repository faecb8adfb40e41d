-- Fields, numbers and decimals of short texts, computed.
-- Assumes nothing.
use mathlib.Core.Path.{◌≡◌, refl}
use mathlib.Core.List.{[], ◌∷◌}
use mathlib.Core.Option.{none, some}
use Rattle.text.specs.Bytes.{bytes_of}
use Rattle.text.specs.Decimal.{digits_of_at, decimal_of}
use Rattle.text.specs.Fields.{in_first_of, fields_of, digits_only, value_from, is_empty, number_of, number_before, numbers_of}

-- A quoted text is its bytes.
pub bytes : bytes_of "new 7\r\n" ≡ 110 ∷ 101 ∷ 119 ∷ 32 ∷ 55 ∷ 13 ∷ 10 ∷ []
bytes = refl

-- An empty line, a space at the end, two spaces.
pub fields :
    (fields_of (bytes_of "") ≡ [] ∷ [])
    × (fields_of (bytes_of "a ") ≡ bytes_of "a" ∷ [] ∷ [])
    × (fields_of (bytes_of "a  7") ≡ bytes_of "a" ∷ [] ∷ bytes_of "7" ∷ [])
    × (fields_of (bytes_of "ab 12 3") ≡ bytes_of "ab" ∷ bytes_of "12" ∷ bytes_of "3" ∷ [])
unfolding fields_of in_first_of
fields = (refl, refl, refl, refl)

-- Zeros in front, the largest number and the next one, and what is no number.
pub numbers :
    (number_of (bytes_of "0") ≡ some 0)
    × (number_of (bytes_of "007") ≡ some 7)
    × (number_of (bytes_of "4294967295") ≡ some 4294967295)
    × (number_of (bytes_of "0004294967295") ≡ some 4294967295)
    × (number_of (bytes_of "4294967296") ≡ none)
    × (number_of (bytes_of "") ≡ none)
    × (number_of (bytes_of "7\r") ≡ none)
    × (number_of (bytes_of "-7") ≡ none)
    × (number_of (bytes_of ":") ≡ none)
    × (number_of (bytes_of "/") ≡ none)
    × (numbers_of (bytes_of "1" ∷ bytes_of "20" ∷ []) ≡ some (1 ∷ 20 ∷ []))
    × (numbers_of (bytes_of "1" ∷ [] ∷ []) ≡ none)
    × (numbers_of [] ≡ some [])
unfolding number_of digits_only value_from is_empty numbers_of number_before
numbers = (refl, refl, refl, refl, refl, refl, refl, refl, refl, refl, refl, refl, refl)

-- 0, 10 and the largest number.
pub decimals :
    (decimal_of 0 ≡ bytes_of "0")
    × (decimal_of 10 ≡ bytes_of "10")
    × (decimal_of 4294967295 ≡ bytes_of "4294967295")
unfolding decimal_of digits_of_at
decimals = (refl, refl, refl)
