-- Answers in text, computed.
-- Assumes nothing.
use mathlib.Core.Path.{◌≡◌, refl}
use mathlib.Core.List.{[], ◌∷◌}
use Rattle.text.specs.Bytes.{bytes_of}
use Rattle.text.specs.Decimal.{digits_of_at, decimal_of}
use Rattle.print.specs.Print.{answer_word, numbers_text, answer_body, answer_text, unread_text}

-- Case A's kinds of answers, a broken run, the largest number, a pick's, a line that is unread.
pub answers :
    (answer_text (0 ∷ 88 ∷ []) ≡ bytes_of "ok 88\n")
    × (answer_text (0 ∷ 0 ∷ 0 ∷ 0 ∷ []) ≡ bytes_of "ok 0 0 0\n")
    × (answer_text (0 ∷ 0 ∷ 1 ∷ 0 ∷ []) ≡ bytes_of "ok 0 1 0\n")
    × (answer_text (0 ∷ 2 ∷ 0 ∷ 0 ∷ []) ≡ bytes_of "ok 2 0 0\n")
    × (answer_text (2 ∷ 6 ∷ []) ≡ bytes_of "refused 6\n")
    × (answer_text (2 ∷ 10 ∷ []) ≡ bytes_of "refused 10\n")
    × (answer_text (1 ∷ 1 ∷ []) ≡ bytes_of "broken 1\n")
    × (answer_text (0 ∷ 4294967295 ∷ []) ≡ bytes_of "ok 4294967295\n")
    × (answer_text (0 ∷ 2 ∷ 0 ∷ []) ≡ bytes_of "ok 2 0\n")
    × (answer_text (5 ∷ []) ≡ bytes_of "nothing\n")
    × (unread_text ≡ bytes_of "unread\n")
unfolding answer_text answer_body answer_word numbers_text unread_text decimal_of digits_of_at
answers = (refl, refl, refl, refl, refl, refl, refl, refl, refl, refl, refl)
