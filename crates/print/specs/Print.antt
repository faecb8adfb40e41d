-- The program's answers: "One line out for each: `ok` and the answer's numbers, `broken m` or
-- `refused n`, single spaces." Document 02's calls have words of their own.
-- line_room, body_room: how long a line is. answer_words: the words. answer_body: the text of an
-- answer in words; answer_text: its line. unread_text: the line `unread`.
-- Assumes nothing.
use Rattle.std.specs.Prelude.{List, [], ◌∷◌, ◌++◌, ℕ, get_or}
use Rattle.text.specs.Bytes.{bytes_of}
use Rattle.text.specs.Decimal.{decimal_of}

-- The most bytes of a line, its end included: a word of 8 bytes, 33 numbers of 10 digits, each
-- after a space, and the line's end need 372.
abbrev pub line_room : ℕ
line_room = 384

-- The same without the line's end.
abbrev pub body_room : ℕ
body_room = 383

-- The words of an answer's first number: 0 ok, 1 broken, 2 refused; explain's 3 clear, 4 path;
-- pick's 5 nothing; forecast's 6 through, 7 breaks, 8 turned.
abbrev pub answer_words : List (List ℕ)
answer_words =
    bytes_of "ok" ∷ bytes_of "broken" ∷ bytes_of "refused" ∷ bytes_of "clear" ∷ bytes_of "path"
    ∷ bytes_of "nothing" ∷ bytes_of "through" ∷ bytes_of "breaks" ∷ bytes_of "turned" ∷ []

-- No call answers another first number: its line would have no word.
unfoldable pub answer_word : ℕ → List ℕ
answer_word t = get_or answer_words t []

-- Each number after a space.
unfoldable pub numbers_text : List ℕ → List ℕ
numbers_text [] = []
numbers_text (n ∷ ns) = (32 ∷ decimal_of n) ++ numbers_text ns

-- The words of an answer are those of crate model's `answer`: a first word, then the numbers.
unfoldable pub answer_body : List ℕ → List ℕ
answer_body [] = []
answer_body (t ∷ ns) = answer_word t ++ numbers_text ns

-- A line feed (10) ends the line.
unfoldable pub answer_text : List ℕ → List ℕ
answer_text ws = answer_body ws ++ (10 ∷ [])

unfoldable pub unread_text : List ℕ
unread_text = bytes_of "unread\n"
