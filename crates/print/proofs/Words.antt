-- Laws of an answer's text.
-- no_word: of a first number that has none. numbers_more, numbers-end: the
-- numbers from place i on, one by one. body-parts: an answer's text put in two parts; line-parts:
-- its line.
-- Assumes nothing.
use mathlib.Core.Path.{◌≡◌}
use mathlib.Core.List.{List, [], ◌∷◌, ◌++◌, append_assoc, append-nil}
use Prim.Native.Nat.{ℕ, suc, ◌+◌, ◌<◌, ◌≤◌}
use native.Mathlib.Numerals.{add-one}
use native.Mathlib.Omega.{arith}
use lib.ListN.{length, get_or, drop, drop_of_length-le, get_or-eq_default}
use lib.Seq.{drop-cons}
use Rattle.text.specs.Decimal.{decimal_of}
use Rattle.text.proofs.Puts.{put_both}
use Rattle.print.specs.Print.{answer_words, answer_word, numbers_text, answer_body, answer_text}

pub no_word : (m : List ℕ) (t : ℕ) → length answer_words ≤ t → m ≡ m ++ answer_word t
unfolding answer_word
no_word m t h = rw (get_or-eq_default answer_words [] h, append-nil)

pub numbers_more : (m r l : List ℕ) (i : ℕ) → i < length l → r ≡ m ++ (32 ∷ decimal_of
    (get_or l i 0))
    → r ++ numbers_text (drop (i + 1) l) ≡ m ++ numbers_text (drop i l)
unfolding numbers_text
numbers_more m r l i h e =
    rw (e, drop-cons l i 0 h, add-one)
    (append_assoc m (32 ∷ decimal_of (get_or l i 0)) (numbers_text (drop (suc i) l)))

pub numbers-end : (m l : List ℕ) (i : ℕ) → length l ≤ i → m ++ numbers_text (drop i l) ≡ m
unfolding numbers_text
numbers-end m l i h = rw (drop_of_length-le l h, append-nil)

pub body-parts : (m l : List ℕ) {a r : List ℕ} → 0 < length l
    → a ≡ m ++ answer_word (get_or l 0 0) → r ≡ a ++ numbers_text (drop 1 l) → r ≡ m ++
    answer_body l
unfolding answer_body
body-parts m [] h e f = absurd (omega arith)
body-parts m (t ∷ ns) h e f = put_both m (answer_word t) (numbers_text ns) e f

pub line-parts : (m l : List ℕ) {a r : List ℕ} → a ≡ m ++ answer_body l → r ≡ a ++ (10 ∷ [])
    → r ≡ m ++ answer_text l
unfolding answer_text
line-parts m l e f = put_both m (answer_body l) (10 ∷ []) e f
