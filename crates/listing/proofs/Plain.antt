-- A line of the listing is one line: each of its bytes is a space or comes after it, so that
-- none is a line feed (10).
-- Plain: such bytes. line_plain: those of each line.
-- Assumes nothing.
use mathlib.Core.Path.{refl}
use mathlib.Core.Bool.{Bool, true, ◌&&◌, So}
use mathlib.Core.List.{List, [], ◌∷◌, ◌++◌, map}
use Prim.Native.Nat.{ℕ, zero, suc, ◌+◌, ◌/◌, ◌%◌, ◌≤◌}
use native.Mathlib.Omega.{arith}
use lib.Dec.{leb}
use lib.ListN.{get_or}
use Rattle.words.proofs.Bools.{and_left, and_right, leb-le}
use Rattle.text.specs.Bytes.{bytes_of}
use Rattle.text.specs.Decimal.{digits_of_at, decimal_of}
use Rattle.model.specs.Calls.{StoreCall}
use Rattle.print.specs.Print.{answer_words, answer_word, numbers_text, answer_body}
use Rattle.listing.specs.Scripts.{AllOf}
use Rattle.listing.specs.Calls.{kind_of, arguments_of}
use Rattle.listing.specs.Lines.{kind_words, kind_word, call_text, joined_on, joined, answers_of, history_line}
use Rattle.listing.proofs.Members.{all_append}

abbrev pub Plain : List ℕ → Type 0
Plain l = AllOf (λ b. 32 ≤ b) l

both : (a b : List ℕ) → Plain a → Plain b → Plain (a ++ b)
both a b p q = all_append (λ b. 32 ≤ b) a b p q

-- ---- words, by a test

unfoldable plain : List ℕ → Bool
plain [] = true
plain (b ∷ bs) = leb 32 b && plain bs

plain-all : (l : List ℕ) → So (plain l) → Plain l
unfolding plain AllOf
plain-all [] p = tt
plain-all (b ∷ bs) p = (
  leb-le 32 b (and_left (leb 32 b) (plain bs) p),
  plain-all bs (and_right (leb 32 b) (plain bs) p),
)

unfoldable all_plain : List (List ℕ) → Bool
all_plain [] = true
all_plain (l ∷ ls) = plain l && all_plain ls

word-plain : (ls : List (List ℕ)) → So (all_plain ls) → (t : ℕ) → Plain (get_or ls t [])
unfolding all_plain AllOf
word-plain [] p t = tt
word-plain (l ∷ ls) p zero = plain-all l (and_left (plain l) (all_plain ls) p)
word-plain (l ∷ ls) p (suc t) = word-plain ls (and_right (plain l) (all_plain ls) p) t

tables : So (all_plain kind_words) × So (all_plain answer_words)
unfolding all_plain plain
tables = (refl, refl)

marks : So (plain (bytes_of "; ")) × So (plain (bytes_of ": "))
unfolding plain
marks = (refl, refl)

-- ---- numbers

digits-plain : (k n : ℕ) → Plain (digits_of_at k n)
unfolding digits_of_at AllOf
digits-plain zero n = tt
digits-plain (suc k) zero = tt
digits-plain (suc k) (suc n) =
    both (digits_of_at k (suc n / 10)) ((48 + suc n % 10) ∷ []) (digits-plain k (suc n / 10))
    (omega arith, tt)

decimal-plain : (n : ℕ) → Plain (decimal_of n)
unfolding decimal_of AllOf
decimal-plain zero = (omega arith, tt)
decimal-plain (suc n) = digits-plain (suc n) (suc n)

numbers-plain : (ns : List ℕ) → Plain (numbers_text ns)
unfolding numbers_text AllOf
numbers-plain [] = tt
numbers-plain (n ∷ ns) =
    (omega arith, both (decimal_of n) (numbers_text ns) (decimal-plain n) (numbers-plain ns))

-- ---- a line

call-plain : (c : StoreCall) → Plain (call_text c)
unfolding call_text kind_word
call-plain c =
    both (kind_word (kind_of c)) (numbers_text (arguments_of c))
    (word-plain kind_words tables.0 (kind_of c)) (numbers-plain (arguments_of c))

answer-plain : (ws : List ℕ) → Plain (answer_body ws)
unfolding answer_body answer_word AllOf
answer-plain [] = tt
answer-plain (t ∷ ns) =
    both (answer_word t) (numbers_text ns) (word-plain answer_words tables.1 t) (numbers-plain ns)

-- Texts of which each is plain, joined.
joined_on-plain : {A : Type 0} (f : A → List ℕ) → ((x : A) → Plain (f x)) → (l : List A)
    → Plain (joined_on (map f l))
unfolding joined_on AllOf
joined_on-plain f h [] = tt
joined_on-plain f h (x ∷ xs) =
    both (bytes_of "; ") (f x ++ joined_on (map f xs)) (plain-all (bytes_of "; ") marks.0)
    (both (f x) (joined_on (map f xs)) (h x) (joined_on-plain f h xs))

joined-plain : {A : Type 0} (f : A → List ℕ) → ((x : A) → Plain (f x)) → (l : List A)
    → Plain (joined (map f l))
unfolding joined AllOf
joined-plain f h [] = tt
joined-plain f h (x ∷ xs) = both (f x) (joined_on (map f xs)) (h x) (joined_on-plain f h xs)

-- "on a line of its own".
pub line_plain : (cs : List StoreCall) → Plain (history_line cs)
unfolding history_line
line_plain cs =
    let a = joined (map call_text cs) in
    let b = joined (map answer_body (answers_of cs)) in
    both (a ++ bytes_of ": ") b
    (both a (bytes_of ": ") (joined-plain call_text call-plain cs)
    (plain-all (bytes_of ": ") marks.1))
    (joined-plain answer_body answer-plain (answers_of cs))
