-- The listing's text in parts: what a loop puts, line after line and chunk after chunk.
-- lines-all: all lines are the text. lines-add: a chunk more. lines_start, lines_next: none, and
-- one line more.
-- Assumes nothing.
use mathlib.Core.Path.{◌≡◌, refl, sym, ap, ◌∙◌}
use mathlib.Core.List.{List, [], ◌∷◌, ◌++◌, append_assoc, append-nil}
use Prim.Native.Nat.{ℕ, zero, suc, ◌+◌, ◌-◌, ◌≤◌}
use native.Mathlib.Omega.{arith}
use native.Mathlib.Nat.{zero-add}
use lib.ListN.{length, get_or}
use Rattle.listing.specs.Scripts.{rows, each}
use Rattle.listing.specs.Calls.{listing}
use Rattle.listing.specs.Lines.{whole_line, listing_text, lines_from}
use Rattle.listing.proofs.Counts.{length-listing}

rows_ext : {A : Type 0} (n : ℕ) (f g : ℕ → List A) → ((i : ℕ) → f i ≡ g i) → rows n f ≡ rows n g
unfolding rows
rows_ext zero f g h = refl
rows_ext {A = A} (suc n) f g h =
    rw (h 0) (ap (λ (l : List A). g 0 ++ l)
    (rows_ext n (λ i. f (suc i)) (λ i. g (suc i)) (λ i. h (suc i))))

rows-add : {A : Type 0} (m n : ℕ) (f : ℕ → List A)
    → rows (m + n) f ≡ rows m f ++ rows n (λ j. f (m + j))
unfolding rows
rows-add zero n f = rw (zero-add n) (rows_ext n f (λ j. f (0 + j)) (λ j. ap f (sym (zero-add j))))
rows-add {A = A} (suc m) n f =
    let e : suc m + n ≡ suc (m + n) = omega arith in
    let k : (j : ℕ) → suc (m + j) ≡ suc m + j = λ j. omega arith in
    rw e (ap (λ (l : List A). f 0 ++ l) (rows-add m n (λ i. f (suc i))
    ∙ ap (λ (l : List A). rows m (λ i. f (suc i)) ++ l)
    (rows_ext n (λ j. f (suc (m + j))) (λ j. f (suc m + j)) (λ j. ap f (k j))))
    ∙ sym (append_assoc (f 0) (rows m (λ i. f (suc i))) (rows n (λ j. f (suc m + j)))))

each_rows : {A B : Type 0} (f : A → List B) (d : A) (l : List A)
    → each f l ≡ rows (length l) (λ i. f (get_or l i d))
unfolding each rows
each_rows f d [] = refl
each_rows {B = B} f d (x ∷ xs) = ap (λ (l : List B). f x ++ l) (each_rows f d xs)

-- ---- the text

pub lines-all : lines_from 0 18278 ≡ listing_text
unfolding lines_from listing_text
lines-all =
    rows_ext 18278 (λ j. whole_line (get_or listing (0 + j) [])) (λ j. whole_line
    (get_or listing j []))
    (λ j. ap (λ (i : ℕ). whole_line (get_or listing i [])) (zero-add j))
    ∙ ap (λ (n : ℕ). rows n (λ j. whole_line (get_or listing j []))) (sym length-listing)
    ∙ sym (each_rows whole_line [] listing)

pub lines_none : (i : ℕ) → lines_from i 0 ≡ []
unfolding lines_from rows
lines_none i = refl

pub lines-add : (i m n : ℕ) → lines_from i (m + n) ≡ lines_from i m ++ lines_from (i + m) n
unfolding lines_from
lines-add i m n =
    let e : (j : ℕ) → i + (m + j) ≡ i + m + j = λ j. omega arith in
    rows-add m n (λ j. whole_line (get_or listing (i + j) []))
    ∙ ap (λ (l : List ℕ). rows m (λ j. whole_line (get_or listing (i + j) [])) ++ l)
    (rows_ext n (λ j. whole_line (get_or listing (i + (m + j)) []))
    (λ j. whole_line (get_or listing (i + m + j) []))
    (λ j. ap (λ (k : ℕ). whole_line (get_or listing k [])) (e j)))

pub lines_more : (i n : ℕ)
    → lines_from i (n + 1) ≡ lines_from i n ++ whole_line (get_or listing (i + n) [])
unfolding lines_from rows
lines_more i n =
    let e : i + n + 0 ≡ i + n = omega arith in
    lines-add i n 1
    ∙ ap (λ (l : List ℕ). lines_from i n ++ l)
    (append-nil (whole_line (get_or listing (i + n + 0) []))
    ∙ ap (λ (k : ℕ). whole_line (get_or listing k [])) e)

-- No line yet, and one line more, as a loop from line i on counts them.
pub lines_start : (i : ℕ) → [] ≡ lines_from i (i - i)
lines_start i =
    let e : i - i ≡ 0 = omega arith in
    sym (ap (lines_from i) e ∙ lines_none i)

pub lines_next : (i n : ℕ) {m r : List ℕ} → i ≤ n → m ≡ lines_from i (n - i)
    → r ≡ m ++ whole_line (get_or listing n []) → r ≡ lines_from i (n + 1 - i)
lines_next i n h e f =
    let a : n + 1 - i ≡ n - i + 1 = omega arith in
    let b : i + (n - i) ≡ n = omega arith in
    f ∙ ap (λ (l : List ℕ). l ++ whole_line (get_or listing n [])) e
    ∙ sym (ap (lines_from i) a ∙ lines_more i (n - i)
    ∙ ap (λ (k : ℕ). lines_from i (n - i) ++ whole_line (get_or listing k [])) b)
