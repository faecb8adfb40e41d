-- The code's table of commands and the forms of the grammar.
-- row-agrees: a row of a table that agrees. sought: a word sought in it.
-- counted, uncounted: the counts of numbers; in_table, some_number: what a right one tells.
-- Assumes nothing.
use mathlib.Core.Path.{◌≡◌, refl, sym, ◌∙◌}
use mathlib.Core.Bool.{Bool, true, false, So, not, ◌&&◌}
use mathlib.Core.List.{List, [], ◌∷◌}
use mathlib.Core.Option.{Option, none, some}
use Prim.Native.Nat.{ℕ, zero, suc, ◌-◌, ◌<◌, ◌≤◌}
use native.Mathlib.Omega.{arith}
use native.Mathlib.Decide.{dec_lt}
use lib.Dec.{eqb, leb}
use lib.ListN.{length, get_or, take, drop}
use lib.Seq.{take-nil}
use borrow.Author.Tests.{lt-ltb, le-ltb}
use Rattle.words.proofs.Bools.{clash, and_left, and_right, leb-le, eqb-eq}
use Rattle.words.proofs.Tests.{all-at}
use Rattle.text.specs.Bytes.{same_bytes}
use Rattle.std.specs.Prelude.{MatchOption}
use Rattle.std.specs.List.{position, position_or_len}
use Rattle.std.proofs.lemmas.List.Sums.{prefix_len-le-length, fails_before_first, passes_at_first}
use Rattle.lines.specs.declared.table.Row.{Row}
use Rattle.lines.specs.Grammar.{Form, forms, max_line, form_of, form_at, takes}
use Rattle.lines.specs.Rows.{is_row, no_row, agree}

-- ---- a row

same_bytes_lem : (xs ys : List ℕ) → So (same_bytes xs ys) → xs ≡ ys
unfolding same_bytes
same_bytes_lem [] [] e = refl
same_bytes_lem [] (y ∷ ys) e = clash e refl
same_bytes_lem (x ∷ xs) [] e = clash e refl
same_bytes_lem (x ∷ xs) (y ∷ ys) e =
    let h = eqb-eq x y (and_left (eqb x y) (same_bytes xs ys) e) in
    let t = same_bytes_lem xs ys (and_right (eqb x y) (same_bytes xs ys) e) in rw (h, t)

record RowOf (f : Form) (r : Row) : Type 0 where
  word : r.word.now ≡ f.word
  least : r.least ≡ f.least
  most : r.most ≡ f.most

row_of : (f : Form) (r : Row) → So (is_row (some f) r) → RowOf f r
unfolding is_row
row_of f r a =
    let w = same_bytes r.word.now f.word in
    let m = eqb r.least f.least in
    let n = eqb r.most f.most in
    let b = and_right w (m && n) a in record {
      word = same_bytes_lem _ _ (and_left w (m && n) a);
      least = eqb-eq _ _ (and_left m n b);
      most = eqb-eq _ _ (and_right m n b);
    }

pub row-agrees : (rs : List Row) (i : ℕ) → So (agree rs) → i < length forms
    → So (is_row (form_at forms i) (get_or rs i no_row))
unfolding agree
row-agrees rs i a h =
    all-at (length forms) (λ j. is_row (form_at forms j) (get_or rs j no_row)) a i h

-- ---- a word

module _ (w : List ℕ) (r : Row) where
  found_in : (fs : List Form) (i : ℕ) → So (is_row (form_at fs i) r)
      → So (same_bytes w r.word.now) → form_at fs i ≡ form_of (drop i fs) w
  unfolding is_row form_at form_of
  found_in [] i a e = clash a refl
  found_in (f ∷ fs) zero a e = let g = rw (row_of f r a).word at e in rw g
  found_in (f ∷ fs) (suc i) a e = found_in fs i a e

  passed_in : (fs : List Form) (i : ℕ) → So (is_row (form_at fs i) r)
      → same_bytes w r.word.now ≡ false → form_of (drop (suc i) fs) w ≡ form_of (drop i fs)
      w
  unfolding is_row form_at form_of
  passed_in [] i a e = clash a refl
  passed_in (f ∷ fs) zero a e = let g = rw (row_of f r a).word at e in rw g
  passed_in (f ∷ fs) (suc i) a e = passed_in fs i a e

-- A word sought in a table that agrees: the forms before its place have other words.
module _ (w : List ℕ) (rs : List Row) (a : So (agree rs)) where
  unfoldable pub named : Row → Bool
  named r = same_bytes w r.word.now

  skipped : (k : ℕ) → k ≤ position_or_len named rs → k ≤ length forms
      → form_of (drop k forms) w ≡ form_of forms w
  unfolding named
  skipped zero h g = refl
  skipped (suc k) h g =
      let e = fails_before_first named rs k no_row (omega arith) in
      passed_in w (get_or rs k no_row) forms k (row-agrees rs k a (omega arith)) e
      ∙ skipped k (omega arith) (omega arith)

  pub sought : length rs ≡ length forms
      → MatchOption (position named rs) (form_of forms w ≡ none)
      (λ i. form_at forms i ≡ form_of forms w)
  unfolding named form_of
  sought e =
      let n = position_or_len named rs in
      let l = prefix_len-le-length (λ r. not (named r)) rs in
      elim (dec_lt n (length rs)) [
        | yes h ↦
            let r = row-agrees rs n a (omega arith) in
            let f = passes_at_first named rs no_row h in
            rw (lt-ltb n (length rs) h)
            (found_in w _ forms n r f ∙ skipped n (omega arith) (omega arith))
        | no h ↦
            rw (le-ltb n (length rs) (omega arith))
            (sym (skipped (length forms) (omega arith) (omega arith)))
      ]

-- ---- counts of numbers

pub counted : (o : Option Form) (r : Row) (n : ℕ) → So (is_row o r)
    → leb r.least n && leb n r.most ≡ takes o n
unfolding is_row takes
counted none r n a = clash a refl
counted (some f) r n a = let e = row_of f r a in rw (e.least, e.most)

none-at : (fs : List Form) (i n : ℕ) → length fs ≤ i → false ≡ takes (form_at fs i) n
unfolding form_at takes
none-at [] i n h = refl
none-at (f ∷ fs) zero n h = absurd (omega arith)
none-at (f ∷ fs) (suc i) n h = none-at fs i n (omega arith)

pub uncounted : (i n : ℕ) → length forms ≤ i → false ≡ takes (form_at forms i) n
uncounted i n h = none-at forms i n h

-- ---- what a count that is right tells

pub in_table : (i n : ℕ) → So (takes (form_at forms i) n) → i < length forms
in_table i n y = elim (dec_lt i (length forms)) [
  | yes h ↦ h
  | no h ↦ clash y (sym (uncounted i n (omega arith)))
]

pub next : {k i : ℕ} → k ≤ i → (i ≡ k → ⊥) → suc k ≤ i
next h n = omega arith

pub not-past : {k i : ℕ} → i < k → k ≤ i → ⊥
not-past h g = omega arith

-- Open has a number.
pub some_number : {i n : ℕ} → i ≡ 1 → So (takes (form_at forms i) n) → 0 < n
unfolding form_at takes
some_number {i} {n} e y =
    let t : leb 1 n && leb n max_line ≡ true = rw e at y in
    leb-le 1 n (and_left (leb 1 n) (leb n max_line) t)

-- All but the first of the first n.
pub rest-first : (l : List ℕ) (n : ℕ) → 0 < n → take (n - 1) (drop 1 l) ≡ drop 1 (take n l)
rest-first l zero h = absurd (omega arith)
rest-first [] (suc n) h = take-nil (suc n - 1)
rest-first (x ∷ l) (suc n) h = let e : suc n - 1 ≡ n = omega arith in rw e
