-- Laws of the whole lines of a text.
-- end-place: the first line end is the place of its byte. whole-none, whole-some: the whole lines
-- by it. whole_append: with more text behind. lines_none, lines-some: from an index on.
-- Assumes nothing.
use mathlib.Core.Path.{◌≡◌, refl, sym, ap, ◌∙◌}
use mathlib.Core.Bool.{Bool, cond, not}
use mathlib.Core.List.{List, [], ◌∷◌, ◌++◌}
use Prim.Native.Nat.{ℕ, suc, ◌+◌, ◌-◌, ◌≤◌, ◌<◌}
use native.Mathlib.Numerals.{add-one}
use native.Mathlib.Omega.{arith}
use lib.Dec.{eqb}
use lib.ListN.{length, take, drop, get_or, length-append, length-drop, drop_of_length-le}
use lib.Seq.{drop-cons, drop-drop, take-append-le, drop-append-le}
use Rattle.std.specs.List.{position_or_len}
use Rattle.std.proofs.lemmas.List.Recursion.{is_position_or_len}
use Rattle.std.proofs.lemmas.List.Sums.{prefix_len-le-length}
use Rattle.words.proofs.Bools.{test}
use Rattle.batch.specs.Lines.{in_front_of, whole_lines}
use Rattle.batch.specs.Parts.{end_of}

-- ---- the first line end

abbrev is_end : ℕ → Bool
is_end b = eqb b 10

pub end-place : (l : List ℕ) (n : ℕ) → n ≡ position_or_len is_end l
    → (n ≤ length l) × (n ≡ end_of l)
unfolding end_of
end-place l n e =
    let f = is_position_or_len end_of is_end refl
    (λ b bs. ap (cond (is_end b) 0) (omega arith)) l in
    rw e (prefix_len-le-length (λ b. not (is_end b)) l, sym f)

-- ---- the whole lines by the first line end

pub whole-none : (t : List ℕ) → length t ≤ end_of t → whole_lines t ≡ []
unfolding whole_lines end_of in_front_of
whole-none [] h = refl
whole-none (b ∷ bs) h =
    test (eqb b 10)
    (λ e. absurd (omega (arith, rw e at h)))
    (λ e. rw (e, whole-none bs (omega (arith, rw e at h))) refl)

pub whole-some : (t : List ℕ) → end_of t < length t
    → whole_lines t ≡ take (end_of t) t ∷ whole_lines (drop (suc (end_of t)) t)
unfolding whole_lines end_of in_front_of
whole-some [] h = absurd (omega (arith, h))
whole-some (b ∷ bs) h =
    test (eqb b 10)
    (λ e. rw e refl)
    (λ e. rw (e, whole-some bs (omega (arith, rw e at h))) refl)

-- More text behind a line's end leaves the first line as it is.
end-append : (t more : List ℕ) → end_of t < length t → end_of (t ++ more) ≡ end_of t
unfolding end_of
end-append [] more h = absurd (omega (arith, h))
end-append (b ∷ bs) more h =
    test (eqb b 10)
    (λ e. rw e refl)
    (λ e. rw e (ap suc (end-append bs more (omega (arith, rw e at h)))))

pub whole_append : (t more : List ℕ) → end_of t < length t
    → whole_lines (t ++ more) ≡ take (end_of t) t ∷ whole_lines (drop (suc (end_of t)) t ++ more)
whole_append t more h =
    let e = end-append t more h in
    rw (
      ← take-append-le (end_of t) t more (omega (arith, h)),
      ← drop-append-le (suc (end_of t)) t more (omega (arith, h)),
    )
    (rw e at (whole-some (t ++ more) (omega (arith, e, h, length-append t more))))

-- The lines from index at on, where the first line end stands at index stop.
module _ (l : List ℕ) (at stop : ℕ) (h : at ≤ length l) (e : stop ≡ at + end_of (drop at l)) where
  pub lines_none : length l ≤ stop → whole_lines (drop at l) ≡ []
  lines_none f =
      whole-none (drop at l) (omega (arith, length-drop at l, e, f, h))

  pub lines-some : stop < length l
      → whole_lines (drop at l) ≡ take (stop - at) (drop at l) ∷ whole_lines (drop (stop + 1) l)
  lines-some f =
      let n : stop - at ≡ end_of (drop at l) = omega (arith, e) in
      let m : at + suc (end_of (drop at l)) ≡ stop + 1 = omega (arith, e) in
      let d : drop (suc (end_of (drop at l))) (drop at l) ≡ drop (stop + 1) l =
      drop-drop (suc (end_of (drop at l))) at l ∙ ap (λ i. drop i l) m in
      rw (n, ← d) (whole-some (drop at l) (omega (arith, length-drop at l, e, f, h)))
