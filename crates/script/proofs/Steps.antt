-- What the code does to a line buffer and an output, as steps of the fold.
-- taken: a part of a list. words-..: an answer in words. performs-..: a call made. ended-..: a
-- line's end. step-..: a byte. finished-..: the end of the input. fed-byte: one byte of a chunk.
-- whole: all of an input.
-- Assumes nothing.
use mathlib.Core.Path.{◌≡◌, refl, sym, ap, ◌∙◌}
use mathlib.Core.Logic.{◌≢◌}
use mathlib.Core.List.{List, [], ◌∷◌, ◌++◌}
use mathlib.Core.Option.{Option, none, some}
use Prim.Native.Nat.{ℕ, zero, suc, ◌+◌, ◌≤◌, ◌<◌}
use native.Mathlib.Nat.{not-suc-le-zero}
use native.Mathlib.Numerals.{add-one}
use native.Mathlib.Omega.{arith}
use lib.Dec.{leb}
use lib.ListN.{length, take, set, get_or, length-take}
use lib.Seq.{take-suc, take-suc-set}
use Rattle.words.proofs.Bools.{test, leb-le, le-leb, gt-leb, lt-ltb, ge-ltb, ne_eqb}
use Rattle.model.specs.Outcome.{Outcome, refused, broken, done, told, answer}
use Rattle.layout.specs.Buffer.{in_form}
use Rattle.layout.specs.Calls.{Call, call_on}
use Rattle.answers.proofs.Fronts.{over-front}
use Rattle.print.specs.Print.{answer_text, unread_text}
use Rattle.calls.specs.Performs.{Made, Performs}
use Rattle.calls.specs.declared.Performed.{Performed}
use Rattle.answers.specs.Answers.{max_answer}
use Rattle.lines.specs.Grammar.{max_line}
use Rattle.script.specs.Limits.{over_line}
use Rattle.script.specs.Script.{call_text, call_leaves, line_text, line_leaves, lines_of, buffer_after, program}
use Rattle.script.specs.Fold.{bytes, Progress, part_call, longer, ended, kept, byte_step, fed, finished_part, finished, part_in_of, progress, words_text}
use Rattle.script.proofs.Folds.{fed-more, fed-whole}

-- ---- answers in words

words-some : (l : List ℕ) → 0 < length l → words_text l ≡ answer_text l
unfolding words_text
words-some [] h = absurd (not-suc-le-zero h)
words-some (x ∷ l) h = refl

pub taken : (n : ℕ) (l : List ℕ) → n ≤ length l → length (take n l) ≡ n
taken n l h = length-take n l ∙ omega (arith, h)

pub words-taken : (n : ℕ) (l : List ℕ) → 0 < n → n ≤ length l
    → words_text (take n l) ≡ answer_text (take n l)
words-taken n l h f = words-some (take n l) (omega (arith, taken n l f, h))

words-answer : (x : Outcome) → words_text (answer x) ≡ answer_text (answer x)
unfolding words_text answer
words-answer (refused n) = refl
words-answer (broken m s) = refl
words-answer (done a s) = refl
words-answer (told w a) = refl

-- ---- a call made

module _ (l m a b : List ℕ) (p : Performed) where
  pub performs_few : (c : Option Call) → Performs c l m a b p → p.count ≤ max_answer
  unfolding Made
  performs_few none h = omega (arith, h.0.2)
  performs_few (some c) h = h.0.few

  pub performs_ready : (c : Option Call) → Performs c l m a b p → p.ready ≡ in_form m
  performs_ready c h = h.1

  pub performs_leaves : (c : Option Call) → Performs c l m a b p → m ≡ call_leaves c l
  unfolding Made call_leaves
  performs_leaves none h = h.0.0
  performs_leaves (some c) h = h.0.changes

  pub performs_text : (c : Option Call) → Performs c l m a b p
      → words_text (take p.count b) ≡ call_text c l
  unfolding Made call_text words_text
  performs_text none h = rw h.0.2 refl
  performs_text (some c) h =
      let ws = answer (call_on c l) in
      let lays = h.0.answers in
      rw (lays.count, lays.laid, over-front ws a) (words-answer (call_on c l))

-- ---- a line's end

some-ends : (s : List ℕ) (p : Progress) → 0 < length s → finished_part (bytes s) p ≡ ended p
unfolding finished_part
some-ends [] p h = absurd (not-suc-le-zero h)
some-ends (b ∷ s) p h = refl

pos : (n : ℕ) → n ≢ 0 → 0 < n
pos zero d = absurd (d refl)
pos (suc n) d = omega arith

module _ (l line : List ℕ) (n : ℕ) (t : List ℕ) where
  pub ended-long : (m : ℕ) (u : List ℕ) → max_line < n → m ≡ 0 → u ≡ t ++ unread_text
      → progress l line m u ≡ ended (progress l line n t)
  unfolding ended part_in_of part_call call_text call_leaves
  ended-long m u h z e = rw (gt-leb n max_line h, z, e) refl

  pub ended-line : (k : List ℕ) (m : ℕ) (u : List ℕ) → n ≤ max_line → m ≡ 0
      → k ≡ line_leaves l (take n line) → u ≡ t ++ line_text l (take n line)
      → progress k line m u ≡ ended (progress l line n t)
  unfolding ended part_in_of part_call
  ended-line k m u h z d e = rw (le-leb n max_line h, z, d, e) refl

  -- ---- a byte

  pub step-ends : (b : ℕ) → b ≡ 10 → byte_step (progress l line n t) b ≡ ended (progress l line n
      t)
  unfolding byte_step
  step-ends b e = rw e refl

  pub step_keeps : (b : ℕ) → b ≢ 10 → n < max_line → max_line ≤ length line
      → progress l (set line n b) (n + 1) t ≡ byte_step (progress l line n t) b
  unfolding byte_step kept longer part_in_of
  step_keeps b d h f =
      let e = taken n line (omega (arith, h, f)) in
      let s : take (n + 1) (set line n b) ≡ take n line ++ (b ∷ []) =
      rw add-one (take-suc-set line n b (omega (arith, h, f))) in
      rw (
        ne_eqb b 10 d,
        le-leb n max_line (omega (arith, h)),
        le-leb (n + 1) max_line (omega (arith, h)),
        lt-ltb (length (take n line)) max_line (omega (arith, e, h)),
        s,
      )
      refl

  pub step-long : (b : ℕ) → b ≢ 10 → max_line ≤ n → max_line ≤ length line
      → progress l line over_line t ≡ byte_step (progress l line n t) b
  unfolding byte_step kept longer part_in_of
  step-long b d h f =
      rw (ne_eqb b 10 d)
      (test (leb n max_line)
      (λ i.
      let e = taken n line (omega (arith, leb-le n max_line i, f)) in
      rw (i, ge-ltb (length (take n line)) max_line (omega (arith, e, h))) refl)
      (λ i. rw i refl))

  -- ---- the end of the input

  pub finished-none : n ≡ 0 → progress l line n t ≡ finished (progress l line n t)
  unfolding finished_part part_in_of
  finished-none e = rw e refl

  pub finished-some : n ≢ 0 → max_line ≤ length line
      → finished (progress l line n t) ≡ ended (progress l line n t)
  unfolding finished_part part_in_of
  finished-some d f =
      test (leb n max_line)
      (λ i.
      let e = taken n line (omega (arith, leb-le n max_line i, f)) in
      rw i (some-ends (take n line) _ (omega (arith, e, pos n d))))
      (λ i. rw i refl)

-- ---- a byte of a chunk

pub fed-byte : (p : Progress) (chunk : List ℕ) (i : ℕ) → i < length chunk
    → byte_step (fed p (take i chunk)) (get_or chunk i 0) ≡ fed p (take (i + 1) chunk)
fed-byte p chunk i h =
    sym (ap (fed p) (rw add-one (take-suc chunk i 0 h))
    ∙ fed-more p (take i chunk) (get_or chunk i 0))

-- ---- all of an input

-- q after the bytes, p after the end.
pub whole : (l line input : List ℕ) {p q : Progress} → q ≡ fed (progress l line 0 []) input
    → p ≡ finished q
    → p
    ≡ record { buffer = buffer_after l (lines_of input); part = bytes []; text = program l input }
unfolding part_in_of
whole l line input e f = f ∙ ap finished e ∙ fed-whole l input
