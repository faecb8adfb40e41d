-- Laws of a text's lines, one after the other.
-- run-full, run_none, run-line: no room, no line, one line more. put_rest: what stays behind an
-- answer that is put. drop-further: what stays. done-line: a line that is done. text-line,
-- text-end: a text, line by line. ran: what the lent slices become.
-- Assumes nothing.
use mathlib.Core.Path.{◌≡◌, refl, sym, ap, ◌∙◌}
use mathlib.Core.List.{List, [], ◌∷◌, ◌++◌}
use Prim.Native.Nat.{ℕ, ◌+◌, ◌-◌, ◌≤◌, ◌<◌}
use native.Mathlib.Omega.{arith}
use lib.ListN.{length, take, drop, set, length-take, length-drop, take-append-drop}
use lib.Seq.{paste, take-paste, drop-paste, drop-drop, length-take-le}
use Rattle.words.proofs.Bools.{le-leb, gt-leb}
use Rattle.answers.specs.Answers.{over}
use Rattle.print.specs.Print.{line_room}
use Rattle.lines.specs.Grammar.{line_call}
use Rattle.script.specs.Script.{call_text, call_leaves}
use Rattle.batch.specs.Lines.{whole_lines}
use Rattle.batch.specs.Lent.{forecast_of, lent_call, scratch_leaves}
use Rattle.batch.specs.Batch.{Batch, point, line_done, lines_done, LeavesText}
use Rattle.batch.specs.Parts.{end_of, DoesLine}
use Rattle.batch.proofs.Whole.{lines_none, lines-some}

pub run-full : (room : ℕ) (p : Batch) (ss : List (List ℕ))
    → room < length p.answers + line_room → lines_done room p ss ≡ p
unfolding lines_done
run-full room p [] h = refl
run-full room p (s ∷ ss) h = rw (gt-leb (length p.answers + line_room) room h) refl

pub run_none : (room : ℕ) (p : Batch) → lines_done room p [] ≡ p
unfolding lines_done
run_none room p = refl

pub run-line : (room : ℕ) (p : Batch) (s : List ℕ) (ss : List (List ℕ))
    → length p.answers + line_room ≤ room
    → lines_done room p (s ∷ ss) ≡ lines_done room (line_done p s) ss
unfolding lines_done
run-line room p s ss h = rw (le-leb (length p.answers + line_room) room h) refl

-- ---- a line that is done

-- Bytes were put after the first at bytes of out.
pub put_rest : (out bytes : List ℕ) (at : ℕ) (out' : List ℕ) (e : ℕ)
    → at + length bytes ≤ length out → e ≡ at + length bytes
    → out' ≡ paste out at bytes (length bytes) → drop e out' ≡ drop e out
put_rest out bytes at out' e f j i =
    rw (j, i) (drop-paste out at bytes (length bytes) (omega (arith, f)) (omega arith))

-- What stays behind one place stays behind a later one.
pub drop-further : (n k : ℕ) (l m : List ℕ) → n ≤ k → drop n l ≡ drop n m → drop k l ≡ drop k m
drop-further n k l m h e =
    let i : n + (k - n) ≡ k = omega (arith, h) in
    rw (← i) (sym (drop-drop (k - n) n l) ∙ ap (drop (k - n)) e ∙ drop-drop (k - n) n m)

-- Of a call that is made with the scratch that is lent.
pub done-line : (s l l' m m' t t' : List ℕ)
    → l' ≡ call_leaves (lent_call (length m) (line_call s)) l
    → m' ≡ scratch_leaves (forecast_of (line_call s)) l m
    → t' ≡ t ++ call_text (lent_call (length m) (line_call s)) l
    → DoesLine s l l' m m' t t'
unfolding line_done
done-line s l l' m m' t t' d e f n = rw (d, e, f) refl

-- ---- a text, from index at on

-- The first line end there stands at index stop.
module _ (room : ℕ) (text : List ℕ) (at stop : ℕ) (h : at ≤ length text)
    (e : stop ≡ at + end_of (drop at text)) where
  -- One line more.
  pub text-line : (l l' m m' a a' : List ℕ) → stop < length text → length a + line_room ≤ room
      → DoesLine (take (stop - at) (drop at text)) l l' m m' a a'
      → lines_done room (point l' m' a' (stop + 1)) (whole_lines (drop (stop + 1) text))
      ≡ lines_done room (point l m a at) (whole_lines (drop at text))
  text-line l l' m m' a a' f g d =
      let s : List ℕ = take (stop - at) (drop at text) in
      let ss : List (List ℕ) = whole_lines (drop (stop + 1) text) in
      let n : at + (length s + 1) ≡ stop + 1 =
      omega (arith, length-take (stop - at) (drop at text), length-drop at text, e, f, h) in
      let p : point l' m' a' (stop + 1) ≡ line_done (point l m a at) s =
      ap (point l' m' a') (sym n) ∙ d at in
      ap (λ q. lines_done room q ss) p
      ∙ sym (run-line room (point l m a at) s ss g)
      ∙ ap (lines_done room (point l m a at)) (sym (lines-some text at stop h e f))

  -- No line more.
  pub text-end : (p : Batch) → length text ≤ stop
      → p ≡ lines_done room p (whole_lines (drop at text))
  text-end p f = rw (lines_none text at stop h e f) (sym (run_none room p))

-- ---- the lent slices

counts-laid : (n k : ℕ) (ks : List ℕ) → 2 ≤ length ks
    → set (set ks 0 n) 1 k ≡ over (n ∷ k ∷ []) ks
unfolding over
counts-laid n k [] h = absurd (omega (arith, h))
counts-laid n k (x ∷ []) h = absurd (omega (arith, h))
counts-laid n k (x ∷ y ∷ ks) h = refl

-- The first k bytes of out' are the answers, and what is behind them stayed.
pub ran : (p : Batch) (l' m' out out' ks : List ℕ) (k n : ℕ) → point l' m' (take k out') n ≡ p
    → k ≤ length out → length out' ≡ length out → drop k out' ≡ drop k out → 2 ≤ length ks
    → LeavesText p l' m' out out' ks (set (set ks 0 n) 1 k) 2
unfolding over
ran p l' m' out out' ks k n e h g d j =
    let c : length (take k out') ≡ k = length-take-le k out' (omega (arith, h, g)) in
    let a : length p.answers ≡ k = ap (λ q. length q.answers) (sym e) ∙ c in
    record {
      leaves = ap (λ q. q.buffer) e;
      foresees = ap (λ q. q.scratch) e;
      fits = omega (arith, a, h);
      puts = sym (take-append-drop k out')
          ∙ ap (λ t. t ++ drop k out') (ap (λ q. q.answers) e)
          ∙ ap (λ t. p.answers ++ t) (d ∙ ap (λ i. drop i out) (sym a));
      counts = counts-laid n k ks j
          ∙ ap (λ i. over (i ∷ k ∷ []) ks) (ap (λ q. q.taken) e)
          ∙ ap (λ i. over (p.taken ∷ i ∷ []) ks) (sym a);
      laid = refl;
    }
