-- The lines of a text that are taken are those at its front, and are made one by one.
-- takes_front: the claim.
-- Assumes nothing.
use mathlib.Core.Path.{◌≡◌, refl, sym, ap, subst, ◌∙◌}
use mathlib.Core.Logic.{◌⊎◌, inl, inr}
use mathlib.Core.List.{List, [], ◌∷◌, ◌++◌, append_assoc, append-nil}
use Prim.Native.Nat.{ℕ, zero, suc, ◌+◌, ◌-◌, ◌≤◌, ◌<◌}
use native.Mathlib.Omega.{arith}
use lib.Dec.{leb, ltb}
use lib.ListN.{length, take, drop, length-append, length-drop}
use lib.Seq.{drop-drop, length-take-le}
use Rattle.words.proofs.Bools.{test, leb-le, leb-gt, ltb-lt, ltb-ge}
use Rattle.layout.specs.Calls.{after}
use Rattle.lines.specs.Grammar.{line_call}
use Rattle.print.specs.Print.{line_room}
use Rattle.script.specs.Script.{call_text, call_leaves, with_call_of}
use Rattle.script.proofs.Lines.{after_call}
use Rattle.batch.specs.Lines.{whole_lines}
use Rattle.batch.specs.Lent.{forecast_of, lent_call, scratch_leaves}
use Rattle.batch.specs.Batch.{Batch, started, line_done, lines_done, text_done}
use Rattle.batch.specs.Parts.{end_of}
use Rattle.batch.specs.Claims.{calls_of, answers_to, scratch_to, HadRoom, TakesFront}
use Rattle.batch.proofs.Whole.{whole-none, whole-some, whole_append}
use Rattle.batch.proofs.Lengths.{scratch-long}
use Rattle.batch.proofs.Texts.{run-full, run_none, run-line}

-- From p on, the text t came to q, with a scratch of n words.
record Follows (n : ℕ) (p : Batch) (t : List ℕ) (room : ℕ) (q : Batch) : Type 0 where
  lines : List (List ℕ)
  bytes : ℕ
  taken : q.taken ≡ p.taken + bytes
  within : bytes ≤ length t
  made : q.buffer ≡ after (calls_of n lines) p.buffer
  answered : q.answers ≡ p.answers ++ answers_to n p.buffer lines
  foreseen : q.scratch ≡ scratch_to n p.buffer p.scratch lines
  lent : length q.scratch ≡ n
  rest : (more : List ℕ) → whole_lines (t ++ more) ≡ lines ++ whole_lines (drop bytes t ++ more)
  roomy : HadRoom n room (length p.answers) p.buffer lines
  most : (whole_lines (drop bytes t) ≡ []) ⊎ (room < length q.answers + line_room)

module _ (n room : ℕ) where
  -- No line is taken.
  follows-none : (p : Batch) (t : List ℕ) → length p.scratch ≡ n
      → (whole_lines t ≡ []) ⊎ (room < length p.answers + line_room) → Follows n p t room p
  unfolding calls_of answers_to scratch_to HadRoom after
  follows-none p t e h = record {
    lines = [];
    bytes = 0;
    taken = omega arith;
    within = omega arith;
    made = refl;
    answered = sym (append-nil p.answers);
    foreseen = refl;
    lent = e;
    rest = λ more. refl;
    roomy = tt;
    most = h;
  }

  -- The first line of t, and what follows it.
  follows-line : (p : Batch) (t : List ℕ) (q : Batch) → length p.scratch ≡ n
      → end_of t < length t → length p.answers + line_room ≤ room
      → Follows n (line_done p (take (end_of t) t)) (drop (suc (end_of t)) t) room q
      → Follows n p t room q
  unfolding calls_of answers_to scratch_to HadRoom after line_done
  follows-line p t q e h g f =
      let s : List ℕ = take (end_of t) t in
      let i : length s ≡ end_of t = length-take-le (end_of t) t (omega (arith, h)) in
      record {
        lines = s ∷ f.lines;
        bytes = suc (end_of t) + f.bytes;
        taken = omega (arith, f.taken, i);
        within = omega (arith, f.within, length-drop (suc (end_of t)) t, h);
        made = f.made
            ∙ after_call (lent_call (length p.scratch) (line_call s)) (calls_of n f.lines)
            p.buffer
            ∙ ap (λ i.
            after (with_call_of (lent_call i (line_call s)) (calls_of n f.lines)) p.buffer) e;
        answered = f.answered
            ∙ rw append_assoc
            (ap (λ i. p.answers
            ++ (call_text (lent_call i (line_call s)) p.buffer
            ++ answers_to n (call_leaves (lent_call i (line_call s)) p.buffer) f.lines)) e);
        foreseen = f.foreseen
            ∙ ap (λ i.
            scratch_to n (call_leaves (lent_call i (line_call s)) p.buffer)
            (scratch_leaves (forecast_of (line_call s)) p.buffer p.scratch) f.lines) e;
        lent = f.lent;
        rest = λ more.
            whole_append t more h
            ∙ ap (λ ss. s ∷ ss)
            (f.rest more
            ∙ ap (λ d. f.lines ++ whole_lines (d ++ more))
            (drop-drop f.bytes (suc (end_of t)) t));
        roomy = (
          g,
          subst (λ i.
              HadRoom n room
              (length p.answers + length (call_text (lent_call i (line_call s)) p.buffer))
              (call_leaves (lent_call i (line_call s)) p.buffer) f.lines) e
              (subst (λ k.
              HadRoom n room k
              (call_leaves (lent_call (length p.scratch) (line_call s)) p.buffer) f.lines)
              (length-append p.answers _) f.roomy),
        );
        most = rw (← drop-drop f.bytes (suc (end_of t)) t) f.most;
      }

  -- No whole line is left, or there is no room.
  stops : (p : Batch) (t : List ℕ) → length p.scratch ≡ n → length t ≤ end_of t
      → Follows n p t room (lines_done room p (whole_lines t))
  stops p t e h =
      let w = whole-none t h in
      rw (ap (lines_done room p) w ∙ run_none room p) (follows-none p t e (inl w))

  done-lent : (p : Batch) (s : List ℕ) → length p.scratch ≡ n
      → length (line_done p s).scratch ≡ n
  unfolding line_done
  done-lent p s e = scratch-long (forecast_of (line_call s)) p.buffer p.scratch ∙ e

  follows : (k : ℕ) (p : Batch) (t : List ℕ) → length t ≤ k → length p.scratch ≡ n
      → Follows n p t room (lines_done room p (whole_lines t))
  follows zero p t b e = stops p t e (omega (arith, b))
  follows (suc k) p t b e =
      test (ltb (end_of t) (length t))
      (λ i.
      let h = ltb-lt (end_of t) (length t) i in
      let s : List ℕ = take (end_of t) t in
      let d : List ℕ = drop (suc (end_of t)) t in
      test (leb (length p.answers + line_room) room)
      (λ j.
      let g = leb-le (length p.answers + line_room) room j in
      let w : lines_done room p (whole_lines t) ≡ lines_done room (line_done p s) (whole_lines d) =
      ap (lines_done room p) (whole-some t h) ∙ run-line room p s (whole_lines d) g in
      subst (Follows n p t room) (sym w)
      (follows-line p t (lines_done room (line_done p s) (whole_lines d)) e h g
      (follows k (line_done p s) d (omega (arith, length-drop (suc (end_of t)) t, b))
      (done-lent p s e))))
      (λ j.
      let g = leb-gt (length p.answers + line_room) room j in
      subst (Follows n p t room) (sym (run-full room p (whole_lines t) g))
      (follows-none p t e (inr g))))
      (λ i. stops p t e (ltb-ge (end_of t) (length t) i))

pub takes_front : TakesFront
takes_front l m t room =
    let f = follows (length m) room (length t) (started l m) t (omega arith) refl in
    let k : (text_done l m room t).taken ≡ f.bytes = omega (arith, f.taken) in
    record {
      lines = f.lines;
      made = f.made;
      answered = f.answered;
      foreseen = f.foreseen;
      lent = f.lent;
      within = rw k f.within;
      rest = λ more. rw k (f.rest more);
      roomy = f.roomy;
      most = rw k f.most;
    }
