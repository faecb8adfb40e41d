-- What a caller takes from the claims.
-- two-pieces: a text in two pieces makes the calls of the whole's first lines. taken-all: where
-- room is left all lines were taken. whole-text: then it is as the program. batch_begun: the calls
-- are a list of demand 3's claim. none-taken: without room. scratch-stays: without a forecast.
-- slices: what the lent slices show.
-- Assumes nothing.
use mathlib.Core.Path.{◌≡◌, refl, sym, ap, ap₂, ◌∙◌}
use mathlib.Core.Bool.{false}
use mathlib.Core.Logic.{⊎_elim}
use mathlib.Core.Option.{none}
use mathlib.Core.List.{List, [], ◌∷◌, ◌++◌, append_assoc, append-nil}
use Prim.Native.Nat.{ℕ, ◌+◌, ◌≤◌, ◌<◌}
use native.Mathlib.Omega.{arith}
use lib.ListN.{length, take, drop, get_or}
use lib.Seq.{take-append_seam, drop-append_seam}
use Rattle.answers.specs.Answers.{over}
use Rattle.layout.specs.Buffer.{in_form}
use Rattle.layout.specs.Calls.{after}
use Rattle.command.specs.Commands.{scratch_room}
use Rattle.consistency.proofs.Rows.{after-append}
use Rattle.lines.specs.Grammar.{line_call}
use Rattle.print.specs.Print.{line_room}
use Rattle.script.specs.Script.{call_leaves, lines_of, outputs, buffer_after, program}
use Rattle.script.specs.Tie.{Begun}
use Rattle.script.proofs.Ties.{begun}
use Rattle.batch.specs.Lines.{whole_lines}
use Rattle.batch.specs.Batch.{text_done, DoesText}
use Rattle.batch.specs.Claims.{calls_of, answers_to, scratch_to, HadRoom, TakesFront, AsProgram, AsLines}
use Rattle.batch.specs.Lent.{forecast_of, lent_call}
use Rattle.batch.proofs.Scratch.{scratch-none}
use Rattle.batch.proofs.Programs.{calls-append, answers-append}

had-none : (n room : ℕ) (l : List ℕ) (ss : List (List ℕ)) → room < line_room
    → HadRoom n room 0 l ss → ss ≡ []
unfolding HadRoom
had-none n room l [] h g = refl
had-none n room l (s ∷ ss) h g = absurd (omega (arith, h, g.0))

-- No line asks for a forecast.
unfoldable pub NoForecast : List (List ℕ) → Type 0
NoForecast [] = Unit
NoForecast (s ∷ ss) = (forecast_of (line_call s) ≡ none) × NoForecast ss

untouched : (n : ℕ) (l m : List ℕ) (ss : List (List ℕ)) → NoForecast ss → scratch_to n l m ss ≡ m
unfolding NoForecast scratch_to
untouched n l m [] h = refl
untouched n l m (s ∷ ss) h =
    let l' = call_leaves (lent_call n (line_call s)) l in
    ap (λ k. scratch_to n l' k ss) (sym (scratch-none (line_call s) h.0 l m))
    ∙ untouched n (call_leaves (lent_call n (line_call s)) l) m ss h.1

module _ (claim : TakesFront) where
  -- With less room than any answer may need, nothing is done.
  pub none-taken : (l m t : List ℕ) (room : ℕ) → room < line_room → (claim l m t room).lines ≡ []
  none-taken l m t room h = had-none (length m) room l _ h (claim l m t room).roomy

  -- Without a forecast the scratch isn't written.
  pub scratch-stays : (l m t : List ℕ) (room : ℕ) → NoForecast (claim l m t room).lines
      → (text_done l m room t).scratch ≡ m
  scratch-stays l m t room h =
      (claim l m t room).foreseen ∙ untouched (length m) l m (claim l m t room).lines h

  -- A text is cut into a and b anywhere. What isn't taken of a is handed over again, in front of
  -- b, with out empty again: the calls made are those of the first lines of all of it, in order.
  pub two-pieces : (l m a b : List ℕ) (room again : ℕ)
      → let p = text_done l m room a in
      let c = drop p.taken a ++ b in
      let q = text_done p.buffer p.scratch again c in
      let ss = (claim l m a room).lines ++ (claim p.buffer p.scratch c again).lines in
      (q.buffer ≡ after (calls_of (length m) ss) l)
      × (p.answers ++ q.answers ≡ answers_to (length m) l ss)
      × (whole_lines (a ++ b) ≡ ss ++ whole_lines (drop q.taken c))
  two-pieces l m a b room again =
      let h = claim l m a room in
      let p = text_done l m room a in
      let c : List ℕ = drop p.taken a ++ b in
      let k = claim p.buffer p.scratch c again in
      let q = text_done p.buffer p.scratch again c in
      let e : q.buffer ≡ after (calls_of (length m) k.lines) p.buffer =
      k.made ∙ ap (λ n. after (calls_of n k.lines) p.buffer) h.lent in
      let d : answers_to (length p.scratch) p.buffer k.lines
      ≡ answers_to (length m) (after (calls_of (length m) h.lines) l) k.lines =
      ap₂ (λ n x. answers_to n x k.lines) h.lent h.made in
      let f : whole_lines c ≡ k.lines ++ whole_lines (drop q.taken c) =
      ap whole_lines (sym (append-nil c))
      ∙ k.rest []
      ∙ ap (λ d. k.lines ++ whole_lines d) (append-nil (drop q.taken c)) in (
        e
            ∙ ap (after (calls_of (length m) k.lines)) h.made
            ∙ sym (after-append (calls_of (length m) h.lines) (calls_of (length m) k.lines) l)
            ∙ ap (λ cs. after cs l) (sym (calls-append (length m) h.lines k.lines)),
        ap₂ ◌++◌ h.answered (k.answered ∙ d)
            ∙ sym (answers-append (length m) l h.lines k.lines),
        h.rest b
            ∙ ap (λ ss. h.lines ++ ss) f
            ∙ sym (append_assoc h.lines k.lines (whole_lines (drop q.taken c))),
      )

  -- Where room is left at the end, all whole lines were taken.
  pub taken-all : (l m t : List ℕ) (room : ℕ)
      → length (text_done l m room t).answers + line_room ≤ room
      → (claim l m t room).lines ≡ whole_lines t
  taken-all l m t room g =
      let h = claim l m t room in
      let n = (text_done l m room t).taken in
      let none : whole_lines (drop n t) ≡ [] =
      ⊎_elim (λ e. e) (λ f. absurd (omega (arith, f, g))) h.most in
      sym (append-nil h.lines)
      ∙ ap (λ ss. h.lines ++ ss) (sym none)
      ∙ ap (λ d. h.lines ++ whole_lines d) (sym (append-nil (drop n t)))
      ∙ sym (h.rest [])
      ∙ ap whole_lines (append-nil t)

  -- On a buffer that isn't in form: none of the calls changed it, or from the first new that was
  -- accepted on demand 3's claim holds of them.
  pub batch_begun : (l m t : List ℕ) (room : ℕ) → in_form l ≡ false
      → Begun l (calls_of (length m) (claim l m t room).lines) (text_done l m room t).buffer
  batch_begun l m t room bad = begun l bad _ _ (claim l m t room).made

  -- With the program's scratch: what the program makes of these lines.
  pub program-lines : AsProgram → (l m t : List ℕ) (room : ℕ) → length m ≡ scratch_room
      → ((text_done l m room t).buffer ≡ buffer_after l (claim l m t room).lines)
      × ((text_done l m room t).answers ≡ outputs l (claim l m t room).lines)
  program-lines own l m t room e =
      let h = claim l m t room in
      let o = own l h.lines in
      (rw e at h.made ∙ o.0, rw e at h.answered ∙ o.1)

  -- And where room is left, all of a text that ends with a line's end: its program.
  pub whole-text : AsProgram → AsLines → (l m t : List ℕ) (room : ℕ) → length m ≡ scratch_room
      → let u = t ++ (10 ∷ []) in
      length (text_done l m room u).answers + line_room ≤ room
      → ((text_done l m room u).answers ≡ program l u)
      × ((text_done l m room u).buffer ≡ buffer_after l (lines_of u))
  whole-text own lines l m t room e g =
      let u : List ℕ = t ++ (10 ∷ []) in
      let k = taken-all l m u room g ∙ lines t in
      let o = program-lines own l m u room e in
      (o.1 ∙ ap (outputs l) k, o.0 ∙ ap (buffer_after l) k)

-- The bytes taken and put are told, the answers stand at the front of out, and its further bytes
-- stay.
pub slices : (t l l' m m' out out' ks ks' : List ℕ) (n : ℕ)
    → DoesText t l l' m m' out out' ks ks' n → 2 ≤ length ks
    → let p = text_done l m (length out) t in
    (get_or ks' 0 0 ≡ p.taken) × (take (get_or ks' 1 0) out' ≡ p.answers)
    × (drop (get_or ks' 1 0) out' ≡ drop (length p.answers) out)
unfolding over
slices t l l' m m' out out' ks ks' n d h =
    let r = d.does h in
    let p = text_done l m (length out) t in
    rw (r.counts, r.puts) (
      refl,
      take-append_seam p.answers (drop (length p.answers) out),
      drop-append_seam p.answers (drop (length p.answers) out),
    )
