-- The fold over the bytes prints what the lines ask for, whatever the chunks.
-- fed-append, fed-more: one chunk after another, one byte more. fed-whole: all of an input.
-- Assumes nothing.
use mathlib.Core.Path.{◌≡◌, refl, sym, ap, ◌∙◌}
use mathlib.Core.Bool.{false, So, cond}
use mathlib.Core.List.{List, [], ◌∷◌, ◌++◌, append_assoc, append-nil}
use Prim.Native.Nat.{ℕ, ◌+◌}
use native.Mathlib.Omega.{arith}
use lib.Dec.{eqb, leb, ltb}
use lib.ListN.{length, length-append}
use Rattle.words.proofs.Bools.{test, leb-gt, le-leb, gt-leb, ltb-lt, ltb-ge}
use Rattle.lines.specs.Grammar.{max_line, line_call}
use Rattle.lines.proofs.Calls.{line-long}
use Rattle.script.specs.Script.{call_text, call_leaves, lines_of, outputs, buffer_after, program}
use Rattle.script.specs.Fold.{Part, bytes, too_long, Progress, part_call, longer, fresh, ended, kept, byte_step, fed, finished_part, finished}
use Rattle.script.proofs.Lines.{joined, joined-last, lines_end, lines_more}

-- ---- chunks

pub fed-append : (p : Progress) (bs cs : List ℕ) → fed p (bs ++ cs) ≡ fed (fed p bs) cs
unfolding fed
fed-append p [] cs = refl
fed-append p (b ∷ bs) cs = fed-append (byte_step p b) bs cs

pub fed-more : (p : Progress) (bs : List ℕ) (b : ℕ)
    → fed p (bs ++ (b ∷ [])) ≡ byte_step (fed p bs) b
unfolding fed
fed-more p bs b = fed-append p bs (b ∷ [])

-- ---- a line under way, as a part

unfoldable pub part_of : List ℕ → Part
part_of s = cond (leb (length s) max_line) (bytes s) too_long

pub part-call : (s : List ℕ) → part_call (part_of s) ≡ line_call s
unfolding part_call part_of
part-call s =
    test (leb (length s) max_line) (λ h. rw h refl)
    (λ h. rw h (sym (line-long s (leb-gt (length s) max_line h))))

pub part-longer : (s : List ℕ) (b : ℕ) → longer (part_of s) b ≡ part_of (s ++ (b ∷ []))
unfolding longer part_of
part-longer s b =
    let m : ℕ = length (s ++ (b ∷ [])) in
    let e : m ≡ length s + 1 = length-append s (b ∷ []) in
    test (leb (length s) max_line)
    (λ h. rw h
    (test (ltb (length s) max_line)
    (λ i. rw (i, le-leb m max_line (omega (arith, e, ltb-lt (length s) max_line i))) refl)
    (λ i. rw (i, gt-leb m max_line (omega (arith, e, ltb-ge (length s) max_line i))) refl)))
    (λ h. rw (h, gt-leb m max_line (omega (arith, e, leb-gt (length s) max_line h))) refl)

-- ---- all of an input

-- A line under way s on the buffer l, after the text t.
abbrev pub under : List ℕ → List ℕ → List ℕ → Progress
under l s t = record { buffer = l; part = part_of s; text = t }

-- What lines leave and print.
abbrev Past : List ℕ → List ℕ → List (List ℕ) → Progress
Past l t ss = record { buffer = buffer_after l ss; part = bytes []; text = t ++ outputs l ss }

under-ended : (l s t : List ℕ)
    → ended (under l s t) ≡ under (call_leaves (line_call s) l) [] (t ++ call_text (line_call s) l)
unfolding ended part_of part_call
under-ended l s t =
    ap (λ c. under (call_leaves c l) [] (t ++ call_text c l)) (part-call s)

past-line : (l s t : List ℕ) (ss : List (List ℕ))
    → Past (call_leaves (line_call s) l) (t ++ call_text (line_call s) l) ss ≡ Past l t (s ∷ ss)
unfolding buffer_after outputs
past-line l s t ss = rw append_assoc

past-none : (l t : List ℕ) → Past l t [] ≡ record { buffer = l; part = bytes []; text = t }
unfolding buffer_after outputs
past-none l t = rw append-nil

finished-some : (b : ℕ) (s : List ℕ) (p : Progress) → finished_part (part_of (b ∷ s)) p ≡ ended p
unfolding finished_part part_of
finished-some b s p = test (leb (length (b ∷ s)) max_line) (λ h. rw h refl) (λ h. rw h refl)

at-end : (l s t : List ℕ) → finished (under l s t) ≡ Past l t (joined s [])
unfolding finished_part part_of joined
at-end l [] t = sym (past-none l t)
at-end l (b ∷ s) t =
    finished-some b s (under l (b ∷ s) t)
    ∙ under-ended l (b ∷ s) t
    ∙ sym (past-none (call_leaves (line_call (b ∷ s)) l) (t ++ call_text (line_call (b ∷ s)) l))
    ∙ past-line l (b ∷ s) t []
    ∙ ap (Past l t) (sym (joined-last b s))

pub step_end : (l s t : List ℕ) (b : ℕ) → So (eqb b 10)
    → byte_step (under l s t) b
    ≡ under (call_leaves (line_call s) l) [] (t ++ call_text (line_call s) l)
unfolding byte_step
step_end l s t b h = rw h (under-ended l s t)

pub step_kept : (l s t : List ℕ) (b : ℕ) → eqb b 10 ≡ false
    → byte_step (under l s t) b ≡ under l (s ++ (b ∷ [])) t
unfolding byte_step kept
step_kept l s t b h = rw (h, part-longer s b) refl

fed-lines : (bs l s t : List ℕ)
    → finished (fed (under l s t) bs) ≡ Past l t (joined s (lines_of bs))
unfolding fed lines_of joined
fed-lines [] l s t = at-end l s t
fed-lines (b ∷ bs) l s t =
    let k = call_leaves (line_call s) l in
    let u = t ++ call_text (line_call s) l in
    test (eqb b 10)
    (λ h. ap (λ p. finished (fed p bs)) (step_end l s t b h)
    ∙ fed-lines bs k [] u
    ∙ past-line l s t (lines_of bs)
    ∙ ap (Past l t) (lines_end s bs b h))
    (λ h. ap (λ p. finished (fed p bs)) (step_kept l s t b h)
    ∙ fed-lines bs l (s ++ (b ∷ [])) t
    ∙ ap (Past l t) (lines_more s bs b h))

-- "One line out for each", and the buffer after all of them.
pub fed-whole : (l input : List ℕ)
    → finished (fed (fresh l) input)
    ≡ record { buffer = buffer_after l (lines_of input); part = bytes []; text = program l input }
unfolding part_of joined
fed-whole l input = fed-lines input l [] []
