-- With as many words of scratch as the program lends, a text is answered as the program does.
-- as_program, as_lines: the claims. calls-append, answers-append: lines behind lines.
-- Assumes nothing.
use mathlib.Core.Path.{◌≡◌, refl, sym, ap, ◌∙◌}
use mathlib.Core.Option.{Option, none, some}
use mathlib.Core.List.{List, [], ◌∷◌, ◌++◌, append_assoc}
use Prim.Native.Nat.{ℕ}
use lib.Dec.{eqb, leb}
use lib.ListN.{length}
use Rattle.words.proofs.Bools.{test}
use Rattle.text.specs.Bytes.{same_bytes}
use Rattle.text.specs.Fields.{fields_of, numbers_of}
use Rattle.layout.specs.Calls.{Call, after}
use Rattle.command.specs.Commands.{scratch_room}
use Rattle.lines.specs.Grammar.{max_line, Form, forms, form_of, takes, calling, asked, fields_call, line_call}
use Rattle.script.specs.Script.{call_text, call_leaves, before, lines_of, outputs, with_call_of, calls_in}
use Rattle.script.proofs.Lines.{after_call, after-lines}
use Rattle.batch.specs.Lines.{in_front_of, whole_lines}
use Rattle.batch.specs.Lent.{query_forecast, store_forecast, forecast_of, lent_forecast, lent_call}
use Rattle.batch.specs.Claims.{calls_of, answers_to, AsProgram, AsLines}

-- A call has the program's scratch, if it has one.
abbrev Own : Option Call → Type 0
Own c = lent_call scratch_room c ≡ c

own-none : Own none
unfolding lent_forecast forecast_of
own-none = refl

-- ---- the forms of a line

OwnForms : List Form → Type 0
OwnForms [] = Unit
OwnForms (f ∷ fs) = ((ns : List ℕ) → Own (some (f.call ns))) × OwnForms fs

own-form : (fs : List Form) → OwnForms fs → (w ns : List ℕ) → Own (calling (form_of fs w) ns)
unfolding OwnForms form_of calling
own-form [] h w ns = own-none
own-form (f ∷ fs) h w ns =
    test (same_bytes w f.word) (λ e. rw e (h.0 ns)) (λ e. rw e (own-form fs h.1 w ns))

own-forms : OwnForms forms
unfolding OwnForms lent_forecast forecast_of store_forecast query_forecast
own-forms = (
  λ ns. refl,
  (
    λ ns. refl,
    (
      λ ns. refl,
      (
        λ ns. refl,
        (
          λ ns. refl,
          (
            λ ns. refl,
            (
              λ ns. refl,
              (
                λ ns. refl,
                (
                  λ ns. refl,
                  (
                    λ ns. refl,
                    (
                      λ ns. refl,
                      (
                        λ ns. refl,
                        (
                          λ ns. refl,
                          (
                            λ ns. refl,
                            (
                              λ ns. refl,
                              (
                                λ ns. refl,
                                (
                                  λ ns. refl,
                                  (
                                    λ ns. refl,
                                    (
                                      λ ns. refl,
                                      (
                                        λ ns. refl,
                                        tt,
                                      ),
                                    ),
                                  ),
                                ),
                              ),
                            ),
                          ),
                        ),
                      ),
                    ),
                  ),
                ),
              ),
            ),
          ),
        ),
      ),
    ),
  ),
)

-- ---- a line

own-asked : (w : List ℕ) (o : Option (List ℕ)) → Own (asked (form_of forms w) o)
unfolding asked
own-asked w none = own-none
own-asked w (some ns) =
    test (takes (form_of forms w) (length ns))
    (λ e. rw e (own-form forms own-forms w ns))
    (λ e. rw e own-none)

own-fields : (fs : List (List ℕ)) → Own (fields_call fs)
unfolding fields_call
own-fields [] = own-none
own-fields (w ∷ fs) = own-asked w (numbers_of fs)

own_line : (s : List ℕ) → Own (line_call s)
unfolding line_call
own_line s =
    test (leb (length s) max_line) (λ e. rw e (own-fields (fields_of s))) (λ e. rw e own-none)

-- ---- lines

own-calls : (ss : List (List ℕ)) → calls_of scratch_room ss ≡ calls_in ss
unfolding calls_of calls_in
own-calls [] = refl
own-calls (s ∷ ss) =
    ap (λ c. with_call_of c (calls_of scratch_room ss)) (own_line s)
    ∙ ap (with_call_of (line_call s)) (own-calls ss)

own-answers : (l : List ℕ) (ss : List (List ℕ)) → answers_to scratch_room l ss ≡ outputs l ss
unfolding answers_to outputs
own-answers l [] = refl
own-answers l (s ∷ ss) =
    ap (λ c. call_text c l ++ answers_to scratch_room (call_leaves c l) ss) (own_line s)
    ∙ ap (λ t. call_text (line_call s) l ++ t) (own-answers (call_leaves (line_call s) l) ss)

pub as_program : AsProgram
as_program l ss =
    (ap (λ cs. after cs l) (own-calls ss) ∙ sym (after-lines ss l), own-answers l ss)

-- ---- whole lines

-- A text that ends with a line's end has a first line, the same on both sides.
record Both (t : List ℕ) : Type 0 where
  first : List ℕ
  others : List (List ℕ)
  whole : whole_lines t ≡ first ∷ others
  lines : lines_of t ≡ first ∷ others

both : (t : List ℕ) → Both (t ++ (10 ∷ []))
unfolding whole_lines in_front_of lines_of before
both [] = record { first = []; others = []; whole = refl; lines = refl }
both (b ∷ bs) =
    let k = both bs in
    test (eqb b 10)
    (λ e. record {
      first = [];
      others = k.first ∷ k.others;
      whole = rw (e, k.whole) refl;
      lines = rw (e, k.lines) refl;
    })
    (λ e. record {
      first = b ∷ k.first;
      others = k.others;
      whole = rw (e, k.whole) refl;
      lines = rw (e, k.lines) refl;
    })

pub as_lines : AsLines
as_lines t = let k = both t in k.whole ∙ sym k.lines

-- ---- lines behind lines

with_append : (c : Option Call) (cs ds : List Call) → with_call_of c (cs ++ ds) ≡ with_call_of c
    cs ++ ds
unfolding with_call_of
with_append none cs ds = refl
with_append (some c) cs ds = refl

pub calls-append : (n : ℕ) (ss us : List (List ℕ))
    → calls_of n (ss ++ us) ≡ calls_of n ss ++ calls_of n us
unfolding calls_of
calls-append n [] us = refl
calls-append n (s ∷ ss) us =
    ap (with_call_of (lent_call n (line_call s))) (calls-append n ss us)
    ∙ with_append (lent_call n (line_call s)) (calls_of n ss) (calls_of n us)

pub answers-append : (n : ℕ) (l : List ℕ) (ss us : List (List ℕ))
    → answers_to n l (ss ++ us) ≡ answers_to n l ss ++ answers_to n (after (calls_of n ss) l) us
unfolding answers_to calls_of after
answers-append n l [] us = refl
answers-append n l (s ∷ ss) us =
    let c = lent_call n (line_call s) in
    ap (λ t. call_text c l ++ t) (answers-append n (call_leaves c l) ss us)
    ∙ sym (append_assoc (call_text c l) (answers_to n (call_leaves c l) ss) _)
    ∙ ap (λ k. call_text c l ++ answers_to n (call_leaves c l) ss ++ answers_to n k us)
    (after_call c (calls_of n ss) l)
