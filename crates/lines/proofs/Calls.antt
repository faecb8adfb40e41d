-- Laws of the grammar.
-- asked_miscounted, asked-counted: a form with a wrong and a right count of numbers.
-- line-long, line-none, line-bare, line-unread, line_read: the call of a line that is too long, of
-- no command, of one field, of more that are no numbers, or are.
-- Assumes nothing.
use mathlib.Core.Path.{◌≡◌, refl, sym, ◌∙◌}
use mathlib.Core.Bool.{false, So}
use mathlib.Core.List.{List, [], ◌∷◌}
use mathlib.Core.Option.{Option, none, some}
use Prim.Native.Nat.{ℕ, ◌+◌, ◌<◌, ◌≤◌}
use native.Mathlib.Omega.{arith}
use lib.ListN.{length, take, drop}
use lib.Seq.{length-take-le}
use borrow.Author.Tests.{lt-ltb, le-ltb, le-leb, lt-leb}
use Rattle.text.specs.Fields.{fields_of, fields_after, numbers_of, numbers_in, how_many}
use Rattle.std.specs.Prelude.{Option as Answer, Some, None}
use Rattle.lines.specs.Grammar.{max_line, Form, forms, form_of, takes, calling, asked, fields_call, line_call}

module _ (f : Option Form) (l : List ℕ) (n : ℕ) (h : n ≤ length l) where
  pub asked_miscounted : takes f n ≡ false → none ≡ asked f (some (take n l))
  unfolding asked
  asked_miscounted e = rw (length-take-le n l h, e)

  pub asked-counted : So (takes f n) → calling f (take n l) ≡ asked f (some (take n l))
  unfolding asked
  asked-counted e = rw (length-take-le n l h, e)

asked-none : (o : Option (List ℕ)) → asked none o ≡ none
unfolding asked takes
asked-none none = refl
asked-none (some ns) = refl

-- ---- lines

pub line-long : (l : List ℕ) → max_line < length l → line_call l ≡ none
unfolding line_call
line-long l h = rw (lt-leb (length l) max_line h)

module _ (l : List ℕ) (w : ℕ) (short : length l ≤ max_line)
    (parts : fields_of l ≡ take w l ∷ fields_after w l) where
  line-parts : line_call l ≡ asked (form_of forms (take w l)) (numbers_of (fields_after w l))
  unfolding line_call fields_call
  line-parts = rw (le-leb (length l) max_line short, parts)

  pub line-bare : w ≡ length l → asked (form_of forms (take w l)) (some []) ≡ line_call l
  unfolding fields_after numbers_of
  line-bare e = sym (line-parts ∙ rw (le-ltb w (length l) (omega arith)))

  pub line-none : form_of forms (take w l) ≡ none → none ≡ line_call l
  line-none e = sym (line-parts ∙ rw e (asked-none (numbers_of (fields_after w l))))

  module _ (h : w < length l) (r : Answer ℕ) (out : List ℕ)
      (told : numbers_in r out ≡ numbers_of (fields_of (drop (w + 1) l))) where
    line-told : line_call l ≡ asked (form_of forms (take w l)) (numbers_in r out)
    unfolding fields_after
    line-told = line-parts ∙ rw (lt-ltb w (length l) h, told)

    pub line-unread : r ≡ None → none ≡ line_call l
    unfolding asked numbers_in
    line-unread e = sym (line-told ∙ rw e)

    pub line_read : (n : ℕ) → r ≡ Some n
        → asked (form_of forms (take w l)) (some (take n out)) ≡ line_call l
    unfolding numbers_in
    line_read n e = sym (line-told ∙ rw e)

pub count-le : (r : Answer ℕ) (n k : ℕ) → r ≡ Some n → how_many r ≤ k → n ≤ k
unfolding how_many
count-le r n k e h = rw e at h
