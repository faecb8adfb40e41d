-- The code's table of commands against the forms of the grammar.
-- is_row: whether a row is that of a form. agree: whether a table has a row for each form.
-- Assumes nothing.
use Rattle.std.specs.Prelude.{Bool, false, ◌&&◌, List, [], eqb, length, get_or}
use Rattle.std.proofs.Math.Option.{Option, none, some}
use Rattle.words.specs.Tests.{all_below}
use Rattle.text.specs.Bytes.{same_bytes}
use Rattle.lines.specs.declared.table.Row.{Row}
use Rattle.lines.specs.Grammar.{Form, forms, form_at}

-- It has the form's word, and its counts of numbers.
unfoldable pub is_row : Option Form → Row → Bool
is_row none r = false
is_row (some f) r =
    same_bytes r.word.now f.word
    && (eqb r.least f.least && eqb r.most f.most)

-- A row that stands for none.
abbrev pub no_row : Row
no_row = record { word = record { ref_ptr = (0, 0); now = [] }; least = 0; most = 0 }

-- A command's number is its row's and its form's.
unfoldable pub agree : List Row → Bool
agree rs = all_below (length forms) (λ i. is_row (form_at forms i) (get_or rs i no_row))
