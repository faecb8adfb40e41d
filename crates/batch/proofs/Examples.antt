-- Texts, computed.
-- whole-ends: whole lines. lent-forecast: which call has the scratch. room-told: which lines are
-- taken.
-- Assumes nothing.
use mathlib.Core.Path.{◌≡◌, refl}
use mathlib.Core.List.{[], ◌∷◌}
use mathlib.Core.Option.{none, some}
use Prim.Native.Nat.{ℕ}
use Rattle.text.specs.Bytes.{bytes_of, same_bytes}
use Rattle.text.specs.Fields.{fields_of, in_first_of, numbers_of}
use Rattle.lines.specs.Grammar.{form_of, takes, calling, asked, fields_call, line_call}
use Rattle.print.specs.Print.{unread_text}
use Rattle.script.specs.Script.{call_text, call_leaves}
use Rattle.batch.specs.Batch.{line_done, lines_done, text_done}
use Rattle.model.specs.Calls.{forecast, explain, ask}
use Rattle.layout.specs.Calls.{on}
use Rattle.batch.specs.Lines.{in_front_of, whole_lines}
use Rattle.batch.specs.Lent.{query_forecast, store_forecast, forecast_of, lent_forecast, lent_call}

-- What follows the last line end is no whole line.
pub whole-ends :
    (whole_lines (bytes_of "") ≡ [])
    × (whole_lines (bytes_of "drop 0") ≡ [])
    × (whole_lines (bytes_of "\n") ≡ [] ∷ [])
    × (whole_lines (bytes_of "drop 0\n") ≡ bytes_of "drop 0" ∷ [])
    × (whole_lines (bytes_of "drop 0\r\nlook") ≡ bytes_of "drop 0\r" ∷ [])
    × (whole_lines (bytes_of "drop 0\n\nlook\n") ≡ bytes_of "drop 0" ∷ [] ∷ bytes_of "look" ∷ [])
unfolding whole_lines in_front_of
whole-ends = (refl, refl, refl, refl, refl, refl)

-- A forecast has the words that are lent, whatever it had; an explain is as it was.
pub lent-forecast :
    (lent_call 7 (some (on (ask (forecast 16384 2)))) ≡ some (on (ask (forecast 7 2))))
    × (lent_call 20000 (some (on (ask (forecast 16384 2)))) ≡ some (on (ask (forecast 20000 2))))
    × (lent_call 7 (some (on (ask (explain 2 1 0)))) ≡ some (on (ask (explain 2 1 0))))
    × (lent_call 7 none ≡ none)
unfolding forecast_of store_forecast query_forecast lent_forecast
lent-forecast = (refl, refl, refl, refl)

-- The text of an empty line, an x and a y without its end, on a buffer without words, with room
-- for so many bytes of answers: how many bytes of it are taken.
abbrev taken_at_of : ℕ → ℕ
taken_at_of room = (text_done [] [] room (bytes_of "\nx\ny")).taken

-- A line is taken while 384 bytes are left; `unread` has 7.
pub room-told :
    (taken_at_of 383 ≡ 0) × (taken_at_of 384 ≡ 1) × (taken_at_of 390 ≡ 1) × (taken_at_of 391 ≡ 3)
    × (taken_at_of 1000 ≡ 3)
    × ((text_done [] [] 390 (bytes_of "\nx\ny")).answers ≡ bytes_of "unread\n")
    × ((text_done [] [] 391 (bytes_of "\nx\ny")).answers ≡ bytes_of "unread\nunread\n")
unfolding whole_lines in_front_of lines_done line_done call_text call_leaves unread_text line_call
    fields_call
    fields_of in_first_of asked form_of same_bytes takes calling numbers_of forecast_of
    lent_forecast
room-told = (refl, refl, refl, refl, refl, refl, refl)
