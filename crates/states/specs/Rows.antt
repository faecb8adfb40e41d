-- The row of the state table for each call.
-- Assumes nothing.
use Rattle.std.specs.Prelude.{ℕ}
use Rattle.states.specs.declared.Row.{Row}

abbrev pub row_number : Row → ℕ
row_number Row.Open = 0
row_number Row.Prepare = 1
row_number Row.Step = 2
row_number Row.Issue = 3
row_number Row.Drop = 4
row_number Row.Fork = 5
row_number Row.Join = 6
row_number Row.Forecast = 7
