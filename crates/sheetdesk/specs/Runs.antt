-- How the program ends, as `run` tells it.
-- Assumes nothing.
use Rattle.std.proofs.Math.Bool.{So}
use Rattle.std.specs.Prelude.{List, ℕ}
use Rattle.script.specs.Tie.{Served, Finished}
use Rattle.streams.specs.Streams.{input_over}
use Rattle.sheetdesk.specs.declared.Kept.{Kept}

-- Begun on the buffer l, it leaves m, and k as what is kept. stopped: by a write that failed, with
-- the line under way. ended: with the input, whose last line is answered too.
pub data Ran (l m line : List ℕ) (k : Kept) : Type 0 where
  stopped : So k.output.failed
      → Served l m line k.len k.input.all k.output.all → Ran l m line k
  ended : So (input_over k.input) → Finished l m k.input.all k.output.all
      → Ran l m line k
