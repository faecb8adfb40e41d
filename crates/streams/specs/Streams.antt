-- What was read and handed to write, and when the program reads on.
-- Reads: one read more. Hands: bytes were handed to write once more. input_over: no more is read.
-- goes_on_of: the program reads on. told_len: how many bytes a read delivered that told so much,
-- none if it failed, to a buffer of most bytes.
-- Assumes nothing.
use Rattle.std.specs.Prelude.{◌≡◌, Bool, not, ◌&&◌, ◌||◌, List, ℕ, ◌+◌, ◌≤◌, eqb, leb, min, length}
use Rattle.std.specs.Prelude.{Result, Ok, Err}
use Rattle.script.specs.Limits.{max_input}
use Rattle.streams.specs.declared.Input.{Input}
use Rattle.streams.specs.declared.Output.{Output}

-- From i to j, one read more: to the front of chunk.
pub record Reads (i j : Input) (chunk : List ℕ) : Type 0 where
  pub all : j.all ≡ i.all + j.got
  pub front : j.got ≤ length chunk
  pub room : j.room ≡ length chunk
  pub ended : j.ended ≡ eqb j.got 0

-- From o to p, bytes were handed to write once more: those at the front of out.
pub record Hands (o p : Output) (out : List ℕ) : Type 0 where
  pub all : p.all ≡ o.all + p.count
  pub front : p.count ≤ length out
  pub room : p.room ≡ length out

-- The last read delivered nothing, or the limit is reached.
abbrev pub input_over : Input → Bool
input_over i = i.ended || leb max_input i.all

-- No write failed, and the input isn't over.
abbrev pub goes_on_of : Input → Output → Bool
goes_on_of i o = not o.failed && not (input_over i)

abbrev pub told_len : {E : Type 0} → Result ℕ E → ℕ → ℕ
told_len (Ok n) most = min n most
told_len (Err _) most = 0
