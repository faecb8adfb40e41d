-- What the program has done at a point of its run, and the tie of its calls with demand 3.
-- Begun: calls on a buffer that isn't in form, as the program's own is at first. Served: some
-- bytes are read and answered. Finished: all of an input is.
-- Assumes nothing.
use Rattle.std.specs.Prelude.{◌≡◌, List, [], ◌∷◌, ◌++◌, ℕ, length}
use Rattle.std.proofs.Math.Bool.{So}
use Rattle.sizes.specs.Bounds.{counts_of}
use Rattle.layout.specs.Calls.{Call, new, new_on, is_ok_of, after}
use Rattle.consistency.specs.Trace.{start, follow}
use Rattle.consistency.specs.Claim.{Consistent}
use Rattle.script.specs.Script.{lines_of, program, buffer_after, calls_in}
use Rattle.script.specs.Fold.{bytes, fresh, fed, progress, calls_fed}

-- The calls ds, each on the buffer as the last one left it, made m of a buffer l that isn't in
-- form. Either all of them left it as it was; or there is a first new that was accepted, and of
-- the calls after it, which made m of what it left, demand 3's claim holds.
pub data Begun (l : List ℕ) (ds : List Call) (m : List ℕ) : Type 0 where
  unchanged : after ds l ≡ l → m ≡ l → Begun l ds m
  from : (es : List Call) (k w n p : ℕ) (cs : List Call) → ds ≡ es ++ (new k w n p ∷ cs)
      → after es l ≡ l → So (is_ok_of (new_on l (counts_of k w n p)))
      → m ≡ (follow cs (start (counts_of k w n p) l)).buffer
      → Consistent cs (start (counts_of k w n p) l) → Begun l ds m

-- Begun on the buffer l, the program has read some bytes and handed the answers to the lines that
-- ended in them to write. It keeps the buffer m, and n bytes of line as the line under way.
-- read, handed: how many bytes it has read and handed to write.
pub record Served (l m line : List ℕ) (n read handed : ℕ) : Type 0 where
  pub input : List ℕ
  pub text : List ℕ
  pub all_read : length input ≡ read
  pub all-handed : length text ≡ handed
  pub keeps : progress m line n text ≡ fed (fresh l) input
  pub claim : Begun l (calls_fed (bytes []) input) m

-- It has read and answered all of an input, the last line too, and left the buffer m.
pub record Finished (l m : List ℕ) (read handed : ℕ) : Type 0 where
  pub input : List ℕ
  pub all_read : length input ≡ read
  pub all-handed : length (program l input) ≡ handed
  pub leaves : m ≡ buffer_after l (lines_of input)
  pub claim : Begun l (calls_in (lines_of input)) m
