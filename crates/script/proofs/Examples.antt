-- The lines of inputs, and lines under way, computed.
-- line-ends: where lines end. long-parts: lines of 400 bytes and more.
-- Assumes nothing.
use mathlib.Core.Path.{◌≡◌, refl}
use mathlib.Core.List.{[], ◌∷◌}
use lib.ListN.{replicate}
use Rattle.text.specs.Bytes.{bytes_of}
use Rattle.script.specs.Script.{before, lines_of}
use Rattle.script.specs.Fold.{bytes, too_long, longer, ended, kept, byte_step, fed}

-- Empty input has no line, and what follows the last line end is one only if it has a byte.
pub line-ends :
    (lines_of (bytes_of "") ≡ [])
    × (lines_of (bytes_of "\n") ≡ [] ∷ [])
    × (lines_of (bytes_of "\n\n") ≡ [] ∷ [] ∷ [])
    × (lines_of (bytes_of "drop 0") ≡ bytes_of "drop 0" ∷ [])
    × (lines_of (bytes_of "drop 0\n") ≡ bytes_of "drop 0" ∷ [])
    × (lines_of (bytes_of "drop 0\r\nlook") ≡ bytes_of "drop 0\r" ∷ bytes_of "look" ∷ [])
    × (lines_of (bytes_of "drop 0\n\n ") ≡ bytes_of "drop 0" ∷ [] ∷ bytes_of " " ∷ [])
unfolding lines_of before
line-ends = (refl, refl, refl, refl, refl, refl, refl)

-- 399 bytes and one more, 400 bytes and one more, and a line end after that.
pub long-parts :
    (longer (bytes (replicate 399 48)) 48 ≡ bytes (replicate 400 48))
    × (longer (bytes (replicate 400 48)) 48 ≡ too_long)
    × (longer too_long 48 ≡ too_long)
    × ((fed (record { buffer = []; part = too_long; text = [] }) (48 ∷ 10 ∷ [])).part ≡ bytes [])
unfolding longer fed byte_step ended kept
long-parts = (refl, refl, refl, refl)
