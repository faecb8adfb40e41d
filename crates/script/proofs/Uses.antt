-- What a reader takes from Begun, Served and Finished.
-- begun-claim: a buffer that changed began with a new that was accepted, and demand 3's claim
-- holds of the calls after it. served-all, finished-all: all that was read is answered, the
-- answers are handed over, and of the calls made Begun holds. scratch-room: the scratch of a
-- forecast (CR 12).
-- Assumes nothing.
use mathlib.Core.Path.{◌≡◌, refl}
use mathlib.Core.Bool.{So}
use mathlib.Core.List.{List, [], ◌∷◌, ◌++◌}
use Prim.Native.Nat.{ℕ}
use lib.ListN.{length}
use Rattle.sizes.specs.Bounds.{counts_of}
use Rattle.layout.specs.Calls.{Call, new, new_on, is_ok_of, after}
use Rattle.command.specs.Commands.{scratch_room}
use Rattle.consistency.specs.Trace.{start, follow}
use Rattle.consistency.specs.Claim.{Consistent}
use Rattle.script.specs.Limits.{store_room}
use Rattle.script.specs.Script.{lines_of, program, buffer_after, calls_in}
use Rattle.script.specs.Fold.{bytes, fresh, fed, progress, calls_fed}
use Rattle.script.specs.Tie.{Begun, Begun.unchanged, Begun.from, Served, Finished}

-- The scratch that is lent to a forecast has room for every desk of the program.
pub scratch-room : scratch_room ≡ store_room
scratch-room = refl

pub begun-claim : (l m : List ℕ) (ds : List Call) → Begun l ds m → ¬ (m ≡ l)
    → (es cs : List Call) × (k w n p : ℕ) × (ds ≡ es ++ (new k w n p ∷ cs))
    × (after es l ≡ l) × So (is_ok_of (new_on l (counts_of k w n p)))
    × (m ≡ (follow cs (start (counts_of k w n p) l)).buffer)
    × Consistent cs (start (counts_of k w n p) l)
begun-claim l m ds (unchanged _ e) n = absurd (n e)
begun-claim l m ds («from» es k w n p cs e f a g c) _ = (es, cs, k, w, n, p, e, f, a, g, c)

pub served-all : (l m line : List ℕ) (n read handed : ℕ) → Served l m line n read handed
    → (input text : List ℕ) × (length input ≡ read) × (length text ≡ handed)
    × (progress m line n text ≡ fed (fresh l) input) × Begun l (calls_fed (bytes []) input) m
served-all l m line n read handed s =
    (s.input, s.text, s.all_read, s.all-handed, s.keeps, s.claim)

pub finished-all : (l m : List ℕ) (read handed : ℕ) → Finished l m read handed
    → (input : List ℕ) × (length input ≡ read) × (length (program l input) ≡ handed)
    × (m ≡ buffer_after l (lines_of input)) × Begun l (calls_in (lines_of input)) m
finished-all l m read handed f =
    (f.input, f.all_read, f.all-handed, f.leaves, f.claim)
