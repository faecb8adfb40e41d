-- Laws of the lines of an input.
-- joined: the line under way in front of the lines to come. joined-last, lines_end, lines_more:
-- the last line, a line's end, one byte more.
-- after-lines: the buffer after lines is the one after their calls.
-- Assumes nothing.
use mathlib.Core.Path.{◌≡◌, refl, ap}
use mathlib.Core.Bool.{false, So}
use mathlib.Core.List.{List, [], ◌∷◌, ◌++◌}
use mathlib.Core.Option.{Option, none, some}
use Prim.Native.Nat.{ℕ}
use lib.Dec.{eqb}
use Rattle.layout.specs.Calls.{Call, after}
use Rattle.lines.specs.Grammar.{line_call}
use Rattle.script.specs.Script.{call_leaves, before, lines_of, buffer_after, with_call_of, calls_in}

unfoldable pub joined : List ℕ → List (List ℕ) → List (List ℕ)
joined [] ss = ss
joined (b ∷ s) ss = before b (joined s ss)

joined_end : (s : List ℕ) (ss : List (List ℕ)) → joined s ([] ∷ ss) ≡ s ∷ ss
unfolding joined before
joined_end [] ss = refl
joined_end (b ∷ s) ss = ap (before b) (joined_end s ss)

joined-more : (s : List ℕ) (b : ℕ) (ss : List (List ℕ))
    → joined (s ++ (b ∷ [])) ss ≡ joined s (before b ss)
unfolding joined
joined-more [] b ss = refl
joined-more (x ∷ s) b ss = ap (before x) (joined-more s b ss)

pub joined-last : (b : ℕ) (s : List ℕ) → joined (b ∷ s) [] ≡ (b ∷ s) ∷ []
unfolding joined before
joined-last b [] = refl
joined-last b (x ∷ s) = ap (before b) (joined-last x s)

pub lines_end : (s bs : List ℕ) (b : ℕ) → So (eqb b 10)
    → s ∷ lines_of bs ≡ joined s (lines_of (b ∷ bs))
unfolding lines_of
lines_end s bs b h = rw (h, joined_end s (lines_of bs)) refl

pub lines_more : (s bs : List ℕ) (b : ℕ) → eqb b 10 ≡ false
    → joined (s ++ (b ∷ [])) (lines_of bs) ≡ joined s (lines_of (b ∷ bs))
unfolding lines_of
lines_more s bs b h = rw (h, joined-more s b (lines_of bs)) refl

-- ---- calls

pub after_call : (c : Option Call) (cs : List Call) (l : List ℕ)
    → after cs (call_leaves c l) ≡ after (with_call_of c cs) l
unfolding call_leaves with_call_of after
after_call none cs l = refl
after_call (some c) cs l = refl

pub after-lines : (ss : List (List ℕ)) (l : List ℕ) → buffer_after l ss ≡ after (calls_in ss) l
unfolding buffer_after calls_in after
after-lines [] l = refl
after-lines (s ∷ ss) l =
    rw (after-lines ss (call_leaves (line_call s) l)) (after_call (line_call s) (calls_in ss) l)
