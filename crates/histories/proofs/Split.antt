-- The listing's text split into lines, as the other program splits its input.
-- lines_split: they are the scripts' lines, in order.
-- Assumes nothing.
use mathlib.Core.Path.{◌≡◌, refl, sym, ap, ◌∙◌}
use mathlib.Core.Bool.{false}
use mathlib.Core.List.{List, [], ◌∷◌, ◌++◌, map, append_assoc}
use Prim.Native.Nat.{ℕ}
use native.Mathlib.Omega.{arith}
use lib.Dec.{eqb}
use Rattle.words.proofs.Bools.{ne_eqb}
use Rattle.model.specs.Calls.{StoreCall}
use Rattle.script.specs.Script.{before, lines_of}
use Rattle.listing.specs.Scripts.{each, AllOf}
use Rattle.listing.specs.Calls.{listing}
use Rattle.listing.specs.Lines.{history_line, whole_line, listing_text}
use Rattle.listing.proofs.Plain.{Plain, line_plain}

-- A line feed ends a line that has none.
line_first : (s bs : List ℕ) → Plain s → lines_of (s ++ (10 ∷ bs)) ≡ s ∷ lines_of bs
unfolding lines_of before AllOf
line_first [] bs p = refl
line_first (b ∷ s) bs p =
    let e : eqb b 10 ≡ false = ne_eqb b 10 (λ q. omega (arith, p.0, q)) in
    rw e (ap (before b) (line_first s bs p.1))

each-split : (l : List (List StoreCall)) → lines_of (each whole_line l) ≡ map history_line l
unfolding lines_of each
each-split [] = refl
each-split (cs ∷ l) =
    ap lines_of (append_assoc (history_line cs) (10 ∷ []) (each whole_line l))
    ∙ line_first (history_line cs) (each whole_line l) (line_plain cs)
    ∙ ap (λ (ls : List (List ℕ)). history_line cs ∷ ls) (each-split l)

-- "Each stands there just once, on a line of its own".
pub lines_split : lines_of listing_text ≡ map history_line listing
unfolding listing_text
lines_split = each-split listing
