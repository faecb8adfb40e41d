-- Clocks (document 01: "one count per writer"), of writers below W.
-- standing: how two of them stand; flipped: the other way round. dominates ("covers"), covered,
-- concurrent ("rivals"), differing: tests of it.
-- present: not all zero. join: the larger count at each place.
-- clock_at: the clock in a buffer from an index on.
-- Assumes nothing.
use Rattle.std.specs.Prelude.{Bool, true, false, List, ℕ, ◌+◌, ◌≤◌, ◌<◌, max, leb, ltb, get_or}
use Rattle.words.specs.Tests.{any_below}
use Rattle.clock.specs.declared.Standing.{Standing}
use Rattle.clock.specs.declared.Standing.TheVariants.{Equal, Older, Newer, Rival}

-- "A clock is one count per writer. Count 0 means that the writer is absent from it."
abbrev pub Clock : Type 0
Clock = ℕ → ℕ

-- ---- "Comparing two clocks shall answer equal, older, newer or rival" (document 02)

-- Some count of p is larger than that of q.
unfoldable pub exceeds : ℕ → Clock → Clock → Bool
exceeds W p q = any_below W (λ w. ltb (q w) (p w))

-- By whether some count is larger, and whether some is smaller.
abbrev pub standing_of : Bool → Bool → Standing
standing_of false false = Equal
standing_of false true = Older
standing_of true false = Newer
standing_of true true = Rival

-- How p stands against q.
unfoldable pub standing : ℕ → Clock → Clock → Standing
standing W p q = standing_of (exceeds W p q) (exceeds W q p)

-- "0 equal, 1 older, 2 newer, 3 rival"
abbrev pub standing_number : Standing → ℕ
standing_number Equal = 0
standing_number Older = 1
standing_number Newer = 2
standing_number Rival = 3

-- ---- covering, over the standing

-- "Clock p covers q": it is equal or newer.
abbrev pub covering : Standing → Bool
covering Equal = true
covering Older = false
covering Newer = true
covering Rival = false

unfoldable pub dominates : ℕ → Clock → Clock → Bool
dominates W p q = covering (standing W p q)

-- Seen from the other clock, older and newer change places (`standing-flip`).
abbrev pub flipped : Standing → Standing
flipped Equal = Equal
flipped Older = Newer
flipped Newer = Older
flipped Rival = Rival

-- The other clock covers it: it is equal or older.
abbrev pub covered : Standing → Bool
covered x = covering (flipped x)

-- ".. if every count of p is at least that of q" (`covers-standing`: the same).
abbrev pub Dominates : ℕ → Clock → Clock → Type 0
Dominates W p q = (w : ℕ) → w < W → q w ≤ p w

-- "Two clocks are rivals if neither covers the other" (`rivals-standing`: the same).
abbrev pub rivalling : Standing → Bool
rivalling Equal = false
rivalling Older = false
rivalling Newer = false
rivalling Rival = true

unfoldable pub concurrent : ℕ → Clock → Clock → Bool
concurrent W p q = rivalling (standing W p q)

-- CR 4: "isn't equal".
abbrev pub differing : Standing → Bool
differing Equal = false
differing Older = true
differing Newer = true
differing Rival = true

-- ---- one clock, and two together

-- Not all zero: some writer is present.
unfoldable pub present : ℕ → Clock → Bool
present W p = any_below W (λ w. leb 1 (p w))

-- The larger count at each place.
unfoldable pub join : Clock → Clock → Clock
join p q w = max (p w) (q w)

-- The clock in the words l from index at on.
unfoldable pub clock_at : List ℕ → ℕ → Clock
clock_at l at w = get_or l (at + w) 0
