-- The answer of look.
-- seen: the words of a version. shown: document 01's outcome and numbers for each case. OwnRow:
-- where the row lies. RowIn: it lies in the buffer.
-- Assumes nothing.
use Rattle.std.specs.Prelude.{◌≡◌, List, [], ◌∷◌, ◌++◌, ℕ, ◌+◌, ◌≤◌, length, Result, Ok, Err}
use Rattle.answers.specs.declared.refusal.Refusal.{Refusal}
use Rattle.answers.specs.Refusals.{refusal_number}
use Rattle.words.specs.Lists.{window}
use Rattle.clock.specs.Clock.{standing_number}
use Rattle.sizes.specs.declared.Counts.{Counts}
use Rattle.sizes.specs.Bounds.{max_writers}
use Rattle.look.specs.declared.Looked.{Looked}
use Rattle.look.specs.Places.{own_row_at}

-- "answers issue number and own row", "the mask follows the issue number", and the standing is
-- "printed last": by the mask, where the row's counts begin, and how many they are.
unfoldable pub seen : List ℕ → Looked → List ℕ
seen l v = 0 ∷ v.issue.0 ∷ v.leaders ∷ (window l v.row v.counts ++ standing_number v.standing ∷ [])

unfoldable pub shown : List ℕ → Result Looked Refusal → List ℕ
shown l (Ok v) = seen l v
shown l (Err r) = 2 ∷ refusal_number r ∷ []

-- The row is the own row of the version: where it begins, and how many counts it has.
unfoldable pub OwnRow : Counts → ℕ → ℕ → ℕ → Result Looked Refusal → Type 0
OwnRow z p i k (Ok v) = (v.row ≡ own_row_at z p i k) × (v.counts ≡ z.writers)
OwnRow z p i k (Err r) = Unit

-- Its counts may be read.
unfoldable pub RowIn : List ℕ → Result Looked Refusal → Type 0
RowIn l (Ok v) = (v.row + v.counts ≤ length l) × (v.counts ≤ max_writers)
RowIn l (Err r) = Unit
