-- The record of a history of the desk (CR 14), as a client can write it down: issues oldest first,
-- of each the sheets that its run had read, rising, each with its own row.
-- own_row, had_read, ..Words: its parts. record_of_at. FitsHeader, Words32: that it is one.
-- Assumes nothing.
use Rattle.std.specs.Prelude.{cond, ◌&&◌, List, [], ◌∷◌, ◌++◌, ℕ, zero, suc, ◌+◌, ◌*◌, ◌^◌, ◌<◌, length, get_or}
use Rattle.words.specs.Tests.{Items}
use Rattle.words.specs.Numbers.{count_below}
use Rattle.masks.specs.Mask.{mask_below}
use Rattle.clock.specs.Clock.{Clock}
use Rattle.history.specs.History.{Issue, History}
use Rattle.history.specs.Copies.{Copy, held_copy, last_in, by_writer}
use Rattle.records.specs.Format.{Record, total_in}

module _ (K W : ℕ) where
  -- The own row of a copy: "how many issues by that writer .. up to that writer's last save".
  unfoldable pub own_row : History → Copy → Clock
  own_row h c u = count_below (last_in K h (λ j. c j && by_writer K h u j)) (by_writer K h u)

  -- The run of issue e, on top of h, had read sheet d.
  unfoldable pub had_read : History → Issue → Items
  had_read h e d = held_copy K h (e.read d)

  unfoldable pub number_of : History → Issue → ℕ
  number_of h e = count_below K (had_read h e)

  unfoldable pub reads_up_to : History → ℕ
  reads_up_to [] = 0
  reads_up_to (e ∷ h) = reads_up_to h + number_of h e

  -- The first n counts of a row.
  unfoldable pub row_words : ℕ → Clock → List ℕ
  row_words zero c = []
  row_words (suc n) c = row_words n c ++ (c n ∷ [])

  unfoldable pub read_words : History → Issue → ℕ → List ℕ
  read_words h e d = d ∷ row_words W (own_row h (e.read d))

  -- The reads of the sheets below n.
  unfoldable pub keys_words : History → Issue → ℕ → List ℕ
  keys_words h e zero = []
  keys_words h e (suc d) =
      keys_words h e d ++ cond (had_read h e d) (read_words h e d) []

  unfoldable pub issues_words : History → List ℕ
  issues_words [] = []
  issues_words (e ∷ h) =
      issues_words h ++ (e.writer ∷ mask_below K e.keys ∷ reads_up_to h ∷ number_of h e ∷ [])

  unfoldable pub reads_words : History → List ℕ
  reads_words [] = []
  reads_words (e ∷ h) = reads_words h ++ keys_words h e K

  unfoldable pub head_words : History → List ℕ
  head_words h =
      let I = length h in
      let Q = reads_up_to h in
      K ∷ W ∷ I ∷ Q ∷ 7 ∷ (7 + 4 * I) ∷ (7 + 4 * I + Q * (1 + W)) ∷ []

  unfoldable pub record_of_at : History → Record
  record_of_at h = head_words h ++ (issues_words h ++ reads_words h)

-- "if it fits the header": the total. Other words are at most it, or small, or a mask of K bits.
abbrev pub FitsHeader : Record → Type 0
FitsHeader b = total_in b < 2 ^ 32

-- "32-bit words"
abbrev pub Words32 : Record → Type 0
Words32 b = (k : ℕ) → k < length b → get_or b k 0 < 2 ^ 32
