-- A relation as rows of masks, and a path as the code hands it out.
-- leads_by: by the rows. RowsOf: where they lie. layer, LayersOf: how far items are away.
-- meeting: which layers a start meets.
-- item_path: a list as an ItemPath.
-- Assumes nothing.
use Rattle.std.specs.Prelude.{◌≡◌, not, List, ℕ, ◌≤◌, ◌<◌, eqb, length, get_or, replicate, bit_and}
use Rattle.words.specs.Tests.{Items}
use Rattle.words.specs.Words.{put}
use Rattle.masks.specs.Mask.{test_bit, mask_below}
use Rattle.paths.specs.Path.{near}
use Rattle.paths.specs.declared.ItemPath.{ItemPath}

-- The items to which item t leads: those in the mask of row t.
unfoldable pub leads_by : List ℕ → ℕ → Items
leads_by rows t = test_bit (get_or rows t 0)

-- A row for each item below n, and a bit for each in a mask.
pub record RowsOf (rows : List ℕ) (n : ℕ) : Type 0 where
  pub rows_in : n ≤ length rows
  pub bits : n ≤ 32

-- The mask of the items that are m edges away from the goal.
unfoldable pub layer : List ℕ → ℕ → ℕ → ℕ → ℕ
layer rows n goal m = mask_below n (near n (leads_by rows) (test_bit goal) m)

-- Some item of the start is in the mask m.
abbrev pub meeting : List ℕ → ℕ → Items
meeting masks start m = not (eqb (bit_and start (get_or masks m 0)) 0)

-- The layers below n, of the goal that is the first of them.
pub record LayersOf (rows : List ℕ) (n : ℕ) (masks : List ℕ) : Type 0 where
  pub layers_in : n ≤ length masks
  pub at : (m : ℕ) → m < n → get_or masks m 0 ≡ layer rows n (get_or masks 0 0) m

-- No items.
unfoldable pub no_items_of : List ℕ
no_items_of = replicate 32 0

-- Its items in order, and 0 behind them.
unfoldable pub item_path : List ℕ → ItemPath
item_path l = record { count = length l; items = put no_items_of 0 (length l) (λ i. get_or l i 0) }
