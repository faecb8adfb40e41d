-- What new needs before it stores a word, and the loop over the sites.
-- Room: the areas fit. allowances_put: the allowances of the first n sites stored.
-- Assumes nothing.
use Rattle.std.specs.Prelude.{◌≡◌, List, ℕ, ◌+◌, ◌≤◌, set}
use Rattle.words.specs.Numbers.{fold_below}
use Rattle.sizes.specs.declared.Counts.{Counts}
use Rattle.sizes.specs.declared.Sizes.{Sizes}
use Rattle.sizes.specs.Bounds.{max_total, header_size, Ranged, tail_size, sizes_of, site_at, allowance_at}

-- Counts in range and their sizes: the areas follow each other, and a buffer of len words has room
-- for them.
pub record Room (len : ℕ) (z : Counts) (at : Sizes) : Type 0 where
  pub counts : Ranged z
  pub sizes : at ≡ sizes_of z
  pub master_in : header_size ≤ at.master
  pub sites_in : at.master ≤ at.sites
  pub writers_in_of : at.sites ≤ at.writers
  pub runs_in_of : at.writers ≤ at.runs
  pub tail_in : at.runs ≤ at.tail
  pub total_in_of : at.tail + tail_size z ≤ at.total
  pub top : at.total ≤ max_total
  pub fits : at.total ≤ len

-- The words with the allowance K stored for each of the first n sites.
abbrev pub allowances_put : Counts → ℕ → List ℕ → List ℕ
allowances_put z n l = fold_below n (λ o l. set l (allowance_at z (site_at z o)) z.keys) l
