-- What the contracts of drawn sets speak of: a place seen through a mask, and which of its keys
-- draws in which.
-- view_at, viewed: a view. DrawArea: where target and source lie. draws_in, evicts_in: whether a
-- key leads to another.
-- Assumes nothing.
use Rattle.std.specs.Prelude.{cond, List, ℕ}
use Rattle.words.specs.Tests.{Items}
use Rattle.masks.specs.Mask.{test_bit}
use Rattle.sizes.specs.declared.Counts.{Counts}
use Rattle.model.specs.Algebra.{Place, everything}
use Rattle.model.specs.Version.{Version, dependency, versions}
use Rattle.model.specs.Sets.{draws}
use Rattle.layout.specs.Reading.{read_place}
use Rattle.version.specs.Places.{Area}
use Rattle.sets.specs.declared.View.{View}

-- ---- a place seen through a mask

-- Where the place begins from which key k is read.
unfoldable pub view_at : View → ℕ → ℕ
view_at v k = cond (test_bit v.mask k) v.first v.second

-- The first place for the keys of the mask, the second for the others.
unfoldable pub viewed : Counts → List ℕ → View → Place Version
viewed z l v k =
    cond (test_bit v.mask k) (read_place z l v.first k) (read_place z l v.second k)

-- The places of a drawn set, in a buffer of len words.
pub record DrawArea (len : ℕ) (z : Counts) (target : ℕ) (source : View) : Type 0 where
  pub target_in : Area len z target
  pub first_in : Area len z source.first
  pub second_in : Area len z source.second

-- ---- which key draws in which

-- T and C, in any scope: key t of the source draws in key d.
abbrev pub draws_in : Counts → List ℕ → ℕ → View → ℕ → Items
draws_in z l target source =
    draws (versions z.writers) z.keys everything (read_place z l target) (viewed z l source)

-- E: key d of the place needs key t.
abbrev pub evicts_in : Counts → List ℕ → ℕ → ℕ → Items
evicts_in z l at t d = dependency z.writers d (read_place z l at d) t
