-- `evict_keys` clears the keys of its set, and sets the mark.
-- Assumes nothing.
-- The cache of the site.
use mathlib.Core.Path.{ap, ◌∙◌}
use mathlib.Core.List.{List}
use Prim.Native.Nat.{ℕ}
use lib.ListN.{length}
use Rattle.masks.specs.Mask.{test_bit}
use Rattle.model.specs.Version.{versions}
use Rattle.model.specs.Store.{empty_place}
use Rattle.model.specs.Sets.{evict_set, evicted}
use Rattle.layout.specs.Reading.{read_place}
use Rattle.version.specs.Places.{put_mark, Area}
use Rattle.version.proofs.Areas.{site-cache}
use Rattle.sets.proofs.Views.{chosen}
use Rattle.sets.proofs.evict_keys.Goals as goal
use Rattle.sets.proofs.evict_keys.Goals.{Start}

cache_in : (c : Start) → let a = c.args in Area (length a.words.now) a.z a.at
cache_in c = site-cache (length c.args.words.now) c.args.z c.args.at c.requires.area.1

pub evict_set-gone-requires : goal.evict_set-gone-requires
evict_set-gone-requires c = record {
  area = cache_in (goal.at.evict_set-gone-requires c).Start;
  start_bound = c.requires.start_bound;
}

pub clear_keys-requires : goal.clear_keys-requires
clear_keys-requires c = cache_in (goal.at.clear_keys-requires c).Start

pub returns : goal.returns
unfolding evicted
returns c =
    let a = c.args in
    let l = a.words.now in
    let cache = read_place a.z l a.at in
    let E = evict_set (versions a.z.writers) a.z.keys cache (test_bit a.start) in record {
      answers = c.evict_set-gone.ensures;
      leaves = c.mark_site.ensures
          ∙ ap (λ (m : List ℕ). put_mark a.z m a.master a.at)
          (c.clear_keys.ensures
          ∙ chosen a.z l a.at c.evict_set-gone.result E empty_place cache
          c.evict_set-gone.ensures);
    }
