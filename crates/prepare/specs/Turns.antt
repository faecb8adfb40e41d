-- What the parts of prepare leave of a store, and what they ask of a buffer.
-- early_cause: the causes that the run decides. reads_at_of: what the jobs at a site read.
-- taken_at_of: T
-- of a site. no_sets, set_of_at, SetsOf, Fitting: a mask for each site. taken_sites: the fetches
-- of the first n.
-- merged_sites, merged: the merge of the first n sites, of all. site_merged: of one, in words.
-- MergeArea: a snapshot that the caches are merged into.
-- Assumes nothing.
use Rattle.std.specs.Prelude.{◌≡◌, false, cond, not, ◌&&◌, List, ℕ, ◌+◌, ◌^◌, ◌≤◌, ◌<◌, eqb, ltb, length, get_or, replicate}
use Rattle.words.specs.Tests.{Items}
use Rattle.words.specs.Numbers.{when}
use Rattle.masks.specs.Mask.{test_bit, union_below}
use Rattle.sizes.specs.declared.Counts.{Counts}
use Rattle.sizes.specs.Bounds.{max_sites, place_size, site_at}
use Rattle.model.specs.Algebra.{Place, lacking}
use Rattle.model.specs.Version.{Version, merge, versions}
use Rattle.model.specs.Sets.{fetch_set}
use Rattle.model.specs.Tail.{barred}
use Rattle.model.specs.Store.{forked_mark, Store, empty_place, planned, with_caches, with_run, with_snapshot}
use Rattle.model.specs.Outcome.{refuse, prepare_row, run_cause}
use Rattle.model.specs.Prepare.{uses_site, sites_merged, site_caches}
use Rattle.layout.specs.Reading.{read_place, store_of}
use Rattle.layout.specs.Stored.{put_place}
use Rattle.version.specs.Places.{choice, Area}
use Rattle.fetching.specs.Takes.{takes_over}

-- ---- the causes

-- The causes of prepare that its run decides alone, above those that are left.
unfoldable pub early_cause : Store → ℕ → ℕ → ℕ
early_cause s r rest =
    run_cause s prepare_row r
    (refuse (eqb (s.run r).mark forked_mark) 14
    (refuse (not (eqb (s.run r).done 0)) 6
    rest))

-- ---- the caches

-- What the jobs of run r at site o read.
unfoldable pub reads_at_of : Store → ℕ → ℕ → ℕ
reads_at_of s r o =
    let a = s.run r in
    union_below a.jobs (λ j. when (eqb (a.job j).site o) (a.job j).reads)

-- T of site o for run r, with the counts z of the store: from those of them that its cache lacks.
unfoldable pub taken_at_of : Counts → Store → ℕ → ℕ → Items
taken_at_of z s r o =
    let alg = versions z.writers in
    let cache = (s.site o).cache in
    fetch_set alg z.keys s.master cache
    (lacking alg z.keys cache (test_bit (reads_at_of s r o)))

-- A mask for each of 8 sites: none has a key; that of site o; a mask of keys for each site.
unfoldable pub no_sets : List ℕ
no_sets = replicate max_sites 0

abbrev pub set_of_at : List ℕ → ℕ → ℕ
set_of_at t o = get_or t o 0

pub record SetsOf (z : Counts) (t : List ℕ) : Type 0 where
  pub long : z.sites ≤ length t
  pub low : (o : ℕ) → o < z.sites → set_of_at t o < 2 ^ z.keys

-- Each site may hold the keys of its mask, and none would hold too much with it.
pub record Fitting (l : List ℕ) (z : Counts) (t : List ℕ) : Type 0 where
  pub sets : SetsOf z t
  pub right : (o : ℕ) → o < z.sites
      → barred z.keys ((store_of l).tail.may_hold o) (test_bit (set_of_at t o)) ≡ false
  pub fits : (o : ℕ) → o < z.sites → takes_over z ((store_of l).site o) (set_of_at t o) ≡ false

-- The store after the first n sites have taken the keys of their masks.
unfoldable pub taken_sites : Store → (ℕ → ℕ) → ℕ → Store
taken_sites s f n =
    with_caches s (λ o. cond (ltb o n)
    (choice (test_bit (f o)) s.master (s.site o).cache) (s.site o).cache)

-- ---- the snapshot

-- The first n sites, those that a job of run r is at, merged and cut down to its plan.
unfoldable pub merged_sites : Store → ℕ → ℕ → Place Version
merged_sites s r n =
    let a = s.run r in
    sites_merged (versions s.counts.writers) n (uses_site a.jobs a.job)
    (planned a.jobs a.job) (site_caches s)

-- The store with all sites merged in the snapshot of run r.
unfoldable pub merged : Store → ℕ → Store
merged s r =
    with_run s r (with_snapshot (s.run r) (merged_sites s r s.counts.sites))

-- The snapshot at an index with the cache of site o merged into it, if both masks allow it.
unfoldable pub site_merged : Counts → List ℕ → ℕ → ℕ → ℕ → ℕ → Place Version
site_merged z l at o sites plan =
    choice (λ k. test_bit sites o && test_bit plan k)
    (λ k. merge z.writers k (read_place z l at k) (read_place z l (site_at z o) k))
    (read_place z l at)

-- ---- the buffer

-- An empty snapshot at an index behind the caches of the sites.
pub record MergeArea (l : List ℕ) (z : Counts) (at : ℕ) : Type 0 where
  pub area : Area (length l) z at
  pub behind : (o : ℕ) → o < z.sites → site_at z o + place_size z ≤ at
  pub empty : put_place z l at empty_place ≡ l
