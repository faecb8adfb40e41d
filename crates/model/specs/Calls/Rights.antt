-- Who may hold and who may issue: calls set the keys that a site may hold and those that a writer
-- may save (CR 9).
-- taken_away: what is taken from a cache, where E starts. mayhold_rule, maysave_rule: the calls.
-- Assumes nothing.
use Rattle.std.specs.Prelude.{not, ◌&&◌, [], ◌∷◌, ℕ, ◌^◌, leb}
use Rattle.words.specs.Tests.{Items}
use Rattle.masks.specs.Mask.{test_bit}
use Rattle.model.specs.Algebra.{Algebra, Place}
use Rattle.model.specs.Version.{Version, versions}
use Rattle.model.specs.Sets.{evicted}
use Rattle.model.specs.Store.{Store, with_cache, with_may_hold, with_may_save}
use Rattle.model.specs.Outcome.{Outcome, done, refuse, unless}

-- The held keys that a mask lacks, of versions and copies alike.
unfoldable pub taken_away : {A : Type 0} → Algebra A → Place A → ℕ → Items
taken_away alg cache m k = alg.held (cache k) && not (test_bit m k)

-- "a call sets each (a bit at K or above gives 3 ..)": i of n offices or writers, and a mask.
unfoldable pub right_cause : Store → ℕ → ℕ → ℕ → ℕ
right_cause s n i m =
    refuse (leb n i) 3
    (refuse (leb (2 ^ s.counts.keys) m) 3
    0)

-- "Taking a sheet from an office evicts it there by the evict rule."
unfoldable pub mayhold_cache : Store → ℕ → ℕ → Place Version
mayhold_cache s o m =
    let alg = versions s.counts.writers in
    let cache = (s.site o).cache in
    evicted alg s.counts.keys cache (taken_away alg cache m)

-- "any call .. with no answer named, answers 0"
unfoldable pub mayhold_done : Store → ℕ → ℕ → Outcome
mayhold_done s o m = done (0 ∷ []) (with_may_hold (with_cache s o (mayhold_cache s o m)) o m)

unfoldable pub mayhold_rule : ℕ → ℕ → Store → Outcome
mayhold_rule o m s = unless (right_cause s s.counts.sites o m) (mayhold_done s o m)

unfoldable pub maysave_rule : ℕ → ℕ → Store → Outcome
maysave_rule w m s =
    unless (right_cause s s.counts.writers w m) (done (0 ∷ []) (with_may_save s w m))
