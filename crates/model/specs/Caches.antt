-- Fetch and evict: a site's cache ("shelf") takes keys from the master, or leaves them.
-- Assumes nothing.
use Rattle.std.specs.Prelude.{not, [], ◌∷◌, ℕ, leb}
use Rattle.words.specs.Tests.{only}
use Rattle.masks.specs.Mask.{mask_below}
use Rattle.model.specs.Version.{held, versions}
use Rattle.model.specs.Sets.{fetch_set, fetched, unfetchable, evict_set, evicted}
use Rattle.model.specs.Tail.{barred}
use Rattle.model.specs.Store.{Store, with_cache}
use Rattle.model.specs.Allowance.{over}
use Rattle.model.specs.Outcome.{Outcome, done, refuse, unless}

-- The causes in the table's order. CR 9: "a barred sheet in T stops the fetch", 13. CR 7: "A fetch
-- .. that would leave any shelf above its allowance changes nothing", 12.
unfoldable pub fetch_cause : Store → ℕ → ℕ → ℕ
fetch_cause s o k =
    let z = s.counts in
    let alg = versions z.writers in
    let cache = (s.site o).cache in
    refuse (leb z.sites o) 3
    (refuse (leb z.keys k) 3
    (refuse (barred z.keys (s.tail.may_hold o)
    (fetch_set alg z.keys s.master cache (only k))) 13
    (refuse (unfetchable alg z.keys s.master (only k)) 7
    (refuse (over z (s.site o) (fetched alg z.keys s.master cache (only k))) 12
    0))))

-- "The shelf takes the master's version of each sheet in T. Answers T."
unfoldable pub fetch_done : Store → ℕ → ℕ → Outcome
fetch_done s o k =
    let z = s.counts in
    let alg = versions z.writers in
    let cache = (s.site o).cache in
    done (mask_below z.keys (fetch_set alg z.keys s.master cache (only k)) ∷ [])
    (with_cache s o (fetched alg z.keys s.master cache (only k)))

unfoldable pub fetch_rule : ℕ → ℕ → Store → Outcome
fetch_rule o k s = unless (fetch_cause s o k) (fetch_done s o k)

unfoldable pub evict_cause : Store → ℕ → ℕ → ℕ
evict_cause s o k =
    refuse (leb s.counts.sites o) 3
    (refuse (leb s.counts.keys k) 3
    (refuse (not (held ((s.site o).cache k))) 8
    0))

-- "E leaves the shelf. Answers E."
unfoldable pub evict_done : Store → ℕ → ℕ → Outcome
evict_done s o k =
    let z = s.counts in
    let alg = versions z.writers in
    let cache = (s.site o).cache in
    done (mask_below z.keys (evict_set alg z.keys cache (only k)) ∷ [])
    (with_cache s o (evicted alg z.keys cache (only k)))

unfoldable pub evict_rule : ℕ → ℕ → Store → Outcome
evict_rule o k s = unless (evict_cause s o k) (evict_done s o k)
