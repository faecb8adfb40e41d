-- Allow: a call sets the allowance of an office (CR 7).
-- Assumes nothing.
use Rattle.std.specs.Prelude.{[], ◌∷◌, ℕ, leb, ltb}
use Rattle.model.specs.Store.{Store, site_allowed, with_site}
use Rattle.model.specs.Allowance.{held_count}
use Rattle.model.specs.Outcome.{Outcome, done, refuse, unless}

-- "A call sets it; one above K gives 3 .., one below the number now held gives 12."
unfoldable pub allow_cause : Store → ℕ → ℕ → ℕ
allow_cause s o n =
    refuse (leb s.counts.sites o) 3
    (refuse (ltb s.counts.keys n) 3
    (refuse (ltb n (held_count s.counts.keys (s.site o).cache)) 12
    0))

-- "any call .. with no answer named, answers 0"
unfoldable pub allow_done : Store → ℕ → ℕ → Outcome
allow_done s o n = done (0 ∷ []) (with_site s o (site_allowed (s.site o) n))

unfoldable pub allow_rule : ℕ → ℕ → Store → Outcome
allow_rule o n s = unless (allow_cause s o n) (allow_done s o n)
