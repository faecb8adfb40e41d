-- The allowance of a shelf (CR 7: "For small disks, each office gets an allowance 0..K").
-- held_count: how many sheets a place holds. over: a shelf that would hold more than is allowed.
-- Assumes nothing.
use Rattle.std.specs.Prelude.{Bool, ℕ, ltb}
use Rattle.words.specs.Numbers.{count_below}
use Rattle.sizes.specs.declared.Counts.{Counts}
use Rattle.model.specs.Algebra.{Place}
use Rattle.model.specs.Version.{Version, held}
use Rattle.model.specs.Store.{Site}

-- "the number now held", of K keys.
unfoldable pub held_count : ℕ → Place Version → ℕ
held_count K p = count_below K (λ k. held (p k))

-- "above its allowance": site x with cache p.
unfoldable pub over : Counts → Site → Place Version → Bool
over z x p = ltb x.allowance (held_count z.keys p)
