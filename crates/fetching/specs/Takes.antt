-- The causes of a fetch by the mask of T, for the contracts of what tests them.
-- takes_over: more keys than the site may hold. takes_cause: the rows that a fetch has.
-- Assumes nothing.
use Rattle.std.specs.Prelude.{Bool, ◌||◌, ℕ, ltb}
use Rattle.words.specs.Numbers.{count_below}
use Rattle.masks.specs.Mask.{test_bit}
use Rattle.sizes.specs.declared.Counts.{Counts}
use Rattle.model.specs.Version.{held, versions}
use Rattle.model.specs.Sets.{unfetchable}
use Rattle.model.specs.Tail.{barred}
use Rattle.model.specs.Store.{Site, Store}
use Rattle.model.specs.Outcome.{refuse}

-- Site x would hold too much with the keys of a mask.
unfoldable pub takes_over : Counts → Site → ℕ → Bool
takes_over z x m =
    ltb x.allowance (count_below z.keys (λ k. test_bit m k || held (x.cache k)))

-- The first row that holds where site o takes the keys of mask m. CR 9: "Where a right is missing,
-- .. 13, directly after 6": asked is the mask of the keys that the site must have the right to.
unfoldable pub takes_cause : Counts → Store → ℕ → ℕ → ℕ → ℕ
takes_cause z s o asked m =
    refuse (barred z.keys (s.tail.may_hold o) (test_bit asked)) 13
    (refuse (unfetchable (versions z.writers) z.keys s.master (test_bit m)) 7
    (refuse (takes_over z (s.site o) m) 12
    0))
