-- What stands behind the runs: the last picked run (CR 8), and who may hold and who may save
-- (CR 9).
-- Tail; no_tail, every_key, fresh_tail; tail..: one part changed. barred: a right is missing.
-- Assumes nothing.
use Rattle.std.specs.Prelude.{Bool, cond, not, ◌&&◌, ℕ, ◌-◌, ◌^◌, ltb}
use Rattle.words.specs.Tests.{Items, any_below}
use Rattle.words.specs.Lists.{put_at}
use Rattle.masks.specs.Mask.{test_bit}
use Rattle.sizes.specs.declared.Counts.{Counts}

pub record Tail : Type 0 where
  pub round : ℕ  -- "The last picked run" (CR 8)
  pub may_hold : ℕ → ℕ  -- "Each office gets a mask of sheets it may hold" (CR 9)
  pub may_save : ℕ → ℕ  -- "each writer one of sheets it may save"

abbrev pub no_tail : Tail
no_tail = record { round = 0; may_hold = λ o. 0; may_save = λ w. 0 }

-- "all sheets", for each of n.
abbrev pub every_key : Counts → ℕ → ℕ → ℕ
every_key z n i = cond (ltb i n) (2 ^ z.keys - 1) 0

-- "P - 1 on a new desk" (CR 8), "all sheets on a new desk" (CR 9).
abbrev pub fresh_tail : Counts → Tail
fresh_tail z = record {
  round = z.runs - 1;
  may_hold = every_key z z.sites;
  may_save = every_key z z.writers;
}

-- Another last picked run, or other keys that a site may hold or a writer may save: the tail's
-- other words stay.
abbrev pub tail_round : Tail → ℕ → Tail
tail_round t r = record { round = r; may_hold = t.may_hold; may_save = t.may_save }

abbrev pub tail_hold : Tail → ℕ → ℕ → Tail
tail_hold t o m =
    record { round = t.round; may_hold = put_at t.may_hold o m; may_save = t.may_save }

abbrev pub tail_save : Tail → ℕ → ℕ → Tail
tail_save t w m =
    record { round = t.round; may_hold = t.may_hold; may_save = put_at t.may_save w m }

-- "a right is missing": a key of a set, of K keys, isn't in the mask.
unfoldable pub barred : ℕ → ℕ → Items → Bool
barred K right S = any_below K (λ k. S k && not (test_bit right k))
