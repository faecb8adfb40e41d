-- Fork and join (CR 10): a run's snapshot ("card") and read mask are copied, and both branches
-- ("lines") become one again.
-- fork_rule_of; joined_place, joined_branch: the cards merged, the read masks united;
-- join_rule_of.
-- Assumes nothing.
use Rattle.std.specs.Prelude.{Bool, cond, not, [], ◌∷◌, ℕ, eqb}
use Rattle.std.specs.Int.Bits.{bit_or}
use Rattle.words.specs.Tests.{Items, any_below}
use Rattle.model.specs.Algebra.{Algebra, Place}
use Rattle.model.specs.Version.{versions}
use Rattle.model.specs.Store.{Branch, Run, forked_mark, joined_mark, no_branch, Store, run_with, with_run, with_state}
use Rattle.model.specs.Stays.{moved_keys, moved_set}
use Rattle.model.specs.Outcome.{Outcome, broken, done, refuse, unless, fork_row, join_row, broken_state, run_cause}

-- ---- fork: "An open run may fork once: the card and read mask are copied"

unfoldable pub forked_run : Run → Run
forked_run a = run_with a a.state a.done a.branch forked_mark a.branch

-- 14: "A second fork", joined or not.
unfoldable pub fork_cause : Store → ℕ → ℕ
fork_cause s r =
    run_cause s fork_row r
    (refuse (not (eqb (s.run r).mark 0)) 14
    0)

unfoldable pub fork_done : Store → ℕ → Outcome
fork_done s r = done (0 ∷ []) (with_run s r (forked_run (s.run r)))

unfoldable pub fork_rule_of : ℕ → Store → Outcome
fork_rule_of r s = unless (fork_cause s r) (fork_done s r)

-- ---- join

-- "merges the cards sheet by sheet": versions and copies alike.
unfoldable pub joined_place : {A : Type 0} → Algebra A → Place A → Place A → Place A
joined_place alg p q k = alg.merge k (p k) (q k)

module _ (s : Store) (r : ℕ) where
  -- "merges the cards sheet by sheet and unites the read masks"
  unfoldable pub joined_branch : Branch
  joined_branch =
      let a = s.run r in
      record {
        read = bit_or a.branch.read a.second.read;
        snapshot = joined_place (versions s.counts.writers) a.branch.snapshot
            a.second.snapshot;
      }

  -- The run is joined, its second branch zero.
  unfoldable pub joined_run : Run
  joined_run =
      let a = s.run r in
      run_with a a.state a.done joined_branch joined_mark no_branch

  -- Not "every sheet read on either line stays the version that was read": these moved.
  unfoldable pub join_moved : Items
  join_moved = moved_keys s.counts (s.run r).branch (s.run r).second

  -- 14: "a join when not forked".
  unfoldable pub join_cause : ℕ
  join_cause =
      run_cause s join_row r
      (refuse (not (eqb (s.run r).mark forked_mark)) 14
      0)

  unfoldable pub join_done : Outcome
  join_done = done (0 ∷ []) (with_run s r joined_run)

  -- "otherwise only the state changes, and the answer is broken with the mask of the sheets that
  -- moved"
  unfoldable pub join_broken : Outcome
  join_broken =
      broken (moved_set s.counts (s.run r).branch (s.run r).second)
      (with_run s r (with_state (s.run r) broken_state))

unfoldable pub join_rule_of : ℕ → Store → Outcome
join_rule_of r s =
    unless (join_cause s r)
    (cond (any_below s.counts.keys (join_moved s r)) (join_broken s r) (join_done s r))
