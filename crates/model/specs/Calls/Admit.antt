-- Admit: whether a store read back from disk is taken (CR 6).
-- every_version, every_past: "anywhere" on the store. causal_cuts .. numbers_within: the
-- conditions in the customer's order. admissible: all of them. admit_reply: the call.
-- Assumes nothing.
use Rattle.std.specs.Prelude.{Bool, not, ◌&&◌, [], ◌∷◌, ℕ, leb}
use Rattle.words.specs.Tests.{all_below}
use Rattle.clock.specs.Clock.{Clock, dominates}
use Rattle.model.specs.Algebra.{Place, causal_cut, overlapping_cut}
use Rattle.model.specs.Version.{Version, versions}
use Rattle.model.specs.Store.{Branch, Run, Store, planned}
use Rattle.model.specs.Outcome.{Reply, refuse}

-- A test of both branches of a run.
unfoldable pub each_branch : Run → (Branch → Bool) → Bool
each_branch a p = p a.branch && p a.second

module _ (s : Store) where
  -- A test of every place: the master, each cache ("shelf"), each run's snapshots ("cards").
  -- CR 10: "explaining and admission treat each line as a card with its own reads".
  unfoldable pub every_place : (Place Version → Bool) → Bool
  every_place p =
      p s.master
      && (all_below s.counts.sites (λ o. p (s.site o).cache)
      && all_below s.counts.runs (λ r. each_branch (s.run r) (λ b. p b.snapshot)))

  -- A test of every version on the store.
  unfoldable pub every_version : (Version → Bool) → Bool
  every_version p = every_place (λ a. all_below s.counts.keys (λ k. p (a k)))

  -- "anywhere, writers' pasts included": a test of each past that is kept, a row for each key.
  unfoldable pub every_past : ((ℕ → Clock) → Bool) → Bool
  every_past p =
      every_version (λ v. p v.past)
      && all_below s.counts.writers (λ w. p (s.writer w).past)

  -- "master and shelves are causal cuts"
  unfoldable pub causal_cuts : Bool
  causal_cuts =
      let z = s.counts in
      let cut : Place Version → Bool = causal_cut (versions z.writers) z.keys in
      cut s.master && all_below z.sites (λ o. cut (s.site o).cache)

  -- "each card is a keyset-overlapping cut for its plan"
  unfoldable pub overlapping_cuts : Bool
  overlapping_cuts =
      all_below s.counts.runs (λ r. each_branch (s.run r) (λ b.
      overlapping_cut (versions s.counts.writers) s.counts.keys
      (planned (s.run r).jobs (s.run r).job) b.snapshot))

  -- "the master's own row of a sheet covers every row kept for that sheet"
  unfoldable pub master_covers : (ℕ → Clock) → Bool
  master_covers past =
      all_below s.counts.keys (λ d.
      dominates s.counts.writers ((s.master d).past d) (past d))

  -- "no count in a row exceeds that writer's count"
  unfoldable pub counts_within : (ℕ → Clock) → Bool
  counts_within past =
      all_below s.counts.keys (λ d.
      all_below s.counts.writers (λ u. leb (past d u) (s.writer u).count))

  -- "no version's issue number exceeds the last one"
  unfoldable pub number_within : Version → Bool
  number_within v = leb v.issue s.last

  -- "admits a desk exactly if it is in form" (`on_store` asks that), and:
  unfoldable pub admissible : Bool
  admissible =
      causal_cuts
      && (overlapping_cuts
      && (every_past master_covers
      && (every_past counts_within
      && every_version number_within)))

-- "A desk in form that breaks one of these gets 11, from admission alone, after 1."
unfoldable pub admit_cause : Store → ℕ
admit_cause s = refuse (not (admissible s)) 11 0

-- "Admission writes nothing; it .. answers 0."
unfoldable pub admit_reply : Store → Reply
admit_reply s = record { cause = admit_cause s; word = 0; numbers = 0 ∷ [] }
