-- What stands at an index of a buffer: single words of versions, and the parts of its store.
-- ..-in: a part of the store is what is read at its offset. ..-word: a part of it is one word.
-- Assumes nothing.
use mathlib.Core.Path.{◌≡◌, refl, ap, ◌∙◌}
use mathlib.Core.List.{List}
use Prim.Native.Nat.{ℕ, ◌+◌, ◌*◌, ◌<◌}
use native.Mathlib.Omega.{arith}
use lib.Dec.{eqb, leb}
use Rattle.words.proofs.Bools.{test}
use Rattle.words.proofs.Lists.{upto_in}
use Rattle.clock.specs.Clock.{Clock, present, clock_at}
use Rattle.clock.proofs.Order.{present-same}
use Rattle.sizes.specs.declared.Counts.{Counts}
use Rattle.sizes.specs.Bounds.{past_offset, site_size, writer_size, run_size, master_at, sites_at, writers_at, runs_at, tail_at, may_hold_at, may_save_at, site_at, writer_at, run_at_of, mark_at, read_at_of, snapshot_at, key_at, row_at}
use Rattle.sizes.specs.Runs.{max_jobs, job_size}
use Rattle.model.specs.Version.{held}
use Rattle.model.specs.Store.{branch_of, no_site, no_writer, no_job, free_run}
use Rattle.layout.specs.Reading.{read_word_of, read_clock, read_past_of, read_version, read_place, read_site, read_writer, read_job, read_jobs, read_run, read_masks, read_tail_of, counts_in, store_of}
use Rattle.layout.proofs.Places.{place_at_lem}

-- ---- the parts of the store that a buffer holds

pub counts_in_lem : (l : List ℕ) → (store_of l).counts ≡ counts_in l
unfolding store_of
counts_in_lem l = refl

pub last_in_lem : (l : List ℕ) → (store_of l).last ≡ read_word_of l 4
unfolding store_of
last_in_lem l = refl

-- Mask i of n at an index.
pub masks-word : (n : ℕ) (l : List ℕ) (at i : ℕ) → i < n → read_masks n l at i ≡ read_word_of l
    (at + i)
unfolding read_masks
masks-word n l at i h =
    upto_in n 0 (λ i. read_word_of l (at + i * 1)) i h ∙ ap (read_word_of l) (omega arith)

module _ (l : List ℕ) (z : Counts) (e : z ≡ counts_in l) where
  pub master_in : (store_of l).master ≡ read_place z l (master_at z)
  unfolding store_of
  master_in = rw e

  pub site_in : (o : ℕ) → o < z.sites → (store_of l).site o ≡ read_site z l (site_at z o)
  unfolding store_of site_at
  site_in o h =
      rw (← e) (upto_in z.sites no_site (λ o. read_site z l (sites_at z + o * site_size z)) o h)

  pub cache_in : (o : ℕ) → o < z.sites → ((store_of l).site o).cache ≡ read_place z l (site_at z o)
  unfolding read_site
  cache_in o h = rw (site_in o h)

  pub writer_in : (w : ℕ) → w < z.writers → (store_of l).writer w ≡ read_writer z l (writer_at z w)
  unfolding store_of writer_at
  writer_in w h =
      let at : ℕ → ℕ = λ w. writers_at z + w * writer_size z in
      rw (← e) (upto_in z.writers no_writer (λ w. read_writer z l (at w)) w h)

  pub run_in : (r : ℕ) → r < z.runs → (store_of l).run r ≡ read_run z l (run_at_of z r)
  unfolding store_of run_at_of
  run_in r h =
      rw (← e) (upto_in z.runs free_run (λ r. read_run z l (runs_at z + r * run_size z)) r h)

  pub snapshot_in : (r n : ℕ) → r < z.runs
      → (branch_of n ((store_of l).run r)).snapshot ≡ read_place z l (snapshot_at z r n)
  unfolding read_run snapshot_at
  snapshot_in r n h = rw (run_in r h) (test (eqb n 0) (λ p. rw p) (λ p. rw p))

  pub read_in : (r n : ℕ) → r < z.runs
      → (branch_of n ((store_of l).run r)).read ≡ read_word_of l (read_at_of z r n)
  unfolding read_run read_at_of
  read_in r n h = rw (run_in r h) (test (eqb n 0) (λ p. rw p) (λ p. rw p))

  pub mark_in : (r : ℕ) → r < z.runs → ((store_of l).run r).mark ≡ read_word_of l (mark_at z r)
  unfolding read_run mark_at
  mark_in r h = rw (run_in r h)

  -- What site o may hold, and writer w may save.
  pub may_hold-word : (o : ℕ) → o < z.sites
      → (store_of l).tail.may_hold o ≡ read_word_of l (may_hold_at z o)
  unfolding store_of read_tail_of
  may_hold-word o h = rw (← e) (masks-word z.sites l (tail_at z + 1) o h)

  pub may_save-word : (w : ℕ) → w < z.writers
      → (store_of l).tail.may_save w ≡ read_word_of l (may_save_at z w)
  unfolding store_of read_tail_of
  may_save-word w h = rw (← e) (masks-word z.writers l (tail_at z + 1 + z.sites) w h)

-- ---- single words

module _ (z : Counts) (l : List ℕ) where
  pub held_word : (at k : ℕ) → k < z.keys
      → held (read_place z l at k) ≡ leb 1 (read_word_of l (key_at z at k))
  unfolding read_version held
  held_word at k h = rw (place_at_lem z l at k h)

  -- A count in row d of the version at an index.
  pub count_word : (at d w : ℕ) → d < z.keys → w < z.writers
      → (read_version z l at).past d w ≡ read_word_of l (row_at z at d + w)
  unfolding read_version read_past_of read_clock row_at
  count_word at d w h i =
      ap (λ (c : Clock). c w)
      (upto_in z.keys (λ w. 0) (λ d. read_clock z l (at + past_offset + d * z.writers)) d h)
      ∙ upto_in z.writers 0 (λ w. read_word_of l (at + past_offset + d * z.writers + w * 1)) w i
      ∙ ap (read_word_of l) (omega arith)

  -- Row d of key k of the place at an index.
  pub row_word : (at k d w : ℕ) → k < z.keys → d < z.keys → w < z.writers
      → (read_place z l at k).past d w ≡ clock_at l (row_at z (key_at z at k) d) w
  unfolding clock_at
  row_word at k d w h i j = rw (place_at_lem z l at k h) (count_word (key_at z at k) d w i j)

  pub present-word : (at k d : ℕ) → k < z.keys → d < z.keys
      → present z.writers ((read_place z l at k).past d)
      ≡ present z.writers (clock_at l (row_at z (key_at z at k) d))
  present-word at k d h i =
      present-same z.writers ((read_place z l at k).past d) (clock_at l
      (row_at z (key_at z at k) d))
      (λ w j. row_word at k d w h i j)

-- Job i of the jobs at an index.
pub job-at : (l : List ℕ) (at i : ℕ) → i < max_jobs → read_jobs l at i ≡ read_job l (at + i *
    job_size)
unfolding read_jobs
job-at l at i h = upto_in max_jobs no_job (λ i. read_job l (at + i * job_size)) i h
