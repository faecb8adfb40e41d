-- Where pasts and their rows lie in a buffer, and what their words say.
-- past-..: a past at an index. key-past, writer-past: that of a version, of a writer.
-- covered-word: one row against the master's. run-..: a run. every-key: the mask of all keys.
-- Assumes nothing.
use mathlib.Core.Path.{◌≡◌, refl, sym, ap, ◌∙◌}
use mathlib.Core.Bool.{Bool, So, ◌&&◌}
use mathlib.Core.List.{List}
use Prim.Native.Nat.{ℕ, ◌+◌, ◌*◌, ◌≤◌, ◌<◌}
use native.Mathlib.Omega.{arith}
use lib.Dec.{leb}
use Rattle.words.specs.Tests.{Items, all_below}
use Rattle.words.proofs.Bools.{same_test}
use Rattle.words.proofs.Tests.{all-at, all_same}
use Rattle.words.proofs.Lists.{upto_in}
use Rattle.masks.specs.Mask.{test_bit}
use Rattle.clock.specs.Clock.{Clock, standing, covering, dominates, clock_at}
use Rattle.clock.proofs.Standings.{standing-same}
use Rattle.sizes.specs.declared.Counts.{Counts}
use Rattle.sizes.specs.Bounds.{max_keys, past_offset, writer_past_offset, Ranged, version_size, writer_size, writer_at, run_at_of, snapshot_at, key_at, row_at, past_row_at}
use Rattle.sizes.specs.Runs.{max_jobs, jobs_offset, plan_offset}
use Rattle.sizes.proofs.Offsets.{largest, ordered, writer-lies, key-lies, past-row-lies}
use Rattle.model.specs.Algebra.{Place, everything}
use Rattle.model.specs.Version.{Version, versions}
use Rattle.model.specs.Calls.Admit.{each_branch}
use Rattle.model.proofs.Cuts.{needs_met-at, needs_met-intro}
use Rattle.model.proofs.Formed.{well-out}
use Rattle.model.proofs.Sufficing.{run-jobs}
use Rattle.layout.specs.Reading.{read_word_of, read_clock, read_past_of, read_version, read_place, read_jobs, read_run, store_of}
use Rattle.layout.proofs.Places.{place_at_lem}
use Rattle.layout.proofs.Readings.{row_word, run_in}
use Rattle.layout.proofs.Follow.{form-fine}
use Rattle.version.specs.Places.{Area}
use Rattle.version.proofs.Areas.{key_in}
use Rattle.form.specs.Parts.{StoreArea, FormWith, reads_of}
use Rattle.form.proofs.Known.{form-counts}
use Rattle.form.proofs.Snapshots.{test-plan}
use Rattle.admit.specs.Parts.{PastArea, row_within, rows_covered, numbers_within, place_taken, run_taken}

-- ---- where they lie

pub past-row_in : (len : ℕ) (z : Counts) (at : ℕ) → PastArea len z at → (d : ℕ) → d < z.keys
    → past_row_at z at d + z.writers ≤ len
past-row_in len z at A d h = omega (arith, (past-row-lies z at d h).ends, A.fits)

pub key-past : (len : ℕ) (z : Counts) (at : ℕ) → Area len z at → (k : ℕ) → k < z.keys
    → PastArea len z (key_at z at k + past_offset)
unfolding version_size
key-past len z at A k h =
    let m = largest z A.ranged in
    let e = key-lies z at k h in
    record {
      ranged = A.ranged;
      low = omega (arith, A.low);
      fits = omega (arith, key_in len z at A k h);
    }

module _ (len : ℕ) (z : Counts) (A : StoreArea len z) (w : ℕ) (h : w < z.writers) where
  pub writer-past : PastArea len z (writer_at z w + writer_past_offset)
  unfolding writer_size
  writer-past =
      let m = largest z A.ranged in
      let o = ordered z A.ranged in
      let e = writer-lies z w h in
      record {
        ranged = A.ranged;
        low = omega arith;
        fits = omega (arith, A.fits);
      }

  pub writer_in : writer_at z w < len
  unfolding writer_size
  writer_in =
      let m = largest z A.ranged in
      let o = ordered z A.ranged in
      let e = writer-lies z w h in omega (arith, A.fits)

-- ---- what their words say

module _ (z : Counts) (l : List ℕ) where
  pub past_word : (at d w : ℕ) → d < z.keys → w < z.writers
      → read_past_of z l at d w ≡ clock_at l (past_row_at z at d) w
  unfolding read_past_of read_clock past_row_at clock_at
  past_word at d w h i =
      ap (λ (c : Clock). c w)
      (upto_in z.keys (λ w. 0) (λ d. read_clock z l (at + d * z.writers)) d h)
      ∙ upto_in z.writers 0 (λ w. read_word_of l (at + d * z.writers + w * 1)) w i
      ∙ ap (read_word_of l) (omega arith)

  -- Row d of the past at an index, against the master's own.
  pub covered-word : (master at d : ℕ) → d < z.keys
      → covering (standing z.writers (clock_at l (row_at z (key_at z master d) d))
      (clock_at l (past_row_at z at d)))
      ≡ dominates z.writers ((read_place z l master d).past d) (read_past_of z l at d)
  unfolding dominates
  covered-word master at d h =
      ap covering
      (standing-same z.writers (clock_at l (row_at z (key_at z master d) d))
      ((read_place z l master d).past d) (clock_at l (past_row_at z at d)) (read_past_of z l at d)
      (λ w i. sym (row_word z l master d d w h h i)) (λ w i. sym (past_word at d w h i)))

  -- The master's own row of key d, against the writers' counts.
  pub within_word : (f : ℕ → ℕ) (master d : ℕ) → d < z.keys
      → row_within z f (clock_at l (row_at z (key_at z master d) d))
      ≡ row_within z f ((read_place z l master d).past d)
  unfolding row_within
  within_word f master d h =
      all_same z.writers _ _ (λ u i.
      ap (λ (x : ℕ). leb x (f u)) (sym (row_word z l master d d u h h i)))

  pub version-past : (at k : ℕ) → k < z.keys
      → (read_place z l at k).past ≡ read_past_of z l (key_at z at k + past_offset)
  unfolding read_version
  version-past at k h = rw (place_at_lem z l at k h)

  pub version-number : (at k : ℕ) → k < z.keys
      → (read_place z l at k).issue ≡ read_word_of l (key_at z at k)
  unfolding read_version
  version-number at k h = rw (place_at_lem z l at k h)

-- ---- runs

-- The mask of all that its jobs read is its plan.
pub run-plan : (z : Counts) (l : List ℕ) (r : ℕ) (m : Place Version) (last : ℕ)
    → let at = run_at_of z r in
    (read_run z l at).jobs ≤ max_jobs
    → let S = test_bit
    (reads_of (read_word_of l (at + jobs_offset)) (read_jobs l (at + plan_offset)) 255) in
    place_taken z m last S (read_place z l (snapshot_at z r 0))
    && place_taken z m last S (read_place z l (snapshot_at z r 1))
    ≡ run_taken z m last (read_run z l at)
unfolding run_taken each_branch read_run snapshot_at
run-plan z l r m last h =
    let at = run_at_of z r in
    ap (λ (S : Items). place_taken z m last S (read_place z l (snapshot_at z r 0))
    && place_taken z m last S (read_place z l (snapshot_at z r 1)))
    (test-plan (read_word_of l (at + jobs_offset)) (read_jobs l (at + plan_offset)) h)

-- A run of a buffer in form.
pub run-most : (l : List ℕ) (z : Counts) → FormWith l z → (r : ℕ) → r < z.runs
    → (read_run z l (run_at_of z r)).jobs ≤ max_jobs
run-most l z H r h =
    let s = store_of l in
    let inside : r < s.counts.runs = rw (form-counts l z H) h in
    let formed = (well-out s (form-fine l H.form).formed).run r inside in
    rw (← run_in l z H.counts r h) (run-jobs s.counts (s.run r) formed)

-- ---- the mask of all keys

every : So (all_below max_keys (test_bit 4294967295))
unfolding all_below test_bit
every = refl

pub every-key : (z : Counts) (master : Place Version) (last : ℕ) (p : Place Version) → Ranged z
    → place_taken z master last (test_bit 4294967295) p ≡ place_taken z master last everything p
unfolding place_taken
every-key z master last p R =
    let alg = versions z.writers in
    let K = z.keys in
    let all : Items = test_bit 4294967295 in
    let bit : (k : ℕ) → k < K → So (all k) =
    λ k h. all-at max_keys all every k (omega (arith, R.keys-high)) in
    ap (λ (b : Bool). rows_covered z master p && (numbers_within z last p && b))
    (same_test
    (λ s. needs_met-intro alg K everything p (λ k d h i _ _.
    needs_met-at alg K all p s k d h i (bit k h) (bit d i)))
    (λ s. needs_met-intro alg K all p (λ k d h i _ _.
    needs_met-at alg K everything p s k d h i refl refl)))
