-- What the jobs of a run read, as masks.
-- reads-..: the union that the code computes. jobs-test, masks-test: what the code tests.
-- read_low: what a branch has read.
-- Assumes nothing.
use mathlib.Core.Path.{◌≡◌, refl, sym, ap, ◌∙◌}
use mathlib.Core.Bool.{Bool, true, false, So, ◌&&◌, ◌||◌}
use mathlib.Core.List.{List}
use Prim.Native.Nat.{ℕ, ◌+◌, ◌≤◌, ◌<◌, ◌^◌}
use native.Mathlib.Omega.{arith}
use lib.Bits.{bit_or, bit_and, and_le_l}
use lib.Dec.{eqb, ltb}
use lib.ListN.{get_or}
use Rattle.words.specs.Numbers.{when}
use Rattle.words.specs.Tests.{all_below}
use Rattle.words.proofs.Numbers.{when-le}
use Rattle.words.proofs.Tests.{any_same}
use Rattle.masks.specs.Mask.{test_bit, mask_below, union_below}
use Rattle.masks.proofs.Bits.{test-or, test-and, test-when, mask-ext}
use Rattle.masks.proofs.Sets.{union_more, mask_lt, test-mask, mask-ext-below, union-lt, test-union}
use Rattle.sizes.specs.Bounds.{between, run_front}
use Rattle.sizes.specs.Runs.{max_jobs, jobs_offset, done_offset, read_offset, plan_offset, second_read_offset, job_at_of}
use Rattle.sizes.specs.declared.Counts.{Counts}
use Rattle.model.specs.Form.{jobs_formed, masks_formed}
use Rattle.model.specs.Store.{Job, Run, branch_of, done_reads}
use Rattle.layout.specs.Reading.{read_jobs, read_run}
use Rattle.model.proofs.Branches.{on_both}
use Rattle.model.proofs.Plans.{jobs-out, valid-out, Masks, read_both}
use Rattle.form.specs.Parts.{job_formed, reads_of}
use Rattle.form.proofs.Runs.{job-words, run-words}

-- One job more.
pub reads-step : (l : List ℕ) (at mask j : ℕ) → j < max_jobs
    → reads_of (j + 1) (read_jobs l at) mask
    ≡ bit_or (reads_of j (read_jobs l at) mask) (when (test_bit mask j)
    (get_or l (job_at_of at j + 1) 0))
unfolding reads_of
reads-step l at mask j h =
    let f : ℕ → ℕ = λ j. when (test_bit mask j) (read_jobs l at j).reads in
    union_more f j ∙ ap (λ (a : Job). bit_or (union_below j f) (when (test_bit mask j) a.reads))
    (job-words l at j h)

-- The key k is read by a job of the mask.
pub test-reads : (n : ℕ) (job : ℕ → Job) (mask k : ℕ)
    → test_bit (reads_of n job mask) k ≡ done_reads n job mask k
unfolding reads_of done_reads
test-reads n job mask k =
    test-union n (λ j. when (test_bit mask j) (job j).reads) k
    ∙ any_same n (λ j. test_bit (when (test_bit mask j) (job j).reads) k)
    (λ j. test_bit mask j && test_bit (job j).reads k)
    (λ j _. test-when (test_bit mask j) (job j).reads k)

-- Valid jobs read keys below K only.
pub reads-done : (z : Counts) (a : Run) → So (jobs_formed z a) → (mask : ℕ)
    → reads_of a.jobs a.job mask ≡ mask_below z.keys (done_reads a.jobs a.job mask)
unfolding reads_of
reads-done z a p mask =
    let J = jobs-out z a p in
    let all = done_reads a.jobs a.job mask in
    mask-ext-below z.keys (reads_of a.jobs a.job mask) (mask_below z.keys all)
    (union-lt a.jobs (λ j. when (test_bit mask j) (a.job j).reads) z.keys
    (λ j h. omega (
      arith,
      (valid-out z j (a.job j) (J.valid j h)).reads,
      when-le (test_bit mask j) (a.job j).reads,
    )))
    (mask_lt z.keys all z.keys (omega arith))
    (λ k h. test-reads a.jobs a.job mask k ∙ sym (test-mask z.keys all k h))

-- ---- what a branch has read

-- A part of a union is no larger.
or-left-le : (a b : ℕ) → a ≤ bit_or a b
or-left-le a b =
    let e : bit_and (bit_or a b) a ≡ a =
    mask-ext _ _ (λ j. test-and (bit_or a b) a j ∙ ap (λ x. x && test_bit a j) (test-or a b j)
    ∙ bits (test_bit a j) (test_bit b j)) in
    omega (arith, and_le_l (bit_or a b) a)
  where
    bits : (x y : Bool) → (x || y) && x ≡ x
    bits true y = refl
    bits false true = refl
    bits false false = refl

or-right-le : (a b : ℕ) → b ≤ bit_or a b
or-right-le a b =
    let e : bit_and (bit_or a b) b ≡ b =
    mask-ext _ _ (λ j. test-and (bit_or a b) b j ∙ ap (λ x. x && test_bit b j) (test-or a b j)
    ∙ bits (test_bit a j) (test_bit b j)) in
    omega (arith, and_le_l (bit_or a b) b)
  where
    bits : (x y : Bool) → (x || y) && y ≡ y
    bits true true = refl
    bits true false = refl
    bits false true = refl
    bits false false = refl

-- Keys below K only.
pub read_low : (z : Counts) (a : Run) → Masks z a.jobs a.job a.done (read_both a) → (n : ℕ)
    → (branch_of n a).read < 2 ^ z.keys
read_low z a M n =
    let both : read_both a < 2 ^ z.keys =
    rw M.reads (mask_lt z.keys _ z.keys (omega arith)) in
    on_both (λ b. b.read < 2 ^ z.keys) a
    (omega (arith, both, or-left-le a.branch.read a.second.read))
    (omega (arith, both, or-right-le a.branch.read a.second.read)) n

-- ---- what the code tests is what is asked

module _ (z : Counts) (l : List ℕ) (at : ℕ) where
  pub jobs-test : let n = get_or l (at + jobs_offset) 0 in
      between max_jobs n && all_below max_jobs (λ i. job_formed z n i
      (read_jobs l (at + plan_offset) i))
      ≡ jobs_formed z (read_run z l at)
  unfolding jobs_formed job_formed
  jobs-test = rw (run-words z l at)

  -- There are 8 jobs at most.
  pub jobs-most : So (jobs_formed z (read_run z l at)) → get_or l (at + jobs_offset) 0 ≤ max_jobs
  unfolding read_run
  jobs-most p = (jobs-out z (read_run z l at) p).high

  -- front: what stands before the mark.
  pub masks-test : (front : ℕ) → front ≡ run_front z → So (jobs_formed z (read_run z l at))
      → let n = get_or l (at + jobs_offset) 0 in
      let done = get_or l (at + done_offset) 0 in
      let reads = reads_of n (read_jobs l (at + plan_offset)) done in
      ltb done (2 ^ n)
      && eqb (bit_or (get_or l (at + read_offset) 0) (get_or l (at + (front + second_read_offset))
      0))
      reads
      ≡ masks_formed z (read_run z l at)
  unfolding masks_formed
  masks-test front e p =
      let a = read_run z l at in rw (e, ← reads-done z a p a.done, run-words z l at)
