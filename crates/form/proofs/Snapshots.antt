-- The snapshot of a run by masks: the keys that it holds, the plan's and those read.
-- without-none: one mask within another. test-plan: the plan as a mask.
-- ..-test: what the code tests is what is asked.
-- Assumes nothing.
use mathlib.Core.Path.{◌≡◌, refl, sym, ap, ap₂, ◌∙◌, fun_ext}
use mathlib.Core.Bool.{Bool, true, false, not, So, ◌&&◌, ◌||◌, and-true, and-false}
use mathlib.Core.Logic.{◌≢◌}
use mathlib.Core.List.{List}
use Prim.Native.Nat.{ℕ, zero, suc, ◌+◌, ◌≤◌, ◌<◌, ◌^◌}
use native.Mathlib.Omega.{arith}
use lib.Dec.{eqb, leb}
use lib.ListN.{get_or}
use Rattle.words.specs.Tests.{Items, any_below, all_below}
use Rattle.words.proofs.Bools.{test, same_test, and_intro, and_left, and_right, ge-ltb, ne_eqb}
use Rattle.words.proofs.Tests.{any_same, all-intro, all-at, all_same}
use Rattle.masks.specs.Mask.{test_bit, mask_below, without}
use Rattle.masks.proofs.Bits.{test-without, without-lt}
use Rattle.masks.proofs.Sets.{mask_lt, test-mask, mask-none}
use Rattle.sizes.specs.Bounds.{run_front}
use Rattle.sizes.specs.Runs.{max_jobs, jobs_offset, done_offset, plan_offset}
use Rattle.sizes.specs.declared.Counts.{Counts}
use Rattle.model.specs.Algebra.{Place, implies}
use Rattle.model.specs.Form.{zero_job, place_formed, zero_branch, free_formed, jobs_formed, mark_formed, snapshot_formed, branches_formed}
use Rattle.model.specs.Store.{Job, Branch, Run, forked_mark, joined_mark, planned, done_reads}
use Rattle.model.specs.Version.{Version, held}
use Rattle.layout.specs.Reading.{read_word_of, read_jobs, read_place, read_run}
use Rattle.model.proofs.Branches.{snapshot_in, vacant-out, vacant-snapshot}
use Rattle.model.proofs.Plans.{jobs-out}
use Rattle.version.specs.Branches.{branch_at}
use Rattle.form.specs.Parts.{job_formed, reads_of}
use Rattle.form.proofs.Masks.{test-reads}
use Rattle.form.proofs.Runs.{run-words}

-- ---- tests of every number

both_below : (n : ℕ) (p q : Items)
    → all_below n p && all_below n q ≡ all_below n (λ i. p i && q i)
both_below n p q =
    let both : Items = λ i. p i && q i in
    same_test
    (λ s. all-intro n both (λ i h. and_intro
    (all-at n p (and_left (all_below n p) (all_below n q) s) i h)
    (all-at n q (and_right (all_below n p) (all_below n q) s) i h)))
    (λ s. and_intro
    (all-intro n p (λ i h. and_left (p i) (q i) (all-at n both s i h)))
    (all-intro n q (λ i h. and_right (p i) (q i) (all-at n both s i h))))

not-or : (a b : Bool) → not (a || b) ≡ not a && not b
not-or true b = refl
not-or false b = refl

none_below : (n : ℕ) (p : Items) → not (any_below n p) ≡ all_below n (λ i. not (p i))
unfolding any_below all_below
none_below zero p = refl
none_below (suc n) p = not-or (any_below n p) (p n) ∙ rw (none_below n p)

not-and-not : (a b : Bool) → not (a && not b) ≡ implies a b
not-and-not true true = refl
not-and-not true false = refl
not-and-not false b = refl

-- Each item of the mask a is in b.
without-none : (n a b : ℕ) → a < 2 ^ n
    → eqb (without a b) 0 ≡ all_below n (λ k. implies (test_bit a k) (test_bit b k))
without-none n a b h =
    mask-none n (without a b) (without-lt a b n h)
    ∙ none_below n (test_bit (without a b))
    ∙ all_same n (λ k. not (test_bit (without a b) k)) (λ k. implies (test_bit a k) (test_bit b k))
    (λ k _. ap not (test-without a b k) ∙ not-and-not (test_bit a k) (test_bit b k))

-- ---- a snapshot of a run that isn't free

-- 255 is the mask of 8 jobs.
every-job : So (all_below max_jobs (test_bit 255))
unfolding all_below test_bit
every-job = refl

-- The keys that are read by any job are the plan's.
pub test-plan : (n : ℕ) (job : ℕ → Job) → n ≤ max_jobs
    → test_bit (reads_of n job 255) ≡ planned n job
unfolding done_reads planned
test-plan n job h =
    fun_ext (λ k. test-reads n job 255 k
    ∙ any_same n (λ j. test_bit 255 j && test_bit (job j).reads k) (λ j. test_bit (job j).reads k)
    (λ j i. rw (all-at max_jobs (test_bit 255) every-job j (omega arith))))

-- The mask of the keys that a place holds.
abbrev held_mask : Counts → Place Version → ℕ
held_mask z p = mask_below z.keys (λ k. held (p k))

pub carried-test : (z : Counts) (a : Run) (b : Branch) → So (jobs_formed z a)
    → b.read < 2 ^ z.keys
    → let h = held_mask z b.snapshot in
    place_formed z b.snapshot && (eqb (without h (reads_of a.jobs a.job 255)) 0
    && eqb (without b.read h) 0)
    ≡ snapshot_formed z a b
unfolding snapshot_formed
carried-test z a b J low =
    let n = z.keys in
    let holds : Items = λ k. held (b.snapshot k) in
    let h = mask_below n holds in
    let plan = reads_of a.jobs a.job 255 in
    let most = (jobs-out z a J).high in
    let A : Items = λ k. implies (holds k) (planned a.jobs a.job k) in
    let B : Items = λ k. implies (test_bit b.read k) (holds k) in
    ap (λ (t : Bool). place_formed z b.snapshot && t)
    (ap₂ ◌&&◌
    (without-none n h plan (mask_lt n holds n (omega arith))
    ∙ all_same n (λ k. implies (test_bit h k) (test_bit plan k)) A
    (λ k i. rw (test-mask n holds k i, test-plan a.jobs a.job most)))
    (without-none n b.read h low
    ∙ all_same n (λ k. implies (test_bit b.read k) (test_bit h k)) B
    (λ k i. rw (test-mask n holds k i)))
    ∙ both_below n A B)

-- ---- a free run

-- Where there are no jobs, each is without words.
no-jobs : (z : Counts) (job : ℕ → Job)
    → all_below max_jobs (λ i. job_formed z 0 i (job i)) ≡ all_below max_jobs (λ i. zero_job
    (job i))
unfolding job_formed
no-jobs z job =
    all_same max_jobs (λ i. job_formed z 0 i (job i)) (λ i. zero_job (job i))
    (λ i _. rw (ge-ltb i 0 (omega arith)))

-- ---- what the code tests is what is asked

-- A second branch that is zero is in form.
zero-formed : (z : Counts) (a : Run) (mark : Bool)
    → let v = zero_branch z a.second in
    mark && v ≡ (mark && v) && snapshot_formed z a a.second
zero-formed z a mark =
    test (zero_branch z a.second)
    (λ y. rw (
      y,
      snapshot_in z a a.second
          (vacant-snapshot a.jobs a.job (vacant-out z a.second y)),
    ) (sym (and-true (mark && true))))
    (λ y. rw (y, and-false mark))

module _ (z : Counts) (l : List ℕ) (at : ℕ) where
  pub snapshot-test : (read card : ℕ) → So (jobs_formed z (read_run z l at))
      → read_word_of l read < 2 ^ z.keys
      → let p = read_place z l card in
      let plan = reads_of (get_or l (at + jobs_offset) 0) (read_jobs l (at + plan_offset)) 255 in
      place_formed z p
      && (eqb (without (held_mask z p) plan) 0
      && eqb (without (get_or l read 0) (held_mask z p)) 0)
      ≡ snapshot_formed z (read_run z l at) (branch_at z l (read_word_of l read) card)
  unfolding read_run
  snapshot-test read card J low =
      carried-test z (read_run z l at) (branch_at z l (read_word_of l read) card) J low

  -- The second branch, of a forked run and of another.
  pub forked-test : let a = read_run z l at in
      get_or l (at + run_front z) 0 ≡ forked_mark
      → snapshot_formed z a a.second ≡ mark_formed z a && snapshot_formed z a a.second
  unfolding mark_formed read_run
  forked-test e = rw e

  pub single-test : let a = read_run z l at in
      get_or l (at + run_front z) 0 ≢ forked_mark
      → leb (get_or l (at + run_front z) 0) joined_mark && zero_branch z a.second
      ≡ mark_formed z a && snapshot_formed z a a.second
  unfolding mark_formed read_run
  single-test n = rw (ne_eqb _ _ n)
      (zero-formed z (read_run z l at) (leb (get_or l (at + run_front z) 0) joined_mark))

  -- Both branches and the mark, as they are tested.
  pub branches-test : let a = read_run z l at in
      let b = snapshot_formed z a a.branch in
      let c = snapshot_formed z a a.second in
      b && (mark_formed z a && c) ≡ mark_formed z a && branches_formed z a
  unfolding branches_formed
  branches-test =
      let a = read_run z l at in
      turn (snapshot_formed z a a.branch) (mark_formed z a) (snapshot_formed z a a.second)
    where
      turn : (x y w : Bool) → x && (y && w) ≡ y && (x && w)
      turn true true w = refl
      turn true false w = refl
      turn false true w = refl
      turn false false w = refl

  pub free-test : let a = read_run z l at in
      eqb (get_or l (at + jobs_offset) 0) 0
      && (eqb (get_or l (at + done_offset) 0) 0
      && (all_below max_jobs (λ i. job_formed z 0 i (read_jobs l (at + plan_offset) i))
      && (zero_branch z a.branch
      && (eqb (get_or l (at + run_front z) 0) 0 && zero_branch z a.second))))
      ≡ free_formed z a
  unfolding free_formed
  free-test = rw (run-words z l at, no-jobs z (read_jobs l (at + plan_offset)))
