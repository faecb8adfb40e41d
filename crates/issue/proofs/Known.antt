-- What is known of a run and a writer of a buffer in form: single words of them.
-- count_word, jobs-word, done-word, read_word, mark-word: where a number stands.
-- jobs-high: a run has 8 jobs at most. run-words, writer-words: they lie in the buffer.
-- barred-word: a mask against the one of what a writer may save.
-- Assumes nothing.
use mathlib.Core.Path.{◌≡◌, ap}
use mathlib.Core.Bool.{not}
use mathlib.Core.List.{List}
use Prim.Native.Nat.{ℕ, ◌+◌, ◌^◌, ◌≤◌, ◌<◌}
use native.Mathlib.Omega.{arith}
use lib.Dec.{eqb}
use lib.ListN.{length}
use Rattle.words.proofs.Bools.{test, eqb-eq, eqb-ne}
use Rattle.masks.specs.Mask.{test_bit, without}
use Rattle.masks.proofs.Sets.{without-some}
use Rattle.sizes.specs.declared.Counts.{Counts}
use Rattle.sizes.specs.Bounds.{max_total, writer_size, run_size, writer_at, may_save_at, run_at_of, mark_at}
use Rattle.sizes.specs.Runs.{max_jobs}
use Rattle.sizes.proofs.Offsets.{ordered, writer-lies, run_lies, branch-mark-lies}
use Rattle.model.specs.Tail.{barred}
use Rattle.model.proofs.Plans.{plan-out}
use Rattle.layout.specs.Reading.{read_word_of, read_run, read_writer, store_of}
use Rattle.layout.proofs.Runs.{run-laws}
use Rattle.layout.proofs.Readings.{writer_in, mark_in, may_save-word}
use Rattle.form.specs.Parts.{FormWith}
use Rattle.form.proofs.Known.{form-area}
use Rattle.status.proofs.Freed.{free-is}
use Rattle.status.proofs.Known.{run-known}

module _ (l : List ℕ) (z : Counts) (H : FormWith l z) where
  pub count_word : (w : ℕ) → w < z.writers
      → ((store_of l).writer w).count ≡ read_word_of l (writer_at z w)
  unfolding read_writer
  count_word w h = rw (writer_in l z H.counts w h)

  pub writer-words : (w : ℕ) → w < z.writers → writer_at z w < length l
  unfolding writer_size
  writer-words w h =
      let A = form-area l z H in
      let o = ordered z A.ranged in
      let x = writer-lies z w h in
      omega (arith, A.fits)

  -- A key of S is one that the writer may not save.
  pub barred-word : (w S : ℕ) → w < z.writers → S < 2 ^ z.keys
      → not (eqb (without S (read_word_of l (may_save_at z w))) 0)
      ≡ barred z.keys ((store_of l).tail.may_save w) (test_bit S)
  unfolding barred
  barred-word w S h b =
      rw (may_save-word l z H.counts w h)
      (without-some z.keys S (read_word_of l (may_save_at z w)) b)

  module _ (r : ℕ) (h : r < z.runs) where
    pub jobs-word : ((store_of l).run r).jobs ≡ read_word_of l (run_at_of z r + 1)
    unfolding read_run
    jobs-word = rw (run-known l z r H h).run

    pub done-word : ((store_of l).run r).done ≡ read_word_of l (run_at_of z r + 2)
    unfolding read_run
    done-word = rw (run-known l z r H h).run (ap (read_word_of l) (omega arith))

    pub read_word : ((store_of l).run r).branch.read ≡ read_word_of l (run_at_of z r + 3)
    unfolding read_run
    read_word = rw (run-known l z r H h).run (ap (read_word_of l) (omega arith))

    -- The mark, and where it stands.
    pub mark-word : ((store_of l).run r).mark ≡ read_word_of l (mark_at z r)
    mark-word = mark_in l z H.counts r h

    pub mark-index : (mark_at z r < max_total) × (mark_at z r < length l)
    mark-index =
        let A = form-area l z H in
        let o = ordered z A.ranged in
        let x = run_lies z r h in
        let y = branch-mark-lies z r in
        (omega arith, omega (arith, A.fits))

    pub run-words : run_at_of z r + 28 ≤ length l
    unfolding run_size
    run-words = omega (arith, (run-known l z r H h).area.fits)

    pub jobs-high : ((store_of l).run r).jobs ≤ max_jobs
    jobs-high =
        let K = run-known l z r H h in
        let a = read_run z l (run_at_of z r) in
        rw K.run (test (eqb a.state 0)
        (λ t. rw (free-is z a ((run-laws z).fits l (run_at_of z r)) K.formed
        (eqb-eq a.state 0 t)) (omega arith))
        (λ t. let used = eqb-ne a.state 0 t in
        (plan-out z a (omega arith) K.formed).jobs.high))
