-- A store of words into one run of a written store, as a change of the store.
-- put-run: the whole. put-..: words of it, in its front or its rest. with..: the run with them.
-- run-twice: a change, and another one.
-- Assumes nothing.
use mathlib.Core.Path.{◌≡◌, refl, sym, ap, ◌∙◌}
use mathlib.Core.List.{List, [], ◌∷◌, ◌++◌}
use Prim.Native.Nat.{ℕ, ◌+◌, ◌≤◌, ◌<◌}
use native.Mathlib.Nat.{add-zero}
use native.Mathlib.Omega.{arith}
use lib.Dec.{eqb}
use lib.ListN.{length, set}
use lib.Seq.{sets}
use Rattle.words.proofs.Bools.{test}
use Rattle.words.proofs.Lists.{put_at_same}
use Rattle.words.proofs.Stores.{sets_behind, sets-all}
use Rattle.sizes.specs.Bounds.{run_front, run_rest, run_size, run_at_of, mark_at, read_at_of, snapshot_at}
use Rattle.sizes.specs.Runs.{done_offset, read_offset, snapshot_offset, second_read_offset, second_offset}
use Rattle.model.specs.Algebra.{Place}
use Rattle.model.specs.Version.{Version}
use Rattle.model.specs.Store.{Branch, Run, branch_of, Store, run_with, with_run, with_state, with_snapshot, with_job_done}
use Rattle.layout.specs.Words.{place_words, jobs_words, front_words, rest_words, run_words, runs_words}
use Rattle.layout.specs.Buffer.{written}
use Rattle.layout.proofs.Codec.{into-first, into-rest}
use Rattle.layout.proofs.Jobs.{jobs-laws}
use Rattle.layout.proofs.Parts.{place-laws}
use Rattle.layout.proofs.Runs.{front-laws, rest-laws, run-laws}
use Rattle.layout.proofs.Views.{put-row-part, with_runs, runs-area}
use Rattle.layout.proofs.Updates.{put-twice}

-- ---- a whole run

put-run-part : (s : Store) (l : List ℕ) (r i : ℕ) (x : List ℕ) (y : Run)
    → r < s.counts.runs → i + length x ≤ run_size s.counts
    → sets (run_words s.counts (s.run r)) i x ≡ run_words s.counts y
    → sets (written s l) (run_at_of s.counts r + i) x ≡ written (with_run s r y) l
unfolding with_run run_at_of runs_words
put-run-part s l = put-row-part (run-laws s.counts) (runs-area s l) s.run

pub put-run : (s : Store) (l : List ℕ) (r : ℕ) (y : Run) → r < s.counts.runs
    → sets (written s l) (run_at_of s.counts r) (run_words s.counts y) ≡ written (with_run s r y) l
put-run s l r y h =
    let z = s.counts in
    let L = run-laws z in
    let x = s.run r in
    let e : run_at_of z r ≡ run_at_of z r + 0 = omega arith in
    rw e (put-run-part s l r 0 (run_words z y) y h (omega (arith, L.long y))
    (sets-all (run_words z x) (run_words z y) (L.long y ∙ sym (L.long x))))

-- ---- one change after another, and one part changed

-- A run changed twice.
pub run-twice : (s : Store) (r : ℕ) (x y : Run) → with_run (with_run s r x) r y ≡ with_run s r y
unfolding with_run
run-twice s r x y = ap (with_runs s) (put-twice s.run r x y)

-- Another branch n, done mask or mark.
abbrev pub with_branch : Run → ℕ → Branch → Run
with_branch a n b = with_job_done a n a.done b

abbrev pub with_done : Run → ℕ → Run
with_done a x = run_with a a.state x a.branch a.mark a.second

abbrev pub with_mark : Run → ℕ → Run
with_mark a x = run_with a a.state a.done a.branch x a.second

-- ---- words of a run

-- Of its front: the rest stays.
put_front : (s : Store) (l : List ℕ) (r i : ℕ) (x : List ℕ) (y : Run)
    → r < s.counts.runs → i + length x ≤ run_front s.counts
    → sets (front_words s.counts (s.run r)) i x ≡ front_words s.counts y
    → rest_words s.counts (s.run r) ≡ rest_words s.counts y
    → sets (written s l) (run_at_of s.counts r + i) x ≡ written (with_run s r y) l
unfolding run_size run_words
put_front s l r i x y h j e f =
    let z = s.counts in
    put-run-part s l r i x y h (omega arith)
    (into-first (front-laws z) (rest-laws z) (s.run r) y i x j e f)

-- Of its rest: the front stays.
pub put_rest : (s : Store) (l : List ℕ) (r i : ℕ) (x : List ℕ) (y : Run)
    → r < s.counts.runs → i + length x ≤ run_rest s.counts
    → front_words s.counts (s.run r) ≡ front_words s.counts y
    → sets (rest_words s.counts (s.run r)) i x ≡ rest_words s.counts y
    → sets (written s l) (run_at_of s.counts r + (run_front s.counts + i)) x
    ≡ written (with_run s r y) l
unfolding run_size run_words
put_rest s l r i x y h j e f =
    let z = s.counts in
    put-run-part s l r (run_front z + i) x y h (omega arith)
    (into-rest (front-laws z) (rest-laws z) (s.run r) y i x j e f)

pub put-state : (s : Store) (l : List ℕ) (r x : ℕ) → r < s.counts.runs
    → set (written s l) (run_at_of s.counts r) x ≡ written (with_run s r (with_state (s.run r) x))
    l
unfolding with_state
put-state s l r x h =
    let e : run_at_of s.counts r ≡ run_at_of s.counts r + 0 = omega arith in
    rw e (put_front s l r 0 (x ∷ []) (with_state (s.run r) x) h (omega arith) refl refl)

-- The snapshot of branch 0.
pub put-snapshot : (s : Store) (l : List ℕ) (r : ℕ) (p : Place Version) → r < s.counts.runs
    → sets (written s l) (snapshot_at s.counts r 0) (place_words s.counts p)
    ≡ written (with_run s r (with_snapshot (s.run r) p)) l
unfolding with_snapshot snapshot_at
put-snapshot s l r p h =
    let z = s.counts in
    let a = s.run r in
    let L = place-laws z in
    let new = place_words z p in
    let before = a.state ∷ a.jobs ∷ a.done ∷ a.branch.read ∷ jobs_words a.job in
    let old = place_words z a.branch.snapshot in
    let e : length before ≡ snapshot_offset = omega (arith, jobs-laws.long a.job) in
    let same : length new ≡ length old = L.long p ∙ sym (L.long a.branch.snapshot) in
    put_front s l r snapshot_offset new (with_snapshot a p) h (omega (arith, L.long p))
    (ap (λ (i : ℕ). sets (front_words z a) i new) (sym e ∙ sym (add-zero (length before)))
    ∙ sets_behind before old new 0 (omega arith)
    ∙ ap (λ (t : List ℕ). before ++ t) (sets-all old new same))
    refl

-- The second snapshot.
put_second : (s : Store) (l : List ℕ) (r : ℕ) (p : Place Version) → r < s.counts.runs
    → sets (written s l) (snapshot_at s.counts r 1) (place_words s.counts p)
    ≡ written (with_run s r (with_branch (s.run r) 1 (record {
      read = (s.run r).second.read;
      snapshot = p;
    }))) l
unfolding with_job_done snapshot_at
put_second s l r p h =
    let z = s.counts in
    let a = s.run r in
    let L = place-laws z in
    let new = place_words z p in
    let before = a.mark ∷ a.second.read ∷ [] in
    let old = place_words z a.second.snapshot in
    let same : length new ≡ length old = L.long p ∙ sym (L.long a.second.snapshot) in
    put_rest s l r second_offset new
    (with_branch a 1 (record { read = a.second.read; snapshot = p })) h
    (omega (arith, L.long p)) refl
    (sets_behind before old new 0 (omega arith)
    ∙ ap (λ (t : List ℕ). before ++ t) (sets-all old new same))

-- The snapshot of branch n.
pub put-card : (s : Store) (l : List ℕ) (r n : ℕ) (p : Place Version) → r < s.counts.runs
    → sets (written s l) (snapshot_at s.counts r n) (place_words s.counts p)
    ≡ written (with_run s r (with_branch (s.run r) n (record {
      read = (branch_of n (s.run r)).read;
      snapshot = p;
    }))) l
unfolding with_job_done with_snapshot snapshot_at
put-card s l r n p h =
    test (eqb n 0) (λ y. rw y (put-snapshot s l r p h)) (λ y. rw y (put_second s l r p h))

-- ---- masks and mark

put-done : (s : Store) (l : List ℕ) (r x : ℕ) → r < s.counts.runs
    → set (written s l) (run_at_of s.counts r + done_offset) x
    ≡ written (with_run s r (with_done (s.run r) x)) l
put-done s l r x h =
    put_front s l r done_offset (x ∷ []) (with_done (s.run r) x) h (omega arith) refl refl

-- The read mask of branch n.
pub put-read : (s : Store) (l : List ℕ) (r n x : ℕ) → r < s.counts.runs
    → set (written s l) (read_at_of s.counts r n) x
    ≡ written (with_run s r (with_branch (s.run r) n (record {
      read = x;
      snapshot = (branch_of n (s.run r)).snapshot;
    }))) l
unfolding with_job_done read_at_of
put-read s l r n x h =
    let a = s.run r in
    test (eqb n 0)
    (λ y. rw y (put_front s l r read_offset (x ∷ [])
    (with_branch a 0 (record { read = x; snapshot = a.branch.snapshot })) h (omega arith) refl
    refl))
    (λ y. rw y (put_rest s l r second_read_offset (x ∷ [])
    (with_branch a 1 (record { read = x; snapshot = a.second.snapshot })) h (omega arith) refl
    refl))

-- The done mask, and the read mask of branch n.
pub put-masks : (s : Store) (l : List ℕ) (r n x y : ℕ) → r < s.counts.runs
    → set (set (written s l) (run_at_of s.counts r + done_offset) x) (read_at_of s.counts r n) y
    ≡ written (with_run s r (with_job_done (s.run r) n x (record {
      read = y;
      snapshot = (branch_of n (s.run r)).snapshot;
    }))) l
unfolding with_job_done with_run
put-masks s l r n x y h =
    let a = s.run r in
    let t = with_run s r (with_done a x) in
    let here : t.run r ≡ with_done a x = put_at_same s.run r (with_done a x) in
    ap (λ (w : List ℕ). set w (read_at_of s.counts r n) y) (put-done s l r x h)
    ∙ put-read t l r n y h
    ∙ ap (λ (b : Run). written (with_run t r (with_branch b n (record {
      read = y;
      snapshot = (branch_of n b).snapshot;
    }))) l) here
    ∙ ap (λ (u : Store). written u l) (run-twice s r (with_done a x) _)

pub put-mark : (s : Store) (l : List ℕ) (r x : ℕ) → r < s.counts.runs
    → set (written s l) (mark_at s.counts r) x
    ≡ written (with_run s r (with_mark (s.run r) x)) l
unfolding mark_at
put-mark s l r x h =
    let z = s.counts in
    let e : run_at_of z r + run_front z ≡ run_at_of z r + (run_front z + 0) = omega arith in
    rw e (put_rest s l r 0 (x ∷ []) (with_mark (s.run r) x) h (omega arith) refl refl)
