-- What fork and join store, as changes of a run of any store.
-- run-then: a change of a run, and another one. branch_with: a branch of its parts. branch-stored,
-- second-stored: a branch, and the second with the mark. place-copied, zeros-place: a place copied
-- and cleared.
-- Assumes nothing.
use mathlib.Core.Path.{◌≡◌, sym, ap, ◌∙◌, fun_ext}
use mathlib.Core.List.{List, []}
use Prim.Native.Nat.{ℕ, ◌+◌, ◌<◌}
use lib.Dec.{eqb}
use lib.ListN.{get_or, set}
use lib.Seq.{sets}
use Rattle.words.specs.Words.{put}
use Rattle.words.specs.Lists.{upto}
use Rattle.words.proofs.Bools.{test}
use Rattle.words.proofs.Lists.{put_at_same}
use Rattle.sizes.specs.declared.Counts.{Counts}
use Rattle.sizes.specs.Bounds.{place_size, mark_at, read_at_of, snapshot_at}
use Rattle.model.specs.Algebra.{Place}
use Rattle.model.specs.Version.{Version, unheld}
use Rattle.model.specs.Store.{Branch, Run, branch_of, Store, empty_place, run_with, with_run, with_job_done}
use Rattle.layout.specs.Words.{place_words}
use Rattle.layout.specs.Reading.{read_version, read_past_of, read_clock, read_place}
use Rattle.layout.specs.Stored.{put_place}
use Rattle.layout.specs.Buffer.{written}
use Rattle.layout.proofs.Parts.{place-laws}
use Rattle.layout.proofs.Merges.{put-window}
use Rattle.layout.proofs.RunUpdates.{with_branch, with_mark, run-twice, put-card, put-read, put-mark}
use Rattle.version.proofs.Versions.{upto_all, nothing_read}

-- ---- branches

pub run-then : (s : Store) (l : List ℕ) (r : ℕ) (x : Run) (f : Run → Run)
    → written (with_run (with_run s r x) r (f ((with_run s r x).run r))) l
    ≡ written (with_run s r (f x)) l
unfolding with_run
run-then s l r x f =
    ap (λ (b : Run). written (with_run (with_run s r x) r (f b)) l) (put_at_same s.run r x)
    ∙ ap (λ (t : Store). written t l) (run-twice s r x (f x))

-- A read mask and a snapshot as a branch.
abbrev pub branch_with : ℕ → Place Version → Branch
branch_with x p = record { read = x; snapshot = p }

-- A run whose branch n was changed twice.
branch-twice : (a : Run) (n : ℕ) (b c : Branch)
    → with_branch (with_branch a n b) n c ≡ with_branch a n c
unfolding with_job_done
branch-twice a n b c = test (eqb n 0) (λ y. rw y) (λ y. rw y)

branch_back : (a : Run) (n : ℕ) (b : Branch) → branch_of n (with_branch a n b) ≡ b
unfolding with_job_done
branch_back a n b = test (eqb n 0) (λ y. rw y) (λ y. rw y)

-- The snapshot of branch n, then its read mask.
pub branch-stored : (s : Store) (l : List ℕ) (r n : ℕ) (p : Place Version) (x : ℕ)
    → r < s.counts.runs → let z = s.counts in
    set (put_place z (written s l) (snapshot_at z r n) p) (read_at_of z r n) x
    ≡ written (with_run s r (with_branch (s.run r) n (branch_with x p))) l
unfolding with_run
branch-stored s l r n p x h =
    let a = s.run r in
    let b = with_branch a n (branch_with (branch_of n a).read p) in
    let next : Run → Run = λ c. with_branch c n (branch_with x (branch_of n c).snapshot) in
    ap (λ (w : List ℕ). set w (read_at_of s.counts r n) x) (put-card s l r n p h)
    ∙ put-read (with_run s r b) l r n x h
    ∙ run-then s l r b next
    ∙ ap (λ (c : Branch). written (with_run s r (with_branch b n (branch_with x c.snapshot))) l)
    (branch_back a n (branch_with (branch_of n a).read p))
    ∙ ap (λ (c : Run). written (with_run s r c) l) (branch-twice a n _ (branch_with x p))

-- The second branch, then the mark.
pub second-stored : (s : Store) (l : List ℕ) (r : ℕ) (p : Place Version) (x m : ℕ)
    → r < s.counts.runs → let z = s.counts in
    let a = s.run r in
    set (set (put_place z (written s l) (snapshot_at z r 1) p) (read_at_of z r 1) x) (mark_at z r)
    m
    ≡ written (with_run s r (run_with a a.state a.done a.branch m (branch_with x p))) l
unfolding with_run with_job_done
second-stored s l r p x m h =
    let b = with_branch (s.run r) 1 (branch_with x p) in
    ap (λ (w : List ℕ). set w (mark_at s.counts r) m) (branch-stored s l r 1 p x h)
    ∙ put-mark (with_run s r b) l r m h
    ∙ run-then s l r b (λ c. with_mark c m)

-- ---- places

pub place-copied : (z : Counts) (l : List ℕ) (dst src n : ℕ) → n ≡ place_size z
    → put l dst n (λ i. get_or l (src + i) 0) ≡ put_place z l dst (read_place z l src)
place-copied z l dst src n e =
    ap (λ (n : ℕ). put l dst n (λ i. get_or l (src + i) 0)) e
    ∙ put-window l l dst src (place_size z) ∙ ap (sets l dst) (sym ((place-laws z).round l src))

no_place : (z : Counts) → read_place z [] 0 ≡ empty_place
unfolding read_place read_version read_past_of read_clock
no_place z =
    ap (λ (v : Version). upto z.keys unheld (λ k. v)) (nothing_read z)
    ∙ fun_ext (λ k. upto_all z.keys unheld k)

pub zeros-place : (z : Counts) (l : List ℕ) (at n : ℕ) → n ≡ place_size z
    → put l at n (λ _. 0) ≡ put_place z l at empty_place
zeros-place z l at n e =
    ap (λ (n : ℕ). put l at n (λ _. 0)) e
    ∙ put-window l [] at 0 (place_size z)
    ∙ ap (sets l at) (sym ((place-laws z).round [] 0) ∙ ap (place_words z) (no_place z))
