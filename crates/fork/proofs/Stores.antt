-- What fork and join store in a buffer in form, as changes of its run r.
-- read_held: what a branch has read is on its card. moved_at: what a join would move.
-- forked-left: what fork leaves. merged-left, joined-left: what join leaves.
-- Assumes nothing.
use mathlib.Core.Path.{◌≡◌, sym, ap, ap₂, subst, ◌∙◌}
use mathlib.Core.Bool.{false, So}
use mathlib.Core.List.{List}
use Prim.Native.Nat.{ℕ, ◌<◌}
use lib.Bits.{bit_or}
use lib.ListN.{get_or, set}
use Rattle.words.proofs.Bools.{test}
use Rattle.masks.specs.Mask.{test_bit, mask_below}
use Rattle.masks.proofs.Sets.{test-mask}
use Rattle.sizes.specs.declared.Counts.{Counts}
use Rattle.sizes.specs.Bounds.{mark_at, read_at_of, snapshot_at}
use Rattle.model.specs.Algebra.{Place}
use Rattle.model.specs.Version.{Version, unheld, held, merge}
use Rattle.model.specs.Store.{Run, forked_mark, joined_mark, branch_of, Store, empty_place, run_with, with_run, with_job_done}
use Rattle.model.specs.Stays.{moved_set}
use Rattle.model.specs.Form.{version_formed, zero_version, run_formed}
use Rattle.model.specs.Calls.Fork.{forked_run, joined_place, joined_branch, joined_run}
use Rattle.model.proofs.Merges.{merge-unheld-left, merge-unheld-right}
use Rattle.model.proofs.Formed.{well-out}
use Rattle.model.proofs.Branches.{Snapshot}
use Rattle.model.proofs.Plans.{run-branch}
use Rattle.layout.specs.Reading.{read_place, store_of}
use Rattle.layout.specs.Stored.{put_place}
use Rattle.layout.specs.Buffer.{written}
use Rattle.layout.proofs.Parts.{FitPlace, place-laws}
use Rattle.layout.proofs.Merges.{unheld-is}
use Rattle.layout.proofs.Places.{place-ext}
use Rattle.layout.proofs.Readings.{snapshot_in, read_in}
use Rattle.layout.proofs.Follow.{form-fine}
use Rattle.version.specs.Places.{choice}
use Rattle.version.specs.Branches.{branch_at, ReadHeld}
use Rattle.form.specs.Parts.{FormWith}
use Rattle.form.proofs.Known.{form-counts, form-again}
use Rattle.fork.specs.Branches.{merged_run}
use Rattle.fork.proofs.Changes.{run-then, branch_with, branch-stored, second-stored}

module _ (l : List ℕ) (z : Counts) (r : ℕ) (H : FormWith l z) (h : r < z.runs) where
  abbrev s : Store
  s = store_of l

  counts : s.counts ≡ z
  counts = form-counts l z H

  abbrev a : Run
  a = s.run r

  -- Branch n as it is read.
  branch-at : (n : ℕ)
      → branch_at z l (get_or l (read_at_of z r n) 0) (snapshot_at z r n) ≡ branch_of n a
  branch-at n =
      let p = sym (read_in l z H.counts r n h) in
      let q = sym (snapshot_in l z H.counts r n h) in
      λ i. record { read = p i; snapshot = q i }

  formed : (n : ℕ) → Snapshot z a.jobs a.job (branch_of n a)
  formed n =
      let F : So (run_formed z a) =
      rw (← counts) ((well-out s (form-fine l H.form).formed).run r (rw counts h)) in
      run-branch z a F n

  -- What branch n has read is on its card.
  pub read_held : (n : ℕ) → ReadHeld z (branch_at z l (get_or l (read_at_of z r n) 0)
      (snapshot_at z r n))
  read_held n = subst (ReadHeld z) (sym (branch-at n)) (formed n).has

  -- The keys that a join would move, by what stands at the indices p, q, i and j.
  pub moved_at : (p q i j : ℕ) → p ≡ snapshot_at z r 0 → q ≡ snapshot_at z r 1 → i ≡ read_at_of z
      r 0
      → j ≡ read_at_of z r 1
      → moved_set z (branch_at z l (get_or l i 0) p) (branch_at z l (get_or l j 0) q)
      ≡ moved_set z a.branch a.second
  moved_at p q i j e f g k = rw (e, f, g, k) (ap₂ (moved_set z) (branch-at 0) (branch-at 1))

  -- The buffer is the store's.
  again : l ≡ written s l
  again = sym (form-again l z H)

  -- ---- fork

  -- What fork stores: m has the card, and x is the read mask.
  pub forked-left : (m : List ℕ) (x : ℕ)
      → m ≡ put_place z l (snapshot_at z r 1) (read_place z l (snapshot_at z r 0))
      → x ≡ get_or l (read_at_of z r 0) 0
      → set (set m (read_at_of z r 1) x) (mark_at z r) forked_mark
      ≡ written (with_run s r (forked_run a)) l
  unfolding forked_run
  forked-left m x f g =
      let stored : (y : Counts) → s.counts ≡ y
      → set (set (put_place y (written s l) (snapshot_at y r 1) a.branch.snapshot) (read_at_of y r
      1)
      a.branch.read) (mark_at y r) forked_mark
      ≡ written (with_run s r (forked_run a)) l =
      λ y e. rw (← e)
      (second-stored s l r a.branch.snapshot a.branch.read forked_mark (rw counts h)) in
      rw (f, g, ← snapshot_in l z H.counts r 0 h, ← read_in l z H.counts r 0 h)
      (ap (λ (w : List ℕ). set (set (put_place z w (snapshot_at z r 1) a.branch.snapshot)
      (read_at_of z r 1) a.branch.read) (mark_at z r) forked_mark) again ∙ stored z counts)

  -- ---- join

  -- What isn't held has no words.
  blank : (n k : ℕ) → k < z.keys → held ((branch_of n a).snapshot k) ≡ false
      → (branch_of n a).snapshot k ≡ unheld
  unfolding version_formed
  blank n k i e =
      let v = (branch_of n a).snapshot k in
      let F : FitPlace z (branch_of n a).snapshot =
      rw (snapshot_in l z H.counts r n h) ((place-laws z).fits l (snapshot_at z r n)) in
      let zeros : So (zero_version z v) = rw e at ((formed n).place k i) in
      unheld-is z v (F.each k i) e zeros

  -- The merge of what the second card holds is the merge of all.
  all-merged : (m k : ℕ) → k < z.keys → test_bit m k ≡ held (a.second.snapshot k)
      → let p = a.branch.snapshot in
      let q = a.second.snapshot in
      choice (test_bit m) (λ k. merge z.writers k (p k) (q k)) p k
      ≡ merge z.writers k (p k) (q k)
  all-merged m k i e =
      let v = a.branch.snapshot k in
      let w = a.second.snapshot k in
      rw e (test (held w) (λ y. rw y) (λ n. rw n
      (test (held v) (λ y. sym (merge-unheld-right z.writers k v w y n))
      (λ o. blank 0 k i o ∙ sym (merge-unheld-left z.writers k v w o ∙ blank 1 k i n)))))

  -- What it stores of the first branch: by the mask m of the second card.
  pub merged-left : (m : ℕ)
      → m ≡ mask_below z.keys (λ k. held (read_place z l (snapshot_at z r 1) k))
      → let p = read_place z l (snapshot_at z r 0) in
      let q = read_place z l (snapshot_at z r 1) in
      (n : List ℕ) (y : ℕ)
      → n ≡ put_place z l (snapshot_at z r 0)
      (choice (test_bit m) (λ k. merge z.writers k (p k) (q k)) p)
      → y ≡ bit_or (get_or l (read_at_of z r 0) 0) (get_or l (read_at_of z r 1) 0)
      → set n (read_at_of z r 0) y ≡ written (with_run s r (merged_run s r)) l
  unfolding joined_branch joined_place with_job_done
  merged-left m e n y g j =
      let p = a.branch.snapshot in
      let q = a.second.snapshot in
      let x = bit_or a.branch.read a.second.read in
      let all : Counts → Place Version = λ y k. merge y.writers k (p k) (q k) in
      let held_at : (k : ℕ) → k < z.keys → test_bit m k ≡ held (q k) = λ k i.
      rw (e, ← snapshot_in l z H.counts r 1 h)
      (test-mask z.keys (λ k. held (q k)) k i) in
      let stored : (y : Counts) → s.counts ≡ y
      → set (put_place y (written s l) (snapshot_at y r 0) (all y)) (read_at_of y r 0) x
      ≡ written (with_run s r (merged_run s r)) l =
      λ y f. rw (← f) (branch-stored s l r 0 (all s.counts) x (rw counts h)) in
      rw (
        g,
        j,
        ← snapshot_in l z H.counts r 0 h,
        ← snapshot_in l z H.counts r 1 h,
        ← read_in l z H.counts r 0 h,
        ← read_in l z H.counts r 1 h,
      )
      (ap (λ (w : List ℕ). set w (read_at_of z r 0) x)
      (place-ext z l (snapshot_at z r 0) _ (all z) (λ k i. all-merged m k i (held_at k i)))
      ∙ ap (λ (w : List ℕ). set (put_place z w (snapshot_at z r 0) (all z)) (read_at_of z r 0) x)
      again
      ∙ stored z counts)

  -- And then of the second, which is cleared in n, and the mark.
  pub joined-left : (m n : List ℕ) → m ≡ written (with_run s r (merged_run s r)) l
      → n ≡ put_place z m (snapshot_at z r 1) empty_place
      → set (set n (read_at_of z r 1) 0) (mark_at z r) joined_mark
      ≡ written (with_run s r (joined_run s r)) l
  unfolding joined_run with_run
  joined-left m n e g =
      let t = with_run s r (merged_run s r) in
      let last : Run → Run = λ b. run_with b b.state b.done b.branch joined_mark
      (branch_with 0 empty_place) in
      let stored : (y : Counts) → s.counts ≡ y
      → set (set (put_place y (written t l) (snapshot_at y r 1) empty_place) (read_at_of y r 1) 0)
      (mark_at y r) joined_mark
      ≡ written (with_run t r (last (t.run r))) l =
      λ y f. rw (← f) (second-stored t l r empty_place 0 joined_mark (rw counts h)) in
      rw (g, e) (stored z counts ∙ run-then s l r (merged_run s r) last)
