-- What fork and join come to on a buffer in form: fork-refused, join-refused, by their cause;
-- fork-done; join-broken, join-done.
-- Assumes nothing.
use mathlib.Core.Path.{◌≡◌, refl, sym, ap, ◌∙◌}
use mathlib.Core.Bool.{false, cond, So}
use mathlib.Core.Logic.{◌≢◌}
use mathlib.Core.List.{List, [], ◌∷◌}
use Prim.Native.Nat.{ℕ, ◌<◌}
use lib.ListN.{set}
use Rattle.words.specs.Tests.{any_below}
use Rattle.words.proofs.Bools.{test}
use Rattle.words.proofs.Tests.{any-no}
use Rattle.masks.specs.Mask.{test_bit}
use Rattle.masks.proofs.Bits.{test-none}
use Rattle.sizes.specs.declared.Counts.{Counts}
use Rattle.sizes.specs.Bounds.{run_at_of}
use Rattle.model.specs.Store.{forked_mark, Store, with_run, with_state}
use Rattle.model.specs.Stays.{moved_set}
use Rattle.model.specs.Outcome.{Outcome, answer, unless, fork_row, join_row, broken_state}
use Rattle.model.specs.Calls.Fork.{forked_run, fork_cause, fork_done, fork_rule_of, joined_run, join_moved, join_cause, join_done, join_broken, join_rule_of}
use Rattle.model.specs.Calls.{fork, join, rule_of}
use Rattle.model.proofs.Moved.{moved_item}
use Rattle.model.proofs.Forks.{join-still}
use Rattle.layout.specs.Reading.{store_of}
use Rattle.layout.specs.Buffer.{written, in_form}
use Rattle.layout.specs.Calls.{leaves}
use Rattle.layout.proofs.RunUpdates.{put-state}
use Rattle.form.specs.Parts.{FormWith}
use Rattle.form.proofs.Known.{form-counts, form-again, Ends, ends-refused, ends-done}
use Rattle.fork.proofs.Causes.{mark_cause}

-- ---- fork

fork_rule : (r : ℕ) (s : Store)
    → rule_of (fork r) s ≡ unless (mark_cause s fork_row 0 r) (fork_done s r)
unfolding rule_of fork_rule_of fork_cause
fork_rule r s = refl

pub fork-refused : (l : List ℕ) (r n : ℕ) → So (in_form l) → n ≡ mark_cause (store_of l) fork_row
    0 r
    → n ≢ 0 → Ends (fork r) l (2 ∷ n ∷ []) l
fork-refused l r n F e h =
    let s = store_of l in
    ends-refused (fork r) l n (fork_done s r) F (rw e (fork_rule r s)) h

pub fork-done : (l : List ℕ) (r : ℕ) → So (in_form l) → mark_cause (store_of l) fork_row 0 r ≡ 0
    → (m : List ℕ) → m ≡ written (with_run (store_of l) r (forked_run ((store_of l).run r))) l
    → Ends (fork r) l (0 ∷ 0 ∷ []) m
unfolding answer leaves fork_done
fork-done l r F e m f =
    let s = store_of l in
    ends-done (fork r) l (mark_cause s fork_row 0 r) (fork_done s r) F (fork_rule r s) e
    (0 ∷ 0 ∷ []) m refl f

-- ---- join

-- What is done where there is no cause.
abbrev act : Store → ℕ → Outcome
act s r = cond (any_below s.counts.keys (join_moved s r)) (join_broken s r) (join_done s r)

join_rule : (r : ℕ) (s : Store)
    → rule_of (join r) s ≡ unless (mark_cause s join_row forked_mark r) (act s r)
unfolding rule_of join_rule_of join_cause
join_rule r s = refl

pub join-refused : (l : List ℕ) (r n : ℕ) → So (in_form l)
    → n ≡ mark_cause (store_of l) join_row forked_mark r → n ≢ 0
    → Ends (join r) l (2 ∷ n ∷ []) l
join-refused l r n F e h =
    let s = store_of l in
    ends-refused (join r) l n (act s r) F (rw e (join_rule r s)) h

module _ (l : List ℕ) (z : Counts) (r : ℕ) (H : FormWith l z) (h : r < z.runs)
    (free : mark_cause (store_of l) join_row forked_mark r ≡ 0) (moved : ℕ)
    (found : moved ≡ moved_set z ((store_of l).run r).branch ((store_of l).run r).second) where
  abbrev s : Store
  s = store_of l

  counts : s.counts ≡ z
  counts = form-counts l z H

  -- The mask by the store's own counts.
  mask : moved ≡ moved_set s.counts (s.run r).branch (s.run r).second
  mask = rw counts found

  pub join-broken : moved ≢ 0 → (m : List ℕ) → m ≡ set l (run_at_of z r) broken_state
      → Ends (join r) l (1 ∷ moved ∷ []) m
  unfolding answer leaves join_broken
  join-broken n m e =
      let some : So (any_below s.counts.keys (join_moved s r)) =
      test (any_below s.counts.keys (join_moved s r)) (λ y. y)
      (λ o. absurd (n (mask ∙ join-still s r o))) in
      let rule : rule_of (join r) s ≡ unless (mark_cause s join_row forked_mark r) (join_broken s
      r) =
      join_rule r s ∙ rw some in
      let put : (y : Counts) → s.counts ≡ y → set (written s l) (run_at_of y r) broken_state
      ≡ written (with_run s r (with_state (s.run r) broken_state)) l =
      λ y f. rw (← f) (put-state s l r broken_state (rw counts h)) in
      ends-done (join r) l (mark_cause s join_row forked_mark r) (join_broken s r) H.form rule free
      (1 ∷ moved ∷ []) m (ap (λ (n : ℕ). 1 ∷ n ∷ []) mask)
      (e ∙ ap (λ (k : List ℕ). set k (run_at_of z r) broken_state) (sym (form-again l z H))
      ∙ put z counts)

  pub join-done : moved ≡ 0 → (m : List ℕ) → m ≡ written (with_run s r (joined_run s r)) l
      → Ends (join r) l (0 ∷ 0 ∷ []) m
  unfolding answer leaves join_done join_moved
  join-done e m f =
      let x = (s.run r).branch in
      let y = (s.run r).second in
      let none : any_below s.counts.keys (join_moved s r) ≡ false =
      any-no s.counts.keys (join_moved s r) (λ k i. sym (moved_item s.counts x y k i)
      ∙ ap (λ (n : ℕ). test_bit n k) (sym mask ∙ e) ∙ test-none k) in
      let rule : rule_of (join r) s ≡ unless (mark_cause s join_row forked_mark r) (join_done s r)
      =
      join_rule r s ∙ rw none in
      ends-done (join r) l (mark_cause s join_row forked_mark r) (join_done s r) H.form rule free
      (0 ∷ 0 ∷ []) m refl f
