-- Fork and join as calls on a buffer (CR 10): what they ask, and what a join leaves.
-- forks_open, joins-forked, join-keeps-reads, break_sets-state: the claims of specs/Lines.
-- Assumes nothing.
use mathlib.Core.Path.{◌≡◌, refl, sym, ap, ◌∙◌}
use mathlib.Core.Bool.{false, So, true≢false, false≢true}
use mathlib.Core.List.{List}
use Prim.Native.Nat.{ℕ, zero, suc, ◌<◌}
use native.Mathlib.Omega.{arith}
use lib.Dec.{eqb}
use lib.ListN.{set}
use Rattle.words.specs.Tests.{any_below}
use Rattle.words.proofs.Bools.{test, eqb-eq, and_left, or_left, or_right}
use Rattle.words.proofs.Lists.{put_at_same}
use Rattle.masks.specs.Mask.{test_bit}
use Rattle.masks.proofs.Bits.{test-or}
use Rattle.sizes.specs.Bounds.{run_at_of}
use Rattle.model.specs.Store.{branch_of, Store, with_run}
use Rattle.model.specs.Form.{well_formed}
use Rattle.model.specs.Outcome.{Outcome, refused, broken, done, told, unless, allowed, fork_row, join_row, open_state, broken_state}
use Rattle.model.specs.Calls.Fork.{fork_cause, fork_done, fork_rule_of, joined_place, joined_branch, joined_run, join_moved, join_cause, join_done, join_broken, join_rule_of}
use Rattle.model.specs.Calls.{StoreCall, fork, join, rule_of}
use Rattle.model.proofs.Outcomes.{next_store}
use Rattle.model.proofs.Forks.{forkable, Joinable, joinable, join-still}
use Rattle.model.proofs.Moved.{moved-equal}
use Rattle.model.proofs.Plans.{state-low}
use Rattle.model.proofs.Formed.{well-out}
use Rattle.layout.specs.Reading.{store_of}
use Rattle.layout.specs.Buffer.{shaped, in_form}
use Rattle.layout.specs.Calls.{on, call_on, leaves, is_ok_of}
use Rattle.layout.proofs.Inside.{place_inside}
use Rattle.layout.proofs.Whole.{store_kept}
use Rattle.layout.proofs.RunUpdates.{put-state}
use Rattle.layout.proofs.Follow.{Fine, form-fine}
use Rattle.layout.proofs.Forms.{form_rule, no-form, left-store}
use Rattle.consistency.specs.Claim.{is_refused}
use Rattle.claims.specs.Lines.{ForksOpen, JoinsForked, JoinKeepsReads, BreakSetsState}

-- ---- what fork and join ask

-- A call that isn't refused: the buffer is in form, and there is no cause.
formed : (c : StoreCall) (l : List ℕ) → is_refused (call_on (on c) l) ≡ false → So (in_form l)
unfolding is_refused
formed c l f =
    test (in_form l) (λ F. F) (λ N. absurd (true≢false (ap is_refused (sym (no-form c l N)) ∙ f)))

free : (n : ℕ) (x : Outcome) → is_refused (unless n x) ≡ false → n ≡ 0
unfolding unless is_refused
free n x f =
    test (eqb n 0) (λ y. eqb-eq n 0 y) (λ y. absurd (true≢false (sym (rw y refl) ∙ f)))

ok-taken : (x : Outcome) → So (is_ok_of x) → is_refused x ≡ false
unfolding is_ok_of is_refused
ok-taken (refused n) p = absurd (false≢true p)
ok-taken (broken m s) p = refl
ok-taken (done a s) p = refl
ok-taken (told w a) p = refl

-- The rows of fork and join ask for an open run.
open_by : (row n : ℕ) → allowed row 0 ≡ false → allowed row 2 ≡ false → n < 3 → So (allowed row n)
    → n ≡ open_state
open_by row zero a b h p = absurd (false≢true (sym a ∙ p))
open_by row (suc zero) a b h p = refl
open_by row (suc (suc zero)) a b h p = absurd (false≢true (sym b ∙ p))
open_by row (suc (suc (suc n))) a b h p = absurd (omega arith)

low : (s : Store) (r : ℕ) → Fine s → r < s.counts.runs → (s.run r).state < 3
low s r F h = state-low s.counts (s.run r) ((well-out s F.formed).run r h)

pub forks_open : ForksOpen
unfolding rule_of fork_rule_of allowed
forks_open l r ok =
    let s = store_of l in
    let taken = ok-taken (call_on (on (fork r)) l) ok in
    let F = formed (fork r) l taken in
    let A = forkable s r (free (fork_cause s r) (fork_done s r)
    (ap is_refused (sym (form_rule (fork r) l F)) ∙ taken)) in (
      open_by fork_row (s.run r).state refl refl (low s r (form-fine l F) A.run_in)
          A.open_run_lem,
      A.single,
    )

-- A join that isn't refused.
join-taken : (l : List ℕ) (r : ℕ) → is_refused (call_on (on (join r)) l) ≡ false
    → So (in_form l) × Joinable (store_of l) r × (join_cause (store_of l) r ≡ 0)
unfolding rule_of join_rule_of
join-taken l r f =
    let F = formed (join r) l f in
    let s = store_of l in
    let no = free (join_cause s r) _ (ap is_refused (sym (form_rule (join r) l F)) ∙ f) in
    (F, joinable s r no, no)

pub joins-forked : JoinsForked
unfolding allowed
joins-forked l r f =
    let s = store_of l in
    let J = join-taken l r f in (
      open_by join_row (s.run r).state refl refl
          (low s r (form-fine l J.0) J.1.run_in) J.1.open_run_lem,
      J.1.forked,
    )

-- ---- joining

-- A join that goes through leaves what was read.
unmoved : (s : Store) (r n k : ℕ) → Fine s → Joinable s r → k < s.counts.keys
    → any_below s.counts.keys (join_moved s r) ≡ false
    → So (test_bit (branch_of n (s.run r)).read k)
    → ((joined_branch s r).snapshot k ≡ (branch_of n (s.run r)).snapshot k)
    × So (test_bit (joined_branch s r).read k)
unfolding joined_branch joined_place
unmoved s r n k F J h none p =
    let z = s.counts in
    let a = (s.run r).branch in
    let b = (s.run r).second in
    let fits = F.fits.run.each r J.run_in in
    let still = (moved-equal z a b (place_inside z a.snapshot fits.snapshot)
    (place_inside z b.snapshot fits.second)).0 (join-still s r none) k h in
    test (eqb n 0)
    (λ y. let q : So (test_bit a.read k) = rw y at p in
    rw y (still.0 q, test-or a.read b.read k ∙ or_left (test_bit b.read k) q))
    (λ y. let q : So (test_bit b.read k) = rw y at p in
    rw y (still.1 q, test-or a.read b.read k ∙ or_right (test_bit a.read k) q))

-- By what a join that isn't refused came to.
join-done : (s : Store) (r : ℕ) → join_cause s r ≡ 0 → So (is_ok_of (join_rule_of r s))
    → (any_below s.counts.keys (join_moved s r) ≡ false) × (join_rule_of r s ≡ join_done s r)
unfolding join_rule_of join_broken join_done unless is_ok_of
join-done s r e ok =
    test (any_below s.counts.keys (join_moved s r))
    (λ y. absurd (false≢true (rw (e, y) at ok))) (λ y. (y, rw (e, y) refl))

join-broken : (s : Store) (r : ℕ) → join_cause s r ≡ 0 → is_ok_of (join_rule_of r s) ≡ false
    → join_rule_of r s ≡ join_broken s r
unfolding join_rule_of join_broken join_done unless is_ok_of
join-broken s r e f =
    test (any_below s.counts.keys (join_moved s r))
    (λ y. rw (e, y) refl) (λ y. absurd (true≢false (rw (e, y) at f)))

pub join-keeps-reads : JoinKeepsReads
unfolding rule_of join_done joined_run with_run
join-keeps-reads l r n k ok h p =
    let s = store_of l in
    let J = join-taken l r (ok-taken (call_on (on (join r)) l) ok) in
    let D = join-done s r J.2 (ap is_ok_of (sym (form_rule (join r) l J.0)) ∙ ok) in
    let next : (store_of (leaves (call_on (on (join r)) l) l)).run r ≡ joined_run s r =
    ap (λ (t : Store). t.run r) (left-store (join r) l J.0)
    ∙ ap (λ (x : Outcome). (next_store x s).run r) D.1 ∙ put_at_same s.run r (joined_run s r) in
    rw next (unmoved s r n k (form-fine l J.0) J.1 h D.0 p)

pub break_sets-state : BreakSetsState
unfolding rule_of join_broken leaves is_refused is_ok_of in_form
break_sets-state l r m t f =
    let s = store_of l in
    let J = join-taken l r (ap is_refused f) in
    let rule = form_rule (join r) l J.0 in
    let B = join-broken s r J.2 (ap is_ok_of (sym rule ∙ f)) in
    let kept = store_kept l (and_left (shaped l) (well_formed s) J.0) in
    ap (λ (x : Outcome). leaves x l) (rule ∙ B)
    ∙ sym (put-state s l r broken_state J.1.run_in)
    ∙ ap (λ (w : List ℕ). set w (run_at_of s.counts r) broken_state) kept
