-- The claims used: request 11's examples put through them. A premise that nothing meets would show
-- here.
-- others-free, steps-free: what may stand between. mixture: two prepared runs, where no call may
-- disturb the one. twin, twin-step, rights_step, two_runs: the examples.
-- Assumes nothing.
use mathlib.Core.Path.{◌≡◌, refl}
use mathlib.Core.Bool.{Bool, true, false, not, ◌&&◌, So}
use mathlib.Core.Logic.{◌≢◌}
use mathlib.Core.List.{List, [], ◌∷◌}
use mathlib.Core.Option.{Option, none, some}
use Prim.Native.Nat.{ℕ}
use native.Mathlib.Omega.{arith}
use lib.ListN.{replicate}
use Rattle.words.proofs.Bools.{and_intro, and_left, and_right, not_elim}
use Rattle.sizes.specs.Bounds.{counts_of}
use Rattle.model.specs.Calls.{StoreCall, open_run, fetch, evict, prepare, step, issue, drop_run, allow, pick, mayhold, maysave, fork, join, ask}
use Rattle.layout.specs.Reading.{store_of}
use Rattle.layout.specs.Calls.{Call, on, call_on, leaves, is_ok_of, after}
use Rattle.consistency.specs.Roles.{role_of, is_on}
use Rattle.consistency.specs.Claim.{by_new}
use Rattle.booked.specs.Prepared.{unsettles, disturbs, untouched, Smooth, prepared, ran_by, ran_through, StepsSmoothly, Unstopped, steps_of, read_by, left_out_of, without, Booked}
use Rattle.booked.proofs.Through.{after-beginning}
use Rattle.booked.proofs.Independent.{independent}
use Rattle.booked.proofs.Stays.{stays-prepared}
use Rattle.booked.proofs.Examples.{twin-new, twin-before, twin-base, twin-calls, rights_new, rights_before, rights_base, rights_calls, two-base, two-prepared, two-calls, computed}

-- ---- what may stand between

-- Every call that isn't on run r: "whatever other offices issue, fetch or evict".
pub others-free : (r : ℕ) (c : StoreCall) → is_on r (role_of c) ≡ false → disturbs r (on c) ≡ false
unfolding disturbs unsettles is_on role_of
others-free r (open_run q l) e = refl
others-free r (fetch o k) e = refl
others-free r (evict o k) e = refl
others-free r (prepare q) e = e
others-free r (step q j n) e = refl
others-free r (issue q w S) e = e
others-free r (drop_run q) e = e
others-free r (allow o n) e = refl
others-free r pick e = refl
others-free r (mayhold o m) e = refl
others-free r (maysave w m) e = refl
others-free r (fork q) e = e
others-free r (join q) e = refl
others-free r (ask q) e = refl

-- And its own steps.
pub steps-free : (r j n : ℕ) → disturbs r (on (step r j n)) ≡ false
unfolding disturbs unsettles
steps-free r j n = refl

-- ---- "stepped in any mixture"

-- No call of the list is one that disturbs run r, accepted or not: steps, for instance.
unfoldable pub calm : ℕ → List Call → Bool
calm r [] = true
calm r (c ∷ cs) = not (disturbs r c) && calm r cs

calm-untouched : (r : ℕ) (cs : List Call) (l : List ℕ) → So (calm r cs) → So (untouched r cs l)
unfolding calm untouched
calm-untouched r [] l p = refl
calm-untouched r (c ∷ cs) l p =
    let free : disturbs r c ≡ false = not_elim (and_left (not (disturbs r c)) (calm r cs) p) in
    and_intro {a = not (disturbs r c && is_ok_of (call_on c l))} (rw free refl)
    (calm-untouched r cs (leaves (call_on c l) l) (and_right (not (disturbs r c)) (calm r cs) p))

calm-without : (r q : ℕ) (cs : List Call) → So (calm r cs) → So (calm r (without q cs))
unfolding calm without left_out_of
calm-without r q [] p = refl
calm-without r q (c ∷ cs) p =
    kept (steps_of q c) (and_left (not (disturbs r c)) (calm r cs) p)
    (calm-without r q cs (and_right (not (disturbs r c)) (calm r cs) p))
  where
    kept : (x : Option (ℕ × ℕ)) → So (not (disturbs r c)) → So (calm r (without q cs))
        → So (calm r (left_out_of x c (without q cs)))
    kept none f g = and_intro f g
    kept (some x) f g = g

pub mixture : (m : List ℕ) (p q : ℕ) → p ≢ q → Booked m p → Booked m q → (cs : List Call)
    → So (calm p cs) → read_by p cs m ≡ read_by p (without q cs) m
mixture m p q n B C cs f =
    independent m p q n B C cs (calm-untouched p cs m f)
    (calm-untouched p (without q cs) m (calm-without p q cs f))

-- ---- the examples

-- Example 1: run 0 goes through, on a desk that began with new.
pub twin : StepsSmoothly 0 (prepared 0 twin-base) × Unstopped 0 (prepared 0 twin-base)
twin =
    after-beginning twin-new (by_new (replicate 183 5) (counts_of 2 1 2 3) computed.twin-begun)
    twin-before 0 computed.twin-accepted

-- So after the calls of the example, in which its twin breaks.
pub twin-step : (j n : ℕ) → let m = after twin-calls (prepared 0 twin-base) in
    Smooth (store_of m) 0 j n (call_on (on (step 0 j n)) m)
twin-step = twin.0 twin-calls computed.twin-quiet

-- Example 2: refused steps stand in the list.
pub rights_step : (j n : ℕ) → let m = after rights_calls (prepared 0 rights_base) in
    Smooth (store_of m) 0 j n (call_on (on (step 0 j n)) m)
rights_step =
    let begun = by_new (replicate 137 5) (counts_of 2 1 2 2) computed.rights_begun in
    (after-beginning rights_new begun rights_before 0 computed.rights_accepted).0 rights_calls
    computed.rights_quiet

-- Example 3: run 1 reads the same, whether run 2 is stepped or not.
pub two_runs : read_by 1 two-calls two-prepared ≡ read_by 1 (without 2 two-calls) two-prepared
unfolding after untouched
two_runs =
    let first : Booked two-prepared 1 = record {
      base = two-base;
      between = on (prepare 2) ∷ [];
      formed = computed.two_formed;
      accepted = computed.two-accepted;
      quiet = computed.two-between;
      now = refl;
    } in
    let second : Booked two-prepared 2 = record {
      base = prepared 1 two-base;
      between = [];
      formed = computed.other-formed;
      accepted = computed.other-accepted;
      quiet = refl;
      now = refl;
    } in
    independent two-prepared 1 2 (λ e. omega arith) first second two-calls computed.two-quiet
    computed.two-quiet-without

-- Run 1 is as it was prepared, though run 2 was prepared since: nothing was stepped.
pub two-kept : (store_of two-prepared).run 1 ≡ (store_of (prepared 1 two-base)).run 1
unfolding after ran_through ran_by steps_of
two-kept =
    stays-prepared two-base 1 computed.two_formed computed.two-accepted
    (on (prepare 2) ∷ []) computed.two-between
