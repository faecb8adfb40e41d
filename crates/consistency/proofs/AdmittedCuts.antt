-- Cuts on the versions of a place are cuts on the copies that a book takes them for at an
-- admission (CR 6).
-- admitted-closed. read_low: a read mask has keys of the store alone.
-- Assumes nothing.
use mathlib.Core.Path.{sym, ap, ◌∙◌}
use mathlib.Core.Bool.{So, false, false≢true}
use mathlib.Core.Logic.{inl, inr}
use mathlib.Core.List.{[]}
use Prim.Native.Nat.{ℕ, ◌≤◌, ◌<◌}
use native.Mathlib.Omega.{arith}
use native.Mathlib.Decide.{ℕ_discrete}
use lib.Dec.{eqb}
use Rattle.words.specs.Tests.{Items, none}
use Rattle.words.proofs.Bools.{test, clash, ◌∙˙◌, or_left, or_right}
use Rattle.masks.specs.Mask.{test_bit}
use Rattle.masks.proofs.Bits.{test-or, test_low, test-none}
use Rattle.masks.proofs.Sets.{mask_lt}
use Rattle.clock.proofs.Order.{present-intro}
use Rattle.sizes.specs.declared.Counts.{Counts}
use Rattle.model.specs.Algebra.{Place}
use Rattle.model.specs.Version.{Version, held, versions}
use Rattle.model.specs.Store.{Run, branch_of, done_reads}
use Rattle.model.specs.Form.{run_formed}
use Rattle.model.proofs.Plans.{read_both, free-out, free-or-plan}
use Rattle.model.proofs.Needs.{dependency-iff, supersedes-iff}
use Rattle.model.proofs.FormedPlaces.{PlaceFormed, version-zero}
use Rattle.history.specs.Listing.{Base}
use Rattle.history.specs.Admission.{admitted_place}
use Rattle.history.proofs.Reached.{reaches_some}
use Rattle.history.proofs.BookWrites.{BookWrite, Includes, StandsBehind, GoodBook}
use Rattle.consistency.proofs.Closing.{ClosedIn}

module _ (z : Counts) (B : Base) (scope : Items) (p : Place Version) (formed : PlaceFormed z p)
    (good : (k : ℕ) → k < z.keys → GoodBook z.keys z.writers [] B k (admitted_place p k))
    (within : (k : ℕ) → k < z.keys → So (held (p k)) → So (scope k))
    (meets : (k d : ℕ) → k < z.keys → d < z.keys → So (scope d) → So (held (p k))
    → So ((versions z.writers).needs k (p k) d)
    → So ((versions z.writers).meets d (p d) (p k))) where
  -- A version with a count is held.
  count_held : (k d u : ℕ) → k < z.keys → d < z.keys → u < z.writers → 1 ≤ (p k).past d u
      → So (held (p k))
  count_held k d u lk ld lu o =
      test (held (p k)) (λ y. y)
      (λ n. absurd (omega (arith, version-zero z k (p k) (formed k lk) n d ld u lu)))

  pub admitted-closed : ClosedIn z.keys z.writers [] B scope (admitted_place p)
  admitted-closed = record {
    good = good;
    within = inside;
    closed = closed;
  }
    where
      inside : (k : ℕ) (x : BookWrite) → k < z.keys
          → Includes z.writers k (admitted_place p k) x → So (scope k)
      inside k (inl i) l q = absurd (false≢true q)
      inside k (inr x) l q =
          within k l (count_held k k x.0 l l q.0 (omega (arith, q.1, q.2)))

      closed : (k d : ℕ) (x : BookWrite) → k < z.keys → d < z.keys → So (scope d)
          → StandsBehind z.keys z.writers [] d (admitted_place p k) x
          → Includes z.writers d (admitted_place p d) x
      closed k d (inl j) lk ld s q =
          let r = reaches_some z.keys [] none d j q in absurd (false≢true r.2)
      closed k d (inr x) lk ld s q =
          let o : 1 ≤ (p k).past d x.0 = omega (arith, q.1, q.2) in
          elim (ℕ_discrete d k) [
            | yes e ↦ rw e (rw e at q)
            | no e ↦
                let need = (dependency-iff z.writers k (p k) d).1
                (e, present-intro z.writers ((p k).past d) x.0 q.0 o) in
                let met = meets k d lk ld s (count_held k d x.0 lk ld q.0 o) need in
                let covers = ((supersedes-iff z.writers d (p d) ((p k).past d)).0 met).1 in
                (q.0, q.1, omega (arith, covers x.0 q.0, q.2))
          ]

-- A read mask has keys of the store alone.
pub read_low : (z : Counts) (a : Run) → So (run_formed z a) → (n k : ℕ)
    → So (test_bit (branch_of n a).read k) → k < z.keys
read_low z a F n k p =
    free-or-plan z a F
    (λ f. clash p (ap (λ m. test_bit m k) ((free-out z a f).vacant n).read ∙ test-none k))
    (λ P.
    let low = mask_lt z.keys (done_reads a.jobs a.job a.done) z.keys (omega arith) in
    test_low (read_both a) z.keys k (rw P.masks.reads low) (in_both n p))
  where
    in_both : (n : ℕ) → So (test_bit (branch_of n a).read k) → So (test_bit (read_both a) k)
    in_both n q =
        let x = a.branch.read in
        let y = a.second.read in
        sym (test-or x y k) ∙˙ test (eqb n 0)
        (λ t. or_left (test_bit y k) (rw t at q)) (λ t. or_right (test_bit x k) (rw t at q))
