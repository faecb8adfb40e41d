-- Demand 3 (d): a step that is not refused breaks its run exactly if no choice works.
-- Ready: what is asked of the store. works-unmoved: with a choice that works C has no read key.
-- unmoved-works: where C has none, what the step leaves is a choice that works. breaks-exact.
-- Assumes nothing.
use mathlib.Core.Path.{◌≡◌, refl, sym, ap, ◌∙◌}
use mathlib.Core.Bool.{false, cond, So, true≢false, false≢true}
use mathlib.Core.Logic.{inl, inr, ◌↔◌, ◌≢◌}
use Prim.Native.Nat.{ℕ, ◌<◌}
use Rattle.words.specs.Tests.{Items, any_below}
use Rattle.words.proofs.Bools.{test, clash, ◌∙˙◌, and_left, and_right, and_cases}
use Rattle.words.proofs.Tests.{any_some, any_none}
use Rattle.masks.specs.Mask.{test_bit}
use Rattle.reach.specs.Closure.{Reach, Reach.here, Reach.next}
use Rattle.reach.proofs.Closures.{reach-low}
use Rattle.clock.specs.Clock.{Dominates}
use Rattle.clock.proofs.Order.{dominates-refl}
use Rattle.model.specs.Algebra.{Place, needs_met, causal_cut, overlapping_cut, lacking}
use Rattle.model.specs.Version.{Version, held, unheld, versions}
use Rattle.model.specs.Sets.{draws, pulled}
use Rattle.model.specs.Store.{Store}
use Rattle.model.specs.Outcome.{Outcome, refused, broken, done, told, unless}
use Rattle.model.specs.Step.{step_rule_of, step_branch, step_reads, step_cache, step_plan, step_pull, step_snapshot, step_moved, step_cause, step_broken, step_done}
use Rattle.model.proofs.Outcomes.{unless-cases}
use Rattle.model.proofs.Merges.{merge-right}
use Rattle.model.proofs.Needs.{dependency-mono, supersedes-iff, supersedes-trans}
use Rattle.model.proofs.Cuts.{needs_met-at, needs_met-intro, overlapping_cut-within, overlapping_cut-at}
use Rattle.model.proofs.Draws.{lacking-iff, draws-iff, pull_set-reached}
use Rattle.model.proofs.Steps.{Accepted, accepted, step-planned, step_cached, step_snapshot-out, step_snapshot-held, step_snapshot-overlaps}
use Rattle.layout.specs.Calls.{is_ok_of}
use Rattle.consistency.specs.Claim.{Pick, Pick.of_snapshot, Pick.of_cache, Pick.merged, Pick.neither, pick_of, chosen, Works, is_refused, is_broken, Choice, BreakExact}

-- At a step of run r's job j on branch n: the snapshot is an overlapping cut for the plan, the
-- cache after the fetch a causal cut, and each read key is on the snapshot.
pub record Ready (s : Store) (r j n : ℕ) : Type 0 where
  pub overlaps : So (overlapping_cut (versions s.counts.writers) s.counts.keys
      (step_plan s r j n) (step_branch s r j n).snapshot)
  pub cut : So (causal_cut (versions s.counts.writers) s.counts.keys (step_cache s r j n))
  pub on-snapshot : (k : ℕ) → k < s.counts.keys → So (test_bit (step_branch s r j n).read k)
      → So (held ((step_branch s r j n).snapshot k))

-- ---- a choice that works takes all of C from the cache

-- A pick that is held and isn't the snapshot's version has all that the cache's version has.
pick-above : (W k : ℕ) (p : Pick) (a b : Version) → So (held (pick_of W k p a b))
    → pick_of W k p a b ≢ a → So (held b)
    → (e : ℕ) → Dominates W ((pick_of W k p a b).past e) (b.past e)
unfolding pick_of held
pick-above W k of_snapshot a b h f g e = absurd (f refl)
pick-above W k of_cache a b h f g e = dominates-refl W (b.past e)
pick-above W k merged a b h f g e = merge-right W k e a b g
pick-above W k neither a b h f g e = clash h refl

-- An outcome that is ok is no refusal and no break.
ok_out : (x : Outcome) → So (is_ok_of x) → (is_refused x ≡ false) × (is_broken x ≡ false)
unfolding is_ok_of is_refused is_broken
ok_out (refused n) p = absurd (false≢true p)
ok_out (broken m t) p = absurd (false≢true p)
ok_out (done a t) p = (refl, refl)
ok_out (told w a) p = (refl, refl)

module _ (s : Store) (r j n : ℕ) where
  abbrev W : ℕ
  W = s.counts.writers

  abbrev K : ℕ
  K = s.counts.keys

  abbrev snapshot : Place Version
  snapshot = (step_branch s r j n).snapshot

  abbrev plan : Items
  plan = step_plan s r j n

  abbrev cache : Place Version
  cache = step_cache s r j n

  abbrev edge : ℕ → Items
  edge = draws (versions W) K plan snapshot cache

  abbrev lacks : Items
  lacks = lacking (versions W) K snapshot (step_reads s r j n)

  module _ (pick : ℕ → Pick) where
    abbrev choice : Place Version
    choice = chosen s r j n pick

    chosen_in : (k : ℕ) → So (plan k) → choice k ≡ pick_of W k (pick k) (snapshot k) (cache k)
    unfolding chosen
    chosen_in k p = rw p

    chosen-out : (k : ℕ) → plan k ≡ false → choice k ≡ unheld
    unfolding chosen
    chosen-out k f = rw f

    chosen-plan : (k : ℕ) → So (held (choice k)) → So (plan k)
    unfolding held
    chosen-plan k h = test (plan k) (λ p. p) (λ f. clash h (ap held (chosen-out k f)))

    -- The choice for key d is held, isn't the snapshot's version and has all that the cache's has.
    record Taken (d : ℕ) : Type 0 where
      other : choice d ≢ snapshot d
      holds : So (held (choice d))
      above : (e : ℕ) → Dominates W ((choice d).past e) ((cache d).past e)

    take : (d : ℕ) → So (held (choice d)) → choice d ≢ snapshot d → So (held (cache d)) → Taken d
    take d h f g = record { other = f; holds = h; above = up }
      where
        up : (e : ℕ) → Dominates W ((choice d).past e) ((cache d).past e)
        up e =
            let q = chosen_in d (chosen-plan d h) in
            rw q (pick-above W d (pick d) (snapshot d) (cache d) (rw q at h) (λ x. f (q ∙ x)) g e)

    -- So for a read that the snapshot lacks,
    taken_start : Accepted s r j n → Works s r j n pick → (d : ℕ) → d < K → So (lacks d) → Taken d
    taken_start a w d l p =
        let u = (lacking-iff (versions W) K snapshot (step_reads s r j n) d).0 p in
        let h = w.holds d l u.0 in
        take d h (λ x. clash (rw x at h) u.1) (step_cached s r j n d a l u.0 u.1)

    -- and for what is drawn in: the snapshot's version doesn't meet that need.
    taken_next : Works s r j n pick → (t d : ℕ) → t < K → d < K → Taken t → So (edge t d) → Taken d
    taken_next w t d lt ld x p =
        let u = (draws-iff (versions W) K plan snapshot cache t d).0 p in
        let need = (cache t).past d in
        let c = dependency-mono W t (cache t) (choice t) d (x.above d) u.1 in
        let among = needs_met-at (versions W) K plan choice w.meets t d lt ld in
        let m = among (chosen-plan t x.holds) u.0 x.holds c in
        let m' = supersedes-trans W d (choice d) ((choice t).past d) need m (x.above d) in
        take d ((supersedes-iff W d (choice d) need).0 m').0
        (λ y. clash (rw y at m') u.2) u.3

    taken : Accepted s r j n → Works s r j n pick → {d : ℕ} → Reach K edge lacks d → Taken d
    taken a w (here {d = d} l p) = taken_start a w d l p
    taken a w (next {t = t} {d = d} q l p) = taken_next w t d (reach-low q) l (taken a w q) p

    -- A read key stays as it was, so it isn't in C.
    works-unmoved : Accepted s r j n → Works s r j n pick → (k : ℕ) → k < K
        → So (step_pull s r j n k) → test_bit (step_branch s r j n).read k ≡ false
    unfolding step_pull
    works-unmoved a w k l p =
        let reads = step_reads s r j n in
        let x = taken a w (pull_set-reached (versions W) K plan snapshot cache reads k l p) in
        test (test_bit (step_branch s r j n).read k) (λ y. absurd (x.other (w.keeps k l y)))
        (λ f. f)

  -- ---- where C has no read key, what the step leaves is a choice that works

  -- The merge for each key in C, the snapshot's version for every other.
  merging : ℕ → Pick
  merging k = cond (step_pull s r j n k) merged of_snapshot

  chosen-merging : (k : ℕ) → So (plan k) → chosen s r j n merging k ≡ step_snapshot s r j n k
  unfolding merging pick_of step_snapshot step_pull pulled
  chosen-merging k p = chosen_in merging k p ∙ test (step_pull s r j n k) (λ y. rw y) (λ f. rw f)

  unmoved-works : Accepted s r j n → Ready s r j n → any_below K (step_moved s r j n) ≡ false
      → Works s r j n merging
  unfolding step_moved
  unmoved-works a x f = record { holds = holds; keeps = keeps; meets = meets }
    where
      left : So (overlapping_cut (versions W) K plan (step_snapshot s r j n))
      left = step_snapshot-overlaps s r j n a x.overlaps x.cut

      holds : (k : ℕ) → k < K → So (step_reads s r j n k) → So (held (chosen s r j n merging k))
      holds k l p =
          rw (chosen-merging k (step-planned s r j n k a.job_in_lem p))
          (step_snapshot-held s r j n a k l p)

      keeps : (k : ℕ) → k < K → So (test_bit (step_branch s r j n).read k)
          → chosen s r j n merging k ≡ snapshot k
      keeps k l p =
          let h = x.on-snapshot k l p in
          let q = overlapping_cut-within (versions W) K plan snapshot x.overlaps k l h in
          elim (and_cases (step_pull s r j n k) (test_bit (step_branch s r j n).read k)
          (any_none K (step_moved s r j n) f k l)) [
            | inl e ↦ chosen-merging k q ∙ step_snapshot-out s r j n k e
            | inr e ↦ clash p e
          ]

      meets : So (needs_met (versions W) K plan (chosen s r j n merging))
      meets =
          needs_met-intro (versions W) K plan (chosen s r j n merging) (λ k d lk ld pk pd h m.
          rw (chosen-merging k pk, chosen-merging d pd)
          (overlapping_cut-at (versions W) K plan (step_snapshot s r j n) left k d lk ld pd
          (rw (chosen-merging k pk) at h) (rw (chosen-merging k pk) at m)))

  -- ---- the outcome

  not-refused : is_refused (step_rule_of r j n s) ≡ false → step_cause s r j n ≡ 0
  unfolding step_rule_of is_refused
  not-refused =
      unless-cases (λ x. is_refused x ≡ false → step_cause s r j n ≡ 0) (step_cause s r j n) _
      (λ e _. e) (λ _ y. absurd (true≢false y))

  broken-moved : step_cause s r j n ≡ 0
      → is_broken (step_rule_of r j n s) ≡ any_below K (step_moved s r j n)
  unfolding step_rule_of unless is_broken step_broken step_done
  broken-moved e = rw e (test (any_below K (step_moved s r j n)) (λ y. rw y) (λ f. rw f))

  -- The store need be ready only where the step is accepted.
  pub breaks-exact : (Accepted s r j n → Ready s r j n) → BreakExact (step_rule_of r j n s) s r j n
  unfolding step_moved
  breaks-exact f = record { exactly = exactly; works = works }
    where
      moved : Items
      moved = step_moved s r j n

      exactly : is_refused (step_rule_of r j n s) ≡ false
          → So (is_broken (step_rule_of r j n s)) ↔ ¬ (Choice s r j n)
      exactly e =
          let c = not-refused e in
          let a = accepted s r j n c in (
            λ p w.
                let m = any_some K moved (broken-moved c ∙˙ p) in
                let pull = step_pull s r j n m.0 in
                let read = test_bit (step_branch s r j n).read m.0 in
                clash (and_right pull read m.2)
                (works-unmoved w.0 a w.1 m.0 m.1 (and_left pull read m.2)),
            λ g. broken-moved c ∙ test (any_below K moved) (λ y. y)
                (λ h. absurd (g (merging, unmoved-works a (f a) h))),
          )

      works : So (is_ok_of (step_rule_of r j n s)) → Choice s r j n
      works p =
          let out = ok_out (step_rule_of r j n s) p in
          let c = not-refused out.0 in
          let a = accepted s r j n c in
          (merging, unmoved-works a (f a) (sym (broken-moved c) ∙ out.1))
