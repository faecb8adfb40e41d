-- What a step leaves on the snapshot ("card"): still a keyset-overlapping cut for the plan.
-- pulled-held, -keeps: what it holds. pulled-planned: only keys of the plan.
-- pulled-overlap: the cut.
-- Assumes nothing.
use mathlib.Core.Path.{◌≡◌}
use mathlib.Core.Bool.{false, So}
use mathlib.Core.Logic.{inl, inr}
use Prim.Native.Nat.{ℕ, ◌<◌}
use Rattle.words.specs.Tests.{Items, Within}
use Rattle.words.proofs.Bools.{test, clash}
use Rattle.clock.specs.Clock.{Clock}
use Rattle.model.specs.Algebra.{Place, causal_cut, overlapping_cut, lacking}
use Rattle.model.specs.Version.{Version, held, dependency, supersedes, merge, versions}
use Rattle.model.specs.Sets.{pull_set, pulled}
use Rattle.model.proofs.Merges.{merge-held-left, merge-held-right}
use Rattle.model.proofs.Needs.{supersedes-iff, supersedes-merge-left, supersedes-merge-right, merge-met}
use Rattle.model.proofs.Cuts.{causal_cut-at, needs_met-intro, overlapping_cut-within, overlapping_cut-at, overlapping_cut-intro}
use Rattle.model.proofs.Draws.{draw_set-closed, pull_set-start, pull_set-plan, pulled_in, pulled-cases}

module _ (W K : ℕ) (plan : Items) (snapshot cache : Place Version) (reads : Items) where
  abbrev C : Items
  C = pull_set (versions W) K plan snapshot cache reads

  abbrev after : Place Version
  after = pulled (versions W) K plan snapshot cache reads

  -- What holds of the merge for a key of C, and of the snapshot's version for another, holds.
  cases : (P : Version → Type 0) (k : ℕ)
      → (So (C k) → P (merge W k (snapshot k) (cache k))) → (C k ≡ false → P (snapshot k))
      → P (after k)
  cases = pulled-cases (versions W) K plan snapshot cache reads

  -- Reads are held: they are on the snapshot, or come from the cache.
  pub pulled-held : (k : ℕ) → So (reads k)
      → (held (snapshot k) ≡ false → So (held (cache k))) → So (held (after k))
  pulled-held k p f =
      cases (λ v. So (held v)) k
      (λ _. test (held (snapshot k)) (merge-held-left W k (snapshot k) (cache k))
      (λ n. merge-held-right W k (snapshot k) (cache k) (f n)))
      (λ n. test (held (snapshot k)) (λ h. h)
      (λ m. clash (pull_set-start (versions W) K plan snapshot cache reads k p m) n))

  -- What the snapshot held it still holds,
  pub pulled-keeps : (k : ℕ) → So (held (snapshot k)) → So (held (after k))
  pulled-keeps k h =
      cases (λ v. So (held v)) k (λ _. merge-held-left W k (snapshot k) (cache k) h) (λ _. h)

  -- and what it met is still met.
  pulled-meets : (d : ℕ) (q : Clock) → So (supersedes W d (snapshot d) q)
      → So (supersedes W d (after d) q)
  pulled-meets d q s =
      cases (λ v. So (supersedes W d v q)) d
      (λ _. supersedes-merge-left W d (snapshot d) (cache d) q s) (λ _. s)

  -- Only keys of the plan are held, if that was so.
  pub pulled-planned : Within K reads plan → Within K (λ k. held (snapshot k)) plan
      → Within K (λ k. held (after k)) plan
  pulled-planned f g k l =
      cases (λ v. So (held v) → So (plan k)) k
      (λ y _. pull_set-plan (versions W) K plan snapshot cache reads f k l y) (λ _. g k l)

  module _ (o : So (overlapping_cut (versions W) K plan snapshot))
      (c : So (causal_cut (versions W) K cache)) where
    -- The needs of what was on the snapshot,
    pulled-old : (k d : ℕ) → k < K → d < K → So (plan d) → So (held (snapshot k))
        → So (dependency W k (snapshot k) d) → So (supersedes W d (after d) ((snapshot k).past d))
    pulled-old k d lk ld p h n =
        pulled-meets d ((snapshot k).past d)
        (overlapping_cut-at (versions W) K plan snapshot o k d lk ld p h n)

    -- and of what came from the cache.
    pulled-new : (k d : ℕ) → k < K → d < K → So (C k) → So (plan d) → So (held (cache k))
        → So (dependency W k (cache k) d) → So (supersedes W d (after d) ((cache k).past d))
    unfolding pull_set
    pulled-new k d lk ld p q h n =
        let need = (cache k).past d in
        let m = causal_cut-at (versions W) K cache c k d lk ld h n in
        let lacks = lacking (versions W) K snapshot reads in
        elim (draw_set-closed (versions W) K plan snapshot cache lacks k d lk ld p q n
        ((supersedes-iff W d (cache d) need).0 m).0) [
          | inl y ↦ pulled-meets d need y
          | inr y ↦ rw (pulled_in (versions W) K plan snapshot cache reads d y)
              (supersedes-merge-right W d (snapshot d) (cache d) need m)
        ]

    pulled-need : (k d : ℕ) → k < K → d < K → So (plan d) → So (held (after k))
        → So (dependency W k (after k) d) → So (supersedes W d (after d) ((after k).past d))
    pulled-need k d lk ld p =
        cases (λ (v : Version). So (held v) → So (dependency W k v d)
        → So (supersedes W d (after d) (v.past d))) k
        (λ y h n. merge-met W k d (snapshot k) (cache k) (after d) h n (pulled-old k d lk ld p)
        (pulled-new k d lk ld y p))
        (λ _. pulled-old k d lk ld p)

    pub pulled-overlap : Within K reads plan → So (overlapping_cut (versions W) K plan after)
    pulled-overlap f =
        overlapping_cut-intro (versions W) K plan after
        (pulled-planned f (overlapping_cut-within (versions W) K plan snapshot o))
        (needs_met-intro (versions W) K plan after (λ k d lk ld _. pulled-need k d lk ld))
