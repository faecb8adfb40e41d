-- Issue keeps a store fine.
-- taken-fits, rows_fit: nothing stands outside of the counts in a past that takes in others, or
-- whose rows are set. past_fits, master-fits: the same of the new past and master. issue-kept: the
-- call.
-- Assumes nothing.
use mathlib.Core.Path.{◌≡◌, refl}
use mathlib.Core.Bool.{Bool, true, false, cond, So, ◌&&◌}
use mathlib.Core.Logic.{◌⊎◌, inl, inr}
use mathlib.Core.List.{List}
use Prim.Native.Nat.{ℕ, ◌+◌, ◌≤◌, ◌<◌, ◌^◌}
use native.Mathlib.Omega.{arith}
use lib.Dec.{eqb}
use lib.Pow.{pow-lt, pow_pos}
use Rattle.words.proofs.Bools.{test, and-false-right, leb-gt, le-leb, eq-eqb, ne_eqb}
use Rattle.words.proofs.Numbers.{fold-keeps}
use Rattle.masks.specs.Mask.{test_bit}
use Rattle.masks.proofs.Bits.{test-high}
use Rattle.clock.specs.Clock.{Clock, join}
use Rattle.clock.proofs.Order.{present-intro}
use Rattle.sizes.specs.declared.Counts.{Counts}
use Rattle.model.specs.Algebra.{Place}
use Rattle.model.specs.Version.{Version, held}
use Rattle.model.specs.Store.{Writer, Store, free_run, with_last, with_marks, with_caches, with_sites, with_master, with_writer, with_run}
use Rattle.model.specs.Issue.{issue_cause, taken_in, rows_set, new_past, new_version, issued_master, issued_writer, saved_store, issued_store, issue_done, issue_rule}
use Rattle.model.specs.Outcome.{done, run_cause}
use Rattle.model.proofs.Outcomes.{no-cause}
use Rattle.layout.proofs.Parts.{FitPast, FitVersion, FitPlace}
use Rattle.layout.proofs.Whole.{FitStore}
use Rattle.layout.proofs.Fit.{fit_free, fit-merge, past-out, past_in, place-fit, fit-last, fit-marks, fit-master, fit-writer, fit-run}
use Rattle.model.proofs.FormedPlaces.{PlaceFormed, VersionFormed, version-held, version-merge, leaders_in}
use Rattle.model.proofs.Formed.{Formed, well-out}
use Rattle.model.proofs.FormedNext.{formed-last, formed-master, formed-writer, formed-run}
use Rattle.model.proofs.Plans.{free-formed}
use Rattle.layout.proofs.Follow.{Fine}
use Rattle.layout.proofs.Kept.{Kept, kept-done, kept-unless}

-- Where all pasts are zero, so is what is taken in.
taken-zero : (K read : ℕ) (p : Place Version) (past : ℕ → Clock) (d u : ℕ) → past d u ≡ 0
    → ((k : ℕ) → (p k).past d u ≡ 0) → taken_in K read p past d u ≡ 0
unfolding taken_in join
taken-zero K read p past d u e f =
    fold-keeps (λ (c : Clock). c u ≡ 0) K (λ k c. cond (test_bit read k) (join c ((p k).past d)) c)
    (λ k c _ z. one k c z (test_bit read k)) (past d) e
  where
    one : (k : ℕ) (c : Clock) → c u ≡ 0 → (b : Bool)
        → cond b (join c ((p k).past d)) c u ≡ 0
    one k c z true = rw (z, f k)
    one k c z false = z

pub taken-fits : (z : Counts) (read : ℕ) (p : Place Version) (past : ℕ → Clock) → FitPlace z p
    → FitPast z past → FitPast z (taken_in z.keys read p past)
taken-fits z read p past P F =
    past_in z (taken_in z.keys read p past) (λ d u o.
    taken-zero z.keys read p past d u (past-out z past F d u o)
    (λ k. past-out z (p k).past (place-fit z p P k).past d u o))

-- No row of S stands outside of the counts.
pub rows_fit : (z : Counts) (S w n : ℕ) (past : ℕ → Clock) → S < 2 ^ z.keys → w < z.writers
    → FitPast z past → FitPast z (rows_set S w n past)
unfolding rows_set
rows_fit z S w n past hS hw F =
    past_in z (rows_set S w n past) (λ d u o. rw (outside d u o) (past-out z past F d u o))
  where
    outside : (d u : ℕ) → (z.keys ≤ d) ⊎ (z.writers ≤ u) → test_bit S d && eqb u w ≡ false
    outside d u (inl h) = rw (test-high S z.keys d hS h)
    outside d u (inr h) = rw (ne_eqb u w (omega arith)) (and-false-right (test_bit S d))

-- ---- an issue by writer w from run r, of a mask S of keys

module _ (s : Store) (r w S : ℕ) (F : Fine s) (hr : r < s.counts.runs)
    (hw : w < s.counts.writers) (hS : S < 2 ^ s.counts.keys) where
  pub past_fits : FitPast s.counts (new_past s r w S)
  unfolding new_past
  past_fits =
      let z = s.counts in
      let a = s.run r in
      let old = (F.fits.writer.each w hw).past in
      let carried = (F.fits.run.each r hr).snapshot in
      rows_fit z S w _ _ hS hw
      (taken-fits z a.branch.read a.branch.snapshot (s.writer w).past carried old)

  -- The version that is saved.
  abbrev new : Version
  new = new_version (s.last + 1) w (new_past s r w S)

  version-fits : FitVersion s.counts new
  unfolding new_version
  version-fits = record { past = past_fits }

  pub master-fits : FitPlace s.counts (issued_master s.counts.writers S new s.master)
  unfolding issued_master
  master-fits =
      let z = s.counts in
      let old = F.fits.master in
      record {
        each = λ k h. test (test_bit S k)
            (λ t. rw t (fit-merge z k (s.master k) new (old.each k h) version-fits))
            (λ t. rw t (old.each k h));
        rest = λ k h. rw (test-high S z.keys k hS h) (old.rest k h);
      }

  -- The new version has an own row for each key of S.
  own_row : (k : ℕ) → So (test_bit S k) → VersionFormed s.counts k new
  unfolding new_version new_past rows_set held
  own_row k t =
      let W = s.counts.writers in
      version-held s.counts k new (le-leb 1 (s.last + 1) (omega arith))
      (leaders_in W (2 ^ w) (pow_pos w) (pow-lt hw))
      (present-intro W (new_past s r w S k) w hw (rw (t, eq-eqb w w refl) (omega arith)))

  master-formed : PlaceFormed s.counts (issued_master s.counts.writers S new s.master)
  unfolding issued_master
  master-formed k h =
      let z = s.counts in
      let old = (well-out s F.formed).master k h in
      test (test_bit S k) (λ t. rw t (version-merge z k (s.master k) new old (own_row k t)))
      (λ t. rw t old)

  saved-kept : (a : List ℕ) → Kept s (done a (with_run (saved_store s r w S) r free_run))
  unfolding saved_store issued_writer with_last with_writer with_master with_marks with_caches
      with_sites
      with_run
  saved-kept a =
      let z = s.counts in
      let n = s.last + 1 in
      let x : Writer = record { count = (s.writer w).count + 1; past = new_past s r w S } in
      let m = issued_master z.writers S new s.master in
      let s₁ = with_last s n in
      let s₂ = with_writer s₁ w x in
      let s₃ = with_marks (with_master s₂ m) in
      let f₁ : FitStore s₁ = fit-last s F.fits n in
      let f₂ : FitStore s₂ = fit-writer s₁ f₁ w x hw (record { past = past_fits }) in
      let f₃ : FitStore s₃ = fit-marks (with_master s₂ m) (fit-master s₂ f₂ m master-fits) in
      let g₁ : Formed s₁ = formed-last s (well-out s F.formed) n in
      let g₂ : Formed s₂ = formed-writer s₁ g₁ w x in
      let g₃ : Formed s₃ = formed-master s₂ g₂ m master-formed in
      kept-done s (with_run s₃ r free_run) a F (fit-run s₃ f₃ r free_run hr (fit_free z))
      (formed-run s₃ g₃ r free_run (free-formed z)) refl

  freed-kept : Kept s (issue_done s r w S)
  unfolding issue_done issued_store with_run
  freed-kept =
      let z = s.counts in
      test (eqb S 0)
      (λ t. rw t (kept-done s (with_run s r free_run) _ F
      (fit-run s F.fits r free_run hr (fit_free z))
      (formed-run s (well-out s F.formed) r free_run (free-formed z)) refl))
      (λ t. rw t (saved-kept _))

pub issue-kept : (r w S : ℕ) (s : Store) → Fine s → Kept s (issue_rule r w S s)
unfolding issue_rule issue_cause run_cause
issue-kept r w S s F =
    kept-unless s (issue_cause s r w S) (issue_done s r w S) F (λ e.
    let a = no-cause _ 3 _ (omega arith) e in
    let b = no-cause _ 3 _ (omega arith) a.1 in
    let c = no-cause _ 3 _ (omega arith) b.1 in
    freed-kept s r w S F (leb-gt _ _ c.0) (leb-gt _ _ a.0) (leb-gt _ _ b.0))
