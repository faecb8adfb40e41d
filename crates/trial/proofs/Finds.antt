-- What holds of a trial that found something: where its places lie, and its masks.
-- found-..: of the visit and the trial. moved-..: C's keys that the run has read.
-- Assumes nothing.
use mathlib.Core.Path.{◌≡◌, sym, ap, ◌∙◌}
use mathlib.Core.Bool.{Bool, false, not, So, ◌&&◌}
use mathlib.Core.Logic.{◌≢◌}
use mathlib.Core.List.{List}
use Prim.Native.Nat.{ℕ, ◌<◌}
use native.Mathlib.Omega.{arith}
use lib.Bits.{bit_and, and_le_l}
use lib.Dec.{eqb}
use Rattle.words.specs.Tests.{Items, any_below}
use Rattle.words.proofs.Bools.{ne_eqb, eq-eqb, not-not}
use Rattle.masks.specs.Mask.{test_bit, mask_below}
use Rattle.masks.proofs.Bits.{test-and}
use Rattle.masks.proofs.Sets.{mask_lt, set-none, mask_is, item_of}
use Rattle.sizes.specs.declared.Counts.{Counts}
use Rattle.sizes.specs.Bounds.{master_at, site_at, snapshot_at}
use Rattle.model.specs.Store.{Store}
use Rattle.model.specs.Step.{step_branch, step_site, step_fetch, step_pull}
use Rattle.model.proofs.Steps.{step-free}
use Rattle.layout.specs.Reading.{read_place, store_of}
use Rattle.layout.proofs.Readings.{snapshot_in}
use Rattle.form.proofs.Known.{form-counts}
use Rattle.trial.specs.declared.Visit.{Visit}
use Rattle.trial.specs.declared.Trial.{Trial}
use Rattle.trial.specs.Jobs.{UsedRun}
use Rattle.trial.specs.Trials.{visit_of, trial_of, Finds}
use Rattle.trial.proofs.Known.{job-known, job-ready}
use Rattle.trial.proofs.Trials.{site-at, master-at, cache-at, old-master, old-cache}

-- ---- the visit and the trial

module _ (l : List ℕ) (z : Counts) (r j n : ℕ) (v : Visit) (t : Trial)
    (F : Finds l z r j n v t) where
  abbrev s : Store
  s = store_of l

  pub found-counts : s.counts ≡ z
  found-counts = form-counts l z F.form

  pub found-run : UsedRun l z r × (j < (s.run r).jobs)
  found-run =
      let f = step-free s r j n F.free in
      job-ready l z r j F.form (rw (← found-counts) f.0) n f.1

  pub found-site : step_site s r j n < z.sites
  unfolding step_site
  found-site = (job-known l z r found-run.0 j found-run.1).site

  pub found-taken : t.taken ≡ mask_below s.counts.keys (step_fetch s r j n)
  unfolding trial_of
  found-taken = ap (λ (t : Trial). t.taken) F.trial

  pub found-pulled : t.pulled ≡ mask_below s.counts.keys (step_pull s r j n)
  unfolding trial_of
  found-pulled = ap (λ (t : Trial). t.pulled) F.trial

  pub found-read : v.read ≡ (step_branch s r j n).read
  unfolding visit_of
  found-read = ap (λ (v : Visit). v.read) F.visit

  pub found-reads : v.reads ≡ ((s.run r).job j).reads
  unfolding visit_of
  found-reads = ap (λ (v : Visit). v.reads) F.visit

  pub found-snapshot-at : v.snapshot ≡ snapshot_at z r n
  unfolding visit_of
  found-snapshot-at = ap (λ (v : Visit). v.snapshot) F.visit

  pub found-site-at : v.site ≡ step_site s r j n
  found-site-at = site-at l z r j n (snapshot_at z r n) found-run.0 found-run.1 v F.visit

  pub found-cache-at : v.cache ≡ site_at z (step_site s r j n)
  found-cache-at = cache-at l z r j n (snapshot_at z r n) found-run.0 found-run.1 v F.visit

  pub found-master-at : v.master ≡ master_at z
  found-master-at =
      master-at l z r j n (snapshot_at z r n) found-run.0 found-run.1 v F.visit

  pub found-master : s.master ≡ read_place z l v.master
  found-master = old-master l z r j n (snapshot_at z r n) found-run.0 found-run.1 v F.visit

  pub found-cache : (s.site (step_site s r j n)).cache ≡ read_place z l v.cache
  found-cache = old-cache l z r j n (snapshot_at z r n) found-run.0 found-run.1 v F.visit

  pub found-snapshot : (step_branch s r j n).snapshot ≡ read_place z l v.snapshot
  found-snapshot = rw found-snapshot-at (snapshot_in l z F.form.counts r n found-run.0.run)

-- ---- C's keys in the read mask m

module _ (K p m : ℕ) (C : Items) (e : p ≡ mask_below K C) where
  pub moved-mask : bit_and p m ≡ mask_below K (λ k. C k && test_bit m k)
  moved-mask =
      mask_is K (bit_and p m) (λ k. C k && test_bit m k)
      (omega (arith, and_le_l p m, e, mask_lt K C K (omega arith)))
      (λ k i. test-and p m k ∙ ap (λ (b : Bool). b && test_bit m k) (item_of K p C e k i))

  moved-test : any_below K (λ k. C k && test_bit m k) ≡ not (eqb (bit_and p m) 0)
  moved-test =
      sym (not-not (any_below K (λ k. C k && test_bit m k)))
      ∙ ap not (sym (ap (λ (n : ℕ). eqb n 0) moved-mask
      ∙ set-none K (λ k. C k && test_bit m k)))

  pub moved-some : bit_and p m ≢ 0 → So (any_below K (λ k. C k && test_bit m k))
  moved-some h = moved-test ∙ ap not (ne_eqb (bit_and p m) 0 h)

  pub moved_none : bit_and p m ≡ 0 → any_below K (λ k. C k && test_bit m k) ≡ false
  moved_none h = moved-test ∙ ap not (eq-eqb (bit_and p m) 0 h)
