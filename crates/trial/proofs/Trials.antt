-- The trial of a job finds what the rule of step does.
-- visit-is: a visit as the code makes it. VisitKnown, visit-known: what holds of it.
-- site-at, master-at, cache-at, old-..: the parts of the rule, where a visit reads them.
-- taken-read: T. cause-last: the causes by T, as the code tests them. trial-found: T and C.
-- BranchAt, branch-at: where a branch's snapshot and read mask stand.
-- Assumes nothing.
use mathlib.Core.Path.{◌≡◌, sym, ap, ◌∙◌}
use mathlib.Core.Bool.{Bool, cond, ◌||◌}
use mathlib.Core.List.{List}
use Prim.Native.Nat.{ℕ, ◌<◌, ◌^◌}
use native.Mathlib.Omega.{arith}
use lib.Bits.{bit_or}
use lib.Dec.{eqb}
use lib.ListN.{length, get_or}
use Rattle.words.specs.Tests.{Items}
use Rattle.masks.specs.Mask.{test_bit, mask_below}
use Rattle.masks.proofs.Bits.{test-or}
use Rattle.masks.proofs.Sets.{item_of}
use Rattle.sizes.specs.declared.Counts.{Counts}
use Rattle.sizes.specs.Bounds.{master_at, site_at, snapshot_at, read_at_of}
use Rattle.sizes.specs.Runs.{every_job}
use Rattle.sizes.proofs.Offsets.{ordered, run_lies, read-lies}
use Rattle.model.specs.Algebra.{Algebra, lacking}
use Rattle.model.specs.Version.{Version, versions}
use Rattle.model.specs.Sets.{draw_set, fetch_set, fetched, unfetchable}
use Rattle.model.specs.Tail.{barred}
use Rattle.model.specs.Store.{branch_of, Store}
use Rattle.model.specs.Allowance.{over}
use Rattle.model.specs.Outcome.{refuse}
use Rattle.model.specs.Step.{read_start, job_cause, step_cause, step_site, step_reads, step_start, step_fetch, step_cache, step_plan, step_pull, step_barred}
use Rattle.model.proofs.Steps.{step-below}
use Rattle.layout.specs.Reading.{read_place, store_of}
use Rattle.layout.proofs.Readings.{master_in, cache_in, snapshot_in, read_in}
use Rattle.version.specs.Places.{Area}
use Rattle.version.proofs.Stores.{master-area, site-area, snapshot-area}
use Rattle.form.specs.Parts.{reads_of, FormWith}
use Rattle.form.proofs.Known.{form-area, form-counts}
use Rattle.form.proofs.Snapshots.{test-plan}
use Rattle.sets.specs.Draws.{viewed}
use Rattle.fetching.specs.Takes.{takes_cause}
use Rattle.fetching.proofs.Taking.{taken-cause}
use Rattle.trial.specs.declared.Visit.{Visit}
use Rattle.trial.specs.declared.Trial.{Trial}
use Rattle.trial.specs.declared.jobs.PlannedJob.{PlannedJob}
use Rattle.trial.specs.Jobs.{UsedRun, planned_job}
use Rattle.trial.specs.Trials.{visit_of, trial_of}
use Rattle.trial.proofs.Known.{jobs-known, job-known}
use Rattle.trial.proofs.Masks.{taken-mask, pulled-mask}

-- ---- where a branch stands

-- The snapshot and the read mask of branch n of run r stand at two indices of the buffer.
pub record BranchAt (l : List ℕ) (z : Counts) (r n snapshot read : ℕ) : Type 0 where
  pub area : Area (length l) z snapshot
  pub place : (branch_of n ((store_of l).run r)).snapshot ≡ read_place z l snapshot
  pub low : read < length l
  pub mask : (branch_of n ((store_of l).run r)).read ≡ get_or l read 0

pub branch-at : (l : List ℕ) (z : Counts) (r n : ℕ) → FormWith l z → r < z.runs
    → (snapshot : ℕ) → snapshot ≡ snapshot_at z r n → BranchAt l z r n snapshot (read_at_of z r n)
branch-at l z r n H h snapshot e =
    let S = form-area l z H in
    let q = ordered z S.ranged in
    let t = run_lies z r h in
    let u = read-lies z r n in
    rw e (record {
      area = snapshot-area (length l) z S.ranged S.fits r n h;
      place = snapshot_in l z H.counts r n h;
      low = omega (arith, S.fits);
      mask = read_in l z H.counts r n h;
    })

-- ---- the visit of a job of a run that isn't free

-- m, c, p, x: what the code finds.
pub visit-is : (l : List ℕ) (z : Counts) (r j n snapshot read : ℕ) → FormWith l z
    → (branch_of n ((store_of l).run r)).read ≡ get_or l read 0 → let a = (store_of l).run r in
    (o m c p : ℕ) (x : PlannedJob) → o ≡ x.site → m ≡ master_at z → c ≡ site_at z o
    → p ≡ reads_of a.jobs a.job every_job → x ≡ planned_job (a.job j)
    → ◌≡◌ {A = Visit} (record {
      site = o;
      master = m;
      cache = c;
      snapshot = snapshot;
      plan = p;
      reads = x.reads;
      read = get_or l read 0;
    })
    (visit_of (store_of l) r j n snapshot)
unfolding visit_of step_site
visit-is l z r j n snapshot read H y o m c p x b d e f g =
    let site = b ∙ ap (λ (x : PlannedJob). x.site) g in
    rw (form-counts l z H, y) (λ i. record {
      site = site i;
      master = d i;
      cache = (e ∙ ap (site_at z) site) i;
      snapshot = snapshot;
      plan = f i;
      reads = (g i).reads;
      read = get_or l read 0;
    })

pub record VisitKnown (l : List ℕ) (z : Counts) (v : Visit) : Type 0 where
  pub site : v.site < z.sites
  pub master : Area (length l) z v.master
  pub cache : Area (length l) z v.cache
  pub reads : v.reads < 2 ^ z.keys

module _ (l : List ℕ) (z : Counts) (r j n snapshot : ℕ) (U : UsedRun l z r)
    (h : j < ((store_of l).run r).jobs) (v : Visit)
    (seen : v ≡ visit_of (store_of l) r j n snapshot) where
  abbrev s : Store
  s = store_of l

  site-low : step_site s r j n < z.sites
  unfolding step_site
  site-low = (job-known l z r U j h).site

  pub site-at : v.site ≡ step_site s r j n
  unfolding visit_of
  site-at = ap (λ (v : Visit). v.site) seen

  pub master-at : v.master ≡ master_at z
  unfolding visit_of
  master-at = ap (λ (v : Visit). v.master) seen ∙ ap master_at (form-counts l z U.form)

  pub cache-at : v.cache ≡ site_at z (step_site s r j n)
  unfolding visit_of
  cache-at =
      ap (λ (v : Visit). v.cache) seen
      ∙ ap (λ (z : Counts). site_at z (step_site s r j n)) (form-counts l z U.form)

  pub old-master : s.master ≡ read_place z l v.master
  old-master = rw master-at (master_in l z U.form.counts)

  pub old-cache : (s.site (step_site s r j n)).cache ≡ read_place z l v.cache
  old-cache = rw cache-at (cache_in l z U.form.counts (step_site s r j n) site-low)

  pub old-reads : step_reads s r j n ≡ test_bit v.reads
  unfolding step_reads visit_of
  old-reads = rw seen

  pub old-plan : step_plan s r j n ≡ test_bit v.plan
  unfolding step_plan visit_of
  old-plan = rw seen (sym (test-plan _ _ (jobs-known l z r U).plan.jobs.high))

  pub visit-known : VisitKnown l z v
  unfolding visit_of
  visit-known =
      let S = form-area l z U.form in
      record {
        site = rw site-at site-low;
        master = rw master-at (master-area (length l) z S.ranged S.fits);
        cache = rw cache-at (site-area (length l) z S.ranged S.fits _ site-low);
        reads = rw seen (job-known l z r U j h).reads;
      }

  -- wanted, start: what the code finds one after the other.
  module _ (read : ℕ) (L : BranchAt l z r n snapshot read) (wanted start : ℕ)
      (w : wanted ≡ mask_below z.keys (lacking (versions z.writers) z.keys
      (read_place z l snapshot) (test_bit v.reads)))
      (e : start ≡ mask_below z.keys (lacking (versions z.writers) z.keys
      (read_place z l v.cache) (test_bit wanted))) where
    abbrev alg : Algebra Version
    alg = versions z.writers

    abbrev begin : Items
    begin =
        read_start alg z.keys (read_place z l snapshot) (read_place z l v.cache)
        (test_bit v.reads)

    -- t: T, as the code finds it at the site.
    pub taken-read : (t : ℕ)
        → t ≡ mask_below z.keys (fetch_set alg z.keys s.master (s.site v.site).cache
        (test_bit start))
        → t ≡ mask_below z.keys (fetch_set alg z.keys (read_place z l v.master)
        (read_place z l v.cache) (test_bit start))
    taken-read t f = rw (← old-master, ← old-cache, ← site-at) f

    -- What the site must have the right to: the reads, and T.
    asked-key : (t : ℕ) (T : Items) → t ≡ mask_below z.keys T → (k : ℕ) → k < z.keys
        → test_bit (bit_or v.reads t) k ≡ step_reads s r j n k || T k
    asked-key t T e k i = rw old-reads
        (test-or v.reads t k
        ∙ ap (λ (b : Bool). test_bit v.reads k || b) (item_of z.keys t T e k i))

    pub cause-last : (t : ℕ) → job_cause (s.run r) j n 0 ≡ 0
        → t ≡ mask_below z.keys (fetch_set alg z.keys s.master (s.site v.site).cache
        (test_bit start))
        → step_cause s r j n ≡ takes_cause z s v.site (bit_or v.reads t) t
    unfolding step_start step_fetch step_cache step_barred
    cause-last t free f =
        let o = step_site s r j n in
        let S = step_start s r j n in
        let T : Counts → Items = λ y.
        fetch_set (versions y.writers) y.keys s.master (s.site o).cache S in
        let rows : Counts → ℕ = λ y.
        let alg = versions y.writers in
        refuse (barred y.keys (s.tail.may_hold o) (λ k. step_reads s r j n k || T y k)) 13
        (refuse (unfetchable alg y.keys s.master S) 7
        (refuse (over y (s.site o) (fetched alg y.keys s.master (s.site o).cache S)) 12
        0)) in
        let mask : t ≡ mask_below z.keys (T z)
        = rw (old-reads, old-cache, L.place, old-master, form-counts l z U.form)
        (taken-mask alg z.keys (read_place z l v.master) _ _ _ wanted start w e t
        (taken-read t f)) in
        step-below s r j n (rw (form-counts l z U.form) U.run)
        ∙ ap (λ (c : ℕ). cond (eqb c 0) (rows s.counts) c) free
        ∙ ap rows (form-counts l z U.form)
        ∙ sym (taken-cause z s o S (λ k. step_reads s r j n k || T z k) (bit_or v.reads t) t
        (asked-key t (T z) mask) mask)
        ∙ ap (λ (o : ℕ). takes_cause z s o (bit_or v.reads t) t) (sym site-at)

    pub trial-found : (t p : ℕ)
        → t ≡ mask_below z.keys (fetch_set alg z.keys (read_place z l v.master)
        (read_place z l v.cache) (test_bit start))
        → p ≡ mask_below z.keys (draw_set alg z.keys (test_bit v.plan)
        (read_place z l snapshot)
        (viewed z l (record { mask = t; first = v.master; second = v.cache }))
        (test_bit wanted))
        → ◌≡◌ {A = Trial} (record { taken = t; pulled = p }) (trial_of s r j n)
    unfolding trial_of step_fetch step_pull step_cache step_start viewed
    trial-found t p f g =
        let taken : t ≡ mask_below s.counts.keys (step_fetch s r j n) =
        rw (old-reads, old-cache, L.place, old-master, form-counts l z U.form)
        (taken-mask alg z.keys (read_place z l v.master) _ _ _ wanted start w e t f) in
        let pulled : p ≡ mask_below s.counts.keys (step_pull s r j n) =
        rw (old-reads, old-plan, old-cache, L.place, old-master, form-counts l z U.form)
        (pulled-mask alg z.keys (read_place z l v.master) _ _ _ wanted start w e t f
        (test_bit v.plan) p g) in
        λ i. record { taken = taken i; pulled = pulled i }
