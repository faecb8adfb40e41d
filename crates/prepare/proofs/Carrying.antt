-- The snapshot of a run of a buffer in form, after all merges.
-- snapshot_in_place: where it lies. merge-area: the same once it is cleared.
-- run-merged: the store after all merges.
-- Assumes nothing.
use mathlib.Core.Path.{◌≡◌, sym, ap, ◌∙◌, fun_ext}
use mathlib.Core.Bool.{Bool, cond, ◌&&◌}
use mathlib.Core.Logic.{inr}
use mathlib.Core.List.{List}
use Prim.Native.Nat.{ℕ, ◌<◌}
use lib.ListN.{length}
use lib.Seq.{length-sets}
use Rattle.words.proofs.Numbers.{fold_same}
use Rattle.masks.specs.Mask.{test_bit}
use Rattle.sizes.specs.declared.Counts.{Counts}
use Rattle.sizes.specs.Bounds.{site_at, snapshot_at}
use Rattle.sizes.specs.Runs.{every_job}
use Rattle.model.specs.Algebra.{Place}
use Rattle.model.specs.Version.{Version, unheld, merge, versions}
use Rattle.model.specs.Store.{empty_place, planned, with_run, with_snapshot}
use Rattle.model.specs.Prepare.{uses_site, sites_merged, site_caches}
use Rattle.layout.specs.Words.{place_words}
use Rattle.layout.specs.Reading.{read_place, store_of}
use Rattle.layout.specs.Stored.{put_place}
use Rattle.layout.specs.Buffer.{written}
use Rattle.layout.proofs.Readings.{cache_in}
use Rattle.layout.proofs.RunUpdates.{put-snapshot}
use Rattle.version.specs.Places.{Area}
use Rattle.version.proofs.Stores.{place-beside, snapshot-area}
use Rattle.form.proofs.Known.{form-area, form-counts, form-again}
use Rattle.form.specs.Parts.{reads_of}
use Rattle.form.proofs.Snapshots.{test-plan}
use Rattle.trial.specs.Jobs.{UsedRun}
use Rattle.trial.proofs.Known.{jobs-known, snapshot-behind}
use Rattle.prepare.specs.Turns.{merged_sites, merged, MergeArea}
use Rattle.prepare.proofs.Merging.{place_twice}

module _ (l : List ℕ) (z : Counts) (r : ℕ) (U : UsedRun l z r) where
  pub snapshot_in_place : Area (length l) z (snapshot_at z r 0)
  snapshot_in_place =
      let R = form-area l z U.form in
      snapshot-area (length l) z R.ranged R.fits r 0 U.run

  stored : (p : Place Version)
      → put_place z l (snapshot_at z r 0) p
      ≡ written (with_run (store_of l) r (with_snapshot ((store_of l).run r) p)) l
  stored p =
      let s = store_of l in
      let same = form-counts l z U.form in
      let put : put_place z (written s l) (snapshot_at z r 0) p
      ≡ written (with_run s r (with_snapshot (s.run r) p)) l =
      rw (← same) (put-snapshot s l r p (rw same U.run)) in
      ap (λ (m : List ℕ). put_place z m (snapshot_at z r 0) p) (sym (form-again l z U.form)) ∙ put

  -- at: where the snapshot is. m: the buffer with it cleared.
  module _ (at : ℕ) (c : at ≡ snapshot_at z r 0) (m : List ℕ)
      (e : m ≡ put_place z l at empty_place) where
    fits : Area (length l) z at
    fits = rw c snapshot_in_place

    cache-beside : (o : ℕ) → o < z.sites
        → read_place z m (site_at z o) ≡ read_place z l (site_at z o)
    cache-beside o h =
        rw e (place-beside z l at (site_at z o) empty_place
        (inr (rw c (snapshot-behind l z r U 0 o h))))

    pub merge-area : MergeArea m z at
    merge-area =
        let long : length m ≡ length l = rw e (length-sets l at (place_words z empty_place)) in
        record {
          area = rw long fits;
          behind = λ o h. rw c (snapshot-behind l z r U 0 o h);
          empty = rw e (place_twice z l at empty_place empty_place fits.fits);
        }

    module _ (sites plan : ℕ)
        (f : test_bit sites ≡ uses_site ((store_of l).run r).jobs ((store_of l).run r).job)
        (g : plan ≡ reads_of ((store_of l).run r).jobs ((store_of l).run r).job every_job) where
      -- The caches merged, as the code reads them.
      abbrev found : Place Version
      found =
          sites_merged (versions z.writers) z.sites (test_bit sites) (test_bit plan)
          (λ o. read_place z m (site_at z o))

      found_as : found ≡ merged_sites (store_of l) r z.sites
      unfolding merged_sites sites_merged site_caches
      found_as =
          let s = store_of l in
          let a = s.run r in
          let S : ℕ → ℕ → Bool = λ k o.
          uses_site a.jobs a.job o && planned a.jobs a.job k in
          let plan-is = test-plan a.jobs a.job (jobs-known l z r U).plan.jobs.high in
          rw (f, g, plan-is, form-counts l z U.form)
          (fun_ext (λ k. fold_same z.sites
          (λ o v. cond (S k o) (merge z.writers k v (read_place z m (site_at z o) k)) v)
          (λ o v. cond (S k o) (merge z.writers k v ((s.site o).cache k)) v)
          (λ o v h. ap (λ (p : Place Version). cond (S k o) (merge z.writers k v (p k)) v)
          (cache-beside o h ∙ sym (cache_in l z U.form.counts o h)))
          unheld))

      pub run-merged : (k : List ℕ) → k ≡ put_place z m at found
          → k ≡ written (merged (store_of l) r) l
      unfolding merged
      run-merged k h =
          let s = store_of l in
          let once : put_place z m at found ≡ put_place z l at found =
          ap (λ (t : List ℕ). put_place z t at found) e
          ∙ place_twice z l at empty_place found fits.fits in
          h ∙ once
          ∙ ap (λ (p : Place Version). put_place z l at p) found_as
          ∙ ap (λ (i : ℕ). put_place z l i (merged_sites s r z.sites)) c
          ∙ stored (merged_sites s r z.sites)
          ∙ ap (λ (y : Counts). written
          (with_run s r (with_snapshot (s.run r) (merged_sites s r y.sites))) l)
          (sym (form-counts l z U.form))
