-- Prepare keeps a store fine.
-- Caches: caches that fit and are formed. merged-..: the snapshot that they are merged into.
-- Accepted: what a prepare that is not refused has passed. was, unread: the run before it, with no
-- key read.
-- Assumes nothing.
use mathlib.Core.Path.{◌≡◌, refl, sym, ap, ◌∙◌}
use mathlib.Core.Bool.{Bool, true, false, cond, So, ◌&&◌}
use Prim.Native.Nat.{ℕ, ◌≤◌, ◌<◌}
use native.Mathlib.Omega.{arith}
use Rattle.words.specs.Tests.{Items}
use Rattle.words.proofs.Bools.{test, clash, or-none, leb-gt, eqb-eq}
use Rattle.words.proofs.Numbers.{fold-keeps}
use Rattle.words.proofs.Tests.{any_none}
use Rattle.masks.specs.Mask.{test_bit}
use Rattle.masks.proofs.Bits.{test-or, test-none}
use Rattle.sizes.specs.declared.Counts.{Counts}
use Rattle.model.specs.Algebra.{Place}
use Rattle.model.specs.Version.{Version, unheld, held, merge, versions}
use Rattle.model.specs.Sets.{fetched}
use Rattle.model.specs.Store.{Job, Run, Site, Store, empty_place, planned, with_sites, with_caches, with_run, with_snapshot}
use Rattle.model.specs.Allowance.{held_count}
use Rattle.model.specs.Form.{run_formed}
use Rattle.model.specs.Outcome.{allowed, prepare_row, run_cause}
use Rattle.model.specs.Prepare.{job_start, fetch_reads, prepared_caches, unentitled, uses_site, sites_merged, site_caches, any_over, prepare_cause, prepare_caches, prepare_snapshot, prepare_done, prepare_rule}
use Rattle.model.proofs.Merges.{held-unheld, merge-unheld-left}
use Rattle.model.proofs.Outcomes.{no-cause, no-lack, allowed-used}
use Rattle.model.proofs.Allowances.{over_no}
use Rattle.model.proofs.Rights.{unbarred-fetched}
use Rattle.model.proofs.AtOnce.{prepared-at-once, unentitled-sites}
use Rattle.model.proofs.DoneReads.{done_reads-none}
use Rattle.layout.proofs.Parts.{FitVersion, FitPlace}
use Rattle.layout.proofs.Runs.{FitRun}
use Rattle.layout.proofs.Codec.{FitMany, fit-put}
use Rattle.layout.proofs.Fit.{fit-unheld, fit-merge, fit-caches, fit-run}
use Rattle.model.proofs.FormedPlaces.{VersionFormed, version-unheld, version-merge, PlaceFormed}
use Rattle.model.proofs.Formed.{Unbarred, well-out}
use Rattle.model.proofs.FormedNext.{formed-caches, formed-run}
use Rattle.model.proofs.Plans.{valid-out, Jobs, read_both, Plan, plan-out, plan_in}
use Rattle.model.proofs.Branches.{on_both, Snapshot}
use Rattle.layout.proofs.Follow.{Fine}
use Rattle.layout.proofs.Kept.{Kept, kept-done, kept-unless, fetched-fits, fetched-formed}

-- ---- the caches

-- A place that fits and is formed; such caches, and nothing beyond the sites.
record Good (z : Counts) (p : Place Version) : Type 0 where
  fits : FitPlace z p
  formed : PlaceFormed z p

abbrev Caches : Counts → (ℕ → Place Version) → Type 0
Caches z = FitMany z.sites empty_place (Good z)

store-caches : (s : Store) → Fine s → Caches s.counts (site_caches s)
unfolding site_caches
store-caches s F = record {
  each = λ o h. record {
    fits = (F.fits.site.each o h).cache;
    formed = (well-out s F.formed).cache o h;
  };
  rest = λ o h. ap (λ (x : Site). x.cache) (F.fits.site.rest o h);
}

-- A job's fetch keeps them so, and all of them.
reads-caches : (z : Counts) (master : Place Version) (job : ℕ → Job) (j : ℕ)
    (cache : ℕ → Place Version) → Good z master → (job j).site < z.sites → Caches z cache
    → Caches z (fetch_reads (versions z.writers) z.keys master job j cache)
unfolding fetch_reads
reads-caches z master job j cache M h C =
    let alg = versions z.writers in
    let o = (job j).site in
    let start = job_start alg z.keys master job j cache in
    let p = fetched alg z.keys master (cache o) start in
    fit-put cache o p C h (record {
      fits = fetched-fits z master (cache o) start M.fits (C.each o h).fits;
      formed = fetched-formed z master (cache o) start M.formed (C.each o h).formed;
    })

prepared : (z : Counts) (master : Place Version) (job : ℕ → Job) (n : ℕ)
    (cache : ℕ → Place Version) → Good z master → Jobs z n job → Caches z cache
    → Caches z (prepared_caches (versions z.writers) z.keys master job n cache)
unfolding prepared_caches
prepared z master job n cache M J C =
    fold-keeps (Caches z) n (fetch_reads (versions z.writers) z.keys master job)
    (λ j c l D. reads-caches z master job j c M (valid-out z j (job j) (J.valid j l)).site D)
    cache C

-- ---- the snapshot

module _ (z : Counts) (sites plan : Items) (cache : ℕ → Place Version) (C : Caches z cache) where
  merged : Place Version
  merged = sites_merged (versions z.writers) z.sites sites plan cache

  -- What holds of an unheld version, and of a merge with a cache's, holds of each version.
  merged-all : (P : Version → Type 0) (k : ℕ) → P unheld
      → ((o : ℕ) (v : Version) → o < z.sites → So (plan k) → P v → P
      (merge z.writers k v (cache o k)))
      → P (merged k)
  unfolding merged sites_merged
  merged-all P k base step =
      fold-keeps P z.sites (λ o v. cond (sites o && plan k)
      (merge z.writers k v (cache o k)) v)
      (λ o v l p. one o v l p (sites o) (plan k) (step o v l)) unheld base
    where
      one : (o : ℕ) (v : Version) → o < z.sites → P v → (a b : Bool)
          → (So b → P v → P (merge z.writers k v (cache o k))) → P
          (cond (a && b) (merge z.writers k v (cache o k)) v)
      one o v l p true true f = f refl p
      one o v l p true false f = p
      one o v l p false b f = p

  merged-fits : FitPlace z merged
  merged-fits = record {
    each = λ k h. merged-all (FitVersion z) k (fit-unheld z)
        (λ o v l _ F. fit-merge z k v (cache o k) F ((C.each o l).fits.each k h));
    rest = λ k h. merged-all (λ (v : Version). v ≡ unheld) k refl
        (λ o v l _ e. rw (e, (C.each o l).fits.rest k h)
        (merge-unheld-left z.writers k unheld unheld held-unheld));
  }

  merged-formed : PlaceFormed z merged
  merged-formed k h =
      merged-all (VersionFormed z k) k (version-unheld z k)
      (λ o v l _ F. version-merge z k v (cache o k) F ((C.each o l).formed k h))

  merged-planned : (k : ℕ) → So (held (merged k)) → So (plan k)
  merged-planned k p =
      test (plan k) (λ t. t)
      (λ t. clash p (merged-all (λ (v : Version). held v ≡ false) k held-unheld
      (λ o v _ q _. clash q t)))

-- ---- prepare of run r, with no job done

pub record Accepted (s : Store) (r : ℕ) : Type 0 where
  pub run : r < s.counts.runs
  pub state : 1 ≤ (s.run r).state
  pub done : (s.run r).done ≡ 0
  pub entitled : unentitled (versions s.counts.writers) s.counts.keys s.master
      (s.run r).job s.tail.may_hold (s.run r).jobs (site_caches s) ≡ false
  pub fits : (o : ℕ) → o < s.counts.sites
      → held_count s.counts.keys (prepare_caches s r o) ≤ (s.site o).allowance

pub accepted : (s : Store) (r : ℕ) → prepare_cause s r ≡ 0 → Accepted s r
unfolding prepare_cause run_cause allowed any_over
accepted s r e =
    let a = no-cause _ 3 _ (omega arith) e in
    let b = no-lack _ 4 _ (omega arith) a.1 in
    let m = no-cause _ 14 _ (omega arith) b.1 in
    let c = no-lack _ 6 _ (omega arith) m.1 in
    let t = no-cause _ 13 _ (omega arith) c.1 in
    let d = no-cause _ 7 _ (omega arith) t.1 in
    let f = no-cause _ 12 0 (omega arith) d.1 in
    record {
      run = leb-gt _ _ a.0;
      state = allowed-used prepare_row (s.run r).state refl b.0;
      done = eqb-eq (s.run r).done 0 c.0;
      entitled = t.0;
      fits = λ o h. over_no s.counts (s.site o) (prepare_caches s r o)
          (any_none s.counts.sites _ f.0 o h);
    }

module _ (s : Store) (r : ℕ) (F : Fine s) (A : Accepted s r) where
  pub was : Plan s.counts (s.run r)
  was = plan-out s.counts (s.run r) A.state ((well-out s F.formed).run r A.run)

  caches : Caches s.counts (prepare_caches s r)
  unfolding prepare_caches
  caches =
      let a = s.run r in
      let M : Good s.counts s.master =
      record { fits = F.fits.master; formed = (well-out s F.formed).master } in
      prepared s.counts s.master a.job a.jobs (site_caches s) M was.jobs
      (store-caches s F)

  -- No cache takes a key that its site may not hold.
  unbarred : (o : ℕ) → o < s.counts.sites
      → Unbarred s.counts (s.tail.may_hold o) (prepare_caches s r o)
  unfolding prepare_caches site_caches
  unbarred o h =
      let z = s.counts in
      let a = s.run r in
      let alg = versions z.writers in
      let cache = site_caches s in
      let none = any_none z.sites _ (sym (unentitled-sites alg z.keys s.master a.job
      cache s.tail.may_hold z.sites a.jobs
      (λ j l. (valid-out z j (a.job j) (was.jobs.valid j l)).site)) ∙ A.entitled) o h in
      rw (prepared-at-once alg z.keys s.master a.job cache a.jobs o)
      (unbarred-fetched z.keys (s.tail.may_hold o) z.writers (cache o) _ s.master
      ((well-out s F.formed).right o h) none)

  -- No key is read.
  pub unread : (k : ℕ) → test_bit (s.run r).branch.read k ≡ false
  unread k =
      let a = s.run r in
      let K = s.counts.keys in
      let e : read_both a ≡ 0 =
      was.masks.reads ∙ rw A.done (done_reads-none K a.jobs a.job) in
      (or-none (test_bit a.branch.read k) (test_bit a.second.read k)
      (sym (test-or a.branch.read a.second.read k)
      ∙ ap (λ (m : ℕ). test_bit m k) e ∙ test-none k)).0

  after : Run
  after = with_snapshot (s.run r) (prepare_snapshot s r)

  after-fits : FitRun s.counts after
  unfolding after with_snapshot prepare_snapshot merged
  after-fits =
      let z = s.counts in
      let a = s.run r in
      record {
        job = (F.fits.run.each r A.run).job;
        snapshot = merged-fits z (uses_site a.jobs a.job) (planned a.jobs a.job)
            (prepare_caches s r) caches;
        second = (F.fits.run.each r A.run).second;
      }

  after-formed : So (run_formed s.counts after)
  unfolding after with_snapshot prepare_snapshot merged
  after-formed =
      let z = s.counts in
      let a = s.run r in
      let sites = uses_site a.jobs a.job in
      let plan = planned a.jobs a.job in
      plan_in z after A.state (record {
        state = was.state;
        jobs = was.jobs;
        masks = was.masks;
        mark = record { high = was.mark.high; single = was.mark.single };
        snapshot = on_both (Snapshot z a.jobs a.job) after (record {
          place = merged-formed z sites plan (prepare_caches s r) caches;
          carried = λ k _ p. merged-planned z sites plan (prepare_caches s r) caches k p;
          has = λ k _ p. clash p (unread k);
        }) (was.snapshot 1);
      })

  done-kept : Kept s (prepare_done s r)
  unfolding prepare_done after with_caches with_sites with_run
  done-kept =
      let p = prepare_caches s r in
      let s₁ = with_caches s p in
      let f₁ = fit-caches s F.fits p
      (record { each = λ o h. (caches.each o h).fits; rest = caches.rest }) in
      let g₁ = formed-caches s (well-out s F.formed) p
      (λ o h. ((caches.each o h).formed, A.fits o h, unbarred o h)) in
      kept-done s (with_run s₁ r after) _ F (fit-run s₁ f₁ r after A.run after-fits)
      (formed-run s₁ g₁ r after after-formed) refl

pub prepare-kept : (r : ℕ) (s : Store) → Fine s → Kept s (prepare_rule r s)
unfolding prepare_rule
prepare-kept r s F =
    kept-unless s (prepare_cause s r) (prepare_done s r) F (λ e. done-kept s r F (accepted s r e))
