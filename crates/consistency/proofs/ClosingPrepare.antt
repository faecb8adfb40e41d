-- Cuts on copies through prepare: the caches after its fetches, and their merge, are cuts.
-- merged-..: what is in a merge, and behind it.
-- CutsWithin: caches that are cuts within the master, and ..-cuts: that they stay so.
-- Assumes nothing.
use mathlib.Core.Path.{◌≡◌, refl}
use mathlib.Core.Bool.{◌&&◌, So}
use mathlib.Core.Logic.{◌⊎◌, inl, inr, ⊎_elim}
use Prim.Native.Nat.{ℕ, zero, suc, ◌<◌}
use native.Mathlib.Omega.{arith}
use lib.Dec.{eqb}
use Rattle.words.specs.Tests.{Items}
use Rattle.words.specs.Numbers.{fold_below}
use Rattle.words.specs.Lists.{put_at}
use Rattle.words.proofs.Bools.{test, clash, and_intro, and_left, and_right, eqb-eq}
use Rattle.words.proofs.Tests.{below_or_not}
use Rattle.words.proofs.Numbers.{fold-keeps}
use Rattle.model.specs.Algebra.{Algebra, Place, everything}
use Rattle.model.specs.Store.{Job}
use Rattle.model.specs.Prepare.{job_start, fetch_reads, prepared_caches, sites_merged}
use Rattle.consistency.proofs.CopyLaws.{Writes, CopyLaws, CopyCut, PartIn}
use Rattle.consistency.proofs.ClosingSets.{fetched-part, fetched-closed}

-- Of every site below N the cache is a cut, within the master.
abbrev pub CutsWithin : {A : Type 0} → Writes A → ℕ → ℕ → Place A → (ℕ → Place A) → Type 0
CutsWithin S K N master f =
    (o : ℕ) → o < N → CopyCut S K everything (f o) × PartIn S K (f o) master

module _ {A : Type 0} {alg : Algebra A} {S : Writes A} (L : CopyLaws alg S) (K : ℕ) where
  -- ---- the merge of the caches of some sites, cut down to the plan

  module _ (sites plan : Items) (cache : ℕ → Place A) where
    abbrev merged : ℕ → Place A
    merged N = sites_merged alg N sites plan cache

    -- A claim that holds of the copy on one of the sites.
    abbrev OnSite : (A → Type 0) → ℕ → ℕ → Type 0
    OnSite P N k = (o : ℕ) × (o < N) × So (sites o) × So (plan k) × P (cache o k)

    one_more : (P : A → Type 0) (n k : ℕ) → OnSite P n k → OnSite P (suc n) k
    one_more P n k r = (r.0, omega arith, r.2, r.3, r.4)

    -- What holds of a merge, and of nothing never, holds on a site.
    merged-one : (k : ℕ) (P : A → Type 0) → (P alg.nothing → ⊥)
        → ((a b : A) → P (alg.merge k a b) → P a ⊎ P b) → (N : ℕ) → P (merged N k) → OnSite P N k
    unfolding sites_merged fold_below
    merged-one k P never split zero p = absurd (never p)
    merged-one k P never split (suc n) p =
        test (sites n && plan k)
        (λ y.
        let q : P (alg.merge k (merged n k) (cache n k)) = rw y at p in
        elim (split (merged n k) (cache n k) q) [
          | inl a ↦ one_more P n k (merged-one k P never split n a)
          | inr b ↦
              let s = and_left (sites n) (plan k) y in
              (n, omega arith, s, and_right (sites n) (plan k) y, b)
        ])
        (λ y. one_more P n k (merged-one k P never split n (rw y at p)))

    merged-from : (N k : ℕ) (x : S.Write) → S.includes k (merged N k) x
        → OnSite (λ a. S.includes k a x) N k
    merged-from N k x =
        merged-one k (λ a. S.includes k a x) (L.nothing_in k x)
        (λ a b. (L.merge_in k a b x).0) N

    merged-behind : (N k d : ℕ) (x : S.Write) → S.behind d (merged N k) x
        → OnSite (λ a. S.behind d a x) N k
    merged-behind N k d x =
        merged-one k (λ a. S.behind d a x) (L.nothing-behind d x)
        (λ a b. L.merge-behind k d a b x) N

    merged-has : (N o k : ℕ) (x : S.Write) → o < N → So (sites o) → So (plan k)
        → S.includes k (cache o k) x → S.includes k (merged N k) x
    unfolding sites_merged fold_below
    merged-has zero o k x l s p q = absurd (omega (arith, l))
    merged-has (suc n) o k x l s p q =
        test (sites n && plan k)
        (λ y. rw y ((L.merge_in k (merged n k) (cache n k) x).1 (⊎_elim
        (λ m. inl (merged-has n o k x m s p q))
        (λ m. let e : o ≡ n = omega arith in inr (rw e at q)) (below_or_not o n))))
        (λ y. rw y (⊎_elim (λ m. merged-has n o k x m s p q)
        (λ m.
        let e : o ≡ n = omega arith in
        clash (and_intro (rw e at s) p) y) (below_or_not o n)))

    merged-good : (N k : ℕ) → ((o : ℕ) → o < N → S.good k (cache o k)) → S.good k (merged N k)
    unfolding sites_merged fold_below
    merged-good zero k g = L.nothing-good k
    merged-good (suc n) k g =
        let m = merged-good n k (λ o l. g o (omega arith)) in
        test (sites n && plan k)
        (λ y. rw y (L.merge-good k (merged n k) (cache n k) m (g n (omega arith))))
        (λ y. rw y m)

    pub sites_merged-closed : (N : ℕ) → ((o : ℕ) → o < N → CopyCut S K everything (cache o))
        → CopyCut S K plan (merged N)
    sites_merged-closed N c = record {
      good = λ k l. merged-good N k (λ o i. (c o i).good k l);
      within = λ k x _ p. (merged-from N k x p).3;
      closed = λ k d x lk ld s p.
          let r = merged-behind N k d x p in
          merged-has N r.0 d x r.1 r.2 s
          ((c r.0 r.1).closed k d x lk ld refl r.4);
    }

  -- ---- the caches after the fetches of jobs

  module _ (N : ℕ) (master : Place A) (cm : CopyCut S K everything master) (job : ℕ → Job) where
    fetch_reads-cuts : (j : ℕ) (f : ℕ → Place A) → CutsWithin S K N master f
        → CutsWithin S K N master (fetch_reads alg K master job j f)
    unfolding fetch_reads put_at
    fetch_reads-cuts j f c o l =
        let s = (job j).site in
        let start = job_start alg K master job j f in
        test (eqb o s)
        (λ y.
        let z = c s (rw (← eqb-eq o s y) l) in
        let p = fetched-part L K master (f s) start z.1 in
        rw y (fetched-closed L K master (f s) start z.1 cm z.0, p))
        (λ n. rw n (c o l))

    pub prepared_caches-cuts : (n : ℕ) (f : ℕ → Place A) → CutsWithin S K N master f
        → CutsWithin S K N master (prepared_caches alg K master job n f)
    unfolding prepared_caches
    prepared_caches-cuts n f c =
        fold-keeps (CutsWithin S K N master) n (fetch_reads alg K master job)
        (λ j g _ d. fetch_reads-cuts j g d) f c
