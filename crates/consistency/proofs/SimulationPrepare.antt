-- Where one algebra stands for another, prepare leaves caches and a snapshot that do so too.
-- SameJobs: jobs that are equal as far as it counts. SitesBelow: jobs at sites that there are.
-- RelatedSites: the caches of sites that stand for each other.
-- Assumes nothing.
use mathlib.Core.Path.{◌≡◌, refl}
use mathlib.Core.Bool.{◌&&◌, cond}
use Prim.Native.Nat.{ℕ, zero, suc, ◌<◌}
use native.Mathlib.Omega.{arith}
use lib.Dec.{eqb}
use Rattle.words.specs.Tests.{Items}
use Rattle.words.specs.Numbers.{fold_below}
use Rattle.words.specs.Lists.{put_at}
use Rattle.masks.specs.Mask.{test_bit}
use Rattle.model.specs.Algebra.{Algebra, Place}
use Rattle.model.specs.Sets.{fetched}
use Rattle.model.specs.Store.{Job}
use Rattle.model.specs.Prepare.{job_start, fetch_reads, prepared_caches, sites_merged}
use Rattle.consistency.proofs.Simulation.{Simulates, Agree, Related, cond-rel, lacking-same, fetched-rel}

abbrev pub SameJobs : ℕ → (ℕ → Job) → (ℕ → Job) → Type 0
SameJobs n job job' = (j : ℕ) → j < n → job j ≡ job' j

-- The first n jobs are at sites below N.
abbrev pub SitesBelow : ℕ → ℕ → (ℕ → Job) → Type 0
SitesBelow N n job = (j : ℕ) → j < n → (job j).site < N

abbrev pub RelatedSites : {A B : Type 0} → ℕ → ℕ → (ℕ → A → B → Type 0) → (ℕ → Place A)
    → (ℕ → Place B) → Type 0
RelatedSites N K Rel f g = (o : ℕ) → o < N → Related K Rel (f o) (g o)

-- ---- related values after related steps

fold-rel : {A B : Type 0} (R : A → B → Type 0) (n : ℕ) (f : ℕ → A → A) (g : ℕ → B → B)
    (x : A) (y : B) → ((i : ℕ) (a : A) (b : B) → i < n → R a b → R (f i a) (g i b)) → R x y
    → R (fold_below n f x) (fold_below n g y)
unfolding fold_below
fold-rel R zero f g x y h r = r
fold-rel R (suc n) f g x y h r =
    h n (fold_below n f x) (fold_below n g y) (omega arith)
    (fold-rel R n f g x y (λ i a b l. h i a b (omega arith)) r)

-- ---- N sites, and n jobs at them

module _ {A B : Type 0} {X : Algebra A} {Y : Algebra B} {K : ℕ} {Rel : ℕ → A → B → Type 0}
    (L : Simulates X Y K Rel) where
  pub sites_merged-rel : (N : ℕ) (T T' S S' : Items) (f : ℕ → Place A) (g : ℕ → Place B)
      → Agree N T T' → Agree K S S' → RelatedSites N K Rel f g
      → Related K Rel (sites_merged X N T S f) (sites_merged Y N T' S' g)
  unfolding sites_merged
  sites_merged-rel N T T' S S' f g t e r k l =
      fold-rel (Rel k) N (λ o a. cond (T o && S k) (X.merge k a (f o k)) a)
      (λ o b. cond (T' o && S' k) (Y.merge k b (g o k)) b) X.nothing Y.nothing
      (λ o a b lo h. cond-rel (Rel k) (T o && S k) (T' o && S' k) (X.merge k a (f o k)) a
      (Y.merge k b (g o k)) b (rw (t o lo, e k l))
      (L.merge k a (f o k) b (g o k) l h (r o lo k l)) h)
      (L.nothing k)

  module _ (N : ℕ) (m : Place A) (m' : Place B) (job job' : ℕ → Job)
      (rm : Related K Rel m m') where
    module _ (j : ℕ) (f : ℕ → Place A) (g : ℕ → Place B) (e : job j ≡ job' j)
        (l : (job j).site < N) (r : RelatedSites N K Rel f g) where
      pub job_start-same : Agree K (job_start X K m job j f) (job_start Y K m' job' j g)
      unfolding job_start
      job_start-same =
          let reads = test_bit (job j).reads in
          rw (← e) (lacking-same L (f (job j).site) (g (job j).site) reads reads
          (r (job j).site l) (λ _ _. refl))

      pub fetch_reads-rel :
          RelatedSites N K Rel (fetch_reads X K m job j f) (fetch_reads Y K m' job' j g)
      unfolding fetch_reads put_at
      fetch_reads-rel o lo =
          let s = (job j).site in
          let s' = (job' j).site in
          cond-rel (Related K Rel) (eqb o s) (eqb o s')
          (fetched X K m (f s) (job_start X K m job j f)) (f o)
          (fetched Y K m' (g s') (job_start Y K m' job' j g)) (g o) (rw e)
          (fetched-rel L m (f s) m' (g s') (job_start X K m job j f) (job_start Y K m' job' j g) rm
          (rw (← e) (r s l)) job_start-same)
          (r o lo)

    pub prepared_caches-rel : (n : ℕ) (f : ℕ → Place A) (g : ℕ → Place B) → SameJobs n job job'
        → SitesBelow N n job → RelatedSites N K Rel f g
        → RelatedSites N K Rel (prepared_caches X K m job n f) (prepared_caches Y K m' job' n g)
    unfolding prepared_caches
    prepared_caches-rel n f g e s r =
        fold-rel (RelatedSites N K Rel) n (fetch_reads X K m job) (fetch_reads Y K m' job') f g
        (λ j x y l h. fetch_reads-rel j x y (e j l) (s j l) h) r
