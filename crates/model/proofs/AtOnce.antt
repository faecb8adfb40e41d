-- Prepare office by office: what it fetches job by job is one fetch at each site, for every
-- algebra, also where the master lacks a key that is read.
-- site_reads: what the jobs at a site read. job_set: T of a job in its turn.
-- prepared-at-once: a cache after the fetches. prepared-sets: the T of its jobs together.
-- unpreparable-sites: whether the master lacks a key that is to be fetched. unentitled-sites:
-- whether a site may not hold one.
-- Assumes nothing.
use mathlib.Core.Path.{◌≡◌, refl, sym, ap, ◌∙◌, fun_ext}
use mathlib.Core.Bool.{Bool, false, not, ◌&&◌, ◌||◌, So}
use Prim.Native.Nat.{ℕ, zero, suc, ◌<◌}
use lib.Dec.{eqb}
use Rattle.words.specs.Tests.{Items, any_below}
use Rattle.words.specs.Numbers.{fold_below}
use Rattle.words.proofs.Bools.{test, same_test, and_intro, and_left, and_right, or-false-right, eqb-eq, eq-eqb, ne_eqb, ◌∙˙◌}
use Rattle.words.proofs.Tests.{any-intro, any_some, any_same}
use Rattle.words.proofs.Lists.{put_at_cases}
use Rattle.masks.specs.Mask.{test_bit}
use Rattle.model.specs.Algebra.{Algebra, Place, lacking}
use Rattle.model.specs.Sets.{fetch_set, fetched, unfetchable}
use Rattle.model.specs.Tail.{barred}
use Rattle.model.specs.Store.{Job}
use Rattle.model.specs.Prepare.{job_start, job_fetch, fetch_reads, prepared_caches, unentitled, unpreparable}
use Rattle.model.proofs.Draws.{fetch_set-none, fetched-none, unfetchable-set}
use Rattle.model.proofs.Twice.{fetch_set-twice, fetched-twice}

-- What the jobs at site o of the first n read.
abbrev pub site_reads : ℕ → (ℕ → Job) → ℕ → Items
site_reads n job o k = any_below n (λ j. eqb (job j).site o && test_bit (job j).reads k)

module _ {A : Type 0} (alg : Algebra A) (K : ℕ) (master : Place A) (job : ℕ → Job)
    (cache : ℕ → Place A) where
  -- T of job j in its turn.
  abbrev pub job_set : ℕ → Items
  job_set j = job_fetch alg K master job j (prepared_caches alg K master job j cache)

  -- A job at the site reads more there, another one doesn't.
  reads_here : (n o : ℕ) → So (eqb (job n).site o)
      → site_reads (suc n) job o ≡ (λ k. site_reads n job o k || test_bit (job n).reads k)
  unfolding any_below
  reads_here n o y = fun_ext (λ k. rw y)

  reads-elsewhere : (n o : ℕ) → eqb (job n).site o ≡ false
      → site_reads (suc n) job o ≡ site_reads n job o
  unfolding any_below
  reads-elsewhere n o e = fun_ext (λ k. rw e (or-false-right (site_reads n job o k)))

  -- A cache after the first n jobs' fetches: one fetch of what it lacks of their reads.
  pub prepared-at-once : (n o : ℕ) → prepared_caches alg K master job n cache o
      ≡ fetched alg K master (cache o) (lacking alg K (cache o) (site_reads n job o))
  unfolding prepared_caches fetch_reads job_start fold_below any_below lacking
  prepared-at-once zero o = sym (fetched-none alg K master (cache o))
  prepared-at-once (suc n) o =
      let c = prepared_caches alg K master job n cache in
      let s = (job n).site in
      put_at_cases
      (λ (p : Place A). p
      ≡ fetched alg K master (cache o) (lacking alg K (cache o) (site_reads (suc n) job o))) c s
      (fetched alg K master (c s) (job_start alg K master job n c)) o
      (λ e. rw (reads_here n o (eq-eqb s o (sym e)))
      (fetched-twice alg K master (cache o) (site_reads n job o) (test_bit (job n).reads) (c s)
      (ap c (sym e) ∙ prepared-at-once n o)))
      (λ e. rw (reads-elsewhere n o (ne_eqb s o (λ h. e (sym h)))) (prepared-at-once n o))

  -- The T of the jobs at a site together: T of that one fetch.
  pub prepared-sets : (n o k : ℕ) → any_below n (λ j. eqb (job j).site o && job_set j k)
      ≡ fetch_set alg K master (cache o) (lacking alg K (cache o) (site_reads n job o)) k
  unfolding any_below lacking job_start
  prepared-sets zero o k = sym (ap (λ (m : Items). m k) (fetch_set-none alg K master (cache o)))
  prepared-sets (suc n) o k =
      let c = prepared_caches alg K master job n cache in
      let s = (job n).site in
      test (eqb s o)
      (λ y. rw (y, reads_here n o y, prepared-sets n o k)
      (fetch_set-twice alg K master (cache o) (site_reads n job o) (test_bit (job n).reads) (c s)
      (ap c (eqb-eq s o y) ∙ prepared-at-once n o) k))
      (λ e. rw (e, reads-elsewhere n o e, or-false-right) (prepared-sets n o k))

  -- ---- a key that the master lacks

  -- T of the first n jobs at site o.
  abbrev pub site_set : ℕ → ℕ → Items
  site_set n o = fetch_set alg K master (cache o) (lacking alg K (cache o) (site_reads n job o))

  -- It can be asked of T: of the jobs in turn, or of the sites.
  jobs-lacked : (n : ℕ) → unpreparable alg K master job n cache
      ≡ any_below n (λ j. unfetchable alg K master (job_set j))
  unfolding unpreparable
  jobs-lacked n =
      let c : ℕ → ℕ → Place A = λ j. prepared_caches alg K master job j cache in
      let start : ℕ → Items = λ j. job_start alg K master job j (c j) in
      any_same n (λ j. unfetchable alg K master (start j))
      (λ j. unfetchable alg K master (job_set j))
      (λ j _. unfetchable-set alg K master (c j (job j).site) (start j))

  sites-lacked : (N n : ℕ)
      → any_below N (λ o. unfetchable alg K master (lacking alg K (cache o) (site_reads n job o)))
      ≡ any_below N (λ o. unfetchable alg K master (site_set n o))
  sites-lacked N n =
      let start : ℕ → Items = λ o. lacking alg K (cache o) (site_reads n job o) in
      any_same N (λ o. unfetchable alg K master (start o))
      (λ o. unfetchable alg K master (site_set n o))
      (λ o _. unfetchable-set alg K master (cache o) (start o))

  -- A key of a job's T is in that of its site, and one of a site's T in that of a job there: so is
  -- one of which a test, by site and key, is true.
  module _ (P : ℕ → Items) where
    abbrev some : ℕ → Items → Bool
    some o S = any_below K (λ k. S k && P o k)

    at-site : (N n : ℕ) → ((j : ℕ) → j < n → (job j).site < N)
        → So (any_below n (λ j. some (job j).site (job_set j)))
        → So (any_below N (λ o. some o (site_set n o)))
    at-site N n h p =
        let f = any_some n (λ j. some (job j).site (job_set j)) p in
        let j = f.0 in
        let o = (job j).site in
        let x = any_some K (λ k. job_set j k && P o k) f.2 in
        let k = x.0 in
        let member = any-intro n (λ j. eqb (job j).site o && job_set j k) j f.1
        (and_intro (eq-eqb o o refl) (and_left (job_set j k) (P o k) x.2)) in
        any-intro N (λ o. some o (site_set n o)) o (h j f.1)
        (any-intro K (λ k. site_set n o k && P o k) k x.1
        (and_intro (prepared-sets n o k ∙˙ member) (and_right (job_set j k) (P o k) x.2)))

    of-job : (N n : ℕ) → So (any_below N (λ o. some o (site_set n o)))
        → So (any_below n (λ j. some (job j).site (job_set j)))
    of-job N n p =
        let f = any_some N (λ o. some o (site_set n o)) p in
        let o = f.0 in
        let x = any_some K (λ k. site_set n o k && P o k) f.2 in
        let k = x.0 in
        let g = any_some n (λ j. eqb (job j).site o && job_set j k)
        (prepared-sets n o k ∙ and_left (site_set n o k) (P o k) x.2) in
        let j = g.0 in
        let here = eqb-eq (job j).site o (and_left (eqb (job j).site o) (job_set j k) g.2) in
        any-intro n (λ j. some (job j).site (job_set j)) j g.1
        (any-intro K (λ k. job_set j k && P (job j).site k) k x.1
        (and_intro (and_right (eqb (job j).site o) (job_set j k) g.2)
        (rw here (and_right (site_set n o k) (P o k) x.2))))

    sets-sites : (N n : ℕ) → ((j : ℕ) → j < n → (job j).site < N)
        → any_below n (λ j. some (job j).site (job_set j))
        ≡ any_below N (λ o. some o (site_set n o))
    sets-sites N n h = same_test (at-site N n h) (of-job N n)

  -- A key that one of n jobs has to fetch isn't held by the master: exactly if, at one of the
  -- sites, the cache as it is lacks a key that is read there and that the master doesn't hold.
  pub unpreparable-sites : (N n : ℕ) → ((j : ℕ) → j < n → (job j).site < N)
      → unpreparable alg K master job n cache
      ≡ any_below N (λ o. unfetchable alg K master (lacking alg K (cache o) (site_reads n job o)))
  unfolding unfetchable lacking
  unpreparable-sites N n h =
      jobs-lacked n ∙ sets-sites (λ o k. not (alg.held (master k))) N n h
      ∙ sym (sites-lacked N n)

  -- One of n jobs fetches a key that its site may not hold: exactly if one of the sites does.
  pub unentitled-sites : (right : ℕ → ℕ) (N n : ℕ) → ((j : ℕ) → j < n → (job j).site < N)
      → unentitled alg K master job right n cache
      ≡ any_below N (λ o. barred K (right o) (site_set n o))
  unfolding unentitled barred
  unentitled-sites right N n h = sets-sites (λ o k. not (test_bit (right o) k)) N n h
