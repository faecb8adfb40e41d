-- Cuts on copies through T, E and C: what fetch, evict and a step leave are cuts.
-- fetched-, evicted-, pulled- with closed: a cut again; with part: within another place;
-- with grows: what was there stays. pulled-from, -behind, -has: the writes on the snapshot.
-- Assumes nothing.
use mathlib.Core.Path.{◌≡◌, refl}
use mathlib.Core.Bool.{false, ◌&&◌, So}
use mathlib.Core.Logic.{◌⊎◌, inl, inr}
use Prim.Native.Nat.{ℕ, ◌<◌}
use Rattle.words.specs.Tests.{Items, Within}
use Rattle.words.proofs.Bools.{test, clash, and_intro}
use Rattle.reach.proofs.Closures.{closure-closed}
use Rattle.model.specs.Algebra.{Algebra, Place, everything, lacking}
use Rattle.model.specs.Sets.{draw_set, fetch_set, fetched, evict_set, evicted, pull_set, pulled}
use Rattle.model.proofs.Draws.{draw_set-closed, fetched_in, fetched-out, evicted_in, evicted-out, pull_set-plan, pulled-cases, pulled_in, pulled-out}
use Rattle.consistency.proofs.CopyLaws.{Writes, CopyLaws, CopyCut, PartIn}

module _ {A : Type 0} {alg : Algebra A} {S : Writes A} (L : CopyLaws alg S) (K : ℕ) where
  -- ---- T and C: what a member of the set needs

  -- Of a key of the scope that is no member, the target has what a member needs.
  drawn-met : (scope : Items) (target source : Place A) (start : Items)
      → CopyCut S K everything source → (k d : ℕ) (x : S.Write) → k < K → d < K → So (scope d)
      → So (draw_set alg K scope target source start k)
      → draw_set alg K scope target source start d ≡ false
      → S.behind d (source k) x → S.includes d (target d) x
  drawn-met scope target source start c k d x lk ld s ik od y =
      let n = L.needs k d (source k) x (λ e. clash (rw e ik) od) y in
      let held = (L.held d (source d) (c.good d ld)).1 (x, c.closed k d x lk ld refl y) in
      elim (draw_set-closed alg K scope target source start k d lk ld ik s n held) [
        | inl met ↦ (L.meets d (target d) (source k)).0 met x y
        | inr id ↦ clash id od
      ]

  -- ---- fetch

  module _ (master cache : Place A) (start : Items) (part : PartIn S K cache master) where
    abbrev T : Items
    T = fetch_set alg K master cache start

    abbrev after : Place A
    after = fetched alg K master cache start

    pub fetched-part : PartIn S K after master
    fetched-part d x l p =
        test (T d) (λ y. rw (fetched_in alg K master cache start d y) at p)
        (λ n. part d x l (rw (fetched-out alg K master cache start d n) at p))

    fetched-grows : PartIn S K cache after
    fetched-grows d x l p =
        test (T d) (λ y. rw (fetched_in alg K master cache start d y) (part d x l p))
        (λ n. rw (fetched-out alg K master cache start d n) p)

    pub fetched-closed : CopyCut S K everything master → CopyCut S K everything cache
        → CopyCut S K everything after
    unfolding fetch_set
    fetched-closed cm cc = record {
      good = λ k l.
          test (T k) (λ y. rw (fetched_in alg K master cache start k y) (cm.good k l))
          (λ n. rw (fetched-out alg K master cache start k n) (cc.good k l));
      within = λ k x _ _. refl;
      closed = closed;
    }
      where
        closed : (k d : ℕ) (x : S.Write) → k < K → d < K → So (everything d)
            → S.behind d (after k) x → S.includes d (after d) x
        closed k d x lk ld s y =
            test (T k)
            (λ ik.
            let m : S.behind d (master k) x =
            rw (fetched_in alg K master cache start k ik) at y in
            test (T d)
            (λ id. rw (fetched_in alg K master cache start d id) (cm.closed k d x lk ld s m))
            (λ od. rw (fetched-out alg K master cache start d od)
            (drawn-met everything cache master start cm k d x lk ld refl ik od m)))
            (λ ok.
            let c : S.behind d (cache k) x =
            rw (fetched-out alg K master cache start k ok) at y in
            fetched-grows d x ld (cc.closed k d x lk ld s c))

  -- ---- evict

  module _ (cache : Place A) (start : Items) where
    abbrev E : Items
    E = evict_set alg K cache start

    -- What stands behind something that is left: its key stays.
    left : (k d : ℕ) (x : S.Write) → S.behind d (evicted alg K cache start k) x
        → (E k ≡ false) × S.behind d (cache k) x
    left k d x p =
        test (E k)
        (λ y. absurd (L.nothing-behind d x (rw (evicted_in alg K cache start k y) at p)))
        (λ n. (n, rw (evicted-out alg K cache start k n) at p))

    -- A key that stays needs no key that goes.
    stays : CopyCut S K everything cache → (k d : ℕ) (x : S.Write) → k < K → d < K
        → E k ≡ false → S.behind d (cache k) x → E d ≡ false
    unfolding evict_set
    stays c k d x lk ld n r =
        let held = L.behind-held k d (cache k) x (c.good k lk) r in
        test (E d)
        (λ y.
        let m = L.needs k d (cache k) x (λ e. clash (rw e at y) n) r in
        clash (closure-closed K (λ t d. alg.held (cache d) && alg.needs d (cache d) t) start
        d k ld lk y (and_intro held m)) n)
        (λ z. z)

    pub evicted-closed : CopyCut S K everything cache
        → CopyCut S K everything (evicted alg K cache start)
    evicted-closed c = record {
      good = λ k l.
          test (E k) (λ y. rw (evicted_in alg K cache start k y) (L.nothing-good k))
          (λ n. rw (evicted-out alg K cache start k n) (c.good k l));
      within = λ k x _ _. refl;
      closed = λ k d x lk ld s y.
          let u = left k d x y in
          let n = stays c k d x lk ld u.0 u.1 in
          rw (evicted-out alg K cache start d n) (c.closed k d x lk ld s u.1);
    }

  -- ---- a step's pull

  module _ (plan : Items) (snapshot cache : Place A) (reads : Items) where
    abbrev C : Items
    C = pull_set alg K plan snapshot cache reads

    abbrev carried : Place A
    carried = pulled alg K plan snapshot cache reads

    pulled-from : (d : ℕ) (x : S.Write) → S.includes d (carried d) x
        → S.includes d (snapshot d) x ⊎ (So (C d) × S.includes d (cache d) x)
    pulled-from d x p =
        test (C d)
        (λ y.
        let q : S.includes d (alg.merge d (snapshot d) (cache d)) x =
        rw (pulled_in alg K plan snapshot cache reads d y) at p in
        elim ((L.merge_in d (snapshot d) (cache d) x).0 q) [ inl c ↦ inl c | inr c ↦ inr (y, c) ])
        (λ n. inl (rw (pulled-out alg K plan snapshot cache reads d n) at p))

    pulled-behind : (k d : ℕ) (x : S.Write) → S.behind d (carried k) x
        → S.behind d (snapshot k) x ⊎ (So (C k) × S.behind d (cache k) x)
    pulled-behind k d x p =
        test (C k)
        (λ y.
        let q : S.behind d (alg.merge k (snapshot k) (cache k)) x =
        rw (pulled_in alg K plan snapshot cache reads k y) at p in
        elim (L.merge-behind k d (snapshot k) (cache k) x q) [
          | inl c ↦ inl c
          | inr c ↦ inr (y, c)
        ])
        (λ n. inl (rw (pulled-out alg K plan snapshot cache reads k n) at p))

    pulled-grows : PartIn S K snapshot carried
    pulled-grows d x _ p =
        pulled-cases alg K plan snapshot cache reads (λ c. S.includes d c x) d
        (λ _. (L.merge_in d (snapshot d) (cache d) x).1 (inl p)) (λ _. p)

    pulled-has : (d : ℕ) (x : S.Write) → So (C d) → S.includes d (cache d) x
        → S.includes d (carried d) x
    pulled-has d x y p =
        rw (pulled_in alg K plan snapshot cache reads d y)
        ((L.merge_in d (snapshot d) (cache d) x).1 (inr p))

    pub pulled-closed : CopyCut S K plan snapshot → CopyCut S K everything cache
        → Within K reads plan → CopyCut S K plan carried
    unfolding pull_set
    pulled-closed cd cc f = record { good = good; within = within; closed = closed }
      where
        good : (k : ℕ) → k < K → S.good k (carried k)
        good k l =
            pulled-cases alg K plan snapshot cache reads (S.good k) k
            (λ _. L.merge-good k (snapshot k) (cache k) (cd.good k l) (cc.good k l))
            (λ _. cd.good k l)

        within : (k : ℕ) (x : S.Write) → k < K → S.includes k (carried k) x → So (plan k)
        within k x l p =
            elim (pulled-from k x p) [
              | inl c ↦ cd.within k x l c
              | inr c ↦ pull_set-plan alg K plan snapshot cache reads f k l c.0
            ]

        closed : (k d : ℕ) (x : S.Write) → k < K → d < K → So (plan d)
            → S.behind d (carried k) x → S.includes d (carried d) x
        closed k d x lk ld s p =
            elim (pulled-behind k d x p) [
              | inl c ↦ pulled-grows d x ld (cd.closed k d x lk ld s c)
              | inr c ↦
                  test (C d) (λ id. pulled-has d x id (cc.closed k d x lk ld refl c.1))
                  (λ od. pulled-grows d x ld
                  (drawn-met plan snapshot cache (lacking alg K snapshot reads) cc k d x lk ld s
                  c.0 od c.1))
            ]
