-- Laws of a version that a merge leaves as it is (CR 10, joining).
-- same_version_lem, same-equal: equal in all words, as facts, and as versions.
-- stays-test, stays-formed, stays-other: the test without a merge is the rule.
-- stays-merge, other-merge: it is what `merge` says.
-- Assumes nothing.
use mathlib.Core.Path.{◌≡◌, refl, sym, ap, ◌∙◌, fun_ext}
use mathlib.Core.Bool.{false, not, ◌&&◌, So}
use mathlib.Core.Logic.{◌⊎◌, inl, inr, ◌↔◌}
use Prim.Native.Nat.{ℕ, ◌≤◌, ◌<◌, max}
use native.Mathlib.Omega.{arith}
use lib.Dec.{eqb, leb}
use Rattle.words.specs.Tests.{Items, all_below}
use Rattle.words.proofs.Bools.{test, clash, same_test, and_intro, and_left, and_right, not_elim, leb-le, le-leb, gt-leb, eqb-eq, eq-eqb, ne_eqb}
use Rattle.words.proofs.Tests.{below_or_not, all-intro, all-at}
use Rattle.clock.specs.Clock.{Clock, standing, differing, dominates, join}
use Rattle.clock.proofs.Standings.{standing-equal, differing-not}
use Rattle.clock.proofs.Order.{covers-standing}
use Rattle.sizes.specs.declared.Counts.{Counts}
use Rattle.model.specs.Version.{Version, held, larger, merge}
use Rattle.model.specs.Form.{version_formed, zero_version, zero_rows}
use Rattle.model.specs.Stays.{same_version, stays, stays_other, leaders_merged, keeps, stays_by_of, stays_other_by}
use Rattle.model.proofs.Merges.{version-path, leaders-comm, held-iff, unheld-issue, merge-both, merge-unheld-right, merge-unheld-left, merge-cases}
use Rattle.model.proofs.FormedPlaces.{VersionFormed, version-zero}

-- ---- equal in all words

pub record Same (W K : ℕ) (a b : Version) : Type 0 where
  pub issue : a.issue ≡ b.issue
  pub leaders : a.leaders ≡ b.leaders
  pub past : (d : ℕ) → d < K → (w : ℕ) → w < W → a.past d w ≡ b.past d w

same-clock : (W : ℕ) (p q : Clock)
    → So (not (differing (standing W p q))) ↔ ((w : ℕ) → w < W → p w ≡ q w)
same-clock W p q = (
  λ s. (standing-equal W p q).0 (differing-not (standing W p q) (not_elim s)),
  λ h. rw ((standing-equal W p q).1 h),
)

pub same_version_lem : (W K : ℕ) (a b : Version) → So (same_version W K a b) ↔ Same W K a b
unfolding same_version
same_version_lem W K a b =
    let number = eqb a.issue b.issue in
    let mask = eqb a.leaders b.leaders in
    let row : Items = λ d. not (differing (standing W (a.past d) (b.past d))) in (
      λ s.
          let t = and_right number (mask && all_below K row) s in
          record {
            issue = eqb-eq _ _ (and_left number (mask && all_below K row) s);
            leaders = eqb-eq _ _ (and_left mask (all_below K row) t);
            past = λ d l. (same-clock W (a.past d) (b.past d)).0
                (all-at K row (and_right mask (all_below K row) t) d l);
          },
      λ S. and_intro (eq-eqb _ _ S.issue) (and_intro (eq-eqb _ _ S.leaders)
          (all-intro K row (λ d l. (same-clock W (a.past d) (b.past d)).1 (S.past d l)))),
    )

pub same_self : (W K : ℕ) (a : Version) → So (same_version W K a a)
same_self W K a =
    (same_version_lem W K a a).1 (record { issue = refl; leaders = refl; past = λ d _ w _. refl })

-- No count from key K or writer W on: so is a version that was read from words.
abbrev pub Inside : ℕ → ℕ → Version → Type 0
Inside W K v = (d w : ℕ) → (K ≤ d) ⊎ (W ≤ w) → v.past d w ≡ 0

pub inside-merge : (W K k : ℕ) (a b : Version) → Inside W K a → Inside W K b
    → Inside W K (merge W k a b)
unfolding larger join
inside-merge W K k a b F G =
    merge-cases W k (Inside W K) a b
    (λ _ _ d w o. omega (arith, F d w o, G d w o)) (λ _ _. F) (λ _. G)

-- For such versions it is equality.
pub same-equal : (W K : ℕ) (a b : Version) → Inside W K a → Inside W K b
    → So (same_version W K a b) ↔ (a ≡ b)
same-equal W K a b F G = (
  λ s.
      let S = (same_version_lem W K a b).0 s in
      version-path S.issue S.leaders (fun_ext (λ d. fun_ext (λ w. count S d w))),
  λ e. (same_version_lem W K a b).1 (record {
    issue = ap (λ v. v.issue) e;
    leaders = ap (λ v. v.leaders) e;
    past = λ d _ w _. ap (λ v. v.past d w) e;
  }),
)
  where
    count : Same W K a b → (d w : ℕ) → a.past d w ≡ b.past d w
    count S d w = elim (below_or_not d K) [
      | inr o ↦ F d w (inl o) ∙ sym (G d w (inl o))
      | inl l ↦ elim (below_or_not w W) [
        | inr o ↦ F d w (inr o) ∙ sym (G d w (inr o))
        | inl h ↦ S.past d l w h
      ]
    ]

-- ---- the test without a merge

-- A version with the larger number and the larger counts of a and b is a again.
keeps-is : (W K : ℕ) (v a b : Version) → v.issue ≡ max a.issue b.issue
    → ((d w : ℕ) → v.past d w ≡ max (a.past d w) (b.past d w))
    → same_version W K v a ≡ keeps W K v.leaders a b
unfolding keeps
keeps-is W K v a b e f =
    let number = leb b.issue a.issue in
    let mask = eqb v.leaders a.leaders in
    let row : Items = λ d. dominates W (a.past d) (b.past d) in
    same_test
    (λ s.
    let S = (same_version_lem W K v a).0 s in
    and_intro (le-leb b.issue a.issue (omega (arith, e, S.issue)))
    (and_intro (eq-eqb _ _ S.leaders)
    (all-intro K row (λ d l. (covers-standing W (a.past d) (b.past d)).1
    (λ w h. omega (arith, f d w, S.past d l w h))))))
    (λ s.
    let t = and_right number (mask && all_below K row) s in
    (same_version_lem W K v a).1 (record {
      issue = omega (
        arith,
        e,
        leb-le b.issue a.issue
            (and_left number (mask && all_below K row) s),
      );
      leaders = eqb-eq _ _ (and_left mask (all_below K row) t);
      past = λ d l w h. omega (
        arith,
        f d w,
        (covers-standing W (a.past d) (b.past d)).0
            (all-at K row (and_right mask (all_below K row) t) d l) w h,
      );
    }))

-- A held version is no unheld one, and isn't kept by one.
not_same : (W K : ℕ) (a b : Version) → So (held a) → held b ≡ false
    → same_version W K a b ≡ false
unfolding same_version
not_same W K a b p n =
    rw (ne_eqb a.issue b.issue
    (λ e. absurd (omega (arith, e, (held-iff a).0 p, unheld-issue b n))))

not-kept : (W K m : ℕ) (a b : Version) → So (held b) → held a ≡ false
    → keeps W K m a b ≡ false
unfolding keeps
not-kept W K m a b p n =
    rw (gt-leb b.issue a.issue (omega (arith, (held-iff b).0 p, unheld-issue a n)))

module _ (W K k : ℕ) (a b : Version) where
  both-stay : So (held a) → So (held b)
      → same_version W K (merge W k a b) a ≡ keeps W K (leaders_merged W k a b) a b
  unfolding larger join
  both-stay p q =
      rw (merge-both W k a b p q) (keeps-is W K (larger W k a b) a b refl (λ d w. refl))

  -- Where neither is held, both are to say the same.
  pub stays-cases : (held a ≡ false → held b ≡ false → So (same_version W K b a))
      → stays W K k a b ≡ stays_by_of W K k a b
  unfolding stays stays_by_of
  stays-cases blank =
      test (held a)
      (λ p. test (held b)
      (λ q. rw q (both-stay p q))
      (λ n. rw (merge-unheld-right W k a b p n, n) (same_self W K a)))
      (λ n. test (held b)
      (λ q. rw (merge-unheld-left W k a b n, q)
      (not_same W K b a q n ∙ sym (not-kept W K (leaders_merged W k a b) a b q n)))
      (λ m. rw (merge-unheld-left W k a b n, m) (blank n m)))

  -- What was read is held: the test is the rule.
  pub stays-test : So (held a) → stays W K k a b ≡ stays_by_of W K k a b
  stays-test p = stays-cases (λ n _. clash p n)

  -- For the other version it is, held or not.
  pub stays-other : stays_other W K k a b ≡ stays_other_by W K k a b
  unfolding stays_other stays_other_by larger join
  stays-other =
      test (held a)
      (λ p. test (held b)
      (λ q. rw (merge-both W k a b p q, p)
      (keeps-is W K (larger W k a b) b a (omega arith) (λ d w. omega arith)))
      (λ n. rw (merge-unheld-right W k a b p n, p)
      (not_same W K a b p n ∙ sym (not-kept W K (leaders_merged W k a b) b a p n))))
      (λ n. rw (merge-unheld-left W k a b n, n) (same_self W K b))

-- What isn't held has only zero words.
blank-same : (z : Counts) (k : ℕ) (a b : Version) → VersionFormed z k a → VersionFormed z k b
    → held a ≡ false → held b ≡ false → So (same_version z.writers z.keys b a)
unfolding version_formed zero_version
blank-same z k a b F G n m =
    (same_version_lem z.writers z.keys b a).1 (record {
      issue = unheld-issue b m ∙ sym (unheld-issue a n);
      leaders = mask b G m ∙ sym (mask a F n);
      past = λ d l w h. version-zero z k b G m d l w h ∙ sym (version-zero z k a F n d l w h);
    })
  where
    mask : (v : Version) → VersionFormed z k v → held v ≡ false → v.leaders ≡ 0
    mask v H o = eqb-eq _ _ (and_left (eqb v.leaders 0) (zero_rows z v) (rw o at H))

-- Of versions in form the test is the rule, held or not.
pub stays-formed : (z : Counts) (k : ℕ) (a b : Version) → VersionFormed z k a → VersionFormed z k b
    → stays z.writers z.keys k a b ≡ stays_by_of z.writers z.keys k a b
stays-formed z k a b F G = stays-cases z.writers z.keys k a b (blank-same z k a b F G)

-- .. and by it, the one is the other with the sides turned.
pub stays-turned : (W K k : ℕ) (a b : Version) → stays_other_by W K k a b ≡ stays_by_of W K k b a
unfolding stays_other_by stays_by_of
stays-turned W K k a b =
    rw (leaders-comm W a.leaders b.leaders (a.past k) (b.past k))

-- As versions: the merge is the one, or the other.
module _ (W K k : ℕ) (a b : Version) (F : Inside W K a) (G : Inside W K b) where
  pub stays-merge : So (stays W K k a b) ↔ (merge W k a b ≡ a)
  unfolding stays
  stays-merge = same-equal W K (merge W k a b) a (inside-merge W K k a b F G) F

  pub other-merge : So (stays_other W K k a b) ↔ (merge W k a b ≡ b)
  unfolding stays_other
  other-merge = same-equal W K (merge W k a b) b (inside-merge W K k a b F G) G
