-- Laws of what versions need and of what meets a need.
-- dependency-..: a row of another key that isn't all zero. supersedes-..: held, the row as large.
-- merge-met: the needs of a merge.
-- Assumes nothing.
use mathlib.Core.Bool.{not, So}
use mathlib.Core.Logic.{◌⊎◌, inl, inr, ◌↔◌, ◌≢◌}
use Prim.Native.Nat.{ℕ}
use native.Mathlib.Omega.{arith}
use lib.Dec.{eqb}
use Rattle.words.proofs.Bools.{test, and_intro, and_left, and_right, not-intro, not_elim, ne_eqb, eqb-ne}
use Rattle.clock.specs.Clock.{Clock, dominates, Dominates, present}
use Rattle.clock.proofs.Order.{covers-standing, dominates-trans, present-mono, absent}
use Rattle.model.specs.Version.{Version, held, dependency, supersedes, merge}
use Rattle.model.proofs.Merges.{merge-held-left, merge-held-right, merge-left, merge-right, merge-least, merge-present}

pub dependency-iff : (W k : ℕ) (v : Version) (d : ℕ)
    → So (dependency W k v d) ↔ (d ≢ k) × So (present W (v.past d))
unfolding dependency
dependency-iff W k v d =
    let other = not (eqb d k) in
    let row = present W (v.past d) in (
      λ s. (eqb-ne d k (not_elim (and_left other row s)), and_right other row s),
      λ h. and_intro (not-intro (ne_eqb d k h.0)) h.1,
    )

-- A version with larger rows needs more.
pub dependency-mono : (W k : ℕ) (a b : Version) (d : ℕ) → Dominates W (b.past d) (a.past d)
    → So (dependency W k a d) → So (dependency W k b d)
dependency-mono W k a b d c s =
    let u = (dependency-iff W k a d).0 s in
    (dependency-iff W k b d).1 (u.0, present-mono W (b.past d) (a.past d) c u.1)

-- What a merge needs a held side needs.
pub dependency-merge : (W k : ℕ) (a b : Version) (d : ℕ) → So (held (merge W k a b))
    → So (dependency W k (merge W k a b) d)
    → (So (held a) × So (dependency W k a d)) ⊎ (So (held b) × So (dependency W k b d))
dependency-merge W k a b d h s =
    let u = (dependency-iff W k (merge W k a b) d).0 s in
    elim (merge-present W k d a b h u.1) [
      | inl x ↦ inl (x.0, (dependency-iff W k a d).1 (u.0, x.1))
      | inr x ↦ inr (x.0, (dependency-iff W k b d).1 (u.0, x.1))
    ]

pub supersedes-iff : (W d : ℕ) (v : Version) (q : Clock)
    → So (supersedes W d v q) ↔ So (held v) × Dominates W (v.past d) q
unfolding supersedes
supersedes-iff W d v q =
    let row = dominates W (v.past d) q in
    let covers = covers-standing W (v.past d) q in (
      λ s. (and_left (held v) row s, covers.0 (and_right (held v) row s)),
      λ h. and_intro h.0 (covers.1 h.1),
    )

-- A smaller need is met too.
pub supersedes-trans : (W d : ℕ) (v : Version) (q r : Clock) → So (supersedes W d v q)
    → Dominates W q r → So (supersedes W d v r)
supersedes-trans W d v q r s c =
    let u = (supersedes-iff W d v q).0 s in
    (supersedes-iff W d v r).1 (u.0, dominates-trans W (v.past d) q r u.1 c)

-- A held version with a larger own row meets it too.
pub supersedes-mono : (W d : ℕ) (a b : Version) (q : Clock) → So (held b)
    → Dominates W (b.past d) (a.past d) → So (supersedes W d a q) → So (supersedes W d b q)
supersedes-mono W d a b q h c s =
    let u = (supersedes-iff W d a q).0 s in
    (supersedes-iff W d b q).1 (h, dominates-trans W (b.past d) (a.past d) q c u.1)

pub supersedes-merge-left : (W d : ℕ) (a b : Version) (q : Clock) → So (supersedes W d a q)
    → So (supersedes W d (merge W d a b) q)
supersedes-merge-left W d a b q s =
    let p = ((supersedes-iff W d a q).0 s).0 in
    supersedes-mono W d a (merge W d a b) q (merge-held-left W d a b p)
    (merge-left W d d a b p) s

pub supersedes-merge-right : (W d : ℕ) (a b : Version) (q : Clock) → So (supersedes W d b q)
    → So (supersedes W d (merge W d a b) q)
supersedes-merge-right W d a b q s =
    let p = ((supersedes-iff W d b q).0 s).0 in
    supersedes-mono W d b (merge W d a b) q (merge-held-right W d a b p)
    (merge-right W d d a b p) s

-- A version that meets the need of a key, if there is one, has the row of that key.
row-met : (W k d : ℕ) (a v : Version) → d ≢ k
    → (So (dependency W k a d) → So (supersedes W d v (a.past d)))
    → Dominates W (v.past d) (a.past d)
row-met W k d a v e f =
    test (present W (a.past d))
    (λ y. ((supersedes-iff W d v (a.past d)).0 (f ((dependency-iff W k a d).1 (e, y)))).1)
    (λ n w l. omega (arith, absent W (a.past d) n w l))

-- A version that meets what each held side needs meets what the merge needs.
pub merge-met : (W k d : ℕ) (a b v : Version) → So (held (merge W k a b))
    → So (dependency W k (merge W k a b) d)
    → (So (held a) → So (dependency W k a d) → So (supersedes W d v (a.past d)))
    → (So (held b) → So (dependency W k b d) → So (supersedes W d v (b.past d)))
    → So (supersedes W d v ((merge W k a b).past d))
merge-met W k d a b v h n f g =
    let e = ((dependency-iff W k (merge W k a b) d).0 n).0 in
    let holds : So (held v) = elim (dependency-merge W k a b d h n) [
      | inl x ↦ ((supersedes-iff W d v (a.past d)).0 (f x.0 x.1)).0
      | inr x ↦ ((supersedes-iff W d v (b.past d)).0 (g x.0 x.1)).0
    ] in
    (supersedes-iff W d v ((merge W k a b).past d)).1 (
      holds,
      merge-least W k d a b (v.past d) h (λ p. row-met W k d a v e (f p))
          (λ p. row-met W k d b v e (g p)),
    )
