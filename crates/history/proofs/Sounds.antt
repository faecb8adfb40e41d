-- Histories that the calls made stay sound.
-- sound_empty: no issue. sound-issue: one more. sound-low: one less.
-- Assumes nothing.
use mathlib.Core.Bool.{So, false≢true}
use mathlib.Core.List.{[], ◌∷◌}
use Prim.Native.Nat.{ℕ, ◌<◌}
use native.Mathlib.Omega.{arith}
use native.Mathlib.Nat.{not-suc-le-zero}
use lib.ListN.{length}
use Rattle.words.proofs.Bools.{◌∙˙◌}
use Rattle.words.proofs.Tests.{below-cases}
use Rattle.history.specs.History.{Issue, History, writer_of, saved, read_by}
use Rattle.history.proofs.Notions.{Sound}
use Rattle.history.proofs.Past.{writer_of_top, writer_of_low, saved-top, saved_low, saved-below, read_by_top, read_by_low, read_by_below}

pub sound_empty : (K W : ℕ) → Sound K W []
unfolding saved read_by
sound_empty K W = record {
  writers = λ i l. absurd (not-suc-le-zero l);
  keys = λ d i p. absurd (false≢true p);
  some-write = λ i l. absurd (not-suc-le-zero l);
  reads = λ i d j p. absurd (false≢true p);
}

-- An issue by a writer below W, of keys below K and not of none, whose run had read writes.
pub sound-issue : (K W : ℕ) (e : Issue) (h : History) → Sound K W h → e.writer < W
    → ((d : ℕ) → So (e.keys d) → d < K) → (d : ℕ) × So (e.keys d)
    → ((d j : ℕ) → So (e.read d j) → (d < K) × (j < length h) × So (saved h d j))
    → Sound K W (e ∷ h)
sound-issue K W e h s w k some r =
    record { writers = writers; keys = keys; some-write = some-write; reads = reads }
  where
    n : ℕ
    n = length h

    writers : (i : ℕ) → i < length (e ∷ h) → writer_of (e ∷ h) i < W
    writers i l =
        below-cases i n l (λ q. rw (q, writer_of_top e h) w)
        (λ q. rw (writer_of_low e h i q) (s.writers i q))

    keys : (d i : ℕ) → So (saved (e ∷ h) d i) → (d < K) × (i < length (e ∷ h))
    keys d i p =
        let l = saved-below (e ∷ h) d i p in
        below-cases i n l (λ q. (k d (saved-top e h d ∙˙ (rw q at p)), l))
        (λ q. ((s.keys d i (saved_low e h d i q ∙˙ p)).0, l))

    some-write : (i : ℕ) → i < length (e ∷ h) → (d : ℕ) × So (saved (e ∷ h) d i)
    some-write i l =
        below-cases i n l (λ q. (some.0, rw (q, saved-top e h some.0) some.1))
        (λ q. let u = s.some-write i q in (u.0, rw (saved_low e h u.0 i q) u.1))

    reads : (i d j : ℕ) → So (read_by (e ∷ h) i d j)
        → (d < K) × (j < i) × So (saved (e ∷ h) d j)
    reads i d j p =
        below-cases i n (read_by_below (e ∷ h) i d j p)
        (λ q.
        let u = r d j (read_by_top e h d j ∙˙ (rw q at p)) in
        (u.0, omega arith, rw (saved_low e h d j u.1) u.2))
        (λ q.
        let u = s.reads i d j (read_by_low e h i d j q ∙˙ p) in
        (u.0, u.1, rw (saved_low e h d j (omega arith)) u.2))

-- What holds of a history holds of the part below its top.
pub sound-low : {K W : ℕ} {e : Issue} {h : History} → Sound K W (e ∷ h) → Sound K W h
sound-low {K} {W} {e} {h} s =
    record { writers = writers; keys = keys; some-write = some-write; reads = reads }
  where
    writers : (i : ℕ) → i < length h → writer_of h i < W
    writers i l = rw (writer_of_low e h i l) at (s.writers i (omega arith))

    keys : (d i : ℕ) → So (saved h d i) → (d < K) × (i < length h)
    keys d i p =
        let l = saved-below h d i p in ((s.keys d i (rw (saved_low e h d i l) p)).0, l)

    some-write : (i : ℕ) → i < length h → (d : ℕ) × So (saved h d i)
    some-write i l =
        let u = s.some-write i (omega arith) in (u.0, saved_low e h u.0 i l ∙˙ u.1)

    reads : (i d j : ℕ) → So (read_by h i d j) → (d < K) × (j < i) × So (saved h d j)
    reads i d j p =
        let l = read_by_below h i d j p in
        let u = s.reads i d j (rw (read_by_low e h i d j l) p) in
        (u.0, u.1, saved_low e h d j (omega arith) ∙˙ u.2)
