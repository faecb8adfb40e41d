-- The counts of issues before an issue, in an array.
-- ranked-..: at the start, one issue up, one down. rank-..: the rank of an issue.
-- Assumes nothing.
use mathlib.Core.Path.{◌≡◌, refl, sym, ap, ◌∙◌}
use mathlib.Core.List.{List}
use mathlib.Core.Logic.{◌≢◌}
use Prim.Native.Nat.{ℕ, zero, suc, ◌+◌, ◌-◌, ◌≤◌, ◌<◌}
use native.Mathlib.Omega.{arith}
use native.Mathlib.Numerals.{add-one}
use lib.Dec.{eqb}
use lib.ListN.{get_or, set, replicate, length-set}
use lib.Seq.{get_or-set_same, get_or-set_other}
use Rattle.words.specs.Numbers.{when, count_below}
use Rattle.words.proofs.Bools.{test, eqb-eq, eq-eqb, eqb-ne, ne_eqb}
use Rattle.words.proofs.Numbers.{count-top}
use Rattle.records.specs.Format.{Record, writer_at, is_by, issues_before, rank}
use Rattle.audit.specs.Parts.{Ranked}

by-same : (b : Record) (j u : ℕ) → writer_at b j ≡ u
    → issues_before b (suc j) u ≡ issues_before b j u + 1
unfolding issues_before is_by count_below when
by-same b j u e = rw (eq-eqb (writer_at b j) u e)

by-other : (b : Record) (j u : ℕ) → writer_at b j ≢ u
    → issues_before b (suc j) u ≡ issues_before b j u
unfolding issues_before is_by count_below when
by-other b j u e = rw (ne_eqb (writer_at b j) u e) (omega arith)

pub before-few : (b : Record) (i u : ℕ) → issues_before b i u ≤ i
unfolding issues_before
before-few b i u = count-top i (is_by b u)

pub zeros : (n : ℕ) (z : ℕ) (u : ℕ) → get_or (replicate n z) u z ≡ z
zeros zero z u = refl
zeros (suc n) z zero = refl
zeros (suc n) z (suc u) = zeros n z u

pub ranked-start : (b : Record) (w : ℕ) → Ranked b w 0 (replicate 16 0)
unfolding issues_before count_below
ranked-start b w = record { long = refl; counts = λ u h. zeros 16 0 u }

module _ (b : Record) (w j : ℕ) (l : List ℕ) (few : w ≤ 16) (h : writer_at b j < w) where
  pub ranked-up : Ranked b w j l
      → Ranked b w (j + 1) (set l (writer_at b j) (get_or l (writer_at b j) 0 + 1))
  ranked-up R =
      let u = writer_at b j in
      rw (add-one j) (record {
        long = length-set l u (get_or l u 0 + 1) ∙ R.long;
        counts = λ v k.
            test (eqb u v)
            (λ q.
            let e = eqb-eq u v q in
            rw (← e)
            (get_or-set_same l u (get_or l u 0 + 1) 0 (omega (arith, R.long))
            ∙ (ap (λ (x : ℕ). x + 1) (R.counts u h) ∙ sym (by-same b j u refl))))
            (λ q.
            let e = eqb-ne u v q in
            get_or-set_other l u v (get_or l u 0 + 1) 0 (λ f. e (sym f))
            ∙ (R.counts v k ∙ sym (by-other b j v e)));
      })

  pub rank_is : Ranked b w (j + 1) l → get_or l (writer_at b j) 0 ≡ rank b j
  unfolding rank
  rank_is R = R.counts (writer_at b j) h ∙ ap (λ (i : ℕ). issues_before b i (writer_at b j))
      (add-one j)

  pub ranked-down : Ranked b w (j + 1) l
      → Ranked b w j (set l (writer_at b j) (get_or l (writer_at b j) 0 - 1))
  ranked-down R =
      let u = writer_at b j in
      let at : (v : ℕ) → v < w → get_or l v 0 ≡ issues_before b (suc j) v = λ v k.
      R.counts v k ∙ ap (λ (i : ℕ). issues_before b i v) (add-one j) in
      record {
        long = length-set l u (get_or l u 0 - 1) ∙ R.long;
        counts = λ v k.
            test (eqb u v)
            (λ q.
            let e = eqb-eq u v q in
            rw (← e)
            (get_or-set_same l u (get_or l u 0 - 1) 0 (omega (arith, R.long))
            ∙ omega (arith, at u h, by-same b j u refl)))
            (λ q.
            let e = eqb-ne u v q in
            get_or-set_other l u v (get_or l u 0 - 1) 0 (λ f. e (sym f))
            ∙ (at v k ∙ by-other b j v e));
      }

pub rank-some : (b : Record) (j : ℕ) → 1 ≤ rank b j
unfolding rank
rank-some b j = omega (arith, by-same b j (writer_at b j) refl)
