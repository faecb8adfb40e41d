-- The walk, issue by issue, and the counts that it raises.
-- raise-..: by the reads of an issue. visit-..: at an issue.
-- Assumes nothing.
use mathlib.Core.Path.{◌≡◌, refl, sym, ap, ◌∙◌}
use mathlib.Core.Bool.{Bool, true, false, ◌&&◌, So}
use mathlib.Core.List.{List}
use Prim.Native.Nat.{ℕ, ◌+◌, ◌≤◌, ◌<◌}
use native.Mathlib.Omega.{arith}
use native.Mathlib.Nat.{zero-add}
use native.Mathlib.Numerals.{add-one}
use lib.ListN.{get_or, replicate}
use Rattle.words.specs.Numbers.{largest}
use Rattle.words.proofs.Bools.{le-leb, gt-leb}
use Rattle.clock.specs.Clock.{Clock, join, clock_at}
use Rattle.records.specs.Format.{Record, writers_in, issues_in, writer_at, first_at, number_at, clock_of, rank, Readable}
use Rattle.records.specs.Walk.{read_reach, fine, hit, walk}
use Rattle.records.proofs.Walked.{walk_same}
use Rattle.audit.specs.Parts.{Raised}
use Rattle.audit.proofs.Ranks.{zeros}

pub clock_0 : (l : List ℕ) (u : ℕ) → clock_at l 0 u ≡ get_or l u 0
unfolding clock_at
clock_0 l u = ap (λ (i : ℕ). get_or l i 0) (zero-add u)

-- ---- the reads of an issue

-- For each writer the largest count of the first r reads of issue i.
abbrev pub reach_of : Record → ℕ → ℕ → Clock
reach_of b i r u = largest r (λ s. clock_of b (first_at b i + s) u)

pub raise-start : (b : Record) (i w : ℕ) (l : List ℕ) → Raised w (reach_of b i 0) l l
unfolding largest
raise-start b i w l = record { counts = λ u o. omega arith }

pub raise-turn : (b : Record) (i r w : ℕ) (l m k : List ℕ) (c : Clock) → Raised w (reach_of b i r)
    l m
    → Raised w c m k → ((u : ℕ) → c u ≡ clock_of b (first_at b i + r) u)
    → Raised w (reach_of b i (r + 1)) l k
unfolding largest
raise-turn b i r w l m k c R S f =
    rw (add-one r) (record {
      counts = λ u o. S.counts u o ∙ rw (R.counts u o, f u) (omega arith);
    })

pub raise-done : (b : Record) (i r w : ℕ) (l m : List ℕ) → r ≡ number_at b i
    → Raised w (reach_of b i r) l m → Raised w (read_reach b i) l m
unfolding read_reach
raise-done b i r w l m e R = rw e at R

-- From no counts.
pub raised-first : (b : Record) (i w : ℕ) (m : List ℕ) → Raised w (read_reach b i)
    (replicate 16 0) m
    → (u : ℕ) → u < w → read_reach b i u ≡ clock_at m 0 u
raised-first b i w m R u o =
    sym (clock_0 m u ∙ (R.counts u o ∙ rw (zeros 16 0 u) (omega arith)))

-- ---- at an issue

module _ (b : Record) (i j : ℕ) where
  step_past : (r : Clock) → hit b j r ≡ false → walk b i (j + 1) r ≡ walk b i j r
  unfolding walk
  step_past r h = rw (add-one j, h)

  step-stop : (r : Clock) → So (hit b j r) → fine b i j ≡ false → walk b i (j + 1) r ≡ false
  unfolding walk
  step-stop r h f = rw (add-one j, h, f)

  step-on : (r : Clock) → So (hit b j r) → So (fine b i j)
      → walk b i (j + 1) r ≡ walk b i j (join r (read_reach b j))
  unfolding walk
  step-on r h f = rw (add-one j, h, f)

  module _ (l : List ℕ) where
    pub visit-past : get_or l (writer_at b j) 0 < rank b j
        → walk b i (j + 1) (clock_at l 0) ≡ walk b i j (clock_at l 0)
    unfolding hit
    visit-past h =
        step_past (clock_at l 0)
        (gt-leb (rank b j) (clock_at l 0 (writer_at b j)) (omega
        (arith, clock_0 l (writer_at b j))))

    hit_in : rank b j ≤ get_or l (writer_at b j) 0 → So (hit b j (clock_at l 0))
    unfolding hit
    hit_in h =
        le-leb (rank b j) (clock_at l 0 (writer_at b j)) (omega (arith, clock_0 l (writer_at b j)))

    pub visit-stop : rank b j ≤ get_or l (writer_at b j) 0 → fine b i j ≡ false
        → walk b i (j + 1) (clock_at l 0) ≡ false
    visit-stop h f = step-stop (clock_at l 0) (hit_in h) f

    pub visit-on : Readable b → (w : ℕ) → w ≡ writers_in b → j < issues_in b
        → rank b j ≤ get_or l (writer_at b j) 0 → So (fine b i j)
        → (m : List ℕ) → Raised w (read_reach b j) l m
        → walk b i (j + 1) (clock_at l 0) ≡ walk b i j (clock_at m 0)
    unfolding join
    visit-on R w e k h f m S =
        step-on (clock_at l 0) (hit_in h) f
        ∙ walk_same R i j (join (clock_at l 0) (read_reach b j)) (clock_at m 0) (omega arith) (λ u
        o.
        omega (arith, S.counts u (omega arith), clock_0 l u, clock_0 m u))

-- ---- over all issues before i

pub back-stop : (b : Record) (i j k : ℕ) (r q : Clock) (W v : Bool) → walk b i j r ≡ W
    → j ≡ k + 1 → walk b i (k + 1) r ≡ v && walk b i k q → v ≡ false → false ≡ W
back-stop b i j k r q W v a e s f =
    sym (sym a ∙ (ap (λ (n : ℕ). walk b i n r) e ∙ (s ∙ rw f refl)))

pub back_on : (b : Record) (i j k : ℕ) (r q : Clock) (W v : Bool) → walk b i j r ≡ W
    → j ≡ k + 1 → walk b i (k + 1) r ≡ v && walk b i k q → v ≡ true → walk b i k q ≡ W
back_on b i j k r q W v a e s f =
    sym (sym a ∙ (ap (λ (n : ℕ). walk b i n r) e ∙ (s ∙ rw f refl)))

pub back_end : (b : Record) (i j : ℕ) (r : Clock) (W : Bool) → walk b i j r ≡ W → j ≡ 0 → true ≡ W
unfolding walk
back_end b i j r W a e = ap (λ (n : ℕ). walk b i n r) (sym e) ∙ a
