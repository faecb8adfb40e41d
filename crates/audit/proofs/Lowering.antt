-- The least counts of an issue's reads, apart from 0, in an array.
-- lower-..: by the reads of an issue. counts-below: what they say.
-- Assumes nothing.
use mathlib.Core.Path.{◌≡◌, sym}
use mathlib.Core.Bool.{true}
use mathlib.Core.List.{List}
use Prim.Native.Nat.{ℕ, ◌+◌, ◌≤◌, ◌<◌}
use native.Mathlib.Omega.{arith}
use lib.Dec.{eqb}
use lib.ListN.{get_or}
use Rattle.words.proofs.Bools.{eqb-eq}
use Rattle.words.proofs.Tests.{below-cases}
use Rattle.masks.specs.Mask.{test_bit}
use Rattle.clock.specs.Clock.{Clock}
use Rattle.model.proofs.Cuts.{implies_in}
use Rattle.records.specs.Format.{Record, first_at, number_at, key_of, clock_of, all_reads}
use Rattle.records.proofs.ReadsOf.{reads_all}
use Rattle.audit.specs.Parts.{Lowered, Least, count_saved}

module _ (b : Record) (i w : ℕ) where
  -- No count is above that of one of the first r reads, unless that is 0.
  abbrev pub LeastTo : ℕ → List ℕ → Type 0
  LeastTo r l =
      (s : ℕ) → s < r → (u : ℕ) → u < w → 1 ≤ clock_of b (first_at b i + s) u
      → get_or l u 0 ≤ clock_of b (first_at b i + s) u

  pub lower-turn : (r : ℕ) (l m : List ℕ) (c : Clock) → LeastTo r l → Lowered w c l m
      → ((u : ℕ) → c u ≡ clock_of b (first_at b i + r) u) → LeastTo (r + 1) m
  lower-turn r l m c L S f s h u o one =
      below-cases s r (omega arith)
      (λ e.
      let k : 1 ≤ clock_of b (first_at b i + r) u = rw (← e) one in
      rw e (omega (arith, f u, S.under u o (omega (arith, f u, k)))))
      (λ n. omega (arith, L s n u o one, S.fell u o))

  pub lower-done : (r : ℕ) (l : List ℕ) → r ≡ number_at b i → LeastTo r l → Least b w i l
  lower-done r l e L x n = rw n.2 (L n.0 (omega (arith, n.1)))

  -- Where the rank is below, no read counts up to just it.
  pub counts-below : (u mask rank : ℕ) (l : List ℕ) → Least b w i l → u < w → 1 ≤ rank
      → rank < get_or l u 0 → true ≡ all_reads b i (count_saved b u mask rank)
  unfolding count_saved
  counts-below u mask rank l L o one h =
      sym (reads_all b i (count_saved b u mask rank) (λ x n.
      implies_in (eqb rank (clock_of b x u)) (test_bit mask (key_of b x)) (λ q.
      let e = eqb-eq rank (clock_of b x u) q in
      absurd (omega (arith, e, L x n u o (omega (arith, e)))))))
