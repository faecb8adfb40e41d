-- The saves that an issue's reads must count: masks of keys, and the rest of a walk.
-- keys-..: the keys that an issue read. saves-apart: a mask that has none of them. walk-..: what
-- is left where the counts reach all of it.
-- Assumes nothing.
use mathlib.Core.Path.{◌≡◌, refl, sym, ap, ◌∙◌}
use mathlib.Core.Bool.{Bool, true, false, ◌&&◌, So}
use mathlib.Core.List.{List}
use Prim.Native.Nat.{ℕ, zero, suc, ◌+◌, ◌≤◌, ◌<◌}
use native.Mathlib.Omega.{arith}
use lib.Bits.{bit_and}
use lib.Dec.{eqb, leb}
use Rattle.words.specs.Tests.{all_below}
use Rattle.words.proofs.Bools.{clash, and_intro, and_right, or_left, le-leb, ◌∙˙◌}
use Rattle.words.proofs.Tests.{below-cases}
use Rattle.words.proofs.Numbers.{count-mono}
use Rattle.masks.specs.Mask.{test_bit, with_bit}
use Rattle.masks.proofs.Bits.{test-and, test-none, test-with, test-with-same}
use Rattle.clock.specs.Clock.{Clock, dominates, join, clock_at}
use Rattle.clock.proofs.Order.{covers-standing}
use Rattle.model.proofs.Cuts.{implies_in}
use Rattle.records.specs.Format.{Record, writers_in, issues_in, writer_at, first_at, number_at, key_of, clock_of, all_reads, is_by, issues_before, rank, Readable}
use Rattle.records.specs.Walk.{read_reach, fine, hit, walk}
use Rattle.records.proofs.ReadsOf.{reads_all}
use Rattle.audit.specs.Parts.{KeysAmong, Ranked, save_counted}
use Rattle.audit.proofs.Walks.{clock_0}

-- ---- keys

module _ (b : Record) (i : ℕ) where
  -- The keys of the first r reads are in a mask.
  abbrev pub Among : ℕ → ℕ → Type 0
  Among r m = (s : ℕ) → s < r → So (test_bit m (key_of b (first_at b i + s)))

  pub keys-turn : (r m k x : ℕ) → Among r m → k ≡ key_of b (first_at b i + r) → x ≡ with_bit m k
      → Among (r + 1) x
  keys-turn r m k x f e g s h =
      let d = key_of b (first_at b i + s) in
      let there : So (test_bit (with_bit m k) d) =
      below-cases s r (omega arith)
      (λ z.
      let q : d ≡ k = ap (λ (t : ℕ). key_of b (first_at b i + t)) z ∙ sym e in
      rw q (test-with-same m k))
      (λ l. sym (test-with m k d) ∙˙ or_left (eqb d k) (f s l)) in
      ap (λ (y : ℕ). test_bit y d) (sym g) ∙˙ there

  pub keys-done : (r m : ℕ) → r ≡ number_at b i → Among r m → KeysAmong b i m
  keys-done r m e f x n = rw n.2 (f n.0 (omega (arith, n.1)))

  pub saves-apart : (u mask rank keys : ℕ) → KeysAmong b i keys → bit_and mask keys ≡ 0
      → true ≡ all_reads b i (save_counted b u mask rank)
  unfolding save_counted
  saves-apart u mask rank keys A e =
      sym (reads_all b i (save_counted b u mask rank) (λ x n.
      let d = key_of b x in
      implies_in (test_bit mask d) (leb rank (clock_of b x u)) (λ q.
      clash (sym (test-and mask keys d) ∙˙ and_intro q (A x n))
      (ap (λ (y : ℕ). test_bit y d) e ∙ test-none d))))

-- ---- the rest of a walk

and-swap : (p q : Bool) → p && q ≡ q && p
and-swap true true = refl
and-swap true false = refl
and-swap false true = refl
and-swap false false = refl

-- Where the counts reach every issue below j, each of them must be fine.
walk-all : {b : Record} → Readable b → (i j : ℕ) (r : Clock) → j ≤ issues_in b
    → ((u : ℕ) → u < writers_in b → issues_before b j u ≤ r u) → walk b i j r ≡ all_below j (fine
    b i)
unfolding walk hit rank join all_below issues_before
walk-all {b} R i zero r o f = refl
walk-all {b} R i (suc j) r o f =
    let q : Clock = join r (read_reach b j) in
    let h : So (leb (issues_before b (suc j) (writer_at b j)) (r (writer_at b j))) =
    le-leb (issues_before b (suc j) (writer_at b j)) (r (writer_at b j))
    (f (writer_at b j) (R.issue j o).writer) in
    let e : walk b i j q ≡ all_below j (fine b i) =
    walk-all R i j q (omega arith) (λ u l.
    omega (arith, f u l, count-mono j (suc j) (is_by b u) (omega arith))) in
    rw (h, e) (and-swap (fine b i j) (all_below j (fine b i)))

-- As the code finds it: a is what else it asks before it asks the counts, and x its answer.
pub walk-rest : {b : Record} → Readable b → (i j w : ℕ) (l m : List ℕ) (a g x : Bool)
    → j ≤ issues_in b → w ≡ writers_in b → Ranked b w j l
    → g ≡ a && dominates w (clock_at m 0) (clock_at l 0) → So g → x ≡ all_below j (fine b i)
    → x ≡ walk b i j (clock_at m 0)
walk-rest {b} R i j w l m a g x o e K d t f =
    let all = (covers-standing w (clock_at m 0) (clock_at l 0)).0
    (and_right a (dominates w (clock_at m 0) (clock_at l 0)) (sym d ∙ t)) in
    f ∙ sym (walk-all R i j (clock_at m 0) o (λ u h.
    let v : u < w = omega arith in
    omega (arith, all u v, clock_0 l u, K.counts u v)))
