-- The test of an issue's reads in two parts: their words, and the issues that they count.
-- counted-is: the first, as a statement. reads-uncounted, reads-saved: both together.
-- Assumes nothing.
use mathlib.Core.Path.{◌≡◌, refl}
use mathlib.Core.Bool.{false, ◌&&◌, So}
use Prim.Native.Nat.{ℕ, ◌≤◌, ◌<◌}
use native.Mathlib.Omega.{arith}
use lib.Dec.{eqb, ltb}
use Rattle.words.specs.Tests.{Items, all_below}
use Rattle.words.proofs.Bools.{same_test, clash, and_intro, and_left, and_right, ltb-lt, lt-ltb, eqb-eq, eq-eqb}
use Rattle.words.proofs.Tests.{all-intro, all-at}
use Rattle.clock.specs.Clock.{Clock, dominates, present}
use Rattle.clock.proofs.Order.{covers-standing, present-some, present-intro}
use Rattle.model.proofs.Cuts.{implies_in, implies-out}
use Rattle.records.specs.Format.{Record, keys_in, writers_in, writer_at, mask_at, saved_at, key_of, clock_of, ReadOf, all_reads, issues_before, rank, ReadReadable, read_ok}
use Rattle.records.proofs.ReadsOf.{reads_all, reads_at}
use Rattle.records.proofs.Reading.{read_is}
use Rattle.audit.specs.Parts.{counted, count_saved}

module _ (b : Record) (i k w : ℕ) (before : Clock) (ke : k ≡ keys_in b) (we : w ≡ writers_in b)
    (be : (u : ℕ) → u < w → before u ≡ issues_before b i u) where
  counted_in : (x : ℕ) → ReadReadable b i x → So (counted b k w before x)
  unfolding counted
  counted_in x R =
      and_intro (lt-ltb (key_of b x) k (omega (arith, R.key)))
      (and_intro
      (present-intro w (clock_of b x) R.some.0 (omega (arith, R.some.1))
      (omega (arith, R.some.2)))
      ((covers-standing w before (clock_of b x)).1 (λ u h.
      omega (arith, be u h, R.counted u (omega arith)))))

  counted-out : (x : ℕ) → So (counted b k w before x)
      → ((j : ℕ) → j < i → rank b j ≡ clock_of b x (writer_at b j) → So (saved_at b j
      (key_of b x)))
      → ReadReadable b i x
  unfolding counted
  counted-out x p s =
      let rest = present w (clock_of b x) && dominates w before (clock_of b x) in
      let q = and_right (ltb (key_of b x) k) rest p in
      let some = present-some w (clock_of b x)
      (and_left (present w (clock_of b x)) (dominates w before (clock_of b x)) q) in
      let all = (covers-standing w before (clock_of b x)).0
      (and_right (present w (clock_of b x)) (dominates w before (clock_of b x)) q) in
      let key = ltb-lt (key_of b x) k (and_left (ltb (key_of b x) k) rest p) in
      record {
        key = omega (arith, key);
        some = (some.0, omega (arith, some.1), (λ z. omega (arith, z, some.2)));
        counted = λ u h.
            let o : u < w = omega arith in omega (arith, be u o, all u o);
        saved = s;
      }

  -- Issue j's test.
  abbrev pub saved_by : Items
  saved_by j = all_reads b i (count_saved b (writer_at b j) (mask_at b j) (rank b j))

  pub reads-uncounted : all_reads b i (counted b k w before) ≡ false
      → false ≡ all_reads b i (read_ok b i)
  reads-uncounted e =
      same_test (λ z. clash z refl) (λ p.
      clash (reads_all b i (counted b k w before) (λ x m.
      counted_in x ((read_is b i x).0 (reads_at b i (read_ok b i) p x m)))) e)

  pub reads-counted : So (all_reads b i (counted b k w before))
      → all_below i saved_by ≡ all_reads b i (read_ok b i)
  unfolding count_saved
  reads-counted c =
      same_test
      (λ p.
      reads_all b i (read_ok b i) (λ x m.
      (read_is b i x).1
      (counted-out x (reads_at b i (counted b k w before) c x m) (λ j o e.
      implies-out (eqb (rank b j) (clock_of b x (writer_at b j))) (saved_at b j (key_of b x))
      (reads_at b i (count_saved b (writer_at b j) (mask_at b j) (rank b j))
      (all-at i saved_by p j o) x
      m) (eq-eqb (rank b j) (clock_of b x (writer_at b j)) e)))))
      (λ p.
      all-intro i saved_by (λ j o.
      reads_all b i (count_saved b (writer_at b j) (mask_at b j) (rank b j)) (λ x m.
      implies_in (eqb (rank b j) (clock_of b x (writer_at b j))) (saved_at b j (key_of b x)) (λ q.
      ((read_is b i x).0 (reads_at b i (read_ok b i) p x m)).saved j o
      (eqb-eq (rank b j) (clock_of b x (writer_at b j)) q)))))

  -- The keys are items of a mask.
  pub keys-low : k ≤ 32 → So (all_reads b i (counted b k w before))
      → (x : ℕ) → ReadOf b i x → key_of b x < 32
  unfolding counted
  keys-low few c x m =
      let rest = present w (clock_of b x) && dominates w before (clock_of b x) in
      let p = reads_at b i (counted b k w before) c x m in
      let h = ltb-lt (key_of b x) k (and_left (ltb (key_of b x) k) rest p) in
      omega arith
