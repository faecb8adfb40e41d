-- The walk from its start to its end, and that it is the computed clause (CR 14).
-- reach-start, reach-hit, reach-miss: what the counts say, turn by turn. walk_is: what is left of
-- the walk. walk-snapshot: all of it.
-- Assumes nothing.
use mathlib.Core.Path.{◌≡◌, refl, ap}
use mathlib.Core.Bool.{not, false, So}
use mathlib.Core.Logic.{inl, inr, ◌↔◌}
use Prim.Native.Nat.{ℕ, zero, suc, ◌≤◌, ◌<◌, max}
use native.Mathlib.Omega.{arith}
use native.Mathlib.Nat.{not-suc-le-zero}
use native.Mathlib.Decide.{dec_le}
use lib.Dec.{leb}
use Rattle.words.specs.Tests.{Items}
use Rattle.words.proofs.Bools.{test, clash, same_test, and_intro, and_left, and_right, leb-le, le-leb}
use Rattle.words.proofs.Tests.{below-cases}
use Rattle.clock.specs.Clock.{Clock, join}
use Rattle.model.specs.Algebra.{implies}
use Rattle.model.proofs.Cuts.{implies_in, implies-out}
use Rattle.history.specs.Copies.{meets_copy}
use Rattle.history.proofs.Reached.{reaches-intro, reaches_some, copy_meets}
use Rattle.records.specs.Format.{Record, keys_in, writers_in, issues_in, writer_at, saved_at, key_of, clock_of, all_reads, rank, Readable}
use Rattle.records.specs.Snapshots.{included, history_of, is_snapshot}
use Rattle.records.specs.Walk.{read_reach, fine, hit, walk}
use Rattle.records.specs.Audit.{first_below_of, audit_number}
use Rattle.records.proofs.Exact.{first-same}
use Rattle.records.proofs.ReadsOf.{reads_all, reads_at}
use Rattle.records.proofs.Histories.{history-length, included-rank, included_in}
use Rattle.records.proofs.Pasts.{past-saved, past_all}
use Rattle.records.proofs.Walking.{Reached, Reach, hit-reached, reached-hit, reached-by, reached-from}

-- ---- turn by turn

pub reach-start : (b : Record) (i : ℕ) → Reach b i i (read_reach b i)
reach-start b i = record {
  least = λ u. omega arith;
  more = λ s o k. absurd (omega arith);
  only = λ u h. inl refl;
}

pub reach-hit : (b : Record) (i j : ℕ) (r : Clock) → j < i → Reached b i j → Reach b i (suc j) r
    → Reach b i j (join r (read_reach b j))
unfolding join
reach-hit b i j r k a G = record {
  least = λ u. omega (arith, G.least u);
  more = λ s o m c u.
      below-cases j s (omega arith) (λ e. rw e (omega arith))
      (λ n. omega (arith, G.more s n m c u));
  only = λ u h.
      elim (dec_le (r u) (read_reach b j u)) [
        | yes o ↦ inr (j, omega arith, k, a, omega arith)
        | no o ↦
            elim (G.only u (omega arith)) [
              | inl e ↦ inl (omega (arith, e))
              | inr z ↦ inr (z.0, omega (arith, z.1), z.2, z.3, omega (arith, z.4))
            ]
      ];
}

pub reach-miss : (b : Record) (i j : ℕ) (r : Clock) → ¬ (Reached b i j)
    → Reach b i (suc j) r → Reach b i j r
reach-miss b i j r n G = record {
  least = G.least;
  more = λ s o m c u.
      below-cases j s (omega arith) (λ e. absurd (n (rw e c)))
      (λ k. G.more s k m c u);
  only = λ u h.
      elim (G.only u h) [
        | inl e ↦ inl e
        | inr z ↦ inr (z.0, omega (arith, z.1), z.2, z.3, z.4)
      ];
}

-- ---- the walk

module _ {b : Record} (R : Readable b) (i : ℕ) (l : i < issues_in b) where
  hit-is : (j : ℕ) (r : Clock) → j < i → Reach b i (suc j) r → So (hit b j r) ↔ Reached b i j
  unfolding hit
  hit-is j r k G = (
    λ p. hit-reached R i l j k r G (leb-le (rank b j) (r (writer_at b j)) p),
    λ a. le-leb (rank b j) (r (writer_at b j)) (reached-hit R i l j k r G a),
  )

  -- Each reached issue below n is fine.
  abbrev pub Fine : ℕ → Type 0
  Fine n = (s : ℕ) → s < n → Reached b i s → So (fine b i s)

  walk-hit : (j : ℕ) (r : Clock) → So (hit b j r) → Reached b i j
      → So (walk b i j (join r (read_reach b j))) ↔ Fine j → So (walk b i (suc j) r) ↔ Fine (suc j)
  unfolding walk
  walk-hit j r y a w =
      let rest = walk b i j (join r (read_reach b j)) in
      rw y (
        λ p s k c.
            below-cases s j k (λ e. rw e (and_left (fine b i j) rest p))
            (λ m. w.0 (and_right (fine b i j) rest p) s m c),
        λ f. and_intro (f j (omega arith) a) (w.1 (λ s k. f s (omega arith))),
      )

  walk-miss : (j : ℕ) (r : Clock) → hit b j r ≡ false → ¬ (Reached b i j)
      → So (walk b i j r) ↔ Fine j → So (walk b i (suc j) r) ↔ Fine (suc j)
  unfolding walk
  walk-miss j r z none w =
      rw z (
        λ p s k c. below-cases s j k (λ e. absurd (none (rw e at c))) (λ m. w.0 p s m c),
        λ f. w.1 (λ s k. f s (omega arith)),
      )

  -- With the issues below j left, the walk passes if each reached one of them is fine.
  pub walk_is : (j : ℕ) (r : Clock) → j ≤ i → Reach b i j r → So (walk b i j r) ↔ Fine j
  unfolding walk
  walk_is zero r o G = ((λ p s k. absurd (not-suc-le-zero k)), (λ f. refl))
  walk_is (suc j) r o G =
      test (hit b j r)
      (λ y.
      let a = (hit-is j r o G).0 y in
      walk-hit j r y a
      (walk_is j (join r (read_reach b j)) (omega arith) (reach-hit b i j r o a G)))
      (λ z.
      let none : ¬ (Reached b i j) = λ a. clash ((hit-is j r o G).1 a) z in
      walk-miss j r z none (walk_is j r (omega arith) (reach-miss b i j r none G)))

  -- ---- and the computed clause

  abbrev meets : ℕ → Items
  meets x y =
      meets_copy (keys_in b) (history_of b i) (key_of b y) (included b y) (included b x)

  -- A read has issue j's save of its sheet, if there is one.
  abbrev has : ℕ → Items
  has j y = implies (saved_at b j (key_of b y)) (leb (rank b j) (clock_of b y (writer_at b j)))

  snapshot-fine : So (is_snapshot b i) → Fine i
  unfolding is_snapshot fine
  snapshot-fine p j k a =
      let h = history_of b i in
      reads_all b i (has j) (λ y n.
      implies_in (saved_at b j (key_of b y)) (leb (rank b j) (clock_of b y (writer_at b j))) (λ q.
      let u = reached-by R i l j a in
      let x = a.read in
      let len = history-length b i in
      let far = reaches-intro (keys_in b) h (included b x) (key_of b y) j u.0
      (omega (arith, u.1)) u.2
      (past_all R i l u.0 a.key j (key_of b y) u.1 u.3 q) in
      let each = reads_at b i (λ z. all_reads b i (meets z)) p in
      let m = reads_at b i (meets x) (each x a.its) y n in
      let c = (copy_meets (keys_in b) h (key_of b y) (included b y) (included b x)).0 m
      j (omega arith) far in
      le-leb (rank b j) (clock_of b y (writer_at b j)) (included-rank b y j c)))

  fine-snapshot : Fine i → So (is_snapshot b i)
  unfolding is_snapshot fine
  fine-snapshot f =
      let h = history_of b i in
      reads_all b i (λ x. all_reads b i (meets x)) (λ x m.
      reads_all b i (meets x) (λ y n.
      (copy_meets (keys_in b) h (key_of b y) (included b y) (included b x)).1 (λ j o p.
      let len = history-length b i in
      let k : j < i = omega arith in
      let u = reaches_some (keys_in b) h (included b x) (key_of b y) j p in
      let t : u.0 < i = omega (arith, u.1) in
      let q = (past-saved R i l u.0 (key_of b y) j t u.3).1 in
      let a = reached-from R i l x u.0 (key_of b y) j m t u.2 u.3 in
      let c = implies-out (saved_at b j (key_of b y))
      (leb (rank b j) (clock_of b y (writer_at b j)))
      (reads_at b i (has j) (f j k a) y n) q in
      included_in b y j q (leb-le (rank b j) (clock_of b y (writer_at b j)) c))))

  -- The walk over all issues before i, from the counts of its reads.
  pub walk-snapshot : is_snapshot b i ≡ walk b i i (read_reach b i)
  walk-snapshot =
      let w = walk_is i (read_reach b i) (omega arith) (reach-start b i) in
      same_test (λ p. w.1 (snapshot-fine p)) (λ p. fine-snapshot (w.0 p))

-- ---- as a call makes it

-- Only the counts of the record's writers matter.
pub walk_same : {b : Record} → Readable b → (i j : ℕ) (r q : Clock) → j ≤ issues_in b
    → ((u : ℕ) → u < writers_in b → r u ≡ q u) → walk b i j r ≡ walk b i j q
unfolding walk hit join
walk_same {b} R i zero r q o f = refl
walk_same {b} R i (suc j) r q o f =
    let more : Clock = read_reach b j in
    rw (
      f (writer_at b j) (R.issue j o).writer,
      walk_same R i j r q (omega arith) f,
      walk_same R i j (λ u. max (r u) (more u)) (λ u. max (q u) (more u)) (omega arith)
          (λ u l. rw (f u l)),
    )

-- The first issue by its walk.
pub audit-walks : {b : Record} → Readable b
    → audit_number b ≡ first_below_of (issues_in b) (λ i. not (walk b i i (read_reach b i)))
unfolding audit_number
audit-walks {b} R =
    first-same (issues_in b) (λ i. not (is_snapshot b i)) (λ i. not (walk b i i (read_reach b i)))
    (λ i l. ap not (walk-snapshot R i l))
