-- The computed clause is what the request asks of an issue's reads.
-- snapshot-is.
-- Assumes nothing.
use mathlib.Core.Path.{◌≡◌, sym}
use mathlib.Core.Bool.{So}
use mathlib.Core.Logic.{inl, inr, ◌↔◌}
use Prim.Native.Nat.{ℕ, ◌≤◌, ◌<◌}
use native.Mathlib.Omega.{arith}
use native.Mathlib.Decide.{dec_le}
use lib.ListN.{length}
use Rattle.words.specs.Tests.{Items, Within}
use Rattle.history.specs.History.{History, saved}
use Rattle.history.specs.Copies.{reaches, meets_copy}
use Rattle.history.proofs.Notions.{Sound}
use Rattle.history.proofs.Past.{past-laws}
use Rattle.history.proofs.Behind.{before-below, before-past, before-order, past-is-before}
use Rattle.history.proofs.Reached.{reaches-intro, reaches_some, copy_meets}
use Rattle.records.specs.Format.{Record, keys_in, writers_in, issues_in, writer_at, key_of, clock_of, ReadOf, all_reads, rank, Readable}
use Rattle.records.specs.Snapshots.{included, history_of, Snapshot, is_snapshot}
use Rattle.records.proofs.ReadsOf.{reads_all, reads_at}
use Rattle.records.proofs.Histories.{history-length, history-saved, rank-reached, included-saved, included-rank, included_in, included-earlier, record_sound, before-own}

pub snapshot-is : {b : Record} → Readable b → (i : ℕ) → i < issues_in b
    → So (is_snapshot b i) ↔ Snapshot b i
unfolding is_snapshot
snapshot-is {b} R i l = (there, back)
  where
    K : ℕ
    K = keys_in b

    h : History
    h = history_of b i

    len : length h ≡ i
    len = history-length b i

    sound : Sound K (writers_in b) h
    sound = record_sound R i (omega arith)

    meets : ℕ → Items
    meets x y = meets_copy K h (key_of b y) (included b y) (included b x)

    -- A save in a read, in the history.
    has : (x t : ℕ) → t < i → So (included b x t) → So (saved h (key_of b x) t)
    has x t k p = rw (history-saved b i t (key_of b x) k) (included-saved b x t p)

    -- What the computed clause says of two reads.
    all_in : So (all_reads b i (λ x. all_reads b i (meets x))) → (x y : ℕ) → ReadOf b i x
        → ReadOf b i y
        → Within (length h) (reaches K h (included b x) (key_of b y)) (included b y)
    all_in p x y m n =
        (copy_meets K h (key_of b y) (included b y) (included b x)).0
        (reads_at b i (meets x) (reads_at b i (λ x. all_reads b i (meets x)) p x m) y n)

    -- Of two reads of a sheet: the issue of a larger count is in the other one too.
    no_more : So (all_reads b i (λ x. all_reads b i (meets x))) → (x y : ℕ) → ReadOf b i x
        → ReadOf b i y → key_of b x ≡ key_of b y → (u : ℕ) → u < writers_in b
        → clock_of b x u ≤ clock_of b y u
    no_more p x y m n e u k =
        elim (dec_le (clock_of b x u) (clock_of b y u)) [
          | yes o ↦ o
          | no o ↦
              let X = R.reads i l x m in
              let r = rank-reached b i u (clock_of b x u) (omega arith) (X.counted u k) in
              let j = r.0 in
              let q : rank b j ≡ clock_of b x (writer_at b j) = rw r.2 r.3 in
              let c : So (included b x j) =
              included_in b x j (X.saved j r.1 q) (omega (arith, q)) in
              let low : j < length h = omega (arith, len, r.1) in
              let own = (past-laws K h).own j (key_of b x) low (has x j r.1 c) in
              let far : So (reaches K h (included b x) (key_of b y) j) =
              rw e at (reaches-intro K h (included b x) (key_of b x) j j low c own) in
              let z = included-rank b y j (all_in p x y m n j low far) in
              let z' : rank b j ≤ clock_of b y u = rw r.2 at z in
              absurd (omega (arith, r.3))
        ]

    there : So (all_reads b i (λ x. all_reads b i (meets x))) → Snapshot b i
    there p = record {
      once = λ x y m n e u k.
          let f = no_more p x y m n e u k in
          let g = no_more p y x n m (sym e) u k in
          omega arith;
      closed = λ x y m m' j t c q.
          let n = issues_in b in
          let low : t < n = omega (arith, before-below q, history-length b n) in
          let k = included-earlier R i x t l m low c in
          let own = before-own R n i (omega arith) (omega arith) in
          let v = (own (key_of b y) j (key_of b x) t k).0 q in
          let o = before-order sound v in
          all_in p x y m m' j (omega (arith, len, k, o))
          (reaches-intro K h (included b x) (key_of b y) j t (omega (arith, len, k)) c
          (before-past sound v));
    }

    back : Snapshot b i → So (all_reads b i (λ x. all_reads b i (meets x)))
    back s =
        reads_all b i (λ x. all_reads b i (meets x)) (λ x m.
        reads_all b i (meets x) (λ y n.
        (copy_meets K h (key_of b y) (included b y) (included b x)).1 (λ j o p.
        let r = reaches_some K h (included b x) (key_of b y) j p in
        let t = r.0 in
        let k : t < i = omega (arith, len, r.1) in
        elim ((past-is-before sound (key_of b y) j (key_of b x) t (has x t k r.2)).0 r.3) [
          | inl z ↦
              let c : So (included b x j) = rw z.1 r.2 in
              let w = (R.issue j (omega (arith, len, o))).writer in
              let e = s.once x y m n (sym z.0) (writer_at b j) w in
              included_in b y j (rw z.0 (included-saved b x j c))
              (omega (arith, included-rank b x j c, e))
          | inr z ↦
              s.closed x y m n j t r.2
              ((before-own R (issues_in b) i (omega arith) (omega arith) (key_of b y) j
              (key_of b x) t k).1 z)
        ])))
