-- Records that a client of the desk writes (CR 14), judged: an issue with the own rows of what its
-- run had read is readable, and its reads are a snapshot.
-- own-readable, own-reads, own-snapshot.
-- Assumes nothing.
use mathlib.Core.Path.{◌≡◌, ap, ◌∙◌}
use mathlib.Core.Bool.{So}
use mathlib.Core.Logic.{◌≢◌}
use mathlib.Core.List.{◌∷◌}
use Prim.Native.Nat.{ℕ, ◌≤◌, ◌<◌}
use native.Mathlib.Omega.{arith}
use native.Mathlib.Decide.{dec_le}
use lib.ListN.{length}
use Rattle.words.specs.Tests.{Items}
use Rattle.words.specs.Numbers.{count_below}
use Rattle.words.proofs.Bools.{clash, ◌∙˙◌}
use Rattle.masks.specs.Mask.{test_bit}
use Rattle.masks.proofs.Bits.{test-none}
use Rattle.masks.proofs.Sets.{mask_lt}
use Rattle.history.specs.History.{Issue, History}
use Rattle.history.specs.Copies.{meets_copy, by_writer}
use Rattle.history.proofs.Notions.{Sound, Good}
use Rattle.history.proofs.Past.{saved-top, writer_of_top}
use Rattle.history.proofs.Tally as tallies
use Rattle.history.proofs.Reached.{copy-held, copy_meets, reaches-mono}
use Rattle.records.specs.Format.{Record, keys_in, writers_in, writer_at, mask_at, saved_at, key_of, clock_of, ReadOf, all_reads, rank, IssueReadable, ReadReadable}
use Rattle.records.specs.Snapshots.{included, history_of, is_snapshot}
use Rattle.records.proofs.Notions.{OwnReads, Written}
use Rattle.records.proofs.ReadsOf.{reads_all}
use Rattle.records.proofs.Histories.{history-length, history-writer, history-saved, rank-some, included-rank}
use Rattle.records.proofs.Own.{before-is, rank_is, low-writer, own-included, own_keys}

module _ {b : Record} {n : ℕ} {e : Issue}
    (s : Sound (keys_in b) (writers_in b) (e ∷ history_of b n))
    (o : OwnReads (keys_in b) (history_of b n) e) (w : Written b n (history_of b n) e) where
  pub own-readable : IssueReadable b n
  own-readable = record {
    writer = omega (arith, top, w.writer);
    some = some;
    mask = rw w.mask (mask_lt (keys_in b) e.keys (keys_in b) (omega arith));
    first = w.first;
  }
    where
      top : e.writer < writers_in b
      top =
          let h = history_of b n in
          rw (writer_of_top e h) at (s.writers (length h) (omega arith))

      some : 1 ≤ mask_at b n
      some =
          let h = history_of b n in
          let a = s.some-write (length h) (omega arith) in
          let p : So (e.keys a.0) = saved-top e h a.0 ∙˙ a.1 in
          elim (dec_le 1 (mask_at b n)) [
            | yes l ↦ l
            | no l ↦
                let z : mask_at b n ≡ 0 = omega arith in
                let none = ap (λ (k : ℕ). test_bit k a.0) z ∙ test-none a.0 in
                clash (own_keys s o w a.0 ∙ p) none
          ]

  pub own-reads : (x : ℕ) → ReadOf b n x → ReadReadable b n x
  own-reads x m = record {
    key = (w.held x m).0;
    some = some;
    counted = λ u l.
        omega (
          arith,
          w.counts x m u l,
          tallies.tally-total K h (e.read d) u,
          ap (λ (k : ℕ). count_below k (by_writer K h u)) len,
          before-is b n n u (omega arith),
        );
    saved = saves;
  }
    where
      K : ℕ
      K = keys_in b

      h : History
      h = history_of b n

      d : ℕ
      d = key_of b x

      g : Good K h d (e.read d)
      g = o.good d (w.held x m).0

      len : length h ≡ n
      len = history-length b n

      some : (u : ℕ) × (u < writers_in b) × (clock_of b x u ≢ 0)
      some =
          let a = (copy-held K h (e.read d)).0 (w.held x m).1 in
          let j = a.0 in
          let l : j < n = omega (arith, a.1, len) in
          let c = included-rank b x j (own-included s o w x j m l ∙ a.2) in
          (writer_at b j, low-writer s o w j l, λ z. omega (arith, c, rank-some b j, z))

      saves : (j : ℕ) → j < n → rank b j ≡ clock_of b x (writer_at b j) → So (saved_at b j d)
      saves j l q =
          let u = writer_at b j in
          let count = w.counts x m u (low-writer s o w j l) in
          let t = tallies.tally-some K h (e.read d) u (omega (arith, count, q, rank-some b j)) in
          let k = rank_is b n j l in
          let by = history-writer b n j l in
          let le = tallies.rank-order K h u j t.0 by (omega (arith, count, q, t.4, k)) in
          let ge = tallies.rank-order K h u t.0 j t.3 (omega (arith, count, q, t.4, k)) in
          let z : t.0 ≡ j = omega (arith, le, ge) in
          history-saved b n j d l ∙˙ (rw z at (g.writes t.0 t.2).1)

  -- ---- and a snapshot

  pub own-snapshot : So (is_snapshot b n)
  unfolding is_snapshot
  own-snapshot =
      let K = keys_in b in
      let h = history_of b n in
      let meets : ℕ → Items = λ x y. meets_copy K h (key_of b y) (included b y) (included b x) in
      reads_all b n (λ x. all_reads b n (meets x)) (λ x m.
      reads_all b n (meets x) (λ y k.
      (copy_meets K h (key_of b y) (included b y) (included b x)).1 (λ j l p.
      let d = key_of b x in
      let c = key_of b y in
      let len = history-length b n in
      let far = reaches-mono K h (included b x) (e.read d)
      (λ t a q. own-included s o w x t m (omega (arith, a, len)) ∙˙ q) c j p in
      let q = o.meets c d (w.held y k).0 (w.held x m).0 (w.held y k).1 (w.held x m).1 in
      own-included s o w y j k (omega (arith, l, len))
      ∙ (copy_meets K h c (e.read c) (e.read d)).0 q j l far)))
