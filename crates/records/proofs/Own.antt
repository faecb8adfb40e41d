-- Records that a client of the desk writes (CR 14), from what stands in them: each issue with the
-- own rows of what its run had read.
-- before-is, rank_is: counted by the history. own-included: a read includes its copy. own-issue:
-- the issue is the one written.
-- Assumes nothing.
use mathlib.Core.Path.{◌≡◌, sym, ap, ◌∙◌, fun_ext}
use mathlib.Core.Bool.{So, ◌&&◌}
use mathlib.Core.Logic.{inl, inr}
use mathlib.Core.List.{◌∷◌}
use Prim.Native.Nat.{ℕ, suc, ◌≤◌, ◌<◌}
use native.Mathlib.Omega.{arith}
use lib.Dec.{eqb, ltb}
use lib.ListN.{length}
use Rattle.words.specs.Tests.{Items}
use Rattle.words.specs.Numbers.{count_below}
use Rattle.words.proofs.Bools.{test, same_test, ◌∙˙◌, and_intro, and_left, and_right, ltb-lt, lt-ltb, eqb-eq, eq-eqb}
use Rattle.words.proofs.Numbers.{count_same}
use Rattle.words.proofs.Tests.{below_or_not}
use Rattle.masks.specs.Mask.{test_bit, mask_below}
use Rattle.masks.proofs.Bits.{test-high}
use Rattle.masks.proofs.Sets.{mask_lt, test-mask}
use Rattle.history.specs.History.{Issue, History, writer_of, saved}
use Rattle.history.specs.Copies.{by_writer}
use Rattle.history.proofs.Notions.{Sound, Good}
use Rattle.history.proofs.Past.{saved-top, read_by_top, past-laws}
use Rattle.history.proofs.Sounds.{sound-low}
use Rattle.history.proofs.Tally as tallies
use Rattle.history.proofs.Reached.{copy-held}
use Rattle.records.specs.Format.{Record, keys_in, writers_in, writer_at, mask_at, key_of, clock_of, ReadOf, any_read, is_by, issues_before, rank}
use Rattle.records.specs.Snapshots.{included, issue_of, history_of}
use Rattle.records.proofs.Notions.{OwnReads, Written}
use Rattle.records.proofs.ReadsOf.{reads-some, reads-any}
use Rattle.records.proofs.Histories.{history-length, history-writer, history-saved, rank-some, included-saved, included-rank, included_in}

-- ---- ranks by the history before n

pub before-is : (b : Record) (n k u : ℕ) → k ≤ n
    → count_below k (by_writer (keys_in b) (history_of b n) u) ≡ issues_before b k u
unfolding issues_before by_writer is_by
before-is b n k u o =
    count_same k (λ i. eqb (writer_of (history_of b n) i) u) (λ i. eqb (writer_at b i) u)
    (λ i l. rw (history-writer b n i (omega arith)))

pub rank_is : (b : Record) (n j : ℕ) → j < n
    → tallies.rank (keys_in b) (history_of b n) (writer_at b j) j ≡ rank b j
unfolding rank
rank_is b n j l = before-is b n (suc j) (writer_at b j) l

module _ {b : Record} {n : ℕ} {e : Issue}
    (s : Sound (keys_in b) (writers_in b) (e ∷ history_of b n))
    (o : OwnReads (keys_in b) (history_of b n) e) (w : Written b n (history_of b n) e) where
  pub low-writer : (j : ℕ) → j < n → writer_at b j < writers_in b
  low-writer j l =
      let v = (sound-low s).writers j (omega (arith, history-length b n)) in
      omega (arith, v, history-writer b n j l)

  -- A read includes the copy that it stands for.
  pub own-included : (x j : ℕ) → ReadOf b n x → j < n
      → included b x j ≡ e.read (key_of b x) j
  own-included x j m l = same_test there back
    where
      K : ℕ
      K = keys_in b

      h : History
      h = history_of b n

      d : ℕ
      d = key_of b x

      g : Good K h d (e.read d)
      g = o.good d (w.held x m).0

      u : ℕ
      u = writer_at b j

      len : length h ≡ n
      len = history-length b n

      count : clock_of b x u ≡ tallies.tally K h (e.read d) u
      count = w.counts x m u (low-writer j l)

      there : So (included b x j) → So (e.read d j)
      there p =
          let k = rank_is b n j l in
          let r = included-rank b x j p in
          let t = tallies.tally-some K h (e.read d) u (omega (arith, count, r, rank-some b j)) in
          let by = history-writer b n j l in
          let le = tallies.rank-order K h u j t.0 by (omega (arith, count, r, t.4, k)) in
          g.behind t.0 j t.2
          ((past-laws K h).session t.0 d j t.1 le (by ∙ sym t.3)
          (history-saved b n j d l ∙ included-saved b x j p))

      back : So (e.read d j) → So (included b x j)
      back p =
          let by = history-writer b n j l in
          let k = rank_is b n j l in
          let a : tallies.rank K h u j ≤ tallies.tally K h (e.read d) u =
          rw by at (tallies.tally-at K h (e.read d) j (omega (arith, len)) p) in
          included_in b x j (history-saved b n j d l ∙˙ (g.writes j p).1)
          (omega (arith, a, k, count))

  -- ---- the issue

  pub own_keys : (d : ℕ) → test_bit (mask_at b n) d ≡ e.keys d
  own_keys d =
      let K = keys_in b in
      elim (below_or_not d K) [
        | inl l ↦ rw w.mask (test-mask K e.keys d l)
        | inr l ↦
            test (e.keys d)
            (λ p.
            let q : So (saved (e ∷ history_of b n) d (length (history_of b n))) =
            saved-top e (history_of b n) d ∙ p in
            absurd (omega (arith, (s.keys d (length (history_of b n)) q).0)))
            (λ z. rw w.mask (test-high (mask_below K e.keys) K d
            (mask_lt K e.keys K (omega arith)) l ∙ sym z))
      ]

  own_read : (d j : ℕ)
      → (ltb j n && any_read b n (λ x. eqb (key_of b x) d && included b x j)) ≡ e.read d j
  own_read d j = same_test there back
    where
      K : ℕ
      K = keys_in b

      h : History
      h = history_of b n

      has : Items
      has x = eqb (key_of b x) d && included b x j

      there : So (ltb j n && any_read b n has) → So (e.read d j)
      there p =
          let l = ltb-lt j n (and_left (ltb j n) (any_read b n has) p) in
          let r = reads-some b n has (and_right (ltb j n) (any_read b n has) p) in
          let x = r.0 in
          let t = eqb (key_of b x) d in
          let q = eqb-eq (key_of b x) d (and_left t (included b x j) r.2) in
          let c = and_right t (included b x j) r.2 in
          ap (λ (k : ℕ). e.read k j) (sym q) ∙ (own-included x j r.1 l ∙˙ c)

      back : So (e.read d j) → So (ltb j n && any_read b n has)
      back p =
          let u = s.reads (length h) d j (read_by_top e h d j ∙ p) in
          let l : j < n = omega (arith, u.1, history-length b n) in
          let a = w.every d u.0 ((copy-held K h (e.read d)).1 (j, u.1, p)) in
          let x = a.0 in
          let c : So (included b x j) =
          own-included x j a.1 l ∙ ap (λ (k : ℕ). e.read k j) a.2 ∙ p in
          and_intro (lt-ltb j n l)
          (reads-any b n has x a.1 (and_intro (eq-eqb (key_of b x) d a.2) c))

  pub own-issue : issue_of b n ≡ e
  unfolding issue_of
  own-issue i = record {
    writer = w.writer i;
    keys = fun_ext own_keys i;
    read = fun_ext (λ d. fun_ext (own_read d)) i;
    rows = sym o.rows i;
  }
