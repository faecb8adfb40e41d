-- The walk back over the earlier issues is the test of a snapshot (CR 14).
-- Reached: what the walk looks for. Reach: what its counts say when the issues below j are left.
-- hit-reached, reached-hit: it finds just that. walk-snapshot: so it is the computed clause.
-- Assumes nothing.
use mathlib.Core.Path.{◌≡◌, refl, sym}
use mathlib.Core.Bool.{So}
use mathlib.Core.Logic.{◌⊎◌, inl, inr}
use Prim.Native.Nat.{ℕ, zero, suc, ◌+◌, ◌≤◌, ◌<◌}
use native.Mathlib.Omega.{arith}
use native.Mathlib.Nat.{not-suc-le-zero}
use Rattle.words.proofs.Bools.{◌∙˙◌}
use Rattle.words.proofs.Numbers.{largest-at, largest-some}
use Rattle.clock.specs.Clock.{Clock}
use Rattle.history.specs.History.{in_past, saved}
use Rattle.history.specs.Copies.{reaches}
use Rattle.history.proofs.Past.{past-laws}
use Rattle.history.proofs.Reached.{reaches-intro, reaches_some}
use Rattle.records.specs.Format.{Record, keys_in, issues_in, writer_at, saved_at, first_at, number_at, key_of, clock_of, ReadOf, rank, Readable}
use Rattle.records.specs.Snapshots.{included, history_of}
use Rattle.records.specs.Walk.{read_reach}
use Rattle.records.proofs.Histories.{history-length, history-saved, rank-some, rank-order, rank_mono, rank-reached, included-rank, included_in, record_sound}
use Rattle.records.proofs.Pasts.{past-step, past-saved, past-writer, past_of_read}

-- Some save of issue j is in a read of issue i, or stands behind one.
pub record Reached (b : Record) (i j : ℕ) : Type 0 where
  pub read : ℕ
  pub its : ReadOf b i read
  pub key : ℕ
  pub there : So (reaches (keys_in b) (history_of b i) (included b read) key j)

-- The counts are those of issue i's reads and of the reads of the reached issues from j on.
pub record Reach (b : Record) (i j : ℕ) (r : Clock) : Type 0 where
  pub least : (u : ℕ) → read_reach b i u ≤ r u
  pub more : (s : ℕ) → j ≤ s → s < i → Reached b i s → (u : ℕ) → read_reach b s u ≤ r u
  pub only : (u : ℕ) → 1 ≤ r u
      → (read_reach b i u ≡ r u)
      ⊎ ((s : ℕ) × (j ≤ s) × (s < i) × Reached b i s × (read_reach b s u ≡ r u))

-- ---- the counts of an issue's reads

reach-at : (b : Record) (s x u : ℕ) → ReadOf b s x → clock_of b x u ≤ read_reach b s u
unfolding read_reach
reach-at b s x u m =
    rw m.2 (largest-at (number_at b s) (λ r. clock_of b (first_at b s + r) u) m.0 m.1)

reach-some : (b : Record) (s u : ℕ) → 1 ≤ read_reach b s u
    → (x : ℕ) × ReadOf b s x × (clock_of b x u ≡ read_reach b s u)
unfolding read_reach
reach-some b s u h =
    let r = largest-some (number_at b s) (λ r. clock_of b (first_at b s + r) u) h in
    (first_at b s + r.0, (r.0, r.1, refl), r.2)

module _ {b : Record} (R : Readable b) (i : ℕ) (l : i < issues_in b) where
  -- ---- what is reached

  pub reached-from : (x t d j : ℕ) → ReadOf b i x → t < i → So (included b x t)
      → So (in_past (keys_in b) (history_of b i) t d j) → Reached b i j
  reached-from x t d j m k c p = record {
    read = x;
    its = m;
    key = d;
    there =
        reaches-intro (keys_in b) (history_of b i) (included b x) d j t
        (omega (arith, history-length b i)) c p;
  }

  pub reached-by : (j : ℕ) (r : Reached b i j)
      → (t : ℕ) × (t < i) × So (included b r.read t)
      × So (in_past (keys_in b) (history_of b i) t r.key j)
  reached-by j r =
      let u = reaches_some (keys_in b) (history_of b i) (included b r.read) r.key j
      r.there in
      (u.0, omega (arith, history-length b i, u.1), u.2, u.3)

  reached-on : (s d j : ℕ) → s < i → Reached b i s → So (in_past (keys_in b) (history_of b i) s d
      j)
      → Reached b i j
  reached-on s d j k r p =
      let u = reached-by s r in
      reached-from r.read u.0 d j r.its u.1 u.2
      ((past-laws (keys_in b) (history_of b i)).trans u.0 r.key s d j
      (omega (arith, history-length b i, u.1)) u.3 p)

  some-save : (j : ℕ) → j < i → (d : ℕ) × So (saved_at b j d)
  some-save j k =
      let w = (record_sound R i (omega arith)).some-write j (omega (arith, history-length b i)) in
      (w.0, history-saved b i j w.0 k ∙˙ w.1)

  -- A count of issue s's reads that is no less than issue j's: the issue of that count is in the
  -- read, and by the same writer.
  from-read : (s j : ℕ) → s < issues_in b → j < issues_in b → rank b j ≤ read_reach b s (writer_at
      b j)
      → (x : ℕ) × ReadOf b s x × (t : ℕ) × (t < s) × (j ≤ t) × (writer_at b j ≡ writer_at b t)
      × So (included b x t)
  from-read s j k o h =
      let u = writer_at b j in
      let r = reach-some b s u (omega (arith, rank-some b j)) in
      let x = r.0 in
      let X = R.reads s k x r.1 in
      let one : 1 ≤ clock_of b x u = omega (arith, rank-some b j, r.2) in
      let q = rank-reached b s u (clock_of b x u) one (X.counted u (R.issue j o).writer) in
      let t = q.0 in
      let e : rank b t ≡ clock_of b x (writer_at b t) = rw q.2 q.3 in
      let f : writer_at b j ≡ writer_at b t = sym {a = writer_at b t} q.2 in
      let c = included_in b x t (X.saved t q.1 e) (omega (arith, e)) in
      (x, r.1, t, q.1, rank-order b j t f (omega (arith, q.3, r.2)), f, c)

  -- ---- issue j is hit just where it is reached

  module _ (j : ℕ) (k : j < i) (r : Clock) (G : Reach b i (suc j) r) where
    pub hit-reached : rank b j ≤ r (writer_at b j) → Reached b i j
    hit-reached h =
        let u = writer_at b j in
        let w = some-save j k in
        elim (G.only u (omega (arith, rank-some b j))) [
          | inl e ↦
              let f = from-read i j l (omega arith) (omega (arith, e)) in
              let t = f.2 in
              reached-from f.0 t w.0 j f.1 f.3 f.6
              (past-writer R i l t w.0 j f.3 f.4 f.5 w.1)
          | inr z ↦
              let s = z.0 in
              let f = from-read s j (omega (arith, z.2)) (omega arith) (omega (arith, z.4)) in
              let x = f.0 in
              let t = f.2 in
              let o : t < i = omega (arith, f.3, z.2) in
              let p = past_of_read R i l s x t z.2 f.1 f.3 f.6 in
              let q = past-writer R i l t w.0 j o f.4 f.5 w.1 in
              reached-on s w.0 j z.2 z.3
              ((past-laws (keys_in b) (history_of b i)).trans s (key_of b x) t w.0 j
              (omega (arith, history-length b i, z.2)) p q)
        ]

    -- From a reached issue whose count is reached, down to issue j.
    down : (d n t : ℕ) → t < n → t < i → Reached b i t → rank b t ≤ r (writer_at b t)
        → So (in_past (keys_in b) (history_of b i) t d j) → rank b j ≤ r (writer_at b j)
    down d zero t o m a h p = absurd (not-suc-le-zero o)
    down d (suc n) t o m a h p =
        elim (past-step b i t d j m p) [
          | inl e ↦ rw e h
          | inr z ↦
              let s = z.0 in
              let sl : s < i = omega (arith, z.1) in
              let js = (past-saved R i l s d j sl z.3).0 in
              elim z.2 [
                | inl e ↦
                    let w = some-save s sl in
                    let q = past-writer R i l t w.0 s m (omega (arith, z.1)) e w.1 in
                    let v : rank b s ≤ r (writer_at b s) =
                    rw e (omega (arith, rank_mono b s t e (omega (arith, z.1)))) in
                    down d n s (omega (arith, z.1)) sl (reached-on t w.0 s m a q) v z.3
                | inr y ↦
                    let q = past_of_read R i l t y.0 s m y.1 z.1 y.2 in
                    let g = G.more t (omega (arith, z.1, js)) m a (writer_at b s) in
                    let v : rank b s ≤ r (writer_at b s) =
                    omega (
                      arith,
                      g,
                      included-rank b y.0 s y.2,
                      reach-at b t y.0 (writer_at b s) y.1,
                    ) in
                    down d n s (omega (arith, z.1)) sl (reached-on t (key_of b y.0) s m a q) v
                    z.3
              ]
        ]

    pub reached-hit : Reached b i j → rank b j ≤ r (writer_at b j)
    reached-hit a =
        let u = reached-by j a in
        let t = u.0 in
        let x = a.read in
        let w = some-save t u.1 in
        let own = past-writer R i l t w.0 t u.1 (omega arith) refl w.1 in
        let h : rank b t ≤ r (writer_at b t) =
        omega (
          arith,
          included-rank b x t u.2,
          reach-at b i x (writer_at b t) a.its,
          G.least (writer_at b t),
        ) in
        down a.key (suc t) t (omega arith) u.1
        (reached-from x t w.0 t a.its u.1 u.2 own) h u.3
