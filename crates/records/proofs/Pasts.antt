-- The past of an issue by the record's own history, in the record's words.
-- past-own: the history before an issue is enough. past-step: one step back. past_of_read,
-- past-writer: what a read of an issue includes, and what its writer saved before, is in its past.
-- Reached: some save of an issue is in a read or behind one; reached-..: ways in.
-- Assumes nothing.
use mathlib.Core.Path.{◌≡◌, refl, sym, ap, ◌∙◌}
use mathlib.Core.Bool.{So, ◌&&◌}
use mathlib.Core.Logic.{◌⊎◌, inl, inr}
use mathlib.Core.List.{◌∷◌}
use Prim.Native.Nat.{ℕ, zero, suc, ◌≤◌, ◌<◌}
use native.Mathlib.Omega.{arith}
use native.Mathlib.Nat.{not-suc-le-zero}
use lib.Dec.{eqb, ltb}
use lib.ListN.{length}
use Rattle.words.specs.Tests.{Items}
use Rattle.words.proofs.Bools.{◌∙˙◌, and_intro, and_right, eq-eqb, lt-ltb}
use Rattle.words.proofs.Tests.{below-cases}
use Rattle.history.specs.History.{History, HappensBefore.was_read_of, writer_of, saved, read_by, in_past}
use Rattle.history.proofs.Notions.{Sound}
use Rattle.history.proofs.Past.{read_by_top, read_by_low, past_top, past-low, top_past-from, leads-from, past-laws}
use Rattle.history.proofs.Behind.{before-past}
use Rattle.records.specs.Format.{Record, keys_in, writers_in, issues_in, writer_at, saved_at, key_of, ReadOf, any_read, Readable}
use Rattle.records.specs.Snapshots.{included, issue_of, history_of}
use Rattle.records.proofs.ReadsOf.{reads-some, reads-any}
use Rattle.records.proofs.Histories.{history-length, history-writer, history-saved, record_sound}

pub history-read : (b : Record) (n s d j : ℕ) → s < n
    → read_by (history_of b n) s d j ≡ (issue_of b s).read d j
unfolding history_of
history-read b zero s d j l = absurd (not-suc-le-zero l)
history-read b (suc n) s d j l =
    let h = history_of b n in
    let e = history-length b n in
    below-cases s n l
    (λ q.
    let z : s ≡ length h = omega arith in
    ap (λ (t : ℕ). read_by (issue_of b n ∷ h) t d j) z ∙ read_by_top (issue_of b n) h d j
    ∙ ap (λ (t : ℕ). (issue_of b t).read d j) (sym q))
    (λ q. read_by_low (issue_of b n) h s d j (omega arith) ∙ history-read b n s d j q)

pub past-own : (b : Record) (n i t d j : ℕ) → t < i → i ≤ n
    → in_past (keys_in b) (history_of b n) t d j ≡ in_past (keys_in b) (history_of b i) t d j
unfolding history_of
past-own b zero i t d j k o = absurd (omega arith)
past-own b (suc n) i t d j k o =
    below-cases i (suc n) (omega arith) (λ q. rw q refl)
    (λ q.
    past-low (keys_in b) (issue_of b n) (history_of b n) t d j (omega (arith, history-length b n))
    ∙ past-own b n i t d j k (omega arith))

-- Issue s comes straight before issue t.
abbrev pub Straight : Record → ℕ → ℕ → Type 0
Straight b t s =
    (writer_at b s ≡ writer_at b t) ⊎ ((y : ℕ) × ReadOf b t y × So (included b y s))

straight-from : (b : Record) (t s : ℕ) → s < t
    → (writer_of (history_of b t) s ≡ (issue_of b t).writer)
    ⊎ ((c : ℕ) × (c < keys_in b) × So ((issue_of b t).read c s))
    → Straight b t s
unfolding issue_of
straight-from b t s k (inl e) = inl (sym (history-writer b t s k) ∙ e)
straight-from b t s k (inr z) =
    let has : Items = λ x. eqb (key_of b x) z.0 && included b x s in
    let r = reads-some b t has (and_right (ltb s t) (any_read b t has) z.2) in
    let y = r.0 in
    inr (y, r.1, and_right (eqb (key_of b y) z.0) (included b y s) r.2)

pub past-step : (b : Record) (i t d j : ℕ) → t < i → So (in_past (keys_in b) (history_of b i) t d
    j)
    → (j ≡ t)
    ⊎ ((s : ℕ) × (s < t) × Straight b t s × So (in_past (keys_in b) (history_of b i) s d j))
unfolding history_of
past-step b i t d j l p =
    elim (top_past-from K (issue_of b t) g d j (past_top K (issue_of b t) g d j ∙˙ top)) [
      | inl u ↦ inl (omega (arith, u.0, len))
      | inr u ↦
          let s = u.0 in
          let k : s < t = omega (arith, u.1, len) in
          inr (
            s,
            k,
            straight-from b t s k (leads-from K (issue_of b t) g s u.2),
            past-own b i t s d j k (omega arith) ∙ u.3,
          )
    ]
  where
    K : ℕ
    K = keys_in b

    g : History
    g = history_of b t

    len : length g ≡ t
    len = history-length b t

    low : So (in_past K (issue_of b t ∷ g) t d j)
    low = past-own b i (suc t) t d j (omega arith) (omega arith) ∙˙ p

    top : So (in_past K (issue_of b t ∷ g) (length g) d j)
    top = ap (λ (n : ℕ). in_past K (issue_of b t ∷ g) n d j) len ∙ low

read_in : (b : Record) (s y t : ℕ) → ReadOf b s y → t < s → So (included b y t)
    → So ((issue_of b s).read (key_of b y) t)
unfolding issue_of
read_in b s y t m o p =
    let has : Items = λ x. eqb (key_of b x) (key_of b y) && included b x t in
    and_intro (lt-ltb t s o)
    (reads-any b s has y m (and_intro (eq-eqb (key_of b y) (key_of b y) refl) p))

-- ---- a readable record, before issue i

module _ {b : Record} (R : Readable b) (i : ℕ) (l : i < issues_in b) where
  sound : Sound (keys_in b) (writers_in b) (history_of b i)
  sound = record_sound R i (omega arith)

  pub past-saved : (t d j : ℕ) → t < i → So (in_past (keys_in b) (history_of b i) t d j)
      → (j ≤ t) × So (saved_at b j d)
  past-saved t d j k p =
      let u = (past-laws (keys_in b) (history_of b i)).bound t d j
      (omega (arith, history-length b i)) p in
      (u.0, history-saved b i j d (omega (arith, u.0)) ∙˙ u.1)

  -- An issue that has one save in the past has all.
  pub past_all : (t d j e : ℕ) → t < i → So (in_past (keys_in b) (history_of b i) t d j)
      → So (saved_at b j e) → So (in_past (keys_in b) (history_of b i) t e j)
  past_all t d j e k p q =
      let laws = past-laws (keys_in b) (history_of b i) in
      let n = history-length b i in
      let o = (past-saved t d j k p).0 in
      let s : So (saved (history_of b i) e j) = history-saved b i j e (omega arith) ∙ q in
      laws.trans t d j e j (omega arith) p (laws.own j e (omega arith) s)

  pub past-writer : (t d j : ℕ) → t < i → j ≤ t → writer_at b j ≡ writer_at b t
      → So (saved_at b j d) → So (in_past (keys_in b) (history_of b i) t d j)
  past-writer t d j k o e q =
      (past-laws (keys_in b) (history_of b i)).session t d j (omega (arith, history-length b i)) o
      (history-writer b i j (omega arith) ∙ e ∙ sym (history-writer b i t k))
      (history-saved b i j d (omega arith) ∙ q)

  pub past_of_read : (s y t : ℕ) → s < i → ReadOf b s y → t < s → So (included b y t)
      → So (in_past (keys_in b) (history_of b i) s (key_of b y) t)
  past_of_read s y t k m o p =
      let n = history-length b i in
      let w = sound.some-write s (omega arith) in
      let rd : So (read_by (history_of b i) s (key_of b y) t) =
      history-read b i s (key_of b y) t k ∙ read_in b s y t m o p in
      before-past sound
      (was_read_of {d = key_of b y} {j = t} {e = w.0} {i = s} (omega arith) rd w.1)
