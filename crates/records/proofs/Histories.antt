-- The record's own history: what stands in it, ranks, and that it is one the calls could have
-- made.
-- history-..: length, writers, saves. rank-..: of an issue before another, and the issue of a
-- count. included-..: what a read has. record_sound. before-own: the history before an issue has
-- all that stands behind its saves.
-- Assumes nothing.
use mathlib.Core.Path.{◌≡◌, refl, sym, ap, ◌∙◌}
use mathlib.Core.Bool.{So, ◌&&◌}
use mathlib.Core.Logic.{◌↔◌}
use mathlib.Core.List.{◌∷◌}
use Prim.Native.Nat.{ℕ, zero, suc, ◌≤◌, ◌<◌}
use native.Mathlib.Omega.{arith}
use native.Mathlib.Nat.{not-suc-le-zero}
use native.Mathlib.Decide.{dec_le}
use lib.Dec.{eqb, leb, ltb}
use lib.ListN.{length}
use Rattle.words.specs.Tests.{Items}
use Rattle.words.specs.Numbers.{count_below}
use Rattle.words.proofs.Bools.{test, and_intro, and_left, and_right, leb-le, le-leb, ltb-lt, eqb-eq, eq-eqb, ne_eqb}
use Rattle.words.proofs.Numbers.{when-yes, when-no, count-mono, count-between}
use Rattle.words.proofs.Tests.{below-cases}
use Rattle.masks.proofs.Bits.{test_low}
use Rattle.masks.proofs.Sets.{mask-some}
use Rattle.history.specs.History.{HappensBefore, writer_of, saved}
use Rattle.history.proofs.Notions.{Sound}
use Rattle.history.proofs.Past.{writer_of_top, writer_of_low, saved-top, saved_low}
use Rattle.history.proofs.Sounds.{sound_empty, sound-issue}
use Rattle.history.proofs.Behind.{before-settled}
use Rattle.records.specs.Format.{Record, keys_in, writers_in, issues_in, writer_at, mask_at, saved_at, key_of, clock_of, ReadOf, any_read, is_by, issues_before, rank, Readable}
use Rattle.records.specs.Snapshots.{included, issue_of, history_of}
use Rattle.records.proofs.ReadsOf.{reads-some}

-- ---- what stands in it

pub history-length : (b : Record) (n : ℕ) → length (history_of b n) ≡ n
unfolding history_of
history-length b zero = refl
history-length b (suc n) = omega (arith, history-length b n)

pub history-writer : (b : Record) (n j : ℕ) → j < n → writer_of (history_of b n) j ≡ writer_at b j
unfolding history_of issue_of
history-writer b zero j l = absurd (not-suc-le-zero l)
history-writer b (suc n) j l =
    let h = history_of b n in
    let e = history-length b n in
    below-cases j n l
    (λ q.
    let z : j ≡ length h = omega arith in
    ap (writer_of (issue_of b n ∷ h)) z ∙ writer_of_top (issue_of b n) h ∙ ap (writer_at b) (sym
    q))
    (λ q. writer_of_low (issue_of b n) h j (omega arith) ∙ history-writer b n j q)

pub history-saved : (b : Record) (n j d : ℕ) → j < n → saved (history_of b n) d j ≡ saved_at b j d
unfolding history_of issue_of
history-saved b zero j d l = absurd (not-suc-le-zero l)
history-saved b (suc n) j d l =
    let h = history_of b n in
    let e = history-length b n in
    below-cases j n l
    (λ q.
    let z : j ≡ length h = omega arith in
    ap (saved (issue_of b n ∷ h) d) z ∙ saved-top (issue_of b n) h d
    ∙ ap (λ (i : ℕ). saved_at b i d) (sym q))
    (λ q. saved_low (issue_of b n) h d j (omega arith) ∙ history-saved b n j d q)

-- ---- ranks

is-by : (b : Record) (u j : ℕ) → writer_at b j ≡ u → So (is_by b u j)
unfolding is_by
is-by b u j e = eq-eqb (writer_at b j) u e

by-is : (b : Record) (u j : ℕ) → So (is_by b u j) → writer_at b j ≡ u
unfolding is_by
by-is b u j p = eqb-eq (writer_at b j) u p

-- An issue that is counted among those before i is one of them.
pub rank_below : (b : Record) (i j : ℕ) → rank b j ≤ issues_before b i (writer_at b j) → j < i
unfolding rank issues_before
rank_below b i j h =
    let u = writer_at b j in
    elim (dec_le (suc j) i) [
      | yes l ↦ l
      | no l ↦
          absurd (omega (
            arith,
            count-between i (suc j) j (is_by b u) (omega arith) (omega arith)
                (is-by b u j refl),
          ))
    ]

pub rank-some : (b : Record) (j : ℕ) → 1 ≤ rank b j
unfolding rank issues_before
rank-some b j =
    omega (
      arith,
      count-between 0 (suc j) j (is_by b (writer_at b j)) (omega arith) (omega arith)
          (is-by b (writer_at b j) j refl),
    )

rank-by : (b : Record) (u t : ℕ) → u ≡ writer_at b t → issues_before b (suc t) u ≡ rank b t
unfolding rank
rank-by b u t e = rw e

-- Of two issues by one writer the later one has the larger rank.
pub rank-order : (b : Record) (j t : ℕ) → writer_at b j ≡ writer_at b t → rank b j ≤ rank b t → j
    ≤ t
rank-order b j t e h =
    omega (arith, rank_below b (suc t) j (omega (arith, rank-by b (writer_at b j) t e)))

pub rank_mono : (b : Record) (j t : ℕ) → writer_at b j ≡ writer_at b t → j ≤ t → rank b j ≤ rank b
    t
unfolding rank issues_before
rank_mono b j t e h = rw e (count-mono (suc j) (suc t) (is_by b (writer_at b t)) (omega arith))

-- Each count up to theirs is one's rank.
pub count-reached : (p : Items) (n c : ℕ) → 1 ≤ c → c ≤ count_below n p
    → (j : ℕ) × (j < n) × So (p j) × (count_below (suc j) p ≡ c)
unfolding count_below
count-reached p zero c l h = absurd (omega arith)
count-reached p (suc n) c l h =
    elim (dec_le c (count_below n p)) [
      | yes k ↦ let r = count-reached p n c l k in (r.0, omega arith, r.2, r.3)
      | no k ↦
          test (p n)
          (λ y. (n, omega arith, y, omega (arith, when-yes (p n) 1 y)))
          (λ z. absurd (omega (arith, when-no (p n) 1 z)))
    ]

pub rank-reached : (b : Record) (i u c : ℕ) → 1 ≤ c → c ≤ issues_before b i u
    → (j : ℕ) × (j < i) × (writer_at b j ≡ u) × (rank b j ≡ c)
unfolding rank issues_before
rank-reached b i u c l h =
    let r = count-reached (is_by b u) i c l h in
    let e = by-is b u r.0 r.2 in
    (r.0, r.1, e, rw e r.3)

-- ---- what a read has

pub included-saved : (b : Record) (x j : ℕ) → So (included b x j) → So (saved_at b j (key_of b x))
unfolding included
included-saved b x j p =
    and_left (saved_at b j (key_of b x)) (leb (rank b j) (clock_of b x (writer_at b j))) p

pub included-rank : (b : Record) (x j : ℕ) → So (included b x j)
    → rank b j ≤ clock_of b x (writer_at b j)
unfolding included
included-rank b x j p =
    let c = clock_of b x (writer_at b j) in
    leb-le (rank b j) c (and_right (saved_at b j (key_of b x)) (leb (rank b j) c) p)

pub included_in : (b : Record) (x j : ℕ) → So (saved_at b j (key_of b x))
    → rank b j ≤ clock_of b x (writer_at b j) → So (included b x j)
unfolding included
included_in b x j p l = and_intro p (le-leb (rank b j) (clock_of b x (writer_at b j)) l)

-- ---- a readable record

-- A read of issue i includes saves of earlier issues only.
pub included-earlier : {b : Record} → Readable b → (i x j : ℕ) → i < issues_in b → ReadOf b i x
    → j < issues_in b → So (included b x j) → j < i
included-earlier {b} R i x j l m k p =
    let v = (R.issue j k).writer in
    let c = (R.reads i l x m).counted (writer_at b j) v in
    rank_below b i j (omega (arith, c, included-rank b x j p))

pub record_sound : {b : Record} → Readable b → (n : ℕ) → n ≤ issues_in b
    → Sound (keys_in b) (writers_in b) (history_of b n)
unfolding history_of issue_of
record_sound {b} R zero l = sound_empty (keys_in b) (writers_in b)
record_sound {b} R (suc n) l =
    let y = R.issue n l in
    sound-issue (keys_in b) (writers_in b) (issue_of b n) (history_of b n)
    (record_sound R n (omega arith)) y.writer
    (λ d. test_low (mask_at b n) (keys_in b) d y.mask)
    (mask-some (keys_in b) (mask_at b n) y.mask
    (ne_eqb (mask_at b n) 0 (λ e. omega (arith, y.some))))
    reads
  where
    reads : (d j : ℕ)
        → So (ltb j n && any_read b n (λ x. eqb (key_of b x) d && included b x j))
        → (d < keys_in b) × (j < length (history_of b n)) × So (saved (history_of b n) d j)
    reads d j p =
        let has : Items = λ x. eqb (key_of b x) d && included b x j in
        let k = ltb-lt j n (and_left (ltb j n) (any_read b n has) p) in
        let r = reads-some b n has (and_right (ltb j n) (any_read b n has) p) in
        let x = r.0 in
        let e = eqb-eq (key_of b x) d (and_left (eqb (key_of b x) d) (included b x j) r.2) in
        let s = included-saved b x j
        (and_right (eqb (key_of b x) d) (included b x j) r.2) in (
          rw e at (R.reads n l x r.1).key,
          omega (arith, history-length b n),
          rw (history-saved b n j d k) (rw e at s),
        )

-- What stands behind a save before issue i stands behind it by the history before i.
pub before-own : {b : Record} → Readable b → (n i : ℕ) → i ≤ n → n ≤ issues_in b
    → (d j e t : ℕ) → t < i
    → HappensBefore (history_of b n) d j e t ↔ HappensBefore (history_of b i) d j e t
unfolding history_of
before-own {b} R zero i o l d j e t k = absurd (omega arith)
before-own {b} R (suc n) i o l d j e t k =
    below-cases i (suc n) (omega arith) (λ q. rw q ((λ a. a), (λ a. a)))
    (λ q.
    let s = before-settled (issue_of b n) (record_sound R (suc n) l) d j e t
    (omega (arith, history-length b n)) in
    let r = before-own R n i (omega arith) (omega arith) d j e t k in
    ((λ a. r.0 (s.0 a)), (λ a. s.1 (r.1 a))))
