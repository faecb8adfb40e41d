-- The stale marks of a store that follows its book (CR 4), and the allowances (CR 7).
-- marks_true: each is the mask. within: no shelf holds too much. unbarred: nor a key that it may
-- not (CR 9). marks-copies: it names the copies
-- that are behind the master's. copies-equal: two copies of a key include the same exactly if
-- their own rows are equal.
-- Assumes nothing.
use mathlib.Core.Path.{◌≡◌, sym, ap, ◌∙◌}
use mathlib.Core.Bool.{So}
use mathlib.Core.Logic.{◌↔◌, ◌⊎◌, inl, inr}
use Prim.Native.Nat.{ℕ, ◌≤◌, ◌<◌}
use native.Mathlib.Omega.{arith}
use lib.ListN.{length}
use Rattle.words.proofs.Bools.{test, clash, and_intro, and_left, and_right}
use Rattle.masks.specs.Mask.{test_bit}
use Rattle.clock.specs.declared.Standing.{Standing}
use Rattle.clock.specs.declared.Standing.TheVariants.{Equal}
use Rattle.clock.specs.Clock.{standing, differing}
use Rattle.clock.proofs.Standings.{standing-equal, differing-not}
use Rattle.model.specs.Version.{Version, held}
use Rattle.model.specs.Marks.{is_stale, stale_mask}
use Rattle.model.specs.Allowance.{held_count}
use Rattle.model.specs.Store.{Store}
use Rattle.model.proofs.Formed.{well-out}
use Rattle.model.proofs.Marked.{mark-stale}
use Rattle.model.proofs.Rights.{unbarred-at}
use Rattle.layout.proofs.Follow.{Fine}
use Rattle.history.specs.History.{History, writer_of}
use Rattle.history.specs.Listing.{Base, BookCopy, held_book}
use Rattle.history.specs.Book.{Book}
use Rattle.history.proofs.Notions.{PastLaws}
use Rattle.history.proofs.Past.{past-laws}
use Rattle.history.proofs.Listed.{Based}
use Rattle.history.proofs.Listing.{held_same}
use Rattle.history.proofs.ListingMeets.{book-equal}
use Rattle.history.proofs.BookWrites.{BookWrite, Includes, write-held}
use Rattle.consistency.specs.Claim.{IsBehind}
use Rattle.consistency.proofs.Counting.{StandsFor}
use Rattle.consistency.proofs.Invariant.{Follows}
use Rattle.consistency.proofs.Following.{master-related, cache-related}

pub marks_true : (s : Store) → Fine s → (o : ℕ) → o < s.counts.sites
    → (s.site o).stale ≡ stale_mask s.counts s.master (s.site o).cache
marks_true s fine = (well-out s fine.formed).mark

-- Nor does a shelf hold more than it may (CR 7).
pub within : (s : Store) → Fine s → (o : ℕ) → o < s.counts.sites
    → held_count s.counts.keys (s.site o).cache ≤ (s.site o).allowance
within s fine o h = ((well-out s fine.formed).room o h).1

-- Nor one that its office may not hold (CR 9).
pub unbarred : (s : Store) → Fine s → (o k : ℕ) → o < s.counts.sites → k < s.counts.keys
    → So (held ((s.site o).cache k)) → So (test_bit (s.tail.may_hold o) k)
unbarred s fine o k h =
    unbarred-at s.counts.keys (s.tail.may_hold o) (λ k. held ((s.site o).cache k))
    ((well-out s fine.formed).right o h) k

-- ---- two versions of key k and the copies that they stand for

-- They include the same, of later saves and of admitted ones.
abbrev Same : ℕ → ℕ → BookCopy → BookCopy → Type 0
Same W k c d =
    ((i : ℕ) → c.later i ≡ d.later i) × ((u : ℕ) → u < W → c.rows k u ≡ d.rows k u)

pub copies-equal : {W K : ℕ} {h : History} {B : Base} → PastLaws K h → Based B
    → ((i : ℕ) → i < length h → writer_of h i < W) → (k : ℕ) (v w : Version) (c d : BookCopy)
    → StandsFor W K h B k v c → StandsFor W K h B k w d
    → (standing W (v.past k) (w.past k) ≡ Equal) ↔ Same W k c d
copies-equal {W} {K} {h} {B} laws based writers k v w c d r r' =
    let rows = standing-equal W (v.past k) (w.past k) in
    let same = book-equal K h B W writers laws based k v w c d r.counts r'.counts
    r.good.good r'.good.good r.good.listed r'.good.listed in
    (λ e. same.0 (rows.0 e), λ q. rows.1 (same.1 q))

-- ---- the marks

module _ {s : Store} {b : Book} (F : Follows s b) (fine : Fine s) (o k : ℕ)
    (ho : o < s.counts.sites) (hk : k < s.counts.keys) where
  pub marks-copies : So (test_bit (s.site o).stale k)
      ↔ IsBehind s.counts.writers k (b.cache o k) (b.master k)
  unfolding is_stale
  marks-copies = (
    λ p.
        let q = sym (mark-stale s fine.formed o k ho hk) ∙ p in
        let here = and_left (held v) (differing st) q in
        record {
          some = some ((write-held K W b.history b.base k c r.good).0 (sym holds ∙ here));
          other = λ e. clash (and_right (held v) (differing st) q) (ap differing (same.1 e));
        },
    λ t.
        let has = (write-held K W b.history b.base k c r.good).1 (write t.some) in
        mark-stale s fine.formed o k ho hk ∙ and_intro (holds ∙ has)
        (test (differing st) (λ y. y) (λ n. absurd (t.other (same.0 (differing-not st n))))),
  )
    where
      K : ℕ
      K = s.counts.keys

      W : ℕ
      W = s.counts.writers

      v : Version
      v = (s.site o).cache k

      c : BookCopy
      c = b.cache o k

      st : Standing
      st = standing s.counts.writers (v.past k) ((s.master k).past k)

      r : StandsFor W K b.history b.base k v c
      r = cache-related F o ho k hk

      same : (st ≡ Equal) ↔ Same W k c (b.master k)
      same =
          copies-equal (past-laws K b.history) F.based F.sound.writers k v (s.master k)
          c (b.master k) r (master-related F k hk)

      holds : held v ≡ held_book K b.history c
      holds = held_same K b.history b.base v c r.counts

      -- What the copy includes is a later save, or one that its own row counts.
      some : (x : BookWrite) × Includes W k c x
          → ((i : ℕ) × So (c.later i)) ⊎ ((u : ℕ) × (u < W) × (1 ≤ c.rows k u))
      some (inl i, p) = inl (i, p)
      some (inr x, p) = inr (x.0, p.0, omega (arith, p.1, p.2))

      write : ((i : ℕ) × So (c.later i)) ⊎ ((u : ℕ) × (u < W) × (1 ≤ c.rows k u))
          → (x : BookWrite) × Includes W k c x
      write (inl y) = (inl y.0, y.1)
      write (inr y) = (inr (y.0, 1), (y.1, omega arith, y.2))
