-- The masks of a store that follows its book (CR 3).
-- leading-is: who leads in a copy leads in the paper's words. led_as, led-place: the mask names
-- just these. named: a merge of two versions of a key, wherever they stand, names somebody.
-- Assumes nothing.
use mathlib.Core.Path.{◌≡◌, sym, ◌∙◌}
use mathlib.Core.Bool.{So}
use mathlib.Core.Logic.{inl, inr, ◌↔◌}
use Prim.Native.Nat.{ℕ, ◌<◌}
use native.Mathlib.Decide.{ℕ_discrete}
use lib.ListN.{length}
use Rattle.words.proofs.Bools.{◌∙˙◌}
use Rattle.masks.proofs.Sets.{item_of}
use Rattle.model.specs.Algebra.{Place}
use Rattle.model.specs.Version.{Version}
use Rattle.model.specs.Store.{Store}
use Rattle.history.specs.History.{History, saved}
use Rattle.history.specs.Copies.{Copy, leading}
use Rattle.history.specs.Listing.{Base, no_base, BookCopy}
use Rattle.history.specs.Book.{book_branch, Book}
use Rattle.history.proofs.Behind.{past-is-before}
use Rattle.history.proofs.Leading.{Leader, leading-iff}
use Rattle.consistency.specs.Leading.{Leads, LedAs, Led, OnPlace, OnPlace.on_master, OnPlace.on_cache, OnPlace.on_snapshot, Named}
use Rattle.consistency.specs.Claim.{PastIsBefore}
use Rattle.consistency.proofs.Simulation.{Related}
use Rattle.consistency.proofs.Counting.{StandsFor}
use Rattle.consistency.proofs.Invariant.{Follows}
use Rattle.consistency.proofs.Following.{Stands, now-named, master-related, cache-related, snapshot-related}

-- ---- in the paper's words

-- For a copy that has writes of its key alone.
pub leading-is : (K : ℕ) (h : History) → PastIsBefore K h → (k : ℕ) (c : Copy)
    → ((i : ℕ) → So (c i) → (i < length h) × So (saved h k i))
    → (u : ℕ) → So (leading K h k c u) ↔ Leads h k c u
leading-is K h before k c writes u =
    (λ p. there ((leading-iff K h k c u).0 p), λ L. (leading-iff K h k c u).1 (back L))
  where
    there : Leader K h k c u → Leads h k c u
    there L =
        let i = L.last in
        record {
          last = i;
          included = L.included;
          own = L.own;
          latest = λ j p w. L.latest j (writes j p).0 p w;
          free = λ j p ne b.
              ne (L.free j (writes j p).0 p ((before k i k j (writes j p).1).1 (inr b)));
        }

    back : Leads h k c u → Leader K h k c u
    back L =
        let i = L.last in
        record {
          last = i;
          low = (writes i L.included).0;
          included = L.included;
          own = L.own;
          latest = λ j _ p w. L.latest j p w;
          free = λ j _ p q.
              elim ((before k i k j (writes j p).1).0 q) [
                | inl z ↦ sym z.1
                | inr b ↦ elim (ℕ_discrete j i) [ yes y ↦ y | no y ↦ absurd (L.free j p y b) ]
              ];
        }

-- A mask that is that of its copy names just who leads in it.
pub led_as : {W K : ℕ} {h : History} {B : Base} {k : ℕ} {v : Version} {c : BookCopy}
    → B ≡ no_base → PastIsBefore K h → StandsFor W K h B k v c
    → LedAs W K h k v.leaders c.later
led_as {W} {K} {h} {B} {k} {v} {c} plain before r =
    record {
      mask = r.led plain;
      leads = λ u l.
          let bit = item_of W v.leaders (leading K h k c.later) (r.led plain) u l in
          let is = leading-is K h before k c.later r.good.good.writes u in
          (λ p. is.0 (bit ∙˙ p), λ L. bit ∙ is.1 L);
    }

-- ---- of a store that follows its book

module _ {s : Store} {b : Book} (F : Follows s b) (plain : b.base ≡ no_base) where
  pub led-place : {p : Place Version} {c : Place BookCopy}
      → Related s.counts.keys (Stands s b) p c
      → Led s.counts.writers s.counts.keys b.history p c
  led-place r k l = led_as plain (past-is-before F.sound) (r k l)

  -- A version on master, shelf or card stands for a copy.
  on-place : (k : ℕ) (v : Version) → k < s.counts.keys → OnPlace s k v
      → (c : BookCopy) × Stands s b k v c
  on-place k v l on_master = (b.master k, master-related F k l)
  on-place k v l (on_cache o h) = (b.cache o k, cache-related F o h k l)
  on-place k v l (on_snapshot r n h) =
      ((book_branch n (b.run r)).snapshot k, snapshot-related F r n h k l)

  pub named : (k : ℕ) (v w : Version) → k < s.counts.keys → OnPlace s k v → OnPlace s k w
      → Named s.counts.writers k v w
  named k v w l p q =
      let a = on-place k v l p in
      let c = on-place k w l q in
      now-named F plain k v w a.0 c.0 a.1 c.1
