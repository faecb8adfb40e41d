-- What holds of every past in a store that follows its book.
-- every-past: by the copies that they count. master-dominates: the master's own row of a key has
-- all that is known of the key; so no copy is ahead of it (caches-behind, snapshots-behind).
-- admissible-now: it would be admitted (CR 6).
-- Assumes nothing.
use mathlib.Core.Bool.{So}
use Prim.Native.Nat.{ℕ, ◌≤◌, ◌<◌}
use native.Mathlib.Omega.{arith}
use Rattle.clock.specs.Clock.{Clock}
use Rattle.clock.proofs.Standings.{standing-below}
use Rattle.model.specs.Version.{Version}
use Rattle.model.specs.Store.{branch_of, Store}
use Rattle.model.specs.Calls.Admit.{admissible}
use Rattle.model.proofs.Admits.{EveryPast, Covered, Counted, admissible_in}
use Rattle.history.specs.Copies.{CountedAs, by_writer}
use Rattle.history.specs.Listing.{BookCopy, counted_copy}
use Rattle.history.specs.Lists.{writer_list}
use Rattle.history.specs.Book.{book_branch, Book}
use Rattle.history.proofs.Past.{past-laws}
use Rattle.history.proofs.Carrying.{list-within}
use Rattle.history.proofs.Listing.{issue-most, row-most}
use Rattle.history.proofs.ListingEntered.{listed_as}
use Rattle.history.proofs.ListingMeets.{every-covers}
use Rattle.consistency.specs.Claim.{NotAhead}
use Rattle.consistency.proofs.Invariant.{Follows}
use Rattle.consistency.proofs.Cutting.{master-cut, cuts, overlaps}

module _ {s : Store} {b : Book} (F : Follows s b) where
  -- Every past is that of a copy counted, which lists what was admitted.
  pub every-past : (P : (ℕ → Clock) → Type 0)
      → ((c : BookCopy) → ((d u : ℕ) → c.rows d u ≤ b.base.saves d u)
      → P (counted_copy s.counts.keys b.history b.base c).past)
      → EveryPast s P
  every-past P f = record {
    versions = record {
      master = λ k l.
          let w = F.master k l in
          rw w.counts.past (f (b.master k) w.good.listed.low);
      caches = λ o h k l.
          rw (F.cache o h k l).past (f (b.cache o k) ((F.closed o h).good k l).listed.low);
      snapshots = λ r h n k l.
          let G = (F.run r h).line n in
          rw (G.snapshot k l).past
          (f ((book_branch n (b.run r)).snapshot k) (G.closed.good k l).listed.low);
    };
    writers = λ w l.
        let K = s.counts.keys in
        let list = writer_list b.base b.history w in
        rw (F.writer w l).past
        (f (listed_as (by_writer K b.history w) list)
        (list-within b.base F.based b.history F.lists.within w));
  }

  -- The master's own row of a key dominates every row for that key.
  pub master-dominates : EveryPast s (Covered s)
  master-dominates = every-past (Covered s) under
    where
      under : (c : BookCopy) → ((d u : ℕ) → c.rows d u ≤ b.base.saves d u)
          → Covered s (counted_copy s.counts.keys b.history b.base c).past
      under c low d l =
          let K = s.counts.keys in
          let h = b.history in
          let w = F.master d l in
          rw w.counts.past
          (every-covers K h b.base s.counts.writers F.sound.writers (past-laws K h)
          F.based d (b.master d) c w.good.good w.good.listed (λ i. F.every d i l)
          w.all (low d))

  -- No count exceeds the writer's,
  counts-within : EveryPast s (Counted s)
  counts-within = every-past (Counted s) under
    where
      under : (c : BookCopy) → ((d u : ℕ) → c.rows d u ≤ b.base.saves d u)
          → Counted s (counted_copy s.counts.keys b.history b.base c).past
      under c low d _ u i =
          omega (
            arith,
            row-most s.counts.keys b.history b.base F.based c d u (low d u),
            (F.writer u i).count,
          )

  -- and no number the last one.
  number-within : (v : Version) (c : BookCopy) → c.number ≤ b.base.last
      → CountedAs v (counted_copy s.counts.keys b.history b.base c) → v.issue ≤ s.last
  number-within v c l e =
      omega (
        arith,
        e.issue,
        issue-most s.counts.keys b.history b.base c l,
        F.last,
      )

  -- So the store would be admitted.
  pub admissible-now : So (admissible s)
  admissible-now =
      admissible_in s (record {
        master = master-cut F;
        caches = cuts F;
        snapshots = λ r l n. overlaps F r n l;
        covered = master-dominates;
        counted = counts-within;
        numbered = record {
          master = λ k l.
              let w = F.master k l in
              number-within (s.master k) (b.master k) w.good.listed.number w.counts;
          caches = λ o h k l.
              number-within ((s.site o).cache k) (b.cache o k)
              ((F.closed o h).good k l).listed.number (F.cache o h k l);
          snapshots = λ r h n k l.
              let G = (F.run r h).line n in
              number-within ((branch_of n (s.run r)).snapshot k)
              ((book_branch n (b.run r)).snapshot k)
              (G.closed.good k l).listed.number (G.snapshot k l);
        };
      })

  pub caches-behind : (o : ℕ) → o < s.counts.sites
      → NotAhead s.counts.writers s.counts.keys s.master (s.site o).cache
  caches-behind o l k h =
      (standing-below s.counts.writers _ _).0 (master-dominates.versions.caches o l k h k h)

  pub snapshots-behind : (r n : ℕ) → r < s.counts.runs
      → NotAhead s.counts.writers s.counts.keys s.master
      (branch_of n (s.run r)).snapshot
  snapshots-behind r n l k h =
      (standing-below s.counts.writers _ _).0
      (master-dominates.versions.snapshots r l n k h k h)
