-- An issue of the book, and the desk as it was before it (CR 14): what is written down of it is
-- what stood on the card.
-- card-held, card-row: a sheet that the run had read. card-written: as it stands in a record.
-- Assumes nothing.
use mathlib.Core.Path.{◌≡◌, sym, ap, ◌∙◌, fun_ext}
use mathlib.Core.Bool.{So}
use Prim.Native.Nat.{ℕ, ◌<◌, ◌^◌}
use lib.ListN.{length}
use Rattle.words.proofs.Bools.{◌∙˙◌, and_left}
use Rattle.masks.specs.Mask.{test_bit}
use Rattle.masks.proofs.Sets.{mask-of}
use Rattle.clock.specs.Clock.{Clock}
use Rattle.model.specs.Store.{Store}
use Rattle.model.proofs.Formed.{well-out}
use Rattle.model.proofs.Plans.{run-branch}
use Rattle.layout.proofs.Follow.{Fine}
use Rattle.history.specs.Copies.{held_copy, reaches}
use Rattle.history.specs.Listing.{no_base}
use Rattle.history.specs.Book.{Book, entry}
use Rattle.history.proofs.Past.{past-laws}
use Rattle.history.proofs.Tally as tallies
use Rattle.history.proofs.Reached.{copy-held, reaches-own}
use Rattle.history.proofs.Counted.{held_same, counted-row}
use Rattle.consistency.proofs.Counting.{stands_plain}
use Rattle.consistency.proofs.Following.{snapshot-related}
use Rattle.consistency.proofs.Invariant.{Follows}
use Rattle.records.specs.Format.{Record, keys_in, writers_in, issues_in, key_of, ReadOf}
use Rattle.records.proofs.Notions.{Written}
use Rattle.own.specs.Claims.{WrittenDown}

module _ (s : Store) (b : Book) (F : Follows s b) (fine : Fine s) (none : b.base ≡ no_base)
    (r w S : ℕ) (l : r < s.counts.runs) where
  read_is : (k : ℕ) → k < s.counts.keys → test_bit (s.run r).branch.read k
      ≡ (b.run r).branch.read k
  read_is k o = ((F.run r l).line 0).read k o

  -- Of a sheet that it had read the issue has all of the card's copy.
  copy_is : (k : ℕ) → So ((b.run r).branch.read k)
      → (entry r w S b).read k ≡ ((b.run r).branch.snapshot k).later
  unfolding entry
  copy_is k p = fun_ext (λ i. rw p)

  pub card-held : (k : ℕ) → k < s.counts.keys → So (test_bit (s.run r).branch.read k)
      → So (held_copy s.counts.keys b.history ((entry r w S b).read k))
  card-held k o p =
      let K = s.counts.keys in
      let c = (b.run r).branch.snapshot k in
      let v = (s.run r).branch.snapshot k in
      let held = (run-branch s.counts (s.run r) ((well-out s fine.formed).run r l) 0).has k o
      p in
      let same = held_same K b.history v c.later
      (stands_plain none (snapshot-related F r 0 l k o)) in
      rw (copy_is k (read_is k o ∙˙ p)) (same ∙˙ held)

  -- What it has is read.
  card-read : (k i : ℕ) → k < s.counts.keys → So ((entry r w S b).read k i)
      → So (test_bit (s.run r).branch.read k)
  unfolding entry
  card-read k i o p =
      read_is k o
      ∙ and_left ((b.run r).branch.read k) (((b.run r).branch.snapshot k).later i) p

  -- "the own row of the version on the card"
  pub card-row : (k : ℕ) → k < s.counts.keys → So (test_bit (s.run r).branch.read k)
      → tallies.tally s.counts.keys b.history ((entry r w S b).read k)
      ≡ ((s.run r).branch.snapshot k).past k
  card-row k o p =
      let K = s.counts.keys in
      let h = b.history in
      let c = (b.run r).branch.snapshot k in
      let x = stands_plain none (snapshot-related F r 0 l k o) in
      let own : reaches K h c.later k ≡ c.later =
      fun_ext (reaches-own K h (past-laws K h) k c.later
      (((F.run r l).line 0).closed.good k o).good) in
      ap (tallies.tally K h) (copy_is k (read_is k o ∙˙ p) ∙ sym own)
      ∙ sym (counted-row K h c.later k)
      ∙ sym (ap (λ (q : ℕ → Clock). q k) x.past)

  -- The issue as it stands in a record.
  pub card-written : S < 2 ^ s.counts.keys → (d : Record) → keys_in d ≡ s.counts.keys
      → writers_in d ≡ s.counts.writers → length b.history < issues_in d
      → Written d (length b.history) b.history (entry r w S b)
      → WrittenDown s r w S d (length b.history)
  unfolding entry
  card-written low d ek ew here W = record {
    keys = ek;
    writers = ew;
    here = here;
    writer = W.writer;
    mask = W.mask ∙ rw ek (mask-of s.counts.keys S low);
    every = λ k o p. W.every k (rw ek o) (rw ek (card-held k o p));
    only = λ x m. (rw ek at (W.held x m).0, was x m);
    rising = W.rising;
    row = λ x u m o.
        let k = key_of d x in
        let lk : k < s.counts.keys = rw ek at (W.held x m).0 in
        let same = rw ek at (W.counts x m u (rw ew o)) in
        same ∙ ap (λ (q : Clock). q u) (card-row k lk (was x m));
  }
    where
      was : (x : ℕ) → ReadOf d (length b.history) x
          → So (test_bit (s.run r).branch.read (key_of d x))
      was x m =
          let a = W.held x m in
          let i = (copy-held (keys_in d) b.history ((entry r w S b).read (key_of d x))).0 a.1 in
          card-read (key_of d x) i.0 (rw ek at a.0) i.2
