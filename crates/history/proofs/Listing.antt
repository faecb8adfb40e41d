-- A version is its copy counted, in a book that begins at an admission (CR 6): copies with lists
-- and the versions counted as them agree on held and needs.
-- book-issue, book-row, row-at: the parts of a count; issue-most, row-most: how large they are.
-- held-, needs-same: tests.
-- Assumes nothing.
use mathlib.Core.Path.{◌≡◌, ap, ◌∙◌}
use mathlib.Core.Bool.{So}
use mathlib.Core.Logic.{◌⊎◌, inl, inr}
use Prim.Native.Nat.{ℕ, ◌+◌, ◌≤◌, ◌<◌, max}
use native.Mathlib.Omega.{arith}
use native.Mathlib.Decide.{dec_le}
use lib.ListN.{length}
use Rattle.words.specs.Tests.{Items}
use Rattle.words.specs.Numbers.{count_below}
use Rattle.words.proofs.Bools.{same_test}
use Rattle.clock.specs.Clock.{Clock, present}
use Rattle.clock.proofs.Order.{present-intro, present-some}
use Rattle.model.specs.Version.{Version, held, dependency}
use Rattle.model.proofs.Merges.{held-iff}
use Rattle.model.proofs.Needs.{dependency-iff}
use Rattle.history.specs.History.{History, writer_of}
use Rattle.history.specs.Copies.{CountedAs, reaches, held_copy, last_in, by_writer}
use Rattle.history.specs.Listing.{Base, BookCopy, held_book, needs_book, shift, counted_copy}
use Rattle.history.proofs.Tally.{last-at, last_some, last-le, own-rank, tally, tally-at, tally-some, tally-total}
use Rattle.history.proofs.Reached.{copy-held}
use Rattle.history.proofs.Counted.{counted-issue, counted-row}
use Rattle.history.proofs.Shifts.{shift-pos, shift-at-least, shift-at-most}
use Rattle.history.proofs.Listed.{Based, book-held, book-needs}

module _ (K : ℕ) (h : History) where
  -- ---- the parts of a count

  pub book-issue : (B : Base) (c : BookCopy)
      → (counted_copy K h B c).issue ≡ max c.number (shift B.last (last_in K h c.later))
  unfolding counted_copy
  book-issue B c = rw (counted-issue K h c.later)

  pub book-row : (B : Base) (c : BookCopy) (d w : ℕ) → (counted_copy K h B c).past d w
      ≡ max (c.rows d w) (shift (B.count w) (tally K h (reaches K h c.later d) w))
  unfolding counted_copy
  book-row B c d w = rw (counted-row K h c.later d)

  module _ (B : Base) where
    -- A count in the row of a version that is counted.
    pub row-at : (v : Version) (c : BookCopy) → CountedAs v (counted_copy K h B c)
        → (d w : ℕ) → v.past d w
        ≡ max (c.rows d w) (shift (B.count w) (tally K h (reaches K h c.later d) w))
    row-at v c e d w = ap (λ (p : ℕ → Clock). p d w) e.past ∙ book-row B c d w

    -- No number and no count goes beyond the last ones.
    pub issue-most : (c : BookCopy) → c.number ≤ B.last
        → (counted_copy K h B c).issue ≤ B.last + length h
    issue-most c l =
        let last = last_in K h c.later in
        omega (arith, book-issue B c, shift-at-most B.last last, last-le K h c.later)

    pub row-most : Based B → (c : BookCopy) (d u : ℕ) → c.rows d u ≤ B.saves d u
        → (counted_copy K h B c).past d u ≤ B.count u + count_below (length h) (by_writer K h u)
    row-most based c d u l =
        let s = reaches K h c.later d in
        omega (
          arith,
          book-row B c d u,
          based.counts d u,
          shift-at-most (B.count u) (tally K h s u),
          tally-total K h s u,
        )

    -- ---- held

    pub held_same : (v : Version) (c : BookCopy) → CountedAs v (counted_copy K h B c)
        → held v ≡ held_book K h c
    held_same v c e = same_test there back
      where
        last : ℕ
        last = last_in K h c.later

        number : v.issue ≡ max c.number (shift B.last last)
        number = e.issue ∙ book-issue B c

        there : So (held v) → So (held_book K h c)
        there p =
            let l = (held-iff v).0 p in
            elim (dec_le 1 c.number) [
              | yes y ↦ (book-held K h c).1 (inl y)
              | no y ↦
                  let o = shift-pos B.last last (omega (arith, number)) in
                  let some = (copy-held K h c.later).1 (last_some K h c.later o) in
                  (book-held K h c).1 (inr some)
            ]

        some : (1 ≤ c.number) ⊎ So (held_copy K h c.later) → 1 ≤ v.issue
        some (inl l) = omega (arith, number)
        some (inr p) =
            let r = (copy-held K h c.later).0 p in
            let o = last-at K h c.later r.0 r.1 r.2 in
            omega (arith, number, shift-at-least B.last last)

        back : So (held_book K h c) → So (held v)
        back p = (held-iff v).1 (some ((book-held K h c).0 p))

    -- ---- needs and meets, where writers are below W

    module _ (W : ℕ) (writers : (i : ℕ) → i < length h → writer_of h i < W) where
      pub needs-same : (k : ℕ) (v : Version) (c : BookCopy) → CountedAs v (counted_copy K h B c)
          → (d : ℕ) → dependency W k v d ≡ needs_book K W h k c d
      needs-same k v c e d = same_test there back
        where
          s : Items
          s = reaches K h c.later d

          there : So (dependency W k v d) → So (needs_book K W h k c d)
          there p =
              let u = (dependency-iff W k v d).0 p in
              let r = present-some W (v.past d) u.1 in
              let w = r.0 in
              elim (dec_le 1 (c.rows d w)) [
                | yes y ↦
                    (book-needs K h W k c d).1 (u.0, inr (present-intro W (c.rows d) w r.1 y))
                | no y ↦
                    let o = shift-pos (B.count w) (tally K h s w)
                    (omega (arith, row-at v c e d w, r.2)) in
                    let t = tally-some K h s w o in
                    (book-needs K h W k c d).1 (u.0, inl (t.0, t.1, t.2))
              ]

          some : ((j : ℕ) × (j < length h) × So (s j)) ⊎ So (present W (c.rows d))
              → So (present W (v.past d))
          some (inl r) =
              let i = r.0 in
              let w = writer_of h i in
              let o = tally-at K h s i r.1 r.2 in
              present-intro W (v.past d) w (writers i r.1)
              (omega (
                arith,
                own-rank K h i,
                row-at v c e d w,
                shift-at-least (B.count w) (tally K h s w),
              ))
          some (inr p) =
              let r = present-some W (c.rows d) p in
              present-intro W (v.past d) r.0 r.1
              (omega (arith, row-at v c e d r.0, r.2))

          back : So (needs_book K W h k c d) → So (dependency W k v d)
          back p =
              let r = (book-needs K h W k c d).0 p in
              (dependency-iff W k v d).1 (r.0, some r.1)
