-- Rows of versions that are copies with lists, counted (CR 6): compared, and needs met.
-- book-covers: one dominates another; every-covers: the master's. meets-same: a need is met.
-- book-equal: own rows are equal.
-- Assumes nothing.
use mathlib.Core.Path.{◌≡◌, sym, ap, ◌∙◌}
use mathlib.Core.Bool.{So}
use mathlib.Core.Logic.{◌⊎◌, inl, inr, ◌↔◌}
use Prim.Native.Nat.{ℕ, ◌≤◌, ◌<◌}
use native.Mathlib.Omega.{arith}
use lib.ListN.{length}
use Rattle.words.specs.Tests.{Items, Within}
use Rattle.words.proofs.Bools.{test, same_test, ◌∙˙◌}
use Rattle.clock.specs.Clock.{Clock, Dominates, present}
use Rattle.clock.proofs.Order.{present-some}
use Rattle.model.specs.Version.{Version, supersedes}
use Rattle.model.proofs.Needs.{supersedes-iff}
use Rattle.history.specs.History.{History, writer_of, saved}
use Rattle.history.specs.Copies.{CountedAs, reaches}
use Rattle.history.specs.Listing.{Base, BookCopy, held_book, needs_book, meets_book, counted_copy}
use Rattle.history.proofs.Notions.{PastLaws, Good}
use Rattle.history.proofs.Tally.{tally, tally-some, tally-dominates}
use Rattle.history.proofs.Reached.{reaches_some, reaches-saved, reaches-session, reaches-own, copy-held}
use Rattle.history.proofs.Shifts.{shift-covers}
use Rattle.history.proofs.Listed.{Based, Listed, book-held, book-unheld, book-needs, book-meets}
use Rattle.history.proofs.Listing.{book-row, held_same}

module _ (K : ℕ) (h : History) (B : Base) (W : ℕ)
    (writers : (i : ℕ) → i < length h → writer_of h i < W) (laws : PastLaws K h)
    (based : Based B) where
  -- The row of d counted from a copy of d dominates that from another copy just where it has the
  -- later saves of d that the other reaches, and lists as much of d.
  pub book-covers : (d : ℕ) (b c : BookCopy) → Good K h d b.later → Listed B W d b
      → ((u : ℕ) → c.rows d u ≤ B.saves d u)
      → Dominates W ((counted_copy K h B b).past d) ((counted_copy K h B c).past d)
      ↔ Within (length h) (reaches K h c.later d) b.later
      × Dominates W (b.rows d) (c.rows d)
  book-covers d b c g listed low = (
    λ q. (
      λ j l y. sym (own j) ∙ covers.0 (λ u m. ((counts u).0 (q u m)).0) j l y,
      λ u m. ((counts u).0 (q u m)).1,
    ),
    λ q u m. (counts u).1 (covers.1 (λ j l y. own j ∙ q.0 j l y) u m, q.1 u m),
  )
    where
      s : Items
      s = reaches K h c.later d

      t : Items
      t = reaches K h b.later d

      -- Who has something later has all admitted saves.
      full : (u : ℕ) → 1 ≤ tally K h t u → b.rows d u ≡ B.saves d u
      full u o =
          let r = tally-some K h t u o in
          let q = reaches_some K h b.later d r.0 r.2 in
          ap (λ (p : Clock). p u) (listed.full q.0 q.2)

      counts : (u : ℕ) → ((counted_copy K h B c).past d u ≤ (counted_copy K h B b).past d u)
          ↔ (tally K h s u ≤ tally K h t u) × (c.rows d u ≤ b.rows d u)
      counts u =
          rw (book-row K h B b d u, book-row K h B c d u)
          (shift-covers (b.rows d u) (c.rows d u) (B.saves d u) (B.count u)
          (tally K h t u) (tally K h s u) (listed.low d u) (low u) (based.counts d u) (full u))

      covers : Dominates W (tally K h t) (tally K h s) ↔ Within (length h) s t
      covers =
          tally-dominates K h W (saved h d) s t writers
          (λ j _ y. (reaches-saved K h laws c.later d j y).1)
          (reaches-session K h laws d b.later g)

      own : (j : ℕ) → t j ≡ b.later j
      own = reaches-own K h laws d b.later g

  -- One that has every save of d, later or admitted, dominates any row of d: the master's.
  pub every-covers : (d : ℕ) (b c : BookCopy) → Good K h d b.later → Listed B W d b
      → ((i : ℕ) → So (saved h d i) → So (b.later i)) → b.rows d ≡ B.saves d
      → ((u : ℕ) → c.rows d u ≤ B.saves d u)
      → Dominates W ((counted_copy K h B b).past d) ((counted_copy K h B c).past d)
  every-covers d b c g listed all rows low =
      (book-covers d b c g listed low).1 (
        λ j _ y. all j (reaches-saved K h laws c.later d j y).1,
        λ u _. omega (arith, ap (λ (p : Clock). p u) rows, low u),
      )

  -- A need is met by the version just where it is met by the copy.
  pub meets-same : (k d : ℕ) (v w : Version) (b c : BookCopy)
      → CountedAs v (counted_copy K h B b) → CountedAs w (counted_copy K h B c)
      → Good K h d b.later → Listed B W d b → Listed B W k c
      → So (needs_book K W h k c d)
      → supersedes W d v (w.past d) ≡ meets_book K W h d b c
  meets-same k d v w b c e f g in_b in_c needed =
      same_test
      (λ p.
      (book-meets K h W d b c).1 (covers.0 ((supersedes-iff W d v (w.past d)).0 p).1))
      (λ p.
      let q = (book-meets K h W d b c).0 p in
      let r = (book-needs K h W k c d).0 needed in
      (supersedes-iff W d v (w.past d)).1
      (held_same K h B v b e ∙ holds q.0 q.1 r.1, covers.1 q))
    where
      s : Items
      s = reaches K h c.later d

      covers : Dominates W (v.past d) (w.past d)
          ↔ Within (length h) s b.later × Dominates W (b.rows d) (c.rows d)
      covers = rw (e.past, f.past) (book-covers d b c g in_b (in_c.low d))

      -- What has something later, or a list, is held.
      holds : Within (length h) s b.later → Dominates W (b.rows d) (c.rows d)
          → ((j : ℕ) × (j < length h) × So (s j)) ⊎ So (present W (c.rows d))
          → So (held_book K h b)
      holds has rows (inl r) =
          (book-held K h b).1 (inr ((copy-held K h b.later).1
          (r.0, r.1, has r.0 r.1 r.2)))
      holds has rows (inr p) =
          let r = present-some W (c.rows d) p in
          test (held_book K h b) (λ y. y)
          (λ n.
          let z = book-unheld K h d b g n in
          let no = ap (λ (q : ℕ → Clock). q d r.0) (in_b.blank z.0 z.1) in
          absurd (omega (arith, rows r.0 r.1, r.2)))

  -- Two versions of a key have equal own rows just where their copies include the same.
  pub book-equal : (k : ℕ) (v w : Version) (b c : BookCopy)
      → CountedAs v (counted_copy K h B b) → CountedAs w (counted_copy K h B c)
      → Good K h k b.later → Good K h k c.later → Listed B W k b → Listed B W k c
      → ((u : ℕ) → u < W → v.past k u ≡ w.past k u)
      ↔ ((i : ℕ) → b.later i ≡ c.later i) × ((u : ℕ) → u < W → b.rows k u ≡ c.rows k u)
  book-equal k v w b c e f g g' in_b in_c = (there, back)
    where
      most : Dominates W (v.past k) (w.past k)
          ↔ Within (length h) (reaches K h c.later k) b.later
          × Dominates W (b.rows k) (c.rows k)
      most = rw (e.past, f.past) (book-covers k b c g in_b (in_c.low k))

      least : Dominates W (w.past k) (v.past k)
          ↔ Within (length h) (reaches K h b.later k) c.later
          × Dominates W (c.rows k) (b.rows k)
      least = rw (e.past, f.past) (book-covers k c b g' in_c (in_b.low k))

      part : (x y : BookCopy) → Good K h k x.later
          → Within (length h) (reaches K h x.later k) y.later
          → (i : ℕ) → So (x.later i) → So (y.later i)
      part x y good has i p =
          has i (good.writes i p).0 (reaches-own K h laws k x.later good i ∙ p)

      there : ((u : ℕ) → u < W → v.past k u ≡ w.past k u)
          → ((i : ℕ) → b.later i ≡ c.later i)
          × ((u : ℕ) → u < W → b.rows k u ≡ c.rows k u)
      there q =
          let m = most.0 (λ u l. omega (arith, q u l)) in
          let n = least.0 (λ u l. omega (arith, q u l)) in (
            λ i. same_test (part b c g n.0 i) (part c b g' m.0 i),
            λ u l. omega (arith, m.1 u l, n.1 u l),
          )

      back : ((i : ℕ) → b.later i ≡ c.later i)
          × ((u : ℕ) → u < W → b.rows k u ≡ c.rows k u)
          → (u : ℕ) → u < W → v.past k u ≡ w.past k u
      back q u l =
          let own = reaches-own K h laws k in
          let m = most.1 (
            λ j _ y. q.0 j ∙ (own c.later g' j ∙˙ y),
            λ x o. omega (arith, q.1 x o),
          ) in
          let n = least.1 (
            λ j _ y. q.0 j ∙˙ (own b.later g j ∙˙ y),
            λ x o. omega (arith, q.1 x o),
          ) in
          omega (arith, m u l, n u l)
