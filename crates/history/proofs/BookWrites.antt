-- The writes in a copy with a list (CR 6): later issues, and admitted saves; what the tests of
-- such copies say by them.
-- BookWrite; Includes, StandsBehind: in a copy, and in it or behind it. GoodBook: what a copy can
-- be.
-- write-..: held, needs, meets and merge by them, one issue more, the master.
-- Assumes nothing.
use mathlib.Core.Path.{◌≡◌, ap}
use mathlib.Core.Bool.{So, false≢true}
use mathlib.Core.Logic.{◌⊎◌, inl, inr, ◌↔◌, ◌≢◌}
use mathlib.Core.List.{◌∷◌}
use Prim.Native.Nat.{ℕ, ◌≤◌, ◌<◌}
use native.Mathlib.Omega.{arith}
use native.Mathlib.Decide.{dec_le}
use lib.ListN.{length}
use Rattle.words.specs.Tests.{Within, none}
use Rattle.words.proofs.Bools.{test, ◌∙˙◌, or_left, or_right, or_cases}
use Rattle.clock.specs.Clock.{Clock, Dominates, join}
use Rattle.clock.proofs.Order.{present-intro, present-some}
use Rattle.history.specs.History.{Issue, History, saved}
use Rattle.history.specs.Copies.{Copy, reaches, held_copy, union}
use Rattle.history.specs.Listing.{Base, BookCopy, plain_copy_of, held_book, merge_book, needs_book, meets_book}
use Rattle.history.proofs.Notions.{Good}
use Rattle.history.proofs.Past.{past-laws}
use Rattle.history.proofs.Reached.{reaches_some, reaches-saved, reaches-union, copy-held, good_none, good-union}
use Rattle.history.proofs.Grown.{Below, reaches-grow}
use Rattle.history.proofs.Lists.{Carries}
use Rattle.history.proofs.Carrying.{carries-none, carries-merge}
use Rattle.history.proofs.Listed.{Listed, listed-none, listed-merge, book-held, book-unheld, book-needs, book-meets}

-- A later issue's, or the admitted one of a writer at a count.
abbrev pub BookWrite : Type 0
BookWrite = ℕ ⊎ (ℕ × ℕ)

-- The admitted save of key d by writer x .0 at count x .1 is in the copy's row of d.
abbrev pub InRow : ℕ → ℕ → BookCopy → ℕ × ℕ → Type 0
InRow W d c x = (x.0 < W) × (1 ≤ x.1) × (x.1 ≤ c.rows d x.0)

-- A write of key k is in a copy of it.
abbrev pub Includes : ℕ → ℕ → BookCopy → BookWrite → Type 0
Includes W k c (inl i) = So (c.later i)
Includes W k c (inr x) = InRow W k c x

-- A write of key d is in a copy, or stands behind one in it.
abbrev pub StandsBehind : ℕ → ℕ → History → ℕ → BookCopy → BookWrite → Type 0
StandsBehind K W h d c (inl j) = So (reaches K h c.later d j)
StandsBehind K W h d c (inr x) = InRow W d c x

-- What a copy of key k can be.
pub record GoodBook (K W : ℕ) (h : History) (B : Base) (k : ℕ) (c : BookCopy) : Type 0 where
  pub good : Good K h k c.later
  pub listed : Listed B W k c
  pub carries : Carries B h c

module _ (K W : ℕ) (h : History) (B : Base) where
  -- ---- held

  -- What has a row is held.
  row-held : (k d : ℕ) (c : BookCopy) (x : ℕ × ℕ) → GoodBook K W h B k c → InRow W d c x
      → So (held_book K h c)
  row-held k d c x g p =
      test (held_book K h c) (λ y. y)
      (λ n.
      let z = book-unheld K h k c g.good n in
      let no = ap (λ (q : ℕ → Clock). q d x.0) (g.listed.blank z.0 z.1) in
      absurd (omega (arith, p.1, p.2)))

  pub write-held : (k : ℕ) (c : BookCopy) → GoodBook K W h B k c
      → So (held_book K h c) ↔ ((x : BookWrite) × Includes W k c x)
  write-held k c g = (λ p. there ((book-held K h c).0 p), λ r. back r.0 r.1)
    where
      there : (1 ≤ c.number) ⊎ So (held_copy K h c.later) → (x : BookWrite) × Includes W k c x
      there (inl l) =
          let r = present-some W (c.rows k) (g.listed.own l) in
          (inr (r.0, 1), (r.1, omega arith, r.2))
      there (inr p) = let r = (copy-held K h c.later).0 p in (inl r.0, r.2)

      back : (x : BookWrite) → Includes W k c x → So (held_book K h c)
      back (inl i) p =
          (book-held K h c).1
          (inr ((copy-held K h c.later).1 (i, (g.good.writes i p).0, p)))
      back (inr x) p = row-held k k c x g p

  pub write-behind-held : (k d : ℕ) (c : BookCopy) (x : BookWrite) → GoodBook K W h B k c
      → StandsBehind K W h d c x → So (held_book K h c)
  write-behind-held k d c (inl j) g p =
      let r = reaches_some K h c.later d j p in
      (book-held K h c).1 (inr ((copy-held K h c.later).1 (r.0, r.1, r.2)))
  write-behind-held k d c (inr x) g p = row-held k d c x g p

  -- ---- needs and meets

  low : (d : ℕ) (c : Copy) (j : ℕ) → So (reaches K h c d j) → j < length h
  low d c j y = (reaches-saved K h (past-laws K h) c d j y).0

  pub write-needs : (k d : ℕ) (c : BookCopy) (x : BookWrite) → d ≢ k → StandsBehind K W h d c x
      → So (needs_book K W h k c d)
  write-needs k d c (inl j) n p = (book-needs K h W k c d).1 (n, inl (j, low d c.later j p, p))
  write-needs k d c (inr x) n p =
      (book-needs K h W k c d).1
      (n, inr (present-intro W (c.rows d) x.0 p.0 (omega (arith, p.1, p.2))))

  pub write_meets : (d : ℕ) (b c : BookCopy) → So (meets_book K W h d b c)
      ↔ ((x : BookWrite) → StandsBehind K W h d c x → Includes W d b x)
  write_meets d b c =
      (λ p. there ((book-meets K h W d b c).0 p), λ f. (book-meets K h W d b c).1 (back f))
    where
      there : Within (length h) (reaches K h c.later d) b.later
          × Dominates W (b.rows d) (c.rows d)
          → (x : BookWrite) → StandsBehind K W h d c x → Includes W d b x
      there q (inl j) p = q.0 j (low d c.later j p) p
      there q (inr x) p = (p.0, p.1, omega (arith, q.1 x.0 p.0, p.2))

      back : ((x : BookWrite) → StandsBehind K W h d c x → Includes W d b x)
          → Within (length h) (reaches K h c.later d) b.later
          × Dominates W (b.rows d) (c.rows d)
      back f = (
        λ j _ p. f (inl j) p,
        λ u l.
            elim (dec_le 1 (c.rows d u)) [
              | yes o ↦ (f (inr (u, c.rows d u)) (l, o, omega arith)).2
              | no o ↦ omega arith
            ],
      )

  -- ---- no copy, and merge

  pub write-nothing-good : (k : ℕ) → GoodBook K W h B k (plain_copy_of none)
  write-nothing-good k = record {
    good = good_none K h k;
    listed = listed-none B W k;
    carries = carries-none B h;
  }

  pub write-nothing_in : (k : ℕ) (x : BookWrite) → Includes W k (plain_copy_of none) x → ⊥
  write-nothing_in k (inl i) p = false≢true p
  write-nothing_in k (inr x) p = omega (arith, p.1, p.2)

  pub write-nothing-behind : (d : ℕ) (x : BookWrite) → StandsBehind K W h d (plain_copy_of none) x
      → ⊥
  write-nothing-behind d (inl j) p = let r = reaches_some K h none d j p in false≢true r.2
  write-nothing-behind d (inr x) p = omega (arith, p.1, p.2)

  pub write-merge-good : (k : ℕ) (a b : BookCopy) → GoodBook K W h B k a → GoodBook K W h B k b
      → GoodBook K W h B k (merge_book K h a b)
  unfolding merge_book
  write-merge-good k a b p q = record {
    good = good-union K h k a.later b.later p.good q.good;
    listed = listed-merge K h B W k a b p.listed q.listed;
    carries = carries-merge B K h a b p.carries q.carries;
  }

  row-merge : (d : ℕ) (a b : BookCopy) (x : ℕ × ℕ) → InRow W d (merge_book K h a b) x
      → InRow W d a x ⊎ InRow W d b x
  unfolding merge_book join
  row-merge d a b x p =
      elim (dec_le x.1 (a.rows d x.0)) [
        | yes o ↦ inl (p.0, p.1, o)
        | no o ↦ inr (p.0, p.1, omega (arith, p.2))
      ]

  pub write-merge_in : (k : ℕ) (a b : BookCopy) (x : BookWrite)
      → Includes W k (merge_book K h a b) x ↔ (Includes W k a x ⊎ Includes W k b x)
  unfolding merge_book union join
  write-merge_in k a b (inl i) = (or_cases (a.later i) (b.later i), back)
    where
      back : So (a.later i) ⊎ So (b.later i) → So (union K h a.later b.later i)
      back (inl p) = or_left (b.later i) p
      back (inr p) = or_right (a.later i) p
  write-merge_in k a b (inr x) = (row-merge k a b x, back)
    where
      back : InRow W k a x ⊎ InRow W k b x → InRow W k (merge_book K h a b) x
      back (inl p) = (p.0, p.1, omega (arith, p.2))
      back (inr p) = (p.0, p.1, omega (arith, p.2))

  pub write-merge-behind : (d : ℕ) (a b : BookCopy) (x : BookWrite)
      → StandsBehind K W h d (merge_book K h a b) x
      → StandsBehind K W h d a x ⊎ StandsBehind K W h d b x
  unfolding merge_book
  write-merge-behind d a b (inl j) p =
      or_cases (reaches K h a.later d j) (reaches K h b.later d j)
      (reaches-union K h a.later b.later d j ∙˙ p)
  write-merge-behind d a b (inr x) p = row-merge d a b x p

  -- ---- a copy that has every write of its key: the master's

  pub write-every : (k : ℕ) (m c : BookCopy) → ((i : ℕ) → So (saved h k i) → So (m.later i))
      → m.rows k ≡ B.saves k → GoodBook K W h B k c
      → (x : BookWrite) → Includes W k c x → Includes W k m x
  write-every k m c all rows g (inl i) p = all i (g.good.writes i p).1
  write-every k m c all rows g (inr x) p =
      let e = ap (λ (q : Clock). q x.0) rows in
      (p.0, p.1, omega (arith, g.listed.low k x.0, p.2))

  -- It has what stands behind any copy.
  pub write-every-behind : (k d : ℕ) (m c : BookCopy)
      → ((i : ℕ) → So (saved h d i) → So (m.later i)) → m.rows d ≡ B.saves d
      → GoodBook K W h B k c → (x : BookWrite) → StandsBehind K W h d c x → Includes W d m x
  write-every-behind k d m c all rows g (inl j) p =
      all j (reaches-saved K h (past-laws K h) c.later d j p).1
  write-every-behind k d m c all rows g (inr x) p =
      let e = ap (λ (q : Clock). q x.0) rows in
      (p.0, p.1, omega (arith, g.listed.low d x.0, p.2))

-- One issue more: the same stands behind.
pub write-grow : (K W : ℕ) (e : Issue) (h : History) (d : ℕ) (c : BookCopy) → Below h c.later
    → (x : BookWrite) → StandsBehind K W (e ∷ h) d c x → StandsBehind K W h d c x
write-grow K W e h d c below (inl j) p = reaches-grow K e h c.later below d j ∙˙ p
write-grow K W e h d c below (inr x) p = p
