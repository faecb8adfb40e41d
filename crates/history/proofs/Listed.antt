-- Copies with lists, in a book that begins at an admission (CR 6): what lists can be.
-- Based: what an admission makes sure of the base; no-based: of none. Listed: the lists that a
-- copy can have; listed-..: no copy, a merge, the master's with a new version.
-- book-..: held, needs and meets as statements.
-- Assumes nothing.
use mathlib.Core.Path.{◌≡◌, refl, ap, fun_ext}
use mathlib.Core.Bool.{Bool, false, not, ◌&&◌, ◌||◌, So, false≢true}
use mathlib.Core.Logic.{◌⊎◌, inl, inr, ◌↔◌, ◌≢◌}
use Prim.Native.Nat.{ℕ, ◌≤◌, ◌<◌, max}
use native.Mathlib.Omega.{arith}
use native.Mathlib.Decide.{dec_le}
use lib.Dec.{eqb, leb}
use lib.ListN.{length}
use Rattle.words.specs.Tests.{Items, Within, any_below, none}
use Rattle.words.proofs.Bools.{test, clash, and_intro, and_left, and_right, or_left, or_right, or_cases, or-none, not-intro, not_elim, leb-le, le-leb, ne_eqb, eqb-ne}
use Rattle.words.proofs.Tests.{any-intro, any_some}
use Rattle.clock.specs.Clock.{Clock, dominates, Dominates, present, join}
use Rattle.clock.proofs.Order.{covers-standing, present-mono}
use Rattle.model.specs.Version.{zero_past}
use Rattle.history.specs.History.{History}
use Rattle.history.specs.Copies.{Copy, reaches, held_copy, meets_copy, union}
use Rattle.history.specs.Listing.{Base, no_base, BookCopy, plain_copy_of, held_book, merge_book, needs_book, meets_book}
use Rattle.history.proofs.Notions.{Good}
use Rattle.history.proofs.Reached.{copy-held, copy_meets}

-- ---- the lists that a copy can have

-- What an admission makes sure of: a writer's past and the saves are within the counts.
pub record Based (B : Base) : Type 0 where
  pub pasts : (w d u : ℕ) → B.past w d u ≤ B.saves d u
  pub counts : (d u : ℕ) → B.saves d u ≤ B.count u

pub no-based : Based no_base
no-based = record { pasts = λ w d u. omega arith; counts = λ d u. omega arith }

-- What is not held lists nothing.
abbrev pub BlankList : BookCopy → Type 0
BlankList c = c.number ≡ 0 → ((i : ℕ) → c.later i ≡ false) → c.rows ≡ zero_past

-- Of a copy of key k, with W writers.
pub record Listed (B : Base) (W k : ℕ) (c : BookCopy) : Type 0 where
  -- what is listed was admitted
  pub low : (d u : ℕ) → c.rows d u ≤ B.saves d u
  -- with something later it has all admitted saves of its key: it came through the master
  pub full : (i : ℕ) → So (c.later i) → c.rows k ≡ B.saves k
  pub blank : BlankList c
  -- an admitted version had a count in its own row
  pub own : 1 ≤ c.number → So (present W (c.rows k))
  pub number : c.number ≤ B.last

module _ (K : ℕ) (h : History) where
  -- ---- the tests as statements

  pub book-held : (c : BookCopy)
      → So (held_book K h c) ↔ ((1 ≤ c.number) ⊎ So (held_copy K h c.later))
  unfolding held_book
  book-held c = (there, back)
    where
      one : Bool
      one = leb 1 c.number

      later : Bool
      later = held_copy K h c.later

      there : So (one || later) → (1 ≤ c.number) ⊎ So later
      there p =
          elim (or_cases one later p) [
            | inl q ↦ inl (leb-le 1 c.number q)
            | inr q ↦ inr q
          ]

      back : (1 ≤ c.number) ⊎ So later → So (one || later)
      back (inl l) = or_left later (le-leb 1 c.number l)
      back (inr p) = or_right one p

  -- What is not held has no number and nothing later.
  pub book-unheld : (k : ℕ) (c : BookCopy) → Good K h k c.later → held_book K h c ≡ false
      → (c.number ≡ 0) × ((i : ℕ) → c.later i ≡ false)
  book-unheld k c g n = (
    elim (dec_le 1 c.number) [
      | yes l ↦ clash ((book-held c).1 (inl l)) n
      | no l ↦ omega arith
    ],
    λ i.
        test (c.later i)
        (λ p.
        let some = (copy-held K h c.later).1 (i, (g.writes i p).0, p) in
        clash ((book-held c).1 (inr some)) n)
        (λ z. z),
  )

  pub book-needs : (W k : ℕ) (c : BookCopy) (d : ℕ) → So (needs_book K W h k c d)
      ↔ (d ≢ k) × (((j : ℕ) × (j < length h) × So (reaches K h c.later d j))
      ⊎ So (present W (c.rows d)))
  unfolding needs_book
  book-needs W k c d = (there, back)
    where
      other : Bool
      other = not (eqb d k)

      s : Items
      s = reaches K h c.later d

      later : Bool
      later = any_below (length h) s

      row : Bool
      row = present W (c.rows d)

      there : So (other && (later || row))
          → (d ≢ k) × (((j : ℕ) × (j < length h) × So (s j)) ⊎ So row)
      there p = (
        eqb-ne d k (not_elim (and_left other (later || row) p)),
        elim (or_cases later row (and_right other (later || row) p)) [
          | inl q ↦ inl (any_some (length h) s q)
          | inr q ↦ inr q
        ],
      )

      some : ((j : ℕ) × (j < length h) × So (s j)) ⊎ So row → So (later || row)
      some (inl r) = or_left row (any-intro (length h) s r.0 r.1 r.2)
      some (inr p) = or_right later p

      back : (d ≢ k) × (((j : ℕ) × (j < length h) × So (s j)) ⊎ So row)
          → So (other && (later || row))
      back r =
          let ne : So other = not-intro (ne_eqb d k r.0) in
          and_intro ne (some r.1)

  pub book-meets : (W d : ℕ) (b c : BookCopy) → So (meets_book K W h d b c)
      ↔ Within (length h) (reaches K h c.later d) b.later
      × Dominates W (b.rows d) (c.rows d)
  unfolding meets_book
  book-meets W d b c =
      let later = meets_copy K h d b.later c.later in
      let row = dominates W (b.rows d) (c.rows d) in
      let has = copy_meets K h d b.later c.later in
      let covers = covers-standing W (b.rows d) (c.rows d) in (
        λ p. (has.0 (and_left later row p), covers.0 (and_right later row p)),
        λ r. and_intro (has.1 r.0) (covers.1 r.1),
      )

-- ---- no copy, a merge

pub listed-none : (B : Base) (W k : ℕ) → Listed B W k (plain_copy_of none)
listed-none B W k = record {
  low = λ d u. omega arith;
  full = λ i p. absurd (false≢true p);
  blank = λ _ _. refl;
  own = λ l. absurd (omega arith);
  number = omega arith;
}

module _ (K : ℕ) (h : History) (B : Base) (W k : ℕ) where
  -- A merge lists what both do.
  pub listed-merge : (a b : BookCopy) → Listed B W k a → Listed B W k b
      → Listed B W k (merge_book K h a b)
  unfolding merge_book union join
  listed-merge a b p q = record {
    low = λ d u. omega (arith, p.low d u, q.low d u);
    full = λ i y. fun_ext (λ u.
        elim (or_cases (a.later i) (b.later i) y) [
          | inl z ↦ omega (arith, ap (λ (x : Clock). x u) (p.full i z), q.low k u)
          | inr z ↦ omega (arith, ap (λ (x : Clock). x u) (q.full i z), p.low k u)
        ]);
    blank = λ n f.
        let x = p.blank (omega arith) (λ i. (or-none (a.later i) (b.later i) (f i)).0) in
        let y = q.blank (omega arith) (λ i. (or-none (a.later i) (b.later i) (f i)).1) in
        rw (x, y) (fun_ext (λ d. fun_ext (λ u. omega arith)));
    own = λ l.
        elim (dec_le 1 a.number) [
          | yes o ↦ left (p.own o)
          | no o ↦ right (q.own (omega arith))
        ];
    number = omega (arith, p.number, q.number);
  }
    where
      both : Clock
      both u = max (a.rows k u) (b.rows k u)

      left : So (present W (a.rows k)) → So (present W both)
      left = present-mono W both (a.rows k) (λ u _. omega arith)

      right : So (present W (b.rows k)) → So (present W both)
      right = present-mono W both (b.rows k) (λ u _. omega arith)

  -- A new version alone may have something later without being full; the master's copy, which has
  -- all admitted saves, takes it in.
  module _ (m : BookCopy) (all : m.rows k ≡ B.saves k) (c : Copy) (list : ℕ → Clock)
      (low : (d u : ℕ) → list d u ≤ B.saves d u) where
    abbrev new : BookCopy
    new = record { later = c; rows = list; number = 0 }

    pub issued-full : (merge_book K h m new).rows k ≡ B.saves k
    unfolding merge_book join
    issued-full = fun_ext (λ u. omega (arith, ap (λ (x : Clock). x u) all, low k u))

    pub listed-issued : Listed B W k m → (i : ℕ) → So (c i) → Listed B W k (merge_book K h m new)
    unfolding merge_book union join
    listed-issued p i y = record {
      low = λ d u. omega (arith, p.low d u, low d u);
      full = λ _ _. issued-full;
      blank = λ _ f. clash y (or-none (m.later i) (c i) (f i)).1;
      own = λ l.
          present-mono W (λ u. max (m.rows k u) (list k u)) (m.rows k) (λ u _. omega arith)
          (p.own (omega arith));
      number = omega (arith, p.number);
    }
