-- Lists are what stands behind (CR 6): a count is within an issue's list just where the admitted
-- save of that count stands behind it.
-- list-..: an issue's list in a longer history, its parts, what happens before. list-is-before,
-- behind-is-list: the equivalence, for an issue and a copy. list-past: of a new version's later
-- issues.
-- Assumes nothing.
use mathlib.Core.Path.{◌≡◌, refl, sym, ap, ◌∙◌}
use mathlib.Core.Bool.{So}
use mathlib.Core.Logic.{◌⊎◌, inl, inr, ◌↔◌}
use mathlib.Core.List.{[], ◌∷◌}
use Prim.Native.Nat.{ℕ, suc, ◌≤◌, ◌<◌, max}
use native.Mathlib.Omega.{arith}
use native.Mathlib.Nat.{not-suc-le-zero}
use native.Mathlib.Decide.{dec_le}
use lib.Dec.{eqb}
use lib.ListN.{length}
use Rattle.words.proofs.Bools.{test, eqb-eq, eq-eqb, ne_eqb}
use Rattle.words.proofs.Tests.{below-cases}
use Rattle.clock.specs.Clock.{join}
use Rattle.model.specs.Version.{join_pasts}
use Rattle.history.specs.History.{Issue, History, writer_of, read_by, rows_of, in_past, HappensBefore, together, earlier, was_read_of, chain}
use Rattle.history.specs.Listing.{Base, BookCopy}
use Rattle.history.specs.Lists.{ListedBefore, in_past_of, in_read, chained, ListedBehind, in_list, in_later, writer_list, list_of}
use Rattle.history.proofs.Notions.{Sound}
use Rattle.history.proofs.Past.{writer_of_top, writer_of_low, rows-top, rows-low}
use Rattle.history.proofs.Behind.{past-before}

module _ (B : Base) where
  -- ---- lists in a longer history

  pub list-top : (e : Issue) (h : History)
      → list_of B (e ∷ h) (length h)
      ≡ join_pasts (writer_list B h e.writer) e.rows
  unfolding list_of
  list-top e h = rw (eq-eqb (length h) (length h) refl)

  pub list-low : (e : Issue) (h : History) (i : ℕ) → i < length h
      → list_of B (e ∷ h) i ≡ list_of B h i
  unfolding list_of
  list-low e h i l = rw (ne_eqb i (length h) (λ q. absurd (omega arith)))

  writer-top : (e : Issue) (h : History) → writer_list B (e ∷ h) e.writer
      ≡ join_pasts (writer_list B h e.writer) e.rows
  unfolding writer_list
  writer-top e h = rw (eq-eqb e.writer e.writer refl)

  -- An issue's list is its writer's now.
  pub writer-now : (e : Issue) (h : History)
      → writer_list B (e ∷ h) e.writer ≡ list_of B (e ∷ h) (length h)
  writer-now e h = writer-top e h ∙ sym (list-top e h)

  -- A writer's list only grows.
  writer-grows : (e : Issue) (h : History) (w d u : ℕ)
      → writer_list B h w d u ≤ writer_list B (e ∷ h) w d u
  unfolding writer_list join
  writer-grows e h w d u =
      test (eqb e.writer w) (λ y. rw y (omega arith)) (λ n. rw n (omega arith))

  -- It begins with his past at the admission,
  writer-begins : (h : History) (w d u : ℕ) → B.past w d u ≤ writer_list B h w d u
  unfolding writer_list
  writer-begins [] w d u = omega arith
  writer-begins (e ∷ h) w d u = omega (arith, writer-begins h w d u, writer-grows e h w d u)

  -- has the lists of his issues,
  writer-has : (h : History) (i : ℕ) → i < length h
      → (d u : ℕ) → list_of B h i d u ≤ writer_list B h (writer_of h i) d u
  writer-has [] i l d u = absurd (not-suc-le-zero l)
  writer-has (e ∷ h) i l d u =
      below-cases i (length h) l
      (λ q. rw (q, writer_of_top e h, list-top e h, writer-top e h) (omega arith))
      (λ m.
      rw (list-low e h i m, writer_of_low e h i m)
      (omega (arith, writer-has h i m d u, writer-grows e h (writer_of h i) d u)))

  -- n comes from his past at the admission, or from what one of his issues below m had read.
  abbrev From : History → ℕ → ℕ → ℕ → ℕ → ℕ → Type 0
  From h m w d u n =
      (n ≤ B.past w d u) ⊎ ((j : ℕ) × (j < m) × (writer_of h j ≡ w) × (n ≤ rows_of h j d u))

  from_low : (e : Issue) (h : History) (m w d u n : ℕ) → m ≤ length h → From h m w d u n
      → From (e ∷ h) m w d u n
  from_low e h m w d u n l (inl p) = inl p
  from_low e h m w d u n l (inr r) =
      let l : r.0 < length h = omega (arith, r.1) in
      inr (r.0, r.1, writer_of_low e h r.0 l ∙ r.2, rw (rows-low e h r.0 l) r.3)

  from_more : (h : History) (m w d u n : ℕ) → From h m w d u n → From h (suc m) w d u n
  from_more h m w d u n (inl p) = inl p
  from_more h m w d u n (inr r) = inr (r.0, omega (arith, r.1), r.2, r.3)

  from_old : (e : Issue) (h : History) (w d u n : ℕ) → From h (length h) w d u n
      → From (e ∷ h) (suc (length h)) w d u n
  from_old e h w d u n r =
      from_more (e ∷ h) (length h) w d u n (from_low e h (length h) w d u n (omega arith) r)

  one_of : (n a b : ℕ) → n ≤ max a b → (n ≤ a) ⊎ (n ≤ b)
  one_of n a b l = elim (dec_le n b) [ yes y ↦ inr y | no y ↦ inl (omega arith) ]

  -- and nothing else.
  writer-from : (h : History) (w d u n : ℕ) → n ≤ writer_list B h w d u
      → From h (length h) w d u n
  unfolding writer_list join
  writer-from [] w d u n l = inl l
  writer-from (e ∷ h) w d u n l =
      test (eqb e.writer w)
      (λ y.
      let q = eqb-eq e.writer w y in
      let m : n ≤ max (writer_list B h w d u) (e.rows d u) = rw y at l in
      elim (one_of n (writer_list B h w d u) (e.rows d u) m) [
        | inl o ↦ from_old e h w d u n (writer-from h w d u n o)
        | inr o ↦ inr (length h, omega arith, writer_of_top e h ∙ q, rw (rows-top e h) o)
      ])
      (λ y. from_old e h w d u n (writer-from h w d u n (rw y at l)))

  -- ---- an issue's list

  pub list-begins : (h : History) (i : ℕ) → i < length h
      → (d u : ℕ) → B.past (writer_of h i) d u ≤ list_of B h i d u
  unfolding join
  list-begins [] i l d u = absurd (not-suc-le-zero l)
  list-begins (e ∷ h) i l d u =
      below-cases i (length h) l
      (λ q.
      rw (q, writer_of_top e h, list-top e h) (omega (arith, writer-begins h e.writer d u)))
      (λ m. rw (list-low e h i m, writer_of_low e h i m) (list-begins h i m d u))

  pub list-rows : (h : History) (i : ℕ) → i < length h
      → (d u : ℕ) → rows_of h i d u ≤ list_of B h i d u
  unfolding join
  list-rows [] i l d u = absurd (not-suc-le-zero l)
  list-rows (e ∷ h) i l d u =
      below-cases i (length h) l
      (λ q. rw (q, list-top e h, rows-top e h) (omega arith))
      (λ m. rw (list-low e h i m, rows-low e h i m) (list-rows h i m d u))

  -- It has those of the writer's earlier issues.
  pub list-session : (h : History) (i j : ℕ) → i < length h → j ≤ i → writer_of h j ≡ writer_of h i
      → (d u : ℕ) → list_of B h j d u ≤ list_of B h i d u
  unfolding join
  list-session [] i j l o w d u = absurd (not-suc-le-zero l)
  list-session (e ∷ h) i j l o w d u =
      below-cases i (length h) l
      (λ q. below-cases j (length h) (omega arith)
      (λ p. rw (q, p) (omega arith))
      (λ m.
      let same = sym (writer_of_low e h j m) ∙ w ∙ ap (writer_of (e ∷ h)) q ∙ writer_of_top e h in
      rw (q, list-low e h j m, list-top e h)
      (omega (arith, rw same at (writer-has h j m d u)))))
      (λ m.
      let k : j < length h = omega arith in
      let same = sym (writer_of_low e h j k) ∙ w ∙ writer_of_low e h i m in
      rw (list-low e h j k, list-low e h i m) (list-session h i j m o same d u))

  -- It is made of his past and of what his issues up to it had read.
  list-from : (h : History) (i : ℕ) → i < length h → (d u n : ℕ) → n ≤ list_of B h i d u
      → From h (suc i) (writer_of h i) d u n
  unfolding join
  list-from [] i l d u n p = absurd (not-suc-le-zero l)
  list-from (e ∷ h) i l d u n p =
      below-cases i (length h) l
      (λ q.
      let w = e.writer in
      let m : n ≤ max (writer_list B h w d u) (e.rows d u) =
      rw (q, list-top e h) at p in
      rw (q, writer_of_top e h)
      (elim (one_of n (writer_list B h w d u) (e.rows d u) m) [
        | inl o ↦ from_old e h w d u n (writer-from h w d u n o)
        | inr o ↦ inr (length h, omega arith, writer_of_top e h, rw (rows-top e h) o)
      ]))
      (λ m.
      rw (writer_of_low e h i m)
      (from_low e h (suc i) (writer_of h i) d u n m
      (list-from h i m d u n (rw (list-low e h i m) at p))))

  -- ---- what happens before

  -- A copy lists what its later issues do,
  abbrev pub Carries : History → BookCopy → Type 0
  Carries h c = (i : ℕ) → So (c.later i) → (d u : ℕ) → list_of B h i d u ≤ c.rows d u

  -- and so does one that was read.
  abbrev pub Carried : History → Type 0
  Carried h = (i c j : ℕ) → So (read_by h i c j) → (d u : ℕ) → list_of B h j d u ≤ rows_of h i d u

  module _ (h : History) (carried : Carried h) where
    -- An issue lists what those before it list.
    pub list-before : {c j e i : ℕ} → HappensBefore h c j e i
        → (d u : ℕ) → list_of B h j d u ≤ list_of B h i d u
    list-before (together l p q n) d u = omega arith
    list-before (earlier {j = j} {i = i} l o w p q) d u =
        list-session h i j l (omega arith) w d u
    list-before (was_read_of {d = c} {j = j} {i = i} l p q) d u =
        omega (arith, carried i c j p d u, list-rows h i l d u)
    list-before (chain r q) d u = omega (arith, list-before r d u, list-before q d u)

    pub listed_below : {d u n i : ℕ} → ListedBefore B h d u n i → n ≤ list_of B h i d u
    listed_below (in_past_of {d = d} {u = u} {i = i} l p) = omega (arith, list-begins h i l d u)
    listed_below (in_read {d = d} {u = u} {i = i} l p) = omega (arith, list-rows h i l d u)
    listed_below (chained {d = d} {u = u} r q) =
        omega (arith, listed_below r, list-before q d u)

    module _ (K W : ℕ) (sound : Sound K W h) where
      -- The lists are just what the clauses say.
      pub list-is-before : (d u n i : ℕ) → i < length h
          → ListedBefore B h d u n i ↔ n ≤ list_of B h i d u
      list-is-before d u n i l = (listed_below, back)
        where
          read : (j : ℕ) → j < suc i → writer_of h j ≡ writer_of h i → n ≤ rows_of h j d u
              → ListedBefore B h d u n i
          read j o w p =
              below-cases j i o
              (λ q. in_read {i = i} l (rw q at p))
              (λ m.
              let a = sound.some-write j (omega arith) in
              let b = sound.some-write i l in
              chained (in_read {i = j} (omega arith) p) (earlier l m w a.1 b.1))

          back : n ≤ list_of B h i d u → ListedBefore B h d u n i
          back p =
              elim (list-from h i l d u n p) [
                | inl q ↦ in_past_of l q
                | inr r ↦ read r.0 r.1 r.2 r.3
              ]

      -- So is a copy's own list.
      pub behind-is-list : (c : BookCopy) → Carries h c → (d u n : ℕ)
          → ListedBehind B h c d u n ↔ n ≤ c.rows d u
      behind-is-list c f d u n = (there, in_list)
        where
          there : ListedBehind B h c d u n → n ≤ c.rows d u
          there (in_list l) = l
          there (in_later {i = i} p q) = omega (arith, f i p d u, listed_below q)

      -- A version that includes what stands behind an issue lists no less than its later issues.
      pub list-past : (i c j : ℕ) → i < length h → So (in_past K h i c j)
          → (d u : ℕ) → list_of B h j d u ≤ list_of B h i d u
      list-past i c j l p d u =
          let e = sound.some-write i l in
          elim (past-before K W h sound i c j e.0 l p e.1) [
            | inl q ↦ rw q (omega arith)
            | inr r ↦ list-before r d u
          ]
