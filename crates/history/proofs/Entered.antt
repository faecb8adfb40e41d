-- An issue entered: the new version and the writers' pasts are copies counted.
-- read_any: what the issue's run read. entered_past, entered: the new version, as a store makes
-- it. new_version-counted: the new version's copy.
-- writer-past, other-past: the writers.
-- Assumes nothing.
use mathlib.Core.Path.{◌≡◌, refl, sym, ap, ap₂, ◌∙◌, fun_ext}
use mathlib.Core.Bool.{false, cond, ◌&&◌, ◌||◌, So}
use mathlib.Core.Logic.{◌≢◌}
use mathlib.Core.List.{◌∷◌}
use Prim.Native.Nat.{ℕ, suc, ◌≤◌, ◌^◌, max}
use native.Mathlib.Omega.{arith}
use native.Mathlib.Decide.{dec_le}
use lib.Dec.{eqb}
use lib.ListN.{length}
use Rattle.words.specs.Tests.{Items, any_below}
use Rattle.words.specs.Numbers.{count_below}
use Rattle.words.proofs.Bools.{test, clash, same_test, ◌∙˙◌, and_intro, and_left, and_right, eqb-eq, eq-eqb}
use Rattle.words.proofs.Tests.{below-cases}
use Rattle.clock.specs.Clock.{Clock, join}
use Rattle.model.specs.Version.{Version}
use Rattle.history.specs.History.{Issue, History, writer_of, leads, in_past}
use Rattle.history.specs.Copies.{Copy, CountedAs, reaches, union, last_in, by_writer, counted}
use Rattle.history.proofs.Notions.{PastLaws}
use Rattle.history.proofs.Past.{writer_of_top, writer_of_low, saved-top, leads-writer, top_past, past_top, past-low, top_past-via}
use Rattle.history.proofs.Tally.{by-writer, writer-is, last-at, last-le, tally, tally-at, tally-some, tally-union, tally-total}
use Rattle.history.proofs.Reached.{reaches-intro, reaches_some, reaches-union}
use Rattle.history.proofs.Counted.{counted-issue, counted-row}
use Rattle.history.proofs.Grown.{row-grow, writer-count}

module _ (K : ℕ) (e : Issue) (h : History) where
  -- The issues by the writer up to now.
  abbrev pub mine : Copy
  mine = by_writer K h e.writer

  -- The copies of all keys that the run had read, together.
  unfoldable pub read_any : Copy
  read_any i = any_below K (λ k. e.read k i)

  -- "the writer's past takes in .. the pasts of the versions that the run read", and for each key
  -- issued "its row k gets the new count at this writer"
  unfoldable pub entered_past : ℕ → Clock
  entered_past d u =
      cond (e.keys d && eqb u e.writer) (suc (count_below (length h) mine))
      (max ((counted K h mine).past d u) ((counted K h read_any).past d u))

  unfoldable pub entered : Version
  entered = record { issue = suc (length h); leaders = 2 ^ e.writer; past = entered_past }

  -- The issue's own write of a key.
  abbrev own : ℕ → Items
  own d j = eqb j (length h) && e.keys d

  -- The writes of a key that are the issue's own or happen before one of its writes.
  abbrev top : ℕ → Copy
  top d = in_past K (e ∷ h) (length h) d

  -- ---- the past of the new issue, counted

  -- Its own writes, and what the writer's issues and those read reach.
  top_split : (d j : ℕ) → top d j ≡ own d j || (reaches K h mine d j || reaches K h read_any d j)
  unfolding top_past leads reaches union read_any by_writer
  top_split d j = past_top K e h d j ∙ ap (λ b. own d j || b) (reaches-union K h mine read_any d j)

  -- Its own writes count as the new count, at its writer.
  own-yes : (d u : ℕ) → So (e.keys d) → u ≡ e.writer
      → tally K (e ∷ h) (own d) u ≡ suc (count_below (length h) mine)
  own-yes d u k w =
      let p : So (own d (length h)) = and_intro (eq-eqb (length h) (length h) refl) k in
      let low = rw (writer_of_top e h) at (tally-at K (e ∷ h) (own d) (length h) (omega arith) p)
      in
      rw w (omega (arith, low, tally-total K (e ∷ h) (own d) e.writer, writer-count K e h))

  own-no : (d u : ℕ) → e.keys d && eqb u e.writer ≡ false → tally K (e ∷ h) (own d) u ≡ 0
  own-no d u n =
      elim (dec_le 1 (tally K (e ∷ h) (own d) u)) [
        | yes y ↦
            let r = tally-some K (e ∷ h) (own d) u y in
            let i = r.0 in
            let last = eqb-eq i (length h) (and_left (eqb i (length h)) (e.keys d) r.2) in
            let k = and_right (eqb i (length h)) (e.keys d) r.2 in
            let w = sym r.3 ∙ ap (writer_of (e ∷ h)) last ∙ writer_of_top e h in
            clash (and_intro k (eq-eqb u e.writer w)) n
        | no y ↦ omega arith
      ]

  tally-top : PastLaws K h → (d : ℕ) → tally K (e ∷ h) (top d) ≡ entered_past d
  unfolding entered_past join
  tally-top laws d =
      ap now (fun_ext (top_split d))
      ∙ tally-union K (e ∷ h) (own d) (λ j. reaches K h mine d j || reaches K h read_any d j)
      ∙ ap (join (now (own d)))
      (tally-union K (e ∷ h) (reaches K h mine d) (reaches K h read_any d)
      ∙ ap₂ join (row-grow K e h laws mine d) (row-grow K e h laws read_any d))
      ∙ fun_ext row
    where
      now : Items → Clock
      now = tally K (e ∷ h)

      past : Copy → Clock
      past c = (counted K h c).past d

      at_most : (c : Copy) (u : ℕ) → past c u ≤ count_below (length h) (by_writer K h u)
      at_most c u = rw (counted-row K h c d) (tally-total K h (reaches K h c d) u)

      row : (u : ℕ) → max (now (own d) u) (max (past mine u) (past read_any u)) ≡ entered_past d u
      row u =
          test (e.keys d && eqb u e.writer)
          (λ y.
          let k = and_left (e.keys d) (eqb u e.writer) y in
          let w = eqb-eq u e.writer (and_right (e.keys d) (eqb u e.writer) y) in
          let a = ap (λ x. count_below (length h) (by_writer K h x)) w in
          rw y (omega (arith, own-yes d u k w, at_most mine u, at_most read_any u, a)))
          (λ n. rw n (omega (arith, own-no d u n)))

  -- ---- the new version, and the master with it

  reaches-top : PastLaws K (e ∷ h) → (k : ℕ) → So (e.keys k)
      → (d j : ℕ) → reaches K (e ∷ h) (top k) d j ≡ top d j
  reaches-top laws k s d j =
      same_test
      (λ p.
      let r = reaches_some K (e ∷ h) (top k) d j p in
      laws.trans (length h) k r.0 d j (omega arith) r.2 r.3)
      (λ p.
      let w = laws.own (length h) k (omega arith) (saved-top e h k ∙ s) in
      reaches-intro K (e ∷ h) (top k) d j (length h) (omega arith) w p)

  pub new_version-counted : PastLaws K h → PastLaws K (e ∷ h) → (k : ℕ) → So (e.keys k)
      → CountedAs entered (counted K (e ∷ h) (in_past K (e ∷ h) (length h) k))
  unfolding entered
  new_version-counted low laws k s = record {
    issue = sym (counted-issue K (e ∷ h) (top k) ∙ last);
    past = fun_ext (λ d.
        sym (counted-row K (e ∷ h) (top k) d
        ∙ ap (tally K (e ∷ h)) (fun_ext (reaches-top laws k s d))
        ∙ tally-top low d));
  }
    where
      last : last_in K (e ∷ h) (top k) ≡ suc (length h)
      last =
          let w = laws.own (length h) k (omega arith) (saved-top e h k ∙ s) in
          let least = last-at K (e ∷ h) (top k) (length h) (omega arith) w in
          omega (arith, least, last-le K (e ∷ h) (top k))

  -- ---- the writers' pasts

  reaches-mine : (d j : ℕ) → reaches K (e ∷ h) (by_writer K (e ∷ h) e.writer) d j ≡ top d j
  reaches-mine d j = same_test there back
    where
      all : Copy
      all = by_writer K (e ∷ h) e.writer

      there : So (reaches K (e ∷ h) all d j) → So (top d j)
      there p =
          let r = reaches_some K (e ∷ h) all d j p in
          let i = r.0 in
          below-cases i (length h) r.1 (λ q. rw q at r.3)
          (λ l.
          let w = sym (writer_of_low e h i l) ∙ writer-is K (e ∷ h) i e.writer r.2 in
          let q = past-low K e h i d j l ∙˙ r.3 in
          past_top K e h d j ∙ top_past-via K e h d j i l (leads-writer K e h i w) q)

      back : So (top d j) → So (reaches K (e ∷ h) all d j)
      back p =
          reaches-intro K (e ∷ h) all d j (length h) (omega arith)
          (by-writer K (e ∷ h) (length h) e.writer (writer_of_top e h)) p

  pub writer-past : PastLaws K h
      → (counted K (e ∷ h) (by_writer K (e ∷ h) e.writer)).past ≡ entered_past
  writer-past laws =
      fun_ext (λ d.
      counted-row K (e ∷ h) (by_writer K (e ∷ h) e.writer) d
      ∙ ap (tally K (e ∷ h)) (fun_ext (reaches-mine d))
      ∙ tally-top laws d)

  reaches-others : (w : ℕ) → e.writer ≢ w → (d j : ℕ)
      → reaches K (e ∷ h) (by_writer K (e ∷ h) w) d j ≡ reaches K h (by_writer K h w) d j
  reaches-others w ne d j = same_test there back
    where
      now : Copy
      now = by_writer K (e ∷ h) w

      before : Copy
      before = by_writer K h w

      there : So (reaches K (e ∷ h) now d j) → So (reaches K h before d j)
      there p =
          let r = reaches_some K (e ∷ h) now d j p in
          let i = r.0 in
          let y = writer-is K (e ∷ h) i w r.2 in
          below-cases i (length h) r.1
          (λ q. absurd (ne (sym (writer_of_top e h) ∙ (rw q at y))))
          (λ l.
          let m = by-writer K h i w (sym (writer_of_low e h i l) ∙ y) in
          reaches-intro K h before d j i l m (past-low K e h i d j l ∙˙ r.3))

      back : So (reaches K h before d j) → So (reaches K (e ∷ h) now d j)
      back p =
          let r = reaches_some K h before d j p in
          let i = r.0 in
          let m = by-writer K (e ∷ h) i w (writer_of_low e h i r.1 ∙ writer-is K h i w r.2) in
          let q = past-low K e h i d j r.1 ∙ r.3 in
          reaches-intro K (e ∷ h) now d j i (omega arith) m q

  pub other-past : PastLaws K h → (w : ℕ) → e.writer ≢ w
      → (counted K (e ∷ h) (by_writer K (e ∷ h) w)).past ≡ (counted K h (by_writer K h w)).past
  other-past laws w ne =
      fun_ext (λ d.
      counted-row K (e ∷ h) (by_writer K (e ∷ h) w) d
      ∙ ap (tally K (e ∷ h)) (fun_ext (reaches-others w ne d))
      ∙ row-grow K e h laws (by_writer K h w) d)
