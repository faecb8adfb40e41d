-- One more issue: what it leaves as it was for the copies of before.
-- Below: a set of issues of a history. ..-grow: the same in the longer history.
-- writer-count, other-count: how many issues each writer has then.
-- Assumes nothing.
use mathlib.Core.Path.{◌≡◌, sym, ap, ◌∙◌, fun_ext}
use mathlib.Core.Bool.{false, ◌&&◌, So}
use mathlib.Core.Logic.{◌≢◌}
use mathlib.Core.List.{◌∷◌}
use Prim.Native.Nat.{ℕ, suc, ◌<◌}
use native.Mathlib.Omega.{arith}
use lib.Dec.{eqb}
use lib.ListN.{length}
use Rattle.words.specs.Tests.{Items}
use Rattle.words.specs.Numbers.{count_below, largest}
use Rattle.words.proofs.Bools.{test, same_test, ◌∙˙◌, ne_eqb}
use Rattle.words.proofs.Numbers.{when-no, count-one, count_same}
use Rattle.history.specs.History.{Issue, History}
use Rattle.history.specs.Copies.{Copy, CopyCount, reaches, last_in, by_writer, counted}
use Rattle.history.proofs.Notions.{PastLaws}
use Rattle.history.proofs.Past.{writer_of_top, writer_of_low, past-low}
use Rattle.history.proofs.Tally.{by-writer, last-same, last-le, tally}
use Rattle.history.proofs.Reached.{reaches-intro, reaches_some, reaches-saved}
use Rattle.history.proofs.Counted.{counted-issue, counted-row}

pub count-path : {a b : CopyCount} → a.issue ≡ b.issue → a.past ≡ b.past → a ≡ b
count-path p q i = record { issue = p i; past = q i }

-- A set that has no issue beyond the history.
abbrev pub Below : History → Items → Type 0
Below h s = (i : ℕ) → So (s i) → i < length h

pub not-on-top : (h : History) (s : Items) → Below h s → s (length h) ≡ false
not-on-top h s b = test (s (length h)) (λ y. absurd (never (b (length h) y))) (λ n. n)
  where
    never : length h < length h → ⊥
    never l = omega arith

module _ (K : ℕ) (e : Issue) (h : History) where
  pub reaches-grow : (c : Copy) → Below h c
      → (d j : ℕ) → reaches K (e ∷ h) c d j ≡ reaches K h c d j
  reaches-grow c b d j =
      same_test
      (λ p.
      let r = reaches_some K (e ∷ h) c d j p in
      let l = b r.0 r.2 in
      reaches-intro K h c d j r.0 l r.2 (past-low K e h r.0 d j l ∙˙ r.3))
      (λ p.
      let r = reaches_some K h c d j p in
      let q = past-low K e h r.0 d j r.1 ∙ r.3 in
      reaches-intro K (e ∷ h) c d j r.0 (omega arith) r.2 q)

  by-grow : (w i : ℕ) → i < length h → by_writer K (e ∷ h) w i ≡ by_writer K h w i
  unfolding by_writer
  by-grow w i l = ap (λ x. eqb x w) (writer_of_low e h i l)

  last-grow : (s : Items) → s (length h) ≡ false → last_in K (e ∷ h) s ≡ last_in K h s
  unfolding last_in largest
  last-grow s out = omega (arith, when-no (s (length h)) (suc (length h)) out)

  -- An issue outside of the set changes no count.
  pub tally-grow : (s : Items) → s (length h) ≡ false → tally K (e ∷ h) s ≡ tally K h s
  unfolding tally
  tally-grow s out = fun_ext same
    where
      set : History → ℕ → Items
      set g w j = s j && by_writer K g w j

      last : (w : ℕ) → last_in K (e ∷ h) (set (e ∷ h) w) ≡ last_in K h (set h w)
      last w =
          last-grow (set (e ∷ h) w) (ap (λ b. b && by_writer K (e ∷ h) w (length h)) out)
          ∙ last-same K h (set (e ∷ h) w) (set h w) (λ j l. ap (λ b. s j && b) (by-grow w j l))

      same : (w : ℕ) → count_below (last_in K (e ∷ h) (set (e ∷ h) w)) (by_writer K (e ∷ h) w)
          ≡ count_below (last_in K h (set h w)) (by_writer K h w)
      same w =
          ap (λ n. count_below n (by_writer K (e ∷ h) w)) (last w)
          ∙ count_same (last_in K h (set h w)) (by_writer K (e ∷ h) w) (by_writer K h w)
          (λ i l. by-grow w i (omega (arith, last-le K h (set h w))))

  -- What a copy reached counts in its row.
  pub row-grow : PastLaws K h → (c : Copy) (d : ℕ)
      → tally K (e ∷ h) (reaches K h c d) ≡ (counted K h c).past d
  row-grow laws c d =
      tally-grow (reaches K h c d)
      (not-on-top h (reaches K h c d) (λ j p. (reaches-saved K h laws c d j p).0))
      ∙ sym (counted-row K h c d)

  pub counted-grow : PastLaws K h → (c : Copy) → Below h c → counted K (e ∷ h) c ≡ counted K h c
  counted-grow laws c b =
      count-path
      (counted-issue K (e ∷ h) c ∙ last-grow c (not-on-top h c b) ∙ sym (counted-issue K h c))
      (fun_ext (λ d.
      counted-row K (e ∷ h) c d
      ∙ ap (tally K (e ∷ h)) (fun_ext (reaches-grow c b d))
      ∙ row-grow laws c d))

  pub writer-count : count_below (suc (length h)) (by_writer K (e ∷ h) e.writer)
      ≡ suc (count_below (length h) (by_writer K h e.writer))
  writer-count =
      count-one (by_writer K (e ∷ h) e.writer) (length h)
      (by-writer K (e ∷ h) (length h) e.writer (writer_of_top e h))
      ∙ ap suc (count_same (length h) (by_writer K (e ∷ h) e.writer) (by_writer K h e.writer)
      (by-grow e.writer))

  pub other-count : (w : ℕ) → e.writer ≢ w
      → count_below (suc (length h)) (by_writer K (e ∷ h) w) ≡ count_below (length h) (by_writer K
      h w)
  unfolding count_below by_writer
  other-count w ne =
      let low = count_same (length h) (by_writer K (e ∷ h) w) (by_writer K h w) (by-grow w) in
      omega (arith, low, when-no (by_writer K (e ∷ h) w (length h)) 1 top)
    where
      top : by_writer K (e ∷ h) w (length h) ≡ false
      top = ap (λ x. eqb x w) (writer_of_top e h) ∙ ne_eqb e.writer w ne
