-- What a reader takes from Explains, of a step and of an explain as calls on any buffer, and from
-- CR 5's frame of a merge.
-- path-breaks: a path ends at a sheet with which the step breaks. refused-alike: explain refuses
-- what step does, by the same number, and nothing else. words-before, words-behind: a merge leaves
-- the words on both sides of its target.
-- Assumes nothing.
use mathlib.Core.Path.{◌≡◌, refl}
use mathlib.Core.Bool.{So}
use mathlib.Core.List.{List, [], ◌∷◌}
use mathlib.Core.Logic.{inl, inr}
use Prim.Native.Nat.{ℕ, ◌+◌, ◌≤◌, ◌<◌}
use lib.ListN.{length, get_or}
use Rattle.masks.specs.Mask.{test_bit}
use Rattle.paths.specs.Path.{last_of}
use Rattle.model.specs.Store.{Store}
use Rattle.model.specs.Outcome.{Outcome, refused, broken, answer}
use Rattle.model.specs.Calls.Explain.{path_word, ExplainsOutcome}
use Rattle.version.specs.Places.{Outside}

module _ (s : Store) (r j n : ℕ) (x y : Outcome) (E : ExplainsOutcome s r j n x y) where
  pub path-breaks : (l : List ℕ) (m : ℕ) (u : Store) → answer x ≡ path_word ∷ l → y ≡ broken m u
      → So (test_bit m (last_of l))
  unfolding answer
  path-breaks l m u e f = E.ends l m e (rw f refl)

  pub refused-alike : (c : ℕ) → y ≡ refused c → answer x ≡ 2 ∷ c ∷ []
  unfolding answer
  refused-alike c f = (E.refused c).1 (rw f refl)

  pub refused-alone : (c : ℕ) → x ≡ refused c → answer y ≡ 2 ∷ c ∷ []
  unfolding answer
  refused-alone c f = (E.refused c).0 (rw f refl)

module _ (l m : List ℕ) (at n : ℕ) (O : Outside l m at n) where
  pub words-before : (i : ℕ) → i < at → get_or m i 0 ≡ get_or l i 0
  words-before i h = O.same i (inl h)

  pub words-behind : (i : ℕ) → at + n ≤ i → get_or m i 0 ≡ get_or l i 0
  words-behind i h = O.same i (inr h)

  pub words-kept : length m ≡ length l
  words-kept = O.long
