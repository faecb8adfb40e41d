-- `judge` has a path exactly where C has a key that the run has read.
-- Assumes nothing.
use mathlib.Core.Path.{◌≡◌, refl, ap}
use mathlib.Core.Bool.{true, false}
use mathlib.Core.List.{List, ◌∷◌}
use Prim.Native.Nat.{ℕ}
use lib.Bits.{bit_and}
use lib.Dec.{eqb}
use Rattle.words.proofs.Bools.{eq-eqb, ne_eqb}
use Rattle.model.specs.Calls.Explain.{path_word}
use Rattle.explain.specs.Answers.{explained_words, Listed}
use Rattle.explain.specs.Drawing.{drawn_path, drawn_words}
use Rattle.explain.proofs.Drawings.{drawn-short, path-words}
use Rattle.explain.proofs.judge.Goals as goal

pub returns-then-trial-visit-eq0 : goal.returns-then-trial-visit-eq0
unfolding explained_words Listed drawn_words
returns-then-trial-visit-eq0 c =
    let a = c.args in
    let none : eqb (bit_and a.trial.pulled a.visit.read) 0 ≡ true =
    eq-eqb _ 0 c.if-trial-visit-eq0.true in
    rw none record {
      answers = refl;
      listed = tt;
    }

pub returns : goal.returns
unfolding explained_words Listed drawn_words
returns c =
    let a = c.args in
    let l = a.words.now in
    let w = path-words (drawn_path a.z l a.visit a.trial) c.path_of.result
    (drawn-short l a.z a.visit a.trial c.requires) c.path_of.ensures in
    let some : eqb (bit_and a.trial.pulled a.visit.read) 0 ≡ false =
    ne_eqb _ 0 c.if-trial-visit-eq0.false in
    record {
      answers = rw some (ap (λ (t : List ℕ). path_word ∷ t) w.0);
      listed = (w.1, w.2);
    }
