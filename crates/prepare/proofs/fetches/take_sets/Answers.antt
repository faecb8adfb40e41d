-- `take_sets` makes the fetch of each site. The loop's invariant: those passed have taken theirs.
-- Assumes nothing.
use mathlib.Core.Path.{◌≡◌, refl, ap, ◌∙◌}
use Prim.Native.Nat.{ℕ}
use native.Mathlib.Omega.{arith}
use Rattle.layout.specs.Reading.{store_of}
use Rattle.layout.specs.Buffer.{written}
use Rattle.prepare.specs.Turns.{set_of_at, taken_sites}
use Rattle.prepare.proofs.Taking.{sites-start, sites-form, sites-turn}
use Rattle.prepare.proofs.fetches.take_sets.Goals as goal

pub loop-o-init : goal.loop-o-init
loop-o-init c =
    let a = c.args in
    (omega arith, refl, sites-start a.words.now a.z c.requires.form_with _ c.requires.fitting)

pub take_keys-requires : goal.take_keys-requires
take_keys-requires c =
    let a = c.args in (
      sites-form a.words.now a.z c.requires.form_with _ c.requires.fitting c.loop-o.o (omega arith)
          c.loop-o.words c.loop-o.invariant.2,
      omega arith,
    )

pub loop-o-preserved : goal.loop-o-preserved
loop-o-preserved c =
    let a = c.args in (
      omega arith,
      c.take_keys.auto.words ∙ c.loop-o.invariant.1,
      sites-turn a.words.now a.z c.requires.form_with _ c.requires.fitting c.loop-o.o (omega arith)
          c.loop-o.words c.loop-o.invariant.2 _ c.take_keys.ensures,
    )

pub returns : goal.returns
returns c =
    let a = c.args in
    let e : c.loop-o.o ≡ a.z.sites = omega arith in
    c.loop-o.invariant.2
    ∙ ap (λ (n : ℕ). written (taken_sites (store_of a.words.now) (set_of_at a.sets.now) n)
    a.words.now) e

pub bounds-sets-o : goal.bounds-sets-o
bounds-sets-o c = omega (arith, c.requires.fitting.sets.long)

pub shape_of-words : goal.shape_of-words
shape_of-words c = c.loop-o.invariant.1
