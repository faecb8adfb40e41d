-- `meets` tests that a version is held and that its own row dominates what is needed.
-- Assumes nothing.
use mathlib.Core.Path.{sym, ap, ap₂, ◌∙◌}
use mathlib.Core.Bool.{not}
use Prim.Native.Nat.{ℕ}
use native.Mathlib.Omega.{arith}
use lib.ListN.{length}
use Rattle.words.proofs.Bools.{first-fails, first_passes}
use Rattle.clock.specs.declared.Standing.{Standing}
use Rattle.clock.specs.Clock.{standing, covering, dominates, clock_at}
use Rattle.model.specs.Version.{held, supersedes}
use Rattle.layout.specs.Reading.{read_place}
use Rattle.version.proofs.Areas.{row_in, standing-word}
use Rattle.version.proofs.meets.Goals as goal

pub returns-then-not-held : goal.returns-then-not-held
unfolding supersedes
returns-then-not-held c =
    let a = c.args in
    first-fails (held (read_place a.z a.words.now a.target a.d)) _
    (sym (ap not c.held.ensures) ∙ (ap not c.if-not-held.true))

pub compare-requires : goal.compare-requires
compare-requires c =
    let a = c.args in
    let n = length a.words.now in
    let d = c.requires.d_lt_keys.0 in
    let own = row_in n a.z a.target c.requires.area.0 a.d a.d d d in
    let need = row_in n a.z a.source c.requires.area.1 a.t a.d c.requires.d_lt_keys.1 d in
    rw (c.row_of-need.ensures, c.row_of-own.ensures) (omega arith, omega arith)

pub returns : goal.returns
unfolding supersedes dominates
returns c =
    let a = c.args in
    let d = c.requires.d_lt_keys.0 in
    let l = a.words.now in
    let at : ℕ → ℕ → Standing = λ x y. standing a.z.writers (clock_at l x) (clock_at l y) in
    let rows = ap₂ at c.row_of-own.ensures c.row_of-need.ensures in
    let read = standing-word a.z l a.target a.d a.source a.t a.d d
    c.requires.d_lt_keys.1 d in
    c.covering.ensures
    ∙ ap covering (c.compare.ensures ∙ rows ∙ sym read)
    ∙ first_passes (held (read_place a.z l a.target a.d)) _
    (sym (ap not c.held.ensures) ∙ (ap not c.if-not-held.false))
