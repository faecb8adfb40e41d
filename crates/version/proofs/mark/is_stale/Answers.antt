-- `is_stale` tests that a version is held and that its own row isn't the master's.
-- Assumes nothing.
use mathlib.Core.Path.{sym, ap, ap₂, ◌∙◌}
use mathlib.Core.Bool.{not}
use Prim.Native.Nat.{ℕ}
use native.Mathlib.Omega.{arith}
use lib.ListN.{length}
use Rattle.words.proofs.Bools.{first-fails, first_passes}
use Rattle.clock.specs.declared.Standing.{Standing}
use Rattle.clock.specs.Clock.{standing, differing, clock_at}
use Rattle.model.specs.Version.{held}
use Rattle.model.specs.Marks.{is_stale}
use Rattle.layout.specs.Reading.{read_place}
use Rattle.version.proofs.Areas.{row_in, standing-word}
use Rattle.version.proofs.mark.is_stale.Goals as goal

pub returns-then-not-held : goal.returns-then-not-held
unfolding is_stale
returns-then-not-held c =
    let a = c.args in
    first-fails (held (read_place a.z a.words.now a.cache a.k)) _
    (sym (ap not c.held.ensures) ∙ (ap not c.if-not-held.true))

pub compare-requires : goal.compare-requires
compare-requires c =
    let a = c.args in
    let n = length a.words.now in
    let k = c.requires.k_lt_keys in
    let own = row_in n a.z a.cache c.requires.area.1 a.k a.k k k in
    let current = row_in n a.z a.master c.requires.area.0 a.k a.k k k in
    rw (c.row_of-current.ensures, c.row_of-own.ensures) (omega arith, omega arith)

pub returns : goal.returns
unfolding is_stale
returns c =
    let a = c.args in
    let k = c.requires.k_lt_keys in
    let l = a.words.now in
    let at : ℕ → ℕ → Standing = λ x y. standing a.z.writers (clock_at l x) (clock_at l y) in
    let rows = ap₂ at c.row_of-own.ensures c.row_of-current.ensures in
    let read = standing-word a.z l a.cache a.k a.master a.k a.k k k k in
    c.differing.ensures
    ∙ ap differing (c.compare.ensures ∙ rows ∙ sym read)
    ∙ first_passes (held (read_place a.z l a.cache a.k)) _
    (sym (ap not c.held.ensures) ∙ (ap not c.if-not-held.false))
