-- `has_moved` asks only for a key that was read on a line.
-- Assumes nothing.
use mathlib.Core.Path.{ap₂, sym, ◌∙◌}
use mathlib.Core.Bool.{Bool, not, ◌||◌, ◌&&◌}
use Rattle.version.specs.Branches.{branch_at}
use Rattle.version.proofs.Moves.{moved-not, moved-is}
use Rattle.std.proofs.Common.{ap}
use Rattle.version.proofs.moved.has_moved.Goals as goal

pub returns-then-not-here-there : goal.returns-then-not-here-there
returns-then-not-here-there c =
    let a = c.args in
    let l = a.words.now in
    let either : Bool → Bool → Bool = λ p q. not (p || q) in
    moved-not a.z (branch_at a.z l a.m a.a) (branch_at a.z l a.n a.b) a.k
    (sym (ap₂ either c.has-here.ensures c.has-there.ensures) ∙ (ap not
    c.if-not-here-there.true))

pub returns : goal.returns
returns c =
    let a = c.args in
    let l = a.words.now in
    let stay = c.would_stay-s.result in
    let moves : Bool → Bool → Bool =
    λ p q. (p && not stay.first) || (q && not stay.second) in
    moved-is a.z (branch_at a.z l a.m a.a) (branch_at a.z l a.n a.b) a.k
    c.requires.read_held.0 c.requires.read_held.1 _ _ _ (ap₂ moves c.has-here.ensures
    c.has-there.ensures)
    c.would_stay-s.ensures.first c.would_stay-s.ensures.second
