-- `clear_run` stores the words of a free run.
-- Assumes nothing.
use mathlib.Core.Path.{◌≡◌, ap, ◌∙◌}
use mathlib.Core.List.{List}
use Prim.Native.Nat.{ℕ, ◌+◌, ◌-◌}
use borrow.Author.Rules.{rules}
use native.Mathlib.Omega.{arith}
use Rattle.words.specs.Words.{put}
use Rattle.sizes.specs.Bounds.{run_size}
use Rattle.sizes.specs.Runs.{plan_offset}
use Rattle.status.proofs.Freed.{zeros-free}
use Rattle.status.proofs.Statuses.{freed-words, put_on}
use Rattle.status.proofs.clear_run.Goals as goal

pub overflow_add-at : goal.overflow_add-at
overflow_add-at c =
    omega (arith, c.requires.low)

pub overflow_sub-n : goal.overflow_sub-n
unfolding run_size
overflow_sub-n c = omega (arith, c.run_size-n.ensures)

pub zero-requires : goal.zero-requires
unfolding run_size
zero-requires c =
    let f = c in
    let n = f in
    let s = n in
    rw f.free_status.auto.words
    (omega (arith, n.run_size-n.ensures, s.requires.fits))

pub returns : goal.returns
unfolding run_size
returns c =
    let t = c in
    let f = t in
    let n = f in
    let a = n.args in
    let l = a.words.now in
    let size = n.run_size-n.result in
    let rest = size - plan_offset in
    let e : plan_offset + rest ≡ run_size a.z = omega (arith, n.run_size-n.ensures) in
    t.zero.ensures
    ∙ ap (λ (m : List ℕ). put m (a.at + plan_offset) rest (λ _. 0))
    (f.free_status.ensures ∙ freed-words l a.at)
    ∙ put_on l a.at plan_offset rest (λ _. 0)
    ∙ ap (λ (k : ℕ). put l a.at k (λ _. 0)) e ∙ zeros-free a.z l a.at

pub run_size-n-requires : goal.run_size-n-requires
unfolding run_size
run_size-n-requires c = c.requires.ranged

pub free_status-requires : goal.free_status-requires
unfolding run_size
free_status-requires c = omega (arith, c.requires.fits)

pub shape_of-words : goal.shape_of-words
unfolding run_size
shape_of-words c = search rules
