-- `follow` has the items of the path. The loop's invariant: those passed are stored, and what is
-- left of the path begins in the mask.
-- Assumes nothing.
-- What is left of the path as the loop turns, and the item that is found.
use mathlib.Core.Path.{◌≡◌, refl, sym, ap, ◌∙◌}
use mathlib.Core.List.{List}
use Prim.Native.Nat.{ℕ, ◌+◌, ◌-◌}
use native.Mathlib.Omega.{arith}
use native.Mathlib.Nat.{zero-add}
use lib.ListN.{length, get_or, length-set}
use Rattle.words.specs.Words.{put}
use Rattle.words.proofs.Words.{put-more}
use Rattle.masks.specs.Mask.{test_bit}
use Rattle.paths.specs.Path.{nearest, path_by}
use Rattle.paths.specs.Rows.{leads_by, no_items_of, item_path}
use Rattle.paths.proofs.Paths.{length-path_by}
use Rattle.paths.proofs.Following.{Going, going_start, going_found, going_low, going_first, going_on}
use Rattle.paths.proofs.follow.Goals as goal
use Rattle.paths.proofs.follow.Goals.{After-lowest_item-item}

abbrev pathOf : List ℕ → ℕ → List ℕ → ℕ → ℕ → List ℕ
pathOf rows n masks start m =
    path_by n (leads_by rows) (test_bit (get_or masks 0 0)) m (test_bit start)

turn : (c : After-lowest_item-item) → let l = c in
    let a = l.args in
    let aim = get_or a.masks.now 0 0 in
    let k = a.m - l.loop-i.i in
    let p = pathOf a.rows.now a.n a.masks.now a.start a.m in
    Going a.rows.now a.n aim p l.loop-i.i k l.loop-i.from
    × (c.lowest_item-item.result
    ≡ nearest a.n (leads_by a.rows.now) (test_bit aim) k (test_bit l.loop-i.from))
turn c =
    let l = c in
    let s = l in
    let a = s.args in (
      l.loop-i.invariant.3 (omega arith),
      going_found a.rows.now a.n a.masks.now a.m l.loop-i.i l.loop-i.from
          c.lowest_item-item.result s.requires.rows_of.1 s.requires.m_lt_n.0
          c.lowest_item-item.ensures,
    )

pub loop-i-init : goal.loop-i-init
unfolding put no_items_of
loop-i-init c =
    let s = c in
    let a = s.args in (
      omega arith,
      refl,
      refl,
      λ _. going_start a.rows.now a.n (get_or a.masks.now 0 0) a.m a.start
          s.requires.m_lt_n.1,
    )

pub bounds-rows-item : goal.bounds-rows-item
bounds-rows-item c =
    let f = c.before in
    let l = f in
    let a = l.args in
    let t = turn (goal.at.bounds-rows-item c).After-lowest_item-item in
    let low = going_low a.rows.now a.n (get_or a.masks.now 0 0)
    (pathOf a.rows.now a.n a.masks.now a.start a.m) l.loop-i.i
    (a.m - l.loop-i.i) l.loop-i.from t.0 in
    omega (arith, low, t.1)

pub loop-i-preserved : goal.loop-i-preserved
loop-i-preserved c =
    let f = c.before in
    let l = f in
    let a = l.args in
    let aim = get_or a.masks.now 0 0 in
    let p = pathOf a.rows.now a.n a.masks.now a.start a.m in
    let i = l.loop-i.i in
    let item = f.lowest_item-item.result in
    let t = turn (goal.at.loop-i-preserved c).After-lowest_item-item in
    let found : item ≡ get_or p i 0 =
    t.1 ∙ sym (going_first a.rows.now a.n aim p i (a.m - i) l.loop-i.from t.0) in (
      omega arith,
      length-set l.loop-i.items i item ∙ l.loop-i.invariant.1,
      rw (put-more, zero-add, ← l.loop-i.invariant.2, ← found),
      going_on a.rows.now a.n aim p a.m i l.loop-i.from item t.0 t.1,
    )

pub returns : goal.returns
unfolding item_path
returns c =
    let l = c in
    let a = l.args in
    let p = pathOf a.rows.now a.n a.masks.now a.start a.m in
    let aim = test_bit (get_or a.masks.now 0 0) in
    let k = length-path_by a.n (leads_by a.rows.now) aim a.m (test_bit a.start) in
    let e : l.loop-i.i ≡ length p = omega (arith, k) in
    let f = l.loop-i.invariant.2 ∙ ap (λ (i : ℕ). put no_items_of 0 i (λ j. get_or p j 0)) e in
    let d : a.m + 1 ≡ length p = omega (arith, k) in
    λ x. record { count = d x; items = f x }
