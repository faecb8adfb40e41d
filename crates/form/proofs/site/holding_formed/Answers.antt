-- `holding_formed` tests the allowance, and the keys held: how many, and that the mask has them.
-- Assumes nothing.
-- The allowance lies in the buffer.
-- The mask of the keys held: how many there are, and those that another mask lacks.
use mathlib.Core.Path.{◌≡◌, sym, ap, ◌∙◌}
use mathlib.Core.Bool.{Bool, not, ◌&&◌}
use Prim.Native.Nat.{ℕ, ◌<◌}
use native.Mathlib.Omega.{arith}
use lib.Dec.{eqb, leb}
use lib.ListN.{length}
use Rattle.words.specs.Numbers.{count_below}
use Rattle.words.proofs.Bools.{not-ltb, not-not}
use Rattle.words.proofs.Numbers.{count_same}
use Rattle.words.proofs.Tests.{any_same}
use Rattle.masks.specs.Mask.{test_bit, mask_below, without}
use Rattle.masks.proofs.Sets.{mask_lt, item_of, without-some}
use Rattle.sizes.specs.Bounds.{version_limit, allowance_at}
use Rattle.model.specs.Algebra.{Place}
use Rattle.model.specs.Version.{Version, held}
use Rattle.model.specs.Tail.{barred}
use Rattle.model.specs.Allowance.{held_count, over}
use Rattle.layout.specs.Reading.{read_word_of, read_place, read_site}
use Rattle.version.proofs.Areas.{site-cache, allowance_in}
use Rattle.form.proofs.site.holding_formed.Goals as goal
use Rattle.form.proofs.site.holding_formed.Goals.{After-allowance_at-at}

here : (c : After-allowance_at-at) → let a = c.args in
    (c.allowance_at-at.result < version_limit) × (c.allowance_at-at.result < length a.words.now)
here c =
    rw c.allowance_at-at.ensures (allowance_in _ c.args.z c.args.site c.requires)

pub held_mask-kept-requires : goal.held_mask-kept-requires
held_mask-kept-requires c =
    site-cache _ c.args.z c.args.site c.requires

module _ (K : ℕ) (p : Place Version) (m : ℕ) (e : m ≡ mask_below K (λ k. held (p k))) where
  kept-count : count_below K (test_bit m) ≡ held_count K p
  unfolding held_count
  kept-count = count_same K (test_bit m) (λ k. held (p k)) (item_of K m (λ k. held (p k)) e)

  kept-right : (right : ℕ) → eqb (without m right) 0 ≡ not (barred K right (λ k. held (p k)))
  unfolding barred
  kept-right right =
      sym (not-not (eqb (without m right) 0))
      ∙ ap not (without-some K m right (rw e (mask_lt K (λ k. held (p k)) K (omega arith)))
      ∙ any_same K (λ k. test_bit m k && not (test_bit right k))
      (λ k. held (p k) && not (test_bit right k))
      (λ k l. ap (λ (b : Bool). b && not (test_bit right k)) (item_of K m (λ k. held (p k)) e k
      l)))

pub returns : goal.returns
unfolding over read_site
returns c =
    let a = c.args in
    let l = a.words.now in
    let K = a.z.keys in
    let p = read_place a.z l a.site in
    let kept = c.held_mask-kept.result in
    let allowance = read_word_of l (allowance_at a.z a.site) in
    rw (
      c.allowance_at-at.ensures,
      c.count_items-count.ensures ∙ kept-count K p kept c.held_mask-kept.ensures,
      c.without-barred.ensures,
      kept-right K p kept c.held_mask-kept.ensures a.right,
    )
    (ap (λ (b : Bool). leb allowance K && (b && not (barred K a.right (λ k. held (p k)))))
    (sym (not-ltb allowance (held_count K p))))

pub offset_bounds-words-at : goal.offset_bounds-words-at
offset_bounds-words-at c = omega (
  arith,
  here (goal.at.offset_bounds-words-at
      c).After-allowance_at-at,
)

pub bounds-words-at : goal.bounds-words-at
bounds-words-at c = (here (goal.at.bounds-words-at c).After-allowance_at-at).1

pub count_items-count-requires : goal.count_items-count-requires
count_items-count-requires c = c.requires.ranged.keys-high
