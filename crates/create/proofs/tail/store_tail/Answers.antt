-- `store_tail` stores the number of the last run, then the masks: the words of a fresh tail.
-- Assumes nothing.
use mathlib.Core.Path.{◌∙◌, ap}
use native.Mathlib.Omega.{arith}
use Prim.Native.Nat.{◌+◌}
use lib.ListN.{get_or, length-set, set}
use Rattle.std.proofs.Common.{rules}
use Rattle.std.proofs.lemmas.List.{places}
use Rattle.words.proofs.Words.{put-part}
use Rattle.sizes.specs.Bounds.{tail_size}
use Rattle.create.proofs.Tails.{tail-filled}
use Rattle.create.proofs.tail.store_tail.Goals as goal

pub bounds-words-round : goal.bounds-words-round
unfolding tail_size
bounds-words-round c =
    let R = c.requires in omega (arith, R)

pub slice_bounds-fill-end : goal.slice_bounds-fill-end
unfolding tail_size
slice_bounds-fill-end c = rw length-set (omega (arith, c.requires))

pub returns : goal.returns
unfolding tail_size
returns c =
    let a = c.args in
    let m = set a.words.now a.at.tail c.narrow.result in
    put-part m (a.at.tail + 1) (a.z.sites + a.z.writers) (λ _. c.every_key.result) c.fill.new.self
    (rw length-set (omega (arith, c.requires))) (c.fill.ensures.len ∙ search (rules, places))
    (λ i h. ap (λ l. get_or l i 0) (c.fill.ensures.after (λ _ e. e)) ∙ search (rules, places))
    ∙ rw (c.every_key.ensures, c.narrow.ensures) (tail-filled a.z a.words.now a.at.tail)
