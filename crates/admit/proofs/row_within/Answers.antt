-- `row_within` answers whether no count of a row is above its writer's.
-- Assumes nothing.
use Rattle.std.proofs.Common.{rules, ◌∙◌, arith, length, ◌<◌}
use Rattle.std.proofs.lemmas.Iterator.{serves_from_Range}
use Rattle.std.proofs.lemmas.Grind.{common_steps}
use lib.Dec.{leb}
use Rattle.words.proofs.Ranges.{all-range}
use Rattle.clock.specs.Clock.{clock_at}
use Rattle.sizes.specs.Bounds.{Ranged, writer_at}
use Rattle.admit.specs.Parts.{row_within, counts_at}
use Rattle.admit.proofs.Orders.{cmp-le}
use Rattle.admit.proofs.Words.{writer_in}
use Rattle.admit.proofs.row_within.Goals as goal

pub all-requires-clause-callable : goal.all-requires-clause-callable
all-requires-clause-callable c =
    let a = c.args in
    let A = c.requires.store_area in
    let ranged : Ranged a.z = A.ranged in
    serves_from_Range (λ u q h. search rules) (λ u _ l.
    let inside : writer_at a.z u < length a.words.now = writer_in _ _ A u l in
    grind (arith, common_steps))

pub returns : goal.returns
unfolding row_within clock_at
returns c =
    let a = c.args in
    let count = clock_at a.words.now a.row in
    let made = counts_at a.z a.words.now in
    all-range a.z.writers (λ u. leb (count u) (made u))
    (λ u b q h. (search rules, λ l. search rules ∙ cmp-le (count u) (made u))) _
    c.all.ensures.ran
