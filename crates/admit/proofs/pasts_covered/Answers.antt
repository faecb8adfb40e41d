-- `pasts_covered` answers whether the master's own rows cover those of every writer's past.
-- Assumes nothing.
use Rattle.std.proofs.Common.{rules, arith, length, ◌<◌, ◌+◌}
use Rattle.std.proofs.lemmas.Iterator.{serves_from_Range}
use Rattle.std.proofs.lemmas.Grind.{common_steps}
use Rattle.words.proofs.Ranges.{all-range}
use Rattle.sizes.specs.Bounds.{Ranged, version_limit, writer_at, writer_past_offset}
use Rattle.admit.specs.Parts.{PastArea, writer_test}
use Rattle.admit.proofs.Words.{writer-past}
use Rattle.admit.proofs.pasts_covered.Goals as goal

pub all-requires-clause-callable : goal.all-requires-clause-callable
all-requires-clause-callable c =
    let a = c.args in
    let ranged : Ranged a.z = c.requires.0.ranged in
    serves_from_Range (λ w q h. search rules) (λ w _ l.
    let past : PastArea (length a.words.now) a.z (writer_at a.z w + writer_past_offset) =
    writer-past _ _ c.requires.0 w l in
    let low : writer_at a.z w + writer_past_offset < version_limit = past.low in
    grind (arith, common_steps))

pub returns : goal.returns
returns c =
    let a = c.args in
    all-range a.z.writers (writer_test a.z a.words.now a.master) (λ w b q h. search rules) _
    c.all.ensures.ran
