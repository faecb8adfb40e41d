-- `merge_keys` merges each key of the mask.
-- Assumes nothing.
use Rattle.std.proofs.Common.{rules, ◌∙◌}
use Rattle.masks.specs.Mask.{test_bit}
use Rattle.sizes.specs.Bounds.{key_at}
use Rattle.model.specs.Version.{merge}
use Rattle.layout.specs.Reading.{read_place}
use Rattle.layout.specs.Stored.{put_version}
use Rattle.version.proofs.Keys.{merge-keys}
use Rattle.version.proofs.Merged.{place-merged}
use Rattle.version.proofs.merge.merge_keys.Goals as goal

pub returns : goal.returns
returns c =
    let a = c.args in
    let r = place-merged a.z a.words.now c.at_keys.new.words a.dst a.src (test_bit a.mask)
    (c.at_keys.ensures
    (λ k l. put_version a.z l (key_at a.z a.dst k)
    (merge a.z.writers k (read_place a.z l a.dst k) (read_place a.z l a.src k)))
    (λ p q k h e r. search rules)
    ∙ merge-keys a.z a.words.now a.dst a.src (test_bit a.mask) c.requires) in
    record { merges = r.0; frame = r.1.0; same = r.1.1 }
