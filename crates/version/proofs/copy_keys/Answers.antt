-- `copy_keys` stores each key of the mask.
-- Assumes nothing.
use Rattle.std.proofs.Common.{rules, ◌∙◌}
use Rattle.masks.specs.Mask.{test_bit}
use Rattle.sizes.specs.Bounds.{key_at}
use Rattle.layout.specs.Reading.{read_place}
use Rattle.layout.specs.Stored.{put_version}
use Rattle.version.proofs.Keys.{copy-keys}
use Rattle.version.proofs.copy_keys.Goals as goal

pub returns : goal.returns
returns c =
    let a = c.args in
    c.at_keys.ensures
    (λ k l. put_version a.z l (key_at a.z a.dst k) (read_place a.z l a.src k))
    (λ p q k h e r. search rules)
    ∙ copy-keys a.z a.words.now a.dst a.src (test_bit a.mask) c.requires
