-- `clear_keys` clears each key of the mask.
-- Assumes nothing.
use Rattle.std.proofs.Common.{rules, ◌∙◌}
use Rattle.masks.specs.Mask.{test_bit}
use Rattle.sizes.specs.Bounds.{key_at}
use Rattle.model.specs.Version.{unheld}
use Rattle.layout.specs.Stored.{put_version}
use Rattle.version.proofs.Keys.{clear-keys}
use Rattle.version.proofs.clear_keys.Goals as goal

pub returns : goal.returns
returns c =
    let a = c.args in
    c.at_keys.ensures (λ k l. put_version a.z l (key_at a.z a.at k) unheld)
    (λ p q k h e r. search rules)
    ∙ clear-keys a.z a.words.now a.at (test_bit a.mask) c.requires
