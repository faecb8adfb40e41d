-- `text::is_word` compares by `==`.
-- Assumes nothing.
use mathlib.Core.Path.{◌∙◌}
use Rattle.text.proofs.Firsts.{same-bytes}
use Rattle.text.proofs.is_word.Goals as goal

pub returns : goal.returns
returns c = c.eq.ensures ∙ same-bytes _ _
