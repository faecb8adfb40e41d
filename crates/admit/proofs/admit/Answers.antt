-- `admit` is refused, or answers 0.
-- Assumes nothing.
use mathlib.Core.Path.{sym, ◌∙◌}
use Rattle.form.proofs.Known.{form-long}
use Rattle.admit.proofs.Answers.{admit-no, admit-yes}
use Rattle.admit.proofs.admit.Goals as goal

pub counts-z-requires : goal.counts-z-requires
counts-z-requires c = form-long _ c.requires

pub is_admissible-requires : goal.is_admissible-requires
is_admissible-requires c =
    record { form = c.requires; counts = c.counts-z.ensures }

pub returns-then-not-is_admissible : goal.returns-then-not-is_admissible
returns-then-not-is_admissible c =
    admit-no _ c.requires (sym c.is_admissible.ensures ∙ c.if-not-is_admissible.true)

pub returns : goal.returns
returns c = admit-yes _ c.requires (sym c.is_admissible.ensures ∙ c.if-not-is_admissible.false)
