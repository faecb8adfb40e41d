-- `version_formed` tests mask and own row of a held version, and all words of another.
-- Assumes nothing.
use mathlib.Core.Path.{sym, ap₂, ◌∙◌}
use mathlib.Core.Bool.{Bool, ◌&&◌}
use Prim.Native.Nat.{ℕ}
use lib.Dec.{eqb}
use Rattle.model.specs.Form.{zero_version, version_formed}
use Rattle.form.proofs.place.version_formed.Goals as goal

pub returns-then-held : goal.returns-then-held
unfolding version_formed
returns-then-held c =
    rw (
      sym c.held.ensures ∙ c.if-held.true,
      ← c.leaders_of-leaders.ensures,
      c.leaders_formed.ensures,
      c.has_row.ensures,
    )

pub returns-else-held : goal.returns-else-held
unfolding version_formed zero_version
returns-else-held c =
    rw (sym c.held.ensures ∙ c.if-held.false)
    (ap₂ (λ (m : ℕ) (b : Bool). eqb m 0 && b) c.leaders_of-leaders.ensures
    c.zero_rows.ensures)
