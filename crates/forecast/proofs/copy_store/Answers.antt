-- `copy_store` copies the words up to the total.
-- Assumes nothing.
use mathlib.Core.Path.{◌∙◌}
use native.Mathlib.Omega.{arith}
use Rattle.form.proofs.Known.{form-area}
use Rattle.forecast.proofs.Causes.{total-found}
use Rattle.forecast.proofs.Copies.{copied}
use Rattle.forecast.proofs.copy_store.Goals as goal

pub areas-areas-requires : goal.areas-areas-requires
areas-areas-requires c = (form-area _ _ c.requires.form_with).ranged

pub copy_from-requires : goal.copy_from-requires
copy_from-requires c =
    let s = c in
    let e = total-found _ _ c.areas-areas.ensures in (
      omega (arith, e, s.requires.z_in_bounds),
      omega (
        arith,
        e,
        (form-area _ _ s.requires.form_with).fits,
      ),
    )

pub returns : goal.returns
returns c =
    let k = c in
    let n = k in
    let s = n in
    let e = total-found _ _ n.areas-areas.ensures in
    k.copy_from.ensures ∙ copied _ _ _ _ s.requires.form_with e (omega
    (arith, e, s.requires.z_in_bounds))
