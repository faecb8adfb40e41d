-- No shelf holds more than its allowance after any call on a buffer in form: the form asks it, and
-- every call keeps the form.
-- Assumes nothing.
use Rattle.layout.proofs.Follow.{form-fine}
use Rattle.layout.proofs.Forms.{form-kept}
use Rattle.layout.specs.Reading.{store_of}
use Rattle.layout.specs.Calls.{on, call_on, leaves}
use Rattle.consistency.proofs.Marking.{within}
use Rattle.claims.specs.Allowances.{StaysWithin}

pub stays_within : StaysWithin
stays_within l c F =
    let m = leaves (call_on (on c) l) l in
    within (store_of m) (form-fine m (form-kept c l F))
