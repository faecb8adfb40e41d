-- `led_by` has the keys to which a key of the mask leads. The loop's invariant: it has those to
-- which the keys passed lead.
-- Assumes nothing.
use Rattle.std.proofs.Common.{◌≡◌, ℕ}
use Rattle.words.specs.Tests.{Items}
use Rattle.masks.specs.Mask.{mask_below}
use Rattle.sets.specs.Leads.{Tells}
use Rattle.sets.proofs.Leads.{led_to}
use Rattle.sets.proofs.growth.led_by.Given as goal

abbrev pub invariant-loop-t : goal.invariant-loop-t
invariant-loop-t g l =
    (edge : ℕ → Items) → Tells (goal.F-post g l.fn.leads) l.fn.keys edge
    → l.all ≡ mask_below l.fn.keys (led_to edge l.t l.fn.scope l.fn.mask)
