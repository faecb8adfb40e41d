-- It compares the lengths.
use Rattle.std.proofs.Common.{refl}
use Rattle.sheetdesk_c.specs.Pairs.{alike}
use Rattle.sheetdesk_c.proofs.clocks.are_alike.Goals as goal

pub returns : goal.returns
unfolding alike
returns c = refl
