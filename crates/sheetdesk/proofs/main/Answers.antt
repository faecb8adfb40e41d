-- The buffer is blank at first.
use Rattle.std.proofs.Common.{rules}
use Rattle.script.specs.Limits.{store_room}
use Rattle.script.proofs.Ties.{blank-form}
use Rattle.sheetdesk.proofs.main.Goals as goal

pub run-requires-clause-store_value : goal.run-requires-clause-store_value
run-requires-clause-store_value c = blank-form store_room

pub run-requires-clause-out_room_in_bounds : goal.run-requires-clause-out_room_in_bounds
run-requires-clause-out_room_in_bounds c = (search rules, search rules)
