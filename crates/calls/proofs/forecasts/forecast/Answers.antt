-- `forecast` answers where it can be made, and is turned down elsewhere.
-- Assumes nothing.
use Rattle.calls.proofs.Forms.{exports, scratch-not, scratch-made}
use Rattle.calls.proofs.forecasts.forecast.Goals as goal

pub returns-then-not-can_make : goal.returns-then-not-can_make
returns-then-not-can_make c = record {
  answers = search exports;
  leaves = search (exports, scratch-not);
}

pub returns : goal.returns
returns c = record {
  answers = search exports;
  leaves = search (exports, scratch-made);
}

pub forecast-requires : goal.forecast-requires
forecast-requires c = search exports

pub lay-requires : goal.lay-requires
lay-requires c = search exports
