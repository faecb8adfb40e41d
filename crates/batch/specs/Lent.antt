-- A forecast of a text is lent the caller's scratch, in place of the program's own.
-- forecast_of: the run that a call forecasts. lent_call: the call with a scratch of n words.
-- scratch_leaves: the scratch after a call.
-- Assumes nothing.
use Rattle.std.specs.Prelude.{List, ℕ}
use Rattle.std.proofs.Math.Option.{Option, none, some}
use Rattle.model.specs.Calls.{Query, look, explain, stale, admit, forecast, StoreCall, open_run, fetch, evict, prepare, step, issue, drop_run, allow, pick, mayhold, maysave, fork, join, ask}
use Rattle.layout.specs.Calls.{Call, new, audit, on}
use Rattle.layout.specs.Forecast.{foreseen}

-- ---- the run that is forecast, none by any other call

unfoldable pub query_forecast : Query → Option ℕ
query_forecast (look p i k) = none
query_forecast (explain r j n) = none
query_forecast (stale o) = none
query_forecast admit = none
query_forecast (forecast n r) = some r

unfoldable pub store_forecast : StoreCall → Option ℕ
store_forecast (open_run r l) = none
store_forecast (fetch o k) = none
store_forecast (evict o k) = none
store_forecast (prepare r) = none
store_forecast (step r j n) = none
store_forecast (issue r w S) = none
store_forecast (drop_run r) = none
store_forecast (allow o n) = none
store_forecast pick = none
store_forecast (mayhold o m) = none
store_forecast (maysave w m) = none
store_forecast (fork r) = none
store_forecast (join r) = none
store_forecast (ask q) = query_forecast q

unfoldable pub forecast_of : Option Call → Option ℕ
forecast_of none = none
forecast_of (some (new k w n p)) = none
forecast_of (some (audit v)) = none
forecast_of (some (on c)) = store_forecast c

-- ---- the scratch that is lent

-- A forecast of run r has n words of scratch; any other call is as it was.
unfoldable pub lent_forecast : ℕ → Option ℕ → Option Call → Option Call
lent_forecast n none c = c
lent_forecast n (some r) c = some (on (ask (forecast n r)))

abbrev pub lent_call : ℕ → Option Call → Option Call
lent_call n c = lent_forecast n (forecast_of c) c

-- The scratch m after a forecast of run r on the buffer l; no other call touches it.
unfoldable pub scratch_leaves : Option ℕ → List ℕ → List ℕ → List ℕ
scratch_leaves none l m = m
scratch_leaves (some r) l m = foreseen l m r
