-- What a scratch buffer holds after a forecast (CR 12).
-- Assumes nothing.
use Rattle.std.specs.Prelude.{cond, ◌&&◌, List, ℕ, eqb, length}
use Rattle.model.specs.Calls.Forecast.{forecast_cause, forecast_walk}
use Rattle.layout.specs.Reading.{store_of}
use Rattle.layout.specs.Buffer.{written, in_form}

-- The scratch m after a forecast of run r of the buffer l: "the desk as those steps would leave
-- it, its words past the total untouched"; as it was, where the call is refused.
unfoldable pub foreseen : List ℕ → List ℕ → ℕ → List ℕ
foreseen l m r =
    cond (in_form l && eqb (forecast_cause (store_of l) (length m) r) 0)
    (written (forecast_walk r (store_of l)).store m) m
