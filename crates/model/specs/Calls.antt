-- The calls of documents 01 and 02 with their arguments, and the rule of each on a store.
-- Query, reply_of: those that only answer. StoreCall, rule_of: all on a store.
-- New and audit need no store: they come with the calls on a buffer, in crate layout.
-- Assumes nothing.
pub mod Look
pub mod Explain
pub mod Stale
pub mod Admit
pub mod Allow
pub mod Pick
pub mod Rights
pub mod Fork
pub mod Audit
pub mod Forecast
use Rattle.std.specs.Prelude.{List, ℕ}
use Rattle.model.specs.Store.{Store}
use Rattle.model.specs.Outcome.{Outcome, Reply, replied}
use Rattle.model.specs.Caches.{fetch_rule, evict_rule}
use Rattle.model.specs.Runs.{open_rule, drop_rule}
use Rattle.model.specs.Prepare.{prepare_rule}
use Rattle.model.specs.Step.{step_rule_of}
use Rattle.model.specs.Issue.{issue_rule}
use Rattle.model.specs.Calls.Look.{look_reply}
use Rattle.model.specs.Calls.Explain.{explain_reply}
use Rattle.model.specs.Calls.Stale.{stale_reply}
use Rattle.model.specs.Calls.Admit.{admit_reply}
use Rattle.model.specs.Calls.Allow.{allow_rule}
use Rattle.model.specs.Calls.Pick.{pick_rule}
use Rattle.model.specs.Calls.Rights.{mayhold_rule, maysave_rule}
use Rattle.model.specs.Calls.Fork.{fork_rule_of, join_rule_of}
use Rattle.model.specs.Calls.Forecast.{forecast_reply}

-- A call that only answers.
pub data Query : Type 0 where
  look : ℕ → ℕ → ℕ → Query  -- place, its number, sheet
  explain : ℕ → ℕ → ℕ → Query  -- run, job, line
  stale : ℕ → Query  -- office
  admit : Query
  forecast : ℕ → ℕ → Query  -- how many words the scratch has, run

unfoldable pub reply_of : Query → Store → Reply
reply_of (look p i k) = look_reply p i k
reply_of (explain r j n) = explain_reply r j n
reply_of (stale o) = stale_reply o
reply_of admit = admit_reply
reply_of (forecast n r) = forecast_reply n r

-- A call on a store that is in form.
pub data StoreCall : Type 0 where
  open_run : ℕ → List ℕ → StoreCall  -- run, job words
  fetch : ℕ → ℕ → StoreCall  -- office, sheet
  evict : ℕ → ℕ → StoreCall  -- office, sheet
  prepare : ℕ → StoreCall  -- run
  step : ℕ → ℕ → ℕ → StoreCall  -- run, job, line
  issue : ℕ → ℕ → ℕ → StoreCall  -- run, writer, mask S
  drop_run : ℕ → StoreCall  -- run
  allow : ℕ → ℕ → StoreCall  -- office, number
  pick : StoreCall
  mayhold : ℕ → ℕ → StoreCall  -- office, mask
  maysave : ℕ → ℕ → StoreCall  -- writer, mask
  fork : ℕ → StoreCall  -- run
  join : ℕ → StoreCall  -- run
  ask : Query → StoreCall

unfoldable pub rule_of : StoreCall → Store → Outcome
rule_of (open_run r l) = open_rule r l
rule_of (fetch o k) = fetch_rule o k
rule_of (evict o k) = evict_rule o k
rule_of (prepare r) = prepare_rule r
rule_of (step r j n) = step_rule_of r j n
rule_of (issue r w S) = issue_rule r w S
rule_of (drop_run r) = drop_rule r
rule_of (allow o n) = allow_rule o n
rule_of pick = pick_rule
rule_of (mayhold o m) = mayhold_rule o m
rule_of (maysave w m) = maysave_rule w m
rule_of (fork r) = fork_rule_of r
rule_of (join r) = join_rule_of r
rule_of (ask q) = λ s. replied (reply_of q s)
