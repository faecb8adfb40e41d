-- Every call has its laws: the one list of calls of the theorem, and a file for each.
-- Assumes nothing.
use Rattle.model.specs.Store.{Store}
use Rattle.model.specs.Calls.{StoreCall, open_run, fetch, evict, prepare, step, issue, drop_run, allow, pick, mayhold, maysave, fork, join, ask, rule_of}
use Rattle.layout.proofs.Follow.{Fine}
use Rattle.consistency.proofs.Laws.{Laws}
use Rattle.consistency.proofs.Calls.Caches.{fetch-laws, evict-laws}
use Rattle.consistency.proofs.Calls.Runs.{open_laws, drop-laws, ask-laws}
use Rattle.consistency.proofs.Calls.Prepare.{prepare-laws}
use Rattle.consistency.proofs.Calls.Step.{step-laws}
use Rattle.consistency.proofs.Calls.Issue.{issue-laws}
use Rattle.consistency.proofs.Calls.Allow.{allow-laws}
use Rattle.consistency.proofs.Calls.Pick.{pick-laws}
use Rattle.consistency.proofs.Calls.Rights.{mayhold-laws, maysave-laws}
use Rattle.consistency.proofs.Calls.Fork.{fork-laws, join-laws}
pub mod Caches
pub mod Runs
pub mod Prepare
pub mod Step
pub mod Issue
pub mod Allow
pub mod Pick
pub mod Rights
pub mod Fork

pub laws : (c : StoreCall) (s : Store) → Fine s → Laws c s (rule_of c s)
unfolding rule_of
laws (open_run r l) = open_laws r l
laws (fetch o k) = fetch-laws o k
laws (evict o k) = evict-laws o k
laws (prepare r) = prepare-laws r
laws (step r j n) = step-laws r j n
laws (issue r w S) = issue-laws r w S
laws (drop_run r) = drop-laws r
laws (allow o n) = allow-laws o n
laws pick = pick-laws
laws (mayhold o m) = mayhold-laws o m
laws (maysave w m) = maysave-laws w m
laws (fork r) = fork-laws r
laws (join r) = join-laws r
laws (ask q) = ask-laws q
