-- Every rule keeps a store fine.
-- rule_kept: every call; those with longer laws have a file in Rules/. new-..: new.
-- Assumes nothing.
use mathlib.Core.Path.{◌≡◌}
use mathlib.Core.Logic.{◌≢◌}
use mathlib.Core.List.{List, [], ◌∷◌}
use Prim.Native.Nat.{ℕ}
use native.Mathlib.Omega.{arith}
use Rattle.sizes.specs.Bounds.{counts_of, ranged, total_of}
use Rattle.sizes.specs.declared.Counts.{Counts}
use Rattle.sizes.proofs.Offsets.{ranged-out}
use Rattle.model.specs.Store.{Store, fresh}
use Rattle.model.specs.Outcome.{refused, done}
use Rattle.model.specs.Calls.{StoreCall, open_run, fetch, evict, prepare, step, issue, drop_run, allow, pick, mayhold, maysave, fork, join, ask, reply_of, rule_of}
use Rattle.model.proofs.Outcomes.{no-lack, unless-done, unless-refused}
use Rattle.layout.specs.Calls.{new_cause, new_on}
use Rattle.layout.proofs.Follow.{Fine}
use Rattle.layout.proofs.Kept.{Kept, fresh-fine, kept-replied, drop-kept, fetch-kept, evict-kept}
use Rattle.layout.proofs.Rules.Open.{open_kept}
use Rattle.layout.proofs.Rules.Prepare.{prepare-kept}
use Rattle.layout.proofs.Rules.Step.{step_kept}
use Rattle.layout.proofs.Rules.Issue.{issue-kept}
use Rattle.layout.proofs.Rules.Allow.{allow-kept}
use Rattle.layout.proofs.Rules.Pick.{pick-kept}
use Rattle.layout.proofs.Rules.Rights.{mayhold-kept, maysave-kept}
use Rattle.layout.proofs.Rules.Fork.{fork-kept, join_kept}
pub mod Open
pub mod Prepare
pub mod Step
pub mod Issue
pub mod Allow
pub mod Pick
pub mod Rights
pub mod Fork

pub rule_kept : (c : StoreCall) (s : Store) → Fine s → Kept s (rule_of c s)
unfolding rule_of
rule_kept (open_run r l) = open_kept r l
rule_kept (fetch o k) = fetch-kept o k
rule_kept (evict o k) = evict-kept o k
rule_kept (prepare r) = prepare-kept r
rule_kept (step r j n) = step_kept r j n
rule_kept (issue r w S) = issue-kept r w S
rule_kept (drop_run r) = drop-kept r
rule_kept (allow o n) = allow-kept o n
rule_kept pick = pick-kept
rule_kept (mayhold o m) = mayhold-kept o m
rule_kept (maysave w m) = maysave-kept w m
rule_kept (fork r) = fork-kept r
rule_kept (join r) = join_kept r
rule_kept (ask q) = λ s F. kept-replied s (reply_of q s) F

-- An accepted new leaves a fine store in any buffer.
pub new-fine : (l : List ℕ) (k w n p : ℕ) → new_cause l (counts_of k w n p) ≡ 0
    → Fine (fresh (counts_of k w n p))
unfolding new_cause
new-fine l k w n p e =
    let z = counts_of k w n p in
    fresh-fine z (ranged-out z (no-lack (ranged z) 2 _ (omega arith) e).0)

pub new-done : (l : List ℕ) (z : Counts) → new_cause l z ≡ 0
    → new_on l z ≡ done (total_of z ∷ []) (fresh z)
unfolding new_on
new-done l z e = unless-done (new_cause l z) _ e

pub new-refused : (l : List ℕ) (z : Counts) → new_cause l z ≢ 0
    → new_on l z ≡ refused (new_cause l z)
unfolding new_on
new-refused l z n = unless-refused (new_cause l z) _ n
