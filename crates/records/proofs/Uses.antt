-- What the claims about the checker give (CR 14): each is taken here as it is stated.
-- accepts: a record whose issues all read snapshots. no_number: such a one is named no issue.
-- readable-answered: a readable record isn't refused.
-- Assumes nothing.
use mathlib.Core.Path.{◌≡◌}
use Prim.Native.Nat.{ℕ, suc, ◌<◌}
use Rattle.model.specs.Outcome.{refused}
use Rattle.records.specs.Format.{Record, issues_in, Readable}
use Rattle.records.specs.Snapshots.{Snapshot}
use Rattle.records.specs.Audit.{audit_of, heard}
use Rattle.records.specs.Claims.{AcceptsExactly, NamesFirst, RefusesUnreadable}

module _ (b : Record) (R : Readable b) where
  pub accepts : AcceptsExactly → ((i : ℕ) → i < issues_in b → Snapshot b i) → audit_of b ≡ heard 0
  accepts C S = (C b).1 (R, S)

  pub no_number : NamesFirst → ((i : ℕ) → i < issues_in b → Snapshot b i)
      → (i : ℕ) → ¬ (audit_of b ≡ heard (suc i))
  no_number C S i e = let n = (C b i).0 e in n.3 (S i n.1)

  pub readable-answered : RefusesUnreadable → ¬ (audit_of b ≡ refused 15)
  readable-answered C e = (C b).0 e R
