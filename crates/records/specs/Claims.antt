-- What the checker is (CR 14): which answer it gives, by what the request says of a record.
-- AcceptsExactly, NamesFirst, RefusesUnreadable: the three answers, of every record.
-- Assumes nothing.
use Rattle.std.specs.Prelude.{◌≡◌, ◌↔◌, ℕ, suc, ◌<◌}
use Rattle.model.specs.Outcome.{refused}
use Rattle.records.specs.Format.{Record, issues_in, Readable}
use Rattle.records.specs.Snapshots.{Snapshot}
use Rattle.records.specs.Audit.{audit_of, heard}

-- "The checker accepts exactly those records in which each issue's reads form a causal snapshot by
-- the record's own history".
abbrev pub AcceptsExactly : Type 0
AcceptsExactly =
    (b : Record)
    → (audit_of b ≡ heard 0) ↔ (Readable b × ((i : ℕ) → i < issues_in b → Snapshot b i))

-- "otherwise the number, from 1, of the first issue whose reads are no snapshot"
abbrev pub NamesFirst : Type 0
NamesFirst =
    (b : Record) (i : ℕ)
    → (audit_of b ≡ heard (suc i))
    ↔ (Readable b × (i < issues_in b) × ((j : ℕ) → j < i → Snapshot b j) × ¬ (Snapshot b i))

-- "An unreadable record is 15".
abbrev pub RefusesUnreadable : Type 0
RefusesUnreadable = (b : Record) → (audit_of b ≡ refused 15) ↔ ¬ (Readable b)
