-- The record of a history in which each issue had read a snapshot is accepted (CR 14), also with
-- further words behind it.
-- Snapshots: each issue had. own_record.
-- Assumes nothing.
use mathlib.Core.Path.{◌≡◌}
use mathlib.Core.List.{List, [], ◌∷◌, ◌++◌}
use Prim.Native.Nat.{ℕ, ◌≤◌}
use Rattle.history.specs.History.{Issue, History}
use Rattle.history.proofs.Notions.{Sound}
use Rattle.records.specs.Format.{Record, keys_in, writers_in}
use Rattle.records.specs.Audit.{audit_of, heard}
use Rattle.records.specs.Own.{record_of_at}
use Rattle.records.proofs.Notions.{OwnReads}
use Rattle.records.proofs.Accepted.{Carries, Carries.nothing, Carries.another, own-accepted}
use Rattle.records.proofs.Lying.{Grown, Grown.same, grown-below, Lies, lies-reads, lies-written, record_lies, record_layout}

-- Each issue had read a snapshot by the history below it.
pub data Snapshots (K : ℕ) : History → Type 0 where
  none : Snapshots K []
  more : {e : Issue} {h : History} → OwnReads K h e → Snapshots K h → Snapshots K (e ∷ h)

-- A history that a record lies for, and those that it goes on from.
carried : {b : Record} {K W : ℕ} {h : History} → Lies b K W h → (l : History) → Grown l h
    → Snapshots (keys_in b) l → Carries b l
carried y [] g none = nothing
carried {h = h} y (e ∷ l) g (more o s) =
    another o (lies-written y e l g) (carried y l (grown-below g) s)

-- "it accepts the record, if it fits the header, of any history our own desk made"; "the buffer
-- may go on past it"
pub own_record : (K W : ℕ) (h : History) (c : List ℕ) → 1 ≤ K → K ≤ 32 → 1 ≤ W → W ≤ 16
    → Sound K W h → Snapshots K h → audit_of (record_of_at K W h ++ c) ≡ heard 0
own_record K W h c k₁ k₂ w₁ w₂ s o =
    let b : Record = record_of_at K W h ++ c in
    let y = record_lies K W h c in
    let o' : Snapshots (keys_in b) h = rw y.keys o in
    let s' : Sound (keys_in b) (writers_in b) h = rw (y.keys, y.writers) s in
    own-accepted b h (record_layout K W h c k₁ k₂ w₁ w₂) y.issues (lies-reads y) s'
    (carried y h same o')
