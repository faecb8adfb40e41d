-- The history of issues, and what happens before a write (document 01: "save", "stands behind").
-- Issue, History; writer_of, saved, read_by, rows_of: what stands in it. HappensBefore: the
-- paper's four clauses. in_past: the same, computed (proofs/Behind has the equivalence).
-- A write ("save") is a key in an issue. Issues are told by position, counted from 0: issue
-- number i + 1 is at i.
-- Assumes nothing.
use Rattle.std.specs.Prelude.{◌≡◌, false, cond, ◌&&◌, ◌||◌, ◌≢◌, List, [], ◌∷◌, ℕ, ◌<◌, eqb, length}
use Rattle.std.proofs.Math.Bool.{So}
use Rattle.words.specs.Tests.{Items, any_below}
use Rattle.clock.specs.Clock.{Clock}
use Rattle.model.specs.Version.{zero_past}

-- Writer, mask, and for each key the copy that the issue's run had read: the issues of its writes.
-- rows: what those copies include and list of the saves that were admitted (CR 6; specs/Listing).
pub record Issue : Type 0 where
  pub writer : ℕ
  pub keys : Items
  pub read : ℕ → Items
  pub rows : ℕ → Clock

-- Newest first.
abbrev pub History : Type 0
History = List Issue

-- ---- what stands in a history

unfoldable pub writer_of : History → ℕ → ℕ
writer_of [] i = 0
writer_of (e ∷ h) i = cond (eqb i (length h)) e.writer (writer_of h i)

-- Issue i has a write of key d.
unfoldable pub saved : History → ℕ → Items
saved [] d i = false
saved (e ∷ h) d i = cond (eqb i (length h)) (e.keys d) (saved h d i)

-- The run of issue i had read a version of key d that includes the write of issue j.
unfoldable pub read_by : History → ℕ → ℕ → Items
read_by [] i d j = false
read_by (e ∷ h) i d j = cond (eqb i (length h)) (e.read d j) (read_by h i d j)

-- The run of issue i had read copies with these rows.
unfoldable pub rows_of : History → ℕ → ℕ → Clock
rows_of [] i = zero_past
rows_of (e ∷ h) i = cond (eqb i (length h)) e.rows (rows_of h i)

-- ---- "Save s stands behind save t": s is the write of key d in issue j, t that of key e in
-- issue i

pub data HappensBefore (h : History) : ℕ → ℕ → ℕ → ℕ → Type 0 where
  -- "if both are of one issue and differ in sheet"
  together : {d e i : ℕ} → i < length h → So (saved h d i) → So (saved h e i) → d ≢ e
      → HappensBefore h d i e i
  -- "if s is of an earlier issue by t's writer"
  earlier : {d j e i : ℕ} → i < length h → j < i → writer_of h j ≡ writer_of h i
      → So (saved h d j) → So (saved h e i) → HappensBefore h d j e i
  -- "if the run that issued t had read a version that includes s"
  was_read_of : {d j e i : ℕ} → i < length h → So (read_by h i d j) → So (saved h e i)
      → HappensBefore h d j e i
  -- "or through a chain of these"
  chain : {d j c k e i : ℕ} → HappensBefore h d j c k → HappensBefore h c k e i
      → HappensBefore h d j e i

-- ---- computed, for keys below K

-- Issue i of h comes straight before the issue e on top of it: by the same writer, or read by its
-- run.
unfoldable pub leads : ℕ → Issue → History → Items
leads K e h i = eqb (writer_of h i) e.writer || any_below K (λ d. e.read d i)

-- The write of key d in issue j is one of issue i, or happens before one of them.
unfoldable pub in_past : ℕ → History → ℕ → ℕ → Items
in_past K [] i d j = false
in_past K (e ∷ h) i d j =
    cond (eqb i (length h))
    ((eqb j (length h) && e.keys d)
    || any_below (length h) (λ x. leads K e h x && in_past K h x d j))
    (in_past K h i d j)
