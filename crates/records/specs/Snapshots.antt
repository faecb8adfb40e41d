-- What a read includes, the record's own history, and snapshots by it (CR 14).
-- included: a save is in a read. history_of: as a history of crate history. Snapshot: what the
-- request asks of an issue's reads. is_snapshot: the same, computed (proofs/Exact).
-- Assumes nothing.
use Rattle.std.specs.Prelude.{◌≡◌, Bool, ◌&&◌, [], ◌∷◌, ℕ, zero, suc, ◌<◌, eqb, leb, ltb}
use Rattle.std.proofs.Math.Bool.{So}
use Rattle.words.specs.Tests.{Items}
use Rattle.masks.specs.Mask.{test_bit}
use Rattle.model.specs.Version.{zero_past}
use Rattle.history.specs.History.{Issue, History, HappensBefore}
use Rattle.history.specs.Copies.{meets_copy}
use Rattle.records.specs.Format.{Record, keys_in, writers_in, issues_in, writer_at, mask_at, saved_at, key_of, clock_of, ReadOf, all_reads, any_read, rank}

-- "which stand for its saves by each writer up to the issue of that writer so counted": read x
-- includes issue j's save of its sheet.
unfoldable pub included : Record → ℕ → Items
included b x j =
    saved_at b j (key_of b x) && leb (rank b j) (clock_of b x (writer_at b j))

-- Issue i: of each sheet it had read what its reads include, of earlier issues (a read of a
-- readable record includes no other ones: proofs/Histories). Nothing was admitted before it: no
-- rows.
unfoldable pub issue_of : Record → ℕ → Issue
issue_of b i = record {
  writer = writer_at b i;
  keys = test_bit (mask_at b i);
  read = λ d j. ltb j i && any_read b i (λ x. eqb (key_of b x) d && included b x j);
  rows = zero_past;
}

-- The history of the issues before i.
unfoldable pub history_of : Record → ℕ → History
history_of b zero = []
history_of b (suc i) = issue_of b i ∷ history_of b i

-- "the record's own history"
abbrev pub own_history : Record → History
own_history b = history_of b (issues_in b)

-- Issue i's reads form a causal snapshot.
pub record Snapshot (b : Record) (i : ℕ) : Type 0 where
  -- "A sheet read twice by an issue with unequal counts is no snapshot."
  pub once : (x y : ℕ) → ReadOf b i x → ReadOf b i y → key_of b x ≡ key_of b y
      → (u : ℕ) → u < writers_in b → clock_of b x u ≡ clock_of b y u
  -- "each save of a read sheet that stands behind a save in any of these reads is in that sheet's
  -- read": issue j's save of read y's sheet, behind issue t's save in read x
  pub closed : (x y : ℕ) → ReadOf b i x → ReadOf b i y → (j t : ℕ) → So (included b x t)
      → HappensBefore (own_history b) (key_of b y) j (key_of b x) t → So (included b y j)

-- Each read has all saves of its sheet that are in a read of the issue or behind one, by the
-- history before the issue.
unfoldable pub is_snapshot : Record → ℕ → Bool
is_snapshot b i =
    all_reads b i (λ x. all_reads b i (λ y.
    meets_copy (keys_in b) (history_of b i) (key_of b y) (included b y) (included b x)))
