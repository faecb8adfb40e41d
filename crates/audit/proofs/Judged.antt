-- The walk's answer is the issue's, and the first that fails is the call's.
-- fine-is, snapshot-walk, snapshot-none: of an issue. unsound-..: of the loop over them.
-- Assumes nothing.
use mathlib.Core.Path.{◌≡◌, refl, sym, ap, ◌∙◌}
use mathlib.Core.Bool.{true, false, not, So}
use mathlib.Core.List.{List}
use Prim.Native.Nat.{ℕ, ◌+◌, ◌<◌}
use native.Mathlib.Omega.{arith}
use native.Mathlib.Numerals.{add-one}
use lib.ListN.{replicate}
use Rattle.words.specs.Tests.{Items}
use Rattle.words.proofs.Tests.{below-cases}
use Rattle.clock.specs.Clock.{clock_at}
use Rattle.records.specs.Format.{Record, writers_in, issues_in, writer_at, mask_at, number_at, all_reads, rank, Readable}
use Rattle.records.specs.Snapshots.{is_snapshot}
use Rattle.records.specs.Walk.{read_reach, fine, walk}
use Rattle.records.specs.Audit.{first_below_of, audit_number}
use Rattle.records.proofs.Exact.{first-none, first_found, first-zero}
use Rattle.records.proofs.Walked.{walk-snapshot, walk_same}
use Rattle.audit.specs.Parts.{Raised, save_counted}
use Rattle.audit.proofs.Places.{reads_none}
use Rattle.audit.proofs.Walks.{raised-first}

pub fine-is : (b : Record) (i j : ℕ)
    → all_reads b i (save_counted b (writer_at b j) (mask_at b j) (rank b j)) ≡ fine b i j
unfolding fine save_counted
fine-is b i j = refl

pub snapshot-walk : {b : Record} → Readable b → (i w : ℕ) → i < issues_in b → w ≡ writers_in b
    → (m : List ℕ) → Raised w (read_reach b i) (replicate 16 0) m
    → walk b i i (clock_at m 0) ≡ is_snapshot b i
snapshot-walk {b} R i w l e m S =
    sym (walk-snapshot R i l
    ∙ walk_same R i i (read_reach b i) (clock_at m 0) (omega arith) (λ u h.
    raised-first b i w m S u (omega arith)))

-- No reads are one.
pub snapshot-none : (b : Record) (i : ℕ) → number_at b i ≡ 0 → true ≡ is_snapshot b i
unfolding is_snapshot
snapshot-none b i e = reads_none b i _ e

-- ---- the first

module _ (b : Record) (n : ℕ) (e : n ≡ issues_in b) where
  abbrev pub unsound : Items
  unsound i = not (is_snapshot b i)

  pub unsound-found : (i : ℕ) → i < n → first_below_of i unsound ≡ 0 → So (unsound i)
      → i + 1 ≡ audit_number b
  unfolding audit_number
  unsound-found i l z p =
      add-one i ∙ sym (first_found (issues_in b) unsound i (omega arith) p (first-zero i unsound
      z))

  pub unsound-turn : (i : ℕ) → first_below_of i unsound ≡ 0 → unsound i ≡ false
      → first_below_of (i + 1) unsound ≡ 0
  unsound-turn i z p =
      first-none (i + 1) unsound (λ j l.
      below-cases j i (omega arith) (λ f. rw f p) (first-zero i unsound z j))

  pub unsound-none : (i : ℕ) → i ≡ n → first_below_of i unsound ≡ 0 → 0 ≡ audit_number b
  unfolding audit_number
  unsound-none i f z = sym (ap (λ (k : ℕ). first_below_of k unsound) (sym (f ∙ e)) ∙ z)
