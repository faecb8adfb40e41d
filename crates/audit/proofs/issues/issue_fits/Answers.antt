-- `issue_fits`: each test in turn.
-- Assumes nothing.
-- The issue's words are there.
-- The writer is one of the record's.
-- The mask isn't empty.
-- The least mask with a key too many.
use Rattle.std.proofs.Common.{arith, ◌≡◌, ℕ, ◌+◌, ◌*◌, ◌%◌, ◌^◌, ◌≤◌, ◌<◌, ap, ◌∙◌, length, eqb}
use Rattle.masks.proofs.Bits.{shifted_one}
use Rattle.records.specs.Format.{keys_in, writers_in, writer_at, mask_at, first_at}
use Rattle.audit.proofs.Places.{header_in, issue_strange, issue-empty, issue-wide, issue-last}
use Rattle.audit.proofs.issues.issue_fits.Goals as goal
use Rattle.audit.proofs.issues.issue_fits.Goals.{Else-mask-lt1, Else-w-words, Start}

inside : (c : Start) → 7 + 4 * c.args.i + 4 ≤ length c.args.words.now
inside c = omega (arith, header_in _ _ _ c.requires.header_of.0, c.requires.i_bound.0)

writer : (c : Else-w-words) → writer_at c.args.words.now c.args.i < writers_in c.args.words.now
unfolding writer_at
writer c = omega (arith, c.if-w-words.false, c.requires.header_of.0.writers)

some : (c : Else-mask-lt1) → 1 ≤ mask_at c.args.words.now c.args.i
unfolding mask_at
some c = omega (arith, c.if-mask-lt1.false)

above : (c : Else-mask-lt1) → (1 * 2 ^ c.args.k) % 2 ^ 64 ≡ 2 ^ keys_in c.args.words.now
above c =
    let p = c.requires.header_of in
    shifted_one c.args.k 64 (omega (arith, p.0.layout.keys.1, p.1)) ∙ ap (λ (n : ℕ). 2 ^ n) p.1

pub bounds-words-at : goal.bounds-words-at
bounds-words-at c = omega (arith, inside (goal.at.bounds-words-at c).Start)

pub bounds-words-at-2 : goal.bounds-words-at-2
bounds-words-at-2 c = omega (arith, inside (goal.at.bounds-words-at-2 c).Start)

pub bounds-words-at-3 : goal.bounds-words-at-3
bounds-words-at-3 c = omega (arith, inside (goal.at.bounds-words-at-3 c).Start)

pub returns-then-w-words : goal.returns-then-w-words
unfolding writer_at
returns-then-w-words c =
    issue_strange _ _ (omega (arith, c.if-w-words.true, c.requires.header_of.0.writers))

pub returns-then-mask-lt1 : goal.returns-then-mask-lt1
unfolding mask_at
returns-then-mask-lt1 c =
    issue-empty _ _ (writer (goal.at.returns-then-mask-lt1 c).Else-w-words) c.if-mask-lt1.true

pub returns-then-k-mask : goal.returns-then-k-mask
unfolding mask_at
returns-then-k-mask c =
    issue-wide _ _ (writer (goal.at.returns-then-k-mask c).Else-w-words) (some
    (goal.at.returns-then-k-mask c).Else-mask-lt1)
    (omega (arith, above (goal.at.returns-then-k-mask c).Else-mask-lt1, c.if-k-mask.true))

pub returns : goal.returns
unfolding mask_at first_at
returns c =
    ap (eqb (first_at c.args.words.now c.args.i)) c.requires.i_bound.1
    ∙ issue-last _ _ (writer (goal.at.returns c).Else-w-words) (some
    (goal.at.returns c).Else-mask-lt1)
    (omega (arith, above (goal.at.returns c).Else-mask-lt1, c.if-k-mask.false))

pub overflow_add-at : goal.overflow_add-at
overflow_add-at c = omega (arith, inside (goal.at.overflow_add-at c).Start, c.well_formed.0.0)

pub overflow_mul-at : goal.overflow_mul-at
overflow_mul-at c = omega (arith, inside (goal.at.overflow_mul-at c).Start, c.well_formed.0.0)
