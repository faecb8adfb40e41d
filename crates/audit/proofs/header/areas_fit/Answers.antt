-- `areas_fit`: each test in turn. No sum wraps: q * (1 + w) is at most 17 * 2 ^ 32.
-- Assumes nothing.
-- The issues begin at word 7, and the reads where these end.
-- The sum is the end of the reads.
use Rattle.std.proofs.Common.{arith, ◌≡◌, ◌<◌, ℕ, ◌+◌, ◌*◌, ◌≤◌, ap, sym, ◌∙◌, get_or}
use Rattle.records.specs.Format.{issues_in, reads_in_of, issues_from, reads_from, total_in, read_at_of}
use Rattle.audit.proofs.Headers.{areas_moved, areas_apart, areas_unended, areas_ended, reads-few}
use Rattle.audit.proofs.header.areas_fit.Goals as goal
use Rattle.audit.proofs.header.areas_fit.Goals.{Start}

few : (s : Start) → get_or s.args.words.now 3 0 < 4294967296
    → get_or s.args.words.now 3 0 * (1 + s.args.w) ≤ 17 * 4294967296
few s h = reads-few _ _ h s.requires.2

ends : (s : Start)
    → 7 + 4 * get_or s.args.words.now 2 0 + get_or s.args.words.now 3 0 * (1 + s.args.w)
    ≡ read_at_of s.args.words.now (reads_in_of s.args.words.now)
unfolding issues_in reads_in_of read_at_of
ends s =
    ap (λ (w : ℕ). 7 + 4 * get_or s.args.words.now 2 0 + get_or s.args.words.now 3 0 * (1 + w))
    s.requires.1

pub returns-then-words-ne7 : goal.returns-then-words-ne7
unfolding issues_from
returns-then-words-ne7 c = areas_moved _ c.if-words-ne7.true

pub returns-then-words-reads : goal.returns-then-words-reads
unfolding issues_from reads_from issues_in
returns-then-words-reads c = areas_apart _ c.if-words-ne7.false c.if-words-reads.true

pub returns-then-total-reads : goal.returns-then-total-reads
unfolding issues_from reads_from issues_in total_in
returns-then-total-reads c =
    areas_unended _ c.if-words-ne7.false c.if-words-reads.false
    (λ e. c.if-total-reads.true (e ∙ sym (ends (goal.at.returns-then-total-reads c).Start)))

pub returns : goal.returns
unfolding issues_from reads_from issues_in total_in
returns c =
    areas_ended _ c.if-words-ne7.false c.if-words-reads.false
    (c.if-total-reads.false ∙ ends (goal.at.returns c).Start)

pub overflow_mul-words : goal.overflow_mul-words
overflow_mul-words c =
    omega (arith, few (goal.at.overflow_mul-words c).Start (omega (arith, c.type_inv.words 3)))

pub overflow_add-reads-2 : goal.overflow_add-reads-2
overflow_add-reads-2 c =
    omega (
      arith,
      few (goal.at.overflow_add-reads-2 c).Start (omega (arith, c.type_inv.words 3)),
      c.type_inv.words 2,
    )
