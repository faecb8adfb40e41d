-- `least_counts` has the least counts of the issue's reads.
-- Assumes nothing.
use Rattle.std.proofs.Common.{rules, refl, arith, ◌+◌}
use Rattle.clock.specs.Clock.{clock_at}
use Rattle.records.specs.Format.{first_at, read_at_of}
use Rattle.audit.specs.Parts.{Lowered}
use Rattle.audit.proofs.Folding.{folds-keep}
use Rattle.audit.proofs.Places.{inside-read, counts-are}
use Rattle.audit.proofs.Lowering.{LeastTo, lower-turn, lower-done}
use Rattle.audit.proofs.counts.least_counts.Goals as goal

pub fold_reads-requires : goal.fold_reads-requires
fold_reads-requires c =
    record { callable = λ x t m. (c.args.issue.inside.1, inside-read c.args.issue x m) }

pub returns : goal.returns
returns c =
    let a = c.args.issue in
    let b = a.words.now in
    lower-done _ _ _ _ _ refl
    (folds-keep _ (λ r m. LeastTo b a.i a.w r m) _ _ _ c.fold_reads.ensures
    (λ s h. absurd (omega arith))
    (λ r s t l k h.
    let x = first_at b a.i + r in
    let u = h.step in
    let p : Lowered a.w (clock_at b (read_at_of b x + 1)) h.from.now h.to.now = search rules in
    let q : Lowered a.w (clock_at b (read_at_of b x + 1)) s t = rw (h.before, h.after) at p in
    lower-turn b a.i a.w r s t _ k q (counts-are b x)))
