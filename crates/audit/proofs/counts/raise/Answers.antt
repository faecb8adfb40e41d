-- `raise` has the largest counts of the issue's reads and those before.
-- Assumes nothing.
use Rattle.std.proofs.Common.{rules, refl, ◌+◌}
use Rattle.clock.specs.Clock.{clock_at}
use Rattle.records.specs.Format.{first_at, read_at_of}
use Rattle.audit.specs.Parts.{Raised}
use Rattle.audit.proofs.Folding.{folds-keep}
use Rattle.audit.proofs.Places.{inside-read, counts-are}
use Rattle.audit.proofs.Walks.{reach_of, raise-start, raise-turn, raise-done}
use Rattle.audit.proofs.counts.raise.Goals as goal

pub fold_reads-requires : goal.fold_reads-requires
fold_reads-requires c =
    record { callable = λ x t m. (c.args.issue.inside.1, inside-read c.args.issue x m) }

pub returns : goal.returns
returns c =
    let a = c.args.issue in
    let b = a.words.now in
    raise-done _ _ _ _ _ _ refl
    (folds-keep _ (λ r m. Raised a.w (reach_of b a.i r) c.args.reach.now m) _ _ _
    c.fold_reads.ensures (raise-start b a.i a.w c.args.reach.now)
    (λ r s t l k h.
    let x = first_at b a.i + r in
    let u = h.step in
    let p : Raised a.w (clock_at b (read_at_of b x + 1)) h.from.now h.to.now = search rules in
    let q : Raised a.w (clock_at b (read_at_of b x + 1)) s t = rw (h.before, h.after) at p in
    raise-turn b a.i r a.w c.args.reach.now s t _ k q (counts-are b x)))
