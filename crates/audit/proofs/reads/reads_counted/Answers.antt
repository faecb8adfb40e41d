-- `reads_counted` tests the words of each read.
-- Assumes nothing.
use Rattle.std.proofs.Common.{rules}
use Rattle.clock.specs.Clock.{clock_at}
use Rattle.records.specs.Format.{clock_of}
use Rattle.audit.specs.Parts.{counted}
use Rattle.audit.proofs.Places.{inside-read}
use Rattle.audit.proofs.reads.reads_counted.Goals as goal

pub each_read-requires : goal.each_read-requires
each_read-requires c =
    let a = c.args.issue in record {
      callable = λ x m. let i = inside-read a x m in search rules;
    }

pub returns : goal.returns
unfolding counted clock_at clock_of
returns c =
    let a = c.args.issue in
    c.each_read.ensures (counted a.words.now c.args.k a.w (clock_at c.args.before.now 0))
    (λ x t m h. search rules)
