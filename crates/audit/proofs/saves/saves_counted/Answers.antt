-- `saves_counted` tests each read.
-- Assumes nothing.
use Rattle.std.proofs.Common.{rules}
use Rattle.records.specs.Format.{clock_of}
use Rattle.audit.specs.Parts.{save_counted}
use Rattle.audit.proofs.Places.{inside-read}
use Rattle.audit.proofs.saves.saves_counted.Goals as goal

pub each_read-requires : goal.each_read-requires
each_read-requires c =
    let a = c.args.issue in record {
      callable = λ x m.
          let k = c.requires.0 x m in
          let i = inside-read a x m in
          search rules;
    }

pub returns : goal.returns
unfolding save_counted clock_of
returns c =
    let a = c.args.issue in
    let e = c.args.earlier in
    c.each_read.ensures (save_counted a.words.now e.u e.mask e.rank) (λ x t m h. search rules)
