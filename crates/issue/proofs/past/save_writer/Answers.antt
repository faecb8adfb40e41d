-- `save_writer` takes in, sets the rows, then stores the count.
-- Assumes nothing.
use mathlib.Core.Path.{◌∙◌}
use borrow.Author.Rules.{rules}
use native.Mathlib.Omega.{arith}
use Rattle.issue.proofs.Areas.{takes-writer, writer-first}
use Rattle.issue.proofs.Writers.{writer-saved}
use Rattle.issue.proofs.past.save_writer.Goals as goal

pub take_in-requires : goal.take_in-requires
take_in-requires c = search rules

pub set_rows-requires : goal.set_rows-requires
set_rows-requires c =
    let a = c.args in
    record {
      writer_area = rw c.take_in.auto.words (takes-writer _ a.z a.at a.place c.requires.takes);
      w_lt_writers = c.requires.w_lt_writers;
    }

pub set_count-requires : goal.set_count-requires
set_count-requires c =
    let a = c.args in
    rw (c.set_rows.auto.words ∙ c.take_in.auto.words)
    (writer-first _ a.z a.at (takes-writer _ a.z a.at a.place c.requires.takes))

pub shape_of-words : goal.shape_of-words
shape_of-words c = search rules

pub returns : goal.returns
returns c =
    let a = c.args in
    writer-saved a.z a.words.now _ _ _ a.at a.place a.read a.w a.mask
    a.new.0 (omega (arith, c.requires.takes.apart, c.requires.takes.fits)) c.take_in.ensures
    c.set_rows.ensures c.set_count.ensures
