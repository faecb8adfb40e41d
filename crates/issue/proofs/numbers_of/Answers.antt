-- `numbers_of` reads two words.
-- Assumes nothing.
use mathlib.Core.Path.{sym, ◌∙◌}
use Rattle.layout.proofs.Readings.{last_in_lem}
use Rattle.form.proofs.Known.{form-long, form-area}
use Rattle.issue.proofs.Known.{count_word, writer-words}
use Rattle.issue.proofs.numbers_of.Goals as goal

pub last_issue-issue-requires : goal.last_issue-issue-requires
last_issue-issue-requires c =
    form-long c.args.words.now c.requires.form_with.form

pub writer_at-at-requires : goal.writer_at-at-requires
writer_at-at-requires c =
    record {
      ranged = (form-area c.args.words.now c.args.z c.requires.form_with).ranged;
      u_lt_writers = c.requires.w_lt_writers;
    }

pub count_at-count-requires : goal.count_at-count-requires
count_at-count-requires c =
    let a = c.args in
    rw c.writer_at-at.ensures (writer-words a.words.now a.z c.requires.form_with a.w
    c.requires.w_lt_writers)

pub returns : goal.returns
returns c =
    let a = c.args in
    let l = a.words.now in record {
      issue = c.last_issue-issue.ensures ∙ sym (last_in_lem l);
      count = rw (
        count_word l a.z c.requires.form_with a.w c.requires.w_lt_writers,
        ←
            c.writer_at-at.ensures,
      )
          c.count_at-count.ensures;
    }
