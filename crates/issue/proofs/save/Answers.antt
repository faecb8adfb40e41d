-- `save` leaves the store as it is where the mask is empty.
-- Assumes nothing.
use mathlib.Core.Path.{sym}
use borrow.Author.Rules.{rules}
use native.Mathlib.Omega.{arith}
use Rattle.words.proofs.Bools.{eq-eqb}
use Rattle.model.specs.Issue.{issued_store, issued_number}
use Rattle.form.proofs.Known.{form-again}
use Rattle.issue.proofs.save.Goals as goal

pub save_keys-requires : goal.save_keys-requires
save_keys-requires c =
    record {
      form_with = c.requires.form_with;
      savable = (c.requires.savable, c.if-mask-gt0.true);
    }

pub shape_of-words-then-mask-gt0 : goal.shape_of-words-then-mask-gt0
shape_of-words-then-mask-gt0 c = search rules

pub none-requires : goal.none-requires
none-requires c = search rules

pub returns : goal.returns
unfolding issued_store issued_number
returns c =
    rw (eq-eqb c.args.mask 0 (omega (arith, c.if-mask-gt0.false)))
    record {
      answers = c.none.ensures;
      leaves = sym (form-again c.args.words.now c.args.z c.requires.form_with);
    }

pub returns-then-mask-gt0 : goal.returns-then-mask-gt0
returns-then-mask-gt0 c =
    let r = c.save_keys.ensures in
    record { answers = r.answers; leaves = r.leaves }
