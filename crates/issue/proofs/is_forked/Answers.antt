-- `is_forked` reads the mark.
-- Assumes nothing.
use mathlib.Core.Path.{sym, ap, ◌∙◌}
use Prim.Native.Nat.{ℕ, ◌<◌}
use native.Mathlib.Omega.{arith}
use lib.Dec.{eqb}
use lib.ListN.{length}
use Rattle.sizes.specs.Bounds.{max_total}
use Rattle.model.specs.Store.{forked_mark}
use Rattle.layout.specs.Reading.{read_word_of}
use Rattle.form.proofs.Known.{form-area}
use Rattle.issue.proofs.Known.{mark-word, mark-index}
use Rattle.issue.proofs.is_forked.Goals as goal
use Rattle.issue.proofs.is_forked.Goals.{After-mark_at-at}

here : (c : After-mark_at-at) → let a = c.args in
    (c.mark_at-at.result < max_total) × (c.mark_at-at.result < length a.words.now)
here c =
    rw c.mark_at-at.ensures (mark-index _ _ c.requires.form_with _ c.requires.r_lt_runs)

pub mark_at-at-requires : goal.mark_at-at-requires
mark_at-at-requires c =
    record {
      ranged = (form-area _ _ c.requires.form_with).ranged;
      r_lt_runs = c.requires.r_lt_runs;
    }

pub returns : goal.returns
returns c =
    let a = c.args in
    ap (λ (x : ℕ). eqb x forked_mark) (ap (read_word_of a.words.now) c.mark_at-at.ensures
    ∙ sym (mark-word a.words.now a.z c.requires.form_with a.r c.requires.r_lt_runs))

pub offset_bounds-words-at : goal.offset_bounds-words-at
offset_bounds-words-at c = omega (arith, here (goal.at.offset_bounds-words-at c).After-mark_at-at)

pub bounds-words-at : goal.bounds-words-at
bounds-words-at c = omega (arith, here (goal.at.bounds-words-at c).After-mark_at-at)
