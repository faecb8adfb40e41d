-- `new` meets its contract: refused for its cause, or done.
-- Assumes nothing.
use mathlib.Core.Path.{refl}
use Rattle.std.proofs.lemmas.Result.{err_from_is_err_and}
use Rattle.answers.specs.Refusals.{refusal_number}
use Rattle.answers.proofs.Refusals.{refusal_some}
use Rattle.create.proofs.Outcomes.{new-no, new-done}
use Rattle.create.proofs.new.Goals as goal

pub returns-in_err-cause : goal.returns-in_err-cause
returns-in_err-cause c =
    let a = c.args in
    let p = err_from_is_err_and c.from_residual.result c.from_residual.ensures.1 in
    let e = c.in_err-cause.field-0.0 in
    let r = new-no a.words.now a.keys a.writers a.sites a.runs _ (refusal_number e)
    c.counts_of-z.ensures c.in_err-cause.ensures (refusal_some e) in
    rw (p.1, p.2) (record { answers = r.0; leaves = r.1 })

pub returns : goal.returns
returns c =
    let a = c.args in
    let s = c.store_fresh-total in
    let r = new-done a.words.now a.keys a.writers a.sites a.runs _ _ _ _ c.counts_of-z.ensures
    c.in_ok-cause.ensures refl s.ensures.answers s.ensures.leaves in
    record { answers = r.0; leaves = r.1 }
