-- `early_cause` tests the run, its mark, then its done mask.
-- Assumes nothing.
use mathlib.Core.Path.{◌≡◌, sym, ap, ap₂, ◌∙◌}
use mathlib.Core.Bool.{Bool, not}
use Prim.Native.Nat.{ℕ, ◌+◌, ◌≤◌, ◌<◌}
use native.Mathlib.Omega.{arith}
use lib.Dec.{eqb}
use lib.ListN.{length, get_or}
use Rattle.words.proofs.Bools.{eq-eqb, ne_eqb}
use Rattle.sizes.specs.Runs.{snapshot_offset}
use Rattle.model.specs.Store.{forked_mark}
use Rattle.model.specs.Outcome.{refuse, prepare_row, run_cause}
use Rattle.layout.specs.Reading.{store_of}
use Rattle.trial.specs.Jobs.{UsedRun}
use Rattle.trial.proofs.Known.{jobs-known, run_index, done-word, mark-found}
use Rattle.prepare.specs.Turns.{early_cause}
use Rattle.prepare.proofs.Causes.{cause-run, cause-words, used-run}
use Rattle.std.proofs.lemmas.Result.{err_from_is_err_and}
use Rattle.answers.specs.Refusals.{refusal_number}
use Rattle.answers.proofs.Refusals.{refusal_some}
use Rattle.prepare.proofs.early_cause.Goals as goal
use Rattle.prepare.proofs.early_cause.Goals.{After-mark_at-mark, After-run_at-at, In_ok-run_cause}

-- The run passes: it isn't free.
passed : (c : In_ok-run_cause) → run_cause (store_of c.args.words.now) prepare_row c.args.r 0 ≡ 0
passed c = sym c.in_ok-run_cause.ensures

used : (c : In_ok-run_cause) → UsedRun c.args.words.now c.args.z c.args.r
used c = used-run c.args.words.now c.args.z c.args.r c.requires (passed c)

-- Where the two words stand.
marked : (c : After-mark_at-mark)
    → (c.mark_at-mark.result < length c.args.words.now)
    × (((store_of c.args.words.now).run c.args.r).mark
    ≡ get_or c.args.words.now c.mark_at-mark.result 0)
marked c =
    let U = used-run c.args.words.now c.args.z c.args.r c.requires
    (sym c.in_ok-run_cause.ensures) in
    rw c.mark_at-mark.ensures (mark-found _ _ _ U.form U.run)

used-at : (c : After-run_at-at) → UsedRun c.args.words.now c.args.z c.args.r
used-at c =
    used-run c.args.words.now c.args.z c.args.r c.requires
    (sym c.in_ok-run_cause.ensures)

here : (c : After-run_at-at) → c.run_at-at.result + snapshot_offset ≤ length c.args.words.now
here c = run_index _ _ _ (used-at c) _ c.run_at-at.ensures

-- The second is the done mask.
read : (c : After-run_at-at)
    → get_or c.args.words.now (c.run_at-at.result + 2) 0
    ≡ ((store_of c.args.words.now).run c.args.r).done
read c =
    ap (λ (i : ℕ). get_or c.args.words.now (i + 2) 0) c.run_at-at.ensures
    ∙ done-word _ _ _ (used-at c)

-- What both say.
tested : (c : After-run_at-at) → let l = c.args.words.now in
    refuse (eqb (get_or l c.mark_at-mark.result 0) forked_mark) 14
    (refuse (not (eqb (get_or l (c.run_at-at.result + 2) 0) 0)) 6 0)
    ≡ early_cause (store_of l) c.args.r 0
tested c =
    let U = used-at c in
    let m : (c.mark_at-mark.result < length c.args.words.now)
    × (((store_of c.args.words.now).run c.args.r).mark
    ≡ get_or c.args.words.now c.mark_at-mark.result 0) =
    rw c.mark_at-mark.ensures (mark-found _ _ _ U.form U.run) in
    cause-words _ _ _ _ (sym c.in_ok-run_cause.ensures)
    (ap (λ (x : ℕ). eqb x forked_mark) (sym m.1))
    (ap (λ (x : ℕ). not (eqb x 0)) (read c))

pub returns-in_err-run_cause : goal.returns-in_err-run_cause
returns-in_err-run_cause c =
    let a = c.args in
    let p = err_from_is_err_and c.from_residual.result c.from_residual.ensures.1 in
    let e = c.in_err-run_cause.field-0.0 in
    rw (p.1, p.2)
    (cause-run (store_of a.words.now) a.r (refusal_number e) c.in_err-run_cause.ensures
    (refusal_some e))

pub mark_at-mark-requires : goal.mark_at-mark-requires
mark_at-mark-requires c =
    let U = used (goal.at.mark_at-mark-requires c).In_ok-run_cause in record {
      ranged = (jobs-known _ _ _ U).area.ranged;
      r_lt_runs = U.run;
    }

pub run_at-at-requires : goal.run_at-at-requires
run_at-at-requires c =
    let U = used (goal.at.run_at-at-requires c).In_ok-run_cause in record {
      ranged = (jobs-known _ _ _ U).area.ranged;
      r_lt_runs = U.run;
    }

pub offset_bounds-words-mark : goal.offset_bounds-words-mark
offset_bounds-words-mark c =
    omega (arith, (marked (goal.at.offset_bounds-words-mark c).After-mark_at-mark).0)

pub bounds-words-mark : goal.bounds-words-mark
bounds-words-mark c =
    omega (arith, (marked (goal.at.bounds-words-mark c).After-mark_at-mark).0)

pub overflow_add-begun : goal.overflow_add-begun
overflow_add-begun c = omega (arith, here (goal.at.overflow_add-begun c).After-run_at-at)

pub offset_bounds-words-at : goal.offset_bounds-words-at
offset_bounds-words-at c = omega (arith, here (goal.at.offset_bounds-words-at c).After-run_at-at)

pub bounds-words-at : goal.bounds-words-at
bounds-words-at c = omega (arith, here (goal.at.bounds-words-at c).After-run_at-at)

pub returns-then-forked : goal.returns-then-forked
unfolding refuse
returns-then-forked c =
    let l = c.args.words.now in
    let b = not (eqb (get_or l (c.run_at-at.result + 2) 0) 0) in
    ap (λ (t : Bool). refuse t 14 (refuse b 6 0))
    (sym (eq-eqb (get_or l c.mark_at-mark.result 0) forked_mark c.if-forked.true))
    ∙ tested (goal.at.returns-then-forked c).After-run_at-at

pub returns-then-begun : goal.returns-then-begun
unfolding refuse
returns-then-begun c =
    let l = c.args.words.now in
    ap₂ (λ (t u : Bool). refuse t 14 (refuse u 6 0))
    (sym (ne_eqb (get_or l c.mark_at-mark.result 0) forked_mark c.if-forked.false))
    (sym (ap not (ne_eqb (get_or l (c.run_at-at.result + 2) 0) 0 c.if-begun.true)))
    ∙ tested (goal.at.returns-then-begun c).After-run_at-at

pub returns : goal.returns
unfolding refuse
returns c =
    let l = c.args.words.now in
    ap₂ (λ (t u : Bool). refuse t 14 (refuse u 6 0))
    (sym (ne_eqb (get_or l c.mark_at-mark.result 0) forked_mark c.if-forked.false))
    (sym (ap not (eq-eqb (get_or l (c.run_at-at.result + 2) 0) 0 c.if-begun.false)))
    ∙ tested (goal.at.returns c).After-run_at-at
