-- `issues_fit` tests each issue. The loop's invariant: those passed are in order, and their reads
-- are counted.
-- Assumes nothing.
-- The words of the issues are there.
use Rattle.std.proofs.Common.{arith, ◌≡◌, ℕ, ◌+◌, ◌*◌, ◌<◌, refl, sym, ap, ◌∙◌, eqb}
use mathlib.Core.Bool.{not}
use Rattle.words.specs.Tests.{all_below}
use Rattle.records.specs.Format.{number_at, reads_in_of, reads_before, issues_in, issue_ok}
use Rattle.audit.specs.Parts.{HeaderOf}
use Rattle.audit.proofs.Loops.{loop-fails, loop-turn, loop-ends}
use Rattle.audit.proofs.Places.{header_in, before_more}
use Rattle.audit.proofs.issues.issues_fit.Goals as goal

pub loop-i-init : goal.loop-i-init
unfolding reads_before all_below
loop-i-init c = (refl, omega arith, refl)

pub issue_fits-requires : goal.issue_fits-requires
issue_fits-requires c =
    let h = c.requires.0 in
    let f : issues_in c.args.words.now < 4294967296 = omega (arith, h.issues, h.few) in
    let H : HeaderOf c.args.words.now c.args.w (issues_in c.args.words.now) =
    record { layout = h.layout; writers = h.writers; issues = refl; few = f } in
    record {
      header_of = (H, c.requires.1);
      i_bound = (omega (arith, h.issues), c.loop-i.invariant.0);
    }

pub returns-then-not-issue_fits : goal.returns-then-not-issue_fits
returns-then-not-issue_fits c =
    let a = c.args in
    rw (← loop-fails a.n (issue_ok a.words.now) c.loop-i.i _ (omega arith) c.issue_fits.ensures
    (ap not c.if-not-issue_fits.true))

pub bounds-words-i : goal.bounds-words-i
bounds-words-i c = omega (arith, header_in _ _ _ c.requires.0)

pub loop-i-preserved : goal.loop-i-preserved
unfolding number_at
loop-i-preserved c =
    let b = c.args.words.now in
    let l = c.loop-i in (
      ap (λ (m : ℕ). m + number_at b l.i) l.invariant.0 ∙ sym (before_more b l.i),
      omega (arith, c.type_inv.words (7 + 4 * l.i + 3), l.invariant.1),
      loop-turn (issue_ok b) l.i _ l.invariant.2 c.issue_fits.ensures (ap not
          c.if-not-issue_fits.false),
    )

pub returns : goal.returns
unfolding reads_in_of
returns c =
    let a = c.args in
    let b = a.words.now in
    let e : c.loop-i.i ≡ a.n = omega arith in
    let all = sym (loop-ends a.n (issue_ok b) c.loop-i.i e c.loop-i.invariant.2) in
    rw all (ap (λ (m : ℕ). eqb m (reads_in_of b)) (c.loop-i.invariant.0 ∙ ap (reads_before b) e))

pub overflow_add-before : goal.overflow_add-before
overflow_add-before c =
    omega (
      arith,
      c.type_inv.words (7 + 4 * c.loop-i.i + 3),
      c.loop-i.invariant.1,
      c.requires.0.few,
    )
