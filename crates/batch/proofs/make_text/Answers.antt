-- `make_text` meets its contract. Assumes nothing.
use native.Mathlib.Omega.{arith}
use mathlib.Core.Path.{refl}
use Rattle.batch.proofs.Texts.{ran}
use Rattle.batch.proofs.make_text.Goals as goal

pub returns-then-counts-lt2 : goal.returns-then-counts-lt2
returns-then-counts-lt2 c = record {
  does = λ h. absurd (omega arith);
  short = λ h. (refl, refl, refl, refl, refl);
}

pub returns : goal.returns
returns c =
    let r = c in
    let e = r in
    let a = e.args in
    let d = r.make_lines-taken.ensures in
    record {
      does = λ h.
          ran _ _ _ a.out.now _ a.counts.now _ _ d.text_after d.answers_in_bounds.0
          (omega (arith, r.make_lines-taken.auto)) d.answers_in_bounds.1 h;
      short = λ h. absurd (omega (arith, h, e.if-counts-lt2.false));
    }
