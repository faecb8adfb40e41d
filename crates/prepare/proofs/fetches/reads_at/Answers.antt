-- `reads_at` gives what the jobs at a site read.
-- The loop's invariant: the union over the jobs passed.
-- Assumes nothing.
use mathlib.Core.Path.{◌≡◌, refl, ap, ◌∙◌}
use Prim.Native.Nat.{ℕ}
use native.Mathlib.Omega.{arith}
use lib.Dec.{eqb}
use Rattle.words.specs.Numbers.{when}
use Rattle.masks.specs.Mask.{union_below}
use Rattle.layout.specs.Reading.{store_of}
use Rattle.prepare.specs.Turns.{reads_at_of}
use Rattle.prepare.proofs.Fetching.{reads_more}
use Rattle.prepare.proofs.fetches.reads_at.Goals as goal

pub loop-j-init : goal.loop-j-init
unfolding union_below
loop-j-init c = (omega arith, refl)

pub loop-j-preserved : goal.loop-j-preserved
loop-j-preserved c =
    let a = c.args in (
      omega arith,
      rw (
        reads_more (store_of a.words.now) a.r a.o c.loop-j.j,
        c.loop-j.invariant.1,
        c.mask_if-all.ensures,
        c.job_of-job.ensures,
      ),
    )

pub returns : goal.returns
unfolding reads_at_of
returns c =
    let a = c.args in
    let x = (store_of a.words.now).run a.r in
    let e : c.loop-j.j ≡ x.jobs = omega arith in
    c.loop-j.invariant.1
    ∙ ap (λ (n : ℕ). union_below n (λ i. when (eqb (x.job i).site a.o) (x.job i).reads)) e
