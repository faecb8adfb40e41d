-- `counts_fit`: each test in turn.
-- Assumes nothing.
use Rattle.words.proofs.Bools.{le-leb, gt-leb}
use Rattle.audit.specs.Parts.{counts_ok}
use Rattle.audit.proofs.header.counts_fit.Goals as goal

pub returns-then-k-lt1 : goal.returns-then-k-lt1
unfolding counts_ok
returns-then-k-lt1 c = rw (gt-leb 1 _ c.if-k-lt1.true)

pub returns-then-k-gt32 : goal.returns-then-k-gt32
unfolding counts_ok
returns-then-k-gt32 c = rw (le-leb 1 _ c.if-k-lt1.false, gt-leb _ 32 c.if-k-gt32.true)

pub returns-then-w-lt1 : goal.returns-then-w-lt1
unfolding counts_ok
returns-then-w-lt1 c =
    rw (
      le-leb 1 _ c.if-k-lt1.false,
      le-leb _ 32 c.if-k-gt32.false,
      gt-leb 1 _ c.if-w-lt1.true,
    )

pub returns : goal.returns
unfolding counts_ok
returns c =
    rw (
      le-leb 1 _ c.if-k-lt1.false,
      le-leb _ 32 c.if-k-gt32.false,
      le-leb 1 _ c.if-w-lt1.false,
    )
