-- `place_at` is one of three offsets, by the kind of place.
-- Assumes nothing.
use borrow.Author.Rules.{rules}
use borrow.Author.Tests.{eq-eqb, ne_eqb}
use native.Mathlib.Omega.{arith}
use Rattle.sizes.specs.Bounds.{sizes_of}
use Rattle.look.specs.Places.{place_at}
use Rattle.look.proofs.Places.{limit_sites, limit_runs}
use Rattle.look.proofs.place_at.Goals as goal

pub areas-requires : goal.areas-requires
areas-requires c = search rules

pub returns-then-place-eq0 : goal.returns-then-place-eq0
unfolding place_at sizes_of
returns-then-place-eq0 c = rw (eq-eqb _ _ c.if-place-eq0.true, c.areas.ensures)

pub site_at-requires : goal.site_at-requires
site_at-requires c =
    let a = c.args in
    let h = ne_eqb _ _ c.if-place-eq0.false in
    record {
      ranged = c.requires.ranged;
      o_lt_sites = omega (arith, limit_sites a.z a.place h (eq-eqb _ _ c.if-place-eq1.true));
    }

pub returns-then-place-eq1 : goal.returns-then-place-eq1
unfolding place_at
returns-then-place-eq1 c =
    rw (ne_eqb _ _ c.if-place-eq0.false, eq-eqb _ _ c.if-place-eq1.true) c.site_at.ensures

pub snapshot_on-requires : goal.snapshot_on-requires
snapshot_on-requires c =
    let a = c.args in
    let h = ne_eqb _ _ c.if-place-eq0.false in
    record {
      ranged = c.requires.ranged;
      r_lt_runs = omega (arith, limit_runs a.z a.place h (ne_eqb _ _ c.if-place-eq1.false));
    }

pub returns : goal.returns
unfolding place_at
returns c =
    rw (ne_eqb _ _ c.if-place-eq0.false, ne_eqb _ _ c.if-place-eq1.false) c.snapshot_on.ensures
