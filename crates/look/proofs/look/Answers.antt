-- `look` is refused by its cause, or reads where the version is.
-- Assumes nothing.
use mathlib.Core.Path.{sym, ap}
use native.Mathlib.Omega.{arith}
use lib.ListN.{length}
use Rattle.version.specs.Places.{Area}
use Rattle.sizes.specs.declared.Sizes.{Sizes}
use Rattle.sizes.specs.Bounds.{sizes_of, master_at}
use Rattle.version.proofs.Areas.{issue_in, row_in}
use Rattle.version.proofs.Stores.{master-area}
use Rattle.form.proofs.Known.{form-long, form-area}
use Rattle.look.specs.Places.{place_at, own_row_at}
use Rattle.look.proofs.Answers.{area_in, Found, found, look-refused, look-done}
use Rattle.std.proofs.lemmas.Result.{err_from_is_err_and}
use Rattle.look.proofs.look.Goals as goal
use Rattle.look.proofs.look.Goals.{In_ok-cause}

-- The version is there.
there : (c : In_ok-cause)
    → Found c.args.words.now c.counts-z.result c.args.place c.args.number c.args.key
there c =
    found c.args.words.now c.args.place c.args.number c.args.key c.counts-z.result
    c.counts-z.ensures c.requires (sym c.in_ok-cause.ensures)

area : (c : In_ok-cause)
    → Area (length c.args.words.now) c.counts-z.result
    (place_at c.counts-z.result c.args.place c.args.number)
area c =
    area_in c.args.words.now c.counts-z.result c.counts-z.ensures c.args.place
    c.args.number c.requires (there c).number

-- The master's place.
master : (c : In_ok-cause)
    → Area (length c.args.words.now) c.counts-z.result (master_at c.counts-z.result)
master c =
    let S = form-area c.args.words.now c.counts-z.result
    (record { form = c.requires; counts = c.counts-z.ensures }) in
    master-area _ _ S.ranged S.fits

pub counts-z-requires : goal.counts-z-requires
counts-z-requires c = form-long _ c.requires

pub returns-in_err-cause : goal.returns-in_err-cause
returns-in_err-cause c =
    let a = c.args in
    let p = err_from_is_err_and c.from_residual.result c.from_residual.ensures.1 in
    let e = c.in_err-cause.field-0.0 in
    let r = look-refused a.words.now a.place a.number a.key e c.requires c.in_err-cause.ensures in
    rw (p.1, p.2) record { answers = r.0; row = r.1 }

pub place_at-at-requires : goal.place_at-at-requires
place_at-at-requires c = record {
  ranged = (area (goal.at.place_at-at-requires c).In_ok-cause).ranged;
  i_bound = (there (goal.at.place_at-at-requires c).In_ok-cause).number;
}

pub key_at-version-requires : goal.key_at-version-requires
key_at-version-requires c =
    let A = area (goal.at.key_at-version-requires c).In_ok-cause in
    record {
      ranged = A.ranged;
      at_lt_place_limit = (
        rw c.place_at-at.ensures A.low,
        omega (
          arith,
          (there (goal.at.key_at-version-requires c).In_ok-cause).key,
        ),
      );
    }

pub version_issue-issue-requires : goal.version_issue-issue-requires
version_issue-issue-requires c =
    let e = (goal.at.version_issue-issue-requires c).In_ok-cause in
    rw (c.key_at-version.ensures, c.place_at-at.ensures)
    (issue_in _ _ _ (area e) _ (omega (arith, (there e).key)))

pub leaders_of-leaders-requires : goal.leaders_of-leaders-requires
leaders_of-leaders-requires c =
    record {
      area = rw c.place_at-at.ensures (area (goal.at.leaders_of-leaders-requires c).In_ok-cause);
      k_lt_keys = omega (arith, (there (goal.at.leaders_of-leaders-requires c).In_ok-cause).key);
    }

pub row_of-row-requires : goal.row_of-row-requires
row_of-row-requires c =
    let A = area (goal.at.row_of-row-requires c).In_ok-cause in
    let h = (there (goal.at.row_of-row-requires c).In_ok-cause).key in
    record {
      ranged = A.ranged;
      at_lt_place_limit = (rw c.place_at-at.ensures A.low, h, omega (arith, h));
    }

pub areas-requires : goal.areas-requires
areas-requires c = (area (goal.at.areas-requires c).In_ok-cause).ranged

pub row_of-own-requires : goal.row_of-own-requires
unfolding sizes_of
row_of-own-requires c =
    let A = master (goal.at.row_of-own-requires c).In_ok-cause in
    let h = (there (goal.at.row_of-own-requires c).In_ok-cause).key in
    record {
      ranged = A.ranged;
      at_lt_place_limit = (rw c.areas.ensures A.low, h, omega (arith, h));
    }

pub compare-standing-requires : goal.compare-standing-requires
unfolding sizes_of
compare-standing-requires c =
    let h = (there (goal.at.compare-standing-requires c).In_ok-cause).key in
    let own = row_in _ _ _ (area (goal.at.compare-standing-requires c).In_ok-cause) _ _ h h in
    let its = row_in _ _ _ (master (goal.at.compare-standing-requires c).In_ok-cause) _ _ h h in (
      rw (c.row_of-row.ensures, c.place_at-at.ensures) own,
      rw (c.row_of-own.ensures, c.areas.ensures) its,
    )

pub returns : goal.returns
unfolding own_row_at sizes_of
returns c =
    let a = c.args in
    let r = look-done a.words.now a.place c.args.number c.args.key
    c.counts-z.result c.counts-z.ensures c.requires (there (goal.at.returns c).In_ok-cause)
    c.leaders_of-leaders.result
    (rw (← c.place_at-at.ensures) c.leaders_of-leaders.ensures) c.compare-standing.result
    (rw (
      ← c.place_at-at.ensures,
      ← c.row_of-row.ensures,
      ← ap (λ (x : Sizes). x.master) c.areas.ensures,
      ← c.row_of-own.ensures,
    ) c.compare-standing.ensures) in
    rw (
      c.row_of-row.ensures,
      c.version_issue-issue.ensures,
      c.key_at-version.ensures,
      c.place_at-at.ensures,
    )
    (record { answers = r.0; row = r.1 })
