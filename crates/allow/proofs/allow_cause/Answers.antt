-- `allow_cause` tests the site and the bound, then what is held.
-- counted: what is counted is what the cache holds.
-- Assumes nothing.
use mathlib.Core.Path.{◌≡◌, ap, ◌∙◌}
use Prim.Native.Nat.{ℕ}
use native.Mathlib.Omega.{arith}
use lib.ListN.{length}
use Rattle.sizes.specs.Bounds.{site_at}
use Rattle.model.specs.Allowance.{held_count}
use Rattle.layout.specs.Reading.{read_place}
use Rattle.version.proofs.Areas.{count_held}
use Rattle.version.proofs.Stores.{site-area}
use Rattle.form.proofs.Known.{form-area}
use Rattle.allow.proofs.Allows.{cause-out, cause-many, cause-held, cause-none}
use Rattle.allow.proofs.allow_cause.Goals as goal
use Rattle.allow.proofs.allow_cause.Goals.{After-count_with, then-z-o-via-then-z-o, then-z-o-via-else-z-o+then-z-number}

counted : (c : After-count_with) → let a = c.args in
    c.count_with.result ≡ held_count a.z.keys (read_place a.z a.words.now (site_at a.z a.o))
counted c =
    let a = c.args in
    count_held a.z a.words.now c.site_at-cache.result c.count_with.result
    c.count_with.ensures
    ∙ ap (λ (at : ℕ). held_count a.z.keys (read_place a.z a.words.now at))
    c.site_at-cache.ensures

pub returns-then-z-o : goal.returns-then-z-o
returns-then-z-o c =
    let a = c.args in
    elim c.then-z-o.branch [
      | then-z-o-via-then-z-o w ↦
          cause-out a.words.now a.z a.o a.number c.requires w.if-z-o.true
      | then-z-o-via-else-z-o+then-z-number w ↦
          cause-many a.words.now a.z a.o a.number c.requires w.if-z-o.false w.if-z-number.true
    ]

pub returns-then-number-count_with : goal.returns-then-number-count_with
returns-then-number-count_with c =
    let a = c.args in
    cause-held a.words.now a.z a.o a.number c.requires (omega arith) (omega arith)
    (omega (
      arith,
      c.if-number-count_with.true,
      counted (goal.at.returns-then-number-count_with c).After-count_with,
    ))

pub site_at-cache-requires : goal.site_at-cache-requires
site_at-cache-requires c = record {
  ranged = (form-area _ _ c.requires).ranged;
  o_lt_sites = omega arith;
}

pub count_with-requires : goal.count_with-requires
count_with-requires c =
    let a = c.args in
    let R = form-area a.words.now a.z c.requires in
    rw c.site_at-cache.ensures
    (site-area (length a.words.now) a.z R.ranged R.fits a.o (omega arith))

pub returns : goal.returns
returns c =
    let a = c.args in
    cause-none a.words.now a.z a.o a.number c.requires (omega arith) (omega arith)
    (omega (arith, c.if-number-count_with.false, counted (goal.at.returns c).After-count_with))
