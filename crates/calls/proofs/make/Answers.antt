-- `make` makes the call of each command. Facts that the search finds have no name here.
-- Assumes nothing.
-- The job words lie in the numbers.
-- And so do the words of a record.
use native.Mathlib.Omega.{arith}
use mathlib.Core.Path.{◌≡◌, refl, subst}
use Prim.Native.Nat.{◌+◌, ◌-◌, ◌≤◌}
use lib.ListN.{length}
use Rattle.command.specs.declared.Command.{Command}
use Rattle.command.specs.Commands.{numbers_end}
use Rattle.calls.specs.Performs.{Made, MadeOf}
use Rattle.calls.proofs.Forms.{does_open, does-audit, made_of}
use Rattle.calls.proofs.make.Goals as goal
use Rattle.calls.proofs.make.Goals.{After-open-arg-1, In-Audit}

inside : (c : After-open-arg-1) → let x = c in
    let a = x.args in
    x.in-Open.i + x.in-Open.n ≤ length a.numbers.now
inside c =
    let x = c in
    let s = x in
    subst (λ (k : Command). numbers_end k ≤ length s.args.numbers.now) x.in-Open.is
    s.requires.command_in_bounds

record-inside : (c : In-Audit) → let x = c in
    let a = x.args in
    x.in-Audit.i + x.in-Audit.n ≤ length a.numbers.now
record-inside c =
    let x = c in
    let s = x in
    subst (λ (k : Command). numbers_end k ≤ length s.args.numbers.now)
    x.in-Audit.is s.requires.command_in_bounds

pub overflow_add-i-in-Audit : goal.overflow_add-i-in-Audit
overflow_add-i-in-Audit c =
    let s = c in
    omega (
      arith,
      record-inside (goal.at.overflow_add-i-in-Audit c).In-Audit,
      s.well_formed.1.1.1.0.0,
    )

pub offset_bounds-numbers-i-in-Audit : goal.offset_bounds-numbers-i-in-Audit
offset_bounds-numbers-i-in-Audit c =
    let s = c in
    omega (
      arith,
      record-inside (goal.at.offset_bounds-numbers-i-in-Audit c).In-Audit,
      s.well_formed.1.1.1.0.0,
    )

pub overflow_add-i : goal.overflow_add-i
overflow_add-i c =
    let s = c in
    omega (arith, inside (goal.at.overflow_add-i c).After-open-arg-1, s.well_formed.1.1.1.0.0)

pub offset_bounds-numbers-i : goal.offset_bounds-numbers-i
offset_bounds-numbers-i c =
    let s = c in
    omega (
      arith,
      inside (goal.at.offset_bounds-numbers-i c).After-open-arg-1,
      s.well_formed.1.1.1.0.0,
    )

pub returns-in-Unread : goal.returns-in-Unread
unfolding Made MadeOf
returns-in-Unread c = rw c.in-Unread.is (refl, refl, refl)

pub returns-in-Open : goal.returns-in-Open
unfolding Made MadeOf
returns-in-Open c =
    let e = c in
    let x = e in
    let i = x.in-Open.i in
    let n = x.in-Open.n in
    let s = x in
    let whole : i + n - i ≡ n = omega arith in
    rw x.in-Open.is
    (does_open _ _ _ _ _ _ _ _ _ whole (e.«open».ensures.does s.requires.answer_room_in_bounds))

pub returns-in-Audit : goal.returns-in-Audit
unfolding Made MadeOf
returns-in-Audit c =
    let e = c in
    let x = e in
    let i = x.in-Audit.i in
    let n = x.in-Audit.n in
    let s = x in
    let whole : i + n - i ≡ n = omega arith in
    rw x.in-Audit.is
    (does-audit _ _ _ _ _ _ _ whole ((e.audit.ensures s.args.store.now).does
    s.requires.answer_room_in_bounds))

pub slice_bounds-open-end : goal.slice_bounds-open-end
slice_bounds-open-end c = omega (arith, inside (goal.at.slice_bounds-open-end c).After-open-arg-1)

pub slice_bounds-audit-end : goal.slice_bounds-audit-end
slice_bounds-audit-end c = omega (arith, record-inside (goal.at.slice_bounds-audit-end c).In-Audit)

pub returns-in-New : goal.returns-in-New
returns-in-New c = search made_of

pub returns-in-Fetch : goal.returns-in-Fetch
returns-in-Fetch c = search made_of

pub returns-in-Evict : goal.returns-in-Evict
returns-in-Evict c = search made_of

pub returns-in-Prepare : goal.returns-in-Prepare
returns-in-Prepare c = search made_of

pub returns-in-Step : goal.returns-in-Step
returns-in-Step c = search made_of

pub returns-in-Issue : goal.returns-in-Issue
returns-in-Issue c = search made_of

pub returns-in-Drop : goal.returns-in-Drop
returns-in-Drop c = search made_of

pub returns-in-Look : goal.returns-in-Look
returns-in-Look c = search made_of

pub returns-in-Explain : goal.returns-in-Explain
returns-in-Explain c = search made_of

pub returns-in-Stale : goal.returns-in-Stale
returns-in-Stale c = search made_of

pub returns-in-Admit : goal.returns-in-Admit
returns-in-Admit c = search made_of

pub returns-in-Allow : goal.returns-in-Allow
returns-in-Allow c = search made_of

pub returns-in-Pick : goal.returns-in-Pick
returns-in-Pick c = search made_of

pub returns-in-Mayhold : goal.returns-in-Mayhold
returns-in-Mayhold c = search made_of

pub returns-in-Maysave : goal.returns-in-Maysave
returns-in-Maysave c = search made_of

pub returns-in-Fork : goal.returns-in-Fork
returns-in-Fork c = search made_of

pub returns-in-Join : goal.returns-in-Join
returns-in-Join c = search made_of

pub returns-in-Forecast : goal.returns-in-Forecast
returns-in-Forecast c = search made_of
