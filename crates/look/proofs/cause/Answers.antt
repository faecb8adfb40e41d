-- `cause` makes the tests of `look_cause` in their order.
-- Assumes nothing.
-- There is such a kind of place.
-- There is such a place.
-- There is such a key.
-- The last test is left.
use mathlib.Core.Path.{◌≡◌}
use mathlib.Core.Bool.{not}
use Prim.Native.Nat.{◌<◌}
use native.Mathlib.Omega.{arith}
use borrow.Author.Tests.{le-leb, lt-leb, not-true, not-false}
use lib.ListN.{length}
use Rattle.model.specs.Outcome.{refuse}
use Rattle.model.specs.Calls.Look.{look_cause}
use Rattle.layout.specs.Reading.{store_of}
use Rattle.version.specs.Places.{Area}
use Rattle.model.specs.Calls.Look.{look_limit}
use Rattle.look.specs.Places.{place_at}
use Rattle.look.proofs.Answers.{area_in, held_in, cause-in}
use Rattle.std.proofs.Common.{ap}
use Rattle.look.proofs.cause.Goals as goal
use Rattle.look.proofs.cause.Goals.{After-held, Else-limit-i, Else-place-ge-COUNT, Else-z-k}

kind : (c : Else-place-ge-COUNT) → c.args.place < 3
kind c = omega arith

number : (c : Else-limit-i) → let a = c.args in
    a.i < look_limit a.z a.place
number c = rw (← c.limit.ensures) (omega arith)

key : (c : Else-z-k) → let a = c.args in
    a.k < a.z.keys
key c = omega arith

area : (c : Else-z-k) → let a = c.args in
    Area (length a.words.now) a.z (place_at a.z a.place a.i)
area c =
    let a = c.args in
    area_in a.words.now a.z c.requires.counts a.place a.i c.requires.form
    (rw (← c.limit.ensures) (omega arith))

last : (c : After-held)
    → let a = c.args in
    look_cause (store_of a.words.now) a.place a.i a.k
    ≡ refuse (not c.held.result) 8 0
unfolding refuse
last c =
    let a = c.args in
    let few : a.place < 3 = omega arith in
    let inside : a.i < look_limit a.z a.place = rw (← c.limit.ensures) (omega arith) in
    let low : a.k < a.z.keys = omega arith in
    rw (
      cause-in a.words.now a.z c.requires.counts a.place a.i a.k,
      lt-leb _ _ few,
      lt-leb _ _ inside,
      lt-leb _ _ low,
      held_in a.words.now a.z c.requires.counts a.place a.i a.k inside,
      ← c.place_at-at.ensures,
      ← c.held.ensures,
    )

pub returns-then-place-ge-COUNT : goal.returns-then-place-ge-COUNT
unfolding refuse
returns-then-place-ge-COUNT c =
    let a = c.args in
    rw (
      cause-in a.words.now a.z c.requires.counts a.place a.i a.k,
      le-leb 3 a.place (omega arith),
    )

pub returns-then-limit-i : goal.returns-then-limit-i
unfolding refuse
returns-then-limit-i c =
    let a = c.args in
    rw (
      cause-in a.words.now a.z c.requires.counts a.place a.i a.k,
      lt-leb _ _ (kind (goal.at.returns-then-limit-i c).Else-place-ge-COUNT),
      ← c.limit.ensures,
      le-leb c.limit.result a.i (omega arith),
    )

pub returns-then-z-k : goal.returns-then-z-k
unfolding refuse
returns-then-z-k c =
    let a = c.args in
    rw (
      cause-in a.words.now a.z c.requires.counts a.place a.i a.k,
      lt-leb _ _ (kind (goal.at.returns-then-z-k c).Else-place-ge-COUNT),
      lt-leb _ _ (number (goal.at.returns-then-z-k c).Else-limit-i),
      le-leb a.z.keys a.k (omega arith),
    )

pub place_at-at-requires : goal.place_at-at-requires
place_at-at-requires c = record {
  ranged = (area (goal.at.place_at-at-requires c).Else-z-k).ranged;
  i_bound = number (goal.at.place_at-at-requires c).Else-limit-i;
}

pub held-requires : goal.held-requires
held-requires c = record {
  area = rw c.place_at-at.ensures (area (goal.at.held-requires c).Else-z-k);
  k_lt_keys = key (goal.at.held-requires c).Else-z-k;
}

pub returns-then-not-held : goal.returns-then-not-held
unfolding refuse
returns-then-not-held c = rw (
  last (goal.at.returns-then-not-held c).After-held,
  not-true
      c.held.result (ap not c.if-not-held.true),
)

pub returns : goal.returns
unfolding refuse
returns c = rw (
  last (goal.at.returns c).After-held,
  not-false c.held.result (ap not
      c.if-not-held.false),
)
