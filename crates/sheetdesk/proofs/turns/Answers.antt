-- At each turn all bytes so far are served.
use Rattle.std.proofs.Common.{◌≡◌, refl, sym, ◌∙◌, ◌+◌, ◌≤◌, arith, length, take}
use Rattle.words.proofs.Bools.{◌∙˙◌}
use Rattle.script.proofs.Steps.{taken}
use Rattle.script.proofs.Serves.{served-none, served-more}
use Rattle.streams.proofs.Stops.{goes-below}
use Rattle.sheetdesk.proofs.turns.Goals as goal

pub loop-store-init : goal.loop-store-init
loop-store-init g c =
    let bad = c.requires.store_value in
    let i = c.none-input in
    let o = c.none-output in (
      sym bad,
      omega (arith, i.ensures, o.ensures),
      omega (arith, i.ensures),
      rw (i.ensures.0, o.ensures.0) (served-none _ bad _),
    )

pub loop-store-preserved : goal.loop-store-preserved
loop-store-preserved g c =
    let h = c.loop-store in
    let o = h.invariant in
    let m = c.turn-kept in
    let r = m.ensures.reads.0 in
    let w = m.ensures.reads.1 in
    let got = m.result.input.got in
    let count = m.result.output.count in
    let on = c.goes_on.ensures ∙˙ c.loop-store-test.true in
    let below = (goes-below h.kept.input h.kept.output on).1 in
    let room : got ≤ 1024 =
    omega (arith, r.front, m.auto.chunk, h.auto.chunk, c.requires.out_room_in_bounds) in (
      m.ensures.ready_value_2,
      omega (arith, r.all, w.all, m.ensures.count_bound, o.1),
      omega (arith, r.all, room, below),
      served-more _ c.requires.store_value (take got m.new.chunk) (take count m.new.out) o.3
          m.ensures.out_after refl
          (r.all ∙ omega (arith, taken got m.new.chunk r.front))
          (w.all ∙ omega (arith, taken count m.new.out w.front)),
    )
