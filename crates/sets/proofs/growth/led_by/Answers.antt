-- `led_by` has the keys to which a key of the mask leads. The loop's invariant: it has those to
-- which the keys passed lead.
-- Assumes nothing.
use Rattle.std.proofs.Common.{◌≡◌, ◌∙◌, ap, sym, ℕ, arith}
use Rattle.std.specs.Int.Bits.{or_zero_r}
use Rattle.words.specs.Numbers.{when}
use Rattle.masks.specs.Mask.{mask_below}
use Rattle.sets.proofs.Leads.{led_to, led-start, led-none, led-more}
use Rattle.sets.proofs.growth.led_by.Goals as goal
use Rattle.sets.proofs.growth.led_by.Goals.{then-has, else-has}

pub returns-then-scope-eq0 : goal.returns-then-scope-eq0
returns-then-scope-eq0 g c = λ edge h.
    let a = c.args in
    rw c.if-scope-eq0.true (led-none edge a.keys a.keys a.mask)

pub loop-t-init : goal.loop-t-init
loop-t-init g c = λ edge h. led-start edge c.args.keys c.args.scope c.args.mask

pub loop-t-preserved : goal.loop-t-preserved
unfolding when
loop-t-preserved g c = λ edge h.
    let a = c.args in
    rw (led-more edge a.keys c.loop-t.t a.scope a.mask, ← c.loop-t.invariant edge h)
    (elim c.if-has.branch [
      | then-has w ↦
          rw (← c.has.ensures, w.if-has.true, ← w.without.ensures, ← w.led_from-all.ensures edge h)
          w.all-is
      | else-has w ↦ rw (← c.has.ensures, w.if-has.false) (w.all-is ∙ sym (or_zero_r c.loop-t.all))
    ])

pub returns : goal.returns
returns g c = λ edge h.
    let a = c.args in
    let e : c.loop-t.t ≡ a.keys = omega arith in
    c.loop-t.invariant edge h
    ∙ ap (λ (n : ℕ). mask_below a.keys (led_to edge n a.scope a.mask)) e
