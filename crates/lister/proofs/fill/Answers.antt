-- `lister::fill` meets its contract: at each turn the lines so far are put. Assumes nothing.
use native.Mathlib.Omega.{arith}
use mathlib.Core.Path.{◌≡◌, refl, ap, ◌∙◌}
use mathlib.Core.Logic.{inl, inr}
use Prim.Native.Nat.{ℕ, ◌-◌}
use Rattle.listing.specs.Lines.{lines_from}
use Rattle.lister.specs.Numbered.{line_count}
use Rattle.listing.proofs.Chunks.{lines_start, lines_next}
use Rattle.lister.proofs.fill.Goals as goal

pub loop-next-init : goal.loop-next-init
loop-next-init c = (refl, refl, refl, refl, refl, omega arith, omega arith, lines_start _)

pub history_line-end-requires : goal.history_line-end-requires
history_line-end-requires c = record {
  line_lt_line_count = (omega arith, omega arith);
  longest_in_bounds = omega arith;
  lent = record {
    store-room = omega arith;
    words-room = omega arith;
    answer-room = omega arith;
  };
}

pub loop-next-preserved : goal.loop-next-preserved
loop-next-preserved c =
    let o = c.loop-next in (
      omega arith,
      omega arith,
      omega arith,
      omega arith,
      omega arith,
      omega arith,
      omega arith,
      lines_next _ o.next o.auto.next o.invariant.7 c.history_line-end.ensures.out_after,
    )

pub returns-then-out-end : goal.returns-then-out-end
returns-then-out-end c =
    let o = c.loop-next in
    record {
      line_le_next = (omega arith, omega arith, omega arith);
      out_after = o.invariant.7;
      end_bound = omega arith;
      fact = inr (omega arith);
    }

pub returns : goal.returns
returns c =
    let o = c.loop-next in
    let e : o.next ≡ line_count = omega arith in
    record {
      line_le_next = (omega arith, omega arith, omega arith);
      out_after = o.invariant.7
          ∙ ap (λ (n : ℕ). lines_from c.args.line (n - c.args.line)) e;
      end_bound = omega arith;
      fact = inl (omega arith);
    }
