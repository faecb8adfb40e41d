-- `next_numbers` raises the two numbers, each below the largest word.
-- Assumes nothing.
use mathlib.Core.Path.{ap, ◌∙◌}
use Prim.Native.Nat.{ℕ, ◌+◌}
use native.Mathlib.Omega.{arith}
use Rattle.numbers.specs.declared.Tally.{Tally}
use Rattle.layout.specs.Reading.{store_of}
use Rattle.issue.proofs.Causes.{raise-free}
use Rattle.issue.proofs.next_numbers.Goals as goal

pub raised-requires : goal.raised-requires
raised-requires c =
    let a = c.args in
    let free = raise-free (store_of a.words.now) a.w c.requires.w_lt_writers.1 in
    let issue = c.numbers_of-old.ensures.issue in
    let count = c.numbers_of-old.ensures.count in
    let x = free.0 in
    let y = free.1 in
    record {
      issue_lt_max_word = omega arith;
      count_lt_max_word = omega arith;
    }

pub returns : goal.returns
returns c =
    record {
      issue = ap (λ (t : Tally). t.issue.0) c.raised.ensures
          ∙ ap (λ (i : ℕ). i + 1) c.numbers_of-old.ensures.issue;
      count = ap (λ (t : Tally). t.count.0) c.raised.ensures
          ∙ ap (λ (i : ℕ). i + 1) c.numbers_of-old.ensures.count;
    }
