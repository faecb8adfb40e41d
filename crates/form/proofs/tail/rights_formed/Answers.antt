-- `rights_formed` answers whether each mask has only keys.
-- Assumes nothing.
use Rattle.std.proofs.Common.{rules, sym, ap, ◌∙◌, ℕ, ltb, ◌^◌}
use Rattle.words.proofs.Ranges.{all-range}
use Rattle.model.specs.Form.{rights_formed}
use Rattle.layout.specs.Reading.{read_masks}
use Rattle.layout.proofs.Readings.{masks-word}
use Rattle.form.proofs.tail.rights_formed.Goals as goal

pub returns : goal.returns
unfolding rights_formed
returns c =
    let a = c.args in
    all-range a.n (λ i. ltb (read_masks a.n a.words.now a.at i) (2 ^ a.z.keys))
    (λ k b q h. (
      search rules,
      λ l. search rules
          ∙ ap (λ (x : ℕ). ltb x (2 ^ a.z.keys)) (sym (masks-word a.n a.words.now a.at k l)),
    )) _
    c.all.ensures.ran
