-- `keys_read` takes in the key of each read.
-- Assumes nothing.
use Rattle.std.proofs.Common.{rules, arith, refl, ◌+◌, ◌≡◌}
use Rattle.masks.specs.Mask.{with_bit}
use Rattle.records.specs.Format.{first_at, key_of}
use Rattle.audit.proofs.Folding.{folds-keep}
use Rattle.audit.proofs.Rest.{Among, keys-turn, keys-done}
use Rattle.audit.proofs.saves.keys_read.Goals as goal

pub fold_reads-requires : goal.fold_reads-requires
fold_reads-requires c = record { callable = λ x t m. let k = c.requires x m in search rules }

pub returns : goal.returns
returns c =
    let a = c.args.issue in
    let b = a.words.now in
    keys-done _ _ _ _ refl
    (folds-keep _ (λ r m. Among b a.i r m) _ _ _ c.fold_reads.ensures
    (λ s h. absurd (omega arith))
    (λ r s t l k h.
    let u = h.step in
    let p : h.to.now ≡ with_bit h.from.now (key_of b (first_at b a.i + r)) = search rules in
    let q : t ≡ with_bit s (key_of b (first_at b a.i + r)) = rw (h.before, h.after) at p in
    keys-turn b a.i r s _ t k refl q))
