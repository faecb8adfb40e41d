-- `put_version` stores number, mask and past, one after the other.
-- Assumes nothing.
use mathlib.Core.Path.{◌≡◌, ◌∙◌}
use mathlib.Core.Logic.{inl, inr, ⊎_elim}
use Prim.Native.Nat.{◌+◌}
use native.Mathlib.Omega.{arith}
use lib.ListN.{length, set, length-set}
use Rattle.sizes.specs.Bounds.{version_size}
use Rattle.layout.proofs.Pasts.{row_first}
use Rattle.version.proofs.Versions.{put-version}
use Rattle.version.proofs.merge.put_version.Goals as goal

pub set_version_issue-requires : goal.set_version_issue-requires
unfolding version_size
set_version_issue-requires c = omega (arith, c.requires.target)

pub bounds-words-dst : goal.bounds-words-dst
unfolding version_size
bounds-words-dst c =
    omega (arith, c.requires.target, c.set_version_issue.auto.words)

pub copy-requires : goal.copy-requires
unfolding version_size
copy-requires c =
    let M = c.requires in
    let long : length (set c.set_version_issue.new.words (c.args.dst + 1) c.args.leaders)
    ≡ length c.args.words.now =
    simp length-set c.set_version_issue.auto.words in
    rw (long, c.row_at-own.ensures ∙ row_first _ _, c.past_size-n.ensures)
    (record {
      dst_in = omega (arith, M.target);
      src_in = M.source;
      apart = ⊎_elim (λ h. inl (omega arith)) (λ h. inr (omega arith)) M.apart;
    })

pub shape_of-words : goal.shape_of-words
shape_of-words c =
    c.copy.auto.words ∙ simp length-set c.set_version_issue.auto.words

pub returns : goal.returns
returns c =
    let a = c.args in
    (rw (c.row_at-own.ensures ∙ row_first _ _, c.past_size-n.ensures, c.set_version_issue.ensures)
    at c.copy.ensures)
    ∙ put-version a.z a.words.now a.dst a.number.0 a.leaders a.past
    c.requires.apart
