-- `merge_held` finds who leads, stores it behind the larger number, then the larger counts.
-- Assumes nothing.
use mathlib.Core.Path.{◌≡◌, ap, ◌∙◌}
use mathlib.Core.Logic.{inl, inr, ⊎_elim}
use Prim.Native.Nat.{ℕ, ◌+◌, max}
use native.Mathlib.Omega.{arith}
use lib.ListN.{length, get_or, set, length-set}
use Rattle.words.proofs.Orders.{max-by}
use Rattle.clock.specs.Clock.{clock_at}
use Rattle.sizes.specs.Bounds.{version_size, past_row_at, row_at}
use Rattle.sizes.proofs.Offsets.{row_lies, past-row-lies}
use Rattle.model.specs.Version.{merged_leaders}
use Rattle.layout.proofs.Pasts.{row_first}
use Rattle.version.proofs.Versions.{merge-version}
use Rattle.version.proofs.merge.merge_held.Goals as goal

pub bounds-words-dst : goal.bounds-words-dst
unfolding version_size
bounds-words-dst c = omega (arith, c.requires.0.target)

pub merged_leaders-leading-requires : goal.merged_leaders-leading-requires
merged_leaders-leading-requires c =
    let a = c.args in
    let M = c.requires.0 in
    let own = (row_lies a.z a.dst a.k c.requires.1).ends in
    let other = (past-row-lies a.z a.past a.k c.requires.1).ends in
    rw (c.row_at-own.ensures, c.past_row_at-other.ensures)
    (omega (arith, M.ranged), omega (arith, M.target), omega (arith, M.source))

pub version_issue-old-requires : goal.version_issue-old-requires
unfolding version_size
version_issue-old-requires c =
    omega (arith, c.requires.0.target)

pub set_version_issue-requires : goal.set_version_issue-requires
unfolding version_size
set_version_issue-requires c =
    omega (arith, c.requires.0.target)

pub bounds-words-dst-2 : goal.bounds-words-dst-2
unfolding version_size
bounds-words-dst-2 c =
    omega (arith, c.requires.0.target, c.set_version_issue.auto.words)

pub merge_past-requires : goal.merge_past-requires
unfolding version_size
merge_past-requires c =
    let M = c.requires.0 in
    let long : length (set c.set_version_issue.new.words (c.args.dst + 1)
    c.merged_leaders-leading.result) ≡ length c.args.words.now =
    simp length-set c.set_version_issue.auto.words in record {
      ranged = M.ranged;
      apart = rw (long, c.row_at-first.ensures ∙ row_first _ _)
          (record {
            dst_in = omega (arith, M.target);
            src_in = M.source;
            apart = ⊎_elim (λ h. inl (omega arith)) (λ h. inr (omega arith)) M.apart;
          });
    }

pub shape_of-words : goal.shape_of-words
shape_of-words c =
    c.merge_past.auto.words ∙ simp length-set c.set_version_issue.auto.words

pub returns : goal.returns
returns c =
    let a = c.args in
    let l = a.words.now in
    let lead : c.merged_leaders-leading.result ≡ merged_leaders a.z.writers (get_or l (a.dst + 1)
    0)
    (clock_at l (row_at a.z a.dst a.k)) a.leaders
    (clock_at l (past_row_at a.z a.past a.k)) =
    rw (← c.row_at-own.ensures, ← c.past_row_at-other.ensures) c.merged_leaders-leading.ensures in
    let number : ℕ → ℕ = λ n. max n a.number.0 in
    let later = ap (λ k. k.0) c.max-new.ensures
    ∙ max-by (λ k. k.0) c.version_issue-old.result a.number
    ∙ ap number c.version_issue-old.ensures in
    let stored : c.set_version_issue.new.words
    ≡ set l a.dst (max (get_or l a.dst 0) a.number.0) =
    c.set_version_issue.ensures ∙ ap (set l a.dst) later in
    (rw (c.row_at-first.ensures ∙ row_first _ _, stored, lead) at c.merge_past.ensures)
    ∙ merge-version a.z a.k l a.dst a.number.0 a.leaders a.past c.requires.1
    c.requires.0.apart
