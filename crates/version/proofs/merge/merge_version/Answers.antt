-- `merge_version` takes one side as it is where the other isn't held.
-- Assumes nothing.
use mathlib.Core.Path.{◌≡◌, sym, ◌∙◌}
use mathlib.Core.Bool.{false, So}
use native.Mathlib.Omega.{arith}
use Rattle.sizes.specs.Bounds.{version_size}
use Rattle.model.specs.Version.{held}
use Rattle.model.proofs.Merges.{merge-both, merge-unheld-left, merge-unheld-right}
use Rattle.layout.specs.Reading.{read_version}
use Rattle.layout.proofs.Parts.{version-laws}
use Rattle.layout.proofs.Windows.{part-again}
use Rattle.version.proofs.Merged.{version-merged}
use Rattle.version.proofs.merge.merge_version.Goals as goal

pub version_issue-old-requires : goal.version_issue-old-requires
unfolding version_size
version_issue-old-requires c = omega (arith, c.requires.0.target)

pub returns-then-not-is_held : goal.returns-then-not-is_held
unfolding held read_version
returns-then-not-is_held c =
    let a = c.args in
    let blank : held (read_version a.z a.words.now a.dst) ≡ false =
    rw (← c.version_issue-old.ensures) (sym c.is_held.ensures ∙ c.if-not-is_held.true) in
    let r = version-merged a.z a.k a.words.now c.put_version.new.words a.dst a.number.0 a.leaders
    a.past (rw (merge-unheld-left a.z.writers a.k _ _ blank) c.put_version.ensures) in
    record { merges = r.0; frame = r.1.0; same = r.1.1 }

pub returns-then-is_held : goal.returns-then-is_held
unfolding held read_version
returns-then-is_held c =
    let a = c.args in
    let mine : So (held (read_version a.z a.words.now a.dst)) =
    rw (← c.version_issue-old.ensures) (sym c.is_held.ensures ∙ c.if-not-is_held.false) in
    let other = sym c.is_held-2.ensures ∙ c.if-is_held.true in
    let r = version-merged a.z a.k a.words.now c.merge_held.new.words a.dst a.number.0 a.leaders
    a.past (rw (merge-both a.z.writers a.k _ _ mine other) c.merge_held.ensures) in
    record { merges = r.0; frame = r.1.0; same = r.1.1 }

pub returns-else-is_held : goal.returns-else-is_held
unfolding held read_version
returns-else-is_held c =
    let a = c.args in
    let l = a.words.now in
    let mine : So (held (read_version a.z l a.dst)) =
    rw (← c.version_issue-old.ensures) (sym c.is_held.ensures ∙ c.if-not-is_held.false) in
    let other = sym c.is_held-2.ensures ∙ c.if-is_held.false in
    let r = version-merged a.z a.k l l a.dst a.number.0 a.leaders a.past (rw
    (merge-unheld-right a.z.writers a.k _ _ mine other) (sym
    (part-again (version-laws a.z) l a.dst))) in
    record { merges = r.0; frame = r.1.0; same = r.1.1 }
