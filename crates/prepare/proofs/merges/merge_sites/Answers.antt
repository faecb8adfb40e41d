-- `merge_sites` merges the caches one after the other. The loop's invariant: those passed.
-- Assumes nothing.
use mathlib.Core.Path.{◌≡◌, refl, ap, ◌∙◌}
use Prim.Native.Nat.{ℕ}
use native.Mathlib.Omega.{arith}
use Rattle.layout.specs.Stored.{put_place}
use Rattle.prepare.proofs.Merging.{merged_after, merge-start, merge-lies, merge-turn}
use Rattle.prepare.proofs.merges.merge_sites.Goals as goal

pub loop-o-init : goal.loop-o-init
loop-o-init c =
    let a = c.args in (
      omega arith,
      refl,
      merge-start a.z a.words.now a.snapshot a.sites a.plan c.requires,
    )

pub merge_site-requires : goal.merge_site-requires
merge_site-requires c =
    let a = c.args in
    let lies = merge-lies a.z a.words.now a.snapshot a.sites a.plan c.requires in
    record {
      areas = rw c.loop-o.invariant.1 (lies c.loop-o.o (omega arith));
      o_lt_sites = omega arith;
    }

pub loop-o-preserved : goal.loop-o-preserved
loop-o-preserved c =
    let a = c.args in (
      omega arith,
      c.merge_site.auto.words ∙ c.loop-o.invariant.1,
      merge-turn a.z a.words.now a.snapshot a.sites a.plan c.requires c.loop-o.o
          (omega arith) c.loop-o.words c.loop-o.invariant.2 _ c.merge_site.ensures,
    )

pub returns : goal.returns
returns c =
    let a = c.args in
    let e : c.loop-o.o ≡ a.z.sites = omega arith in
    c.loop-o.invariant.2
    ∙ ap (λ (n : ℕ). put_place a.z a.words.now a.snapshot
    (merged_after a.z a.words.now a.sites a.plan n)) e

pub shape_of-words : goal.shape_of-words
shape_of-words c = c.loop-o.invariant.1
