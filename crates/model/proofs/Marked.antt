-- The stale mark of a shelf and a look there.
-- mark-stale: a bit of the mark is the test of that key.
-- stale-look: a bit of the mark is set exactly if the look is answered and doesn't end in 0.
-- Assumes nothing.
use mathlib.Core.Path.{◌≡◌, refl, sym, ap, ◌∙◌}
use mathlib.Core.Bool.{not, So}
use mathlib.Core.Logic.{◌↔◌, ◌≢◌}
use Prim.Native.Nat.{ℕ, ◌<◌}
use native.Mathlib.Omega.{arith}
use Rattle.words.proofs.Bools.{test, clash, and_intro, and_left, and_right, gt-leb}
use Rattle.masks.specs.Mask.{test_bit}
use Rattle.masks.proofs.Sets.{item_of}
use Rattle.clock.specs.declared.Standing.{Standing}
use Rattle.clock.specs.declared.Standing.TheVariants.{Equal, Older, Newer, Rival}
use Rattle.clock.specs.Clock.{standing_number, differing}
use Rattle.clock.proofs.Standings.{differing-not}
use Rattle.model.specs.Version.{Version, held}
use Rattle.model.specs.Marks.{is_stale, stale_mask}
use Rattle.model.specs.Store.{Store}
use Rattle.model.specs.Form.{well_formed}
use Rattle.model.specs.Outcome.{refuse}
use Rattle.model.specs.Calls.Look.{look_place, look_limit, look_standing, look_cause}
use Rattle.model.proofs.Formed.{well-out}

-- A standing that isn't equal has another number than 0.
differs : (x : Standing) → So (differing x) → standing_number x ≢ 0
differs Equal p e = clash p refl
differs Older p e = absurd (omega (arith, e))
differs Newer p e = absurd (omega (arith, e))
differs Rival p e = absurd (omega (arith, e))

module _ (s : Store) (F : So (well_formed s)) (o k : ℕ) (ho : o < s.counts.sites)
    (hk : k < s.counts.keys) where
  -- The version looked at, and its standing.
  abbrev v : Version
  v = look_place s 1 o k

  abbrev st : Standing
  st = look_standing s.counts.writers k v (s.master k)

  pub mark-stale : test_bit (s.site o).stale k
      ≡ is_stale s.counts.writers k ((s.site o).cache k) (s.master k)
  unfolding stale_mask
  mark-stale = item_of s.counts.keys _ _ ((well-out s F).mark o ho) k hk

  -- In range, a look is refused only where the sheet isn't held.
  cause-at : look_cause s 1 o k ≡ refuse (not (held v)) 8 0
  unfolding look_cause look_limit refuse
  cause-at = rw (gt-leb s.counts.sites o ho, gt-leb s.counts.keys k hk)

  pub stale-look : So (test_bit (s.site o).stale k)
      ↔ ((look_cause s 1 o k ≡ 0) × (standing_number st ≢ 0))
  unfolding is_stale look_place look_standing refuse
  stale-look = (
    λ p.
        let q = sym mark-stale ∙ p in
        let h = and_left (held v) (differing st) q in
        (cause-at ∙ rw h refl, differs st (and_right (held v) (differing st) q)),
    λ t.
        let h = test (held v) (λ y. y) (λ n. absurd (eight (sym (cause-at ∙ rw n refl) ∙ t.0))) in
        mark-stale ∙ and_intro h (test (differing st) (λ y. y)
        (λ n. absurd (t.1 (ap standing_number (differing-not st n))))),
  )
    where
      eight : ◌≡◌ {A = ℕ} 8 0 → ⊥
      eight e = absurd (omega (arith, e))
