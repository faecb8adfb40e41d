-- Laws of the rules by which a set grows, and of the sets that it grows to.
-- rule_ranged, leads-..: a rule. led-..: what the members of a mask lead to.
-- drawn-.., evict-grown: T, C and E.
-- Assumes nothing.
use mathlib.Core.Path.{◌≡◌, refl, sym, ap, ◌∙◌}
use mathlib.Core.Bool.{Bool, true, false, not, ◌&&◌, ◌||◌}
use mathlib.Core.List.{List}
use Prim.Native.Nat.{ℕ, ◌+◌}
use native.Mathlib.Omega.{arith}
use lib.Bits.{bit_or, or_lt}
use Rattle.words.specs.Tests.{Items, any_below}
use Rattle.words.specs.Numbers.{when}
use Rattle.words.proofs.Bools.{and-false-right}
use Rattle.words.proofs.Tests.{any_same, any-more, any-no}
use Rattle.words.proofs.Numbers.{when-le}
use Rattle.masks.specs.Mask.{test_bit, mask_below, without}
use Rattle.masks.proofs.Bits.{test-or, test-none, test-when, test-without}
use Rattle.masks.proofs.Sets.{mask_lt, test-mask, mask-same, mask-no, mask-ext-below}
use Rattle.reach.specs.Closure.{closure, joining}
use Rattle.reach.proofs.Closures.{closure-same}
use Rattle.sizes.specs.declared.Counts.{Counts}
use Rattle.sizes.specs.Bounds.{Ranged}
use Rattle.model.specs.Algebra.{Algebra, Place, everything}
use Rattle.model.specs.Version.{held, dependency, versions}
use Rattle.model.specs.Sets.{draws, draw_set, evict_set}
use Rattle.layout.specs.Reading.{read_place}
use Rattle.sets.specs.declared.View.{View}
use Rattle.sets.specs.declared.growth.Rule.{Rule}
use Rattle.sets.specs.Draws.{viewed, draws_in, evicts_in}
use Rattle.sets.specs.Leads.{RuleArea, led_within}

pub rule_ranged : (len : ℕ) (z : Counts) (rule : Rule) → RuleArea len z rule → Ranged z
unfolding RuleArea
rule_ranged len z (Rule.Draw target source) h = h.target_in.ranged
rule_ranged len z (Rule.Evict at) h = h.ranged

module _ (edge : ℕ → Items) where
  -- A scope without the keys of m.
  pub leads-outside : (scope m t d : ℕ) → led_within (without scope m) edge t d
      ≡ not (test_bit m d) && led_within scope edge t d
  unfolding led_within
  leads-outside scope m t d =
      ap (◌&& edge t d) (test-without scope m d)
      ∙ go (test_bit scope d) (test_bit m d)
    where
      go : (a b : Bool) → (a && not b) && edge t d ≡ not b && (a && edge t d)
      go true true = refl
      go true false = refl
      go false true = refl
      go false false = refl

  -- Key d is one to which a key of the mask, below n, leads.
  abbrev pub led_to : ℕ → ℕ → ℕ → Items
  led_to n scope mask d = any_below n (λ t. test_bit mask t && led_within scope edge t d)

  -- Nothing has been asked,
  pub led-start : (K scope mask : ℕ) → 0 ≡ mask_below K (led_to 0 scope mask)
  unfolding any_below
  led-start K scope mask = sym (mask-no K (led_to 0 scope mask) (λ d _. refl))

  -- or nothing is in the scope.
  pub led-none : (K n mask : ℕ) → 0 ≡ mask_below K (led_to n 0 mask)
  unfolding led_within
  led-none K n mask =
      sym (mask-no K (led_to n 0 mask)
      (λ d _. any-no n (λ t. test_bit mask t && led_within 0 edge t d)
      (λ t _. ap (λ (b : Bool). test_bit mask t && (b && edge t d)) (test-none d)
      ∙ and-false-right (test_bit mask t))))

  -- One key more, which is asked only for what those before it don't lead to.
  pub led-more : (K n scope mask : ℕ) → mask_below K (led_to (n + 1) scope mask)
      ≡ bit_or (mask_below K (led_to n scope mask)) (when (test_bit mask n)
      (mask_below K (led_within (without scope (mask_below K (led_to n scope mask))) edge n)))
  led-more K n scope mask =
      mask-ext-below K (mask_below K (led_to (n + 1) scope mask)) (bit_or all (when b row))
      (mask_lt K (led_to (n + 1) scope mask) K (omega arith))
      (or_lt K all (when b row) (mask_lt K (led_to n scope mask) K (omega arith))
      (omega (arith, when-le b row, mask_lt K next K (omega arith))))
      (λ d i. test-mask K (led_to (n + 1) scope mask) d i
      ∙ any-more (λ t. test_bit mask t && led_within scope edge t d) n
      ∙ rw (
        test-or,
        test-when,
        test-mask K next d i,
        leads-outside scope all n d,
        test-mask K (led_to n scope mask) d i,
      )
      (go (led_to n scope mask d) (test_bit mask n) (led_within scope edge n d)))
    where
      b : Bool
      b = test_bit mask n

      all : ℕ
      all = mask_below K (led_to n scope mask)

      next : Items
      next = led_within (without scope all) edge n

      row : ℕ
      row = mask_below K next

      go : (a b c : Bool) → a || (b && c) ≡ a || (b && (not a && c))
      go true b c = refl
      go false b c = refl

  -- What joins a set, where its scope is without the set.
  pub led-joining : (K scope m f rest r : ℕ) → rest ≡ without scope m
      → r ≡ mask_below K (led_to K rest f)
      → r ≡ mask_below K (joining K (led_within scope edge) (test_bit m) (test_bit f))
  unfolding joining
  led-joining K scope m f rest r o e =
      e ∙ mask-same K (led_to K rest f)
      (λ d. any_below K (λ t. test_bit f t && (not (test_bit m d) && led_within scope edge t d)))
      (λ d _. any_same K (λ t. test_bit f t && led_within rest edge t d)
      (λ t. test_bit f t && (not (test_bit m d) && led_within scope edge t d))
      (λ t _. ap (test_bit f t &&◌) (rw o (leads-outside scope m t d))))

-- ---- T, C and E

-- The set that Draw grows to.
pub drawn-grown : (z : Counts) (l : List ℕ) (target : ℕ) (source : View) (scope start : ℕ)
    → mask_below z.keys (closure z.keys (led_within scope (draws_in z l target source))
    (test_bit start))
    ≡ mask_below z.keys (draw_set (versions z.writers) z.keys (test_bit scope)
    (read_place z l target) (viewed z l source) (test_bit start))
unfolding draw_set draws led_within
drawn-grown z l target source scope start = refl

-- Only held keys are drawn in: they are scope enough.
pub drawn-held : {A : Type 0} (alg : Algebra A) (K : ℕ) (target source : Place A) (start : Items)
    (scope : ℕ) → scope ≡ mask_below K (λ k. alg.held (source k))
    → mask_below K (draw_set alg K (test_bit scope) target source start)
    ≡ mask_below K (draw_set alg K everything target source start)
unfolding draw_set draws
drawn-held alg K target source start scope e =
    mask-same K (draw_set alg K (test_bit scope) target source start)
    (draw_set alg K everything target source start)
    (closure-same K (draws alg K (test_bit scope) target source)
    (draws alg K everything target source) start start
    (λ t d i j. rw (e, test-mask K (λ k. alg.held (source k)) d j)
    (go (alg.held (source d)) (alg.needs t (source t) d)
    (not (alg.meets d (target d) (source t))))) (λ d i. refl))
  where
    go : (a b c : Bool) → a && (b && (c && a)) ≡ b && (c && a)
    go true b c = refl
    go false true true = refl
    go false true false = refl
    go false false c = refl

-- The set that Evict grows to, in the scope of the held keys.
pub evict-grown : (z : Counts) (l : List ℕ) (at scope start : ℕ)
    → scope ≡ mask_below z.keys (λ k. held (read_place z l at k))
    → mask_below z.keys (closure z.keys (led_within scope (evicts_in z l at)) (test_bit start))
    ≡ mask_below z.keys (evict_set (versions z.writers) z.keys (read_place z l at)
    (test_bit start))
unfolding evict_set led_within
evict-grown z l at scope start e =
    let p = read_place z l at in
    let edge = led_within scope (evicts_in z l at) in
    let leaves : ℕ → Items = λ t d. held (p d) && dependency z.writers d (p d) t in
    mask-same z.keys (closure z.keys edge (test_bit start))
    (closure z.keys leaves (test_bit start))
    (closure-same z.keys edge leaves (test_bit start) (test_bit start)
    (λ t d i j. ap (◌&& dependency z.writers d (p d) t)
    (ap (λ (m : ℕ). test_bit m d) e ∙ test-mask z.keys (λ k. held (p k)) d j)) (λ d i. refl))
