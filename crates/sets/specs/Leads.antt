-- The rules by which a set of keys grows.
-- Tells: what a test of two keys answers. led_within: which keys lead to one of a scope.
-- RuleArea: where a rule's places lie. led, leads_to: to which keys a member leads.
-- Assumes nothing.
use Rattle.std.specs.Prelude.{◌≡◌, Bool, ◌&&◌, List, ℕ, ◌<◌}
use Rattle.words.specs.Tests.{Items}
use Rattle.masks.specs.Mask.{test_bit}
use Rattle.sizes.specs.declared.Counts.{Counts}
use Rattle.model.specs.Version.{dependency}
use Rattle.layout.specs.Reading.{read_place}
use Rattle.version.specs.Places.{Area}
use Rattle.sets.specs.declared.growth.Rule.{Rule}
use Rattle.sets.specs.Draws.{DrawArea, draws_in}

-- A test of two keys below n, by what its calls answer, tells whether one leads to the other.
abbrev pub Tells : (ℕ → ℕ → Bool → Type 0) → ℕ → (ℕ → Items) → Type 0
Tells answers n edge = (t d : ℕ) (b : Bool) → t < n → d < n → answers t d b → b ≡ edge t d

-- t leads to d, a key of the scope.
unfoldable pub led_within : ℕ → (ℕ → Items) → ℕ → Items
led_within scope edge t d = test_bit scope d && edge t d

-- The places of a rule, in a buffer of len words.
unfoldable pub RuleArea : ℕ → Counts → Rule → Type 0
RuleArea len z (Rule.Draw target source) = DrawArea len z target source
RuleArea len z (Rule.Evict at) = Area len z at

-- Draw: the source's t draws in d. Evict: the place's d needs t.
unfoldable pub led : Counts → List ℕ → Rule → ℕ → Items
led z l (Rule.Draw target source) t d = draws_in z l target source t d
led z l (Rule.Evict at) t d = dependency z.writers d (read_place z l at d) t

-- The same, to keys of the scope.
unfoldable pub leads_to : Counts → List ℕ → Rule → ℕ → ℕ → Items
leads_to z l rule scope t d = test_bit scope d && led z l rule t d
