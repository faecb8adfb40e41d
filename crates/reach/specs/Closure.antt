-- The least set that holds a start set and is closed under a relation, of items below n.
-- Reach: what is meant. closure: what is computed. Closed, outside.
-- joining, Frontier: a set that grows from those that joined it last.
-- Assumes nothing.
use Rattle.std.specs.Prelude.{◌≡◌, false, not, ◌&&◌, ◌||◌, ℕ, zero, suc, ◌<◌, ◌^◌}
use Rattle.std.proofs.Math.Bool.{So}
use Rattle.words.specs.Tests.{Items, Within, any_below}
use Rattle.words.specs.Numbers.{count_below}
use Rattle.masks.specs.Mask.{test_bit}

-- A member of start, or an item below n to which the relation leads from one that is reached.
pub data Reach (n : ℕ) (edge : ℕ → Items) (start : Items) : ℕ → Type 0 where
  here : {d : ℕ} → d < n → So (start d) → Reach n edge start d
  next : {t d : ℕ} → Reach n edge start t → d < n → So (edge t d) → Reach n edge start d

-- Every item below n to which a member leads is a member.
abbrev pub Closed : ℕ → (ℕ → Items) → Items → Type 0
Closed n edge m = (t d : ℕ) → t < n → d < n → So (m t) → So (edge t d) → So (m d)

-- m and all that its members lead to.
unfoldable pub round : ℕ → (ℕ → Items) → Items → Items
round n edge m d = m d || any_below n (λ t. m t && edge t d)

unfoldable pub rounds : ℕ → ℕ → (ℕ → Items) → Items → Items
rounds zero n edge m = m
rounds (suc f) n edge m = rounds f n edge (round n edge m)

-- The least set: n rounds, each of which adds an item or changes nothing.
unfoldable pub closure : ℕ → (ℕ → Items) → Items → Items
closure n edge start = rounds n n edge start

-- How many items below n are outside of m.
unfoldable pub outside : ℕ → Items → ℕ
outside n m = count_below n (λ i. not (m i))

-- ---- a set that grows, as masks

-- The items outside of m to which a member of f leads.
unfoldable pub joining : ℕ → (ℕ → Items) → Items → Items → Items
joining n edge m f d = any_below n (λ t. f t && (not (m d) && edge t d))

-- A set m of items below n, and its frontier f: only these of m may lead outside of m.
pub record Frontier (n : ℕ) (edge : ℕ → Items) (m f : ℕ) : Type 0 where
  pub below : m < 2 ^ n
  pub within : Within n (test_bit f) (test_bit m)
  pub settled : (t d : ℕ) → t < n → d < n → So (test_bit m t) → test_bit f t ≡ false
      → So (edge t d) → So (test_bit m d)
