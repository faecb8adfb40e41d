-- Which list is the shortest path: one alone, by what is reached alone.
-- path-unique: no two lists are. path-same: edges from items that aren't reached don't count.
-- Assumes nothing.
use mathlib.Core.Path.{◌≡◌, refl, sym, ap₂, ◌∙◌}
use mathlib.Core.Bool.{false, So}
use mathlib.Core.List.{List, [], ◌∷◌}
use mathlib.Core.Logic.{inl, inr}
use Prim.Native.Nat.{ℕ, ◌<◌}
use native.Mathlib.Omega.{arith}
use native.Mathlib.Decide.{dec_lt}
use lib.ListN.{length}
use Rattle.words.specs.Tests.{Items, Within, any_below}
use Rattle.words.proofs.Bools.{test, same_test, ◌∙˙◌}
use Rattle.reach.specs.Closure.{Closed, closure}
use Rattle.paths.specs.Path.{Onward, Path, Smaller, ShortestPath, shortest_path}
use Rattle.reach.proofs.Closures.{closure-start, closure-closed}
use Rattle.paths.proofs.ShortestPaths.{reaches, path-shortest, path-some, path-none}

-- Of two lists of one length one is smaller, or they are the same.
smaller-or-same : (l m : List ℕ) → length l ≡ length m → ¬ Smaller l m → ¬ Smaller m l → l ≡ m
unfolding Smaller
smaller-or-same [] [] e a b = refl
smaller-or-same [] (y ∷ m) e a b = absurd (omega (arith, e))
smaller-or-same (x ∷ l) [] e a b = absurd (omega (arith, e))
smaller-or-same (x ∷ l) (y ∷ m) e a b =
    let k : x ≡ y = first (dec_lt x y) (dec_lt y x) in
    ap₂ ◌∷◌ k
    (smaller-or-same l m (omega (arith, e)) (λ s. a (inr (k, s))) (λ s. b (inr (sym k, s))))
  where
    first : Dec (x < y) → Dec (y < x) → x ≡ y
    first (yes p) q = absurd (a (inl p))
    first (no p) (yes q) = absurd (b (inl q))
    first (no p) (no q) = omega arith

pub path-unique : (n : ℕ) (edge : ℕ → Items) (start goal : Items) (l m : List ℕ)
    → ShortestPath n edge start goal l → ShortestPath n edge start goal m → l ≡ m
path-unique n edge start goal l m a b =
    let p = a.shortest m b.path in
    let q = b.shortest l a.path in
    smaller-or-same l m (omega (arith, p, q)) (b.smallest l a.path (omega (arith, p, q)))
    (a.smallest m b.path (omega (arith, p, q)))

-- ---- by what is reached

-- A path from members of a set that is closed goes by their edges alone.
module _ (n : ℕ) (e₁ e₂ : ℕ → Items) (s₁ s₂ goal m : Items) (in-set : Within n s₁ m)
    (closed : Closed n e₁ m)
    (edges : (t d : ℕ) → t < n → d < n → So (m t) → So (e₁ t d) → So (e₂ t d))
    (starts : Within n s₁ s₂) where
  onward-over : (t : ℕ) (l : List ℕ) → t < n → So (m t) → Onward n e₁ goal t l
      → Onward n e₂ goal t l
  unfolding Onward
  onward-over t [] i h p = p
  onward-over t (d ∷ l) i h p = (
    p.0,
    edges t d i p.0 h p.1,
    onward-over d l p.0 (closed t d i p.0 h p.1) p.2,
  )

  path-over : (l : List ℕ) → Path n e₁ s₁ goal l → Path n e₂ s₂ goal l
  unfolding Path
  path-over [] p = p
  path-over (t ∷ l) p =
      let i = p.0 in
      (i, starts t i p.1, onward-over t l i (in-set t i p.1) p.2)

-- Edges that agree from what is reached, and starts that agree, have the same shortest path.
pub path-same : (n : ℕ) (e₁ e₂ : ℕ → Items) (s₁ s₂ goal : Items)
    → ((t d : ℕ) → t < n → d < n → So (closure n e₂ s₂ t) → e₁ t d ≡ e₂ t d)
    → ((d : ℕ) → d < n → s₁ d ≡ s₂ d)
    → shortest_path n e₁ s₁ goal ≡ shortest_path n e₂ s₂ goal
path-same n e₁ e₂ s₁ s₂ goal edges starts =
    test (any_below n (reaches n e₂ goal s₂)) some none
  where
    m : Items
    m = closure n e₂ s₂

    one : (l : List ℕ) → Path n e₁ s₁ goal l → Path n e₂ s₂ goal l
    one =
        path-over n e₁ e₂ s₁ s₂ goal m (λ d i p. closure-start n e₂ s₂ d (starts d i ∙˙ p))
        (λ t d i k p q. closure-closed n e₂ s₂ t d i k p (edges t d i k p ∙˙ q))
        (λ t d i k p q. edges t d i k p ∙˙ q) (λ d i p. starts d i ∙˙ p)

    two : (l : List ℕ) → Path n e₂ s₂ goal l → Path n e₁ s₁ goal l
    two =
        path-over n e₂ e₁ s₂ s₁ goal m (λ d i. closure-start n e₂ s₂ d) (closure-closed n e₂ s₂)
        (λ t d i k p q. edges t d i k p ∙ q) (λ d i p. starts d i ∙ p)

    over : ShortestPath n e₂ s₂ goal (shortest_path n e₂ s₂ goal)
        → ShortestPath n e₁ s₁ goal (shortest_path n e₂ s₂ goal)
    over a = record {
      path = two (shortest_path n e₂ s₂ goal) a.path;
      shortest = λ l p. a.shortest l (one l p);
      smallest = λ l p. a.smallest l (one l p);
    }

    same : any_below n (reaches n e₁ goal s₁) ≡ any_below n (reaches n e₂ goal s₂)
    same = same_test
        (λ h. let p = (path-some n e₁ goal s₁).0 h in
        (path-some n e₂ goal s₂).1 (p.0, one p.0 p.1))
        (λ h. let p = (path-some n e₂ goal s₂).0 h in
        (path-some n e₁ goal s₁).1 (p.0, two p.0 p.1))

    some : So (any_below n (reaches n e₂ goal s₂))
        → shortest_path n e₁ s₁ goal ≡ shortest_path n e₂ s₂ goal
    some h =
        path-unique n e₁ s₁ goal (shortest_path n e₁ s₁ goal) (shortest_path n e₂ s₂ goal)
        (path-shortest n e₁ goal s₁ (same ∙ h)) (over (path-shortest n e₂ goal s₂ h))

    none : any_below n (reaches n e₂ goal s₂) ≡ false
        → shortest_path n e₁ s₁ goal ≡ shortest_path n e₂ s₂ goal
    none h = path-none n e₁ goal s₁ (same ∙ h) ∙ sym (path-none n e₂ goal s₂ h)
