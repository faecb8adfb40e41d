-- The order of scripts is strict: none is before itself, and it is transitive.
-- lex-..: of the first difference, by any order. call-..: of calls. before-..: of scripts.
-- Assumes nothing.
use mathlib.Core.Path.{sym, subst, ◌∙◌}
use mathlib.Core.Logic.{inl, inr}
use mathlib.Core.List.{List, [], ◌∷◌}
use Prim.Native.Nat.{◌<◌}
use native.Mathlib.Omega.{arith}
use lib.ListN.{length}
use Rattle.model.specs.Calls.{StoreCall}
use Rattle.listing.specs.Scripts.{Lex}
use Rattle.listing.specs.Calls.{kind_of, arguments_of, CallBefore, Before}

-- ---- the first difference decides

pub lex_irrefl : {A : Type 0} (R : A → A → Type 0) → ((x : A) → R x x → ⊥) → (l : List A)
    → Lex R l l → ⊥
unfolding Lex
lex_irrefl R h [] p = p
lex_irrefl R h (x ∷ xs) (inl p) = h x p
lex_irrefl R h (x ∷ xs) (inr p) = lex_irrefl R h xs p.1

pub lex-trans : {A : Type 0} (R : A → A → Type 0)
    → ((x y z : A) → R x y → R y z → R x z) → (a b c : List A) → Lex R a b → Lex R b c → Lex R a c
unfolding Lex
lex-trans R t [] [] c p q = absurd p
lex-trans R t [] (y ∷ ys) [] p q = absurd q
lex-trans R t [] (y ∷ ys) (z ∷ zs) p q = tt
lex-trans R t (x ∷ xs) [] c p q = absurd p
lex-trans R t (x ∷ xs) (y ∷ ys) [] p q = absurd q
lex-trans R t (x ∷ xs) (y ∷ ys) (z ∷ zs) (inl p) (inl q) = inl (t x y z p q)
lex-trans R t (x ∷ xs) (y ∷ ys) (z ∷ zs) (inl p) (inr q) = inl (subst (R x) q.0 p)
lex-trans R t (x ∷ xs) (y ∷ ys) (z ∷ zs) (inr p) (inl q) =
    inl (subst (λ u. R u z) (sym p.0) q)
lex-trans R t (x ∷ xs) (y ∷ ys) (z ∷ zs) (inr p) (inr q) =
    inr (p.0 ∙ q.0, lex-trans R t xs ys zs p.1 q.1)

-- ---- the order is strict

pub call-irrefl : (c : StoreCall) → CallBefore c c → ⊥
unfolding CallBefore
call-irrefl c p = lex_irrefl ◌<◌ (λ n h. omega arith) (kind_of c ∷ arguments_of c) p

pub call-trans : (c d e : StoreCall) → CallBefore c d → CallBefore d e → CallBefore c e
unfolding CallBefore
call-trans c d e p q =
    lex-trans ◌<◌ (λ x y z h k. omega arith) (kind_of c ∷ arguments_of c) (kind_of d ∷
    arguments_of d)
    (kind_of e ∷ arguments_of e) p q

pub before-irrefl : (a : List StoreCall) → Before a a → ⊥
unfolding Before
before-irrefl a (inl p) = omega arith
before-irrefl a (inr p) = lex_irrefl CallBefore call-irrefl a p.1

pub before-trans : (a b c : List StoreCall) → Before a b → Before b c → Before a c
unfolding Before
before-trans a b c (inl p) (inl q) = inl (omega arith)
before-trans a b c (inl p) (inr q) = inl (subst (λ n. length a < n) q.0 p)
before-trans a b c (inr p) (inl q) = inl (subst (λ n. n < length c) (sym p.0) q)
before-trans a b c (inr p) (inr q) =
    inr (p.0 ∙ q.0, lex-trans CallBefore call-trans a b c p.1 q.1)
