-- The calls stand in their order: by kind, then by their numbers from the left.
-- Sorted: each before all later ones. calls-sorted: the 26 calls.
-- Assumes nothing.
use mathlib.Core.Path.{refl}
use mathlib.Core.Bool.{Bool, true, false, ◌&&◌, ◌||◌, So, false≢true}
use mathlib.Core.Logic.{inl, inr, ⊎_elim}
use mathlib.Core.List.{List, [], ◌∷◌}
use Prim.Native.Nat.{ℕ, ◌<◌}
use lib.Dec.{eqb, ltb}
use Rattle.words.proofs.Bools.{and_left, and_right, or_cases, ltb-lt, eqb-eq}
use Rattle.model.specs.Calls.{StoreCall}
use Rattle.listing.specs.Scripts.{firsts, rows, AllOf, Lex}
use Rattle.listing.specs.Calls.{calls, kind_of, arguments_of, call_words, CallBefore}

-- Each element stands before all later ones.
unfoldable pub Sorted : {A : Type 0} → (A → A → Type 0) → List A → Type 0
Sorted R [] = Unit {0}
Sorted R (x ∷ xs) = AllOf (R x) xs × Sorted R xs

-- ---- by a test

unfoldable earlier : List ℕ → List ℕ → Bool
earlier [] [] = false
earlier [] (y ∷ ys) = true
earlier (x ∷ xs) [] = false
earlier (x ∷ xs) (y ∷ ys) = ltb x y || (eqb x y && earlier xs ys)

earlier-lex : (a b : List ℕ) → So (earlier a b) → Lex ◌<◌ a b
unfolding earlier Lex
earlier-lex [] [] p = absurd (false≢true p)
earlier-lex [] (y ∷ ys) p = tt
earlier-lex (x ∷ xs) [] p = absurd (false≢true p)
earlier-lex (x ∷ xs) (y ∷ ys) p =
    ⊎_elim (λ h. inl (ltb-lt x y h))
    (λ h. inr (
      eqb-eq x y (and_left (eqb x y) (earlier xs ys) h),
      earlier-lex xs ys (and_right (eqb x y) (earlier xs ys) h),
    ))
    (or_cases (ltb x y) (eqb x y && earlier xs ys) p)

unfoldable all_after_lem : StoreCall → List StoreCall → Bool
all_after_lem c [] = true
all_after_lem c (d ∷ ds) = earlier (call_words c) (call_words d) && all_after_lem c ds

all_after-all : (c : StoreCall) (l : List StoreCall) → So (all_after_lem c l) → AllOf (CallBefore
    c) l
unfolding all_after_lem AllOf CallBefore
all_after-all c [] p = tt
all_after-all c (d ∷ ds) p =
    let a = call_words c in
    let b = call_words d in (
      earlier-lex a b (and_left (earlier a b) (all_after_lem c ds) p),
      all_after-all c ds (and_right (earlier a b) (all_after_lem c ds) p),
    )

unfoldable ordered : List StoreCall → Bool
ordered [] = true
ordered (c ∷ cs) = all_after_lem c cs && ordered cs

ordered-sorted : (l : List StoreCall) → So (ordered l) → Sorted CallBefore l
unfolding ordered Sorted
ordered-sorted [] p = tt
ordered-sorted (c ∷ cs) p = (
  all_after-all c cs (and_left (all_after_lem c cs) (ordered cs) p),
  ordered-sorted cs (and_right (all_after_lem c cs) (ordered cs) p),
)

calls-ordered : So (ordered (calls 2 2 2))
unfolding ordered all_after_lem earlier calls rows firsts kind_of arguments_of
calls-ordered = refl

pub calls-sorted : Sorted CallBefore (calls 2 2 2)
calls-sorted = ordered-sorted (calls 2 2 2) calls-ordered
