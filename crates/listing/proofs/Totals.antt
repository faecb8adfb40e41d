-- Of two calls in range that differ one is before the other, and so of two scripts.
-- call-total, before-total.
-- Assumes nothing.
use mathlib.Core.Path.{◌≡◌, refl, sym, ap, ap₂, ◌∙◌}
use mathlib.Core.Bool.{cond}
use mathlib.Core.Logic.{◌⊎◌, inl, inr}
use mathlib.Core.List.{List, [], ◌∷◌}
use Prim.Native.Nat.{ℕ, ◌<◌}
use native.Mathlib.Omega.{arith}
use native.Mathlib.Decide.{dec_lt}
use lib.Dec.{eqb}
use lib.ListN.{length, get_or, drop}
use Rattle.model.specs.Calls.{StoreCall, open_run, fetch, evict, prepare, step, issue, drop_run, allow, pick, mayhold, maysave, fork, join, ask}
use Rattle.listing.specs.Scripts.{AllOf, Lex}
use Rattle.listing.specs.Calls.{InRange, kind_of, arguments_of, CallBefore, Before}

-- Before, the same, or after.
abbrev pub Compared : {A : Type 0} → (A → A → Type 0) → A → A → Type 0
Compared R x y = R x y ⊎ ((x ≡ y) ⊎ R y x)

numbers : (m n : ℕ) → Compared ◌<◌ m n
numbers m n =
    elim (dec_lt m n) [
      | yes h ↦ inl h
      | no h ↦ elim (dec_lt n m) [ yes k ↦ inr (inr k) | no k ↦ inr (inl (omega arith)) ]
    ]

pub lex-total : {A : Type 0} (R : A → A → Type 0) (P : A → Type 0)
    → ((x y : A) → P x → P y → Compared R x y) → (a b : List A) → AllOf P a → AllOf P b
    → Compared (Lex R) a b
unfolding Lex AllOf
lex-total R P t [] [] p q = inr (inl refl)
lex-total R P t [] (y ∷ ys) p q = inl tt
lex-total R P t (x ∷ xs) [] p q = inr (inr tt)
lex-total R P t (x ∷ xs) (y ∷ ys) p q =
    go (t x y p.0 q.0) (lex-total R P t xs ys p.1 q.1)
  where
    go : Compared R x y → Compared (Lex R) xs ys → Compared (Lex R) (x ∷ xs) (y ∷ ys)
    go (inl r) c = inl (inl r)
    go (inr (inr r)) c = inr (inr (inl r))
    go (inr (inl e)) (inl r) = inl (inr (e, r))
    go (inr (inl e)) (inr (inl f)) = inr (inl (ap₂ (λ u us. u ∷ us) e f))
    go (inr (inl e)) (inr (inr r)) = inr (inr (inr (sym e, r)))

-- A call in range is known by its kind and its numbers.
unfoldable known : List ℕ → StoreCall
known l =
    cond (eqb (get_or l 0 0) 0) (fetch (get_or l 1 0) (get_or l 2 0))
    (cond (eqb (get_or l 0 0) 1) (evict (get_or l 1 0) (get_or l 2 0))
    (cond (eqb (get_or l 0 0) 2) (open_run (get_or l 1 0) (drop 2 l))
    (cond (eqb (get_or l 0 0) 3) (step (get_or l 1 0) (get_or l 2 0) 0)
    (cond (eqb (get_or l 0 0) 4) (issue (get_or l 1 0) (get_or l 2 0) (get_or l 3 0))
    (drop_run (get_or l 1 0))))))

known-again : (K W N : ℕ) (c : StoreCall) → InRange K W N c → known (kind_of c ∷ arguments_of c) ≡
    c
unfolding known kind_of arguments_of InRange
known-again K W N (open_run r l) p = refl
known-again K W N (fetch o k) p = refl
known-again K W N (evict o k) p = refl
known-again K W N (prepare r) p = absurd p
known-again K W N (step r j n) p = rw p.2
known-again K W N (issue r w S) p = refl
known-again K W N (drop_run r) p = refl
known-again K W N (allow o m) p = absurd p
known-again K W N pick p = absurd p
known-again K W N (mayhold o m) p = absurd p
known-again K W N (maysave w m) p = absurd p
known-again K W N (fork r) p = absurd p
known-again K W N (join r) p = absurd p
known-again K W N (ask q) p = absurd p

anything : (l : List ℕ) → AllOf (λ n. Unit {0}) l
unfolding AllOf
anything [] = tt
anything (n ∷ ns) = (tt, anything ns)

pub call-total : (K W N : ℕ) (c d : StoreCall) → InRange K W N c → InRange K W N d
    → Compared CallBefore c d
unfolding CallBefore
call-total K W N c d p q =
    go (lex-total ◌<◌ (λ n. Unit {0}) (λ m n _ _. numbers m n) a b (anything a) (anything b))
  where
    a : List ℕ
    a = kind_of c ∷ arguments_of c

    b : List ℕ
    b = kind_of d ∷ arguments_of d

    go : Compared (Lex ◌<◌) (kind_of c ∷ arguments_of c) (kind_of d ∷ arguments_of d)
        → Compared CallBefore c d
    go (inl r) = inl r
    go (inr (inl e)) = inr (inl (sym (known-again K W N c p) ∙ ap known e ∙ known-again K W N d q))
    go (inr (inr r)) = inr (inr r)

-- So the listing is in the only order that there is.
pub before-total : (K W N : ℕ) (a b : List StoreCall) → AllOf (InRange K W N) a
    → AllOf (InRange K W N) b → Compared Before a b
unfolding Before
before-total K W N a b p q =
    go (numbers (length a) (length b))
    (lex-total CallBefore (InRange K W N) (call-total K W N) a b p q)
  where
    go : Compared ◌<◌ (length a) (length b) → Compared (Lex CallBefore) a b → Compared Before a b
    go (inl h) c = inl (inl h)
    go (inr (inr h)) c = inr (inr (inl h))
    go (inr (inl e)) (inl r) = inl (inr (e, r))
    go (inr (inl e)) (inr (inl f)) = inr (inl f)
    go (inr (inl e)) (inr (inr r)) = inr (inr (inr (sym e, r)))
