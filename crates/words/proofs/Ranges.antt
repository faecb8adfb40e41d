-- A test of each number below n by std's `all`, `any` and `find` over a range.
-- all-range, any-range, find-range: what the call answers, for a closure that answers the test.
-- first-found: what `find` says of the first number that passes.
-- position-first: what `position` says over the first words of a list.
-- Assumes nothing.
use mathlib.Core.Path.{◌≡◌, refl, sym, subst, ◌∙◌}
use mathlib.Core.Bool.{So, Bool, true, false}
use Prim.Native.Nat.{ℕ, ◌+◌, ◌≤◌, ◌<◌}
use native.Mathlib.Omega.{arith}
use lib.ListN.{length, get_or, take}
use Rattle.std.proofs.lemmas.List.{get_or-take, length-take}
use denote.Param.Members.{Mut}
use Rattle.std.specs.Bool.{MatchBool}
use Rattle.std.specs.List.{AllWithin, HoldsAt, range_with_len}
use Rattle.std.specs.Fn.{Called, CalledAt}
use Rattle.std.specs.Iterator.{ChecksAll, ChecksAny, FindsItem}
use Rattle.std.specs.Option.{MatchOption, unwrap_or}
use Rattle.std.proofs.Common.{Option, None, Some, Bor, List}
use Rattle.std.specs.declared.ops.Range.{Range}
use Rattle.std.proofs.iter.Yields.{nat_range_steps}
use Rattle.std.proofs.lemmas.Iterator.{cases_from_all, cases_from_any, first_from_find, YieldsList-from_range}
use Rattle.std.proofs.lemmas.List.FromFn.{length-range_with_len, get_or-range_with_len}
use Rattle.words.specs.Tests.{Items, any_below, all_below}
use Rattle.words.specs.Turns.{first_below_of}
use Rattle.words.proofs.Tests.{any-intro, any-no, all-intro, all-no}
use Rattle.words.proofs.Firsts.{first-is, first-none}

-- Item k of a range from 0 is k.
item : (k n : ℕ) → k < n → get_or (range_with_len 0 n) k 0 ≡ k
item k n l = let e : 0 + k ≡ k = omega arith in get_or-range_with_len 0 n k 0 l ∙ e

-- Each item of the range, and some item, as std says it.
abbrev EachItem : (ℕ → Type 0) → ℕ → Type 0
EachItem P n = AllWithin P (range_with_len 0 n) 0 (length (range_with_len 0 n))

abbrev SomeItem : (ℕ → Type 0) → ℕ → Type 0
SomeItem P n =
    (k : ℕ) × (k < length (range_with_len 0 n)) × HoldsAt P (range_with_len 0 n) k

within : (P : ℕ → Type 0) (n : ℕ) → EachItem P n → (k : ℕ) → k < n → P k
within P n h k l =
    subst P (item k n l) (h k 0 (omega arith) (omega (arith, length-range_with_len 0 n)))

found : (P : ℕ → Type 0) (n : ℕ) → SomeItem P n → (k : ℕ) × (k < n) × P k
found P n h =
    let l : h.0 < n = omega (arith, h.1, length-range_with_len 0 n) in
    (h.0, l, subst P (item h.0 n l) (h.2 0))

module _ (n : ℕ) (p : Items) where
  abbrev Passes : ℕ → Type 0
  Passes k = k < n → p k ≡ true

  abbrev Fails : ℕ → Type 0
  Fails k = k < n → p k ≡ false

  module _ {F : Type 0} {g : Mut F (ℕ × Unit {0}) Bool} {u : Range ℕ} {f : F}
      (tells : (k : ℕ) (b : Bool) (q : F) → Called g f (k, tt) b q
      → (q ≡ f) × (k < n → b ≡ p k)) where
    pub all-range : (r : Bool)
        → ChecksAll nat_range_steps g (record { start = 0; end = n }) f r u
        → r ≡ all_below n p
    all-range r h =
        go r
        (cases_from_all u f r Passes Fails h (YieldsList-from_range 0 n n refl (omega arith))
        (λ k q c. ((tells k true q c).0, λ l. sym ((tells k true q c).1 l)))
        (λ k q c l. sym ((tells k false q c).1 l)))
      where
        go : (r : Bool) → MatchBool r (EachItem Passes n) (SomeItem Fails n) → r ≡ all_below n p
        go true w = sym (all-intro n p (λ k l. within Passes n w k l l))
        go false w = let s = found Fails n w in sym (all-no n p s.0 s.1 (s.2 s.1))

    pub any-range : (r : Bool)
        → ChecksAny nat_range_steps g (record { start = 0; end = n }) f r u
        → r ≡ any_below n p
    any-range r h =
        go r
        (cases_from_any u f r Passes Fails h (YieldsList-from_range 0 n n refl (omega arith))
        (λ k q c l. sym ((tells k true q c).1 l))
        (λ k q c. ((tells k false q c).0, λ l. sym ((tells k false q c).1 l))))
      where
        go : (r : Bool) → MatchBool r (SomeItem Passes n) (EachItem Fails n) → r ≡ any_below n p
        go true w = let s = found Passes n w in sym (any-intro n p s.0 s.1 (s.2 s.1))
        go false w = sym (any-no n p (λ k l. within Fails n w k l l))

-- What `find` says: no number below n passes, or the first that does.
abbrev pub Found : ℕ → Items → Option ℕ → Type 0
Found n p r =
    MatchOption r ((i : ℕ) → i < n → p i ≡ false)
    (λ k. (k < n) × So (p k) × ((i : ℕ) → i < k → p i ≡ false))

pub first-found : (n : ℕ) (p : Items) (r : Option ℕ) → Found n p r
    → unwrap_or r n ≡ first_below_of n p
first-found n p None h = sym (first-none n p h)
first-found n p (Some k) h = sym (first-is n p k h.0 h.1 h.2)

module _ {F : Type 0} {g : Mut F (Bor ℕ × Unit {0}) Bool} {f : F} (n : ℕ) (p : Items)
    (tells : (k : ℕ) (b : Bool) (q : F) → CalledAt g f k b q
    → (q ≡ f) × (k < n → b ≡ p k)) where
  pub find-range : (u : Range ℕ) (r : Option ℕ)
      → FindsItem nat_range_steps g (record { start = 0; end = n }) f r u → Found n p r
  find-range u r h =
      go r
      (first_from_find u f r (Passes n p) (Fails n p) h
      (YieldsList-from_range 0 n n refl (omega arith))
      (λ k q c l. sym ((tells k true q c).1 l))
      (λ k q c. ((tells k false q c).0, λ l. sym ((tells k false q c).1 l))))
    where
      go : (r : Option ℕ) → MatchOption r (EachItem (Fails n p) n)
          (λ x. Passes n p x × (i : ℕ) × (i < length (range_with_len 0 n))
          × HoldsAt (λ y. y ≡ x) (range_with_len 0 n) i
          × AllWithin (Fails n p) (range_with_len 0 n) 0 i) → Found n p r
      go None w = λ k l. within (Fails n p) n w k l l
      go (Some x) w =
          let i = w.1 in
          let l : i < n = omega (arith, w.2, length-range_with_len 0 n) in
          let e : x ≡ i = sym (w.3 0) ∙ item i n l in
          let none : (j : ℕ) → j < i → p j ≡ false =
          λ j k. subst (Fails n p) (item j n (omega arith)) (w.4 j 0 (omega arith) k)
          (omega arith) in
          rw e (l, rw (← e) (w.0 (rw e l)), none)

-- By `position` over the first n words: each is tested by what it is.
pub position-first : (l : List ℕ) (n : ℕ) → n ≤ length l → (p : Items) (r : Option ℕ)
    → MatchOption r (AllWithin (λ x. p x ≡ false) (take n l) 0 (length (take n l)))
    (λ i. (i < length (take n l)) × HoldsAt (λ x. p x ≡ true) (take n l) i
    × AllWithin (λ x. p x ≡ false) (take n l) 0 i) → Found n (λ i. p (get_or l i 0)) r
position-first l n h p None w =
    λ i k. subst (λ x. p x ≡ false) (get_or-take n l i 0 k)
    (w i 0 (omega arith) (omega (arith, length-take n l)))
position-first l n h p (Some k) w =
    let low : k < n = omega (arith, w.0, length-take n l) in (
      low,
      subst (λ x. p x ≡ true) (get_or-take n l k 0 low) (w.1 0),
      λ i j. subst (λ x. p x ≡ false) (get_or-take n l i 0 (omega arith))
          (w.2 i 0 (omega arith) j),
    )
