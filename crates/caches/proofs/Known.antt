-- What fetch and evict share: a site and a key, and a place that holds the key or not.
-- inside: both are in range. keyed-..: what a call comes to by two tests of its cause.
-- one-..: the set of one key.
-- Assumes nothing.
use mathlib.Core.Path.{◌≡◌, refl, ◌∙◌, fun_ext}
use mathlib.Core.Bool.{Bool, true, false, not, So, ◌||◌}
use mathlib.Core.List.{List, [], ◌∷◌}
use Prim.Native.Nat.{ℕ, ◌+◌, ◌^◌, ◌<◌}
use native.Mathlib.Omega.{arith}
use lib.Dec.{leb}
use lib.Pow.{pow_pos}
use Rattle.words.specs.Tests.{only}
use Rattle.words.proofs.Bools.{or-none, leb-gt}
use Rattle.masks.specs.Mask.{test_bit, with_bit}
use Rattle.masks.proofs.Bits.{test-with, test-none, with-lt}
use Rattle.sizes.specs.declared.Counts.{Counts}
use Rattle.model.specs.Outcome.{Outcome, refuse, unless}
use Rattle.model.specs.Calls.{StoreCall, rule_of}
use Rattle.layout.specs.Reading.{store_of}
use Rattle.layout.specs.Buffer.{in_form}
use Rattle.layout.specs.Calls.{on, call_on}
use Rattle.layout.proofs.Forms.{form-done}
use Rattle.form.proofs.Known.{Ends, ends-refused}
use Rattle.caches.specs.Range.{out_of_range_of}

-- ---- a site and a key

pub inside : (z : Counts) (o k : ℕ) → out_of_range_of z o k ≡ false → (o < z.sites) × (k < z.keys)
inside z o k e =
    let r = or-none (leb z.sites o) (leb z.keys k) e in
    (leb-gt z.sites o r.0, leb-gt z.keys k r.1)

-- What is asked behind the range is asked in range alone.
pub range-cause : (z : Counts) (o k n m : ℕ) → (out_of_range_of z o k ≡ false → n ≡ m)
    → refuse (leb z.sites o) 3 (refuse (leb z.keys k) 3 n) ≡ refuse (out_of_range_of z o k) 3 m
unfolding refuse
range-cause z o k n m same = go (leb z.sites o) (leb z.keys k) same
  where
    go : (a b : Bool) → (a || b ≡ false → n ≡ m)
        → refuse a 3 (refuse b 3 n) ≡ refuse (a || b) 3 m
    go true b e = refl
    go false true e = refl
    go false false e = e refl

-- ---- a call refused out_of_range_of of the range (out), or for a key that isn't held (has)

unfoldable pub key_cause : Bool → Bool → ℕ → ℕ
key_cause out has n = refuse out 3 (refuse (not has) n 0)

module _ (c : StoreCall) (l : List ℕ) (F : So (in_form l)) (out has : Bool) (n : ℕ) (x : Outcome)
    (rule : rule_of c (store_of l) ≡ unless (key_cause out has (1 + n)) x) where
  pub keyed-out : out ≡ true → Ends c l (2 ∷ 3 ∷ []) l
  unfolding key_cause refuse
  keyed-out p = ends-refused c l 3 x F (rw p at rule) (omega arith)

  pub keyed-lacks : out ≡ false → has ≡ false → Ends c l (2 ∷ (1 + n) ∷ []) l
  unfolding key_cause refuse
  keyed-lacks p q = ends-refused c l (1 + n) x F (rw (p, q) at rule) (omega arith)

  pub keyed-free : out ≡ false → has ≡ true → call_on (on c) l ≡ x
  unfolding key_cause refuse
  keyed-free p q = form-done c l 0 x F (rw (p, q) at rule) refl

-- ---- one key

pub one_key : (k : ℕ) → test_bit (with_bit 0 k) ≡ only k
unfolding only
one_key k = fun_ext (λ j. test-with 0 k j ∙ rw (test-none j))

pub one-low : (K k m : ℕ) → k < K → m ≡ with_bit 0 k → m < 2 ^ K
one-low K k m h e = rw e (with-lt 0 k K (pow_pos K) h)
