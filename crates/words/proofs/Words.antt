-- Laws of `put`: what a store of words leaves, and what it leaves alone.
-- Assumes nothing.
use mathlib.Core.Path.{◌≡◌, refl, sym, ◌∙◌}
use mathlib.Core.List.{List}
use mathlib.Core.Logic.{inl, inr, ⊎_elim}
use Prim.Native.Nat.{ℕ, zero, suc, ◌+◌, ◌-◌, ◌≤◌, ◌<◌}
use native.Mathlib.Omega.{arith}
use native.Mathlib.Nat.{not-suc-le-zero}
use native.Mathlib.Numerals.{add-one}
use lib.ListN.{length, get_or, set, length-set}
use lib.Seq.{ext_get_or, get_or-set_same, get_or-set_other}
use Rattle.words.specs.Words.{put, Apart}
use borrow.Rule.Slice.PartMut.{put_mid}
use Rattle.std.proofs.Common.{rules}
use Rattle.std.proofs.lemmas.List.{places}
use Rattle.words.proofs.Tests.{below-cases, below_or_not}

-- ---- one store after the other

pub put-more : (l : List ℕ) (at : ℕ) (f : ℕ → ℕ) (n : ℕ)
    → put l at (n + 1) f ≡ set (put l at n f) (at + n) (f n)
unfolding put
put-more l at f n = rw add-one

pub length-put : (l : List ℕ) (at n : ℕ) (f : ℕ → ℕ) → length (put l at n f) ≡ length l
unfolding put
length-put l at zero f = refl
length-put l at (suc n) f = length-set (put l at n f) (at + n) (f n) ∙ length-put l at n f

-- Words below the stored ones, behind them, and the stored ones.
pub put_low : (l : List ℕ) (at n : ℕ) (f : ℕ → ℕ) (j : ℕ) → j < at
    → get_or (put l at n f) j 0 ≡ get_or l j 0
unfolding put
put_low l at zero f j h = refl
put_low l at (suc n) f j h =
    get_or-set_other (put l at n f) (at + n) j (f n) 0 (omega arith) ∙ put_low l at n f j h

pub put-high : (l : List ℕ) (at n : ℕ) (f : ℕ → ℕ) (j : ℕ) → at + n ≤ j
    → get_or (put l at n f) j 0 ≡ get_or l j 0
unfolding put
put-high l at zero f j h = refl
put-high l at (suc n) f j h =
    get_or-set_other (put l at n f) (at + n) j (f n) 0 (omega arith)
    ∙ put-high l at n f j (omega arith)

pub put_in : (l : List ℕ) (at n : ℕ) (f : ℕ → ℕ) (i : ℕ) → i < n → at + n ≤ length l
    → get_or (put l at n f) (at + i) 0 ≡ f i
unfolding put
put_in l at zero f i h k = absurd (not-suc-le-zero h)
put_in l at (suc n) f i h k =
    let long = length-put l at n f in
    below-cases i n h
    (λ e. rw e (get_or-set_same (put l at n f) (at + n) (f n) 0 (omega arith)))
    (λ m. get_or-set_other (put l at n f) (at + n) (at + i) (f n) 0 (omega arith)
    ∙ put_in l at n f i m (omega arith))

pub put_same : (l : List ℕ) (at n : ℕ) (f g : ℕ → ℕ) → ((i : ℕ) → i < n → f i ≡ g i)
    → put l at n f ≡ put l at n g
unfolding put
put_same l at zero f g h = refl
put_same l at (suc n) f g h =
    rw (put_same l at n f g (λ i k. h i (omega arith)), h n (omega arith))

-- A turn of a loop that stores: the words after i stores, and the next one.
pub put_step : (l : List ℕ) (at i : ℕ) (f : ℕ → ℕ) (m : List ℕ) (x : ℕ) → m ≡ put l at i f
    → x ≡ f i → set m (at + i) x ≡ put l at (i + 1) f
put_step l at i f m x e q = rw (put-more l at f i, ← e, ← q)

-- What such a loop reads at src, before it has come there.
pub put-read : (l : List ℕ) (dst src n i : ℕ) (f : ℕ → ℕ) → Apart (length l) dst src n → i < n
    → get_or (put l dst i f) (src + i) 0 ≡ get_or l (src + i) 0
put-read l dst src n i f A h =
    ⊎_elim (λ k. put-high l dst i f (src + i) (omega arith))
    (λ k. put_low l dst i f (src + i) (omega arith)) A.apart

-- ---- by std's methods on a part of the words

-- A list as long as l, with f 0, f 1, .. from index at on, and as l before and behind.
pub put-is : (l : List ℕ) (at n : ℕ) (f : ℕ → ℕ) (m : List ℕ) → at + n ≤ length l
    → length m ≡ length l
    → ((i : ℕ) → i < n → get_or m (at + i) 0 ≡ f i)
    → ((j : ℕ) → j < at → get_or m j 0 ≡ get_or l j 0)
    → ((j : ℕ) → at + n ≤ j → get_or m j 0 ≡ get_or l j 0) → m ≡ put l at n f
put-is l at n f m h e stored below behind =
    ext_get_or 0 m (put l at n f) (e ∙ sym (length-put l at n f)) (λ j _. each j)
  where
    each : (j : ℕ) → get_or m j 0 ≡ get_or (put l at n f) j 0
    each j =
        elim (below_or_not j at) [
          | inl k ↦ below j k ∙ sym (put_low l at n f j k)
          | inr k ↦
              elim (below_or_not j (at + n)) [
                | inl q ↦
                    let z : j ≡ at + (j - at) = omega arith in
                    rw z (stored (j - at) (omega arith)
                    ∙ sym (put_in l at n f (j - at) (omega arith) h))
                | inr q ↦ behind j q ∙ sym (put-high l at n f j q)
              ]
        ]

-- A store to a part of the words.
pub put-part : (l : List ℕ) (at n : ℕ) (f : ℕ → ℕ) (ys : List ℕ) → at + n ≤ length l
    → length ys ≡ n → ((i : ℕ) → i < n → get_or ys i 0 ≡ f i)
    → put_mid at (at + n - at) l ys ≡ put l at n f
put-part l at n f ys h e stored =
    put-is l at n f (put_mid at (at + n - at) l ys) h (search (rules, places))
    (λ i k. (search (rules, places)) ∙ stored i k)
    (λ j k. search (rules, places)) (λ j k. search (rules, places))
