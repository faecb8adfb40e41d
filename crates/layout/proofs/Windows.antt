-- A part written at any index of a buffer: read back there, and unchanged beside.
-- window-..: words after a store. part-..: any kind of part with laws. part-over: stored twice.
-- part-fold: the turns of a loop on a part are turns on what it stands for.
-- Assumes nothing.
use mathlib.Core.Path.{◌≡◌, refl, sym, ap, ap₂, ◌∙◌}
use mathlib.Core.Logic.{◌⊎◌, inl, inr, ⊎_elim}
use mathlib.Core.List.{List, [], ◌∷◌, ◌++◌, append_assoc}
use Prim.Native.Nat.{ℕ, zero, suc, ◌+◌, ◌≤◌, ◌<◌}
use native.Mathlib.Nat.{add-zero}
use native.Mathlib.Numerals.{add-one}
use native.Mathlib.Omega.{arith}
use lib.ListN.{length, get_or, take, drop, set, length-append}
use lib.Seq.{sets, sets-eq, get_or-set_other, get_or-append-add, set-get_or, length-take-le}
use Rattle.words.specs.Numbers.{fold_below}
use Rattle.words.specs.Lists.{window}
use Rattle.words.proofs.Numbers.{fold-keeps}
use Rattle.words.proofs.Lists.{window-front}
use Rattle.words.proofs.Stores.{sets-left, sets_behind, sets-all}
use Rattle.layout.proofs.Codec.{Laws}

-- ---- windows of a buffer that was stored to

sets-beside : (x l : List ℕ) (at j : ℕ) → (j < at) ⊎ (at + length x ≤ j)
    → get_or (sets l at x) j 0 ≡ get_or l j 0
sets-beside [] l at j h = refl
sets-beside (a ∷ x) l at j h =
    sets-beside x (set l at a) (suc at) j
    (⊎_elim (λ u. inl (omega arith)) (λ u. inr (omega arith)) h)
    ∙ get_or-set_other l at j a 0 (⊎_elim (λ u. (λ e. omega arith)) (λ u. (λ e. omega arith)) h)

pub window-beside : (l x : List ℕ) (at b n : ℕ) → (b + n ≤ at) ⊎ (at + length x ≤ b)
    → window (sets l at x) b n ≡ window l b n
unfolding window
window-beside l x at b zero h = refl
window-beside l x at b (suc n) h =
    ap₂ ◌∷◌
    (sets-beside x l at b (⊎_elim (λ u. inl (omega arith)) (λ u. inr (omega arith)) h))
    (window-beside l x at (b + 1) n
    (⊎_elim (λ u. inl (omega arith)) (λ u. inr (omega arith)) h))

window-behind : (a l : List ℕ) (at i n : ℕ) → length a ≡ at
    → window (a ++ l) (at + i) n ≡ window l i n
unfolding window
window-behind a l at i zero e = refl
window-behind a l at i (suc n) e =
    let f : at + i + 1 ≡ at + (i + 1) = omega arith in
    ap₂ ◌∷◌ (rw (← e) (get_or-append-add a l i 0)) (rw f (window-behind a l at (i + 1) n e))

pub window-stored : (l x : List ℕ) (at : ℕ) → at + length x ≤ length l
    → window (sets l at x) at (length x) ≡ x
window-stored l x at h =
    let rest = drop (at + length x) l in
    rw (sets-eq x l at h, append_assoc)
    (ap (λ (j : ℕ). window (take at l ++ (x ++ rest)) j (length x)) (sym (add-zero at))
    ∙ window-behind (take at l) (x ++ rest) at 0 (length x) (length-take-le at l (omega arith))
    ∙ window-front x rest (length x) refl)

pub window-again : (l : List ℕ) (at n : ℕ) → sets l at (window l at n) ≡ l
unfolding window
window-again l at zero = refl
window-again l at (suc n) =
    ap (λ (m : List ℕ). sets m (suc at) (window l (at + 1) n)) (set-get_or l at 0)
    ∙ ap (λ (j : ℕ). sets l j (window l (at + 1) n)) (sym (add-one at))
    ∙ window-again l (at + 1) n

-- ---- any part

module _ {A : Type 0} {v : ℕ} {words : A → List ℕ} {read : List ℕ → ℕ → A} {Fit : A → Type 0}
    (L : Laws v words read Fit) where
  pub part-back : (l : List ℕ) (at : ℕ) (a : A) → Fit a → at + v ≤ length l
      → read (sets l at (words a)) at ≡ a
  part-back l at a F h =
      let m = sets l at (words a) in
      L.same (read m at) a (L.fits m at) F
      (L.round m at
      ∙ rw (← L.long a) (window-stored l (words a) at (omega (arith, L.long a))))

  pub part-beside : (l x : List ℕ) (at b : ℕ) → (b + v ≤ at) ⊎ (at + length x ≤ b)
      → read (sets l at x) b ≡ read l b
  part-beside l x at b h =
      let m = sets l at x in
      L.same (read m b) (read l b) (L.fits m b) (L.fits l b)
      (L.round m b ∙ window-beside l x at b v h ∙ sym (L.round l b))

  -- A part stored as it is.
  pub part-again : (l : List ℕ) (at : ℕ) → sets l at (words (read l at)) ≡ l
  part-again l at = rw (L.round l at) (window-again l at v)

  -- What one store does to a part that another one just wrote.
  pub part-twice : (l : List ℕ) (at i : ℕ) (x : List ℕ) (a b : A)
      → at + v ≤ length l → i + length x ≤ v → sets (words a) i x ≡ words b
      → sets (sets l at (words a)) (at + i) x ≡ sets l at (words b)
  part-twice l at i x a b h j e =
      let p = L.long a in
      let q = L.long b in
      let n : at + length (words a) ≡ at + length (words b) = omega arith in
      let k : length (take at l) ≡ at = length-take-le at l (omega arith) in
      let front = take at l in
      let rest = drop (at + length (words a)) l in
      rw (sets-eq (words a) l at (omega arith), sets-eq (words b) l at (omega arith), ← n, ← e)
      (ap (λ (m : ℕ). sets (front ++ words a ++ rest) (m + i) x) (sym k)
      ∙ sets-left x (front ++ words a) rest (length front + i) (rw length-append (omega arith))
      ∙ ap (λ (m : List ℕ). m ++ rest) (sets_behind front (words a) x i (omega arith)))

-- ---- loops that change one part

-- Turn k stores G k of the buffer over the part, and that is g k of the part.
module _ {A : Type 0} {v : ℕ} {words : A → List ℕ} {read : List ℕ → ℕ → A} {Fit : A → Type 0}
    (L : Laws v words read Fit) (l : List ℕ) (at : ℕ) (h : at + v ≤ length l) where
  pub part-over : (a b : A) → sets (sets l at (words a)) at (words b) ≡ sets l at (words b)
  part-over a b =
      let long = L.long b in
      let same : length (words b) ≡ length (words a) = long ∙ sym (L.long a) in
      ap (λ (j : ℕ). sets (sets l at (words a)) j (words b)) (sym (add-zero at))
      ∙ part-twice L l at 0 (words b) a b h (omega arith) (sets-all (words a) (words b) same)

  module _ (N : ℕ) (G : ℕ → List ℕ → A) (g : ℕ → A → A)
      (f : (k : ℕ) (a : A) → k < N → Fit a → G k (sets l at (words a)) ≡ g k a)
      (keep : (k : ℕ) (a : A) → k < N → Fit a → Fit (g k a)) where
    turn-fits : (n : ℕ) → n ≤ N → Fit (fold_below n g (read l at))
    turn-fits n i =
        fold-keeps Fit n g (λ k a j F. keep k a (omega arith) F) (read l at) (L.fits l at)

    pub part-fold : (n : ℕ) → n ≤ N
        → fold_below n (λ k m. sets m at (words (G k m))) l
        ≡ sets l at (words (fold_below n g (read l at)))
    unfolding fold_below
    part-fold zero i = sym (part-again L l at)
    part-fold (suc n) i =
        let a = fold_below n g (read l at) in
        ap (λ (m : List ℕ). sets m at (words (G n m))) (part-fold n (omega arith))
        ∙ ap (λ (b : A). sets (sets l at (words a)) at (words b))
        (f n a i (turn-fits n (omega arith)))
        ∙ part-over a (g n a)
