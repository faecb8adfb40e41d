-- Laws of limits and changes of functions, of blocks and of windows.
-- Assumes nothing.
use mathlib.Core.Path.{◌≡◌, refl, sym, ap, ap₂, ◌∙◌, fun_ext}
use mathlib.Core.Logic.{◌≢◌}
use mathlib.Core.List.{List, ◌∷◌, ◌++◌}
use Prim.Native.Nat.{ℕ, zero, suc, ◌+◌, ◌*◌, ◌≤◌, ◌<◌}
use native.Mathlib.Omega.{arith}
use native.Mathlib.Nat.{zero-add, not-suc-le-zero}
use lib.Dec.{eqb}
use lib.ListN.{length, get_or, take, drop, length-append}
use lib.Seq.{take_at, drop_at, drop-cons}
use Rattle.words.specs.Lists.{blocks, window, upto, put_at}
use Rattle.words.proofs.Bools.{test, lt-ltb, ge-ltb, eqb-eq, eq-eqb, eqb-ne, ne_eqb}

-- ---- limits and changes of functions

pub upto_in {ℓ} : {A : Type ℓ} (n : ℕ) (x : A) (f : ℕ → A) (i : ℕ) → i < n → upto n x f i ≡ f i
unfolding upto
upto_in n x f i h = rw (lt-ltb i n h)

pub upto-out {ℓ} : {A : Type ℓ} (n : ℕ) (x : A) (f : ℕ → A) (i : ℕ) → n ≤ i → upto n x f i ≡ x
unfolding upto
upto-out n x f i h = rw (ge-ltb i n h)

pub put_at_same {ℓ} : {A : Type ℓ} (f : ℕ → A) (i : ℕ) (x : A) → put_at f i x i ≡ x
unfolding put_at
put_at_same f i x = rw (eq-eqb i i refl)

pub put_at_other {ℓ} : {A : Type ℓ} (f : ℕ → A) (i : ℕ) (x : A) (j : ℕ) → j ≢ i
    → put_at f i x j ≡ f j
unfolding put_at
put_at_other f i x j h = rw (ne_eqb j i h)

-- By where it was changed; and the same for two functions, side by side.
pub put_at_cases {ℓ κ} : {A : Type ℓ} (P : A → Type κ) (f : ℕ → A) (i : ℕ) (x : A) (j : ℕ)
    → (j ≡ i → P x) → (j ≢ i → P (f j)) → P (put_at f i x j)
unfolding put_at
put_at_cases P f i x j p q =
    test (eqb j i) (λ y. rw y (p (eqb-eq j i y))) (λ n. rw n (q (eqb-ne j i n)))

pub put_at_both {ℓ κ μ} : {A : Type ℓ} {B : Type κ} (R : A → B → Type μ) (f : ℕ → A) (g : ℕ → B)
    (i : ℕ) (x : A) (y : B) (j : ℕ) → (j ≡ i → R x y) → (j ≢ i → R (f j) (g j))
    → R (put_at f i x j) (put_at g i y j)
unfolding put_at
put_at_both R f g i x y j p q =
    test (eqb j i) (λ e. rw e (p (eqb-eq j i e))) (λ n. rw n (q (eqb-ne j i n)))

-- The value that stands there, put there.
pub put_at_itself {ℓ} : {A : Type ℓ} (f : ℕ → A) (i : ℕ) → put_at f i (f i) ≡ f
put_at_itself f i = fun_ext (λ j. put_at_cases (λ x. x ≡ f j) f i (f i) j (λ e. rw e) (λ _. refl))

-- ---- append

pub append-same : (a b c d : List ℕ) → length a ≡ length c → a ++ b ≡ c ++ d → (a ≡ c) × (b ≡ d)
append-same a b c d e h = (
  sym (take_at a b (length c) e) ∙ ap (take (length c)) h ∙ take_at c d (length c) refl,
  sym (drop_at a b (length c) e) ∙ ap (drop (length c)) h ∙ drop_at c d (length c) refl,
)

-- ---- blocks

pub length-blocks : (n v : ℕ) (f : ℕ → List ℕ) → ((i : ℕ) → length (f i) ≡ v)
    → length (blocks n f) ≡ n * v
unfolding blocks
length-blocks zero v f h = omega arith
length-blocks (suc n) v f h =
    rw (length-append, h 0, length-blocks n v (λ i. f (suc i)) (λ i. h (suc i))) (omega arith)

pub blocks-ext : (n : ℕ) (f g : ℕ → List ℕ) → ((i : ℕ) → i < n → f i ≡ g i)
    → blocks n f ≡ blocks n g
unfolding blocks
blocks-ext zero f g h = refl
blocks-ext (suc n) f g h =
    ap₂ ◌++◌ (h 0 (omega arith))
    (blocks-ext n (λ i. f (suc i)) (λ i. g (suc i)) (λ i l. h (suc i) (omega arith)))

pub blocks-same : (n v : ℕ) (f g : ℕ → List ℕ) → ((i : ℕ) → length (f i) ≡ v)
    → ((i : ℕ) → length (g i) ≡ v) → blocks n f ≡ blocks n g → (i : ℕ) → i < n → f i ≡ g i
unfolding blocks
blocks-same zero v f g hf hg e i l = absurd (not-suc-le-zero l)
blocks-same (suc n) v f g hf hg e zero l =
    (append-same (f 0) _ (g 0) _ (hf 0 ∙ sym (hg 0)) e).0
blocks-same (suc n) v f g hf hg e (suc i) l =
    blocks-same n v (λ i. f (suc i)) (λ i. g (suc i)) (λ i. hf (suc i)) (λ i. hg (suc i))
    (append-same (f 0) _ (g 0) _ (hf 0 ∙ sym (hg 0)) e).1 i (omega arith)

-- ---- windows

pub length-window : (l : List ℕ) (at n : ℕ) → length (window l at n) ≡ n
unfolding window
length-window l at zero = refl
length-window l at (suc n) = ap suc (length-window l (at + 1) n)

pub window-cons : (l : List ℕ) (at n : ℕ)
    → get_or l at 0 ∷ window l (at + 1) n ≡ window l at (1 + n)
unfolding window
window-cons l at n = let e : 1 + n ≡ suc n = omega arith in rw e

pub window-add : (l : List ℕ) (at m n : ℕ)
    → window l at (m + n) ≡ window l at m ++ window l (at + m) n
unfolding window
window-add l at zero n =
    let e : 0 + n ≡ n = omega arith in
    let f : at + 0 ≡ at = omega arith in rw (e, f)
window-add l at (suc m) n =
    let e : suc m + n ≡ suc (m + n) = omega arith in
    let f : at + 1 + m ≡ at + suc m = omega arith in
    rw (e, ← f) (ap (λ (t : List ℕ). get_or l at 0 ∷ t) (window-add l (at + 1) m n))

pub window-blocks : (l : List ℕ) (at n v : ℕ)
    → blocks n (λ i. window l (at + i * v) v) ≡ window l at (n * v)
unfolding blocks window
window-blocks l at zero v = let e : 0 * v ≡ 0 = omega arith in rw e
window-blocks l at (suc n) v =
    let e : suc n * v ≡ v + n * v = omega arith in
    let z : at + 0 * v ≡ at = omega arith in
    rw (e, z) (ap (λ (t : List ℕ). window l at v ++ t)
    (blocks-ext n (λ i. window l (at + suc i * v) v) (λ i. window l (at + v + i * v) v)
    (λ i _. let k : at + suc i * v ≡ at + v + i * v = omega arith in rw k)
    ∙ window-blocks l (at + v) n v)
    ∙ sym (window-add l at v (n * v)))

-- A window, and what is left behind it, is all that is left from its index on.
window-drop : (l : List ℕ) (at n : ℕ) → at + n ≤ length l
    → window l at n ++ drop (at + n) l ≡ drop at l
unfolding window
window-drop l at zero h = let e : at + 0 ≡ at = omega arith in rw e
window-drop l at (suc n) h =
    let e : at + suc n ≡ at + 1 + n = omega arith in
    let f : suc at ≡ at + 1 = omega arith in
    let g : drop at l ≡ get_or l at 0 ∷ drop (at + 1) l =
    rw (← f) (drop-cons l at 0 (omega arith)) in
    rw (e, g) (ap (λ (t : List ℕ). get_or l at 0 ∷ t) (window-drop l (at + 1) n (omega arith)))

pub window-all : (l : List ℕ) (n : ℕ) → n ≤ length l → window l 0 n ++ drop n l ≡ l
window-all l n h =
    ap (λ (j : ℕ). window l 0 n ++ drop j l) (sym (zero-add n)) ∙ window-drop l 0 n (omega arith)

pub window-front : (a b : List ℕ) (n : ℕ) → length a ≡ n → window (a ++ b) 0 n ≡ a
window-front a b n e =
    (append-same (window (a ++ b) 0 n) (drop n (a ++ b)) a b (length-window (a ++ b) 0 n ∙ sym e)
    (window-all (a ++ b) n (rw (length-append) (omega arith)))).0
