-- Laws of `sets`, the store of a list into another from an index on: within one part of the other.
-- Assumes nothing.
use mathlib.Core.Path.{◌≡◌, sym, ap, ◌∙◌, fun_ext}
use mathlib.Core.List.{List, ◌++◌, append_assoc, append-nil}
use Prim.Native.Nat.{ℕ, zero, suc, ◌+◌, ◌*◌, ◌≤◌, ◌<◌}
use native.Mathlib.Omega.{arith}
use native.Mathlib.Nat.{not-suc-le-zero, mul-le-mul_right, le_of_suc-le-suc}
use lib.Dec.{eqb-suc-zero, eqb-zero-suc, eqb-suc-suc}
use lib.ListN.{length, length-append}
use lib.Seq.{sets, sets-eq, take-append-add, drop-append-add, take-append-le, drop-append-le, drop-length}
use Rattle.words.specs.Lists.{blocks, put_at}
use Rattle.words.proofs.Lists.{length-blocks}

pub sets-left : (x a b : List ℕ) (i : ℕ) → i + length x ≤ length a
    → sets (a ++ b) i x ≡ sets a i x ++ b
sets-left x a b i h =
    let l : i + length x ≤ length (a ++ b) = rw length-append (omega arith) in
    sets-eq x (a ++ b) i l
    ∙ rw (take-append-le i a b (omega arith), drop-append-le (i + length x) a b h)
    (simp append_assoc)
    ∙ ap (λ (t : List ℕ). t ++ b) (sym (sets-eq x a i h))

pub sets_behind : (a b x : List ℕ) (i : ℕ) → i + length x ≤ length b
    → sets (a ++ b) (length a + i) x ≡ a ++ sets b i x
sets_behind a b x i h =
    let l : length a + i + length x ≤ length (a ++ b) = rw length-append (omega arith) in
    let z : length a + i + length x ≡ length a + (i + length x) = omega arith in
    sets-eq x (a ++ b) (length a + i) l
    ∙ rw (take-append-add a b i, z, drop-append-add a b (i + length x)) (simp append_assoc)
    ∙ ap (λ (t : List ℕ). a ++ t) (sym (sets-eq x b i h))

pub sets-all : (a x : List ℕ) → length x ≡ length a → sets a 0 x ≡ x
sets-all a x e =
    let z : 0 + length x ≡ length a = omega arith in
    sets-eq x a 0 (omega arith) ∙ rw (z, drop-length a) (append-nil x)

-- A store within one block.
pub sets-blocks : (n v : ℕ) (f : ℕ → List ℕ) → ((i : ℕ) → length (f i) ≡ v)
    → (k i : ℕ) (x : List ℕ) → k < n → i + length x ≤ v
    → sets (blocks n f) (k * v + i) x ≡ blocks n (put_at f k (sets (f k) i x))
unfolding blocks put_at
sets-blocks zero v f h k i x lk le = absurd (not-suc-le-zero lk)
sets-blocks (suc n) v f h zero i x lk le =
    let z : 0 * v + i ≡ i = omega arith in
    rw z (sets-left x (f 0) (blocks n (λ i. f (suc i))) i (omega (arith, h 0))
    ∙ ap (λ (g : ℕ → List ℕ). sets (f 0) i x ++ blocks n g) (fun_ext (λ j. rw (eqb-suc-zero j))))
sets-blocks (suc n) v f h (suc k) i x lk le =
    let rest : ℕ → List ℕ = λ i. f (suc i) in
    let z : suc k * v + i ≡ length (f 0) + (k * v + i) = omega (arith, h 0) in
    let room : k * v + i + length x ≤ length (blocks n rest) =
    rw (length-blocks n v rest (λ i. h (suc i)))
    (omega (arith, mul-le-mul_right v (le_of_suc-le-suc lk))) in
    rw (z, eqb-zero-suc k) (sets_behind (f 0) (blocks n rest) x (k * v + i) room
    ∙ ap (λ (t : List ℕ). f 0 ++ t) (sets-blocks n v rest (λ i. h (suc i)) k i x (omega arith) le
    ∙ ap (blocks n) (fun_ext (λ j. rw (eqb-suc-suc j k)))))

-- A whole block.
pub sets-block : (n v : ℕ) (f : ℕ → List ℕ) → ((i : ℕ) → length (f i) ≡ v)
    → (k : ℕ) (x : List ℕ) → k < n → length x ≡ v
    → sets (blocks n f) (k * v) x ≡ blocks n (put_at f k x)
sets-block n v f h k x lk e =
    let z : k * v ≡ k * v + 0 = omega arith in
    rw (z, sets-blocks n v f h k 0 x lk (omega arith), sets-all (f k) x (e ∙ sym (h k)))
