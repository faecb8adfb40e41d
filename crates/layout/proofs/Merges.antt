-- The stores of a loop as one, and versions that are not held.
-- put-table, put-window, put-part: the stores of a loop as one store.
-- unheld-is: a version of zero words.
-- Assumes nothing.
use mathlib.Core.Path.{◌≡◌, refl, sym, ap, ◌∙◌, fun_ext}
use mathlib.Core.Bool.{Bool, false, not, So}
use mathlib.Core.Logic.{◌⊎◌, inl, inr, ⊎_elim}
use mathlib.Core.List.{List, [], ◌∷◌, ◌++◌}
use Prim.Native.Nat.{ℕ, zero, suc, ◌+◌, ◌≤◌, ◌<◌}
use native.Mathlib.Nat.{add-zero}
use native.Mathlib.Numerals.{add-one}
use native.Mathlib.Omega.{arith}
use lib.Dec.{eqb}
use lib.ListN.{length, get_or, set, length-append}
use lib.Seq.{sets}
use Rattle.words.specs.Words.{put}
use Rattle.words.specs.Lists.{window}
use Rattle.words.proofs.Bools.{and_left, and_right, not_elim, eqb-eq}
use Rattle.words.proofs.Tests.{below_or_not, all-at}
use Rattle.words.proofs.Lists.{window-add}
use Rattle.words.proofs.Words.{put_in, put_same}
use Rattle.clock.specs.Clock.{present}
use Rattle.clock.proofs.Order.{absent}
use Rattle.sizes.specs.declared.Counts.{Counts}
use Rattle.model.specs.Version.{Version, unheld, held}
use Rattle.model.specs.Form.{zero_rows, zero_version}
use Rattle.model.proofs.Merges.{version-path, unheld-issue}
use Rattle.layout.proofs.Codec.{Laws}
use Rattle.layout.proofs.Parts.{FitVersion}
use Rattle.layout.proofs.Fit.{past-out}

-- ---- the stores of a loop as one

-- f 0, .. f (n - 1).
unfoldable pub table : ℕ → (ℕ → ℕ) → List ℕ
table zero f = []
table (suc n) f = table n f ++ (f n ∷ [])

length-table : (n : ℕ) (f : ℕ → ℕ) → length (table n f) ≡ n
unfolding table
length-table zero f = refl
length-table (suc n) f = rw (length-append, length-table n f) (omega arith)

sets-append : (x y l : List ℕ) (at : ℕ) → sets l at (x ++ y) ≡ sets (sets l at x) (at + length x) y
sets-append [] y l at = rw (add-zero at)
sets-append (a ∷ x) y l at =
    let e : at + suc (length x) ≡ suc at + length x = omega arith in
    rw e (sets-append x y (set l at a) (suc at))

pub put-table : (l : List ℕ) (at n : ℕ) (f : ℕ → ℕ) → put l at n f ≡ sets l at (table n f)
unfolding put table
put-table l at zero f = refl
put-table l at (suc n) f =
    ap (λ (m : List ℕ). set m (at + n) (f n)) (put-table l at n f)
    ∙ ap (λ (k : ℕ). sets (sets l at (table n f)) (at + k) (f n ∷ [])) (sym (length-table n f))
    ∙ sym (sets-append (table n f) (f n ∷ []) l at)

table-window : (l : List ℕ) (at n : ℕ) → table n (λ i. get_or l (at + i) 0) ≡ window l at n
unfolding table window
table-window l at zero = refl
table-window l at (suc n) =
    ap (λ (t : List ℕ). t ++ (get_or l (at + n) 0 ∷ [])) (table-window l at n)
    ∙ sym (window-add l at n 1) ∙ ap (window l at) (add-one n)

-- Words of another list.
pub put-window : (l m : List ℕ) (at b n : ℕ)
    → put l at n (λ i. get_or m (b + i) 0) ≡ sets l at (window m b n)
put-window l m at b n =
    put-table l at n (λ i. get_or m (b + i) 0) ∙ ap (sets l at) (table-window m b n)

-- Words that a loop stores over a part are those of the part that is read there after it.
pub put-part : {A : Type 0} {v : ℕ} {words : A → List ℕ} {read : List ℕ → ℕ → A} {Fit : A → Type 0}
    (L : Laws v words read Fit) (l : List ℕ) (at : ℕ) (f : ℕ → ℕ) → at + v ≤ length l
    → put l at v f ≡ sets l at (words (read (put l at v f) at))
put-part {A} {v} {words} {read} {Fit} L l at f h =
    let m = put l at v f in
    put_same l at v f (λ i. get_or m (at + i) 0) (λ i k. sym (put_in l at v f i k h))
    ∙ put-window l m at at v ∙ ap (sets l at) (sym (L.round m at))

-- ---- versions that are not held

-- A version of zero words is unheld.
pub unheld-is : (z : Counts) (v : Version) → FitVersion z v → held v ≡ false
    → So (zero_version z v) → v ≡ unheld
unfolding zero_version zero_rows
unheld-is z v F h r =
    version-path (unheld-issue v h) (eqb-eq v.leaders 0 (and_left nobody (zero_rows z v) r))
    (fun_ext (λ d. fun_ext (λ w. zero-at d w)))
  where
    nobody : Bool
    nobody = eqb v.leaders 0

    row : (d : ℕ) → d < z.keys → present z.writers (v.past d) ≡ false
    row d l = not_elim (all-at z.keys (λ d. not (present z.writers (v.past d)))
        (and_right nobody (zero_rows z v) r) d l)

    zero-at : (d w : ℕ) → v.past d w ≡ 0
    zero-at d w =
        ⊎_elim (λ l. ⊎_elim (λ k. absent z.writers (v.past d) (row d l) w k)
        (λ k. past-out z v.past F.past d w (inr k)) (below_or_not w z.writers))
        (λ l. past-out z v.past F.past d w (inl l)) (below_or_not d z.keys)
