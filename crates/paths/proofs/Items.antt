-- The items of a path, read back.
-- items_back: they are its list.
-- Assumes nothing.
use mathlib.Core.Path.{◌≡◌, refl, sym, ap, ap₂, ◌∙◌}
use mathlib.Core.List.{List, [], ◌∷◌, append-nil}
use Prim.Native.Nat.{ℕ, zero, suc, ◌+◌, ◌≤◌, ◌<◌}
use native.Mathlib.Omega.{arith}
use native.Mathlib.Nat.{zero-add}
use lib.ListN.{length, get_or}
use Rattle.words.specs.Lists.{window}
use Rattle.words.specs.Words.{put}
use Rattle.words.proofs.Lists.{window-front}
use Rattle.words.proofs.Words.{put_in}
use Rattle.paths.specs.Rows.{no_items_of, item_path}

-- Two windows with the same words.
window_same : (l m : List ℕ) (at n : ℕ)
    → ((i : ℕ) → i < n → get_or l (at + i) 0 ≡ get_or m (at + i) 0) → window l at n ≡ window m at n
unfolding window
window_same l m at zero h = refl
window_same l m at (suc n) h =
    let e : at + 0 ≡ at = omega arith in
    let first : get_or l at 0 ≡ get_or m at 0 = rw e at (h 0 (omega arith)) in
    ap₂ (λ (x : ℕ) (t : List ℕ). x ∷ t) first (window_same l m (at + 1) n (λ i k.
    let f : at + suc i ≡ at + 1 + i = omega arith in rw f at (h (suc i) (omega arith))))

pub items_back : (p : List ℕ) → length p ≤ 32 → window (item_path p).items 0 (length p) ≡ p
unfolding item_path no_items_of
items_back p h =
    let f : ℕ → ℕ = λ i. get_or p i 0 in
    window_same (put no_items_of 0 (length p) f) p 0 (length p)
    (λ i k. put_in no_items_of 0 (length p) f i k (omega (arith, h)) ∙ ap f (sym (zero-add i)))
    ∙ ap (λ (l : List ℕ). window l 0 (length p)) (sym (append-nil p))
    ∙ window-front p [] (length p) refl
