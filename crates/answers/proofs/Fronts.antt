-- Words laid over the front of a list.
-- over-one, -two, -four: some of them stored one by one. over-more: further words behind them;
-- over_last: one.
-- over-length, over-front: the list after it.
-- Assumes nothing.
use mathlib.Core.Path.{◌≡◌, refl, sym, ap, ap₂, ◌∙◌}
use mathlib.Core.List.{List, [], ◌∷◌, ◌++◌}
use Prim.Native.Nat.{ℕ, ◌+◌, ◌≤◌, ◌<◌}
use native.Mathlib.Omega.{arith}
use lib.ListN.{length, take, drop, set, length-append, length-drop}
use lib.Seq.{sets, sets-eq, take-append_seam, drop-append-add, drop-drop}
use Rattle.answers.specs.Answers.{over}

pub over-one : (l : List ℕ) (a : ℕ) → 1 ≤ length l → set l 0 a ≡ over (a ∷ []) l
unfolding over
over-one [] a h = absurd (omega arith)
over-one (x ∷ l) a h = refl

pub over-two : (l : List ℕ) (a b : ℕ) → 2 ≤ length l → set (set l 0 a) 1 b ≡ over (a ∷ b ∷ []) l
unfolding over
over-two [] a b h = absurd (omega arith)
over-two (x ∷ []) a b h = absurd (omega arith)
over-two (x ∷ y ∷ l) a b h = refl

pub over-four : (l : List ℕ) (a b c d : ℕ) → 4 ≤ length l
    → set (set (set (set l 0 a) 1 b) 2 c) 3 d ≡ over (a ∷ b ∷ c ∷ d ∷ []) l
unfolding over
over-four [] a b c d h = absurd (omega arith)
over-four (x ∷ []) a b c d h = absurd (omega arith)
over-four (x ∷ y ∷ []) a b c d h = absurd (omega arith)
over-four (x ∷ y ∷ u ∷ []) a b c d h = absurd (omega arith)
over-four (x ∷ y ∷ u ∷ v ∷ l) a b c d h = refl

pub over-length : (ws l : List ℕ) → length ws ≤ length l → length (over ws l) ≡ length l
unfolding over
over-length ws l h =
    let e = length-append ws (drop (length ws) l) in
    let d = length-drop (length ws) l in
    omega (arith, e, d)

pub over-front : (ws l : List ℕ) → take (length ws) (over ws l) ≡ ws
unfolding over
over-front ws l = take-append_seam ws (drop (length ws) l)

pub over-more : (ws vs l : List ℕ) → length ws + length vs ≤ length l
    → sets (over ws l) (length ws) vs ≡ over (ws ++ vs) l
unfolding over
over-more ws vs l h =
    let n = length ws in
    let m = length vs in
    let long : length (over ws l) ≡ length l = over-length ws l (omega arith) in
    let rest : drop (n + m) (over ws l) ≡ drop (length (ws ++ vs)) l =
    drop-append-add ws (drop n l) m ∙ drop-drop m n l
    ∙ ap (λ (k : ℕ). drop k l) (sym (length-append ws vs)) in
    sets-eq vs (over ws l) n (omega (arith, long))
    ∙ ap₂ (λ (a b : List ℕ). a ++ vs ++ b) (over-front ws l) rest

pub over_last : (ws l : List ℕ) (i x : ℕ) → i ≡ length ws → length ws < length l
    → set (over ws l) i x ≡ over (ws ++ x ∷ []) l
over_last ws l i x e h = rw e (over-more ws (x ∷ []) l (omega arith))
