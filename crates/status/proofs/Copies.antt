-- Words that a loop stores one by one, as one store.
-- put-zeros: zeros. put-list: the words of a list.
-- sets-front: a list stored over zeros.
-- Assumes nothing.
use mathlib.Core.Path.{◌≡◌, refl, sym, ap, ap₂, ◌∙◌, fun_ext}
use mathlib.Core.List.{List, [], ◌∷◌, ◌++◌, append-nil}
use Prim.Native.Nat.{ℕ, zero, suc, ◌+◌, ◌-◌, ◌≤◌}
use native.Mathlib.Nat.{zero-add}
use native.Mathlib.Omega.{arith}
use lib.ListN.{length, get_or, drop, get_or-eq_default}
use lib.Seq.{sets, sets-eq, drop_at, drop-length}
use Rattle.words.specs.Words.{put}
use Rattle.words.specs.Lists.{window}
use Rattle.words.proofs.Lists.{length-window, window-add, window-all}
use Rattle.layout.proofs.Merges.{put-window}

-- The words of the empty list are zeros.
pub put-zeros : (l : List ℕ) (at n : ℕ) → put l at n (λ _. 0) ≡ sets l at (window [] 0 n)
put-zeros l at n = put-window l [] at 0 n

window-whole : (m : List ℕ) → window m 0 (length m) ≡ m
window-whole m =
    sym (append-nil (window m 0 (length m)))
    ∙ ap (λ (t : List ℕ). window m 0 (length m) ++ t) (sym (drop-length m))
    ∙ window-all m (length m) (omega arith)

pub put-list : (l m : List ℕ) (at : ℕ) → put l at (length m) (λ i. get_or m i 0) ≡ sets l at m
put-list l m at =
    ap (put l at (length m)) (fun_ext (λ i. ap (λ (j : ℕ). get_or m j 0) (sym (zero-add i))))
    ∙ put-window l m at 0 (length m) ∙ ap (sets l at) (window-whole m)

-- ---- a list stored over zeros

past_end : (m : List ℕ) (at b n : ℕ) → length m ≤ at → window m at n ≡ window [] b n
unfolding window
past_end m at b zero h = refl
past_end m at b (suc n) h =
    ap₂ ◌∷◌ (get_or-eq_default m 0 h) (past_end m (at + 1) (b + 1) n (omega arith))

-- It is the front of the list, with zeros behind it.
pub sets-front : (m : List ℕ) (n : ℕ) → length m ≤ n → sets (window [] 0 n) 0 m ≡ window m 0 n
sets-front m n h =
    let d = n - length m in
    let e : n ≡ length m + d = omega arith in
    let zeros = window [] 0 (length m) in
    let rest = window [] (0 + length m) d in
    let long : length (window [] 0 n) ≡ n = length-window [] 0 n in
    let behind : drop (0 + length m) (window [] 0 n) ≡ rest =
    ap (λ (k : ℕ). drop k (window [] 0 n)) (zero-add (length m))
    ∙ ap (λ (k : ℕ). drop (length m) (window [] 0 k)) e
    ∙ ap (drop (length m)) (window-add [] 0 (length m) d)
    ∙ drop_at zeros rest (length m) (length-window [] 0 (length m)) in
    sets-eq m (window [] 0 n) 0 (omega arith)
    ∙ ap₂ ◌++◌ (sym (window-whole m))
    (behind ∙ sym (past_end m (0 + length m) (0 + length m) d (omega arith)))
    ∙ sym (window-add m 0 (length m) d) ∙ ap (window m 0) (sym e)
