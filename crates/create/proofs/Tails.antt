-- The tail of a fresh store: the round, and equal masks in a row.
-- tail-zero: its words where nothing stands. tail-filled: how they are stored. put-tail: the tail
-- stored as a whole.
-- Assumes nothing.
use mathlib.Core.Path.{◌≡◌, refl, sym, ap, ap₂, ◌∙◌}
use mathlib.Core.List.{List, [], ◌∷◌, ◌++◌}
use Prim.Native.Nat.{ℕ, zero, suc, ◌+◌, ◌-◌, ◌<◌, ◌^◌}
use native.Mathlib.Numerals.{add-one}
use native.Mathlib.Omega.{arith}
use lib.ListN.{length, set, replicate, replicate-append-replicate}
use lib.Seq.{sets}
use Rattle.words.specs.Words.{put}
use Rattle.words.specs.Lists.{blocks}
use Rattle.words.proofs.Bools.{lt-ltb}
use Rattle.words.proofs.Lists.{blocks-ext}
use Rattle.words.proofs.Stores.{sets-all}
use Rattle.sizes.specs.declared.Counts.{Counts}
use Rattle.sizes.specs.Bounds.{tail_size, tail_at}
use Rattle.model.specs.Tail.{Tail, no_tail, fresh_tail}
use Rattle.model.specs.Store.{Store, with_tail_of}
use Rattle.layout.specs.Words.{masks_words, tail_words}
use Rattle.layout.specs.Buffer.{written}
use Rattle.layout.proofs.Merges.{table, put-table}
use Rattle.layout.proofs.Tail.{tail-laws}
use Rattle.layout.proofs.Views.{put-area, tail-area}

-- ---- equal words in a row

equal-blocks : (n x : ℕ) → blocks n (λ _. x ∷ []) ≡ replicate n x
unfolding blocks
equal-blocks zero x = refl
equal-blocks (suc n) x = ap (λ (l : List ℕ). x ∷ l) (equal-blocks n x)

equal-table : (n x : ℕ) → table n (λ _. x) ≡ replicate n x
unfolding table
equal-table zero x = refl
equal-table (suc n) x =
    ap (λ (l : List ℕ). l ++ (x ∷ [])) (equal-table n x)
    ∙ replicate-append-replicate n 1 x ∙ ap (λ (k : ℕ). replicate k x) (add-one n)

equal-masks : (n x : ℕ) (f : ℕ → ℕ) → ((i : ℕ) → i < n → f i ≡ x)
    → masks_words n f ≡ replicate n x
unfolding masks_words
equal-masks n x f h =
    blocks-ext n (λ i. f i ∷ []) (λ _. x ∷ []) (λ i l. ap (λ (y : ℕ). y ∷ []) (h i l))
    ∙ equal-blocks n x

-- Both rows of a tail whose masks are equal.
equal-tail : (z : Counts) (t : Tail) (x : ℕ) → ((o : ℕ) → o < z.sites → t.may_hold o ≡ x)
    → ((w : ℕ) → w < z.writers → t.may_save w ≡ x)
    → tail_words z t ≡ t.round ∷ replicate (z.sites + z.writers) x
unfolding tail_words
equal-tail z t x h s =
    ap (λ (l : List ℕ). t.round ∷ l)
    (ap₂ ◌++◌ (equal-masks z.sites x t.may_hold h) (equal-masks z.writers x t.may_save s)
    ∙ replicate-append-replicate z.sites z.writers x)

-- ---- the tail

pub tail-zero : (z : Counts) → tail_words z no_tail ≡ replicate (tail_size z) 0
unfolding tail_size
tail-zero z =
    equal-tail z no_tail 0 (λ o h. refl) (λ w h. refl)
    ∙ replicate-append-replicate 1 (z.sites + z.writers) 0

-- The round is stored, then as many masks of all keys as there are sites and writers.
pub tail-filled : (z : Counts) (l : List ℕ) (at : ℕ)
    → put (set l at (z.runs - 1)) (at + 1) (z.sites + z.writers) (λ _. 2 ^ z.keys - 1)
    ≡ sets l at (tail_words z (fresh_tail z))
tail-filled z l at =
    let n = z.sites + z.writers in
    let x = 2 ^ z.keys - 1 in
    let m = set l at (z.runs - 1) in
    let e = equal-tail z (fresh_tail z) x (λ o h. rw (lt-ltb o z.sites h))
    (λ w h. rw (lt-ltb w z.writers h)) in
    put-table m (at + 1) n (λ _. x)
    ∙ ap₂ (λ (i : ℕ) (t : List ℕ). sets m i t) (add-one at) (equal-table n x)
    ∙ ap (sets l at) (sym e)

pub put-tail : (s : Store) (l : List ℕ) (t : Tail)
    → sets (written s l) (tail_at s.counts) (tail_words s.counts t) ≡ written (with_tail_of s t) l
unfolding with_tail_of
put-tail s l t =
    let z = s.counts in
    let L = tail-laws z in
    let old = tail_words z s.tail in
    let new = tail_words z t in
    let same : length new ≡ length old = L.long t ∙ sym (L.long s.tail) in
    let e : tail_at z ≡ tail_at z + 0 = omega arith in
    rw e (put-area (tail-area s l) s.tail t 0 new (omega (arith, same)) (sets-all old new same))
