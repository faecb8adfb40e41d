-- The copy of a store in the scratch.
-- copied: the words of the store in place of the first.
-- Assumes nothing.
use mathlib.Core.Path.{◌≡◌, sym, ap, ◌∙◌}
use mathlib.Core.List.{List, ◌++◌}
use Prim.Native.Nat.{ℕ, ◌+◌, ◌≤◌}
use native.Mathlib.Omega.{arith}
use lib.ListN.{length, get_or, drop}
use lib.Seq.{sets, sets-eq}
use Rattle.words.specs.Words.{put}
use Rattle.words.specs.Lists.{window}
use Rattle.words.proofs.Lists.{window-front}
use Rattle.sizes.specs.declared.Counts.{Counts}
use Rattle.sizes.specs.Bounds.{total_of}
use Rattle.layout.specs.Words.{store_words}
use Rattle.layout.specs.Reading.{store_of}
use Rattle.layout.specs.Buffer.{written}
use Rattle.layout.proofs.Whole.{store_long, store_kept}
use Rattle.layout.proofs.Merges.{put-window}
use Rattle.form.specs.Parts.{FormWith}
use Rattle.form.proofs.Known.{form-counts, in_shape}

pub copied : (l m : List ℕ) (z : Counts) (n : ℕ) → FormWith l z → n ≡ total_of z → n ≤ length m
    → put m 0 n (λ i. get_or l (0 + i) 0) ≡ written (store_of l) m
unfolding written
copied l m z n H e h =
    let s = store_of l in
    let words = store_words s in
    let long : length words ≡ n = store_long s ∙ rw (form-counts l z H) (sym e) in
    let total : 0 + length words ≡ total_of s.counts = omega (arith, store_long s) in
    let front : window l 0 n ≡ words =
    ap (λ (l : List ℕ). window l 0 n) (sym (store_kept l (in_shape l H.form)))
    ∙ window-front words (drop (total_of s.counts) l) n long in
    put-window m l 0 0 n ∙ ap (sets m 0) front
    ∙ sets-eq words m 0 (omega (arith, long, h))
    ∙ ap (λ (k : ℕ). words ++ drop k m) total
