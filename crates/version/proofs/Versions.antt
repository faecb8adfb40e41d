-- A version copied, cleared and merged, word by word.
-- ..-version: the words that a loop stores are those of a version.
-- upto_all, nothing_read: what is read where nothing is.
-- Assumes nothing.
use mathlib.Core.Path.{◌≡◌, refl, sym, ap, ◌∙◌, fun_ext}
use mathlib.Core.Bool.{Bool, true, false, cond}
use mathlib.Core.List.{List, [], ◌∷◌}
use mathlib.Core.Logic.{◌⊎◌, inl, inr, ⊎_elim}
use Prim.Native.Nat.{ℕ, suc, ◌+◌, ◌≤◌, ◌<◌, max}
use native.Mathlib.Omega.{arith}
use lib.Dec.{ltb}
use lib.ListN.{get_or, set}
use lib.Seq.{sets}
use Rattle.words.specs.Words.{put}
use Rattle.words.specs.Lists.{upto}
use Rattle.clock.specs.Clock.{Clock, clock_at}
use Rattle.sizes.specs.declared.Counts.{Counts}
use Rattle.sizes.specs.Bounds.{leaders_offset, past_offset, past_size, version_size, past_row_at, row_at}
use Rattle.model.specs.Version.{unheld, zero_past, merged_leaders, larger, join_pasts}
use Rattle.model.proofs.Merges.{leaders-same}
use Rattle.layout.specs.Words.{version_words}
use Rattle.layout.specs.Reading.{read_word_of, read_clock, read_past_of, read_version}
use Rattle.layout.proofs.Parts.{past-laws, version-laws}
use Rattle.layout.proofs.Pasts.{past_word}
use Rattle.layout.proofs.Merges.{put-window}
use Rattle.layout.proofs.Windows.{part-beside}
use Rattle.layout.specs.Stored.{put_past, put_version}
use Rattle.version.specs.Places.{version_of}

-- The words of a version of any buffer m, stored at an index of l.
pub copy-version : (z : Counts) (l m : List ℕ) (dst src : ℕ)
    → put l dst (version_size z) (λ i. get_or m (src + i) 0)
    ≡ put_version z l dst (read_version z m src)
copy-version z l m dst src =
    put-window l m dst src (version_size z) ∙ ap (sets l dst) (sym ((version-laws z).round m src))

-- A limit to what stands everywhere is none.
pub upto_all : {A : Type 0} (n : ℕ) (x : A) (i : ℕ) → upto n x (λ j. x) i ≡ x
unfolding upto
upto_all n x i = go (ltb i n)
  where
    go : (b : Bool) → cond b x x ≡ x
    go true = refl
    go false = refl

-- A buffer with no words holds nothing.
pub nothing_read : (z : Counts) → read_version z [] 0 ≡ unheld
unfolding read_version read_past_of read_clock
nothing_read z =
    let none : Clock = λ w. 0 in
    let row : upto z.writers 0 none ≡ none = fun_ext (λ w. upto_all z.writers 0 w) in
    let past : upto z.keys none (λ d. upto z.writers 0 none) ≡ zero_past =
    rw row (fun_ext (λ d. upto_all z.keys none d)) in
    λ i. record { issue = 0; leaders = 0; past = past i }

pub clear-version : (z : Counts) (l : List ℕ) (at : ℕ)
    → put l at (version_size z) (λ i. 0) ≡ put_version z l at unheld
clear-version z l at =
    copy-version z l [] at 0 ∙ ap (put_version z l at) (nothing_read z)

-- A count of row d, of a version and of a past.
own-word : (z : Counts) (l : List ℕ) (v d u : ℕ) → d < z.keys → u < z.writers
    → read_past_of z l (v + past_offset) d u ≡ clock_at l (row_at z v d) u
unfolding clock_at row_at
own-word z l v d u h i =
    past_word z l (v + past_offset) d u h i ∙ ap (read_word_of l) (omega arith)

source-word : (z : Counts) (l : List ℕ) (p d u : ℕ) → d < z.keys → u < z.writers
    → read_past_of z l p d u ≡ clock_at l (past_row_at z p d) u
unfolding clock_at past_row_at
source-word z l p d u h i = past_word z l p d u h i ∙ ap (read_word_of l) (omega arith)

-- An issue number, a mask and a past, stored one after the other.
pub put-parts : (z : Counts) (l : List ℕ) (v n m : ℕ) (p : ℕ → Clock)
    → put_past z (set (set l v n) (v + leaders_offset) m) (v + past_offset) p
    ≡ put_version z l v (version_of n m p)
unfolding version_words
put-parts z l v n m p =
    let one : v + 1 ≡ suc v = omega arith in
    let two : v + 2 ≡ suc (suc v) = omega arith in
    rw (one, two)

-- A past that stands behind the first two words of a version, or before it, is as it was.
pub past-kept : (z : Counts) (l : List ℕ) (v n m p : ℕ)
    → (v + past_offset ≤ p) ⊎ (p + past_size z ≤ v)
    → read_past_of z (set (set l v n) (v + leaders_offset) m) p ≡ read_past_of z l p
past-kept z l v n m p h =
    let one : v + 1 ≡ suc v = omega arith in
    rw one (part-beside (past-laws z) l (n ∷ m ∷ []) v p
    (⊎_elim (λ i. inr (omega arith)) (λ i. inl (omega arith)) h))

-- The words of a past of any buffer m, stored at an index of l.
pub copy-past : (z : Counts) (l m : List ℕ) (dst src : ℕ)
    → put l dst (past_size z) (λ i. get_or m (src + i) 0) ≡ put_past z l dst (read_past_of z m src)
copy-past z l m dst src =
    put-window l m dst src (past_size z) ∙ ap (sets l dst) (sym ((past-laws z).round m src))

-- A version stored from its parts, of the past at p.
pub put-version : (z : Counts) (l : List ℕ) (v n m p : ℕ)
    → (v + past_offset ≤ p) ⊎ (p + past_size z ≤ v)
    → let o = set (set l v n) (v + leaders_offset) m in
    put o (v + past_offset) (past_size z) (λ i. get_or o (p + i) 0)
    ≡ put_version z l v (version_of n m (read_past_of z l p))
put-version z l v n m p h =
    let o = set (set l v n) (v + leaders_offset) m in
    copy-past z o o (v + past_offset) p
    ∙ ap (put_past z o (v + past_offset)) (past-kept z l v n m p h)
    ∙ put-parts z l v n m (read_past_of z l p)

-- The larger issue number and the leading writers are stored, then the larger counts: of the
-- version of key k at v, and of the number n, the mask m and the past at p.
pub merge-version : (z : Counts) (k : ℕ) (l : List ℕ) (v n m p : ℕ) → k < z.keys
    → (v + past_offset ≤ p) ⊎ (p + past_size z ≤ v)
    → let lead = merged_leaders z.writers (get_or l (v + leaders_offset) 0)
    (clock_at l (row_at z v k)) m (clock_at l (past_row_at z p k)) in
    let o = set (set l v (max (get_or l v 0) n)) (v + leaders_offset) lead in
    put_past z o (v + past_offset)
    (join_pasts (read_past_of z o (v + past_offset)) (read_past_of z o p))
    ≡ put_version z l v (larger z.writers k (read_version z l v)
    (version_of n m (read_past_of z l p)))
unfolding read_version larger
merge-version z k l v n m p hk h =
    let x = max (get_or l v 0) n in
    let mine = get_or l (v + leaders_offset) 0 in
    let lead = merged_leaders z.writers mine (clock_at l (row_at z v k)) m
    (clock_at l (past_row_at z p k)) in
    let own = past-kept z l v x lead (v + past_offset) (inl (omega arith)) in
    let other = past-kept z l v x lead p h in
    let leaders : lead ≡ merged_leaders z.writers mine (read_past_of z l (v + past_offset) k) m
    (read_past_of z l p k) =
    leaders-same z.writers mine m _ _ _ _ (λ u i. sym (own-word z l v k u hk i))
    (λ u i. sym (source-word z l p k u hk i)) in
    rw (own, other)
    (put-parts z l v x lead (join_pasts (read_past_of z l (v + past_offset)) (read_past_of z l p))
    ∙ ap (λ (y : ℕ). put_version z l v (version_of x y
    (join_pasts (read_past_of z l (v + past_offset)) (read_past_of z l p)))) leaders)
