-- A past in the words of a buffer.
-- past_word: one count. past-ext: told by its counts. merge-past: the larger words are the larger
-- counts. set-count: one count stored. row-..: where a row begins in its past.
-- Assumes nothing.
use mathlib.Core.Path.{◌≡◌, sym, ap, ◌∙◌}
use mathlib.Core.List.{List, [], ◌∷◌}
use Prim.Native.Nat.{ℕ, ◌+◌, ◌*◌, ◌≤◌, ◌<◌}
use native.Mathlib.Nat.{mul-one}
use native.Mathlib.Omega.{arith}
use lib.ListN.{length, set}
use lib.Seq.{sets}
use Rattle.words.specs.Words.{put}
use Rattle.words.specs.Lists.{put_at}
use Rattle.words.proofs.Lists.{upto_in, blocks-ext}
use Rattle.words.proofs.Words.{put_in}
use Rattle.words.proofs.Slots.{slot-end}
use Rattle.clock.specs.Clock.{Clock, join, clock_at}
use Rattle.sizes.specs.declared.Counts.{Counts}
use Rattle.sizes.specs.Bounds.{past_size, past_offset, writer_past_offset, row_at, writer_row_at}
use Rattle.model.specs.Version.{join_pasts}
use Rattle.layout.specs.Words.{clock_words, past_words}
use Rattle.layout.specs.Reading.{read_word_of, read_clock, read_past_of}
use Rattle.layout.specs.Stored.{put_past}
use Rattle.layout.proofs.Codec.{many-put, many-part}
use Rattle.layout.proofs.Parts.{word_laws, clock-laws, past-laws}
use Rattle.layout.proofs.Windows.{part-again, part-twice}
use Rattle.layout.proofs.Merges.{put-part}

-- ---- counts

-- Row d, writer u.
abbrev pub spot : Counts → ℕ → ℕ → ℕ
spot z d u = d * z.writers + u

spot_in : (z : Counts) (d u : ℕ) → d < z.keys → u < z.writers → spot z d u < past_size z
unfolding past_size
spot_in z d u h i = omega (arith, slot-end d z.keys z.writers h)

pub past_word : (z : Counts) (l : List ℕ) (at d u : ℕ) → d < z.keys → u < z.writers
    → read_past_of z l at d u ≡ read_word_of l (at + spot z d u)
unfolding read_past_of read_clock
past_word z l at d u h i =
    ap (λ (c : Clock). c u)
    (upto_in z.keys (λ w. 0) (λ d. read_clock z l (at + d * z.writers)) d h)
    ∙ upto_in z.writers 0 (λ w. read_word_of l (at + d * z.writers + w * 1)) u i
    ∙ ap (read_word_of l) (omega arith)

pub past-ext : (z : Counts) (p q : ℕ → Clock)
    → ((d u : ℕ) → d < z.keys → u < z.writers → p d u ≡ q d u) → past_words z p ≡ past_words z q
unfolding past_words clock_words
past-ext z p q f =
    blocks-ext z.keys (λ d. clock_words z (p d)) (λ d. clock_words z (q d))
    (λ d h. blocks-ext z.writers (λ w. p d w ∷ []) (λ w. q d w ∷ [])
    (λ u i. ap (λ (x : ℕ). x ∷ []) (f d u h i)))

-- ---- the larger counts

pub merge-past : (z : Counts) (l : List ℕ) (dst src : ℕ) → dst + past_size z ≤ length l
    → put l dst (past_size z) (join (clock_at l dst) (clock_at l src))
    ≡ put_past z l dst (join_pasts (read_past_of z l dst) (read_past_of z l src))
unfolding join clock_at
merge-past z l dst src h =
    let f : ℕ → ℕ = join (clock_at l dst) (clock_at l src) in
    let m = put l dst (past_size z) f in
    put-part (past-laws z) l dst f h
    ∙ ap (sets l dst) (past-ext z (read_past_of z m dst)
    (join_pasts (read_past_of z l dst) (read_past_of z l src))
    (λ d u i j. past_word z m dst d u i j
    ∙ put_in l dst (past_size z) f (spot z d u) (spot_in z d u i j) h
    ∙ rw (past_word z l dst d u i j, past_word z l src d u i j)))

-- ---- one count stored

clock-set : (z : Counts) (c : Clock) (u n : ℕ) → u < z.writers
    → sets (clock_words z c) u (n ∷ []) ≡ clock_words z (put_at c u n)
unfolding clock_words
clock-set z c u n h =
    ap (λ (i : ℕ). sets (clock_words z c) i (n ∷ [])) (sym (mul-one u))
    ∙ many-put z.writers word_laws c u n h

pub set-count : (z : Counts) (l : List ℕ) (at d u n : ℕ) → at + past_size z ≤ length l
    → d < z.keys → u < z.writers
    → set l (at + spot z d u) n
    ≡ put_past z l at (put_at (read_past_of z l at) d (put_at (read_past_of z l at d) u n))
unfolding past_words
set-count z l at d u n h i j =
    let p = read_past_of z l at in
    let q = put_at p d (put_at (p d) u n) in
    let room = spot_in z d u i j in
    let one : sets (past_words z p) (spot z d u) (n ∷ []) ≡ past_words z q =
    many-part z.keys (clock-laws z) p d u (n ∷ []) (put_at (p d) u n) i (omega arith)
    (clock-set z (p d) u n j) in
    ap (λ (m : List ℕ). set m (at + spot z d u) n) (sym (part-again (past-laws z) l at))
    ∙ part-twice (past-laws z) l at (spot z d u) (n ∷ []) p q h (omega arith) one

-- Where row d of a writer begins, in its past; where a past does.
pub row-spot : (z : Counts) (at d u : ℕ)
    → writer_row_at z at d + u ≡ at + writer_past_offset + spot z d u
unfolding writer_row_at
row-spot z at d u = omega arith

pub row_first : (z : Counts) (at : ℕ) → row_at z at 0 ≡ at + past_offset
unfolding row_at
row_first z at = omega arith

pub writer-row-first : (z : Counts) (at : ℕ) → writer_row_at z at 0 ≡ at + writer_past_offset
unfolding writer_row_at
writer-row-first z at = omega arith
