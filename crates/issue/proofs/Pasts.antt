-- The past of a writer or of a version in the words of a buffer.
-- writer-..: a writer by count and past. version-read: the past of a version.
-- Assumes nothing.
use mathlib.Core.Path.{◌≡◌, refl, sym, ap, ◌∙◌}
use mathlib.Core.List.{List, [], ◌∷◌}
use Prim.Native.Nat.{ℕ, suc, ◌+◌, ◌≤◌, ◌<◌}
use native.Mathlib.Nat.{add-zero}
use native.Mathlib.Numerals.{add-one}
use native.Mathlib.Omega.{arith}
use lib.ListN.{length, set}
use lib.Seq.{sets, set-get_or}
use Rattle.clock.specs.Clock.{Clock}
use Rattle.sizes.specs.declared.Counts.{Counts}
use Rattle.sizes.specs.Bounds.{past_offset, writer_past_offset, writer_size}
use Rattle.model.specs.Store.{Writer}
use Rattle.layout.specs.Words.{past_words, writer_words}
use Rattle.layout.specs.Reading.{read_past_of, read_version, read_writer}
use Rattle.layout.specs.Stored.{put_writer, put_past}
use Rattle.layout.proofs.Parts.{writer-laws}
use Rattle.layout.proofs.Windows.{part-twice}
use Rattle.layout.proofs.Pasts.{past-ext}
use Rattle.issue.specs.Saves.{with_past}

-- ---- writers: a count, and a past behind it

pub writer-past : (z : Counts) (l : List ℕ) (at : ℕ) (p : ℕ → Clock)
    → put_past z l (at + writer_past_offset) p ≡ put_writer z l at (with_past (read_writer z l at)
    p)
unfolding writer_words read_writer
writer-past z l at p =
    ap (λ (j : ℕ). sets l j (past_words z p)) (add-one at)
    ∙ ap (λ (m : List ℕ). sets m (suc at) (past_words z p)) (sym (set-get_or l at 0))

pub writer-read : (z : Counts) (l : List ℕ) (at : ℕ)
    → (read_writer z l at).past ≡ read_past_of z l (at + writer_past_offset)
unfolding read_writer
writer-read z l at = refl

pub writer-counted : (z : Counts) (l : List ℕ) (at n : ℕ) (x : Writer)
    → at + writer_size z ≤ length l
    → set (put_writer z l at x) at n ≡ put_writer z l at (record { count = n; past = x.past })
unfolding writer_words writer_size
writer-counted z l at n x h =
    let y : Writer = record { count = n; past = x.past } in
    ap (λ (j : ℕ). set (put_writer z l at x) j n) (sym (add-zero at))
    ∙ part-twice (writer-laws z) l at 0 (n ∷ []) x y h (omega arith) refl

pub writer-ext : (z : Counts) (l : List ℕ) (at : ℕ) (x y : Writer) → x.count ≡ y.count
    → ((d u : ℕ) → d < z.keys → u < z.writers → x.past d u ≡ y.past d u)
    → put_writer z l at x ≡ put_writer z l at y
unfolding writer_words
writer-ext z l at x y e f =
    let words : past_words z x.past ≡ past_words z y.past = past-ext z x.past y.past f in
    rw (e, words)

-- ---- versions: an issue number, a mask, and a past behind them

pub version-read : (z : Counts) (l : List ℕ) (at : ℕ)
    → (read_version z l at).past ≡ read_past_of z l (at + past_offset)
unfolding read_version
version-read z l at = refl
