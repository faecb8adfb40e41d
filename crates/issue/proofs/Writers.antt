-- A writer in the words of a buffer: what the loops over the keys leave.
-- take_step, row_step: the turn for one key, ..-yes, ..-no. take-keys, row-keys: all of them.
-- writer-saved: the two, and the new count.
-- Assumes nothing.
use mathlib.Core.Path.{◌≡◌, sym, ap, ◌∙◌}
use mathlib.Core.Bool.{Bool, true, false, cond, So}
use mathlib.Core.Logic.{inr}
use mathlib.Core.List.{List}
use Prim.Native.Nat.{ℕ, ◌+◌, ◌≤◌, ◌<◌}
use native.Mathlib.Omega.{arith}
use lib.ListN.{length, set}
use Rattle.words.specs.Numbers.{fold_below}
use Rattle.words.specs.Lists.{put_at}
use Rattle.masks.specs.Mask.{test_bit}
use Rattle.clock.specs.Clock.{Clock, join}
use Rattle.sizes.specs.declared.Counts.{Counts}
use Rattle.sizes.specs.Bounds.{past_offset, writer_past_offset, writer_size, key_at, writer_row_at}
use Rattle.model.specs.Algebra.{Place}
use Rattle.model.specs.Version.{Version, join_pasts}
use Rattle.model.specs.Store.{Writer}
use Rattle.model.specs.Issue.{taken_in, rows_set}
use Rattle.layout.specs.Words.{writer_words}
use Rattle.layout.specs.Reading.{read_past_of, read_place, read_writer}
use Rattle.layout.specs.Stored.{put_writer, put_past}
use Rattle.layout.proofs.Parts.{FitPast, FitWriter, FitPlace, place-laws, writer-laws}
use Rattle.layout.proofs.Codec.{fit-put}
use Rattle.layout.proofs.Fit.{past-out, past_in, place-fit}
use Rattle.layout.proofs.Rules.Issue.{taken-fits}
use Rattle.layout.proofs.Places.{place_at_lem}
use Rattle.layout.proofs.Windows.{part-back, part-beside, part-again, part-over, part-fold}
use Rattle.layout.proofs.Pasts.{set-count, row-spot}
use Rattle.issue.specs.Saves.{with_past, takes, row_set}
use Rattle.issue.proofs.Pasts.{writer-past, writer-read, writer-counted, writer-ext, version-read}
use Rattle.issue.proofs.Turns.{taken-fold, rows-fold, rows-count}

abbrev pub take_step : Counts → ℕ → ℕ → ℕ → ℕ → List ℕ → List ℕ
take_step z at place read k l =
    put_writer z l at (takes read (read_place z l place) k (read_writer z l at))

abbrev pub row_step : Counts → ℕ → ℕ → ℕ → ℕ → ℕ → List ℕ → List ℕ
row_step z at w S n k l = put_writer z l at (row_set S w n k (read_writer z l at))

-- ---- one key: what the code stores, or leaves

module _ (z : Counts) (l : List ℕ) (at : ℕ) where
  writer-again : l ≡ put_writer z l at (read_writer z l at)
  writer-again = sym (part-again (writer-laws z) l at)

  pub take-yes : (place read k : ℕ) → k < z.keys → So (test_bit read k)
      → put_past z l (at + writer_past_offset)
      (join_pasts (read_past_of z l (at + writer_past_offset))
      (read_past_of z l (key_at z place k + past_offset)))
      ≡ take_step z at place read k l
  take-yes place read k h t =
      rw (t, place_at_lem z l place k h, version-read z l (key_at z place k))
      (writer-past z l at _ ∙ rw (writer-read z l at))

  pub take_no : (place read k : ℕ) → test_bit read k ≡ false → l ≡ take_step z at place read k l
  take_no place read k t = rw t writer-again

  pub row-yes : (w S n k : ℕ) → at + writer_size z ≤ length l → w < z.writers → k < z.keys
      → So (test_bit S k) → set l (writer_row_at z at k + w) n ≡ row_step z at w S n k l
  unfolding writer_size
  row-yes w S n k h i j t =
      rw (t, row-spot z at k w)
      (set-count z l (at + writer_past_offset) k w n (omega arith) j i
      ∙ writer-past z l at _ ∙ rw (writer-read z l at))

  pub row-no : (w S n k : ℕ) → test_bit S k ≡ false → l ≡ row_step z at w S n k l
  row-no w S n k t = rw t writer-again

-- ---- nothing stands outside of the counts

join-fits : (z : Counts) (p q : ℕ → Clock) → FitPast z p → FitPast z q → FitPast z (join_pasts p q)
unfolding join
join-fits z p q F G =
    past_in z (join_pasts p q) (λ d u o. rw (past-out z p F d u o, past-out z q G d u o))

takes-fits : (z : Counts) (read : ℕ) (p : Place Version) → FitPlace z p → (k : ℕ) (x : Writer)
    → FitWriter z x → FitWriter z (takes read p k x)
takes-fits z read p P k x F = record { past = go (test_bit read k) }
  where
    go : (b : Bool) → FitPast z (cond b (join_pasts x.past (p k).past) x.past)
    go true = join-fits z x.past (p k).past F.past (place-fit z p P k).past
    go false = F.past

row_fits : (z : Counts) (w S n k : ℕ) (x : Writer) → w < z.writers → k < z.keys
    → FitWriter z x → FitWriter z (row_set S w n k x)
row_fits z w S n k x h i F = record { past = go (test_bit S k) }
  where
    go : (b : Bool)
        → FitPast z (cond b (put_at x.past k (put_at (x.past k) w n)) x.past)
    go true =
        fit-put x.past k (put_at (x.past k) w n) F.past i
        (fit-put (x.past k) w n (F.past.each k i) h (record {}))
    go false = F.past

-- ---- the loops

module _ (z : Counts) (l : List ℕ) (at : ℕ) (h : at + writer_size z ≤ length l) where
  abbrev x : Writer
  x = read_writer z l at

  pub take-keys : (place read : ℕ) → at + writer_size z ≤ place
      → fold_below z.keys (take_step z at place read) l
      ≡ put_writer z l at
      (with_past x (taken_in z.keys read (read_place z l place) x.past))
  take-keys place read d =
      let p = read_place z l place in
      let L = writer-laws z in
      let beside : (y : Writer) → read_place z (put_writer z l at y) place ≡ p =
      λ y. part-beside (place-laws z) l (writer_words z y) at place
      (inr (omega (arith, L.long y))) in
      part-fold L l at h z.keys
      (λ k m. takes read (read_place z m place) k (read_writer z m at)) (takes read p)
      (λ k y i F. rw (beside y, part-back L l at y F h))
      (λ k y i F. takes-fits z read p ((place-laws z).fits l place) k y F)
      z.keys (omega arith)
      ∙ ap (put_writer z l at) (taken-fold read p z.keys x)

  pub row-keys : (w S n : ℕ) → w < z.writers
      → fold_below z.keys (row_step z at w S n) l
      ≡ put_writer z l at (with_past x (rows_set S w n x.past))
  row-keys w S n i =
      let L = writer-laws z in
      part-fold L l at h z.keys (λ k m. row_set S w n k (read_writer z m at)) (row_set S w n)
      (λ k y j F. ap (row_set S w n k) (part-back L l at y F h))
      (λ k y j F. row_fits z w S n k y i j F) z.keys (omega arith)
      ∙ writer-ext z l at (fold_below z.keys (row_set S w n) x)
      (with_past x (rows_set S w n x.past)) (rows-count S w n z.keys x)
      (λ d u j _. rows-fold S w n z.keys x d u j)

-- ---- the loops one after the other, then the count

pub writer-saved : (z : Counts) (l m₁ m₂ m₃ : List ℕ) (at place read w S n : ℕ)
    → at + writer_size z ≤ length l → let x = read_writer z l at in let p = read_place z l place in
    m₁ ≡ put_writer z l at (with_past x (taken_in z.keys read p x.past))
    → m₂ ≡ put_writer z m₁ at
    (with_past (read_writer z m₁ at) (rows_set S w n (read_writer z m₁ at).past))
    → m₃ ≡ set m₂ at n
    → m₃ ≡ put_writer z l at
    (record { count = n; past = rows_set S w n (taken_in z.keys read p x.past) })
writer-saved z l m₁ m₂ m₃ at place read w S n h e₁ e₂ e₃ =
    let x = read_writer z l at in
    let p = read_place z l place in
    let L = writer-laws z in
    let y : Writer = with_past x (taken_in z.keys read p x.past) in
    let fits : FitWriter z y = record {
      past = taken-fits z read p x.past ((place-laws z).fits l place) (L.fits l at).past;
    } in
    let back : read_writer z m₁ at ≡ y = rw e₁ (part-back L l at y fits h) in
    let set₂ : m₂ ≡ put_writer z l at (with_past y (rows_set S w n y.past)) =
    e₂ ∙ rw (back, e₁) (part-over L l at h y (with_past y (rows_set S w n y.past))) in
    e₃ ∙ rw set₂ (writer-counted z l at n (with_past y (rows_set S w n y.past)) h)
