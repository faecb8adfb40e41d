-- A record of a history whose total is a word of 32 bits has only such words (CR 14).
-- Small, small-..: such words. record_words.
-- Assumes nothing.
use mathlib.Core.Path.{◌≡◌, sym}
use mathlib.Core.List.{List, [], ◌∷◌, ◌++◌, append-nil}
use Prim.Native.Nat.{ℕ, zero, suc, ◌+◌, ◌*◌, ◌^◌, ◌≤◌, ◌<◌}
use native.Mathlib.Omega.{arith}
use native.Mathlib.Nat.{not-suc-le-zero}
use lib.ListN.{length}
use Rattle.words.proofs.Bools.{test}
use Rattle.words.proofs.Numbers.{count-top}
use Rattle.masks.specs.Mask.{mask_below}
use Rattle.masks.proofs.Sets.{mask_lt}
use Rattle.clock.specs.Clock.{Clock}
use Rattle.history.specs.History.{Issue, History}
use Rattle.history.specs.Copies.{by_writer}
use Rattle.history.proofs.Notions.{Sound}
use Rattle.history.proofs.Past.{writer_of_top}
use Rattle.history.proofs.Sounds.{sound-low}
use Rattle.history.proofs.Tally as tallies
use Rattle.records.specs.Format.{total_in}
use Rattle.records.specs.Own.{own_row, had_read, number_of, reads_up_to, row_words, read_words, keys_words, issues_words, reads_words, head_words, record_of_at, FitsHeader, Words32}
use Rattle.records.proofs.Lying.{record_total}

data Small : List ℕ → Type 0 where
  end : Small []
  next : {x : ℕ} {l : List ℕ} → x < 2 ^ 32 → Small l → Small (x ∷ l)

small-both : {a b : List ℕ} → Small a → Small b → Small (a ++ b)
small-both end g = g
small-both (next p f) g = next p (small-both f g)

small-words : {l : List ℕ} → Small l → Words32 l
small-words end k h = absurd (not-suc-le-zero h)
small-words (next p f) zero h = p
small-words (next p f) (suc k) h = small-words f k (omega arith)

module _ (K W : ℕ) (k : K ≤ 32) (w : W ≤ 16) where
  -- ---- reads

  row_words_lem : (n : ℕ) (c : Clock) → ((u : ℕ) → c u < 2 ^ 32) → Small (row_words K W n c)
  unfolding row_words
  row_words_lem zero c f = end
  row_words_lem (suc n) c f =
      small-both (row_words_lem n c f)
      (next {x = c n} (f n) end)

  -- A writer has at most all issues.
  row_small : (h : History) (e : Issue) (d : ℕ) → length h < 2 ^ 32
      → (u : ℕ) → own_row K W h (e.read d) u < 2 ^ 32
  unfolding own_row tallies.tally
  row_small h e d l u =
      omega (
        arith,
        tallies.tally-total K h (e.read d) u,
        count-top (length h) (by_writer K h u),
      )

  keys-words : (h : History) (e : Issue) (n : ℕ) → n ≤ 32 → length h < 2 ^ 32
      → Small (keys_words K W h e n)
  unfolding keys_words read_words
  keys-words h e zero o l = end
  keys-words h e (suc d) o l =
      let old = keys-words h e d (omega arith) l in
      let row = row_words_lem W (own_row K W h (e.read d)) (row_small h e d l) in
      test (had_read K W h e d)
      (λ y. rw y (small-both old (next {x = d} (omega arith) row)))
      (λ z. rw z (small-both old end))

  reads-words : (h : History) → length h < 2 ^ 32 → Small (reads_words K W h)
  unfolding reads_words
  reads-words [] l = end
  reads-words (e ∷ h) l =
      small-both (reads-words h (omega arith))
      (keys-words h e K k (omega arith))

  -- ---- issues

  issues-words : (h : History) → Sound K W h → reads_up_to K W h < 2 ^ 32
      → Small (issues_words K W h)
  unfolding issues_words reads_up_to
  issues-words [] s l = end
  issues-words (e ∷ h) s l =
      let top = writer_of_top e h in
      small-both (issues-words h (sound-low s) (omega arith))
      (next {x = e.writer} (omega (arith, s.writers (length h) (omega arith)))
      (next {x = mask_below K e.keys} (mask_lt K e.keys 32 k)
      (next {x = reads_up_to K W h} (omega arith)
      (next {x = number_of K W h e} (omega arith) end))))

  -- ---- the record

  pub record_words : (h : History) → Sound K W h → FitsHeader (record_of_at K W h)
      → Words32 (record_of_at K W h)
  unfolding record_of_at head_words
  record_words h s f =
      let I = length h in
      let Q = reads_up_to K W h in
      let e : total_in (record_of_at K W h) ≡ 7 + 4 * I + Q * (1 + W) =
      rw (sym (append-nil (record_of_at K W h))) (record_total K W h []) in
      let t : 7 + 4 * I + Q * (1 + W) < 2 ^ 32 = rw e at f in
      small-words (small-both
      (next {x = K} (omega arith)
      (next {x = W} (omega arith)
      (next {x = I} (omega arith)
      (next {x = Q} (omega arith)
      (next {x = 7} (omega arith)
      (next {x = 7 + 4 * I} (omega arith)
      (next {x = 7 + 4 * I + Q * (1 + W)} t end)))))))
      (small-both (issues-words h s (omega arith))
      (reads-words h (omega arith))))
