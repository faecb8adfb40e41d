-- The laws of the tail, which stands behind the runs.
-- FitMasks, masks-laws: a row of masks. FitTail, tail-laws: its words are read back.
-- fresh-tail, fit-..: tails that fit. tail-..: a word stored into it.
-- Assumes nothing.
use mathlib.Core.Path.{◌≡◌, refl, sym, ap, ap₂, ◌∙◌, subst}
use mathlib.Core.List.{List, [], ◌∷◌, ◌++◌}
use Prim.Native.Nat.{ℕ, ◌+◌, ◌<◌}
use native.Mathlib.Nat.{mul-one}
use native.Mathlib.Omega.{arith}
use lib.ListN.{length, length-append}
use lib.Seq.{sets}
use Rattle.words.specs.Lists.{put_at}
use Rattle.words.proofs.Bools.{ge-ltb}
use Rattle.words.proofs.Lists.{append-same, window-add, window-cons}
use Rattle.words.proofs.Stores.{sets-left, sets_behind}
use Rattle.sizes.specs.declared.Counts.{Counts}
use Rattle.sizes.specs.Bounds.{tail_size}
use Rattle.model.specs.Tail.{Tail, fresh_tail, tail_round, tail_hold, tail_save, every_key}
use Rattle.layout.specs.Words.{masks_words, tail_words}
use Rattle.layout.specs.Reading.{read_word_of, read_masks, read_tail_of}
use Rattle.layout.proofs.Codec.{Laws, FitMany, fit-put, many, many-put}
use Rattle.layout.proofs.Jobs.{cons_same}
use Rattle.layout.proofs.Parts.{Any, word_laws}

-- ---- a row of masks

abbrev pub FitMasks : ℕ → (ℕ → ℕ) → Type 0
FitMasks n = FitMany n 0 Any

pub masks-laws : (n : ℕ) → Laws n (masks_words n) (read_masks n) (FitMasks n)
unfolding masks_words read_masks
masks-laws n =
    subst (λ (m : ℕ). Laws m (masks_words n) (read_masks n) (FitMasks n)) (mul-one n)
    (many n word_laws 0)

-- One mask is stored.
masks-put : (n : ℕ) (f : ℕ → ℕ) (i m : ℕ) → i < n
    → sets (masks_words n f) i (m ∷ []) ≡ masks_words n (put_at f i m)
unfolding masks_words
masks-put n f i m h =
    ap (λ (j : ℕ). sets (masks_words n f) j (m ∷ [])) (sym (mul-one i))
    ∙ many-put n word_laws f i m h

-- ---- the tail

pub record FitTail (z : Counts) (t : Tail) : Type 0 where
  pub may_hold : FitMasks z.sites t.may_hold
  pub may_save : FitMasks z.writers t.may_save

pub tail-laws : (z : Counts) → Laws (tail_size z) (tail_words z) (read_tail_of z) (FitTail z)
unfolding tail_size tail_words read_tail_of
tail-laws z =
    let N = z.sites in
    let W = z.writers in
    let H = masks-laws N in
    let S = masks-laws W in
    record {
      long = λ t. rw (length-append, H.long t.may_hold, S.long t.may_save) (omega arith);
      round = λ l at.
          ap (λ (t : List ℕ). read_word_of l at ∷ t)
          (ap₂ ◌++◌ (H.round l (at + 1)) (S.round l (at + 1 + N))
          ∙ sym (window-add l (at + 1) N W))
          ∙ window-cons l at (N + W);
      fits = λ l at. record { may_hold = H.fits l _; may_save = S.fits l _ };
      same = λ a b F G e.
          let c = cons_same _ _ _ _ e in
          let d = append-same _ _ _ _ (H.long a.may_hold ∙ sym (H.long b.may_hold)) c.1 in
          let p = H.same a.may_hold b.may_hold F.may_hold G.may_hold d.0 in
          let q = S.same a.may_save b.may_save F.may_save G.may_save d.1 in
          λ i. record { round = c.0 i; may_hold = p i; may_save = q i };
    }

-- ---- tails that fit

every-key : (z : Counts) (n : ℕ) → FitMasks n (every_key z n)
every-key z n = record { each = λ i h. record {}; rest = λ i h. rw (ge-ltb i n h) }

pub fresh-tail : (z : Counts) → FitTail z (fresh_tail z)
fresh-tail z = record { may_hold = every-key z z.sites; may_save = every-key z z.writers }

module _ (z : Counts) (t : Tail) (F : FitTail z t) where
  pub fit-round : (r : ℕ) → FitTail z (tail_round t r)
  fit-round r = record { may_hold = F.may_hold; may_save = F.may_save }

  pub fit-may_hold : (o m : ℕ) → o < z.sites → FitTail z (tail_hold t o m)
  fit-may_hold o m h = record {
    may_hold = fit-put t.may_hold o m F.may_hold h (record {});
    may_save = F.may_save;
  }

  pub fit-may_save : (w m : ℕ) → w < z.writers → FitTail z (tail_save t w m)
  fit-may_save w m h = record {
    may_hold = F.may_hold;
    may_save = fit-put t.may_save w m F.may_save h (record {});
  }

-- ---- a word stored

module _ (z : Counts) (t : Tail) where
  abbrev holds : List ℕ
  holds = masks_words z.sites t.may_hold

  abbrev saves : List ℕ
  saves = masks_words z.writers t.may_save

  pub tail-round : (r : ℕ) → sets (tail_words z t) 0 (r ∷ []) ≡ tail_words z (tail_round t r)
  unfolding tail_words
  tail-round r = refl

  pub tail-hold : (o m : ℕ) → o < z.sites
      → sets (tail_words z t) (1 + o) (m ∷ []) ≡ tail_words z (tail_hold t o m)
  unfolding tail_words
  tail-hold o m h =
      let long = (masks-laws z.sites).long t.may_hold in
      sets_behind (t.round ∷ []) (holds ++ saves) (m ∷ []) o
      (rw length-append (omega (arith, long)))
      ∙ ap (λ (l : List ℕ). t.round ∷ l)
      (sets-left (m ∷ []) holds saves o (omega (arith, long))
      ∙ ap (λ (l : List ℕ). l ++ saves) (masks-put z.sites t.may_hold o m h))

  pub tail-save : (w m : ℕ) → w < z.writers
      → sets (tail_words z t) (1 + z.sites + w) (m ∷ []) ≡ tail_words z (tail_save t w m)
  unfolding tail_words
  tail-save w m h =
      let N = z.sites in
      let front = t.round ∷ holds in
      let long : length front ≡ 1 + N = omega (arith, (masks-laws N).long t.may_hold) in
      ap (λ (i : ℕ). sets (tail_words z t) (i + w) (m ∷ [])) (sym long)
      ∙ sets_behind front saves (m ∷ []) w
      (omega (arith, (masks-laws z.writers).long t.may_save))
      ∙ ap (λ (l : List ℕ). front ++ l) (masks-put z.writers t.may_save w m h)
