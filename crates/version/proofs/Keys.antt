-- Loops over the keys of a place: what the steps for all keys in turn leave.
-- copy_step, clear_step, merge_step_lem: the step for one key. ..-keys: all of them.
-- Assumes nothing.
use mathlib.Core.Path.{◌≡◌, refl, ap₂, ◌∙◌}
use mathlib.Core.List.{List}
use mathlib.Core.Logic.{inl, inr, ⊎_elim}
use Prim.Native.Nat.{ℕ, ◌<◌}
use lib.ListN.{length}
use Rattle.words.specs.Tests.{Items}
use Rattle.words.specs.Numbers.{fold_below}
use Rattle.sizes.specs.declared.Counts.{Counts}
use Rattle.model.specs.Algebra.{Place}
use Rattle.model.specs.Version.{Version, unheld, merge}
use Rattle.layout.specs.Reading.{read_place}
use Rattle.layout.proofs.Parts.{FitVersion}
use Rattle.layout.proofs.Places.{place_at_lem, place-run, key_back, key-beside}
use Rattle.version.specs.Places.{put_key, choice, Area, Areas}
use Rattle.layout.specs.Stored.{put_place}

abbrev pub copy_step : Counts → ℕ → ℕ → Items → ℕ → List ℕ → List ℕ
copy_step z dst src S k l = put_key z l dst S k (read_place z l src k)

abbrev pub clear_step : Counts → ℕ → Items → ℕ → List ℕ → List ℕ
clear_step z at S k l = put_key z l at S k unheld

abbrev pub merge_step_lem : Counts → ℕ → ℕ → Items → ℕ → List ℕ → List ℕ
merge_step_lem z dst src S k l =
    put_key z l dst S k (merge z.writers k (read_place z l dst k) (read_place z l src k))

-- Until its turn comes, key k of both places is as it was.
module _ (z : Counts) (l : List ℕ) (dst src : ℕ) (A : Areas (length l) z dst src)
    (k : ℕ) (q : Place Version) (h : k < z.keys) (F : FitVersion z (q k))
    (e : q k ≡ read_place z l dst k) where
  target-kept : read_place z (put_place z l dst q) dst k ≡ read_place z l dst k
  target-kept =
      place_at_lem z (put_place z l dst q) dst k h ∙ key_back z l dst q k A.target.fits F h ∙ e

  source-kept : read_place z (put_place z l dst q) src k ≡ read_place z l src k
  source-kept =
      ⊎_elim (λ s. rw (← s) target-kept)
      (λ d. place_at_lem z (put_place z l dst q) src k h
      ∙ key-beside z l dst src q k (⊎_elim inr inl d) h) A.apart

pub clear-keys : (z : Counts) (l : List ℕ) (at : ℕ) (S : Items) → Area (length l) z at
    → fold_below z.keys (clear_step z at S) l
    ≡ put_place z l at (choice S (λ k. unheld) (read_place z l at))
clear-keys z l at S A =
    place-run z l at S (λ k m. unheld) (λ k. unheld) A.fits (λ k q h F e. refl)

module _ (z : Counts) (l : List ℕ) (dst src : ℕ) (S : Items) (A : Areas (length l) z dst src) where
  -- The two places.
  abbrev p : Place Version
  p = read_place z l dst

  abbrev q : Place Version
  q = read_place z l src

  pub copy-keys : fold_below z.keys (copy_step z dst src S) l ≡ put_place z l dst (choice S q p)
  copy-keys =
      place-run z l dst S (λ k m. read_place z m src k) q A.target.fits
      (source-kept z l dst src A)

  pub merge-keys : fold_below z.keys (merge_step_lem z dst src S) l
      ≡ put_place z l dst (choice S (λ k. merge z.writers k (p k) (q k)) p)
  merge-keys =
      place-run z l dst S
      (λ k m. merge z.writers k (read_place z m dst k) (read_place z m src k))
      (λ k. merge z.writers k (p k) (q k)) A.target.fits
      (λ k r h F e. ap₂ (merge z.writers k) (target-kept z l dst src A k r h F e)
      (source-kept z l dst src A k r h F e))
