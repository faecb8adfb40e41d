-- The master's versions, merged with the saved one: what the loop over the keys leaves.
-- save_step, save-yes: the turn for one key. save-keys: all of them.
-- Assumes nothing.
use mathlib.Core.Path.{◌≡◌, ap, ◌∙◌}
use mathlib.Core.Bool.{So}
use mathlib.Core.Logic.{inr}
use mathlib.Core.List.{List}
use Prim.Native.Nat.{ℕ, ◌+◌, ◌≤◌, ◌<◌}
use native.Mathlib.Omega.{arith}
use lib.ListN.{length}
use Rattle.words.specs.Numbers.{fold_below}
use Rattle.masks.specs.Mask.{test_bit}
use Rattle.sizes.specs.declared.Counts.{Counts}
use Rattle.sizes.specs.Bounds.{writer_past_offset, place_size, key_at}
use Rattle.model.specs.Algebra.{Place}
use Rattle.model.specs.Version.{Version, merge}
use Rattle.model.specs.Issue.{issued_master}
use Rattle.layout.specs.Words.{place_words}
use Rattle.layout.specs.Reading.{read_past_of, read_version, read_place, read_writer}
use Rattle.layout.specs.Stored.{put_place, put_version}
use Rattle.layout.proofs.Parts.{place-laws, writer-laws}
use Rattle.layout.proofs.Places.{place_at_lem, place-run, key_back}
use Rattle.layout.proofs.Windows.{part-beside}
use Rattle.version.specs.Places.{version_of, put_key}
use Rattle.issue.specs.Saves.{Saves}
use Rattle.issue.proofs.Pasts.{writer-read}

-- n: the issue number. m: the mask of leading writers.
abbrev pub save_step : Counts → ℕ → ℕ → ℕ → ℕ → ℕ → ℕ → List ℕ → List ℕ
save_step z place at S n m k l =
    put_key z l place (test_bit S) k
    (merge z.writers k (read_place z l place k) (version_of n m (read_writer z l at).past))

-- What the code stores for a key of the mask.
pub save-yes : (z : Counts) (l : List ℕ) (place at S n m k : ℕ) → k < z.keys → So (test_bit S k)
    → let v = key_at z place k in
    put_version z l v (merge z.writers k (read_version z l v)
    (version_of n m (read_past_of z l (at + writer_past_offset))))
    ≡ save_step z place at S n m k l
save-yes z l place at S n m k h t = rw (t, place_at_lem z l place k h, writer-read z l at)

module _ (z : Counts) (l : List ℕ) (place at S n m : ℕ) (A : Saves (length l) z place at) where
  abbrev p : Place Version
  p = read_place z l place

  abbrev new : Version
  new = version_of n m (read_writer z l at).past

  pub save-keys : fold_below z.keys (save_step z place at S n m) l
      ≡ put_place z l place (issued_master z.writers S new p)
  unfolding issued_master
  save-keys =
      let fits : place + place_size z ≤ length l = omega (arith, A.apart, A.fits) in
      let beside : (q : Place Version) → read_writer z (put_place z l place q) at
      ≡ read_writer z l at =
      λ q. part-beside (writer-laws z) l (place_words z q) place at
      (inr (omega (arith, (place-laws z).long q, A.apart))) in
      place-run z l place (test_bit S)
      (λ k o. merge z.writers k (read_place z o place k)
      (version_of n m (read_writer z o at).past))
      (λ k. merge z.writers k (p k) new) fits
      (λ k q h F e. rw (beside q) (ap (λ (v : Version). merge z.writers k v new)
      (place_at_lem z (put_place z l place q) place k h ∙ key_back z l place q k fits F h ∙ e)))
