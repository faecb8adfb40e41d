-- What a merge leaves as it was (CR 5), and merges computed on a buffer.
-- version-frame, place-frame: every other word. version-same, place_same: every word, where source
-- and target are one place.
-- computed: two versions of one key and two writers, merged in place.
-- Assumes nothing.
use mathlib.Core.Path.{◌≡◌, refl, ap, ◌∙◌}
use mathlib.Core.Bool.{So}
use mathlib.Core.List.{List, [], ◌∷◌}
use mathlib.Core.Logic.{◌⊎◌, inl, inr, ⊎_elim}
use Prim.Native.Nat.{ℕ, ◌+◌, ◌≤◌, ◌<◌}
use native.Mathlib.Omega.{arith}
use lib.ListN.{length, get_or}
use lib.Seq.{sets, length-sets}
use Rattle.words.specs.Tests.{Items, any_below}
use Rattle.words.specs.Lists.{upto, blocks, window}
use Rattle.words.proofs.Bools.{test}
use Rattle.masks.specs.Mask.{test_bit, with_bit, with_if, mask_below}
use Rattle.clock.specs.Clock.{join}
use Rattle.sizes.specs.declared.Counts.{Counts}
use Rattle.sizes.specs.Bounds.{counts_of, version_size, place_size}
use Rattle.model.specs.Algebra.{Place}
use Rattle.model.specs.Version.{Version, held, leads_on, merged_leaders, larger, merge}
use Rattle.model.specs.Form.{version_formed, place_formed}
use Rattle.model.proofs.Merges.{merge-idem}
use Rattle.model.proofs.FormedPlaces.{place_out, version-leaders}
use Rattle.layout.specs.Words.{clock_words, past_words, version_words, place_words}
use Rattle.layout.specs.Reading.{read_clock, read_past_of, read_version, read_place}
use Rattle.layout.specs.Stored.{put_version, put_place}
use Rattle.layout.proofs.Parts.{version-laws, place-laws}
use Rattle.layout.proofs.Places.{place-ext}
use Rattle.layout.proofs.Windows.{window-beside, part-again}
use Rattle.version.specs.Places.{version_of, choice, Outside, Own}

-- ---- the frame

-- A word outside of what is stored.
word-beside : (l x : List ℕ) (at i : ℕ) → (i < at) ⊎ (at + length x ≤ i)
    → get_or (sets l at x) i 0 ≡ get_or l i 0
unfolding window
word-beside l x at i h =
    ap (λ (t : List ℕ). get_or t 0 0)
    (window-beside l x at i 1 (⊎_elim (λ a. inl (omega arith)) inr h))

stored-frame : (l m x : List ℕ) (at n : ℕ) → m ≡ sets l at x → length x ≡ n → Outside l m at n
stored-frame l m x at n e size = record {
  long = ap length e ∙ length-sets l at x;
  same = λ i h.
      ap (λ (t : List ℕ). get_or t i 0) e
      ∙ word-beside l x at i (⊎_elim inl (λ a. inr (omega arith)) h);
}

pub version-frame : (z : Counts) (l m : List ℕ) (at : ℕ) (v : Version) → m ≡ put_version z l at v
    → Outside l m at (version_size z)
version-frame z l m at v e =
    stored-frame l m (version_words z v) at (version_size z) e ((version-laws z).long v)

pub place-frame : (z : Counts) (l m : List ℕ) (at : ℕ) (p : Place Version)
    → m ≡ put_place z l at p → Outside l m at (place_size z)
place-frame z l m at p e =
    stored-frame l m (place_words z p) at (place_size z) e ((place-laws z).long p)

-- ---- one place

pub version-same : (z : Counts) (k : ℕ) (l m : List ℕ) (dst n lead past : ℕ)
    → m ≡ put_version z l dst
    (merge z.writers k (read_version z l dst) (version_of n lead (read_past_of z l past)))
    → Own l dst n lead past → So (version_formed z k (read_version z l dst)) → m ≡ l
unfolding read_version
version-same z k l m dst n lead past e own formed =
    e ∙ rw (own.number, own.leaders, own.past)
    (ap (put_version z l dst) (merge-idem z.writers k (read_version z l dst)
    (version-leaders z k (read_version z l dst) formed))
    ∙ part-again (version-laws z) l dst)

pub place_same : (z : Counts) (l m : List ℕ) (dst src : ℕ) (S : Items)
    → m ≡ put_place z l dst (choice S
    (λ k. merge z.writers k (read_place z l dst k) (read_place z l src k)) (read_place z l dst))
    → dst ≡ src → So (place_formed z (read_place z l dst)) → m ≡ l
place_same z l m dst src S e one formed =
    e ∙ rw (← one)
    (place-ext z l dst
    (choice S (λ k. merge z.writers k (p k) (p k)) p) p
    (λ k h. test (S k)
    (λ t. rw t (merge-idem z.writers k (p k) (version-leaders z k (p k)
    (place_out z p formed k h))))
    (λ t. rw t))
    ∙ part-again (place-laws z) l dst)
  where
    p : Place Version
    p = read_place z l dst

-- ---- the three promises from the first

pub version-merged : (z : Counts) (k : ℕ) (l m : List ℕ) (dst n lead past : ℕ)
    → m ≡ put_version z l dst
    (merge z.writers k (read_version z l dst) (version_of n lead (read_past_of z l past)))
    → (m ≡ put_version z l dst
    (merge z.writers k (read_version z l dst) (version_of n lead (read_past_of z l past))))
    × (Outside l m dst (version_size z)
    × (Own l dst n lead past → So (version_formed z k (read_version z l dst)) → m ≡ l))
version-merged z k l m dst n lead past e =
    (e, (version-frame z l m dst _ e, version-same z k l m dst n lead past e))

pub place-merged : (z : Counts) (l m : List ℕ) (dst src : ℕ) (S : Items)
    → m ≡ put_place z l dst (choice S
    (λ k. merge z.writers k (read_place z l dst k) (read_place z l src k)) (read_place z l dst))
    → (m ≡ put_place z l dst (choice S
    (λ k. merge z.writers k (read_place z l dst k) (read_place z l src k)) (read_place z l dst)))
    × (Outside l m dst (place_size z)
    × (dst ≡ src → So (place_formed z (read_place z l dst)) → m ≡ l))
place-merged z l m dst src S e =
    (e, (place-frame z l m dst _ e, place_same z l m dst src S e))

-- ---- "7 7 | 3 1 2 0 | 5 2 1 3 | 7 7": one key, two writers, versions of four words

abbrev small : Counts
small = counts_of 1 2 1 1

-- The version at an index merged into the one at another.
abbrev merged_at : List ℕ → ℕ → ℕ → List ℕ
merged_at l dst src = put_version small l dst (merge 2 0 (read_version small l dst)
    (read_version small l src))

-- Four words at 2, and four at 6.
abbrev two : List ℕ → List ℕ → List ℕ
two a b = sets (sets (7 ∷ 7 ∷ 0 ∷ 0 ∷ 0 ∷ 0 ∷ 0 ∷ 0 ∷ 0 ∷ 0 ∷ 7 ∷ 7 ∷ []) 2 a) 6 b

abbrev mine : List ℕ
mine = 3 ∷ 1 ∷ 2 ∷ 0 ∷ []

abbrev other : List ℕ
other = 5 ∷ 2 ∷ 1 ∷ 3 ∷ []

abbrev both : List ℕ
both = 5 ∷ 3 ∷ 2 ∷ 3 ∷ []

abbrev none : List ℕ
none = 0 ∷ 0 ∷ 0 ∷ 0 ∷ []

-- A leader without a count.
abbrev odd : List ℕ
odd = 1 ∷ 2 ∷ 1 ∷ 0 ∷ []

pub record Computed : Type 0 where
  pub forward : merged_at (two mine other) 2 6 ≡ two both other
  pub backward : merged_at (two mine other) 6 2 ≡ two mine both
  pub itself : merged_at (two mine other) 2 2 ≡ two mine other
  pub from-none : merged_at (two mine none) 2 6 ≡ two mine none
  pub into-none : merged_at (two none other) 2 6 ≡ two other other
  pub odd-kept : merged_at (two none odd) 2 6 ≡ two odd odd

pub computed : Computed
unfolding any_below upto blocks test_bit with_bit with_if mask_below join held leads_on
    merged_leaders
    larger merge clock_words past_words version_words read_clock read_past_of read_version
computed = record {
  forward = refl;
  backward = refl;
  itself = refl;
  from-none = refl;
  into-none = refl;
  odd-kept = refl;
}
