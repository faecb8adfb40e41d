-- A past tested as one run of words, K rows of W counts one behind the other, and so a place.
-- flat_rows: no word of the past is set exactly if no row is. flat-place: no word of a place.
-- Assumes nothing.
use mathlib.Core.Path.{◌≡◌, refl, sym, ap, ap₂, ◌∙◌}
use mathlib.Core.Bool.{Bool, true, false, not, ◌&&◌, ◌||◌}
use mathlib.Core.List.{List}
use Prim.Native.Nat.{ℕ, ◌+◌, ◌*◌, ◌≤◌, ◌<◌}
use native.Mathlib.Nat.{add-zero}
use native.Mathlib.Omega.{arith}
use lib.Dec.{eqb, leb}
use lib.ListN.{get_or}
use Rattle.words.specs.Tests.{Items, any_below, all_below}
use Rattle.words.proofs.Bools.{test, le-leb, gt-leb, eqb-eq, eqb-ne}
use Rattle.words.proofs.Tests.{any_same, all_same, any-plus, any-rows, all-not}
use Rattle.clock.specs.Clock.{present, clock_at}
use Rattle.sizes.specs.declared.Counts.{Counts}
use Rattle.sizes.specs.Bounds.{leaders_offset, past_offset, past_size, version_size, place_size, key_at, row_at}
use Rattle.model.specs.Version.{held}
use Rattle.model.specs.Form.{zero_rows, zero_version}
use Rattle.layout.specs.Reading.{read_place}
use Rattle.layout.proofs.Readings.{held_word, present-word}
use Rattle.version.specs.Places.{Area}
use Rattle.version.proofs.Areas.{key_in, leaders-word}

-- ---- the past of a version

flat-present : (z : Counts) (l : List ℕ) (v : ℕ)
    → present (past_size z) (clock_at l (row_at z v 0))
    ≡ any_below z.keys (λ d. present z.writers (clock_at l (row_at z v d)))
unfolding present clock_at row_at past_size
flat-present z l v =
    let W = z.writers in
    let set : Items = λ i. leb 1 (get_or l (v + (past_offset + 0 * W) + i) 0) in
    let row : ℕ → Items = λ d w. leb 1 (get_or l (v + (past_offset + d * W) + w) 0) in
    any-rows set W z.keys
    ∙ any_same z.keys (λ d. any_below W (λ w. set (d * W + w))) (λ d. any_below W (row d))
    (λ d i. any_same W (λ w. set (d * W + w)) (row d) (λ w j.
    let e : v + (past_offset + 0 * W) + (d * W + w) ≡ v + (past_offset + d * W) + w = omega arith
    in
    rw e))

pub flat_rows : (z : Counts) (l : List ℕ) (at k : ℕ) → k < z.keys
    → not (present (past_size z) (clock_at l (row_at z (key_at z at k) 0)))
    ≡ zero_rows z (read_place z l at k)
unfolding zero_rows
flat_rows z l at k h =
    let v = key_at z at k in
    let row : Items = λ d. present z.writers (clock_at l (row_at z v d)) in
    ap not (flat-present z l v)
    ∙ sym (all-not z.keys row)
    ∙ all_same z.keys (λ d. not (row d))
    (λ d. not (present z.writers ((read_place z l at k).past d)))
    (λ d i. ap not (sym (present-word z l at k d h i)))

pub past_in : (len : ℕ) (z : Counts) (at : ℕ) → Area len z at → (k : ℕ) → k < z.keys
    → row_at z (key_at z at k) 0 + past_size z ≤ len
unfolding row_at version_size
past_in len z at A k h = omega (arith, key_in len z at A k h)

-- ---- a place

-- The words of a version: its number, its mask and its past.
flat-version : (z : Counts) (l : List ℕ) (v : ℕ)
    → any_below (version_size z) (λ i. leb 1 (get_or l (v + i) 0))
    ≡ (leb 1 (get_or l v 0) || leb 1 (get_or l (v + leaders_offset) 0))
    || present (past_size z) (clock_at l (row_at z v 0))
unfolding any_below present clock_at row_at version_size
flat-version z l v =
    let set : Items = λ i. leb 1 (get_or l (v + i) 0) in
    let past : Items = λ i. leb 1 (get_or l (v + (past_offset + 0 * z.writers) + i) 0) in
    any-plus set past_offset (past_size z)
    ∙ ap₂ ◌||◌ (ap (λ (i : ℕ). leb 1 (get_or l i 0) || set 1) (add-zero v))
    (any_same (past_size z) (λ i. set (past_offset + i)) past (λ i _.
    let e : v + (past_offset + i) ≡ v + (past_offset + 0 * z.writers) + i = omega arith in
    rw e))

-- A version of zeros.
zero-version : (z : Counts) (l : List ℕ) (at k : ℕ) → k < z.keys
    → not (any_below (version_size z) (λ i. leb 1 (get_or l (key_at z at k + i) 0)))
    ≡ not (held (read_place z l at k)) && zero_version z (read_place z l at k)
unfolding zero_version
zero-version z l at k h =
    let v = key_at z at k in
    ap not (flat-version z l v)
    ∙ none (leb 1 (get_or l v 0)) (leb 1 (get_or l (v + leaders_offset) 0)) _
    ∙ ap₂ (λ (a b : Bool). not a && b) (sym (held_word z l at k h))
    (ap₂ ◌&&◌ (zero (get_or l (v + leaders_offset) 0)
    ∙ ap (λ (m : ℕ). eqb m 0) (sym (leaders-word z l at k h))) (flat_rows z l at k h))
  where
    none : (a b c : Bool) → not ((a || b) || c) ≡ not a && (not b && not c)
    none true b c = refl
    none false true c = refl
    none false false c = refl

    zero : (n : ℕ) → not (leb 1 n) ≡ eqb n 0
    zero n =
        test (eqb n 0) (λ y. rw (y, gt-leb 1 n (omega (arith, eqb-eq n 0 y))))
        (λ y. rw (y, le-leb 1 n (omega (arith, eqb-ne n 0 y))))

pub flat-place : (z : Counts) (l : List ℕ) (at : ℕ)
    → not (present (place_size z) (clock_at l at))
    ≡ all_below z.keys (λ k. not (held (read_place z l at k))
    && zero_version z (read_place z l at k))
unfolding present clock_at place_size key_at
flat-place z l at =
    let n = version_size z in
    let set : Items = λ i. leb 1 (get_or l (at + i) 0) in
    let word : ℕ → Items = λ k i. leb 1 (get_or l (at + k * n + i) 0) in
    ap not (any-rows set n z.keys
    ∙ any_same z.keys (λ k. any_below n (λ i. set (k * n + i))) (λ k. any_below n (word k))
    (λ k _. any_same n (λ i. set (k * n + i)) (word k) (λ i _.
    let e : at + (k * n + i) ≡ at + k * n + i = omega arith in
    rw e)))
    ∙ sym (all-not z.keys (λ k. any_below n (word k)))
    ∙ all_same z.keys (λ k. not (any_below n (word k)))
    (λ k. not (held (read_place z l at k)) && zero_version z (read_place z l at k))
    (λ k h. zero-version z l at k h)
