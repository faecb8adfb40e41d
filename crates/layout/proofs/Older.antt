-- A desk saved in the base's layout, whose versions had no mask, isn't in form: its shelves begin
-- elsewhere (base-refused).
-- Assumes nothing.
use mathlib.Core.Path.{◌≡◌, ap}
use mathlib.Core.Bool.{false}
use mathlib.Core.List.{List}
use Prim.Native.Nat.{ℕ, ◌+◌, ◌*◌}
use native.Mathlib.Nat.{mul-add, mul-one}
use native.Mathlib.Omega.{arith}
use lib.ListN.{get_or}
use Rattle.words.specs.Lists.{window}
use Rattle.words.proofs.Bools.{test, and_left}
use Rattle.sizes.specs.Bounds.{header_size, sites_at_offset, sites_at, master_at, past_size, version_size, place_size}
use Rattle.model.specs.Form.{well_formed}
use Rattle.layout.specs.Words.{header_words}
use Rattle.layout.specs.Reading.{read_word_of, counts_in, store_of}
use Rattle.layout.specs.Buffer.{shaped, in_form}
use Rattle.layout.proofs.Shapes.{Shaped, shaped_out}

-- Where the shelves begin, by the header of a buffer of the right shape.
sites-word : (l : List ℕ) → Shaped l → sites_at (counts_in l) ≡ read_word_of l sites_at_offset
unfolding header_words window
sites-word l S = ap (λ (t : List ℕ). get_or t sites_at_offset 0) S.header

-- "V = 1 + K·W": the master took K words less.
pub base-refused : (l : List ℕ) → let z = counts_in l in
    read_word_of l sites_at_offset ≡ header_size + z.keys * (1 + past_size z) → in_form l ≡ false
unfolding in_form sites_at master_at place_size version_size
base-refused l e =
    test (in_form l)
    (λ p.
    let z = counts_in l in
    let S = shaped_out l (and_left (shaped l) (well_formed (store_of l)) p) in
    let more : z.keys * (1 + past_size z + 1) ≡ z.keys * (1 + past_size z) + z.keys * 1 =
    mul-add z.keys (1 + past_size z) 1 in
    let two : 2 + past_size z ≡ 1 + past_size z + 1 = omega arith in
    let size : z.keys * (2 + past_size z) ≡ z.keys * (1 + past_size z + 1) =
    ap (λ (n : ℕ). z.keys * n) two in
    absurd (omega (arith, sites-word l S, e, more, size, mul-one z.keys, S.counts.keys-low)))
    (λ n. n)
