-- A store in a buffer: written, and the test of form (document 01: "in form").
-- shaped: header and length are right. in_form: shaped, and the store is well formed.
-- Assumes nothing.
use Rattle.std.specs.Prelude.{Bool, ◌&&◌, List, ◌++◌, ℕ, eqb, leb, drop, length}
use Rattle.sizes.specs.Bounds.{header_size, master_offset, sites_at_offset, writers_at_offset, runs_at_offset, total_offset, ranged, master_at, sites_at, writers_at, runs_at, total_of}
use Rattle.sizes.specs.declared.Counts.{Counts}
use Rattle.model.specs.Store.{Store}
use Rattle.model.specs.Form.{well_formed}
use Rattle.layout.specs.Words.{store_words}
use Rattle.layout.specs.Reading.{read_word_of, counts_in, store_of}

-- The buffer with the store in it. "Words past the total are never touched."
unfoldable pub written : Store → List ℕ → List ℕ
written s l = store_words s ++ drop (total_of s.counts) l

-- The offsets and total in the header follow from the counts.
unfoldable pub header_right : List ℕ → Counts → Bool
header_right l z =
    eqb (read_word_of l master_offset) (master_at z)
    && (eqb (read_word_of l sites_at_offset) (sites_at z)
    && (eqb (read_word_of l writers_at_offset) (writers_at z)
    && (eqb (read_word_of l runs_at_offset) (runs_at z)
    && eqb (read_word_of l total_offset) (total_of z))))

-- "the buffer has 10 words and the total; counts, offsets and total are as above"
unfoldable pub shaped : List ℕ → Bool
shaped l =
    let z = counts_in l in
    leb header_size (length l) && (ranged z && (header_right l z && leb (total_of z) (length l)))

unfoldable pub in_form : List ℕ → Bool
in_form l = shaped l && well_formed (store_of l)
