-- What the program has handed to write, as far as a contract can tell.
-- chunk_room: how much at once. Written: so many lines of the listing, chunk by chunk. chunks: the
-- fronts of the buffer, one after the other.
-- Assumes nothing.
use Rattle.std.specs.Prelude.{◌≡◌, false, List, [], ◌++◌, ℕ, ◌+◌, take}
use Rattle.listing.specs.Lines.{lines_from}
use Rattle.streams.specs.declared.Output.{Output}
use Rattle.streams.specs.Streams.{Hands}

abbrev pub chunk_room : ℕ
chunk_room = 65536

-- As many lines of the listing, from the first on, are counted as handed to write. none: nothing
-- yet. more: n lines more, after a write that didn't fail. They are the front of the buffer out as
-- the turn leaves it, and as many bytes were handed over from the front of a buffer as long: which
-- bytes write took, no contract can tell.
pub data Written : ℕ → Output → Type 0 where
  none : (o : Output) → o.all ≡ 0 → o.failed ≡ false → Written 0 o
  more : (i n : ℕ) (o p : Output) (out : List ℕ) → Written i o → o.failed ≡ false
      → Hands o p out → take p.count out ≡ lines_from i n → Written (i + n) p

-- The bytes at the front of the buffer, of all chunks.
unfoldable pub chunks : {i : ℕ} {o : Output} → Written i o → List ℕ
chunks (none o e f) = []
chunks (more i n o p out w f h e) = chunks w ++ take p.count out
