-- What a reader of a record hands out (CR 14: "A read is a sheet and W counts").
-- read_from_of: the read at an index.
-- Assumes nothing.
use Rattle.std.specs.Prelude.{Option, Some, None, cond, List, ℕ, ◌+◌, ltb, length, get_or}
use Rattle.reader.specs.declared.Read.{Read}

-- The read of a key and w counts at an index: its key, the index of its counts and that of the
-- next read; or none, if the words end before it does.
unfoldable pub read_from_of : List ℕ → ℕ → ℕ → Option Read
read_from_of l at w =
    cond (ltb (at + w) (length l))
    (Some (record { key = get_or l at 0; counts = at + 1; next = at + 1 + w })) None
