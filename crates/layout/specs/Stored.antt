-- A part of a store, stored in a buffer from an index on (`sets` of the kit stores a list).
-- put_past, put_version, put_place, put_writer, put_run.
-- Assumes nothing.
use Rattle.std.specs.Prelude.{List, ℕ}
use Rattle.std.proofs.lemmas.List.Edits.{sets}
use Rattle.clock.specs.Clock.{Clock}
use Rattle.sizes.specs.declared.Counts.{Counts}
use Rattle.model.specs.Algebra.{Place}
use Rattle.model.specs.Version.{Version}
use Rattle.model.specs.Store.{Writer, Run}
use Rattle.layout.specs.Words.{past_words, version_words, place_words, writer_words, run_words}

abbrev pub put_past : Counts → List ℕ → ℕ → (ℕ → Clock) → List ℕ
put_past z l at p = sets l at (past_words z p)

abbrev pub put_version : Counts → List ℕ → ℕ → Version → List ℕ
put_version z l at v = sets l at (version_words z v)

abbrev pub put_place : Counts → List ℕ → ℕ → Place Version → List ℕ
put_place z l at p = sets l at (place_words z p)

abbrev pub put_writer : Counts → List ℕ → ℕ → Writer → List ℕ
put_writer z l at x = sets l at (writer_words z x)

abbrev pub put_run : Counts → List ℕ → ℕ → Run → List ℕ
put_run z l at a = sets l at (run_words z a)
