-- `header_right` compares each offset and the total.
-- Assumes nothing.
use Rattle.sizes.specs.Bounds.{sizes_of}
use Rattle.layout.specs.Buffer.{header_right}
use Rattle.form.proofs.header.header_right.Goals as goal

pub returns : goal.returns
unfolding header_right sizes_of
returns c =
    rw (
      c.word_is.ensures,
      c.word_is-2.ensures,
      c.word_is-3.ensures,
      c.word_is-4.ensures,
      c.word_is-5.ensures,
      c.areas-s.ensures,
    )
