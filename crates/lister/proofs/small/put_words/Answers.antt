-- `lister::small::put_words` puts the word, then the numbers. Assumes nothing.
use native.Mathlib.Omega.{arith}
use lib.ListN.{take, get_or, drop}
use Rattle.text.proofs.Puts.{put_both}
use Rattle.print.specs.Print.{numbers_text}
use Rattle.listing.specs.Lines.{kind_word}
use Rattle.lister.proofs.small.put_words.Goals as goal

pub returns : goal.returns
returns c =
    let a = c.args in (
      omega arith,
      put_both (take a.at a.out.now) (kind_word (get_or a.words.now 0 0))
          (numbers_text (drop 1 a.words.now))
          (rw c.word_of.ensures.word at c.put_bytes-word_end.ensures.1)
          c.put_numbers.ensures.1,
    )
