-- `leaders_of` reads the word behind the issue number of a key.
-- Assumes nothing.
use native.Mathlib.Omega.{arith}
use lib.ListN.{length}
use Rattle.version.proofs.Areas.{leaders_in, leaders-word}
use Rattle.version.proofs.leaders_of.Goals as goal

pub overflow_add-result : goal.overflow_add-result
overflow_add-result c =
    let a = c.args in
    let i = leaders_in (length a.words.now) a.z a.at c.requires.area a.k c.requires.k_lt_keys in
    omega arith

pub offset_bounds-words-version : goal.offset_bounds-words-version
offset_bounds-words-version c =
    let a = c.args in
    let i = leaders_in (length a.words.now) a.z a.at c.requires.area a.k c.requires.k_lt_keys in
    omega arith

pub bounds-words-version : goal.bounds-words-version
bounds-words-version c =
    let a = c.args in
    let i = leaders_in (length a.words.now) a.z a.at c.requires.area a.k c.requires.k_lt_keys in
    omega arith

pub returns : goal.returns
returns c =
    let a = c.args in
    rw (leaders-word a.z a.words.now a.at a.k c.requires.k_lt_keys, ← c.key_at-version.ensures)
