-- `put_picked` puts the words of each case.
-- Assumes nothing.
use Rattle.pick.specs.Answers.{picked_words}
use Rattle.pick.proofs.put_picked.Goals as goal

pub returns-in-Some : goal.returns-in-Some
unfolding picked_words
returns-in-Some c = rw c.in-Some.is c.put_three.ensures

pub returns-in-None : goal.returns-in-None
unfolding picked_words
returns-in-None c = rw c.in-None.is c.put_one.ensures
