-- `led_from` has the keys to which a key leads.
-- Assumes nothing.
use Rattle.std.proofs.Common.{rules}
use Rattle.words.proofs.Bools.{test}
use Rattle.masks.specs.Mask.{test_bit}
use Rattle.sets.specs.Leads.{led_within}
use Rattle.sets.proofs.growth.led_from.Goals as goal

pub returns : goal.returns
unfolding led_within
returns g c = λ edge h.
    let a = c.args in
    c.mask_of.ensures (led_within a.scope edge a.t)
    (λ k b l q. test (test_bit a.scope k)
    (λ y. rw y (h a.t k b c.requires.t_lt_keys l (search rules)))
    (λ n. rw n (search rules)))
