-- Pick keeps a store fine: the run that it picks is one of the runs.
-- Assumes nothing.
use mathlib.Core.Path.{refl}
use Prim.Native.Nat.{◌<◌}
use lib.Dec.{ltb}
use Rattle.words.proofs.Bools.{test, ltb-lt}
use Rattle.words.proofs.Turns.{turn_low}
use Rattle.model.specs.Tail.{tail_round}
use Rattle.model.specs.Store.{Store, with_tail_of, with_round}
use Rattle.model.specs.Calls.Pick.{pick_turn, picked_run, pick_done, pick_rule}
use Rattle.model.proofs.Formed.{TailFormed, well-out}
use Rattle.model.proofs.FormedNext.{formed-tail}
use Rattle.layout.proofs.Tail.{fit-round}
use Rattle.layout.proofs.Fit.{fit-tail}
use Rattle.layout.proofs.Follow.{Fine}
use Rattle.layout.proofs.Kept.{Kept, kept-done}

pub picked_low : (s : Store) → Fine s → pick_turn s < s.counts.runs
    → picked_run s < s.counts.runs
unfolding picked_run
picked_low s F h =
    let low = (well-out s F.formed).tail.round in
    turn_low s.counts.runs s.tail.round (pick_turn s) low h

pub pick-kept : (s : Store) → Fine s → Kept s (pick_rule s)
unfolding pick_rule pick_done with_tail_of
pick-kept s F =
    let P = s.counts.runs in
    test (ltb (pick_turn s) P)
    (λ y.
    let r = picked_run s in
    let t = tail_round s.tail r in
    let W = well-out s F.formed in
    let formed : TailFormed s.counts t = record {
      round = picked_low s F (ltb-lt (pick_turn s) P y);
      may_hold = W.tail.may_hold;
      may_save = W.tail.may_save;
    } in
    rw y
    (kept-done s (with_round s r) _ F
    (fit-tail s F.fits t (fit-round s.counts s.tail F.fits.tail r))
    (formed-tail s W t formed W.right) refl))
    (λ n. rw n (record { fine = F; counts = refl }))
