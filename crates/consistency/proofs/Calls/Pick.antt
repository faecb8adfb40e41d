-- The laws of pick: the book stays, and it is on no run.
-- inv-tail: the invariant asks nothing of the tail.
-- Assumes nothing.
use mathlib.Core.Path.{refl}
use mathlib.Core.List.{List}
use Prim.Native.Nat.{ℕ}
use lib.Dec.{ltb}
use Rattle.words.proofs.Bools.{test}
use Rattle.model.specs.Tail.{Tail, tail_round}
use Rattle.model.specs.Store.{Store, with_tail_of}
use Rattle.model.specs.Calls.{pick}
use Rattle.model.specs.Calls.Pick.{pick_turn, picked_run, pick_done, pick_rule}
use Rattle.layout.proofs.Follow.{Fine}
use Rattle.history.specs.Book.{Book, book_rule, book_step}
use Rattle.consistency.specs.Roles.{role_of}
use Rattle.consistency.specs.Trace.{ReadSet, finish_by, finish}
use Rattle.consistency.proofs.Invariant.{Follows, Inv}
use Rattle.consistency.proofs.Laws.{Laws}

follows-tail : {s : Store} {b : Book} → Follows s b → (t : Tail) → Follows (with_tail_of s t) b
unfolding with_tail_of
follows-tail F t = record {
  counts = F.counts;
  last = F.last;
  based = F.based;
  lists = F.lists;
  sound = F.sound;
  master = F.master;
  led-master = F.led-master;
  every = F.every;
  cache = F.cache;
  led-cache = F.led-cache;
  closed = F.closed;
  writer = λ w l. record { count = (F.writer w l).count; past = (F.writer w l).past };
  run = F.run;
}

pub inv-tail : {s : Store} {b : Book} {f : ℕ → List ReadSet} → Inv s b f → (t : Tail)
    → Inv (with_tail_of s t) b f
unfolding with_tail_of
inv-tail v t =
    record {
      follows = follows-tail v.follows t;
      reads = v.reads;
      covered = v.covered;
      no_run = v.no_run;
    }

pub pick-laws : (s : Store) → Fine s → Laws pick s (pick_rule s)
unfolding pick_rule pick_done with_tail_of book_step book_rule finish finish_by role_of
pick-laws s _ =
    test (ltb (pick_turn s) s.counts.runs)
    (λ y. rw y (record {
      moves = λ b f v. inv-tail v (tail_round s.tail (picked_run s));
      turns = refl;
    }))
    (λ n. rw n (record { moves = λ b f v. v; turns = refl }))
