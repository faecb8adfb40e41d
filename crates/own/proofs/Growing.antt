-- Where no new is accepted the book keeps its counts, and its history goes on (CR 14).
-- GoesOn: so. entered-, step-goes: one call. follow-goes: a list.
-- Assumes nothing.
use mathlib.Core.Path.{◌≡◌, refl, ◌∙◌}
use mathlib.Core.Bool.{Bool, true, false, not, ◌&&◌, So}
use mathlib.Core.List.{List, [], ◌∷◌}
use Rattle.words.proofs.Bools.{clash, and_left, and_right}
use Rattle.model.specs.Calls.{StoreCall}
use Rattle.layout.specs.Calls.{Call, new, audit, on, call_on, leaves, is_new, is_ok_of}
use Rattle.history.specs.History.{History}
use Rattle.history.specs.Book.{Book, book_ok, book_step}
use Rattle.consistency.specs.Trace.{Trace, advance, follow}
use Rattle.records.proofs.Lying.{Grown, Grown.same, Grown.more}
use Rattle.own.specs.Claims.{goes_on_of}
use Rattle.own.proofs.Entering.{Enters, Enters.nothing, Enters.one, rule_enters}

pub record GoesOn (b c : Book) : Type 0 where
  pub counts : c.counts ≡ b.counts
  pub history : Grown b.history c.history

goes_same : (b : Book) → GoesOn b b
goes_same b = record { counts = refl; history = same }

goes-both : {b c d : Book} → GoesOn b c → GoesOn c d → GoesOn b d
goes-both {b} {c} {d} x y =
    record { counts = y.counts ∙ x.counts; history = grown x.history y.history }
  where
    grown : {h g l : History} → Grown h g → Grown g l → Grown h l
    grown x same = x
    grown x (more y) = more (grown x y)

entered-goes : {c : StoreCall} {b g : Book} → Enters c b g → GoesOn b g
entered-goes (nothing z e) = record { counts = z; history = rw e same }
entered-goes (one q z e) = record { counts = z; history = rw e (more same) }

step-goes : (c : Call) (ok : Bool) (b : Book) → So (not (is_new c && ok))
    → GoesOn b (book_step c ok b)
unfolding book_step book_ok is_new
step-goes c false b p = goes_same b
step-goes (new k w n q) true b p = clash p refl
step-goes (audit v) true b p = goes_same b
step-goes (on c) true b p = entered-goes (rule_enters c b)

pub follow-goes : (cs : List Call) (t : Trace) → So (goes_on_of cs t.buffer)
    → GoesOn t.book (follow cs t).book
unfolding follow goes_on_of advance
follow-goes [] t p = goes_same t.book
follow-goes (c ∷ cs) t p =
    let out = call_on c t.buffer in
    let rest = goes_on_of cs (leaves out t.buffer) in
    let now = not (is_new c && is_ok_of out) in
    goes-both (step-goes c (is_ok_of out) t.book (and_left now rest p))
    (follow-goes cs (advance c t) (and_right now rest p))
