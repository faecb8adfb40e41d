-- A list of calls followed: at each point the buffer holds a fine store, and the invariant holds.
-- At: such a point. start-at, admitted-at, advance-at, follow-at.
-- Assumes nothing.
use mathlib.Core.Path.{◌≡◌, refl, sym, ap, ◌∙◌}
use mathlib.Core.Bool.{So, false≢true}
use mathlib.Core.List.{List, [], ◌∷◌}
use Prim.Native.Nat.{ℕ}
use native.Mathlib.Decide.{ℕ_discrete}
use Rattle.words.proofs.Bools.{and_left}
use Rattle.sizes.specs.Bounds.{counts_of}
use Rattle.sizes.specs.declared.Counts.{Counts}
use Rattle.model.specs.Store.{Store, fresh}
use Rattle.model.specs.Outcome.{Outcome, refused, broken, done, told, unless, replied}
use Rattle.model.specs.Form.{well_formed}
use Rattle.model.specs.Calls.Audit.{Verdict, unreadable, judged, audit_reply}
use Rattle.model.specs.Calls.{StoreCall, admit, ask, rule_of}
use Rattle.model.proofs.Outcomes.{next_store}
use Rattle.model.proofs.Admits.{admissible-out}
use Rattle.layout.specs.Reading.{store_of}
use Rattle.layout.specs.Buffer.{written, shaped, in_form}
use Rattle.layout.specs.Calls.{Call, new, audit, on, new_cause, new_on, call_on, leaves, is_ok_of}
use Rattle.layout.proofs.Whole.{store_kept, store-back}
use Rattle.layout.proofs.Follow.{Fine, fine_rule, fine-leaves, form-fine}
use Rattle.layout.proofs.Rules.{rule_kept, new-fine, new-done, new-refused}
use Rattle.history.specs.Book.{fresh_book, book_ok, book_step}
use Rattle.consistency.specs.Trace.{Trace, start, admitted, finish, advance, follow}
use Rattle.consistency.proofs.Invariant.{Inv, Moves}
use Rattle.consistency.proofs.Changing.{inv-fresh}
use Rattle.consistency.proofs.Admitting.{admit-ok, inv-admitted}
use Rattle.consistency.proofs.Calls.{laws}

pub record At (t : Trace) : Type 0 where
  pub store : Store
  pub base : List ℕ
  pub holds : t.buffer ≡ written store base
  pub fine : Fine store
  pub inv : Inv store t.book t.finished

-- ---- a call on a store

module _ (c : StoreCall) (t : Trace) (s : Store) (l : List ℕ) (e : t.buffer ≡ written s l) where
  -- The point after an outcome, from what the call has shown of it.
  outcome-at : (x : Outcome) → call_on (on c) t.buffer ≡ x
      → leaves x t.buffer ≡ written (next_store x s) l → Fine (next_store x s)
      → Moves c s t.book t.finished x → At (advance (on c) t)
  unfolding advance book_step book_ok is_ok_of
  outcome-at (refused n) p q F m =
      rw p (record { store = s; base = l; holds = q; fine = F; inv = m })
  outcome-at (broken a u) p q F m =
      rw p (record { store = u; base = l; holds = q; fine = F; inv = m })
  outcome-at (done a u) p q F m =
      let back : store_of (leaves (done a u) t.buffer) ≡ u =
      ap store_of q ∙ store-back u l F.fits in
      rw p (record { store = u; base = l; holds = q; fine = F; inv = rw back m })
  outcome-at (told w a) p q F m =
      let back : store_of (leaves (told w a) t.buffer) ≡ s =
      ap store_of q ∙ store-back s l F.fits in
      rw p (record { store = s; base = l; holds = q; fine = F; inv = rw back m })

  call-at : Fine s → Inv s t.book t.finished → At (advance (on c) t)
  call-at F I =
      let K = rule_kept c s F in
      let rule = ap (call_on (on c)) e ∙ fine_rule c s l F in
      let after = rw (fine_rule c s l F) at (fine-leaves c s l F K.counts) in
      outcome-at (rule_of c s) rule (rw e after) K.fine
      ((laws c s F).moves t.book t.finished I)

-- ---- new

-- The fresh store on any buffer.
fresh_at : (l : List ℕ) (z : Counts) → new_cause l z ≡ 0
    → At (record { buffer = written (fresh z) l; book = fresh_book z; finished = λ r. [] })
fresh_at l z e = record {
  store = fresh z;
  base = l;
  holds = refl;
  fine = new-fine l z.keys z.writers z.sites z.runs e;
  inv = inv-fresh z;
}

again-at : (k w n p : ℕ) (t : Trace) → At t → At (advance (new k w n p) t)
unfolding advance call_on book_step book_ok is_ok_of leaves finish
again-at k w n p t A =
    let z = counts_of k w n p in
    elim (ℕ_discrete (new_cause t.buffer z) 0) [
      | yes e ↦ rw (new-done t.buffer z e) (fresh_at t.buffer z e)
      | no e ↦ rw (new-refused t.buffer z e) A
    ]

-- An audit changes nothing.
audit-at : (v : Verdict) (t : Trace) → At t → At (advance (audit v) t)
unfolding advance call_on audit_reply replied unless book_step book_ok is_ok_of leaves finish
audit-at unreadable t A = record {
  store = A.store;
  base = A.base;
  holds = A.holds;
  fine = A.fine;
  inv = A.inv;
}
audit-at (judged n) t A = record {
  store = A.store;
  base = A.base;
  holds = A.holds;
  fine = A.fine;
  inv = A.inv;
}

-- ---- lists

pub start-at : (z : Counts) (l : List ℕ) → So (is_ok_of (new_on l z)) → At (start z l)
unfolding start is_ok_of leaves
start-at z l ok =
    elim (ℕ_discrete (new_cause l z) 0) [
      | yes e ↦ rw (new-done l z e) (fresh_at l z e)
      | no e ↦ absurd (false≢true (rw (new-refused l z e) at ok))
    ]

-- On a buffer that was admitted.
pub admitted-at : (l : List ℕ) → So (is_ok_of (call_on (on (ask admit)) l)) → At (admitted l)
unfolding admitted in_form
admitted-at l ok =
    let r = (admit-ok l).0 ok in
    let s = store_of l in
    let F = form-fine l r.0 in
    record {
      store = s;
      base = l;
      holds = sym (store_kept l (and_left (shaped l) (well_formed s) r.0));
      fine = F;
      inv = inv-admitted s F (admissible-out s r.1);
    }

pub advance-at : (c : Call) (t : Trace) → At t → At (advance c t)
advance-at (new k w n p) t A = again-at k w n p t A
advance-at (audit v) t A = audit-at v t A
advance-at (on c) t A = call-at c t A.store A.base A.holds A.fine A.inv

pub follow-at : (cs : List Call) (t : Trace) → At t → At (follow cs t)
unfolding follow
follow-at [] t A = A
follow-at (c ∷ cs) t A = follow-at cs (advance c t) (advance-at c t A)
