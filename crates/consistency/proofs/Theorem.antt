-- Demand 3, proved: the claim of specs/Claim for every list of calls after an accepted new, and
-- after an admission.
-- began_consistent: both; demand_3, after_admission: each.
-- Assumes nothing.
use mathlib.Core.Path.{ap, ◌∙◌, sym}
use mathlib.Core.Logic.{inl}
use mathlib.Core.List.{List}
use Prim.Native.Nat.{ℕ}
use Rattle.words.proofs.Bools.{◌∙˙◌}
use Rattle.clock.specs.Clock.{Clock}
use Rattle.model.specs.Store.{Store}
use Rattle.model.specs.Calls.{step, rule_of}
use Rattle.layout.specs.Reading.{store_of}
use Rattle.layout.specs.Buffer.{in_form}
use Rattle.layout.proofs.Whole.{store-back}
use Rattle.layout.proofs.Follow.{Fine, fine-form}
use Rattle.layout.proofs.Forms.{form_rule}
use Rattle.history.specs.Book.{Book}
use Rattle.history.proofs.Behind.{past-is-before}
use Rattle.history.proofs.Lists.{list-is-before}
use Rattle.consistency.specs.Trace.{ReadSet, Trace, start, admitted}
use Rattle.consistency.specs.Listed.{ListsHold}
use Rattle.consistency.specs.Claim.{Holds, HoldsAt, Began, by_new, by_admission, BeganConsistent, Demand3, AfterAdmission}
use Rattle.consistency.proofs.Invariant.{Inv}
use Rattle.consistency.proofs.Following.{lists-copy, master-related, cache-related, cache-part, cache-admitted, snapshot-related}
use Rattle.consistency.proofs.Leads.{led-place, named}
use Rattle.consistency.proofs.Covering.{admissible-now, caches-behind, snapshots-behind}
use Rattle.consistency.proofs.Marking.{marks_true, marks-copies, within, unbarred}
use Rattle.consistency.proofs.Cutting.{cuts, overlaps, breaks}
use Rattle.consistency.proofs.Finished.{read-counted, read-led, read-lists, read-placed, read-single, read_kept, shared}
use Rattle.consistency.proofs.Points.{At, start-at, admitted-at, follow-at}

-- What stands behind of the admitted saves.
lists-hold : (s : Store) (b : Book) (f : ℕ → List ReadSet) → Inv s b f → ListsHold s b f
lists-hold s b f I =
    let G = I.follows in
    record {
      issues = list-is-before b.base b.history G.lists.carried s.counts.keys
          s.counts.writers G.sound;
      master = λ k l. lists-copy G (G.master k l).good;
      caches = λ o l k h. lists-copy G ((G.closed o l).good k h);
      snapshots = λ r n l k h. lists-copy G (((G.run r l).line n).closed.good k h);
      reads = read-lists s b f I;
      every = λ k u l. ap (λ (p : Clock). p u) (G.master k l).all;
    }

-- The claim, read off the invariant.
pub inv-holds : (s : Store) (b : Book) (f : ℕ → List ReadSet) → Fine s → Inv s b f → Holds s b f
inv-holds s b f F I =
    let G = I.follows in
    record {
      counts = G.counts;
      behind = past-is-before G.sound;
      lists = lists-hold s b f I;
      cuts = cuts G;
      master = λ k l. (G.master k l).counts;
      caches = G.cache;
      snapshots = λ r n l. ((G.run r l).line n).snapshot;
      reads = read-counted s b f I;
      leads = λ e. record {
        led-master = led-place G e (master-related G);
        led-caches = λ o l. led-place G e (cache-related G o l);
        led-snapshots = λ r n l. led-place G e (snapshot-related G r n l);
        led-reads = read-led s b f I e;
        named = named G e;
      };
      shared = shared s b f I F;
      placed = read-placed s b f I;
      single = read-single s b f I;
      kept = read_kept s b f I;
      covered = λ r n k l. I.covered r l n k;
      overlaps = overlaps G;
      every-save = λ k i. G.every k i;
      admissible = admissible-now G;
      behind-caches = caches-behind G;
      behind-snapshots = snapshots-behind G;
      caches-part = λ o k i l h. cache-part G o l k (inl i) h;
      caches-admitted = cache-admitted G;
      marks_true = marks_true s F;
      within = within s F;
      unbarred = unbarred s F;
      marks-copies = marks-copies G F;
    }

pub point-holds : (t : Trace) → At t → HoldsAt t
unfolding rule_of
point-holds t A =
    let s = A.store in
    let back = ap store_of A.holds ∙ store-back s A.base A.fine.fits in
    let form = sym (ap in_form A.holds) ∙˙ fine-form s A.base A.fine in
    record {
      formed = form;
      holds = rw back (inv-holds s t.book t.finished A.fine A.inv);
      breaks = λ r j n.
          rw (form_rule (step r j n) t.buffer form, back)
          (breaks A.inv.follows A.fine r j n);
    }

-- Lists from new and from an admission: one proof, by how they begin.
began_at : (t : Trace) → Began t → At t
began_at t (by_new l z ok) = start-at z l ok
began_at t (by_admission l ok) = admitted-at l ok

pub began_consistent : BeganConsistent
began_consistent t B cs sofar rest e = point-holds _ (follow-at sofar t (began_at t B))

pub demand_3 : Demand3
demand_3 l z ok = began_consistent (start z l) (by_new l z ok)

pub after_admission : AfterAdmission
after_admission l ok = began_consistent (admitted l) (by_admission l ok)
