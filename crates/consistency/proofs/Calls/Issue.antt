-- The laws of issue: the book's history has one more issue, and the run is freed.
-- issued_book, issued-..: store and book with the new issue. writer-..: the writers.
-- Assumes nothing.
use mathlib.Core.Path.{◌≡◌, refl, sym, ◌∙◌}
use mathlib.Core.Bool.{So, false}
use mathlib.Core.Logic.{◌≢◌}
use mathlib.Core.List.{List, [], ◌∷◌}
use Prim.Native.Nat.{ℕ, ◌≤◌, ◌<◌, ◌^◌}
use native.Mathlib.Omega.{arith}
use native.Mathlib.Decide.{ℕ_discrete}
use lib.Dec.{eqb}
use lib.ListN.{length}
use Rattle.words.specs.Lists.{put_at}
use Rattle.words.proofs.Bools.{test, and_left, and_right, leb-gt}
use Rattle.words.proofs.Lists.{put_at_same, put_at_other}
use Rattle.masks.proofs.Bits.{test_low}
use Rattle.masks.proofs.Sets.{mask-some}
use Rattle.sizes.specs.declared.Counts.{Counts}
use Rattle.model.specs.Algebra.{Place}
use Rattle.model.specs.Store.{Store, free_run, site_with, with_caches, with_last, with_marks, with_master, with_sites, with_run, with_writer}
use Rattle.model.specs.Outcome.{run_cause}
use Rattle.model.specs.Issue.{issue_cause, issued_writer, saved_store, issued_store, issue_done, issue_rule}
use Rattle.model.specs.Calls.{issue}
use Rattle.model.proofs.Outcomes.{no-cause}
use Rattle.layout.proofs.Follow.{Fine}
use Rattle.history.specs.History.{saved}
use Rattle.history.specs.Listing.{BookCopy}
use Rattle.history.specs.Lists.{list_of}
use Rattle.history.specs.Book.{Book, no_run, with_book_run, entry, book_issue, book_issued, book_rule}
use Rattle.history.proofs.Notions.{Sound}
use Rattle.history.proofs.Past.{past-laws}
use Rattle.history.proofs.Sounds.{sound-issue}
use Rattle.history.proofs.Grown.{writer-count, other-count}
use Rattle.history.proofs.Carrying.{ListsSound, read-least, read-carries, lists-issue, list-most}
use Rattle.history.proofs.ListingEntered.{writer-rows, other-rows}
use Rattle.history.proofs.ListingIssued.{Whole}
use Rattle.consistency.specs.Roles.{role_of}
use Rattle.consistency.specs.Trace.{ReadSet, finish_by, finish}
use Rattle.consistency.proofs.Closing.{closed-grow}
use Rattle.consistency.proofs.Counting.{Masked}
use Rattle.consistency.proofs.Invariant.{WriterFollows, Follows, Inv, Moves}
use Rattle.consistency.proofs.Laws.{Laws, laws-unless}
use Rattle.consistency.proofs.Following.{by-counts, cache-related, free-follows, follows-run}
use Rattle.consistency.proofs.Changing.{nothing_read, nothing-covers, free-unread, inv-next, inv-anew}
use Rattle.consistency.proofs.Issuing.{stands-grow, place-grow, run-grow, issued_copies, issued-every, new_past-entered, issued_master-whole, issued_master-led}

-- ---- the book with the new issue, the run not yet freed

unfoldable issued_book : ℕ → ℕ → ℕ → Book → Book
issued_book r w S b = record {
  counts = b.counts;
  base = b.base;
  history = entry r w S b ∷ b.history;
  master = issued_copies b.counts.keys (entry r w S b) b.history b.base b.master;
  cache = b.cache;
  run = b.run;
}

-- With the run cleared this is the book after the call.
book-issued : (r w S : ℕ) (b : Book)
    → book_issue r w S b ≡ with_book_run (issued_book r w S b) r no_run
unfolding book_issue issued_book issued_copies entry with_book_run
book-issued r w S b = refl

-- An issue of the keys S by writer w, from run r.
module _ (s : Store) (b : Book) (F : Follows s b) (r w S : ℕ) (hr : r < s.counts.runs)
    (hw : w < s.counts.writers) (hS : S < 2 ^ s.counts.keys) (some : eqb S 0 ≡ false) where
  -- What the run had read are writes of keys of the store.
  issued-sound : Sound s.counts.keys s.counts.writers (entry r w S b ∷ b.history)
  unfolding entry
  issued-sound =
      let K = s.counts.keys in
      let G = (F.run r hr).line 0 in
      let c = (b.run r).branch in
      sound-issue K s.counts.writers (entry r w S b) b.history F.sound hw
      (λ d. test_low S K d hS) (mask-some K S hS some)
      (λ d j p.
      let l = G.low d (and_left (c.read d) ((c.snapshot d).later j) p) in
      let u = (G.closed.good d l).good.writes j
      (and_right (c.read d) ((c.snapshot d).later j) p) in
      (l, u.0, u.1))

  -- They list what was admitted, and carry it on.
  issued-lists : ListsSound b.base (entry r w S b ∷ b.history)
  unfolding entry
  issued-lists =
      let K = s.counts.keys in
      let G = (F.run r hr).line 0 in
      let c = (b.run r).branch in
      lists-issue b.base K s.counts.writers (entry r w S b) b.history issued-sound
      F.lists (rw (← F.counts) (λ d u.
      read-least K c.read c.snapshot d u (b.base.saves d u)
      (λ k l _. (G.closed.good k l).listed.low d u)))
      (rw (← F.counts) (λ d j p.
      read-carries b.base b.history K c.read c.snapshot
      (λ k l _. (G.closed.good k l).carries) d j
      (G.low d (and_left (c.read d) ((c.snapshot d).later j) p)) p))

  -- The writer has one issue more, whose past is its own now,
  writer-next : (v : ℕ) → v ≡ w
      → WriterFollows s.counts.keys (entry r w S b ∷ b.history) b.base
      (saved_store s r w S) v
  unfolding saved_store with_marks with_caches with_sites site_with with_last with_writer
      with_master
      issued_writer entry
  writer-next v q =
      let K = s.counts.keys in
      let e = entry r w S b in
      let h = b.history in
      let put = put_at_same s.writer w (issued_writer s r w S) in
      let within : (d u : ℕ) → list_of b.base (e ∷ h) (length h) d u ≤ b.base.count u =
      λ d u. omega (
        arith,
        list-most b.base
            F.based e h issued-lists d u,
        F.based.counts d u,
      )
      in
      let old = (F.writer w hw).count in
      record {
        count = rw (q, put) (omega (arith, writer-count K e h, old));
        past = rw (q, put) (new_past-entered s b F r w S hr hw
            ∙ sym (writer-rows K e h b.base (past-laws K h) within));
      }

  -- and the others are as they were.
  writer-same : (v : ℕ) → v < s.counts.writers → v ≢ w
      → WriterFollows s.counts.keys (entry r w S b ∷ b.history) b.base
      (saved_store s r w S) v
  unfolding saved_store with_marks with_caches with_sites site_with with_last with_writer
      with_master
      entry
  writer-same v l q =
      let K = s.counts.keys in
      let e = entry r w S b in
      let h = b.history in
      let put = put_at_other s.writer w (issued_writer s r w S) v q in
      let old = F.writer v l in
      let ne : w ≢ v = λ z. q (sym z) in
      record {
        count = rw put (omega (arith, old.count, other-count K e h v ne));
        past = rw put (old.past ∙ sym (other-rows K e h b.base (past-laws K h) v ne));
      }

  issued-follows : Follows (saved_store s r w S) (issued_book r w S b)
  unfolding saved_store with_marks with_caches with_sites site_with issued_book with_last
      with_writer
      with_master
  issued-follows =
      let W = s.counts.writers in
      let K = s.counts.keys in
      let B = b.base in
      let copies : Counts → Place BookCopy =
      λ z. issued_copies z.keys (entry r w S b) b.history b.base b.master in
      let e = entry r w S b in
      let h = b.history in
      record {
        counts = F.counts;
        last = omega (arith, F.last);
        based = F.based;
        lists = issued-lists;
        sound = issued-sound;
        master = by-counts F (λ z. (k : ℕ) → k < K
            → Whole K W (e ∷ h) B k ((saved_store s r w S).master k) (copies z k))
            (issued_master-whole s b F r w S hr hw issued-sound issued-lists);
        led-master = by-counts F
            (λ z. Masked W K (e ∷ h) B (saved_store s r w S).master (copies z))
            (issued_master-led s b F r w S hr hw issued-sound issued-lists);
        every = by-counts F
            (λ z. (d i : ℕ) → d < K → So (saved (e ∷ h) d i) → So ((copies z d).later i))
            (issued-every K e h B b.master F.every);
        cache = λ o l k i. (place-grow W K e h B (F.closed o l) (cache-related F o l) k i).counts;
        led-cache = λ o l q k i.
            (place-grow W K e h B (F.closed o l) (cache-related F o l) k i).led q;
        closed = λ o l. closed-grow (F.closed o l) e;
        writer = λ v l.
            elim (ℕ_discrete v w) [ yes q ↦ writer-next v q | no q ↦ writer-same v l q ];
        run = λ q l. run-grow W K e h B (F.run q l);
      }

  issued-inv : (f : ℕ → List ReadSet) → Inv s b f
      → Inv (with_run (saved_store s r w S) r free_run) (with_book_run (issued_book r w S b) r
      no_run)
      (put_at f r [])
  unfolding saved_store with_marks with_caches with_sites site_with issued_book with_last
      with_writer
      with_master with_run with_book_run
  issued-inv f v =
      let t = saved_store s r w S in
      let c = issued_book r w S b in
      let W = s.counts.writers in
      let K = s.counts.keys in
      inv-next (with_run t r free_run) (with_book_run c r no_run) (put_at f r []) r free_run
      no_run v
      (follows-run issued-follows r free_run no_run (free-follows W K c.history c.base))
      refl refl refl hr (put_at_other f r [])
      (λ k x y. stands-grow W K (entry r w S b) b.history b.base k x y)
      (nothing_read s c free_run no_run f r)
      (nothing-covers K free_run _ free-unread)

-- ---- the call

-- Of no keys: only the run is freed.
done-moves : (s : Store) (b : Book) (f : ℕ → List ReadSet) (r w S : ℕ) → Inv s b f
    → r < s.counts.runs → w < s.counts.writers → S < 2 ^ s.counts.keys
    → Moves (issue r w S) s b f (issue_done s r w S)
unfolding issue_done issued_store book_rule book_issued finish finish_by role_of
done-moves s b f r w S v hr hw hS =
    test (eqb S 0)
    (λ y. rw y (inv-anew v r free_run no_run
    (free-follows s.counts.writers s.counts.keys b.history b.base) hr
    free-unread))
    (λ n. rw (n, book-issued r w S b) (issued-inv s b v.follows r w S hr hw hS n f v))

pub issue-laws : (r w S : ℕ) (s : Store) → Fine s → Laws (issue r w S) s (issue_rule r w S s)
unfolding issue_rule issue_cause run_cause issue_done issued_store saved_store with_marks
    with_caches
    with_sites site_with with_run with_master with_writer with_last role_of
issue-laws r w S s _ =
    laws-unless (issue r w S) s (issue_cause s r w S) (issue_done s r w S) (λ e.
    let x = no-cause _ 3 _ (omega arith) e in
    let y = no-cause _ 3 _ (omega arith) x.1 in
    let z = no-cause _ 3 _ (omega arith) y.1 in
    record {
      moves = λ b f v.
          done-moves s b f r w S v (leb-gt _ _ z.0) (leb-gt _ _ x.0) (leb-gt _ _ y.0);
      turns = record {
        run = free_run;
        how = refl;
        put = test (eqb S 0) (λ t. rw t refl) (λ t. rw t refl);
      };
    })
