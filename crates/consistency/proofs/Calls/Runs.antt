-- The laws of open, of drop and of the calls that only answer.
-- Assumes nothing.
use mathlib.Core.Path.{◌≡◌, refl}
use mathlib.Core.Bool.{So}
use mathlib.Core.List.{List}
use Prim.Native.Nat.{ℕ, ◌<◌}
use native.Mathlib.Omega.{arith}
use lib.Dec.{eqb}
use Rattle.words.proofs.Bools.{test, leb-gt}
use Rattle.model.specs.Store.{Store, free_run, with_run}
use Rattle.model.specs.Outcome.{open_row_of, open_state, free_state, allowed, run_cause, replied}
use Rattle.model.specs.Calls.{Query, open_run, drop_run, ask, reply_of}
use Rattle.model.specs.Runs.{listed_count, listed_jobs, open_cause, opened_run, open_done, open_rule, drop_cause, drop_done, drop_rule}
use Rattle.model.proofs.Outcomes.{no-cause, no-lack, free-state, replied-cases}
use Rattle.model.proofs.Formed.{well-out}
use Rattle.model.proofs.Plans.{state-low}
use Rattle.layout.proofs.Follow.{Fine}
use Rattle.history.specs.Book.{no_run, book_open, book_rule, book_ok, book_step}
use Rattle.consistency.specs.Roles.{role_of}
use Rattle.consistency.specs.Trace.{finish_by, finish}
use Rattle.consistency.proofs.Laws.{Laws, laws-unless}
use Rattle.consistency.proofs.Following.{empty-follows, free-follows}
use Rattle.consistency.proofs.Changing.{free-unread, inv-anew}

-- Only a free run is opened.
open_free : (r : ℕ) (s : Store) → Fine s → r < s.counts.runs
    → So (allowed open_row_of (s.run r).state) → (s.run r).state ≡ free_state
open_free r s F l a =
    let low = state-low s.counts (s.run r) ((well-out s F.formed).run r l) in
    free-state (s.run r).state low a

pub open_laws : (r : ℕ) (l : List ℕ) (s : Store) → Fine s → Laws (open_run r l) s (open_rule r l s)
unfolding open_rule open_done open_cause run_cause opened_run with_run book_rule book_open finish
    finish_by
    role_of
open_laws r l s F =
    laws-unless (open_run r l) s (open_cause s r l) (open_done s r l) (λ e.
    let x = no-cause _ 3 _ (omega arith) e in
    let low = leb-gt _ _ x.0 in
    record {
      moves = λ b f v.
          inv-anew v r _ _ (empty-follows s.counts.writers s.counts.keys b.history
          b.base
          open_state (listed_count l) 0 (listed_jobs l)) low
          (λ n. test (eqb n 0) (λ y. rw y refl) (λ y. rw y refl));
      turns = record {
        run = opened_run l;
        how = (open_free r s F low (no-lack _ 4 _ (omega arith) x.1).0, refl);
        put = refl;
      };
    })

pub drop-laws : (r : ℕ) (s : Store) → Fine s → Laws (drop_run r) s (drop_rule r s)
unfolding drop_rule drop_done drop_cause run_cause with_run book_rule finish finish_by role_of
drop-laws r s _ =
    laws-unless (drop_run r) s (drop_cause s r) (drop_done s r) (λ e. record {
      moves = λ b f v.
          inv-anew v r free_run no_run
          (free-follows s.counts.writers s.counts.keys b.history b.base)
          (leb-gt _ _ (no-cause _ 3 _ (omega arith) e).0)
          free-unread;
      turns = record { run = free_run; how = refl; put = refl };
    })

-- A call that only answers: the book and what has been read stay, whatever its first word.
pub ask-laws : (q : Query) (s : Store) → Fine s → Laws (ask q) s (replied (reply_of q s))
unfolding book_step book_ok book_rule finish finish_by role_of
ask-laws q s _ =
    let a = reply_of q s in
    replied-cases (Laws (ask q) s) a (record {
      moves = λ b f v. test (eqb a.word 0) (λ y. rw y v) (λ n. rw n v);
      turns = refl;
    }) (record { moves = λ b f v. v; turns = tt })
