-- Issue: a finished run's keys are saved by a writer.
-- raise_cause: causes 9 and 10. taken_in (a past with the reads' pasts), rows_set (all rows of S
-- set), new_past (both), new_version. issued_master, issued_writer, saved_store, issued_store,
-- issued_number: what it leaves, and answers.
-- Assumes nothing.
use Rattle.std.specs.Prelude.{cond, not, ◌&&◌, [], ◌∷◌, ℕ, ◌+◌, ◌^◌, eqb, leb}
use Rattle.words.specs.Tests.{all_below}
use Rattle.words.specs.Numbers.{fold_below}
use Rattle.masks.specs.Mask.{test_bit}
use Rattle.clock.specs.Clock.{Clock, join}
use Rattle.clock.specs.Count.{max_word}
use Rattle.model.specs.Algebra.{Place}
use Rattle.model.specs.Version.{Version, merge}
use Rattle.model.specs.Tail.{barred}
use Rattle.model.specs.Store.{forked_mark, Store, Writer, free_run, with_last, with_marks, with_master, with_run, with_writer}
use Rattle.model.specs.Outcome.{Outcome, done, refuse, unless, issue_row, run_cause}

-- "when the last issue number is 4,294,967,295" 9, "when the writer's count is" 10.
unfoldable pub raise_cause : Store → ℕ → ℕ
raise_cause s w =
    refuse (eqb s.last max_word) 9
    (refuse (eqb (s.writer w).count max_word) 10
    0)

-- 14: "prepare or issue when forked" (CR 10). 13: a key of S that the writer may not save (CR 9);
-- S empty needs no right. 9 and 10: "Issue with S not empty".
unfoldable pub issue_cause : Store → ℕ → ℕ → ℕ → ℕ
issue_cause s r w S =
    let z = s.counts in
    let a = s.run r in
    refuse (leb z.writers w) 3
    (refuse (leb (2 ^ z.keys) S) 3
    (run_cause s issue_row r
    (refuse (eqb a.mark forked_mark) 14
    (refuse (not (all_below a.jobs (test_bit a.done))) 6
    (refuse (barred z.keys (s.tail.may_save w) (test_bit S)) 13
    (cond (eqb S 0) 0 (raise_cause s w)))))))

-- "the writer's past takes in (larger count at each place) the pasts of the versions that the run
-- read", by a read mask and a card.
unfoldable pub taken_in : ℕ → ℕ → Place Version → (ℕ → Clock) → ℕ → Clock
taken_in K read snapshot past d =
    fold_below K (λ k c. cond (test_bit read k) (join c ((snapshot k).past d)) c) (past d)

-- "for each k in S its row k gets the new count at this writer": the count n, at writer w.
unfoldable pub rows_set : ℕ → ℕ → ℕ → (ℕ → Clock) → ℕ → Clock
rows_set S w n past d u = cond (test_bit S d && eqb u w) n (past d u)

-- The writer's past after both.
unfoldable pub new_past : Store → ℕ → ℕ → ℕ → ℕ → Clock
new_past s r w S =
    let a = (s.run r).branch in
    let x = s.writer w in
    rows_set S w (x.count + 1) (taken_in s.counts.keys a.read a.snapshot x.past)

-- "the version of that past and issue number". CR 3: "A new version's mask is its own writer", w.
unfoldable pub new_version : ℕ → ℕ → (ℕ → Clock) → Version
new_version n w past = record { issue = n; leaders = 2 ^ w; past = past }

-- "the master's k, for each k in S, is merged with the version", of W writers.
unfoldable pub issued_master : ℕ → ℕ → Version → Place Version → Place Version
issued_master W S new master k = cond (test_bit S k) (merge W k (master k) new) (master k)

-- The writer after it.
unfoldable pub issued_writer : Store → ℕ → ℕ → ℕ → Writer
issued_writer s r w S = record { count = (s.writer w).count + 1; past = new_past s r w S }

-- "the issue number and the writer's count rise by 1"; "When all these rows are set", the master.
-- CR 4: the marks follow it.
unfoldable pub saved_store : Store → ℕ → ℕ → ℕ → Store
saved_store s r w S =
    let n = s.last + 1 in
    with_marks (with_master (with_writer (with_last s n) w (issued_writer s r w S))
    (issued_master s.counts.writers S (new_version n w (new_past s r w S)) s.master))

-- "with S empty only the run is freed, and 0 answered"
unfoldable pub issued_store : Store → ℕ → ℕ → ℕ → Store
issued_store s r w S = cond (eqb S 0) s (saved_store s r w S)

unfoldable pub issued_number : Store → ℕ → ℕ
issued_number s S = cond (eqb S 0) 0 (s.last + 1)

-- "The run is freed. Answers the issue number."
unfoldable pub issue_done : Store → ℕ → ℕ → ℕ → Outcome
issue_done s r w S = done (issued_number s S ∷ []) (with_run (issued_store s r w S) r free_run)

unfoldable pub issue_rule : ℕ → ℕ → ℕ → Store → Outcome
issue_rule r w S s = unless (issue_cause s r w S) (issue_done s r w S)
