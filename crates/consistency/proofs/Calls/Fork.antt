-- The laws of fork and join.
-- among-map, on-other: the same reads on other lines.
-- Assumes nothing.
use mathlib.Core.Path.{◌≡◌, refl}
use mathlib.Core.Bool.{false, So}
use mathlib.Core.Logic.{inl, inr}
use mathlib.Core.List.{List, [], ◌∷◌, map}
use Prim.Native.Nat.{ℕ, ◌<◌}
use lib.Dec.{eqb}
use native.Mathlib.Omega.{arith}
use Rattle.words.specs.Tests.{Items, any_below, only}
use Rattle.words.specs.Lists.{put_at}
use Rattle.words.proofs.Bools.{test, clash, ◌∙˙◌, or_cases, lt-ltb, eqb-eq, eq-eqb}
use Rattle.masks.specs.Mask.{test_bit}
use Rattle.masks.proofs.Bits.{test-or, test-none}
use Rattle.words.proofs.Lists.{put_at_same, put_at_other}
use Rattle.model.specs.Store.{Branch, branch_of, Store, planned, with_run, with_state}
use Rattle.model.specs.Outcome.{allowed, fork_row, join_row, broken_state}
use Rattle.model.specs.Calls.{fork, join as joining}
use Rattle.model.specs.Calls.Fork.{forked_run, fork_cause, fork_done, fork_rule_of, joined_branch, joined_run, join_moved, join_cause, join_done, join_broken, join_rule_of}
use Rattle.model.proofs.Outcomes.{allowed-used}
use Rattle.model.proofs.Forks.{Forkable, forkable, Joinable, joinable}
use Rattle.layout.proofs.Follow.{Fine}
use Rattle.history.specs.Book.{BookBranch, BookRun, book_run_with, Book, book_fork, book_rule, with_book_run}
use Rattle.consistency.specs.Roles.{role_of, is_on}
use Rattle.consistency.specs.Trace.{ReadSet, on_lines, both_lines, Among, first, later, finish_by, finish}
use Rattle.consistency.proofs.Invariant.{BranchFollows, RunFollows, ReadAs, Entered, Covers, Inv, Moves}
use Rattle.consistency.proofs.Following.{on-lines}
use Rattle.consistency.proofs.Laws.{works, Laws, laws-unless}
use Rattle.consistency.proofs.Changing.{HasRead, inv-run, inv-state}
use Rattle.consistency.proofs.Joined.{joined_book, Joined, book-join, join-follows, first-keeps, second-keeps}

-- ---- the same reads on other lines

-- One of these is one of those before.
among-map : {x : ReadSet} (lines : Items) (xs : List ReadSet)
    → Among x (map (on_lines lines) xs) → (y : ReadSet) × (Among y xs) × (x ≡ on_lines lines y)
among-map lines [] i = elim i [ ]
among-map lines (y ∷ ys) first = (y, first, refl)
among-map lines (y ∷ ys) (later i) =
    let r = among-map lines ys i in
    (r.0, later r.1, r.2)

map-among : {y : ReadSet} {xs : List ReadSet} (lines : Items) → Among y xs
    → Among (on_lines lines y) (map (on_lines lines) xs)
map-among lines first = first
map-among lines (later i) = later (map-among lines i)

on-other : {W K : ℕ} {a : Branch} {c : BookBranch} {x : ReadSet} (lines : Items)
    → ReadAs W K a c x → ReadAs W K a c (on_lines lines x)
on-other lines R = record { keys = R.keys; version = R.version; copy = R.copy }

-- ---- fork

module _ {s : Store} {b : Book} {f : ℕ → List ReadSet} {r : ℕ} (v : Inv s b f)
    (A : Forkable s r) where
  abbrev forked_book : BookRun
  forked_book = book_run_with (b.run r) (b.run r).branch (b.run r).branch

  fork-follows : RunFollows s.counts.writers s.counts.keys b.history b.base
      (forked_run (s.run r)) forked_book
  unfolding forked_run
  fork-follows =
      let G = v.follows.run r A.run_in in
      record {
        jobs = G.jobs;
        job = G.job;
        line = on-lines (BranchFollows s.counts.writers s.counts.keys b.history
            b.base (planned (b.run r).jobs (b.run r).job)) (forked_run (s.run r))
            forked_book (G.line 0) (G.line 0);
      }

  fork-entered : (y : ReadSet) → Among y (f r)
      → Entered s.counts.writers s.counts.keys b.history b.base
      (forked_run (s.run r)) forked_book (on_lines both_lines y)
  unfolding forked_run
  fork-entered y i =
      let E = v.reads r A.run_in y i in
      let R = on-other both_lines (E.lines 0
      (E.single (λ e. absurd (omega (arith, e, A.single))))) in
      record {
        stands = E.stands;
        lines = λ n _. on-lines
            (λ p q. ReadAs s.counts.writers s.counts.keys p q (on_lines both_lines y))
            (forked_run (s.run r)) forked_book R R n;
        placed = inl refl;
        single = λ w. absurd (w refl);
      }

  fork-covers : Covers s.counts.keys (forked_run (s.run r)) (map (on_lines both_lines) (f r))
  unfolding forked_run
  fork-covers n k l h p =
      let q : So (test_bit (s.run r).branch.read k) =
      test (eqb n 0) (λ y. rw y at p) (λ y. rw y at p) in
      let x = v.covered r A.run_in 0 k (omega arith) h q in
      (on_lines both_lines x.0, map-among both_lines x.1, lt-ltb n 2 l, x.3)

  fork-inv : Inv (with_run s r (forked_run (s.run r))) (with_book_run b r forked_book)
      (put_at f r (map (on_lines both_lines) (f r)))
  fork-inv =
      let xs = map (on_lines both_lines) (f r) in
      inv-run v (put_at f r xs) r (forked_run (s.run r)) forked_book fork-follows A.run_in
      (put_at_other f r xs) (λ x i. has x (rw (put_at_same f r xs) at i))
      (rw (put_at_same f r xs) fork-covers)
    where
      has : HasRead s b (forked_run (s.run r)) forked_book (map (on_lines both_lines) (f r))
      has x i =
          let m = among-map both_lines (f r) i in
          rw m.2 (fork-entered m.0 m.1)

pub fork-laws : (r : ℕ) (s : Store) → Fine s → Laws (fork r) s (fork_rule_of r s)
unfolding fork_rule_of fork_done forked_run with_run allowed book_rule book_fork finish finish_by
    role_of
fork-laws r s fine =
    laws-unless (fork r) s (fork_cause s r) (fork_done s r) (λ e.
    let A = forkable s r e in
    let used = allowed-used fork_row (s.run r).state refl A.open_run_lem in
    record {
      moves = λ b f v. fork-inv v A;
      turns = works r _ _ used used refl refl;
    })

-- ---- join

module _ {s : Store} {b : Book} {f : ℕ → List ReadSet} {r : ℕ} (fine : Fine s) (v : Inv s b f)
    (A : Joinable s r) (none : any_below s.counts.keys (join_moved s r) ≡ false) where
  join-entered : (y : ReadSet) → Among y (f r)
      → Entered s.counts.writers s.counts.keys b.history b.base (joined_run s r)
      (joined_book s b r) (on_lines (only 0) y)
  unfolding joined_run only
  join-entered y i =
      let E = v.reads r A.run_in y i in
      let R : Joined s b r (on_lines (only 0) y) = on-other {x = y} (only 0) (elim E.placed [
        | inl o ↦ first-keeps v.follows A fine none y (E.lines 0 o)
        | inr o ↦ second-keeps v.follows A fine none y (E.lines 1 o)
      ]) in
      record {
        stands = E.stands;
        lines = λ n o. rw (eqb-eq n 0 o) R;
        placed = inl refl;
        single = λ _. refl;
      }

  join-covers : Covers s.counts.keys (joined_run s r) (map (on_lines (only 0)) (f r))
  unfolding joined_run joined_branch only
  join-covers n k l h p =
      let a = s.run r in
      let C = v.covered r A.run_in in
      let found : (m : ℕ) → m < 2 → So (test_bit (branch_of m a).read k)
      → (x : ReadSet) × Among x (map (on_lines (only 0)) (f r)) × So (x.on 0) × So (x.keys k) =
      λ m o q. let x = C m k o h q in
      (on_lines (only 0) x.0, map-among (only 0) x.1, refl, x.3) in
      test (eqb n 0)
      (λ y. let z : n ≡ 0 = eqb-eq n 0 y in
      rw z (elim (or_cases (test_bit a.branch.read k) (test_bit a.second.read k)
      (test-or a.branch.read a.second.read k ∙˙ rw y at p)) [
        | inl o ↦ found 0 (omega arith) o
        | inr o ↦ found 1 (omega arith) o
      ]))
      (λ y. clash (rw y at p) (test-none k))

  join-inv : Inv (with_run s r (joined_run s r)) (with_book_run b r (joined_book s b r))
      (put_at f r (map (on_lines (only 0)) (f r)))
  join-inv =
      let xs = map (on_lines (only 0)) (f r) in
      inv-run v (put_at f r xs) r (joined_run s r) (joined_book s b r) (join-follows v.follows A)
      A.run_in
      (put_at_other f r xs) (λ x i. has x (rw (put_at_same f r xs) at i))
      (rw (put_at_same f r xs) join-covers)
    where
      has : HasRead s b (joined_run s r) (joined_book s b r) (map (on_lines (only 0)) (f r))
      has x i =
          let m = among-map (only 0) (f r) i in
          rw m.2 (join-entered m.0 m.1)

  join-moves : Moves (joining r) s b f (join_done s r)
  unfolding join_done book_rule finish finish_by role_of
  join-moves = rw (book-join s b r v.follows) join-inv

-- Broken or done, its run was in use and goes on.
pub join-laws : (r : ℕ) (s : Store) → Fine s → Laws (joining r) s (join_rule_of r s)
unfolding join_rule_of join_broken join_done joined_run with_run with_state allowed role_of is_on
join-laws r s fine =
    laws-unless (joining r) s (join_cause s r) _ (λ e.
    let A = joinable s r e in
    let used = allowed-used join_row (s.run r).state refl A.open_run_lem in
    test (any_below s.counts.keys (join_moved s r))
    (λ t. rw t (record {
      moves = λ b f v. inv-state v r broken_state A.run_in;
      turns = (r, eq-eqb r r refl, works r _ _ used (omega arith) refl refl);
    }))
    (λ t. rw t (record {
      moves = λ b f v. join-moves fine v A t;
      turns = works r _ _ used used refl refl;
    })))
