-- What the claim is made of, so that none of it can say less.
-- every-among: each member of a list is among it. picks: what each pick chooses.
-- roles: what a call is to a run. ..-finishes, ..-finished: what it does to what finished jobs
-- have read.
-- Assumes nothing.
use mathlib.Core.Path.{◌≡◌, refl}
use mathlib.Core.Bool.{false}
use mathlib.Core.Logic.{◌≢◌}
use mathlib.Core.List.{List, [], ◌∷◌, ◌++◌, map}
use Prim.Native.Nat.{ℕ, ◌≤◌, ◌<◌}
use Rattle.words.specs.Tests.{only}
use Rattle.words.proofs.Bools.{eqb-ne, ne_eqb, lt-ltb, ge-ltb}
use Rattle.words.proofs.Lists.{put_at_same, put_at_other}
use Rattle.model.specs.Version.{Version, unheld, merge}
use Rattle.model.specs.Store.{forked_mark, branch_of, Store}
use Rattle.model.specs.Calls.{StoreCall, Query, open_run, fetch, evict, prepare, step, issue, drop_run, allow, pick, mayhold, maysave, fork, join, ask}
use Rattle.history.specs.Book.{book_branch, Book}
use Rattle.history.specs.Admission.{admitted_place}
use Rattle.consistency.specs.Roles.{prepares, finishes, forks, joins, Role, opening, working, freeing, elsewhere, role_of, is_on}
use Rattle.consistency.specs.Trace.{ReadSet, on_lines, both_lines, Trace, admitted_reads, read_now, finish_by, finish, advance, Among, Among.first, Among.later}
use Rattle.masks.specs.Mask.{test_bit}
use Rattle.layout.specs.Calls.{Call, on, call_on, is_ok_of}
use Rattle.consistency.specs.Claim.{pick_of, Pick.of_snapshot, Pick.of_cache, Pick.merged, Pick.neither}

pub every-among : (xs ys : List ReadSet) (x : ReadSet) → Among x (xs ++ (x ∷ ys))
every-among [] ys x = first
every-among (y ∷ xs) ys x = later (every-among xs ys x)

-- "the card's version, the office's (after the step's fetch), their merge or none"
pub picks : (W k : ℕ) (a b : Version) → (pick_of W k of_snapshot a b ≡ a)
    × (pick_of W k of_cache a b ≡ b) × (pick_of W k merged a b ≡ merge W k a b)
    × (pick_of W k neither a b ≡ unheld)
unfolding pick_of
picks W k a b = (refl, refl, refl, refl)

-- What each call is to a run.
pub roles : (r j n w S o k : ℕ) (l : List ℕ) (q : Query) → (role_of (open_run r l) ≡ opening r)
    × (role_of (prepare r) ≡ working r prepares)
    × (role_of (step r j n) ≡ working r (finishes j n))
    × (role_of (fork r) ≡ working r forks) × (role_of (join r) ≡ working r joins)
    × (role_of (issue r w S) ≡ freeing r) × (role_of (drop_run r) ≡ freeing r)
    × (role_of (fetch o k) ≡ elsewhere) × (role_of (evict o k) ≡ elsewhere)
    × (role_of (allow o k) ≡ elsewhere) × (role_of pick ≡ elsewhere)
    × (role_of (mayhold o k) ≡ elsewhere) × (role_of (maysave w k) ≡ elsewhere)
    × (role_of (ask q) ≡ elsewhere)
unfolding role_of
roles r j n w S o k l q =
    (refl, refl, refl, refl, refl, refl, refl, refl, refl, refl, refl, refl, refl, refl)

pub not-ok-finished : (c : Call) (t : Trace) → is_ok_of (call_on c t.buffer) ≡ false
    → (advance c t).finished ≡ t.finished
unfolding advance
not-ok-finished c t n = rw n refl

module _ (s : Store) (b : Book) (f : ℕ → List ReadSet) where
  -- "A job whose step is answered ok is finished and has read its sheets": beside those before it.
  pub step-finishes : (r j n : ℕ)
      → finish_by (working r (finishes j n)) s b f r ≡ read_now r j n s b ∷ f r
  unfolding finish_by
  step-finishes r j n = put_at_same f r (read_now r j n s b ∷ f r)

  -- CR 10: after the fork each stands on both lines, once joined on line 0.
  pub fork-finishes : (r : ℕ) → finish_by (working r forks) s b f r ≡ map (on_lines both_lines) (f
      r)
  unfolding finish_by
  fork-finishes r = put_at_same f r (map (on_lines both_lines) (f r))

  pub join-finishes : (r : ℕ) → finish_by (working r joins) s b f r ≡ map (on_lines (only 0)) (f r)
  unfolding finish_by
  join-finishes r = put_at_same f r (map (on_lines (only 0)) (f r))

  -- "A run lasts from its open until it is freed."
  pub frees-finished : (r : ℕ) → (finish_by (opening r) s b f r ≡ [])
      × (finish_by (freeing r) s b f r ≡ [])
  unfolding finish_by
  frees-finished r = (put_at_same f r [], put_at_same f r [])

  pub read-now : (r j n : ℕ) → ((read_now r j n s b).keys ≡ test_bit ((b.run r).job j).reads)
      × ((read_now r j n s b).version ≡ (branch_of n (s.run r)).snapshot)
      × ((read_now r j n s b).copy ≡ (book_branch n (b.run r)).snapshot)
      × ((read_now r j n s b).on ≡ only n)
  unfolding read_now
  read-now r j n = (refl, refl, refl, refl)

  pub finish-by : (c : StoreCall) → finish (on c) s b f ≡ finish_by (role_of c) s b f
  unfolding finish
  finish-by c = refl

  -- A call that finishes no job, and one that is not on the run, leave it.
  pub none-finished : (r x : ℕ) → finish_by (working x prepares) s b f r ≡ f r
  unfolding finish_by
  none-finished r x = refl

  pub others-finished : (r : ℕ) (p : Role) → is_on r p ≡ false → finish_by p s b f r ≡ f r
  unfolding finish_by is_on
  others-finished r (opening x) n = put_at_other f x [] r (eqb-ne r x n)
  others-finished r (working x prepares) n = refl
  others-finished r (working x (finishes j m)) n = put_at_other f x _ r (eqb-ne r x n)
  others-finished r (working x forks) n = put_at_other f x _ r (eqb-ne r x n)
  others-finished r (working x joins) n = put_at_other f x _ r (eqb-ne r x n)
  others-finished r (freeing x) n = put_at_other f x [] r (eqb-ne r x n)
  others-finished r elsewhere n = refl

-- What each line of an admitted run has read counts as read by one finished job; a run that isn't
-- forked has one line, a run beyond none.
pub admitted-read : (s : Store) (r : ℕ) → r < s.counts.runs
    → (s.run r).mark ≡ forked_mark → admitted_reads s r ≡ record {
      keys = test_bit (s.run r).branch.read;
      version = (s.run r).branch.snapshot;
      copy = admitted_place (s.run r).branch.snapshot;
      on = only 0;
    } ∷ record {
      keys = test_bit (s.run r).second.read;
      version = (s.run r).second.snapshot;
      copy = admitted_place (s.run r).second.snapshot;
      on = only 1;
    } ∷ []
unfolding admitted_reads
admitted-read s r l e = rw (lt-ltb r s.counts.runs l, e) refl

pub admitted-single : (s : Store) (r : ℕ) → r < s.counts.runs → (s.run r).mark ≢ forked_mark
    → admitted_reads s r ≡ record {
      keys = test_bit (s.run r).branch.read;
      version = (s.run r).branch.snapshot;
      copy = admitted_place (s.run r).branch.snapshot;
      on = only 0;
    } ∷ []
unfolding admitted_reads
admitted-single s r l w = rw (lt-ltb r s.counts.runs l, ne_eqb _ _ w) refl

pub admitted-none : (s : Store) (r : ℕ) → s.counts.runs ≤ r → admitted_reads s r ≡ []
unfolding admitted_reads
admitted-none s r l = rw (ge-ltb r s.counts.runs l) refl
