-- What the claim gives of two lines of one run (CR 10), from the claim alone.
-- unforked-shared: in a run that isn't forked, so never or joined, any two finished jobs share a
-- snapshot. fork-both, before-shared: what was done before the fork shares one with each.
-- step-on, same-shared: two on one line. joined-shared: once their lines are joined. still_read,
-- some_read: what was read is on the card, and by whom.
-- Assumes nothing.
use mathlib.Core.Path.{◌≡◌, refl}
use mathlib.Core.Bool.{So}
use mathlib.Core.Logic.{◌≢◌, inl, inr}
use mathlib.Core.List.{List, [], ◌∷◌, map}
use Prim.Native.Nat.{ℕ, ◌<◌}
use native.Mathlib.Omega.{arith}
use Rattle.words.specs.Tests.{Items, only}
use Rattle.words.specs.Lists.{put_at}
use Rattle.words.proofs.Bools.{lt-ltb}
use Rattle.words.proofs.Lists.{put_at_same}
use Rattle.masks.specs.Mask.{test_bit}
use Rattle.model.specs.Store.{forked_mark, branch_of}
use Rattle.model.specs.Calls.{step, fork, join}
use Rattle.layout.specs.Reading.{store_of}
use Rattle.layout.specs.Calls.{on, call_on, is_ok_of}
use Rattle.consistency.specs.Roles.{role_of}
use Rattle.consistency.specs.Trace.{ReadSet, on_lines, both_lines, Among, first, later, Trace, read_now, finish_by, finish, advance}
use Rattle.consistency.specs.Claim.{Snapshot, HoldsAt}

-- Two finished jobs of run r at a point.
abbrev Shares : Trace → ReadSet → ReadSet → Type 0
Shares t x y =
    let s = store_of t.buffer in
    Snapshot s.counts.keys s.counts.writers t.book.history t.book.base x y

module _ (t : Trace) (H : HoldsAt t) (r : ℕ) (x y : ReadSet) (p : Among x (t.finished r))
    (q : Among y (t.finished r)) where
  -- "two finished jobs of one run, at one office or two, share one causal snapshot"
  pub unforked-shared : ((store_of t.buffer).run r).mark ≢ forked_mark → Shares t x y
  unforked-shared w =
      H.holds.shared r x y p q 0 (H.holds.single r x p w) (H.holds.single r y q w)

  -- "two share one if on one line"
  pub same-shared : (n : ℕ) → So (x.on n) → So (y.on n) → Shares t x y
  same-shared = H.holds.shared r x y p q

  -- "or if one was done before the fork": it stands on both.
  pub before-shared : ((n : ℕ) → n < 2 → So (x.on n)) → Shares t x y
  before-shared both = elim (H.holds.placed r y q) [
    | inl o ↦ H.holds.shared r x y p q 0 (both 0 (omega arith)) o
    | inr o ↦ H.holds.shared r x y p q 1 (both 1 (omega arith)) o
  ]

module _ (t : Trace) (H : HoldsAt t) (r n k : ℕ) (h : k < (store_of t.buffer).counts.keys) where
  -- What was read is still the version on the card: so "the version that was read" is the card's.
  pub still_read : (x : ReadSet) → Among x (t.finished r) → So (x.on n) → So (x.keys k)
      → ((branch_of n ((store_of t.buffer).run r)).snapshot k ≡ x.version k)
      × So (test_bit (branch_of n ((store_of t.buffer).run r)).read k)
  still_read x p o q = H.holds.kept r x p n k o h q

  -- And what a line's read mask has, some finished job on that line has read.
  pub some_read : r < (store_of t.buffer).counts.runs → n < 2
      → So (test_bit (branch_of n ((store_of t.buffer).run r)).read k)
      → (x : ReadSet) × Among x (t.finished r) × So (x.on n) × So (x.keys k)
  some_read l o p = H.holds.covered r n k l o h p

-- ---- the calls

-- One of these stands on these lines.
on_these : {x : ReadSet} (lines : Items) (xs : List ReadSet) → Among x (map (on_lines lines) xs)
    → x.on ≡ lines
on_these lines [] i = elim i [ ]
on_these lines (y ∷ ys) first = refl
on_these lines (y ∷ ys) (later i) = on_these lines ys i

module _ (t : Trace) (r : ℕ) (x : ReadSet) where
  -- After an accepted fork all that its jobs have read stands on both lines,
  pub fork-both : So (is_ok_of (call_on (on (fork r)) t.buffer))
      → Among x ((advance (on (fork r)) t).finished r) → (n : ℕ) → n < 2 → So (x.on n)
  unfolding advance finish finish_by role_of
  fork-both ok i n l =
      let f = t.finished in
      let xs = map (on_lines both_lines) (f r) in
      let j : Among x (put_at f r xs r) = rw ok at i in
      rw (on_these both_lines (f r) (rw (put_at_same f r xs) at j)) (lt-ltb n 2 l)

  -- a job that is stepped on its own line,
  pub step-on : (j n : ℕ) → So (is_ok_of (call_on (on (step r j n)) t.buffer))
      → let u = advance (on (step r j n)) t in
      Among (read_now r j n (store_of u.buffer) u.book) (u.finished r)
      × ((read_now r j n (store_of u.buffer) u.book).on ≡ only n)
  unfolding advance finish finish_by role_of read_now
  step-on j n ok = (rw (ok, put_at_same) first, refl)

  -- and once they are joined, on line 0 again:
  pub join_first : So (is_ok_of (call_on (on (join r)) t.buffer))
      → Among x ((advance (on (join r)) t).finished r) → So (x.on 0)
  unfolding advance finish finish_by role_of only
  join_first ok i =
      let f = t.finished in
      let xs = map (on_lines (only 0)) (f r) in
      let j : Among x (put_at f r xs r) = rw ok at i in
      rw (on_these (only 0) (f r) (rw (put_at_same f r xs) at j)) refl

-- "Two jobs on different lines share a snapshot once their lines are joined".
pub joined-shared : (t : Trace) (r : ℕ) (x y : ReadSet)
    → So (is_ok_of (call_on (on (join r)) t.buffer)) → let u = advance (on (join r)) t in
    HoldsAt u → Among x (u.finished r) → Among y (u.finished r) → Shares u x y
joined-shared t r x y ok H p q =
    H.holds.shared r x y p q 0 (join_first t r x ok p) (join_first t r y ok q)
