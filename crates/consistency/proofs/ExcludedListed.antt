-- What the claim says of admitted saves (CR 6), on small examples in the customer's words.
-- past-behind, own-not-behind: a writer's next issue. not-chained: no list of another copy counts.
-- missing-admitted: two reads that are no snapshot. older-behind: a shelf's copy that is behind.
-- Assumes nothing.
use mathlib.Core.Path.{◌≡◌, refl}
use mathlib.Core.Bool.{cond, false≢true}
use mathlib.Core.Logic.{inr}
use mathlib.Core.List.{[], ◌∷◌}
use Prim.Native.Nat.{ℕ}
use native.Mathlib.Omega.{arith}
use lib.Dec.{eqb}
use Rattle.words.specs.Tests.{none, only}
use Rattle.words.proofs.Bools.{test}
use Rattle.masks.specs.Mask.{test_bit}
use Rattle.clock.specs.Clock.{Clock, join}
use Rattle.model.specs.Version.{unheld, zero_past}
use Rattle.history.specs.History.{History, writer_of, read_by, rows_of}
use Rattle.history.specs.Listing.{Base, BookCopy}
use Rattle.history.specs.Lists.{ListedBefore, ListedBefore.in_past_of, ListedBefore.in_read, ListedBehind.in_list, writer_list, list_of}
use Rattle.history.proofs.Lists.{Carried, listed_below}
use Rattle.consistency.specs.Trace.{ReadSet}
use Rattle.consistency.specs.Claim.{Snapshot, IsBehind}

-- Sheet 0 at n of every writer, and no other.
abbrev at : ℕ → ℕ → Clock
at n d u = cond (eqb d 0) n 0

-- Two saves of sheet 0 were admitted; the past of writer 1 has them, that of writer 0 hasn't.
abbrev base : Base
base = record {
  last = 3;
  count = λ w. 2;
  past = λ w. cond (eqb w 1) (at 2) zero_past;
  saves = at 2;
}

-- ---- what stands behind a next issue

-- Writer w saves sheet 1; the copies that its run had read list sheet 0 at n.
abbrev saving : ℕ → ℕ → History
saving w n =
    record { writer = w; keys = only 1; read = λ d. none; rows = at n } ∷ []

-- It had read no later save.
carried : (w n : ℕ) → Carried base (saving w n)
unfolding read_by
carried w n i c j p =
    test (eqb i 0) (λ y. absurd (false≢true (rw y at p))) (λ m. absurd (false≢true (rw m at p)))

-- "behind a writer's next issue also those in that writer's past"
pub past-behind : ListedBefore base (saving 1 0) 0 0 2 0
unfolding writer_of
past-behind = in_past_of {d = 0} {u = 0} {n = 2} {i = 0} (omega arith) (omega arith)

-- The writer's own saves that its past lacks don't stand behind it.
pub own-not-behind : ¬ (ListedBefore base (saving 0 0) 0 0 1 0)
unfolding list_of writer_list join
own-not-behind q = absurd (omega (arith, listed_below base (saving 0 0) (carried 0 0) q))

-- Of what was read one save stands behind it; that another copy lists two doesn't count.
pub not-chained : ListedBefore base (saving 0 1) 0 0 1 0 × ¬
    (ListedBefore base (saving 0 1) 0 0 2 0)
unfolding rows_of list_of writer_list join
not-chained = (
  in_read {d = 0} {u = 0} {n = 1} {i = 0} (omega arith) (omega arith),
  λ q. absurd (omega (arith, listed_below base (saving 0 1) (carried 0 1) q)),
)

-- ---- copies

-- One that lists sheet 0 at n; as a copy of sheet 0 it includes that.
abbrev listing : ℕ → BookCopy
listing n = record { later = none; rows = at n; number = 1 }

-- A job that has read the sheets of the mask S, each in this copy.
abbrev having_read : ℕ → BookCopy → ReadSet
having_read S c = record { keys = test_bit S; version = λ k. unheld; copy = λ k. c; on = only 0 }

-- Sheet 1 with sheet 0 at 2 in its list, and by another job sheet 0 at 1.
pub missing-admitted : ¬
    (Snapshot 2 1 [] base (having_read 2 (listing 2)) (having_read 1 (listing 1)))
unfolding test_bit
missing-admitted x =
    absurd (omega (
      arith,
      x.listed 1 0 0 2 (omega arith) (omega arith) (omega arith) refl refl
          (in_list (omega arith)),
    ))

-- A shelf's copy with one of the two is behind.
pub older-behind : IsBehind 1 0 (listing 1) (listing 2)
older-behind = record {
  some = inr (0, omega arith, omega arith);
  other = λ e.
      let z : ◌≡◌ {A = ℕ} 1 2 = e.1 0 (omega arith) in
      absurd (omega (arith, z));
}
