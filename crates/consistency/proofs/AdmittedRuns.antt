-- The runs of an admitted store, and what they had read, by the book that takes them over (CR 6).
-- place-good, place-led: a place. line-follows, run-follows: a branch, a run. reads_as,
-- covered-all: what each line had read.
-- Assumes nothing.
use mathlib.Core.Path.{◌≡◌, refl, ap, ◌∙◌}
use mathlib.Core.Logic.{◌≢◌, inl, inr}
use mathlib.Core.List.{List, [], ◌∷◌}
use Prim.Native.Nat.{ℕ, ◌≤◌, ◌<◌}
use native.Mathlib.Omega.{arith}
use lib.Dec.{eqb}
use Rattle.words.specs.Tests.{only}
use Rattle.words.proofs.Bools.{◌∙˙◌, clash, eq-eqb, eqb-eq, eqb-ne, lt-ltb, test}
use Rattle.model.specs.Algebra.{Place}
use Rattle.model.specs.Version.{Version, versions}
use Rattle.model.specs.Store.{Branch, forked_mark, branch_of, Store, planned}
use Rattle.masks.specs.Mask.{test_bit}
use Rattle.masks.proofs.Bits.{test-none}
use Rattle.model.proofs.Cuts.{overlapping_cut-within, overlapping_cut-at}
use Rattle.model.proofs.FormedPlaces.{PlaceFormed}
use Rattle.model.proofs.Formed.{well-out}
use Rattle.model.proofs.Plans.{free-out, free-or-plan, run-place}
use Rattle.model.proofs.Admits.{Covered, Admissible}
use Rattle.layout.proofs.Parts.{FitPlace}
use Rattle.layout.proofs.Runs.{fit-branch}
use Rattle.layout.proofs.Follow.{Fine}
use Rattle.history.specs.Listing.{Base}
use Rattle.history.specs.Admission.{base_of, admitted_place, admitted_branch, admitted_run}
use Rattle.history.proofs.BookWrites.{GoodBook}
use Rattle.history.proofs.Admitted.{admitted-good, admitted-counted, admitted-empty}
use Rattle.consistency.specs.Trace.{ReadSet, Among, first, later, admitted_read, admitted_reads}
use Rattle.consistency.proofs.AdmittedCuts.{read_low, admitted-closed}
use Rattle.consistency.proofs.Counting.{StandsFor, Masked, masked-none, counted-related}
use Rattle.consistency.proofs.Invariant.{BranchFollows, RunFollows, ReadAs, Entered, Covers}
use Rattle.consistency.proofs.Changing.{copy-same, none-among}
use Rattle.consistency.proofs.Following.{on-lines}

module _ (s : Store) (fine : Fine s) (A : Admissible s) where
  abbrev K : ℕ
  K = s.counts.keys

  abbrev W : ℕ
  W = s.counts.writers

  abbrev B : Base
  B = base_of s

  -- A place whose versions admission takes: its copies, and its masks where nothing was admitted.
  module _ (p : Place Version) (fit : FitPlace s.counts p) (formed : PlaceFormed s.counts p)
      (covered : (k : ℕ) → k < K → Covered s (p k).past) where
    pub place-good : ((k : ℕ) → k < K → (p k).issue ≤ s.last) → (k : ℕ) → k < K
        → GoodBook K W [] B k (admitted_place p k)
    place-good number k l =
        admitted-good s fine A k (p k) (fit.each k l) (formed k l) (covered k l) (number k l)

    pub place-led : Masked W K [] B p (admitted_place p)
    place-led e k l =
        admitted-empty s fine A k (p k) (fit.each k l) (formed k l) (covered k l) e
        ∙ masked-none W K [] k

  pub line-follows : (r : ℕ) → r < s.counts.runs → (n : ℕ)
      → BranchFollows W K [] B (planned (s.run r).jobs (s.run r).job) (branch_of n (s.run r))
      (admitted_branch (branch_of n (s.run r)))
  line-follows r l n =
      let a = s.run r in
      let formed = (well-out s fine.formed).run r l in
      let p = (branch_of n a).snapshot in
      let place = run-place s.counts a formed n in
      let fit = fit-branch (fine.fits.run.each r l) n in
      let covered = A.covered.versions.snapshots r l n in
      let plan = planned a.jobs a.job in
      let cut = A.snapshots r l n in
      record {
        read = λ k _. refl;
        low = read_low s.counts a formed n;
        snapshot = λ k h. admitted-counted K B (p k);
        led = place-led p fit place covered;
        closed = admitted-closed s.counts B plan p place
            (place-good p fit place covered (A.numbered.snapshots r l n))
            (overlapping_cut-within (versions W) K plan p cut)
            (overlapping_cut-at (versions W) K plan p cut);
      }

  pub run-follows : (r : ℕ) → r < s.counts.runs
      → RunFollows W K [] B (s.run r) (admitted_run (s.run r))
  unfolding admitted_run
  run-follows r l = record {
    jobs = refl;
    job = refl;
    line = on-lines (BranchFollows W K [] B (planned (s.run r).jobs (s.run r).job)) (s.run r)
        (admitted_run (s.run r)) (line-follows r l 0) (line-follows r l 1);
  }

  -- What a line has read stands for its copies, and is on its card.
  line-stands : (r : ℕ) → r < s.counts.runs → (n k : ℕ) → k < K
      → StandsFor W K [] B k ((branch_of n (s.run r)).snapshot k)
      (admitted_place (branch_of n (s.run r)).snapshot k)
  line-stands r l n k h =
      let G = line-follows r l n in
      counted-related G.snapshot G.led G.closed k h

  self-read : (n : ℕ) (a : Branch) → ReadAs W K a (admitted_branch a) (admitted_read n a)
  self-read n a =
      record { keys = λ k _ p. p; version = λ k _ _. refl; copy = λ k _ _. copy-same }

  first-entered : (r : ℕ) → r < s.counts.runs
      → Entered W K [] B (s.run r) (admitted_run (s.run r)) (admitted_read 0 (s.run r).branch)
  unfolding admitted_run only
  first-entered r l = record {
    stands = λ k h _. line-stands r l 0 k h;
    lines = λ n o. rw (eqb-eq n 0 o) (self-read 0 (s.run r).branch);
    placed = inl refl;
    single = λ _. refl;
  }

  second-entered : (r : ℕ) → r < s.counts.runs → (s.run r).mark ≡ forked_mark
      → Entered W K [] B (s.run r) (admitted_run (s.run r)) (admitted_read 1 (s.run r).second)
  unfolding admitted_run only
  second-entered r l e = record {
    stands = λ k h _. line-stands r l 1 k h;
    lines = λ n o. rw (eqb-eq n 1 o) (self-read 1 (s.run r).second);
    placed = inr refl;
    single = λ w. absurd (w e);
  }

  pub reads_as : (r : ℕ) → r < s.counts.runs → (x : ReadSet) → Among x (admitted_reads s r)
      → Entered W K [] B (s.run r) (admitted_run (s.run r)) x
  unfolding admitted_reads
  reads_as r l x i =
      test (eqb (s.run r).mark forked_mark)
      (λ y. two (eqb-eq _ _ y) (rw (lt-ltb r s.counts.runs l, y) at i))
      (λ n. one [] none-among (rw (lt-ltb r s.counts.runs l, n) at i))
    where
      one : {x : ReadSet} (xs : List ReadSet)
          → (Among x xs → Entered W K [] B (s.run r) (admitted_run (s.run r)) x)
          → Among x (admitted_read 0 (s.run r).branch ∷ xs)
          → Entered W K [] B (s.run r) (admitted_run (s.run r)) x
      one xs f first = first-entered r l
      one xs f (later j) = f j

      last : {x : ReadSet} → (s.run r).mark ≡ forked_mark
          → Among x (admitted_read 1 (s.run r).second ∷ [])
          → Entered W K [] B (s.run r) (admitted_run (s.run r)) x
      last e first = second-entered r l e
      last e (later j) = none-among j

      two : {x : ReadSet} → (s.run r).mark ≡ forked_mark
          → Among x (admitted_read 0 (s.run r).branch ∷ admitted_read 1 (s.run r).second ∷ [])
          → Entered W K [] B (s.run r) (admitted_run (s.run r)) x
      two e = one (admitted_read 1 (s.run r).second ∷ []) (last e)

  -- On a run that isn't forked line 1 has read nothing.
  second_none : (r : ℕ) → r < s.counts.runs → (s.run r).mark ≢ forked_mark
      → (s.run r).second.read ≡ 0
  second_none r l w =
      free-or-plan s.counts (s.run r) ((well-out s fine.formed).run r l)
      (λ f. ((free-out s.counts (s.run r) f).vacant 1).read)
      (λ P. elim P.mark.single [
        | inl e ↦ absurd (w e)
        | inr e ↦ e.read
      ])

  pub covered-all : (r : ℕ) → r < s.counts.runs → Covers K (s.run r) (admitted_reads s r)
  unfolding admitted_reads only
  covered-all r l n k h i p =
      let a = s.run r in
      rw (lt-ltb r s.counts.runs l)
      (test (eqb n 0)
      (λ y. (admitted_read 0 a.branch, first, y, rw y at p))
      (λ y.
      let one : n ≡ 1 = omega (arith, eqb-ne n 0 y, h) in
      test (eqb a.mark forked_mark)
      (λ t. rw t (admitted_read 1 a.second, later first, eq-eqb n 1 one, rw y at p))
      (λ t. clash (ap (λ (m : ℕ). test_bit m k) (second_none r l (eqb-ne _ _ t)) ∙˙ rw y at p)
      (test-none k))))
