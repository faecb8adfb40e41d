-- What finished jobs have read: each version is its copy counted, its mask names who leads, and
-- part (c) of demand 3: two of one run share one causal snapshot.
-- Assumes nothing.
use mathlib.Core.Path.{◌≡◌, sym, ◌∙◌}
use mathlib.Core.Bool.{So}
use mathlib.Core.List.{List}
use mathlib.Core.Logic.{◌⊎◌, ◌≢◌, inl, inr, ⊎_elim}
use Prim.Native.Nat.{ℕ, ◌<◌}
use native.Mathlib.Omega.{arith}
use native.Mathlib.Decide.{dec_le}
use Rattle.words.specs.Tests.{Items}
use Rattle.words.proofs.Bools.{◌∙˙◌}
use Rattle.words.proofs.Tests.{below_or_not}
use Rattle.masks.specs.Mask.{test_bit}
use Rattle.model.specs.Store.{Branch, forked_mark, branch_of, Store}
use Rattle.history.specs.History.{History}
use Rattle.history.specs.Listing.{Base, no_base}
use Rattle.history.specs.Book.{Book, BookBranch, book_branch}
use Rattle.history.proofs.Notions.{Sound}
use Rattle.history.proofs.Reached.{reaches-intro}
use Rattle.history.proofs.Lists.{Carried, behind-is-list}
use Rattle.history.proofs.BookWrites.{GoodBook}
use Rattle.history.proofs.Behind.{before-past, past-is-before}
use Rattle.layout.proofs.Follow.{Fine}
use Rattle.model.proofs.Formed.{well-out}
use Rattle.model.proofs.Plans.{read-planned}
use Rattle.consistency.specs.Trace.{ReadSet, Among}
use Rattle.consistency.specs.Leading.{LedAs}
use Rattle.consistency.specs.Listed.{Lists}
use Rattle.consistency.specs.Claim.{ReadCounted, Snapshot}
use Rattle.consistency.proofs.Invariant.{BranchFollows, ReadAs, Inv}
use Rattle.consistency.proofs.Following.{Stands, lists-copy, plan-same}
use Rattle.consistency.proofs.Leads.{led_as}

module _ (K W : ℕ) (h : History) (B : Base) (plan : Items) (a : Branch) (c : BookBranch)
    (sound : Sound K W h) (carried : Carried B h) (F : BranchFollows W K h B plan a c)
    (planned : (k : ℕ) → k < K → So (test_bit a.read k) → So (plan k)) where
  -- A key that a finished job has read is in the plan.
  in_plan : (x : ReadSet) → ReadAs W K a c x → (k : ℕ) → k < K → So (x.keys k) → So (plan k)
  in_plan x X k l p = planned k l (sym (F.read k l) ∙˙ X.keys k l p)

  pub share : (x y : ReadSet) → ReadAs W K a c x → ReadAs W K a c y
      → ((k : ℕ) → k < K → So (x.keys k) → GoodBook K W h B k (x.copy k)) → Snapshot K W h B x y
  share x y X Y good = record {
    one-version = λ k l p q. X.version k l p ∙ sym (Y.version k l q);
    included = λ e i d j le ld p m q t.
        let has : So ((c.snapshot e).later i) = (X.copy e le p).later i ∙˙ m in
        let low = ((F.closed.good e le).good.writes i has).0 in
        let got = F.closed.closed e d (inl j) le ld (in_plan y Y d ld q)
        (reaches-intro K h (c.snapshot e).later d j i low has (before-past sound t)) in
        sym ((Y.copy d ld q).later j) ∙˙ got;
    listed = λ e d u n le ld lu p q b.
        let has = (behind-is-list B h carried K W sound (x.copy e) (good e le p).carries d u n).0
        b in
        let on-card = (X.copy e le p).rows d u in
        let own = (Y.copy d ld q).own u lu in
        elim (dec_le 1 n) [
          | yes o ↦
              let got = (F.closed.closed e d (inr (u, n)) le ld (in_plan y Y d ld q)
              (lu, o, omega arith)).2 in
              omega arith
          | no o ↦ omega arith
        ];
  }

module _ (s : Store) (b : Book) (f : ℕ → List ReadSet) (I : Inv s b f) where
  -- Only runs within the count have finished jobs.
  run_in : (r : ℕ) (x : ReadSet) → Among x (f r) → r < s.counts.runs
  run_in r x p =
      ⊎_elim (λ l. l) (λ l. absurd (I.no_run r l x p)) (below_or_not r s.counts.runs)

  -- What a finished job has read is counted and led.
  read-stands : (r : ℕ) (x : ReadSet) → Among x (f r) → (k : ℕ) → k < s.counts.keys
      → So (x.keys k) → Stands s b k (x.version k) (x.copy k)
  read-stands r x p k h q = (I.reads r (run_in r x p) x p).stands k h q

  pub read-counted : (r : ℕ) (x : ReadSet) → Among x (f r)
      → ReadCounted s.counts.keys b.history b.base x
  read-counted r x p k h q = (read-stands r x p k h q).counts

  pub read-led : b.base ≡ no_base → (r : ℕ) (x : ReadSet) → Among x (f r) → (k : ℕ)
      → k < s.counts.keys
      → So (x.keys k)
      → LedAs s.counts.writers s.counts.keys b.history k (x.version k).leaders
      (x.copy k).later
  read-led e r x p k h q =
      led_as e (past-is-before I.follows.sound) (read-stands r x p k h q)

  pub read-lists : (r : ℕ) (x : ReadSet) → Among x (f r) → (k : ℕ) → k < s.counts.keys
      → So (x.keys k) → Lists b.base b.history (x.copy k)
  read-lists r x p k h q =
      lists-copy I.follows (read-stands r x p k h q).good

  pub read-placed : (r : ℕ) (x : ReadSet) → Among x (f r) → So (x.on 0) ⊎ So (x.on 1)
  read-placed r x p = (I.reads r (run_in r x p) x p).placed

  pub read-single : (r : ℕ) (x : ReadSet) → Among x (f r) → (s.run r).mark ≢ forked_mark
      → So (x.on 0)
  read-single r x p = (I.reads r (run_in r x p) x p).single

  pub read_kept : (r : ℕ) (x : ReadSet) → Among x (f r) → (n k : ℕ) → So (x.on n)
      → k < s.counts.keys → So (x.keys k)
      → ((branch_of n (s.run r)).snapshot k ≡ x.version k)
      × So (test_bit (branch_of n (s.run r)).read k)
  read_kept r x p n k o h q =
      let l = run_in r x p in
      let X = (I.reads r l x p).lines n o in (
        sym (X.version k h q),
        sym (((I.follows.run r l).line n).read k h) ∙˙ X.keys k h q,
      )

  pub shared : Fine s → (r : ℕ) (x y : ReadSet) → Among x (f r) → Among y (f r)
      → (n : ℕ) → So (x.on n) → So (y.on n)
      → Snapshot s.counts.keys s.counts.writers b.history b.base x y
  shared F r x y p q n on-x on-y =
      let l = run_in r x p in
      let G = I.follows.run r l in
      share s.counts.keys s.counts.writers b.history b.base _
      (branch_of n (s.run r)) (book_branch n (b.run r))
      I.follows.sound I.follows.lists.carried (G.line n)
      (rw (← plan-same G)
      (read-planned s.counts (s.run r) ((well-out s F.formed).run r l) n))
      x y ((I.reads r l x p).lines n on-x) ((I.reads r l y q).lines n on-y)
      (λ k h o. (read-stands r x p k h o).good)
