-- What a reader takes out of the claims on two lines (CR 10); nothing here knows how they are
-- proved.
-- ..-stays: a step leaves the other line. ..-marks: who sets a mark. fork-once: no second fork
-- until the run is freed. no_join: of a run that isn't forked. one-version, still_read: what was
-- read on either line. other-words: a broken join.
-- Assumes nothing.
use mathlib.Core.Path.{◌≡◌, refl, sym, ap, ◌∙◌}
use mathlib.Core.Bool.{Bool, true, false, So, cond, not, ◌&&◌}
use mathlib.Core.Logic.{◌≢◌}
use mathlib.Core.List.{List, [], ◌∷◌, map}
use Prim.Native.Nat.{ℕ, ◌<◌}
use native.Mathlib.Omega.{arith}
use lib.Dec.{eqb}
use lib.ListN.{get_or}
use lib.Seq.{get_or-set_other}
use Rattle.words.proofs.Bools.{test, clash, and_intro, and_left, and_right, not_elim, eq-eqb}
use Rattle.masks.specs.Mask.{test_bit}
use Rattle.sizes.specs.Bounds.{run_at_of}
use Rattle.model.specs.Store.{Run, forked_mark, joined_mark, Store}
use Rattle.model.specs.Outcome.{broken, free_state, broken_state}
use Rattle.model.specs.Calls.{StoreCall, step, fork, join}
use Rattle.layout.specs.Reading.{store_of}
use Rattle.layout.specs.Buffer.{in_form}
use Rattle.layout.specs.Calls.{on, call_on, leaves, is_ok_of, after}
use Rattle.layout.proofs.Forms.{form-kept}
use Rattle.consistency.specs.Roles.{prepares, finishes, forks, joins, Role, opening, working, freeing, elsewhere, role_of, opens, frees}
use Rattle.consistency.specs.Lasting.{Lasting}
use Rattle.consistency.specs.Claim.{is_refused}
use Rattle.claims.specs.Lines.{KeepsOther, mark_by, MarkedByCalls, ForksOpen, JoinsForked, JoinKeepsReads, BreakSetsState}

-- Run r after a call.
abbrev next : List ℕ → ℕ → StoreCall → Run
next l r c = (store_of (leaves (call_on (on c) l) l)).run r

-- ---- lines

module _ (keeps : KeepsOther) (l : List ℕ) (r j : ℕ) (F : So (in_form l)) where
  pub second-stays : (next l r (step r j 0)).second ≡ ((store_of l).run r).second
  second-stays = keeps l r j 0 1 F refl

  pub first-stays : (next l r (step r j 1)).branch ≡ ((store_of l).run r).branch
  first-stays = keeps l r j 1 0 F refl

-- ---- marks

module _ (marked : MarkedByCalls) (l : List ℕ) (r : ℕ) (F : So (in_form l)) where
  pub fork-marks : So (is_ok_of (call_on (on (fork r)) l)) → (next l r (fork r)).mark ≡ forked_mark
  unfolding role_of mark_by
  fork-marks ok = marked l (fork r) r F ∙ rw (ok, eq-eqb r r refl) refl

  pub join-marks : So (is_ok_of (call_on (on (join r)) l)) → (next l r (join r)).mark ≡ joined_mark
  unfolding role_of mark_by
  join-marks ok = marked l (join r) r F ∙ rw (ok, eq-eqb r r refl) refl

  -- No other call on the run does, nor one on another run.
  pub step-marks : (x j n : ℕ) → (next l r (step x j n)).mark ≡ ((store_of l).run r).mark
  unfolding role_of mark_by
  step-marks x j n =
      marked l (step x j n) r F
      ∙ test (is_ok_of (call_on (on (step x j n)) l)) (λ y. rw y refl) (λ y. rw y refl)

  pub other-marks : (x : ℕ) → eqb r x ≡ false → (next l r (fork x)).mark ≡ ((store_of l).run
      r).mark
  unfolding role_of mark_by
  other-marks x e =
      marked l (fork x) r F
      ∙ test (is_ok_of (call_on (on (fork x)) l)) (λ y. rw (y, e) refl) (λ y. rw y refl)

-- ---- "An open run may fork once"

-- No accepted call of a list, made on a buffer, frees run r.
abbrev pub unfreed : ℕ → List StoreCall → List ℕ → Bool
unfreed r [] l = true
unfreed r (c ∷ cs) l =
    let x = call_on (on c) l in
    not (frees r (role_of c) && is_ok_of x) && unfreed r cs (leaves x l)

-- A run that is in use and was forked, joined since or not.
record WasForked (r : ℕ) (l : List ℕ) : Type 0 where
  pub formed : So (in_form l)
  pub used : ((store_of l).run r).state ≢ free_state
  pub mark : ((store_of l).run r).mark ≢ 0

-- An accepted call that neither opens nor frees it leaves a mark.
by_role : (p : Role) (r m : ℕ) → m ≢ 0 → opens r p ≡ false → frees r p ≡ false
    → mark_by p r m ≢ 0
unfolding mark_by opens frees
by_role (opening x) r m n o f = rw o n
by_role (working x prepares) r m n o f = n
by_role (working x (finishes j k)) r m n o f = n
by_role (working x forks) r m n o f =
    test (eqb r x) (λ y e. absurd (omega (arith, rw y at e))) (λ y e. n (rw y at e))
by_role (working x joins) r m n o f =
    test (eqb r x) (λ y e. absurd (omega (arith, rw y at e))) (λ y e. n (rw y at e))
by_role (freeing x) r m n o f = rw f n
by_role elsewhere r m n o f = n

module _ (marked : MarkedByCalls) (lasting : Lasting) (r : ℕ) where
  call-forked : (c : StoreCall) (l : List ℕ) → WasForked r l
      → frees r (role_of c) && is_ok_of (call_on (on c) l) ≡ false
      → WasForked r (leaves (call_on (on c) l) l)
  call-forked c l W f = record {
    formed = form-kept c l W.formed;
    used = ((lasting l c r W.formed).lasts W.used f).used;
    mark = λ e. marks (sym (marked l c r W.formed) ∙ e);
  }
    where
      m : ℕ
      m = ((store_of l).run r).mark

      marks : cond (is_ok_of (call_on (on c) l)) (mark_by (role_of c) r m) m ≢ 0
      marks =
          test (is_ok_of (call_on (on c) l))
          (λ y. rw y (by_role (role_of c) r m W.mark
          (test (opens r (role_of c)) (λ o. absurd (W.used
          ((lasting l c r W.formed).opened (and_intro o y)).0)) (λ o. o))
          (test (frees r (role_of c)) (λ o. clash (and_intro o y) f) (λ o. o))))
          (λ y. rw y W.mark)

  list-forked : (cs : List StoreCall) (l : List ℕ) → WasForked r l → So (unfreed r cs l)
      → WasForked r (after (map on cs) l)
  unfolding after
  list-forked [] l W p = W
  list-forked (c ∷ cs) l W p =
      let x = call_on (on c) l in
      let f = not (frees r (role_of c) && is_ok_of x) in
      list-forked cs (leaves x l)
      (call-forked c l W (not_elim (and_left f (unfreed r cs (leaves x l)) p)))
      (and_right f (unfreed r cs (leaves x l)) p)

  -- After an accepted fork, and any calls that don't free the run, no fork of it is answered ok.
  pub fork-once : ForksOpen → (l : List ℕ) → So (in_form l) → So (is_ok_of
      (call_on (on (fork r)) l))
      → let after-fork = leaves (call_on (on (fork r)) l) l in
      (cs : List StoreCall) → So (unfreed r cs after-fork)
      → ¬ (So (is_ok_of (call_on (on (fork r)) (after (map on cs) after-fork))))
  unfolding role_of frees
  fork-once asks l F ok cs p again =
      let used : ((store_of l).run r).state ≢ free_state =
      λ e. absurd (omega (arith, e, (asks l r ok).0)) in
      let W : WasForked r (leaves (call_on (on (fork r)) l) l) = record {
        formed = form-kept (fork r) l F;
        used = ((lasting l (fork r) r F).lasts used refl).used;
        mark = λ e. absurd (omega (arith, e, fork-marks marked l r F ok));
      } in
      (list-forked cs _ W p).mark (asks _ r again).1

-- ---- joining

-- A sheet that both lines have read is one version, if the join goes through.
pub one-version : JoinKeepsReads → (l : List ℕ) (r k : ℕ) → So (is_ok_of (call_on (on (join r)) l))
    → let a = (store_of l).run r in k < (store_of l).counts.keys
    → So (test_bit a.branch.read k) → So (test_bit a.second.read k)
    → a.branch.snapshot k ≡ a.second.snapshot k
one-version claim l r k ok h p q =
    sym (claim l r 0 k ok h p).0 ∙ (claim l r 1 k ok h q).0

pub still_read : JoinKeepsReads → (l : List ℕ) (r k : ℕ) → So (is_ok_of (call_on (on (join r)) l))
    → k < (store_of l).counts.keys → So (test_bit ((store_of l).run r).second.read k)
    → So (test_bit (next l r (join r)).branch.read k)
still_read claim l r k ok h p = (claim l r 1 k ok h p).1

-- One of a run that isn't forked is turned down.
pub no_join : JoinsForked → (l : List ℕ) (r : ℕ) → ((store_of l).run r).mark ≢ forked_mark
    → So (is_refused (call_on (on (join r)) l))
no_join claim l r n =
    test (is_refused (call_on (on (join r)) l)) (λ y. y) (λ y. absurd (n (claim l r y).1))

-- A broken one leaves each word but the run's state.
pub other-words : BreakSetsState → (l : List ℕ) (r m : ℕ) (t : Store)
    → call_on (on (join r)) l ≡ broken m t → (i : ℕ) → i ≢ run_at_of (store_of l).counts r
    → get_or (leaves (call_on (on (join r)) l) l) i 0 ≡ get_or l i 0
other-words claim l r m t f i n =
    ap (λ (w : List ℕ). get_or w i 0) (claim l r m t f)
    ∙ get_or-set_other l (run_at_of (store_of l).counts r) i broken_state 0 n
