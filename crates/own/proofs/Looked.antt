-- What a client can write down (CR 14): a look at the card, before the issue, shows the row that
-- stands in the record.
-- looked: taken from the claim as it is stated.
-- Assumes nothing.
use mathlib.Core.Path.{◌≡◌, sym, ap, ◌∙◌}
use mathlib.Core.Bool.{So}
use mathlib.Core.List.{List, [], ◌∷◌, ◌++◌}
use mathlib.Core.Logic.{◌≢◌}
use Prim.Native.Nat.{ℕ, ◌<◌}
use lib.ListN.{length}
use Rattle.words.proofs.Bools.{◌∙˙◌, gt-leb}
use Rattle.words.proofs.Lists.{blocks-ext}
use Rattle.masks.specs.Mask.{test_bit}
use Rattle.clock.specs.Clock.{standing_number}
use Rattle.sizes.specs.declared.Counts.{Counts}
use Rattle.model.specs.Outcome.{told, refuse}
use Rattle.model.specs.Calls.Look.{look_place, look_limit, look_cause, row_numbers, look_standing, look_numbers, look_reply}
use Rattle.model.specs.Calls.{issue, look, ask, reply_of}
use Rattle.model.proofs.Formed.{well-out}
use Rattle.model.proofs.Plans.{run-branch}
use Rattle.layout.specs.Reading.{store_of}
use Rattle.layout.specs.Buffer.{in_form}
use Rattle.layout.specs.Calls.{Call, on, call_on, new_on, is_ok_of}
use Rattle.layout.proofs.Whole.{store-back}
use Rattle.layout.proofs.Follow.{form-fine, fine-form}
use Rattle.layout.proofs.Forms.{ask-told}
use Rattle.consistency.specs.Trace.{start, advance, follow}
use Rattle.consistency.proofs.Points.{start-at, follow-at}
use Rattle.records.specs.Format.{Record, clock_of, ReadOf}
use Rattle.own.specs.Claims.{record_at, goes_on_of, OwnWritten}
use Rattle.own.proofs.Noting.{issue-passed}

-- The look at sheet k on the card of run r shows the row of read x of the record.
abbrev pub Shows : List ℕ → ℕ → ℕ → Record → ℕ → Type 0
Shows l r k b x =
    let W = (store_of l).counts.writers in
    (n m st : ℕ)
    × (call_on (on (ask (look 2 r k))) l
    ≡ told 0 (n ∷ m ∷ (row_numbers W (clock_of b x) ++ st ∷ [])))

module _ (l : List ℕ) (form : So (in_form l)) (r k : ℕ) (lr : r < (store_of l).counts.runs)
    (lk : k < (store_of l).counts.keys)
    (p : So (test_bit ((store_of l).run r).branch.read k)) where
  no-cause : look_cause (store_of l) 2 r k ≡ 0
  unfolding look_cause look_limit look_place refuse
  no-cause =
      let s = store_of l in
      let held = (run-branch s.counts (s.run r)
      ((well-out s (form-fine l form).formed).run r lr) 0).has k lk p in
      rw (gt-leb s.counts.runs r lr, gt-leb s.counts.keys k lk, held)

  shows : (b : Record) (x : ℕ)
      → ((u : ℕ) → u < (store_of l).counts.writers
      → clock_of b x u ≡ (((store_of l).run r).branch.snapshot k).past k u)
      → Shows l r k b x
  unfolding reply_of look_reply look_numbers look_place row_numbers
  shows b x f =
      let s = store_of l in
      let W = s.counts.writers in
      let v = (s.run r).branch.snapshot k in
      let same = blocks-ext W (λ u. clock_of b x u ∷ []) (λ u. v.past k u ∷ [])
      (λ u o. ap (λ (n : ℕ). n ∷ []) (f u o)) in
      let e = ask-told (look 2 r k) l form no-cause in
      let st = standing_number (look_standing W k v (s.master k)) in
      (v.issue, v.leaders, st, rw same e)

pub looked : OwnWritten → (l : List ℕ) (z : Counts) → So (is_ok_of (new_on l z))
    → (before : List Call) (r w S : ℕ) → let t = follow before (start z l) in
    let next = advance (on (issue r w S)) t in
    So (is_ok_of (call_on (on (issue r w S)) t.buffer)) → S ≢ 0
    → (later : List Call) → So (goes_on_of later next.buffer)
    → let s = store_of t.buffer in
    let b = record_at (follow later next) in
    (k : ℕ) → k < s.counts.keys → So (test_bit (s.run r).branch.read k)
    → (x : ℕ) × ReadOf b (length t.book.history) x × Shows t.buffer r k b x
looked C l z ok before r w S p n later q k lk y =
    let t = follow before (start z l) in
    let A = follow-at before (start z l) (start-at z l ok) in
    let D = C l z ok before r w S p n later q in
    let e = D.every k lk y in
    let back : store_of t.buffer ≡ A.store =
    ap store_of A.holds ∙ store-back A.store A.base A.fine.fits in
    let form = sym (ap in_form A.holds) ∙˙ fine-form A.store A.base A.fine in
    let lr : r < (store_of t.buffer).counts.runs = rw back (issue-passed t A r w S p).0 in
    let b = record_at (follow later (advance (on (issue r w S)) t)) in (
      e.0,
      e.1,
      shows t.buffer form r k lr lk y b e.0 (λ u o. rw e.2 at (D.row e.0 u e.1 o)),
    )
