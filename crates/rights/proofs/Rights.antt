-- What mayhold and maysave come to on a buffer in form: refused out of range, or done.
-- right-inside: in range. ..-out, ..-done: answer and buffer.
-- Assumes nothing.
use mathlib.Core.Path.{◌≡◌, refl, sym, ap, ◌∙◌}
use mathlib.Core.Bool.{Bool, true, false, ◌||◌}
use mathlib.Core.List.{List, [], ◌∷◌}
use Prim.Native.Nat.{ℕ, ◌^◌, ◌<◌}
use native.Mathlib.Omega.{arith}
use lib.Dec.{leb}
use lib.ListN.{set}
use Rattle.words.proofs.Bools.{or-none, leb-gt}
use Rattle.sizes.specs.declared.Counts.{Counts}
use Rattle.sizes.specs.Bounds.{may_hold_at, may_save_at}
use Rattle.model.specs.Store.{Store, with_sites, with_cache, with_may_hold, with_may_save}
use Rattle.model.specs.Outcome.{done, answer, refuse, unless}
use Rattle.model.specs.Calls.Rights.{right_cause, mayhold_cache, mayhold_done, mayhold_rule, maysave_rule}
use Rattle.model.specs.Calls.{StoreCall, mayhold, maysave, rule_of}
use Rattle.layout.specs.Reading.{store_of}
use Rattle.layout.specs.Buffer.{written}
use Rattle.layout.specs.Calls.{leaves}
use Rattle.layout.proofs.Updates.{put-may_hold, put-may_save}
use Rattle.form.specs.Parts.{FormWith}
use Rattle.form.proofs.Known.{form-counts, form-again, Ends, ends-refused, ends-done}

-- ---- the range: i of n, and a mask of K keys

pub right-inside : (n i b m : ℕ) → leb n i || leb b m ≡ false → i < n
right-inside n i b m e = leb-gt n i (or-none (leb n i) (leb b m) e).0

-- A call that sets a right and leaves the store t.
module _ (c : StoreCall) (l : List ℕ) (z : Counts) (H : FormWith l z) (n i m : ℕ) (t : Store)
    (rule : rule_of c (store_of l) ≡ unless (right_cause (store_of l) n i m) (done (0 ∷ []) t))
  where
    abbrev out : Bool
    out = leb n i || leb (2 ^ z.keys) m

    -- The cause as the code tests it.
    by-range : right_cause (store_of l) n i m ≡ refuse out 3 0
    unfolding right_cause refuse
    by-range = rw (form-counts l z H) (go (leb n i) (leb (2 ^ z.keys) m))
      where
        go : (a b : Bool) → refuse a 3 (refuse b 3 0) ≡ refuse (a || b) 3 0
        go true b = refl
        go false true = refl
        go false false = refl

    right-out : out ≡ true → Ends c l (2 ∷ 3 ∷ []) l
    unfolding refuse
    right-out p =
        let three : right_cause (store_of l) n i m ≡ 3 = by-range ∙ rw p in
        ends-refused c l 3 _ H.form (rw three at rule) (omega arith)

    right-done : out ≡ false → (k : List ℕ) → k ≡ written t l → Ends c l (0 ∷ 0 ∷ []) k
    unfolding refuse answer leaves
    right-done p k e =
        ends-done c l _ _ H.form rule (by-range ∙ rw p) (0 ∷ 0 ∷ []) k refl e

-- ---- the calls

module _ (l : List ℕ) (z : Counts) (H : FormWith l z) (o m : ℕ) where
  abbrev s : Store
  s = store_of l

  -- The store when E has left.
  abbrev left : Store
  left = with_cache s o (mayhold_cache s o m)

  left-counts : left.counts ≡ z
  unfolding with_cache with_sites
  left-counts = form-counts l z H

  hold_rule : rule_of (mayhold o m) s
      ≡ unless (right_cause s z.sites o m) (done (0 ∷ []) (with_may_hold left o m))
  unfolding rule_of mayhold_rule mayhold_done
  hold_rule = rw (← form-counts l z H)

  pub mayhold-out : leb z.sites o || leb (2 ^ z.keys) m ≡ true
      → Ends (mayhold o m) l (2 ∷ 3 ∷ []) l
  mayhold-out = right-out (mayhold o m) l z H z.sites o m _ hold_rule

  pub mayhold-done : leb z.sites o || leb (2 ^ z.keys) m ≡ false → (k : List ℕ) (at : ℕ)
      → k ≡ written left l → at ≡ may_hold_at z o → Ends (mayhold o m) l (0 ∷ 0 ∷ []) (set k at m)
  mayhold-done p k at e a =
      let h : o < left.counts.sites = rw left-counts (right-inside z.sites o _ m p) in
      let put : set (written left l) (may_hold_at z o) m ≡ written (with_may_hold left o m) l =
      rw (← left-counts) (put-may_hold left l o m h) in
      right-done (mayhold o m) l z H z.sites o m _ hold_rule p _ (rw (e, a) put)

module _ (l : List ℕ) (z : Counts) (H : FormWith l z) (w m : ℕ) where
  save_rule : rule_of (maysave w m) (store_of l)
      ≡ unless (right_cause (store_of l) z.writers w m)
      (done (0 ∷ []) (with_may_save (store_of l) w m))
  unfolding rule_of maysave_rule
  save_rule = rw (← form-counts l z H)

  pub maysave-out : leb z.writers w || leb (2 ^ z.keys) m ≡ true
      → Ends (maysave w m) l (2 ∷ 3 ∷ []) l
  maysave-out = right-out (maysave w m) l z H z.writers w m _ save_rule

  pub maysave-done : leb z.writers w || leb (2 ^ z.keys) m ≡ false → (at : ℕ)
      → at ≡ may_save_at z w → Ends (maysave w m) l (0 ∷ 0 ∷ []) (set l at m)
  maysave-done p at a =
      let s = store_of l in
      let same = form-counts l z H in
      let h : w < s.counts.writers = rw same (right-inside z.writers w _ m p) in
      let put : set (written s l) (may_save_at z w) m ≡ written (with_may_save s w m) l =
      rw (← same) (put-may_save s l w m h) in
      right-done (maysave w m) l z H z.writers w m _ save_rule p _
      (rw a (ap (λ (k : List ℕ). set k (may_save_at z w) m) (sym (form-again l z H)) ∙ put))
