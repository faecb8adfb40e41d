-- The calls that the program makes are a list of demand 3's claim.
-- begun: calls on a buffer that isn't in form. begun-made, begun-formed: what that says of the
-- buffer that they left. blank-form: a buffer of zeros isn't in form.
-- Assumes nothing.
use mathlib.Core.Path.{◌≡◌, refl, sym, ap, ◌∙◌}
use mathlib.Core.Bool.{false, So}
use mathlib.Core.Logic.{◌⊎◌, inl, inr}
use mathlib.Core.List.{List, [], ◌∷◌, append-nil}
use Prim.Native.Nat.{ℕ, zero, suc}
use native.Mathlib.Decide.{ℕ_discrete}
use lib.Dec.{leb}
use lib.ListN.{length, replicate}
use Rattle.words.proofs.Bools.{test}
use Rattle.sizes.specs.Bounds.{counts_of, between, ranged}
use Rattle.layout.specs.Reading.{counts_in}
use Rattle.layout.specs.Buffer.{shaped, in_form}
use Rattle.layout.specs.Calls.{Call, new, audit, on, new_cause, new_on, call_on, leaves, is_ok_of, after}
use Rattle.layout.proofs.Forms.{no-form, audit-leaves}
use Rattle.layout.proofs.Rules.{new-done, new-refused}
use Rattle.consistency.specs.Trace.{start}
use Rattle.consistency.proofs.Rows.{after-append, follow-buffer}
use Rattle.consistency.proofs.Theorem.{demand_3}
use Rattle.script.specs.Tie.{Begun, unchanged, from}

-- One call more in front, that leaves the buffer.
begun_more : (l : List ℕ) (c : Call) (ds : List Call) (m : List ℕ) → leaves (call_on c l) l ≡ l
    → Begun l ds m → Begun l (c ∷ ds) m
unfolding after
begun_more l c ds m e (unchanged u i) = unchanged (rw e u) i
begun_more l c ds m e (from es k w n p cs d a ok b h) =
    from (c ∷ es) k w n p cs (ap (λ x. c ∷ x) d) (rw e a) ok b h

begun-after : (l : List ℕ) → in_form l ≡ false → (ds : List Call) → Begun l ds (after ds l)
unfolding after call_on leaves is_ok_of start
begun-after l bad [] = unchanged refl refl
begun-after l bad (on c ∷ ds) =
    rw (no-form c l bad)
    (begun_more l (on c) ds (after ds l) (rw (no-form c l bad)) (begun-after l bad ds))
begun-after l bad (audit v ∷ ds) =
    rw (audit-leaves v l)
    (begun_more l (audit v) ds (after ds l) (audit-leaves v l) (begun-after l bad ds))
begun-after l bad (new k w n p ∷ ds) =
    let z = counts_of k w n p in
    elim (ℕ_discrete (new_cause l z) 0) [
      | yes e ↦
          let ok : So (is_ok_of (new_on l z)) = rw (new-done l z e) in
          from [] k w n p ds refl refl ok (sym (follow-buffer ds (start z l)))
          (demand_3 l z ok ds)
      | no e ↦ rw (new-refused l z e)
          (begun_more l (new k w n p) ds (after ds l) (rw (new-refused l z e))
          (begun-after l bad ds))
    ]

pub begun : (l : List ℕ) → in_form l ≡ false → (ds : List Call) (m : List ℕ) → m ≡ after ds l
    → Begun l ds m
begun l bad ds m e = rw e (begun-after l bad ds)

-- What a reader takes out of it: the calls made that buffer,
pub begun-made : (l : List ℕ) (ds : List Call) (m : List ℕ) → Begun l ds m → m ≡ after ds l
unfolding after call_on start
begun-made l ds m (unchanged u i) = i ∙ sym u
begun-made l ds m (from es k w n p cs d a ok b h) =
    b ∙ follow-buffer cs (start (counts_of k w n p) l)
    ∙ sym (ap (λ x. after x l) d ∙ after-append es (new k w n p ∷ cs) l
    ∙ ap (after (new k w n p ∷ cs)) a)

-- and it is as it was, or in form.
pub begun-formed : (l : List ℕ) (ds : List Call) (m : List ℕ) → Begun l ds m
    → (m ≡ l) ⊎ So (in_form m)
begun-formed l ds m (unchanged u i) = inl i
begun-formed l ds m (from es k w n p cs d a ok b h) =
    inr (ap in_form b ∙ (h cs [] (sym (append-nil cs))).formed)

-- "Before any new, the buffer is all zero": no counts are in range.
pub blank-form : (n : ℕ) → in_form (replicate n 0) ≡ false
unfolding in_form shaped ranged between counts_in
blank-form zero = refl
blank-form (suc n) =
    let l : List ℕ = replicate (suc n) 0 in
    test (leb 10 (length l)) (λ h. rw h refl) (λ h. rw h refl)
