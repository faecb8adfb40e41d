-- Lists of calls in a row.
-- after-append, follow-append: one list is the two. follow-buffer: the buffer that is followed.
-- consistent-append: the claim about each of two lists is the claim about both in a row.
-- Assumes nothing.
use mathlib.Core.Path.{◌≡◌, refl, ap, subst}
use mathlib.Core.List.{List, [], ◌∷◌, ◌++◌}
use Prim.Native.Nat.{ℕ}
use Rattle.layout.specs.Calls.{Call, call_on, leaves, after}
use Rattle.consistency.specs.Trace.{Trace, advance, follow}
use Rattle.consistency.specs.Claim.{HoldsAt, Consistent}

pub after-append : (cs ds : List Call) (l : List ℕ) → after (cs ++ ds) l ≡ after ds (after cs l)
unfolding after
after-append [] ds l = refl
after-append (c ∷ cs) ds l = after-append cs ds (leaves (call_on c l) l)

pub follow-append : (cs ds : List Call) (t : Trace) → follow (cs ++ ds) t ≡ follow ds (follow cs t)
unfolding follow
follow-append [] ds t = refl
follow-append (c ∷ cs) ds t = follow-append cs ds (advance c t)

pub follow-buffer : (cs : List Call) (t : Trace) → (follow cs t).buffer ≡ after cs t.buffer
unfolding follow after advance
follow-buffer [] t = refl
follow-buffer (c ∷ cs) t = follow-buffer cs (advance c t)

-- ---- the claim

head_of : Call → List Call → Call
head_of d [] = d
head_of d (c ∷ cs) = c

tail_of : List Call → List Call
tail_of [] = []
tail_of (c ∷ cs) = cs

-- What holds at each point of a list holds at each point behind its first call.
consistent-tail : (c : Call) (cs : List Call) (t : Trace) → Consistent (c ∷ cs) t
    → Consistent cs (advance c t)
unfolding follow
consistent-tail c cs t A sofar rest e = A (c ∷ sofar) rest (ap (λ x. c ∷ x) e)

pub consistent-append : (cs ds : List Call) (t : Trace) → Consistent cs t
    → Consistent ds (follow cs t) → Consistent (cs ++ ds) t
unfolding follow head_of tail_of
consistent-append [] ds t A B sofar rest e = B sofar rest e
consistent-append (c ∷ cs) ds t A B [] rest e = A [] (c ∷ cs) refl
consistent-append (c ∷ cs) ds t A B (x ∷ sofar) rest e =
    subst (λ (y : Call). HoldsAt (follow sofar (advance y t))) (ap (head_of c) e)
    (consistent-append cs ds (advance c t) (consistent-tail c cs t A) B sofar rest (ap tail_of e))
