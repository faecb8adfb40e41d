-- The answers don't depend on the buffer: one buffer serves for all scripts, new before each.
-- words: those of the desk; room-suffices: a buffer has more. new-taken, new-leaves: new is
-- accepted, and what it leaves. answers-any: the answers in any buffer with room for the desk.
-- desk-form: it is in form.
-- Assumes nothing.
use mathlib.Core.Path.{◌≡◌, refl, sym, ap, ap₂, ◌∙◌}
use mathlib.Core.Bool.{So}
use mathlib.Core.List.{List, [], ◌∷◌, map}
use Prim.Native.Nat.{ℕ, ◌≤◌}
use native.Mathlib.Omega.{arith}
use lib.ListN.{length, replicate, length-replicate}
use Rattle.words.proofs.Bools.{le-leb}
use Rattle.sizes.specs.Bounds.{counts_of, between, ranged, past_size, version_size, place_size, site_size, writer_size, run_size, master_at, sites_at, writers_at, runs_at, tail_size, tail_at, total_of}
use Rattle.model.specs.Store.{Store, fresh}
use Rattle.model.specs.Outcome.{Outcome, answer, refuse}
use Rattle.model.specs.Calls.{StoreCall, rule_of}
use Rattle.model.proofs.Outcomes.{next_store}
use Rattle.layout.specs.Buffer.{written, in_form}
use Rattle.layout.specs.Calls.{on, new_cause, call_on, leaves, after, outcomes}
use Rattle.layout.proofs.Follow.{Fine, fine-form, fine_rule, fine-leaves}
use Rattle.layout.proofs.Kept.{Kept}
use Rattle.layout.proofs.Rules.{rule_kept, new-fine, new-done}
use Rattle.listing.specs.Lines.{desk_room, desk_in, answers_in, answers_of}

same-outcomes : (cs : List StoreCall) (s : Store) (l m : List ℕ) → Fine s
    → outcomes (map on cs) (written s l) ≡ outcomes (map on cs) (written s m)
unfolding outcomes
same-outcomes [] s l m F = refl
same-outcomes (c ∷ cs) s l m F =
    let k : Kept s (rule_of c s) = rule_kept c s F in
    let t = next_store (rule_of c s) s in
    ap₂ (λ (x : Outcome) (xs : List Outcome). x ∷ xs)
    (fine_rule c s l F ∙ sym (fine_rule c s m F))
    (ap (outcomes (map on cs)) (fine-leaves c s l F k.counts)
    ∙ same-outcomes cs t l m k.fine
    ∙ ap (outcomes (map on cs)) (sym (fine-leaves c s m F k.counts)))

-- The words of the desk.
abbrev pub words : ℕ
words = total_of (counts_of 2 2 2 1)

pub new-taken : (l : List ℕ) → words ≤ length l → new_cause l (counts_of 2 2 2 1) ≡ 0
unfolding new_cause ranged between refuse
new-taken l h = rw (le-leb words (length l) h)

pub new-leaves : (l : List ℕ) → words ≤ length l → desk_in l ≡ written (fresh (counts_of 2 2 2 1))
    l
unfolding desk_in after call_on leaves
new-leaves l h =
    ap (λ (x : Outcome). leaves x l) (new-done l (counts_of 2 2 2 1) (new-taken l h))

pub room-suffices : (n : ℕ) → desk_room ≤ n → words ≤ n
unfolding past_size version_size place_size site_size writer_size run_size master_at sites_at
    writers_at
    runs_at tail_size tail_at total_of
room-suffices n h = omega arith

zeros-room : words ≤ length (replicate {A = ℕ} desk_room 0)
zeros-room = room-suffices _ (rw (length-replicate {A = ℕ} desk_room 0) (omega arith))

pub answers-any : (l : List ℕ) (cs : List StoreCall) → words ≤ length l
    → answers_in l cs ≡ answers_of cs
unfolding answers_in answers_of
answers-any l cs h =
    let z = counts_of 2 2 2 1 in
    let F : Fine (fresh z) = new-fine l 2 2 2 1 (new-taken l h) in
    let o : List ℕ = replicate desk_room 0 in
    ap (map answer) (ap (outcomes (map on cs)) (new-leaves l h)
    ∙ same-outcomes cs (fresh z) l o F
    ∙ ap (outcomes (map on cs)) (sym (new-leaves o zeros-room)))

-- So that no call tests it.
pub desk-form : (l : List ℕ) → desk_room ≤ length l → So (in_form (desk_in l))
desk-form l h =
    let w = room-suffices (length l) h in
    rw (new-leaves l w)
    (fine-form (fresh (counts_of 2 2 2 1)) l (new-fine l 2 2 2 1 (new-taken l w)))
