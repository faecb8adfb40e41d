-- What the listing holds: every script of one to three calls in range, and nothing else.
-- Assumes nothing.
use mathlib.Core.Path.{◌≡◌, refl}
use mathlib.Core.Logic.{◌↔◌}
use mathlib.Core.List.{List, ◌++◌}
use Prim.Native.Nat.{ℕ, zero, suc, ◌≤◌}
use native.Mathlib.Omega.{arith}
use lib.ListN.{length}
use Rattle.model.specs.Calls.{StoreCall}
use Rattle.listing.specs.Scripts.{scripts, In, AllOf}
use Rattle.listing.specs.Calls.{calls, InRange, listing}
use Rattle.listing.proofs.Members.{all_append, all_among, all_in, in_append_left, in_append_right, all_listed}

-- "every script of one to three calls .., all numbers in range".
abbrev pub Small : List StoreCall → Type 0
Small cs = (1 ≤ length cs) × (length cs ≤ 3) × AllOf (InRange 2 2 2) cs

abbrev of : ℕ → List (List StoreCall)
of n = scripts (calls 2 2 2) n

only : (n : ℕ) → 1 ≤ n → n ≤ 3 → AllOf Small (of n)
only n h k =
    all_among Small (of n) (λ cs p.
    let q = (all_listed 2 2 2 n cs).0 p in
    let e : length cs ≡ n = q.0 in (rw e h, rw e k, q.1))

listing-only : AllOf Small listing
unfolding listing
listing-only =
    all_append Small (of 1) (of 2 ++ of 3) (only 1 (omega arith) (omega arith))
    (all_append Small (of 2) (of 3) (only 2 (omega arith) (omega arith))
    (only 3 (omega arith) (omega arith)))

listing-has : (cs : List StoreCall) → Small cs → In cs listing
unfolding listing
listing-has cs p = go (length cs) refl
  where
    go : (n : ℕ) → length cs ≡ n → In cs listing
    go zero e = absurd (omega (arith, p.0))
    go (suc zero) e =
        in_append_left cs (of 1) (of 2 ++ of 3) ((all_listed 2 2 2 1 cs).1 (e, p.2))
    go (suc (suc zero)) e =
        in_append_right cs (of 1) (of 2 ++ of 3)
        (in_append_left cs (of 2) (of 3) ((all_listed 2 2 2 2 cs).1 (e, p.2)))
    go (suc (suc (suc zero))) e =
        in_append_right cs (of 1) (of 2 ++ of 3)
        (in_append_right cs (of 2) (of 3) ((all_listed 2 2 2 3 cs).1 (e, p.2)))
    go (suc (suc (suc (suc n)))) e = absurd (omega (arith, p.1))

pub listing-all : (cs : List StoreCall) → In cs listing ↔ Small cs
listing-all cs = (all_in Small listing listing-only cs, listing-has cs)
