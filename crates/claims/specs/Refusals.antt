-- By which numbers a call may be refused (demand 1: "one of the outcomes listed for that call").
-- refusals_of: of each call, as documents 01 and 02 name them. RefusedAsListed: no call is refused
-- by another one. ElevenAlone: 11 comes "from admission alone" (CR 6). BrokenAlone: which break.
-- Assumes nothing.
use Rattle.std.specs.Prelude.{◌≡◌, Bool, true, false, ◌||◌, List, [], ◌∷◌, ℕ, eqb}
use Rattle.std.proofs.Math.Bool.{So}
use Rattle.model.specs.Outcome.{refused}
use Rattle.layout.specs.Calls.{Call, new, audit, on, call_on}
use Rattle.model.specs.Calls.{Query, look, explain, stale, admit, forecast, StoreCall, open_run, fetch, evict, prepare, step, issue, drop_run, allow, pick, mayhold, maysave, fork, join, ask}
use Rattle.consistency.specs.Roles.{prepares, finishes, forks, joins, Role, opening, working, freeing, elsewhere, role_of}
use Rattle.consistency.specs.Claim.{is_broken}

abbrev pub is_one_of : ℕ → List ℕ → Bool
is_one_of n [] = false
is_one_of n (x ∷ xs) = eqb n x || is_one_of n xs

-- After 1, which every call on a desk has. CR 12: "A scratch too short gives 1", too.
unfoldable pub asked_refusals : Query → List ℕ
asked_refusals (look p i k) = 3 ∷ 8 ∷ []
asked_refusals (explain r j n) = 3 ∷ 4 ∷ 14 ∷ 6 ∷ 13 ∷ 7 ∷ 12 ∷ []
asked_refusals (stale o) = 3 ∷ []
asked_refusals admit = 11 ∷ []
asked_refusals (forecast n r) = 1 ∷ 3 ∷ 4 ∷ 14 ∷ []

unfoldable pub store_refusals : StoreCall → List ℕ
store_refusals (open_run r l) = 3 ∷ 4 ∷ 5 ∷ []
store_refusals (fetch o k) = 3 ∷ 13 ∷ 7 ∷ 12 ∷ []
store_refusals (evict o k) = 3 ∷ 8 ∷ []
store_refusals (prepare r) = 3 ∷ 4 ∷ 14 ∷ 6 ∷ 13 ∷ 7 ∷ 12 ∷ []
store_refusals (step r j n) = 3 ∷ 4 ∷ 14 ∷ 6 ∷ 13 ∷ 7 ∷ 12 ∷ []
store_refusals (issue r w S) = 3 ∷ 4 ∷ 14 ∷ 6 ∷ 13 ∷ 9 ∷ 10 ∷ []
store_refusals (drop_run r) = 3 ∷ 4 ∷ []
store_refusals (allow o n) = 3 ∷ 12 ∷ []
store_refusals pick = []
store_refusals (mayhold o m) = 3 ∷ []
store_refusals (maysave w m) = 3 ∷ []
store_refusals (fork r) = 3 ∷ 4 ∷ 14 ∷ []
store_refusals (join r) = 3 ∷ 4 ∷ 14 ∷ []
store_refusals (ask q) = asked_refusals q

unfoldable pub refusals_of : Call → List ℕ
refusals_of (new k w n p) = 2 ∷ 1 ∷ []
refusals_of (audit v) = 15 ∷ []
refusals_of (on c) = 1 ∷ store_refusals c

abbrev pub RefusedAsListed : Type 0
RefusedAsListed =
    (c : Call) (l : List ℕ) (n : ℕ) → call_on c l ≡ refused n → So (is_one_of n (refusals_of c))

abbrev pub ElevenAlone : Type 0
ElevenAlone = (c : Call) (l : List ℕ) → call_on c l ≡ refused 11 → c ≡ on (ask admit)

-- A step breaks its run, and a join does (CR 10); no other call breaks one.
unfoldable pub may_break : Role → Bool
may_break (opening r) = false
may_break (working r prepares) = false
may_break (working r (finishes j n)) = true
may_break (working r forks) = false
may_break (working r joins) = true
may_break (freeing r) = false
may_break elsewhere = false

abbrev pub BrokenAlone : Type 0
BrokenAlone =
    (c : StoreCall) (l : List ℕ) → So (is_broken (call_on (on c) l)) → So (may_break (role_of c))
