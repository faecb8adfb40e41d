-- Which calls the scripts of CR 13 are made of, and the order of scripts.
-- calls: the list. InRange: by kind and bounds. Before: the order, apart from any list.
-- listing: all scripts of one to three calls.
-- Assumes nothing.
use Rattle.std.specs.Prelude.{◌≡◌, ◌⊎◌, List, [], ◌∷◌, ◌++◌, ℕ, ◌<◌, ◌^◌, length}
use Rattle.model.specs.Calls.{StoreCall, open_run, fetch, evict, prepare, step, issue, drop_run, allow, pick, mayhold, maysave, fork, join, ask}
use Rattle.listing.specs.Scripts.{firsts, rows, scripts, Lex}

-- ---- the calls

-- The words of one job: site o, mask m, "of upstream 0".
abbrev pub one_job : ℕ → ℕ → List ℕ
one_job o m = o ∷ m ∷ 0 ∷ []

-- "drawn from fetch, evict, `open 0` with one job of upstream 0, `step 0 0`, issue and drop, all
-- numbers in range": in this order, K keys, W writers, N sites, run 0 alone. A step's line is left
-- out, so 0 (CR 10).
unfoldable pub calls : ℕ → ℕ → ℕ → List StoreCall
calls K W N =
    rows N (λ o. firsts K (λ k. fetch o k))
    ++ (rows N (λ o. firsts K (λ k. evict o k))
    ++ (rows N (λ o. firsts (2 ^ K) (λ m. open_run 0 (one_job o m)))
    ++ (step 0 0 0
    ∷ (rows W (λ w. firsts (2 ^ K) (λ S. issue 0 w S))
    ++ (drop_run 0 ∷ [])))))

-- The same by kind and bounds, without the list.
unfoldable pub InRange : ℕ → ℕ → ℕ → StoreCall → Type 0
InRange K W N (open_run r l) =
    (r ≡ 0) × ((o : ℕ) × (m : ℕ) × (o < N) × (m < 2 ^ K) × (l ≡ one_job o m))
InRange K W N (fetch o k) = (o < N) × (k < K)
InRange K W N (evict o k) = (o < N) × (k < K)
InRange K W N (prepare r) = ⊥
InRange K W N (step r j n) = (r ≡ 0) × (j ≡ 0) × (n ≡ 0)
InRange K W N (issue r w S) = (r ≡ 0) × (w < W) × (S < 2 ^ K)
InRange K W N (drop_run r) = r ≡ 0
InRange K W N (allow o n) = ⊥
InRange K W N pick = ⊥
InRange K W N (mayhold o m) = ⊥
InRange K W N (maysave w m) = ⊥
InRange K W N (fork r) = ⊥
InRange K W N (join r) = ⊥
InRange K W N (ask q) = ⊥

-- ---- the order

-- "by its kind in the order just named": fetch, evict, open, step, issue, drop. 6: another call.
unfoldable pub kind_of : StoreCall → ℕ
kind_of (open_run r l) = 2
kind_of (fetch o k) = 0
kind_of (evict o k) = 1
kind_of (prepare r) = 6
kind_of (step r j n) = 3
kind_of (issue r w S) = 4
kind_of (drop_run r) = 5
kind_of (allow o n) = 6
kind_of pick = 6
kind_of (mayhold o m) = 6
kind_of (maysave w m) = 6
kind_of (fork r) = 6
kind_of (join r) = 6
kind_of (ask q) = 6

-- Its numbers, from the left, as they are typed: a step's line is left out.
unfoldable pub arguments_of : StoreCall → List ℕ
arguments_of (open_run r l) = r ∷ l
arguments_of (fetch o k) = o ∷ k ∷ []
arguments_of (evict o k) = o ∷ k ∷ []
arguments_of (prepare r) = r ∷ []
arguments_of (step r j n) = r ∷ j ∷ []
arguments_of (issue r w S) = r ∷ w ∷ S ∷ []
arguments_of (drop_run r) = r ∷ []
arguments_of (allow o n) = o ∷ n ∷ []
arguments_of pick = []
arguments_of (mayhold o m) = o ∷ m ∷ []
arguments_of (maysave w m) = w ∷ m ∷ []
arguments_of (fork r) = r ∷ []
arguments_of (join r) = r ∷ []
arguments_of (ask q) = []

-- A call in words: its kind, then its numbers.
abbrev pub call_words : StoreCall → List ℕ
call_words c = kind_of c ∷ arguments_of c

-- "by its kind .., then by its numbers from the left".
unfoldable pub CallBefore : StoreCall → StoreCall → Type 0
CallBefore c d = Lex ◌<◌ (call_words c) (call_words d)

-- "Shorter scripts come first; of equal lengths the first differing call decides".
unfoldable pub Before : List StoreCall → List StoreCall → Type 0
Before a b = (length a < length b) ⊎ ((length a ≡ length b) × Lex CallBefore a b)

-- ---- the listing

-- "every script of one to three calls after `new 2 2 2 1`", shorter ones first.
unfoldable pub listing : List (List StoreCall)
listing =
    scripts (calls 2 2 2) 1 ++ (scripts (calls 2 2 2) 2 ++ scripts (calls 2 2 2) 3)
