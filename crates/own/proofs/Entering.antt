-- What a call on the store does to the book's counts and history (CR 14): issue alone enters one
-- issue more.
-- Enters; rule_enters: each call.
-- Assumes nothing.
use mathlib.Core.Path.{◌≡◌, refl}
use mathlib.Core.List.{◌∷◌}
use Prim.Native.Nat.{ℕ}
use lib.Dec.{eqb}
use Rattle.words.proofs.Bools.{test}
use Rattle.model.specs.Calls.{StoreCall, open_run, fetch, evict, prepare, step, issue, drop_run, allow, pick, mayhold, maysave, fork, join, ask}
use Rattle.history.specs.Book.{Book, with_book_caches, with_book_run, book_open, book_fetch, book_evict, book_mayhold, book_prepare, book_step_job, book_fork, book_join, entry, book_issue, book_issued, book_rule}

-- Book g after call c on book b.
pub data Enters (c : StoreCall) (b g : Book) : Type 0 where
  nothing : g.counts ≡ b.counts → g.history ≡ b.history → Enters c b g
  one : {r w S : ℕ} → c ≡ issue r w S → g.counts ≡ b.counts
      → g.history ≡ entry r w S b ∷ b.history → Enters c b g

pub rule_enters : (c : StoreCall) (b : Book) → Enters c b (book_rule c b)
unfolding book_rule book_open book_fetch book_evict book_mayhold book_prepare book_step_job
    book_issued
    book_issue book_fork book_join with_book_caches with_book_run
rule_enters (open_run r l) b = nothing refl refl
rule_enters (fetch o k) b = nothing refl refl
rule_enters (evict o k) b = nothing refl refl
rule_enters (prepare r) b = nothing refl refl
rule_enters (step r j n) b = nothing refl refl
rule_enters (issue r w S) b =
    test (eqb S 0) (λ y. rw y (nothing refl refl)) (λ n. rw n (one refl refl refl))
rule_enters (drop_run r) b = nothing refl refl
rule_enters (allow o n) b = nothing refl refl
rule_enters pick b = nothing refl refl
rule_enters (mayhold o m) b = nothing refl refl
rule_enters (maysave w m) b = nothing refl refl
rule_enters (fork r) b = nothing refl refl
rule_enters (join r) b = nothing refl refl
rule_enters (ask q) b = nothing refl refl
