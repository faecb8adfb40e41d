-- A book keeps its base: nothing is admitted later on (CR 6).
-- rule_base: by a call on the store. step-base: a book with no base has none after any call.
-- Assumes nothing.
use mathlib.Core.Path.{◌≡◌, refl, ◌∙◌}
use mathlib.Core.Bool.{Bool, true, false}
use lib.Dec.{eqb}
use Rattle.words.proofs.Bools.{test}
use Rattle.model.specs.Calls.{StoreCall, open_run, fetch, evict, prepare, step, issue, drop_run, allow, pick, mayhold, maysave, fork, join, ask}
use Rattle.layout.specs.Calls.{Call, new, audit, on}
use Rattle.history.specs.Listing.{no_base}
use Rattle.history.specs.Book.{Book, fresh_book, with_book_caches, with_book_run, book_open, book_fetch, book_evict, book_mayhold, book_prepare, book_step_job, book_fork, book_join, book_issue, book_issued, book_rule, book_ok, book_step}

pub rule_base : (c : StoreCall) (b : Book) → (book_rule c b).base ≡ b.base
unfolding book_rule book_open book_fetch book_evict book_mayhold book_prepare book_step_job
    book_issued
    book_issue book_fork book_join with_book_caches with_book_run
rule_base (open_run r l) b = refl
rule_base (fetch o k) b = refl
rule_base (evict o k) b = refl
rule_base (prepare r) b = refl
rule_base (step r j n) b = refl
rule_base (issue r w S) b = test (eqb S 0) (λ y. rw y refl) (λ n. rw n refl)
rule_base (drop_run r) b = refl
rule_base (allow o n) b = refl
rule_base pick b = refl
rule_base (mayhold o m) b = refl
rule_base (maysave w m) b = refl
rule_base (fork r) b = refl
rule_base (join r) b = refl
rule_base (ask q) b = refl

pub step-base : (c : Call) (ok : Bool) (b : Book) → b.base ≡ no_base
    → (book_step c ok b).base ≡ no_base
unfolding book_step book_ok fresh_book
step-base c false b e = e
step-base (new k w n p) true b e = refl
step-base (audit v) true b e = e
step-base (on c) true b e = rule_base c b ∙ e
