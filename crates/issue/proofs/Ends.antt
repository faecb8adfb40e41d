-- What issue comes to on a buffer in form: refused by its cause, or done.
-- issue-refused, issue-done: answer and buffer.
-- Assumes nothing.
use mathlib.Core.Path.{◌≡◌, refl, ◌∙◌}
use mathlib.Core.Bool.{So}
use mathlib.Core.Logic.{◌≢◌}
use mathlib.Core.List.{List, [], ◌∷◌}
use Prim.Native.Nat.{ℕ, ◌<◌}
use lib.Dec.{eqb}
use Rattle.words.proofs.Bools.{test}
use Rattle.sizes.specs.declared.Counts.{Counts}
use Rattle.sizes.specs.Bounds.{run_at_of}
use Rattle.model.specs.Store.{Store, free_run, with_caches, with_last, with_marks, with_master, with_sites, with_writer, with_run}
use Rattle.model.specs.Outcome.{answer, unless}
use Rattle.model.specs.Issue.{issue_cause, saved_store, issued_store, issued_number, issue_done, issue_rule}
use Rattle.model.specs.Calls.{issue, rule_of}
use Rattle.layout.specs.Reading.{store_of}
use Rattle.layout.specs.Stored.{put_run}
use Rattle.layout.specs.Buffer.{written, in_form}
use Rattle.layout.specs.Calls.{leaves}
use Rattle.form.specs.Parts.{FormWith}
use Rattle.form.proofs.Known.{form-counts, Ends, ends-refused, ends-done}
use Rattle.issue.proofs.Chain.{run-put}

issue_rule_lem : (r w S : ℕ) (s : Store)
    → rule_of (issue r w S) s ≡ unless (issue_cause s r w S) (issue_done s r w S)
unfolding rule_of issue_rule
issue_rule_lem r w S s = refl

pub issue-refused : (l : List ℕ) (r w S n : ℕ) → So (in_form l)
    → n ≡ issue_cause (store_of l) r w S → n ≢ 0 → Ends (issue r w S) l (2 ∷ n ∷ []) l
issue-refused l r w S n F e h =
    let s = store_of l in
    let rule : rule_of (issue r w S) s ≡ unless n (issue_done s r w S) = rw e (issue_rule_lem r w
    S s) in
    ends-refused (issue r w S) l n (issue_done s r w S) F rule h

issued-counts : (s : Store) (r w S : ℕ) → (issued_store s r w S).counts ≡ s.counts
unfolding issued_store saved_store with_marks with_caches with_sites with_master with_writer
    with_last
issued-counts s r w S = test (eqb S 0) (λ t. rw t) (λ t. rw t)

pub issue-done : (l : List ℕ) (z : Counts) (r w S n : ℕ) (m₁ m : List ℕ) → FormWith l z
    → issue_cause (store_of l) r w S ≡ 0 → r < z.runs → n ≡ issued_number (store_of l) S
    → m₁ ≡ written (issued_store (store_of l) r w S) l → m ≡ put_run z m₁ (run_at_of z r) free_run
    → Ends (issue r w S) l (0 ∷ n ∷ []) m
unfolding answer leaves issue_done
issue-done l z r w S n m₁ m H free h a e₁ e₂ =
    let s = store_of l in
    let t = issued_store s r w S in
    let stored : m ≡ written (with_run t r free_run) l =
    e₂ ∙ rw e₁ (run-put t l z (issued-counts s r w S ∙ form-counts l z H) r free_run h) in
    ends-done (issue r w S) l (issue_cause s r w S) (issue_done s r w S) H.form
    (issue_rule_lem r w S s) free (0 ∷ n ∷ []) m (rw a) stored
