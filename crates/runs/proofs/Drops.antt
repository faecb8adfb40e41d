-- What drop comes to on a buffer in form: refused by its cause, or done.
-- Assumes nothing.
use mathlib.Core.Path.{◌≡◌, refl, ◌∙◌}
use mathlib.Core.Bool.{So}
use mathlib.Core.Logic.{◌≢◌}
use mathlib.Core.List.{List, [], ◌∷◌}
use Prim.Native.Nat.{ℕ}
use Rattle.sizes.specs.declared.Counts.{Counts}
use Rattle.sizes.specs.Bounds.{run_at_of}
use Rattle.model.specs.Store.{Store, free_run}
use Rattle.model.specs.Outcome.{drop_row, answer, unless, run_cause}
use Rattle.model.specs.Runs.{drop_cause, drop_done, drop_rule}
use Rattle.model.specs.Calls.{drop_run, rule_of}
use Rattle.layout.specs.Reading.{store_of}
use Rattle.layout.specs.Buffer.{in_form}
use Rattle.layout.specs.Calls.{leaves}
use Rattle.layout.specs.Stored.{put_run}
use Rattle.form.specs.Parts.{FormWith}
use Rattle.form.proofs.Known.{Ends, ends-refused, ends-done}
use Rattle.status.proofs.Known.{cause-below, run-stored}

drop_rule_lem : (r : ℕ) (s : Store)
    → rule_of (drop_run r) s ≡ unless (run_cause s drop_row r 0) (drop_done s r)
unfolding rule_of drop_rule drop_cause
drop_rule_lem r s = refl

pub drop-refused : (l : List ℕ) (r n : ℕ) → So (in_form l) → n ≡ run_cause (store_of l) drop_row r
    0
    → n ≢ 0 → Ends (drop_run r) l (2 ∷ n ∷ []) l
drop-refused l r n F e h =
    let s = store_of l in
    let rule : rule_of (drop_run r) s ≡ unless n (drop_done s r) = rw e (drop_rule_lem r s) in
    ends-refused (drop_run r) l n (drop_done s r) F rule h

pub drop-done : (l : List ℕ) (z : Counts) (r : ℕ) (m : List ℕ) → FormWith l z
    → run_cause (store_of l) drop_row r 0 ≡ 0 → m ≡ put_run z l (run_at_of z r) free_run
    → Ends (drop_run r) l (0 ∷ 0 ∷ []) m
unfolding answer leaves drop_done
drop-done l z r m H e f =
    let s = store_of l in
    let h = cause-below l z drop_row r H e in
    ends-done (drop_run r) l (run_cause s drop_row r 0) (drop_done s r) H.form (drop_rule_lem r s)
    e
    (0 ∷ 0 ∷ []) m refl (f ∙ run-stored l z r free_run H h)
