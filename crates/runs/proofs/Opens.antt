-- What open comes to on a buffer in form: refused by its cause, or done.
-- cause-run, cause-list: its cause, as the code tests it. OpenReady, open_ready: no cause.
-- Assumes nothing.
use mathlib.Core.Path.{◌≡◌, refl, ◌∙◌}
use mathlib.Core.Bool.{Bool, cond, not, So}
use mathlib.Core.Logic.{◌≢◌}
use mathlib.Core.List.{List, [], ◌∷◌}
use Prim.Native.Nat.{ℕ, ◌<◌}
use native.Mathlib.Omega.{arith}
use lib.Dec.{eqb, leb}
use lib.ListN.{get_or}
use Rattle.words.proofs.Bools.{leb-gt, ne_eqb}
use Rattle.sizes.specs.declared.Counts.{Counts}
use Rattle.sizes.specs.Bounds.{run_at_of}
use Rattle.model.specs.Store.{Store, free_run}
use Rattle.model.specs.Outcome.{open_row_of, answer, refuse, unless, allowed, run_cause}
use Rattle.model.specs.Runs.{listed_count, list_valid, open_cause, open_done, open_rule, opened_run}
use Rattle.model.specs.Calls.{open_run, rule_of}
use Rattle.layout.specs.Reading.{store_of, read_run}
use Rattle.layout.specs.Buffer.{in_form}
use Rattle.layout.specs.Calls.{leaves}
use Rattle.layout.proofs.Runs.{run-laws}
use Rattle.model.proofs.Outcomes.{no-cause, no-lack, free-state, run-rest}
use Rattle.layout.proofs.Rules.Open.{Listed, list-out}
use Rattle.form.specs.Parts.{FormWith}
use Rattle.form.proofs.Known.{form-counts, Ends, ends-refused, ends-done}
use Rattle.status.proofs.Freed.{free-is}
use Rattle.status.proofs.Known.{run-known, run-stored}
use Rattle.runs.specs.Runs.{put_jobs}
use Rattle.runs.proofs.Started.{jobs-stored}

-- ---- its cause

open_cause_lem : (s : Store) (r : ℕ) (jobs : List ℕ)
    → open_cause s r jobs
    ≡ cond (eqb (run_cause s open_row_of r 0) 0) (refuse (not (list_valid s.counts jobs)) 5 0)
    (run_cause s open_row_of r 0)
unfolding open_cause
open_cause_lem s r jobs = run-rest s open_row_of r _

-- n, b: what the code finds.
pub cause-run : (s : Store) (r : ℕ) (jobs : List ℕ) (n : ℕ) → n ≡ run_cause s open_row_of r 0 → n
    ≢ 0
    → n ≡ open_cause s r jobs
cause-run s r jobs n e h = rw (open_cause_lem s r jobs, ← e, ne_eqb n 0 h)

pub cause-list : (l : List ℕ) (z : Counts) (r : ℕ) (jobs : List ℕ) (b : Bool) → FormWith l z
    → run_cause (store_of l) open_row_of r 0 ≡ 0 → b ≡ list_valid z jobs
    → refuse (not b) 5 0 ≡ open_cause (store_of l) r jobs
cause-list l z r jobs b H e f =
    rw (open_cause_lem (store_of l) r jobs, e, form-counts l z H, ← f)

pub record OpenReady (l : List ℕ) (z : Counts) (r : ℕ) (jobs : List ℕ) : Type 0 where
  pub run : r < z.runs
  pub free : read_run z l (run_at_of z r) ≡ free_run
  pub listed : Listed z jobs

pub open_ready : (l : List ℕ) (z : Counts) (r : ℕ) (jobs : List ℕ) → FormWith l z
    → open_cause (store_of l) r jobs ≡ 0 → OpenReady l z r jobs
unfolding open_cause run_cause read_run
open_ready l z r jobs H e =
    let s = store_of l in
    let c = form-counts l z H in
    let a = no-cause (leb s.counts.runs r) 3 _ (omega arith) e in
    let b = no-lack (allowed open_row_of (s.run r).state) 4 _ (omega arith) a.1 in
    let d = no-lack (list_valid s.counts jobs) 5 0 (omega arith) b.1 in
    let h : r < z.runs = rw (← c) (leb-gt _ _ a.0) in
    let K = run-known l z r H h in
    let at = run_at_of z r in
    let state = free-state (get_or l at 0) K.state (rw K.run at b.0) in
    record {
      run = h;
      free = free-is z (read_run z l at) ((run-laws z).fits l at) K.formed state;
      listed = list-out z jobs (rw (← c) d.0);
    }

-- ---- the call

open_rule_lem : (r : ℕ) (jobs : List ℕ) (s : Store)
    → rule_of (open_run r jobs) s ≡ unless (open_cause s r jobs) (open_done s r jobs)
unfolding rule_of open_rule
open_rule_lem r jobs s = refl

pub open_refused : (l : List ℕ) (r : ℕ) (jobs : List ℕ) (n : ℕ) → So (in_form l)
    → n ≡ open_cause (store_of l) r jobs → n ≢ 0 → Ends (open_run r jobs) l (2 ∷ n ∷ []) l
open_refused l r jobs n F e h =
    let s = store_of l in
    let rule : rule_of (open_run r jobs) s ≡ unless n (open_done s r jobs) =
    rw e (open_rule_lem r jobs s) in
    ends-refused (open_run r jobs) l n (open_done s r jobs) F rule h

pub open_done_lem : (l : List ℕ) (z : Counts) (r : ℕ) (jobs m : List ℕ) → FormWith l z
    → open_cause (store_of l) r jobs ≡ 0 → m ≡ put_jobs l (run_at_of z r) jobs
    → Ends (open_run r jobs) l (0 ∷ listed_count jobs ∷ []) m
unfolding answer leaves open_done
open_done_lem l z r jobs m H e f =
    let s = store_of l in
    let R = open_ready l z r jobs H e in
    let end = (run-known l z r H R.run).area.fits in
    ends-done (open_run r jobs) l (open_cause s r jobs) (open_done s r jobs) H.form
    (open_rule_lem r jobs s) e (0 ∷ listed_count jobs ∷ []) m refl
    (f ∙ jobs-stored z l (run_at_of z r) jobs R.listed end R.free
    ∙ run-stored l z r (opened_run jobs) H R.run)
