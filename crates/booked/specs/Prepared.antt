-- "A prepared run goes through" (CR 11), for every list of calls.
-- disturbs, untouched: what may stand between. Smooth: what a step of a prepared run comes to.
-- GoesThrough, NeverStops: from any buffer in form; AfterBeginning: after new or an admission.
-- StaysPrepared: what becomes of the run.
-- Read, read_by, without, Booked, Independent: two such runs, of which one isn't stepped.
-- Assumes nothing.
use Rattle.std.specs.Prelude.{◌≡◌, Bool, true, false, cond, not, ◌&&◌, ◌≢◌, List, [], ◌∷◌, ◌++◌, ℕ, eqb, leb}
use Rattle.std.proofs.Math.Bool.{So}
use Rattle.std.proofs.Math.Option.{Option, none, some}
use Rattle.std.specs.Int.Bits.{bit_or}
use Rattle.masks.specs.Mask.{test_bit, with_bit}
use Rattle.model.specs.Algebra.{Place}
use Rattle.model.specs.Version.{Version, unheld}
use Rattle.model.specs.Tail.{barred}
use Rattle.model.specs.Store.{Run, branch_of, Store, with_run, with_job_done}
use Rattle.model.specs.Outcome.{Outcome, done, refuse, unless, answer}
use Rattle.model.specs.Step.{job_cause}
use Rattle.model.specs.Calls.{StoreCall, open_run, fetch, evict, prepare, step, issue, drop_run, allow, pick, mayhold, maysave, fork, join, ask}
use Rattle.layout.specs.Reading.{store_of}
use Rattle.layout.specs.Buffer.{in_form}
use Rattle.layout.specs.Calls.{Call, new, audit, on, call_on, leaves, is_ok_of, after}
use Rattle.consistency.specs.Trace.{Trace, follow}
use Rattle.consistency.specs.Claim.{Began}

-- ---- what may stand between

-- "not prepared again and not forked", and still the run that it was: a call that, if it is
-- accepted, prepares, forks or frees run r. (Open r and join r aren't accepted while r is as it
-- was prepared: it is open, and not forked.)
unfoldable pub unsettles : ℕ → StoreCall → Bool
unsettles r (open_run q l) = false
unsettles r (fetch o k) = false
unsettles r (evict o k) = false
unsettles r (prepare q) = eqb r q
unsettles r (step q j n) = false
unsettles r (issue q w S) = eqb r q
unsettles r (drop_run q) = eqb r q
unsettles r (allow o n) = false
unsettles r pick = false
unsettles r (mayhold o m) = false
unsettles r (maysave w m) = false
unsettles r (fork q) = eqb r q
unsettles r (join q) = false
unsettles r (ask q) = false

-- Or begins the desk anew.
unfoldable pub disturbs : ℕ → Call → Bool
disturbs r (new k w n p) = true
disturbs r (audit v) = false
disturbs r (on c) = unsettles r c

-- No call of the list that disturbs run r is accepted; refused ones may stand in it.
unfoldable pub untouched : ℕ → List Call → List ℕ → Bool
untouched r [] l = true
untouched r (c ∷ cs) l =
    let out = call_on c l in
    not (disturbs r c && is_ok_of out) && untouched r cs (leaves out l)

-- ---- a step of a prepared run

-- The causes that are left to it: a number out of range, 14, 6 and "A missing right may still turn
-- a step down". (4 stands in job_cause; NeverStops says that it isn't answered.)
unfoldable pub booked_cause : Store → ℕ → ℕ → ℕ → ℕ
booked_cause s r j n =
    let x = (s.run r).job j in
    refuse (leb s.counts.runs r) 3
    (job_cause (s.run r) j n
    (refuse (barred s.counts.keys (s.tail.may_hold x.site) (test_bit x.reads)) 13
    0))

-- The run with job j done, and what that job reads joined to the read mask of line 0; the cards,
-- and all else, as before.
unfoldable pub ran_on_of : Run → ℕ → Run
ran_on_of a j =
    with_job_done a 0 (with_bit a.done j) (record {
      read = bit_or a.branch.read (a.job j).reads;
      snapshot = a.branch.snapshot;
    })

-- Turned down for one of these causes; or answered "R 0 0", all that is read off the card, with
-- nothing but the run's two masks changed.
abbrev pub Smooth : Store → ℕ → ℕ → ℕ → Outcome → Type 0
Smooth s r j n out =
    out ≡ unless (booked_cause s r j n)
    (done (((s.run r).job j).reads ∷ 0 ∷ 0 ∷ []) (with_run s r (ran_on_of (s.run r) j)))

-- What prepare leaves in a buffer.
abbrev pub prepared : ℕ → List ℕ → List ℕ
prepared r l = leaves (call_on (on (prepare r)) l) l

-- Each step of run r is smooth after any calls on m that leave it as it was prepared: "whatever
-- other offices issue, fetch or evict between".
abbrev pub StepsSmoothly : ℕ → List ℕ → Type 0
StepsSmoothly r m =
    (cs : List Call) → So (untouched r cs m)
    → (j n : ℕ) → Smooth (store_of (after cs m)) r j n (call_on (on (step r j n)) (after cs m))

-- "no later step answers broken, 7 or 12", nor 4.
abbrev pub Unstopped : ℕ → List ℕ → Type 0
Unstopped r m =
    (cs : List Call) → So (untouched r cs m)
    → (j n : ℕ) → let words = answer (call_on (on (step r j n)) (after cs m)) in
    ((mask : ℕ) → words ≢ 1 ∷ mask ∷ []) × (words ≢ 2 ∷ 7 ∷ []) × (words ≢ 2 ∷ 12 ∷ [])
    × (words ≢ 2 ∷ 4 ∷ [])

-- From any buffer in form, however it came to be.
abbrev pub GoesThrough : Type 0
GoesThrough =
    (l : List ℕ) (r : ℕ) → So (in_form l) → So (is_ok_of (call_on (on (prepare r)) l))
    → StepsSmoothly r (prepared r l)

abbrev pub NeverStops : Type 0
NeverStops =
    (l : List ℕ) (r : ℕ) → So (in_form l) → So (is_ok_of (call_on (on (prepare r)) l))
    → Unstopped r (prepared r l)

-- So "For a run that was prepared on a desk that began with new or admission": after any calls.
abbrev pub AfterBeginning : Type 0
AfterBeginning =
    (t : Trace) → Began t → (before : List Call) (r : ℕ) → let l = (follow before t).buffer in
    So (is_ok_of (call_on (on (prepare r)) l))
    → StepsSmoothly r (prepared r l) × Unstopped r (prepared r l)

-- ---- two prepared runs

-- A job, and what it has read: for each sheet of R the version on the card, and none for others.
pub record Read : Type 0 where
  pub job : ℕ
  pub version : Place Version

-- Job j on branch n.
unfoldable pub read_off_of : Run → ℕ → ℕ → Read
read_off_of a j n = record {
  job = j;
  version = λ k. cond (test_bit (a.job j).reads k) ((branch_of n a).snapshot k) unheld;
}

-- The job of run p, and the line, that a call steps, if it does.
unfoldable pub steps_of : ℕ → Call → Option (ℕ × ℕ)
steps_of p (new k w n q) = none
steps_of p (audit v) = none
steps_of p (on (open_run q l)) = none
steps_of p (on (fetch o k)) = none
steps_of p (on (evict o k)) = none
steps_of p (on (prepare q)) = none
steps_of p (on (step q j n)) = cond (eqb p q) (some (j, n)) none
steps_of p (on (issue q w S)) = none
steps_of p (on (drop_run q)) = none
steps_of p (on (allow o n)) = none
steps_of p (on pick) = none
steps_of p (on (mayhold o m)) = none
steps_of p (on (maysave w m)) = none
steps_of p (on (fork q)) = none
steps_of p (on (join q)) = none
steps_of p (on (ask q)) = none

-- ---- and the run stays as it was prepared

-- A call, answered ok or not, on the run: the job that an accepted step of it did.
unfoldable pub ran_by : Option (ℕ × ℕ) → Bool → Run → Run
ran_by none ok a = a
ran_by (some (j, n)) ok a = cond ok (ran_on_of a j) a

unfoldable pub ran_through : ℕ → List Call → List ℕ → Run → Run
ran_through r [] l a = a
ran_through r (c ∷ cs) l a =
    let out = call_on c l in
    ran_through r cs (leaves out l) (ran_by (steps_of r c) (is_ok_of out) a)

-- Nothing else becomes of it: its jobs, its card and its mark are those that the prepare left, and
-- done is what was stepped. So what its steps answer, by Smooth, is settled by the prepare, its
-- own steps and the rights.
abbrev pub StaysPrepared : Type 0
StaysPrepared =
    (l : List ℕ) (r : ℕ) → So (in_form l) → So (is_ok_of (call_on (on (prepare r)) l))
    → let m = prepared r l in
    (cs : List Call) → So (untouched r cs m)
    → (store_of (after cs m)).run r ≡ ran_through r cs m ((store_of m).run r)

-- ---- what two of them read

-- What a call, answered ok or not, adds to what run p has read: a is the run after it.
unfoldable pub noted : Option (ℕ × ℕ) → Bool → Run → List Read
noted none ok a = []
noted (some (j, n)) ok a = cond ok (read_off_of a j n ∷ []) []

-- What run p reads in a list of calls: of each accepted step of p in turn, off the card after it.
unfoldable pub read_by : ℕ → List Call → List ℕ → List Read
read_by p [] l = []
read_by p (c ∷ cs) l =
    let out = call_on c l in
    let m = leaves out l in
    noted (steps_of p c) (is_ok_of out) ((store_of m).run p) ++ read_by p cs m

-- "were the other never stepped": every step of run q left out, and nothing else.
unfoldable pub left_out_of : Option (ℕ × ℕ) → Call → List Call → List Call
left_out_of none c cs = c ∷ cs
left_out_of (some x) c cs = cs

unfoldable pub without : ℕ → List Call → List Call
without q [] = []
without q (c ∷ cs) = left_out_of (steps_of q c) c (without q cs)

-- m is what was left by calls that began with an accepted prepare of run r and didn't disturb it.
pub record Booked (m : List ℕ) (r : ℕ) : Type 0 where
  pub base : List ℕ
  pub between : List Call
  pub formed : So (in_form base)
  pub accepted : So (is_ok_of (call_on (on (prepare r)) base))
  pub quiet : So (untouched r between (prepared r base))
  pub now : m ≡ after between (prepared r base)

-- "Once two such runs are both prepared, each, stepped in any mixture, reads what it would read
-- were the other never stepped." Both lists leave p as it was prepared (any mixture of steps does:
-- proofs/Used, `mixture`); for the other run p and q are exchanged.
abbrev pub Independent : Type 0
Independent =
    (m : List ℕ) (p q : ℕ) → p ≢ q → Booked m p → Booked m q → (cs : List Call)
    → So (untouched p cs m) → So (untouched p (without q cs) m)
    → read_by p cs m ≡ read_by p (without q cs) m
