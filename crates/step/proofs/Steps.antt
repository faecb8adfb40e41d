-- What step comes to on a buffer in form: step-refused, by its cause; turned_answer, by a trial's;
-- step-broken; step-done.
-- Assumes nothing.
use mathlib.Core.Path.{◌≡◌, refl, sym, ap, ◌∙◌}
use mathlib.Core.Bool.{cond, So, ◌&&◌}
use mathlib.Core.Logic.{◌≢◌}
use mathlib.Core.List.{List, [], ◌∷◌}
use Prim.Native.Nat.{ℕ, ◌<◌, ◌^◌}
use lib.Bits.{bit_and}
use lib.ListN.{set}
use Rattle.words.specs.Tests.{any_below}
use Rattle.masks.specs.Mask.{test_bit, mask_below, without}
use Rattle.sizes.specs.declared.Counts.{Counts}
use Rattle.sizes.specs.Bounds.{run_at_of, snapshot_at}
use Rattle.model.specs.Store.{Store, with_run, with_state}
use Rattle.model.specs.Outcome.{Outcome, answer, unless, broken_state}
use Rattle.model.specs.Step.{step_reads, step_fetch, step_pull, step_moved, step_cause, step_broken, step_done, step_rule_of}
use Rattle.model.specs.Calls.{step, rule_of}
use Rattle.layout.specs.Reading.{store_of}
use Rattle.layout.specs.Buffer.{written, in_form}
use Rattle.layout.specs.Calls.{on, call_on, leaves}
use Rattle.layout.proofs.RunUpdates.{put-state}
use Rattle.form.proofs.Known.{form-again, Ends, ends-refused, ends-done}
use Rattle.trial.specs.declared.Visit.{Visit}
use Rattle.trial.specs.declared.Trial.{Trial}
use Rattle.trial.specs.Trials.{Finds, tried, tried_of}
use Rattle.trial.proofs.Cases.{refused_as}
use Rattle.trial.proofs.Trials.{visit-known}
use Rattle.trial.proofs.Finds.{found-counts, found-run, found-taken, found-pulled, found-read, found-reads, moved-mask, moved-some, moved_none}
use Rattle.step.proofs.Divisions.{from-snapshot, from-cache, from-master}
use Rattle.std.specs.Prelude.{Result, Err}
use Rattle.answers.specs.declared.refusal.Refusal.{Refusal}
use Rattle.answers.specs.Refusals.{refusal_number}
use Rattle.step.specs.Answers.{stepped_words}

-- What is done where there is no cause.
abbrev act : Store → ℕ → ℕ → ℕ → Outcome
act s r j n =
    cond (any_below s.counts.keys (step_moved s r j n)) (step_broken s r j n) (step_done s r j n)

step_rule_lem : (r j n : ℕ) (s : Store)
    → rule_of (step r j n) s ≡ unless (step_cause s r j n) (act s r j n)
unfolding rule_of step_rule_of
step_rule_lem r j n s = refl

pub step-refused : (l : List ℕ) (r j n m : ℕ) → So (in_form l) → m ≡ step_cause (store_of l) r j n
    → m ≢ 0 → Ends (step r j n) l (2 ∷ m ∷ []) l
step-refused l r j n m F e h =
    let s = store_of l in
    let rule : rule_of (step r j n) s ≡ unless m (act s r j n) = rw e (step_rule_lem r j n s) in
    ends-refused (step r j n) l m (act s r j n) F rule h

-- Where the trial tells a cause, that is the answer.
pub turned_answer : (l : List ℕ) (r j n x : ℕ) (t : Result (Visit × Trial) Refusal) (e : Refusal)
    → So (in_form l) → tried t ≡ tried_of (store_of l) r j n x → t ≡ Err e
    → stepped_words (Err e) ≡ answer (call_on (on (step r j n)) l)
turned_answer l r j n x t e F told is =
    let f = refused_as (store_of l) r j n x (refusal_number e) (sym (ap tried is) ∙ told) in
    (step-refused l r j n (refusal_number e) F f.0 f.1).0

-- ---- by what was found

module _ (l : List ℕ) (z : Counts) (r j n : ℕ) (v : Visit) (t : Trial)
    (F : Finds l z r j n v t) where
  abbrev s : Store
  s = store_of l

  counts : s.counts ≡ z
  counts = found-counts l z r j n v t F

  -- C's keys that the branch has read.
  moved : step_moved s r j n ≡ (λ k. step_pull s r j n k && test_bit v.read k)
  unfolding step_moved
  moved = rw (found-read l z r j n v t F)

  pub step-broken : (m : List ℕ) → bit_and t.pulled v.read ≢ 0
      → m ≡ set l (run_at_of z r) broken_state
      → Ends (step r j n) l (1 ∷ bit_and t.pulled v.read ∷ []) m
  unfolding answer leaves step_broken
  step-broken m h e =
      let p = found-pulled l z r j n v t F in
      let K = s.counts.keys in
      let some = moved-some K t.pulled v.read (step_pull s r j n) p h in
      let rule : rule_of (step r j n) s ≡ unless (step_cause s r j n) (step_broken s r j n) =
      step_rule_lem r j n s ∙ rw (moved, some) in
      let mask : bit_and t.pulled v.read ≡ mask_below s.counts.keys (step_moved s r j n) =
      rw moved (moved-mask K t.pulled v.read (step_pull s r j n) p) in
      let put : set (written s l) (run_at_of z r) broken_state
      ≡ written (with_run s r (with_state (s.run r) broken_state)) l =
      rw (← counts)
      (put-state s l r broken_state (rw counts (found-run l z r j n v t F).0.run)) in
      ends-done (step r j n) l (step_cause s r j n) (step_broken s r j n) F.form.form rule
      F.free _ m (ap (λ (m : ℕ). 1 ∷ m ∷ []) mask)
      (e ∙ ap (λ (m : List ℕ). set m (run_at_of z r) broken_state) (sym (form-again l z F.form))
      ∙ put)

  -- The three masks.
  divided : 0 ∷ without v.reads t.pulled
      ∷ without (bit_and v.reads t.pulled) t.taken
      ∷ bit_and (bit_and v.reads t.pulled) t.taken ∷ []
      ≡ answer (step_done s r j n)
  unfolding answer step_done step_reads
  divided =
      let K = s.counts.keys in
      let U = found-run l z r j n v t F in
      let low : v.reads < 2 ^ K =
      rw counts (visit-known l z r j n (snapshot_at z r n) U.0 U.1 v F.visit).reads in
      let C = step_pull s r j n in
      let T = step_fetch s r j n in
      let p = found-pulled l z r j n v t F in
      let q = found-taken l z r j n v t F in
      let a = from-snapshot K v.reads t.pulled t.taken C T low p q in
      let b = from-cache K v.reads t.pulled t.taken C T low p q in
      let c = from-master K v.reads t.pulled t.taken C T low p q in
      rw (← found-reads l z r j n v t F) (λ i. 0 ∷ a i ∷ b i ∷ c i ∷ [])

  pub step-done : (m : List ℕ) → bit_and t.pulled v.read ≡ 0
      → m ≡ leaves (step_done s r j n) l
      → Ends (step r j n) l (0 ∷ without v.reads t.pulled
      ∷ without (bit_and v.reads t.pulled) t.taken
      ∷ bit_and (bit_and v.reads t.pulled) t.taken ∷ []) m
  step-done m h e =
      let p = found-pulled l z r j n v t F in
      let none = moved_none s.counts.keys t.pulled v.read (step_pull s r j n) p h in
      let rule : rule_of (step r j n) s ≡ unless (step_cause s r j n) (step_done s r j n) =
      step_rule_lem r j n s ∙ rw (moved, none) in
      ends-done (step r j n) l (step_cause s r j n) (step_done s r j n) F.form.form rule
      F.free _ m divided e
