-- What a step would do, by the model's sets.
-- Tried, tried: what a trial tells. visit_of: what it looks at. trial_of: T and C. tried_of:
-- refused for its cause, or these.
-- Finds: what was found.
-- Assumes nothing.
use Rattle.std.specs.Prelude.{◌≡◌, cond, List, ℕ, eqb, Result, Ok, Err}
use Rattle.answers.specs.declared.refusal.Refusal.{Refusal}
use Rattle.answers.specs.Refusals.{refusal_number}
use Rattle.masks.specs.Mask.{mask_below}
use Rattle.sizes.specs.declared.Counts.{Counts}
use Rattle.sizes.specs.Bounds.{master_at, site_at, snapshot_at}
use Rattle.sizes.specs.Runs.{every_job}
use Rattle.model.specs.Store.{Store}
use Rattle.model.specs.Step.{step_branch, step_site, step_fetch, step_pull, step_cause}
use Rattle.layout.specs.Reading.{store_of}
use Rattle.form.specs.Parts.{reads_of, FormWith}
use Rattle.trial.specs.declared.Visit.{Visit}
use Rattle.trial.specs.declared.Trial.{Trial}

-- What a trial tells: the number of the cause for which a step is refused, or what the step looks
-- at and would do.
pub data Tried : Type 0 where
  Refused : ℕ → Tried
  Found : Visit → Trial → Tried

abbrev pub tried : Result (Visit × Trial) Refusal → Tried
tried (Ok p) = Tried.Found p.0 p.1
tried (Err r) = Tried.Refused (refusal_number r)

module _ (s : Store) (r j n : ℕ) where
  -- Site, master, cache and reads (R) of job j of run r, the plan's keys, the snapshot at an
  -- index, and what branch n has read.
  unfoldable pub visit_of : ℕ → Visit
  visit_of snapshot =
      let a = s.run r in
      record {
        site = step_site s r j n;
        master = master_at s.counts;
        cache = site_at s.counts (step_site s r j n);
        snapshot = snapshot;
        plan = reads_of a.jobs a.job every_job;
        reads = (a.job j).reads;
        read = (step_branch s r j n).read;
      }

  -- T and C.
  unfoldable pub trial_of : Trial
  trial_of =
      let K = s.counts.keys in
      record {
        taken = mask_below K (step_fetch s r j n);
        pulled = mask_below K (step_pull s r j
            n);
      }

  -- The cause of step, or where there is none what it looks at and would do.
  unfoldable pub tried_of : ℕ → Tried
  tried_of snapshot =
      cond (eqb (step_cause s r j n) 0) (Tried.Found (visit_of snapshot) trial_of)
      (Tried.Refused (step_cause s r j n))

-- What a trial of job j of run r on branch n found: no cause, and what the step looks at and would
-- do.
pub record Finds (l : List ℕ) (z : Counts) (r j n : ℕ) (v : Visit) (t : Trial) : Type 0 where
  pub form : FormWith l z
  pub free : step_cause (store_of l) r j n ≡ 0
  pub visit : v ≡ visit_of (store_of l) r j n (snapshot_at z r n)
  pub trial : t ≡ trial_of (store_of l) r j n
