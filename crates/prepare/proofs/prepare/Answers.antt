-- `prepare` is refused for its cause, or makes all fetches and all merges.
-- Assumes nothing.
use mathlib.Core.Path.{◌≡◌, sym, ap, ◌∙◌}
use mathlib.Core.Bool.{Bool, false}
use mathlib.Core.List.{List}
use Prim.Native.Nat.{ℕ}
use native.Mathlib.Omega.{arith}
use Rattle.words.proofs.Tests.{any_none}
use Rattle.model.specs.Outcome.{refuse}
use Rattle.model.specs.Version.{versions}
use Rattle.model.specs.Prepare.{unentitled, unpreparable, site_caches, prepare_cause}
use Rattle.layout.specs.Reading.{store_of}
use Rattle.sizes.specs.declared.Counts.{Counts}
use Rattle.form.specs.Parts.{FormWith}
use Rattle.form.proofs.Known.{form-long, form-area}
use Rattle.trial.specs.Jobs.{UsedRun}
use Rattle.prepare.specs.Turns.{early_cause, Fitting}
use Rattle.prepare.proofs.Fetching.{sets_of, sets-barred, sets-lacked, sets_over}
use Rattle.prepare.proofs.Taking.{prepared-left, prepared-fits, prepared-used}
use Rattle.prepare.proofs.Carrying.{snapshot_in_place}
use Rattle.prepare.proofs.Causes.{cause-early, cause-barred, cause-lacks, cause-over, used-run, no-run-cause}
use Rattle.prepare.proofs.Endings.{prepare-refused, prepare-done}
use Rattle.std.proofs.lemmas.Result.{err_from_is_err_and}
use Rattle.answers.specs.Refusals.{refusal_number}
use Rattle.answers.proofs.Refusals.{refusal_some}
use Rattle.prepare.proofs.prepare.Goals as goal
use Rattle.prepare.proofs.prepare.Goals.{After-is_crowded, After-is_unentitled-barred, After-is_unpreparable-lacked, In_ok-early_cause, Else-is_crowded}

-- No early cause: the run isn't free.
early : (c : In_ok-early_cause) → early_cause (store_of c.args.words.now) c.args.run 0 ≡ 0
early c = sym c.in_ok-early_cause.ensures

used-of : (l : List ℕ) (z : Counts) (r : ℕ) → FormWith l z → 0 ≡ early_cause (store_of l) r 0
    → UsedRun l z r
used-of l z r F e = used-run _ _ _ F (no-run-cause _ _ (sym e))

used : (c : In_ok-early_cause) → UsedRun c.args.words.now c.counts-z.result c.args.run
used c =
    used-of _ _ _ (record { form = c.requires; counts = c.counts-z.ensures })
    c.in_ok-early_cause.ensures

-- 13: a site may not hold a key of its T exactly if a job fetches one that its site may not hold.
unheld : (c : After-is_unentitled-barred)
    → let r = c.args.run in
    let z = c.counts-z.result in
    let s = store_of c.args.words.now in
    c.is_unentitled-barred.result
    ≡ unentitled (versions z.writers) z.keys s.master (s.run r).job
    s.tail.may_hold (s.run r).jobs (site_caches s)
unheld c =
    let U = used-of _ _ _ (record { form = c.requires; counts = c.counts-z.ensures })
    c.in_ok-early_cause.ensures in
    c.is_unentitled-barred.ensures ∙ sets-barred _ _ _ U _ c.site_sets-sets.ensures

-- 7: the master lacks a key exactly if it lacks one of T.
lacked : (c : After-is_unpreparable-lacked)
    → let r = c.args.run in
    let z = c.counts-z.result in
    let s = store_of c.args.words.now in
    c.is_unpreparable-lacked.result
    ≡ unpreparable (versions z.writers) z.keys s.master (s.run r).job
    (s.run r).jobs (site_caches s)
lacked c =
    let U = used-of _ _ _ (record { form = c.requires; counts = c.counts-z.ensures })
    c.in_ok-early_cause.ensures in
    c.is_unpreparable-lacked.ensures ∙ sets-lacked _ _ _ U _ c.site_sets-sets.ensures

-- 12: a site would hold too much exactly if it would with its T.
cause : (c : After-is_crowded)
    → refuse c.is_crowded.result 12 0 ≡ prepare_cause (store_of c.args.words.now) c.args.run
cause c =
    let U = used-of _ _ _ (record { form = c.requires; counts = c.counts-z.ensures })
    c.in_ok-early_cause.ensures in
    let found = c.site_sets-sets.ensures in
    cause-over _ _ _ _ _ U.form (sym c.in_ok-early_cause.ensures)
    (c.is_unentitled-barred.ensures ∙ sets-barred _ _ _ U _ found)
    (c.is_unpreparable-lacked.ensures ∙ sets-lacked _ _ _ U _ found)
    c.if-barred.false c.if-lacked.false
    _ (c.is_crowded.ensures
    ∙ sets_over _ _ _ U _ found
    (sym (c.is_unpreparable-lacked.ensures ∙ sets-lacked _ _ _ U _ found) ∙ c.if-lacked.false))

-- No cause, and each site has room for its T.
free : (c : After-is_crowded) → c.is_crowded.result ≡ false
    → prepare_cause (store_of c.args.words.now) c.args.run ≡ 0
unfolding refuse
free c h = sym (cause c) ∙ ap (λ (b : Bool). refuse b 12 0) h

fitting : (c : Else-is_crowded)
    → Fitting c.args.words.now c.counts-z.result c.site_sets-sets.result
fitting c =
    let U = used-of _ _ _ (record { form = c.requires; counts = c.counts-z.ensures })
    c.in_ok-early_cause.ensures in
    record {
      sets = sets_of _ _ _ U _ c.site_sets-sets.ensures;
      right = any_none _ _ (sym c.is_unentitled-barred.ensures ∙ c.if-barred.false);
      fits = any_none _ _ (sym c.is_crowded.ensures ∙ c.if-is_crowded.false);
    }

pub counts-z-requires : goal.counts-z-requires
counts-z-requires c = form-long _ c.requires

pub site_sets-sets-requires : goal.site_sets-sets-requires
site_sets-sets-requires c = used (goal.at.site_sets-sets-requires c).In_ok-early_cause

pub returns-in_err-early_cause : goal.returns-in_err-early_cause
returns-in_err-early_cause c =
    let p = err_from_is_err_and c.from_residual.result c.from_residual.ensures.1 in
    let e = c.in_err-early_cause.field-0.0 in
    let r = prepare-refused c.args.words.now c.args.run (refusal_number e) c.requires
    (cause-early (store_of c.args.words.now) c.args.run (refusal_number e)
    c.in_err-early_cause.ensures (refusal_some e)) (refusal_some e) in
    rw (p.1, p.2) record { answers = r.0; leaves = r.1 }

pub is_unentitled-barred-requires : goal.is_unentitled-barred-requires
is_unentitled-barred-requires c =
    let U = used (goal.at.is_unentitled-barred-requires c).In_ok-early_cause in record {
      form_with = U.form;
      sets_of = sets_of _ _ _ U _ c.site_sets-sets.ensures;
    }

pub is_unpreparable-lacked-requires : goal.is_unpreparable-lacked-requires
is_unpreparable-lacked-requires c =
    let U = used (goal.at.is_unpreparable-lacked-requires c).In_ok-early_cause in record {
      form_with = U.form;
      sets_of = sets_of _ _ _ U _ c.site_sets-sets.ensures;
    }

pub returns-then-barred : goal.returns-then-barred
returns-then-barred c =
    let at = goal.at.returns-then-barred c in
    let U = used at.In_ok-early_cause in
    let r = prepare-refused _ _ 13 U.form.form
    (cause-barred _ _ _ _ _ U.form (early at.In_ok-early_cause)
    (unheld at.After-is_unentitled-barred) (lacked at.After-is_unpreparable-lacked)
    c.if-barred.true) (omega arith) in
    record { answers = r.0; leaves = r.1 }

pub returns-then-lacked : goal.returns-then-lacked
returns-then-lacked c =
    let at = goal.at.returns-then-lacked c in
    let U = used at.In_ok-early_cause in
    let r = prepare-refused _ _ 7 U.form.form
    (cause-lacks _ _ _ _ _ U.form (early at.In_ok-early_cause)
    (unheld at.After-is_unentitled-barred) (lacked at.After-is_unpreparable-lacked)
    c.if-barred.false c.if-lacked.true) (omega arith) in
    record { answers = r.0; leaves = r.1 }

pub is_crowded-requires : goal.is_crowded-requires
is_crowded-requires c =
    let U = used (goal.at.is_crowded-requires c).In_ok-early_cause in record {
      form_with = U.form;
      sets_of = sets_of _ _ _ U _ c.site_sets-sets.ensures;
    }

pub returns-then-is_crowded : goal.returns-then-is_crowded
unfolding refuse
returns-then-is_crowded c =
    let at = goal.at.returns-then-is_crowded c in
    let U = used at.In_ok-early_cause in
    let r = prepare-refused _ _ 12 U.form.form
    (ap (λ (b : Bool). refuse b 12 0) (sym c.if-is_crowded.true) ∙ cause at.After-is_crowded)
    (omega arith) in
    record { answers = r.0; leaves = r.1 }

pub take_sets-requires : goal.take_sets-requires
take_sets-requires c =
    let at = goal.at.take_sets-requires c in
    record { form_with = (used at.In_ok-early_cause).form; fitting = fitting at.Else-is_crowded }

pub merge_run-requires : goal.merge_run-requires
merge_run-requires c =
    let at = goal.at.merge_run-requires c in
    prepared-used _ _ _ (used at.In_ok-early_cause) _ c.site_sets-sets.ensures _
    c.take_sets.ensures (fitting at.Else-is_crowded)

pub snapshot_at-snapshot-requires : goal.snapshot_at-snapshot-requires
snapshot_at-snapshot-requires c =
    let U = used (goal.at.snapshot_at-snapshot-requires c).In_ok-early_cause in record {
      ranged = (form-area _ _ U.form).ranged;
      r_lt_runs = U.run;
    }

pub held_mask-carried-requires : goal.held_mask-carried-requires
held_mask-carried-requires c =
    rw (c.snapshot_at-snapshot.ensures, c.merge_run.auto.words, c.take_sets.auto.words)
    (snapshot_in_place _ _ _ (used (goal.at.held_mask-carried-requires c).In_ok-early_cause))

pub returns : goal.returns
returns c =
    let at = goal.at.returns c in
    let U = used at.In_ok-early_cause in
    let F = fitting at.Else-is_crowded in
    let found = c.site_sets-sets.ensures in
    let r = prepare-done _ _ _ U (free at.After-is_crowded c.if-is_crowded.false) _ _
    (prepared-left _ _ _ U _ found _ c.take_sets.ensures F)
    (prepared-fits _ _ _ U _ found _ c.take_sets.ensures F) c.merge_run.ensures
    _ c.held_mask-carried.result c.snapshot_at-snapshot.ensures c.held_mask-carried.ensures in
    record { answers = r.0; leaves = r.1 }
