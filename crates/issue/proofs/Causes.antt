-- The cause of an issue as the code tests it.
-- raise-free: neither number is the largest word.
-- beyond, in_range_lem: out of range or not. issue-cause: the chain. cause-state, cause-jobs: its
-- lower rows, jobs_cause. issue-ready: no cause.
-- Assumes nothing.
use mathlib.Core.Path.{◌≡◌, refl, sym, ◌∙◌}
use mathlib.Core.Bool.{Bool, true, false, cond, not, ◌||◌}
use mathlib.Core.Logic.{◌≢◌}
use mathlib.Core.List.{List}
use Prim.Native.Nat.{ℕ, ◌<◌, ◌^◌}
use native.Mathlib.Omega.{arith}
use lib.Dec.{eqb, leb}
use Rattle.words.specs.Tests.{all_below}
use Rattle.words.proofs.Bools.{test, or-none, leb-gt, gt-leb, eqb-ne}
use Rattle.masks.specs.Mask.{test_bit}
use Rattle.clock.specs.Count.{max_word}
use Rattle.sizes.specs.declared.Counts.{Counts}
use Rattle.model.specs.Tail.{barred}
use Rattle.model.specs.Store.{forked_mark, Store}
use Rattle.model.specs.Outcome.{refuse, allowed, issue_row, run_cause}
use Rattle.model.specs.Issue.{raise_cause, issue_cause}
use Rattle.model.proofs.Outcomes.{no-cause, no-lack}
use Rattle.layout.specs.Reading.{store_of}
use Rattle.form.specs.Parts.{FormWith}
use Rattle.form.proofs.Known.{form-counts}
use Rattle.issue.specs.Saves.{Savable}

-- ---- the numbers that an issue raises

pub raise-free : (s : Store) (w : ℕ) → raise_cause s w ≡ 0
    → (s.last ≢ max_word) × ((s.writer w).count ≢ max_word)
unfolding raise_cause
raise-free s w e =
    let a = no-cause (eqb s.last max_word) 9 _ (omega arith) e in
    let b = no-cause (eqb (s.writer w).count max_word) 10 _ (omega arith) a.1 in
    (eqb-ne s.last max_word a.0, eqb-ne (s.writer w).count max_word b.0)

-- ---- the chain

-- Run, writer or mask is out of range.
abbrev pub beyond : Counts → ℕ → ℕ → ℕ → Bool
beyond z r w S = leb z.runs r || (leb z.writers w || leb (2 ^ z.keys) S)

-- The rows below the state's.
abbrev pub jobs_cause : Counts → Store → ℕ → ℕ → ℕ → ℕ
jobs_cause z s r w S =
    refuse (eqb (s.run r).mark forked_mark) 14
    (refuse (not (all_below (s.run r).jobs (test_bit (s.run r).done))) 6
    (refuse (barred z.keys (s.tail.may_save w) (test_bit S)) 13
    (cond (eqb S 0) 0 (raise_cause s w))))

three : (a b c : Bool) (n rest : ℕ)
    → refuse b n (refuse c n (refuse a n rest)) ≡ refuse (a || (b || c)) n rest
unfolding refuse
three true true c n rest = refl
three true false true n rest = refl
three true false false n rest = refl
three false true c n rest = refl
three false false true n rest = refl
three false false false n rest = refl

module _ (l : List ℕ) (z : Counts) (H : FormWith l z) (r w S : ℕ) where
  abbrev s : Store
  s = store_of l

  pub issue-cause : issue_cause s r w S
      ≡ refuse (beyond z r w S) 3
      (refuse (not (allowed issue_row (s.run r).state)) 4 (jobs_cause z s r w S))
  unfolding issue_cause run_cause
  issue-cause =
      rw (form-counts l z H)
      (three (leb z.runs r) (leb z.writers w) (leb (2 ^ z.keys) S) 3 _)

  pub in_range_lem : beyond z r w S ≡ false
      → (r < z.runs) × (w < z.writers) × (S < 2 ^ z.keys)
  in_range_lem e =
      let a = or-none (leb z.runs r) _ e in
      let b = or-none (leb z.writers w) _ a.1 in
      (leb-gt _ _ a.0, leb-gt _ _ b.0, leb-gt _ _ b.1)

  -- The run's cause, in range.
  state-cause : beyond z r w S ≡ false
      → run_cause s issue_row r 0 ≡ refuse (not (allowed issue_row (s.run r).state)) 4 0
  unfolding run_cause refuse
  state-cause e = rw (form-counts l z H, gt-leb _ _ (in_range_lem e).0)

  pub cause-state : (n : ℕ) → beyond z r w S ≡ false → n ≡ run_cause s issue_row r 0 → n ≢ 0
      → n ≡ issue_cause s r w S
  unfolding refuse
  cause-state n e c h =
      test (allowed issue_row (s.run r).state)
      (λ t. absurd (h (c ∙ state-cause e ∙ rw t)))
      (λ t. c ∙ state-cause e ∙ rw (issue-cause, e, t))

  pub cause-jobs : (n : ℕ) → beyond z r w S ≡ false → n ≡ run_cause s issue_row r 0 → n ≡ 0
      → issue_cause s r w S ≡ jobs_cause z s r w S
  unfolding refuse
  cause-jobs n e c h =
      let a = no-lack (allowed issue_row (s.run r).state) 4 0 (omega arith)
      (sym (state-cause e) ∙ sym c ∙ h) in
      rw (issue-cause, e, a.0)

  pub issue-ready : issue_cause s r w S ≡ 0 → Savable s r w S
  issue-ready e =
      let a = no-cause (beyond z r w S) 3 _ (omega arith) (sym issue-cause ∙ e) in
      let b = no-cause _ 4 _ (omega arith) a.1 in
      let f = no-cause _ 14 _ (omega arith) b.1 in
      let c = no-cause _ 6 _ (omega arith) f.1 in
      let d = no-cause _ 13 _ (omega arith) c.1 in
      let range = in_range_lem a.0 in
      let same = form-counts l z H in
      record {
        run = rw same range.0;
        writer = rw same range.1;
        mask = rw same range.2;
        raised = λ t. (rw t at d).1;
      }
