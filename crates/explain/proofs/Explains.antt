-- The call explain does what document 02 asks for, on every store.
-- explains: so. explains-refused: a refusal by the same one. explain-two: an answered path has at
-- least two keys. explain-long: at most all.
-- Assumes nothing.
use mathlib.Core.Path.{◌≡◌, refl, sym, ap, ◌∙◌}
use mathlib.Core.Bool.{Bool, not, true, false, So, cond}
use mathlib.Core.List.{List, [], ◌∷◌}
use mathlib.Core.Logic.{◌↔◌}
use Prim.Native.Nat.{ℕ, ◌≤◌}
use native.Mathlib.Omega.{arith}
use lib.Dec.{eqb}
use lib.ListN.{length, get_or, drop}
use Rattle.words.specs.Tests.{any_below}
use Rattle.words.proofs.Bools.{test, clash, and_right, not_elim, eqb-eq, eqb-ne}
use Rattle.masks.specs.Mask.{test_bit, mask_below}
use Rattle.masks.proofs.Sets.{test-mask}
use Rattle.paths.specs.Path.{Path, Onward, ShortestPath, last_of}
use Rattle.paths.proofs.ShortestPaths.{reaches, path-shortest, path-last, path-long}
use Rattle.model.specs.Algebra.{lacking}
use Rattle.model.specs.Version.{held}
use Rattle.model.specs.Sets.{draw_set, pull_set}
use Rattle.model.specs.Store.{Store}
use Rattle.model.specs.Form.{run_formed, well_formed}
use Rattle.model.specs.Outcome.{Outcome, refused, broken, done, told, answer, unless, replied}
use Rattle.model.specs.Step.{step_branch, step_reads, step_pull, step_moved, step_cause, step_broken, step_done, step_rule_of}
use Rattle.model.specs.Calls.Explain.{clear_word, path_word, explain_start, explain_edge, explain_goal, explain_path, breaks, explain_reply, Answers, ExplainsOutcome, Explains}
use Rattle.model.proofs.Outcomes.{replied-refused}
use Rattle.model.proofs.Formed.{well-out}
use Rattle.model.proofs.Plans.{plan-out}
use Rattle.model.proofs.Steps.{accepted, accepted-used}

-- ---- the call beside the step

-- What explain and step come to: the same refusal, or a path and a break, or clear and done.
data Beside (b : Bool) (l : List ℕ) (m : ℕ) : Outcome → Outcome → Type 0 where
  turned : (n : ℕ) → Beside b l m (refused n) (refused n)
  breaking : So b → (t : Store) → Beside b l m (told path_word l) (broken m t)
  working : (a : List ℕ) (t : Store) → Beside b l m (told clear_word []) (done a t)

-- Two answers are the same in their first word, and in the numbers behind it.
first : {x y : ℕ} {l m : List ℕ} → x ∷ l ≡ y ∷ m → x ≡ y
first e = ap (λ (l : List ℕ). get_or l 0 0) e

rest : {x y : ℕ} {l m : List ℕ} → x ∷ l ≡ y ∷ m → l ≡ m
rest e = ap (λ (l : List ℕ). drop 1 l) e

-- Neither of two tests passes.
neither : {X Y : Type 0} → ¬ X → ¬ Y → X ↔ Y
neither f g = (λ x. absurd (f x), λ y. absurd (g y))

module _ {b : Bool} {l : List ℕ} {m : ℕ} where
  clear-exactly : {x y : Outcome} → Beside b l m x y
      → (answer x ≡ clear_word ∷ []) ↔ Answers y 0
  unfolding answer
  clear-exactly (turned n) =
      neither (λ e. omega (arith, first e)) (λ e. omega (arith, first e.1))
  clear-exactly (breaking p t) =
      neither (λ e. omega (arith, first e)) (λ e. omega (arith, first e.1))
  clear-exactly (working a t) = (λ _. (a, refl), λ _. refl)

  path-exactly : {x y : Outcome} → Beside b l m x y → Answers x path_word ↔ Answers y 1
  unfolding answer
  path-exactly (turned n) =
      neither (λ e. omega (arith, first e.1)) (λ e. omega (arith, first e.1))
  path-exactly (breaking p t) = (λ _. (m ∷ [], refl), λ _. (l, refl))
  path-exactly (working a t) =
      neither (λ e. omega (arith, first e.1)) (λ e. omega (arith, first e.1))

  refused-exactly : {x y : Outcome} → Beside b l m x y → (n : ℕ)
      → (answer x ≡ 2 ∷ n ∷ []) ↔ (answer y ≡ 2 ∷ n ∷ [])
  unfolding answer
  refused-exactly (turned k) n = (λ e. e, λ e. e)
  refused-exactly (breaking p t) n =
      neither (λ e. omega (arith, first e)) (λ e. omega (arith, first e))
  refused-exactly (working a t) n =
      neither (λ e. omega (arith, first e)) (λ e. omega (arith, first e))

  -- A path that is answered is l, where the test passes; and the step breaks with m.
  path-is : {x y : Outcome} → Beside b l m x y → (k : List ℕ) → answer x ≡ path_word ∷ k
      → So b × (k ≡ l)
  unfolding answer
  path-is (turned n) k e = absurd (omega (arith, first e))
  path-is (breaking p t) k e = (p, sym (rest e))
  path-is (working a t) k e = absurd (omega (arith, first e))

  mask_is : {x y : Outcome} → Beside b l m x y → (n : ℕ) → answer y ≡ 1 ∷ n ∷ [] → n ≡ m
  unfolding answer
  mask_is (turned k) n e = absurd (omega (arith, first e))
  mask_is (breaking p t) n e = sym (first (rest e))
  mask_is (working a t) n e = absurd (omega (arith, first e))

module _ (s : Store) (r j n : ℕ) where
  abbrev K : ℕ
  K = s.counts.keys

  abbrev Both : Outcome → Outcome → Type 0
  Both =
      Beside (any_below K (step_moved s r j n)) (explain_path s r j n)
      (mask_below K (step_moved s r j n))

  beside : Both (replied (explain_reply r j n s)) (step_rule_of r j n s)
  unfolding replied explain_reply step_rule_of unless breaks step_broken step_done
  beside = cases (eqb (step_cause s r j n) 0) (any_below K (step_moved s r j n)) refl
    where
      cases : (p q : Bool) → any_below K (step_moved s r j n) ≡ q → Both
          (cond p (told (cond q path_word clear_word) (cond q (explain_path s r j n) []))
          (refused (step_cause s r j n)))
          (cond p (cond q (step_broken s r j n) (step_done s r j n)) (refused
          (step_cause s r j n)))
      cases false q e = turned (step_cause s r j n)
      cases true true e = breaking e _
      cases true false e = working _ _

  -- ---- the path

  abbrev Shown : List ℕ → Type 0
  Shown = ShortestPath K (explain_edge s r j n) (explain_start s r j n) (explain_goal s r j n)

  -- C is what is reached from the reads that the card lacks.
  moved-reached : step_moved s r j n
      ≡ reaches K (explain_edge s r j n) (explain_goal s r j n) (explain_start s r j n)
  unfolding step_moved step_pull pull_set draw_set explain_edge explain_goal explain_start
  moved-reached = refl

  path-shown : So (any_below K (step_moved s r j n)) → Shown (explain_path s r j n)
  unfolding explain_path
  path-shown h =
      path-shortest K (explain_edge s r j n) (explain_goal s r j n) (explain_start s r j n)
      (rw moved-reached at h)

  -- Its last key would move though the branch has read it.
  path-moved : (l : List ℕ)
      → Path K (explain_edge s r j n) (explain_start s r j n) (explain_goal s r j n) l
      → So (test_bit (mask_below K (step_moved s r j n)) (last_of l))
  path-moved l p =
      let e = path-last K (explain_edge s r j n) (explain_goal s r j n) (explain_start s r j n) l
      p in
      test-mask K (step_moved s r j n) (last_of l) e.0 ∙ rw moved-reached e.1

  explains-both : {x y : Outcome} → Both x y → ExplainsOutcome s r j n x y
  explains-both q = record {
    clear = clear-exactly q;
    path = path-exactly q;
    shortest = λ l e. let p = path-is q l e in rw p.1 (path-shown p.0);
    ends = λ l m e f. let p = path-is q l e in
        rw (p.1, mask_is q m f) (path-moved (explain_path s r j n) (path-shown p.0).path);
    refused = refused-exactly q;
  }

  pub explains : Explains s r j n (replied (explain_reply r j n s))
  explains = explains-both beside

  -- A refusal explains the same refusal.
  pub explains-refused : (c : ℕ) → ExplainsOutcome s r j n (refused c) (refused c)
  explains-refused c = explains-both (turned c)

  -- ---- how long it is

  -- This path is answered.
  abbrev Told : List ℕ → Type 0
  Told l = answer (replied (explain_reply r j n s)) ≡ path_word ∷ l

  -- At most all keys.
  pub explain-long : (l : List ℕ) → Told l → length l ≤ K
  unfolding explain_path
  explain-long l e =
      rw (path-is beside l e).1
      (path-long K (explain_edge s r j n) (explain_goal s r j n) (explain_start s r j n))

  -- At least two, where the run is in form: what the branch has read is on its card, and a read of
  -- the job that the card lacks isn't one of these.
  two-keys : 1 ≤ (s.run r).state → So (run_formed s.counts (s.run r))
      → (l : List ℕ) → Shown l → 2 ≤ length l
  unfolding explain_start explain_goal lacking Path Onward
  two-keys u f [] p = absurd p.path
  two-keys u f (t ∷ []) p =
      let a = step_reads s r j n t in
      let b = held ((step_branch s r j n).snapshot t) in
      let has = ((plan-out s.counts (s.run r) u f).snapshot n).has in
      clash (has t p.path.0 p.path.2) (not_elim (and_right a (not b) p.path.1))
  two-keys u f (t ∷ d ∷ l) p = omega arith

  -- A path is answered only where the step isn't refused.
  path-taken : (l : List ℕ) → Told l → step_cause s r j n ≡ 0
  unfolding answer explain_reply
  path-taken l e = test (eqb (step_cause s r j n) 0) (λ y. eqb-eq _ 0 y)
      (λ y. absurd (omega (
        arith,
        first
            (ap answer (sym (replied-refused (explain_reply r j n s) (eqb-ne _ 0 y))) ∙ e),
      )))

  -- A path that is answered on a store in form has at least two keys.
  pub explain-two : So (well_formed s) → (l : List ℕ) → Told l → 2 ≤ length l
  explain-two f l e =
      let a = accepted s r j n (path-taken l e) in
      two-keys (accepted-used a) ((well-out s f).run r a.run_in) l (explains.shortest l e)
