-- What a trial found draws as the model has it.
-- drawn-edge, drawn-start: by the store. draws-found: what path_of asks for. path-found: the path.
-- words-found, words-refused: the answer. few_explained: how many words.
-- Assumes nothing.
use mathlib.Core.Path.{◌≡◌, refl, sym, ap, ap₂, ◌∙◌}
use mathlib.Core.Bool.{Bool, true, false, So, cond, not, ◌&&◌}
use mathlib.Core.Logic.{◌≢◌}
use mathlib.Core.List.{List, [], ◌∷◌}
use Prim.Native.Nat.{ℕ, ◌<◌, ◌≤◌}
use native.Mathlib.Omega.{arith}
use lib.Bits.{bit_and}
use lib.Dec.{eqb}
use Rattle.words.specs.Tests.{Items}
use Rattle.words.proofs.Bools.{test, eqb-eq, eqb-ne}
use Rattle.masks.specs.Mask.{test_bit, mask_below}
use Rattle.masks.proofs.Sets.{mask-same, item_of}
use Rattle.reach.specs.Closure.{closure}
use Rattle.paths.specs.Path.{shortest_path}
use Rattle.reach.proofs.Closures.{closure-same}
use Rattle.paths.proofs.SamePaths.{path-same}
use Rattle.sizes.specs.declared.Counts.{Counts}
use Rattle.sizes.specs.Bounds.{snapshot_at}
use Rattle.model.specs.Algebra.{Place}
use Rattle.model.specs.Version.{Version}
use Rattle.model.specs.Sets.{draws, draw_set, pull_set, fetched}
use Rattle.model.specs.Store.{Store}
use Rattle.model.specs.Outcome.{refused, answer}
use Rattle.model.specs.Step.{step_site, step_reads, step_fetch, step_cache, step_plan, step_pull, step_moved, step_cause}
use Rattle.model.specs.Calls.Explain.{clear_word, path_word, explain_start, explain_edge, explain_goal, explain_path, breaks, explain_reply}
use Rattle.model.specs.Calls.{explain, ask, reply_of}
use Rattle.layout.specs.Reading.{store_of}
use Rattle.layout.specs.Buffer.{in_form}
use Rattle.layout.specs.Calls.{on, call_on}
use Rattle.layout.proofs.Forms.{ask-refused, ask-told}
use Rattle.form.proofs.Masks.{read_low}
use Rattle.sets.specs.Draws.{viewed}
use Rattle.sets.specs.Leads.{led, leads_to}
use Rattle.trial.specs.declared.Visit.{Visit}
use Rattle.trial.specs.declared.Trial.{Trial}
use Rattle.trial.specs.Trials.{Finds}
use Rattle.trial.proofs.Known.{jobs-known}
use Rattle.trial.proofs.Trials.{visit-known, old-reads, old-plan, branch-at}
use Rattle.trial.proofs.Finds.{found-counts, found-run, found-taken, found-pulled, found-read, found-master, found-cache, found-snapshot, found-snapshot-at, moved-some, moved_none}
use Rattle.explain.specs.Drawing.{source_of, drawn_edge, drawn_start, drawn_path, Draws, drawn_words}
use lib.ListN.{length}
use Rattle.words.proofs.Lists.{length-window}
use Rattle.answers.specs.Answers.{max_answer}
use Rattle.std.specs.Prelude.{Option, Some, None, Result, Ok, Err}
use Rattle.answers.specs.declared.refusal.Refusal.{Refusal}
use Rattle.paths.specs.declared.ItemPath.{ItemPath}
use Rattle.explain.specs.Answers.{explained_words, Listed}

module _ (l : List ℕ) (z : Counts) (r j n : ℕ) (v : Visit) (t : Trial)
    (F : Finds l z r j n v t) where
  abbrev s : Store
  s = store_of l

  abbrev K : ℕ
  K = z.keys

  counts : s.counts ≡ z
  counts = found-counts l z r j n v t F

  reads : step_reads s r j n ≡ test_bit v.reads
  reads =
      let U = found-run l z r j n v t F in
      old-reads l z r j n (snapshot_at z r n) U.0 U.1 v F.visit

  plan : step_plan s r j n ≡ test_bit v.plan
  plan =
      let U = found-run l z r j n v t F in
      old-plan l z r j n (snapshot_at z r n) U.0 U.1 v F.visit

  -- The cache as the fetch would leave it.
  source : (k : ℕ) → k < K → step_cache s r j n k ≡ viewed z l (source_of v t) k
  unfolding step_cache fetched step_fetch viewed
  source k h =
      let same : test_bit t.taken k ≡ step_fetch s r j n k =
      item_of s.counts.keys t.taken (step_fetch s r j n) (found-taken l z r j n v t F) k
      (rw counts h) in
      let old = (s.site (step_site s r j n)).cache in
      ap (λ (b : Bool). cond b (s.master k) (old k)) (sym same)
      ∙ ap₂ (λ (p q : Place Version). cond (test_bit t.taken k) (p k) (q k))
      (found-master l z r j n v t F) (found-cache l z r j n v t F)

  -- ---- the parts of a path

  edge : (a d : ℕ) → a < K → d < K → drawn_edge z l v t a d ≡ explain_edge s r j n a d
  unfolding drawn_edge leads_to led draws explain_edge
  edge a d i h =
      rw (plan, found-snapshot l z r j n v t F, source a i, source d h, counts)

  start : drawn_start z l v ≡ explain_start s r j n
  unfolding drawn_start explain_start
  start = rw (reads, found-snapshot l z r j n v t F, counts)

  -- ---- C, and the path

  pulled : t.pulled ≡ mask_below K (closure K (drawn_edge z l v t) (drawn_start z l v))
  unfolding step_pull pull_set draw_set explain_edge explain_start
  pulled =
      let same : mask_below s.counts.keys (step_pull s r j n)
      ≡ mask_below K (closure K (explain_edge s r j n) (explain_start s r j n)) =
      ap (λ (x : ℕ). mask_below x (closure x (explain_edge s r j n) (explain_start s r j n)))
      (ap (λ (y : Counts). y.keys) counts) in
      found-pulled l z r j n v t F ∙ same
      ∙ mask-same K (closure K (explain_edge s r j n) (explain_start s r j n))
      (closure K (drawn_edge z l v t) (drawn_start z l v))
      (closure-same K (explain_edge s r j n) (drawn_edge z l v t) (explain_start s r j n)
      (drawn_start z l v) (λ a d i h. sym (edge a d i h))
      (λ d _. ap (λ (p : Items). p d) (sym start)))

  pub draws-found : Draws l z v t
  draws-found =
      let U = found-run l z r j n v t F in
      let seen = visit-known l z r j n (snapshot_at z r n) U.0 U.1 v F.visit in
      let L = branch-at l z r n F.form U.0.run (snapshot_at z r n) refl in
      record {
        area = record {
          target_in = rw (found-snapshot-at l z r j n v t F) L.area;
          first_in = seen.master;
          second_in = seen.cache;
        };
        reads = seen.reads;
        read = rw (found-read l z r j n v t F)
            (read_low z (s.run r) (jobs-known l z r U.0).plan.masks n);
        pulled = pulled;
      }

  path-found : drawn_path z l v t ≡ explain_path s r j n
  unfolding drawn_path explain_path explain_goal
  path-found =
      path-same K (drawn_edge z l v t) (explain_edge s r j n) (drawn_start z l v)
      (explain_start s r j n) (test_bit v.read) (λ a d i h _. edge a d i h)
      (λ d _. ap (λ (p : Items). p d) start)
      ∙ ap₂ (λ (x m : ℕ). shortest_path x (explain_edge s r j n) (explain_start s r j n) (test_bit
      m))
      (sym (ap (λ (y : Counts). y.keys) counts)) (found-read l z r j n v t F)

  -- ---- the answer

  moved : step_moved s r j n ≡ (λ k. step_pull s r j n k && test_bit v.read k)
  unfolding step_moved
  moved = rw (found-read l z r j n v t F)

  -- It would break exactly if C has a key of the read mask.
  breaks-found : breaks s r j n ≡ not (eqb (bit_and t.pulled v.read) 0)
  unfolding breaks
  breaks-found =
      let x = s.counts.keys in
      let p = found-pulled l z r j n v t F in
      let both = bit_and t.pulled v.read in
      rw moved
      (test (eqb both 0)
      (λ y. rw y (moved_none x t.pulled v.read (step_pull s r j n) p (eqb-eq both 0 y)))
      (λ y. rw y (moved-some x t.pulled v.read (step_pull s r j n) p (eqb-ne both 0 y))))

  pub words-found : drawn_words z l v t ≡ answer (call_on (on (ask (explain r j n))) l)
  unfolding drawn_words answer reply_of explain_reply
  words-found =
      rw (ask-told (explain r j n) l F.form.form F.free, breaks-found, path-found)
      (cases (eqb (bit_and t.pulled v.read) 0))
    where
      cases : (b : Bool) → cond b (clear_word ∷ []) (path_word ∷ explain_path (store_of l) r j n)
          ≡ cond (not b) path_word clear_word ∷ cond (not b) (explain_path (store_of l) r j n) []
      cases true = refl
      cases false = refl

pub words-refused : (l : List ℕ) (r j n m : ℕ) → So (in_form l) → m ≡ step_cause (store_of l) r j n
    → m ≢ 0 → 2 ∷ m ∷ [] ≡ answer (call_on (on (ask (explain r j n))) l)
unfolding answer reply_of explain_reply
words-refused l r j n m F e h =
    let no : call_on (on (ask (explain r j n))) l ≡ refused m =
    rw e (ask-refused (explain r j n) l F (rw e at h)) in
    rw no refl

-- How many words the answer has.
pub few_explained : (r : Result (Option ItemPath) Refusal) → Listed r
    → length (explained_words r) ≤ max_answer
unfolding explained_words Listed
few_explained (Ok None) h = omega arith
few_explained (Ok (Some p)) h = omega (arith, length-window p.items 0 p.count, h.1)
few_explained (Err r) h = omega arith
