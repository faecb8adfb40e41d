-- Where the store follows the book: master and caches are causal cuts, every snapshot an
-- overlapping cut for its plan, and a step breaks its run exactly if no choice works.
-- master-cut, cuts, overlaps, step-ready, breaks.
-- Assumes nothing.
use mathlib.Core.Path.{refl, ◌∙◌}
use mathlib.Core.Bool.{So}
use Prim.Native.Nat.{ℕ, ◌<◌}
use Rattle.model.specs.Algebra.{causal_cut, overlapping_cut}
use Rattle.model.specs.Version.{versions}
use Rattle.model.specs.Store.{branch_of, Store, planned}
use Rattle.model.specs.Step.{step_plan, step_cache, step_rule_of}
use Rattle.model.proofs.Steps.{Accepted}
use Rattle.layout.proofs.Rules.Step.{was}
use Rattle.layout.proofs.Follow.{Fine}
use Rattle.history.specs.Book.{book_branch, Book}
use Rattle.consistency.specs.Claim.{BreakExact}
use Rattle.consistency.proofs.Simulation.{causal_cut-same, overlapping_cut-same}
use Rattle.consistency.proofs.CopyLaws.{cut_causal, cut_overlapping}
use Rattle.consistency.proofs.Breaks.{Ready, breaks-exact}
use Rattle.consistency.proofs.Invariant.{Follows}
use Rattle.consistency.proofs.Following.{now-simulates, now-laws, master-closed, master-related, cache-related, snapshot-related, snapshot-closed}
use Rattle.consistency.proofs.Stepped.{copy_cache, step_cache-related, step_cache-closed}

module _ {s : Store} {b : Book} (F : Follows s b) where
  pub master-cut : So (causal_cut (versions s.counts.writers) s.counts.keys s.master)
  master-cut =
      causal_cut-same (now-simulates F) s.master b.master (master-related F)
      ∙ cut_causal (now-laws F) (master-closed F)

  pub cuts : (o : ℕ) → o < s.counts.sites
      → So (causal_cut (versions s.counts.writers) s.counts.keys (s.site o).cache)
  cuts o l =
      causal_cut-same (now-simulates F) (s.site o).cache (b.cache o) (cache-related F o l)
      ∙ cut_causal (now-laws F) (F.closed o l)

  pub overlaps : (r n : ℕ) → r < s.counts.runs
      → So (overlapping_cut (versions s.counts.writers) s.counts.keys
      (planned (s.run r).jobs (s.run r).job) (branch_of n (s.run r)).snapshot)
  overlaps r n l =
      let S = planned (s.run r).jobs (s.run r).job in
      overlapping_cut-same (now-simulates F) S S (branch_of n (s.run r)).snapshot
      (book_branch n (b.run r)).snapshot (λ _ _. refl) (snapshot-related F r n l)
      ∙ cut_overlapping (now-laws F) (snapshot-closed F r n l)

  -- A step that is not refused finds what it needs.
  pub step-ready : Fine s → (r j n : ℕ) → Accepted s r j n → Ready s r j n
  unfolding step_plan
  step-ready fine r j n a = record {
    overlaps = overlaps r n a.run_in;
    cut = causal_cut-same (now-simulates F) (step_cache s r j n) (copy_cache s b r j n)
        (step_cache-related fine F a)
        ∙ cut_causal (now-laws F) (step_cache-closed fine F a);
    on-snapshot = ((was s r j n fine a).snapshot n).has;
  }

  pub breaks : Fine s → (r j n : ℕ) → BreakExact (step_rule_of r j n s) s r j n
  breaks fine r j n = breaks-exact s r j n (step-ready fine r j n)
