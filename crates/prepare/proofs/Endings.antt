-- What prepare comes to on a buffer in form: prepare-refused, by its cause, or prepare-done.
-- Assumes nothing.
use mathlib.Core.Path.{◌≡◌, refl, sym, ap, ◌∙◌}
use mathlib.Core.Bool.{So}
use mathlib.Core.Logic.{◌≢◌}
use mathlib.Core.List.{List, [], ◌∷◌}
use Prim.Native.Nat.{ℕ}
use Rattle.words.proofs.Lists.{put_at_same}
use Rattle.masks.specs.Mask.{mask_below}
use Rattle.sizes.specs.declared.Counts.{Counts}
use Rattle.sizes.specs.Bounds.{snapshot_at}
use Rattle.model.specs.Algebra.{Place}
use Rattle.model.specs.Version.{Version, held}
use Rattle.model.specs.Store.{Run, Store, site_with, with_caches, with_sites, with_run, with_snapshot}
use Rattle.model.specs.Outcome.{done, answer, unless}
use Rattle.model.specs.Prepare.{site_caches, prepare_cause, prepare_caches, prepare_snapshot, prepare_done, prepare_rule}
use Rattle.model.specs.Calls.{prepare, rule_of}
use Rattle.model.proofs.Outcomes.{unless-done}
use Rattle.layout.specs.Reading.{read_place, counts_in, store_of}
use Rattle.layout.specs.Buffer.{written, in_form}
use Rattle.layout.specs.Calls.{leaves}
use Rattle.layout.proofs.Whole.{FitStore, counts-back, store-back}
use Rattle.layout.proofs.Readings.{snapshot_in}
use Rattle.layout.proofs.Updates.{phase}
use Rattle.layout.proofs.Follow.{form-fine}
use Rattle.layout.proofs.Kept.{Kept}
use Rattle.layout.proofs.Rules.Prepare.{prepare-kept}
use Rattle.form.proofs.Known.{form-counts, Ends, ends-refused, ends-done}
use Rattle.trial.specs.Jobs.{UsedRun}
use Rattle.prepare.specs.Turns.{merged_sites, merged}
use Rattle.prepare.proofs.Taking.{prepared}

prepare_rule_lem : (r : ℕ) (s : Store)
    → rule_of (prepare r) s ≡ unless (prepare_cause s r) (prepare_done s r)
unfolding rule_of prepare_rule
prepare_rule_lem r s = refl

pub prepare-refused : (l : List ℕ) (r n : ℕ) → So (in_form l) → n ≡ prepare_cause (store_of l) r
    → n ≢ 0 → Ends (prepare r) l (2 ∷ n ∷ []) l
prepare-refused l r n F e h =
    let s = store_of l in
    let rule : rule_of (prepare r) s ≡ unless n (prepare_done s r) = rw e (prepare_rule_lem r s) in
    ends-refused (prepare r) l n (prepare_done s r) F rule h

-- ---- done

-- The next store, with all fetches and then all merges.
next : Store → ℕ → Store
next s r = merged (prepared s r) r

-- "the carried mask"
abbrev carried_mask : Store → ℕ → ℕ
carried_mask s r = mask_below s.counts.keys (λ k. held (prepare_snapshot s r k))

next_as : (s : Store) (r : ℕ) → prepare_done s r ≡ done (carried_mask s r ∷ []) (next s r)
unfolding prepare_done next merged merged_sites with_caches with_sites site_with
    prepare_snapshot prepare_caches site_caches
next_as s r = refl

-- Its snapshot of the run.
next-snapshot : (s : Store) (r : ℕ) → ((next s r).run r).branch.snapshot ≡ prepare_snapshot s r
unfolding next merged merged_sites with_caches with_sites site_with with_run with_snapshot
    prepare_snapshot prepare_caches site_caches
next-snapshot s r = ap (λ (a : Run). a.branch.snapshot) (put_at_same s.run r _)

merged-counts : (s : Store) (r : ℕ) → (merged s r).counts ≡ s.counts
unfolding merged with_run
merged-counts s r = refl

next-counts : (s : Store) (r : ℕ) → (next s r).counts ≡ s.counts
unfolding next merged with_caches with_sites with_run
next-counts s r = refl

module _ (l : List ℕ) (z : Counts) (r : ℕ) (U : UsedRun l z r)
    (free : prepare_cause (store_of l) r ≡ 0) where
  next_fits : FitStore (next (store_of l) r)
  unfolding prepare_rule
  next_fits =
      let s = store_of l in
      let K : Kept s (prepare_done s r) =
      rw (← unless-done (prepare_cause s r) (prepare_done s r) free)
      (prepare-kept r s (form-fine l U.form.form)) in
      let L : Kept s (done (carried_mask s r ∷ []) (next s r)) = rw (← next_as s r) K in
      L.fine.fits

  -- l₁: the buffer after the fetches. m: after the merges.
  module _ (l₁ m : List ℕ) (e : l₁ ≡ written (prepared (store_of l) r) l)
      (F : FitStore (prepared (store_of l) r)) (f : m ≡ written (merged (store_of l₁) r) l₁) where
    next-left : m ≡ written (next (store_of l) r) l
    unfolding next
    next-left =
        let s₁ = prepared (store_of l) r in
        f ∙ rw e (phase s₁ l (λ (t : Store). merged t r) F (merged-counts s₁ r))

    carried : (at : ℕ) → at ≡ snapshot_at z r 0
        → read_place z m at ≡ prepare_snapshot (store_of l) r
    carried at c =
        let s = store_of l in
        let back : store_of m ≡ next s r = rw next-left (store-back (next s r) l next_fits) in
        let counts : z ≡ counts_in m =
        sym (form-counts l z U.form) ∙ sym (next-counts s r)
        ∙ rw next-left (sym (counts-back (next s r) l)) in
        rw c (sym (snapshot_in m z counts r 0 U.run)
        ∙ ap (λ (t : Store). (t.run r).branch.snapshot) back ∙ next-snapshot s r)

    pub prepare-done : (at C : ℕ) → at ≡ snapshot_at z r 0
        → C ≡ mask_below z.keys (λ k. held (read_place z m at k))
        → Ends (prepare r) l (0 ∷ C ∷ []) m
    unfolding answer leaves
    prepare-done at C c h =
        let s = store_of l in
        let mask : C ≡ carried_mask s r =
        h ∙ ap (λ (p : Place Version). mask_below z.keys (λ k. held (p k))) (carried at c)
        ∙ ap (λ (y : Counts). mask_below y.keys (λ k. held (prepare_snapshot s r k)))
        (sym (form-counts l z U.form)) in
        ends-done (prepare r) l (prepare_cause s r) (prepare_done s r) U.form.form
        (prepare_rule_lem r s) free (0 ∷ C ∷ []) m
        (rw (next_as s r) (ap (λ (C : ℕ). 0 ∷ C ∷ []) mask)) (rw (next_as s r) next-left)
