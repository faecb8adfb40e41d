-- Mayhold and maysave keep a store fine.
-- Assumes nothing.
use mathlib.Core.Path.{refl}
use mathlib.Core.List.{List, [], ◌∷◌}
use Prim.Native.Nat.{ℕ, ◌<◌, ◌^◌}
use native.Mathlib.Omega.{arith}
use Rattle.words.proofs.Bools.{leb-gt}
use Rattle.words.proofs.Lists.{put_at_cases, put_at_same}
use Rattle.model.specs.Version.{versions}
use Rattle.model.specs.Tail.{tail_hold, tail_save}
use Rattle.model.specs.Store.{Store, with_sites, site_with, with_cache, with_may_hold, with_may_save, with_tail_of}
use Rattle.model.specs.Outcome.{done}
use Rattle.model.specs.Calls.Rights.{taken_away, right_cause, mayhold_cache, mayhold_done, mayhold_rule, maysave_rule}
use Rattle.model.proofs.Outcomes.{no-cause}
use Rattle.model.proofs.Rights.{unbarred-taken}
use Rattle.model.proofs.Formed.{Unbarred, well-out}
use Rattle.model.proofs.FormedNext.{formed-tail}
use Rattle.layout.proofs.Tail.{fit-may_hold, fit-may_save}
use Rattle.layout.proofs.Fit.{fit-tail}
use Rattle.layout.proofs.Follow.{Fine}
use Rattle.layout.proofs.Kept.{Kept, kept-done, kept-unless, evicted-kept}

module _ (s : Store) (F : Fine s) where
  -- Another right of site o, which has all that its cache holds; or of a writer.
  hold-kept : (o m : ℕ) (a : List ℕ) → o < s.counts.sites → m < 2 ^ s.counts.keys
      → Unbarred s.counts m (s.site o).cache → Kept s (done a (with_may_hold s o m))
  unfolding with_tail_of
  hold-kept o m a h low u =
      let z = s.counts in
      let G = well-out s F.formed in
      let t = tail_hold s.tail o m in
      kept-done s (with_may_hold s o m) a F
      (fit-tail s F.fits t (fit-may_hold z s.tail F.fits.tail o m h))
      (formed-tail s G t (record {
        round = G.tail.round;
        may_hold = λ i l. put_at_cases (λ (x : ℕ). x < 2 ^ z.keys) s.tail.may_hold o m i
            (λ _. low) (λ _. G.tail.may_hold i l);
        may_save = G.tail.may_save;
      }) (λ i l. put_at_cases (λ (x : ℕ). Unbarred z x (s.site i).cache) s.tail.may_hold o m i
      (λ e. rw e u) (λ _. G.right i l))) refl

  save-kept : (w m : ℕ) (a : List ℕ) → w < s.counts.writers → m < 2 ^ s.counts.keys
      → Kept s (done a (with_may_save s w m))
  unfolding with_tail_of
  save-kept w m a h low =
      let z = s.counts in
      let G = well-out s F.formed in
      let t = tail_save s.tail w m in
      kept-done s (with_may_save s w m) a F
      (fit-tail s F.fits t (fit-may_save z s.tail F.fits.tail w m h))
      (formed-tail s G t (record {
        round = G.tail.round;
        may_hold = G.tail.may_hold;
        may_save = λ i l. put_at_cases (λ (x : ℕ). x < 2 ^ z.keys) s.tail.may_save w m i
            (λ _. low) (λ _. G.tail.may_save i l);
      }) G.right) refl

-- Mayhold: E leaves the cache, from what is barred; then the right is another.
pub mayhold-kept : (o m : ℕ) (s : Store) → Fine s → Kept s (mayhold_rule o m s)
unfolding mayhold_rule mayhold_done mayhold_cache right_cause with_cache with_sites site_with
    with_tail_of
mayhold-kept o m s F =
    kept-unless s (right_cause s s.counts.sites o m) (mayhold_done s o m) F (λ e.
    let z = s.counts in
    let cache = (s.site o).cache in
    let a = no-cause _ 3 _ (omega arith) e in
    let b = no-cause _ 3 0 (omega arith) a.1 in
    let h : o < z.sites = leb-gt _ _ a.0 in
    let left = evicted-kept o (taken_away (versions z.writers) cache m) (0 ∷ []) s F h in
    let s₁ = with_cache s o (mayhold_cache s o m) in
    let next = hold-kept s₁ left.fine o m (0 ∷ []) h (leb-gt _ _ b.0)
    (rw (put_at_same s.site o _) (unbarred-taken z.keys m z.writers cache)) in
    record { fine = next.fine; counts = next.counts })

pub maysave-kept : (w m : ℕ) (s : Store) → Fine s → Kept s (maysave_rule w m s)
unfolding maysave_rule right_cause
maysave-kept w m s F =
    kept-unless s (right_cause s s.counts.writers w m) _ F (λ e.
    let a = no-cause _ 3 _ (omega arith) e in
    let b = no-cause _ 3 0 (omega arith) a.1 in
    save-kept s F w m _ (leb-gt _ _ a.0) (leb-gt _ _ b.0))
