-- The masks that a trial computes one after the other are those of the model's sets.
-- start-mask: what is fetched. taken-mask: T. fetchable: cause 7. pulled-mask: C.
-- upstream-some: an upstream job that isn't done.
-- Assumes nothing.
use mathlib.Core.Path.{◌≡◌, refl, ap, ◌∙◌}
use mathlib.Core.Bool.{Bool, cond, not, ◌&&◌}
use Prim.Native.Nat.{ℕ, ◌^◌, ◌<◌}
use lib.Dec.{eqb}
use Rattle.words.specs.Tests.{Items, any_below}
use Rattle.words.proofs.Tests.{any_same}
use Rattle.masks.specs.Mask.{test_bit, mask_below, without}
use Rattle.masks.proofs.Sets.{without-some, mask-same, item_of}
use Rattle.sizes.specs.Runs.{max_jobs}
use Rattle.model.specs.Algebra.{Algebra, Place, everything, lacking}
use Rattle.model.specs.Sets.{draw_set, fetch_set, fetched, unfetchable, pull_set}
use Rattle.model.specs.Step.{read_start}
use Rattle.model.proofs.Draws.{drawn-same}

-- wanted: the reads that the snapshot lacks. start, t: what is fetched, and T.
module _ {A : Type 0} (alg : Algebra A) (K : ℕ) (master cache snapshot : Place A) (reads : Items)
    (wanted start : ℕ) (w : wanted ≡ mask_below K (lacking alg K snapshot reads))
    (e : start ≡ mask_below K (lacking alg K cache (test_bit wanted))) where
  abbrev begin : Items
  begin = read_start alg K snapshot cache reads

  start-mask : start ≡ mask_below K begin
  unfolding read_start lacking
  start-mask =
      e ∙ mask-same K (lacking alg K cache (test_bit wanted)) begin
      (λ k i. ap (λ (b : Bool). b && not (alg.held (cache k)))
      (item_of K wanted (lacking alg K snapshot reads) w k i))

  pub fetchable : unfetchable alg K master (test_bit start) ≡ unfetchable alg K master begin
  unfolding unfetchable lacking
  fetchable =
      any_same K (lacking alg K master (test_bit start)) (lacking alg K master begin)
      (λ k i. ap (λ (b : Bool). b && not (alg.held (master k)))
      (item_of K start begin start-mask k i))

  module _ (t : ℕ) (f : t ≡ mask_below K (fetch_set alg K master cache (test_bit start))) where
    pub taken-mask : t ≡ mask_below K (fetch_set alg K master cache begin)
    unfolding fetch_set
    taken-mask =
        f ∙ drawn-same alg K everything cache master master (test_bit start) begin
        (λ k i. refl) (item_of K start begin start-mask)

    pub pulled-mask : (plan : Items) (p : ℕ)
        → p ≡ mask_below K (draw_set alg K plan snapshot
        (λ k. cond (test_bit t k) (master k) (cache k)) (test_bit wanted))
        → p ≡ mask_below K (pull_set alg K plan snapshot (fetched alg K master cache begin) reads)
    unfolding pull_set fetched
    pulled-mask plan p g =
        g ∙ drawn-same alg K plan snapshot (λ k. cond (test_bit t k) (master k) (cache k))
        (fetched alg K master cache begin) (test_bit wanted) (lacking alg K snapshot reads)
        (λ k i. ap (λ (b : Bool). cond b (master k) (cache k))
        (item_of K t (fetch_set alg K master cache begin) taken-mask k i))
        (item_of K wanted (lacking alg K snapshot reads) w)

-- ---- upstream jobs

pub upstream-some : (done upstream : ℕ) → upstream < 2 ^ max_jobs
    → not (eqb (without upstream done) 0)
    ≡ any_below max_jobs (λ i. test_bit upstream i && not (test_bit done i))
upstream-some done upstream h = without-some max_jobs upstream done h
