-- Laws of the layers as they are stored.
-- layers-..: what is read of them. edges_are: how many edges a shortest path has, by them.
-- path-there, path-not-there: the shortest path, by that number.
-- Assumes nothing.
use mathlib.Core.Path.{◌≡◌, sym, ap, ◌∙◌}
use mathlib.Core.Bool.{not, ◌&&◌, So}
use mathlib.Core.List.{List, []}
use Prim.Native.Nat.{ℕ, ◌≤◌, ◌<◌, ◌^◌}
use native.Mathlib.Omega.{arith}
use native.Mathlib.Nat.{zero-add}
use lib.Bits.{bit_and}
use lib.Dec.{eqb}
use lib.ListN.{length, get_or}
use Rattle.words.specs.Tests.{Items, any_below}
use Rattle.words.specs.Words.{put}
use Rattle.words.proofs.Bools.{lt-ltb, ge-ltb}
use Rattle.words.proofs.Tests.{any_same}
use Rattle.words.proofs.Words.{put_in, length-put}
use Rattle.masks.specs.Mask.{test_bit}
use Rattle.masks.proofs.Sets.{test-mask}
use Rattle.paths.specs.Path.{lowest, near, meets, distance, path_by, shortest_path}
use Rattle.paths.specs.Rows.{leads_by, RowsOf, layer, LayersOf, meeting, no_items_of}
use Rattle.paths.proofs.Lowest.{lowest-same, lowest-passes}
use Rattle.paths.proofs.Rows.{and-meets, layer-first, layer-low}

module _ (rows : List ℕ) (n goal : ℕ) (masks : List ℕ) (R : RowsOf rows n) (low : goal < 2 ^ n)
    (e : masks ≡ put no_items_of 0 n (layer rows n goal)) where
  pub layers-long : n ≤ length masks
  unfolding no_items_of
  layers-long = rw e (omega (arith, length-put no_items_of 0 n (layer rows n goal), R.bits))

  layers-at : (m : ℕ) → m < n → get_or masks m 0 ≡ layer rows n goal m
  unfolding no_items_of
  layers-at m h =
      ap (λ (l : List ℕ). get_or l m 0) e
      ∙ ap (λ (i : ℕ). get_or (put no_items_of 0 n (layer rows n goal)) i 0) (sym (zero-add m))
      ∙ put_in no_items_of 0 n (layer rows n goal) m h (omega (arith, R.bits))

  pub layers-goal : 0 < n → get_or masks 0 0 ≡ goal
  layers-goal h = layers-at 0 h ∙ layer-first rows n goal low

  pub layers-of : LayersOf rows n masks
  layers-of = record {
    layers_in = layers-long;
    at = λ m h. layers-at m h
        ∙ ap (λ (g : ℕ). layer rows n g m) (sym (layers-goal (omega (arith, h))));
  }

  -- ---- how many edges a shortest path has

  pub edges_are : (start : ℕ)
      → lowest n (meeting masks start)
      ≡ distance n (leads_by rows) (test_bit start) (test_bit goal)
  unfolding distance layer
  edges_are start =
      lowest-same n (meeting masks start) _ (λ m h.
      ap (λ (x : ℕ). not (eqb (bit_and start x) 0)) (layers-at m h)
      ∙ and-meets n start (layer rows n goal m) (layer-low rows n goal m)
      ∙ any_same n _ _ (λ k l. ap (λ b. test_bit start k && b)
      (test-mask n (near n (leads_by rows) (test_bit goal) m) k l)))

-- ---- the shortest path, by that number

module _ (n : ℕ) (edge : ℕ → Items) (start goal : Items) where
  pub path-not-there : distance n edge start goal ≡ n → shortest_path n edge start goal ≡ []
  unfolding shortest_path
  path-not-there e = rw (ge-ltb (distance n edge start goal) n (omega (arith, e)))

  pub path-there : (m : ℕ) → m ≡ distance n edge start goal → m < n
      → So (any_below n (meets n edge goal m start))
      × (path_by n edge goal m start ≡ shortest_path n edge start goal)
  unfolding shortest_path distance
  path-there m e l =
      let p : Items = λ m. any_below n (meets n edge goal m start) in (
        rw e (lowest-passes n p (omega (arith, e))),
        rw (e, lt-ltb (lowest n p) n (omega (arith, e))),
      )
