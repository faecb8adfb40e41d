-- The path over the rows that the code fills is the path of what a trial found.
-- rows_of: there is a row for each key. path-drawn: the path. drawn-short, path-words: its keys.
-- Assumes nothing.
use mathlib.Core.Path.{◌≡◌, sym, ap, ◌∙◌}
use mathlib.Core.Bool.{So}
use mathlib.Core.List.{List}
use Prim.Native.Nat.{ℕ, ◌<◌, ◌≤◌}
use native.Mathlib.Omega.{arith}
use native.Mathlib.Nat.{zero-add}
use lib.ListN.{length, get_or}
use Rattle.words.specs.Numbers.{when}
use Rattle.words.specs.Lists.{window}
use Rattle.words.specs.Words.{put}
use Rattle.words.proofs.Numbers.{when-yes}
use Rattle.words.proofs.Words.{put_in, length-put}
use Rattle.masks.specs.Mask.{test_bit, mask_below}
use Rattle.masks.proofs.Sets.{test-mask, item_of}
use Rattle.reach.specs.Closure.{closure}
use Rattle.paths.specs.Path.{shortest_path}
use Rattle.paths.specs.declared.ItemPath.{ItemPath}
use Rattle.paths.specs.Rows.{leads_by, RowsOf, no_items_of, item_path}
use Rattle.paths.proofs.Items.{items_back}
use Rattle.paths.proofs.ShortestPaths.{path-long}
use Rattle.paths.proofs.SamePaths.{path-same}
use Rattle.sizes.specs.declared.Counts.{Counts}
use Rattle.trial.specs.declared.Visit.{Visit}
use Rattle.trial.specs.declared.Trial.{Trial}
use Rattle.explain.specs.Drawing.{drawn_edge, drawn_start, drawn_path, Draws}

module _ (l : List ℕ) (z : Counts) (v : Visit) (t : Trial) (D : Draws l z v t) (rows : List ℕ)
    (e : rows ≡ put no_items_of 0 z.keys (λ k. when (test_bit t.pulled k)
    (mask_below z.keys (drawn_edge z l v t k)))) where
  abbrev row : ℕ → ℕ
  row k = when (test_bit t.pulled k) (mask_below z.keys (drawn_edge z l v t k))

  few : z.keys ≤ 32
  few = omega (arith, D.area.target_in.ranged)

  pub rows_of : RowsOf rows z.keys
  unfolding no_items_of
  rows_of = record {
    rows_in = rw e (omega (arith, few, length-put no_items_of 0 z.keys row));
    bits = few;
  }

  row-at : (k : ℕ) → k < z.keys → get_or rows k 0 ≡ row k
  unfolding no_items_of
  row-at k h =
      ap (λ (m : List ℕ). get_or m k 0) e
      ∙ ap (λ (i : ℕ). get_or (put no_items_of 0 z.keys row) i 0) (sym (zero-add k))
      ∙ put_in no_items_of 0 z.keys row k h (omega (arith, few))

  -- A key of C leads where it draws.
  row-leads : (k d : ℕ) → k < z.keys → d < z.keys
      → So (closure z.keys (drawn_edge z l v t) (drawn_start z l v) k)
      → leads_by rows k d ≡ drawn_edge z l v t k d
  unfolding leads_by
  row-leads k d i h p =
      let C = closure z.keys (drawn_edge z l v t) (drawn_start z l v) in
      let pulled : So (test_bit t.pulled k) =
      item_of z.keys t.pulled C D.pulled k i ∙ p in
      ap (λ (m : ℕ). test_bit m d) (row-at k i ∙ when-yes _ _ pulled)
      ∙ test-mask z.keys (drawn_edge z l v t k) d h

  pub path-drawn : (start : ℕ) → start ≡ mask_below z.keys (drawn_start z l v)
      → shortest_path z.keys (leads_by rows) (test_bit start) (test_bit v.read)
      ≡ drawn_path z l v t
  unfolding drawn_path
  path-drawn start f =
      path-same z.keys (leads_by rows) (drawn_edge z l v t) (test_bit start) (drawn_start z l v)
      (test_bit v.read) row-leads (item_of z.keys start (drawn_start z l v) f)

-- ---- what is answered

pub drawn-short : (l : List ℕ) (z : Counts) (v : Visit) (t : Trial) → Draws l z v t
    → length (drawn_path z l v t) ≤ 32
unfolding drawn_path
drawn-short l z v t D =
    let long = path-long z.keys (drawn_edge z l v t) (test_bit v.read) (drawn_start z l v) in
    omega (arith, long, D.area.target_in.ranged)

-- The keys of a path as it is handed out.
pub path-words : (p : List ℕ) (r : ItemPath) → length p ≤ 32 → r ≡ item_path p
    → (window r.items 0 r.count ≡ p) × (r.count ≤ length r.items) × (r.count ≤ 32)
unfolding item_path no_items_of
path-words p r h e =
    let long = length-put no_items_of 0 (length p) (λ i. get_or p i 0) in
    rw e (items_back p h, omega (arith, h, long), h)
