-- `shortest_path` follows the layers from the first that the start meets.
-- Assumes nothing.
use mathlib.Core.Path.{◌≡◌, sym, ap, ◌∙◌}
use Prim.Native.Nat.{ℕ}
use native.Mathlib.Omega.{arith}
use Rattle.words.specs.Words.{put}
use Rattle.masks.specs.Mask.{test_bit}
use Rattle.paths.specs.Path.{lowest, distance, path_by}
use Rattle.paths.specs.Rows.{leads_by, meeting, no_items_of, item_path}
use Rattle.paths.proofs.StoredLayers.{layers-long, layers-goal, layers-of, edges_are, path-there, path-not-there}
use Rattle.paths.proofs.shortest_path.Goals as goal
use Rattle.paths.proofs.shortest_path.Goals.{After-edges_to}

-- How many edges were found.
edges : (c : After-edges_to) → let a = c.args in
    lowest a.n (meeting c.layers-masks.result a.start)
    ≡ distance a.n (leads_by a.rows.now) (test_bit a.start) (test_bit a.goal)
edges c =
    let a = c.args in
    edges_are a.rows.now a.n a.goal c.layers-masks.result c.requires.0 c.requires.1
    c.layers-masks.ensures a.start

pub edges_to-requires : goal.edges_to-requires
edges_to-requires c =
    let a = c.args in
    layers-long a.rows.now a.n a.goal c.layers-masks.result c.requires.0 c.requires.1
    c.layers-masks.ensures

pub returns-in-None : goal.returns-in-None
unfolding item_path no_items_of put
returns-in-None c =
    let a = c.args in
    let e = sym (edges (goal.at.returns-in-None c).After-edges_to) ∙ c.in-None.ensures in
    sym (ap item_path (path-not-there a.n (leads_by a.rows.now) (test_bit a.start)
    (test_bit a.goal) e))

pub follow-requires : goal.follow-requires
follow-requires c =
    let a = c.args in
    let m = c.in-Some.m in
    let masks = c.layers-masks.result in
    let low = c.in-Some.ensures.0 in
    let e = c.in-Some.ensures.1 ∙ edges (goal.at.follow-requires c).After-edges_to in
    let t = path-there a.n (leads_by a.rows.now) (test_bit a.start) (test_bit a.goal) m e low in
    let g = layers-goal a.rows.now a.n a.goal masks c.requires.0 c.requires.1
    c.layers-masks.ensures (omega (arith, low)) in record {
      rows_of = (
        c.requires.0,
        layers-of a.rows.now a.n a.goal masks c.requires.0 c.requires.1
            c.layers-masks.ensures,
      );
      m_lt_n = (low, rw g t.0);
    }

pub returns-in-Some : goal.returns-in-Some
returns-in-Some c =
    let a = c.args in
    let m = c.in-Some.m in
    let low = c.in-Some.ensures.0 in
    let e = c.in-Some.ensures.1 ∙ edges (goal.at.returns-in-Some c).After-edges_to in
    let t = path-there a.n (leads_by a.rows.now) (test_bit a.start) (test_bit a.goal) m e low in
    let g = layers-goal a.rows.now a.n a.goal c.layers-masks.result c.requires.0 c.requires.1
    c.layers-masks.ensures (omega (arith, low)) in
    c.follow.ensures ∙ ap item_path (ap (λ (x : ℕ). path_by a.n (leads_by a.rows.now)
    (test_bit x) m (test_bit a.start)) g ∙ t.1)
