-- Versions (document 01, "Clocks, versions, cuts"; CR 3).
-- Version, held, dependency ("need"), supersedes ("meets"), join_pasts, merged_leaders, merge;
-- versions: what the rules ask, of versions.
-- Assumes nothing.
use Rattle.std.specs.Prelude.{Bool, cond, not, ◌&&◌, ◌||◌, ℕ, max, eqb, leb, ltb}
use Rattle.words.specs.Tests.{Items}
use Rattle.masks.specs.Mask.{test_bit, mask_below}
use Rattle.clock.specs.Clock.{Clock, dominates, present, join}
use Rattle.model.specs.Algebra.{Algebra}

-- "A version of sheet k is an issue number (0 = not held) and a past: one clock for each sheet."
-- CR 3: it "gains one word, a mask of leading writers".
pub record Version : Type 0 where
  pub issue : ℕ
  pub leaders : ℕ
  pub past : ℕ → Clock

abbrev pub zero_past : ℕ → Clock
zero_past d w = 0

abbrev pub unheld : Version
unheld = record { issue = 0; leaders = 0; past = zero_past }

unfoldable pub held : Version → Bool
held v = leb 1 v.issue

-- "Row k is the version's own clock. Another row d that isn't all zero is a need: sheet d, at
-- that clock."
unfoldable pub dependency : ℕ → ℕ → Version → Items
dependency W k v d = not (eqb d k) && present W (v.past d)

-- "A held version of d meets a need if its own row covers it": it is equal or newer.
unfoldable pub supersedes : ℕ → ℕ → Version → Clock → Bool
supersedes W d v need = held v && dominates W (v.past d) need

-- "the larger count at each place of the past"
abbrev pub join_pasts : (ℕ → Clock) → (ℕ → Clock) → ℕ → Clock
join_pasts p q d = join (p d) (q d)

-- CR 3: "writer u leads if it leads on both sides with the same count, or leads on one side with
-- a larger count than the other side has". The sides' masks are m and n, their own rows p and q.
unfoldable pub leads_on : ℕ → Clock → ℕ → Clock → Items
leads_on m p n q u =
    (test_bit m u && (test_bit n u && eqb (p u) (q u)))
    || ((test_bit m u && ltb (q u) (p u)) || (test_bit n u && ltb (p u) (q u)))

-- "if that names nobody, each writer with a count in the merged own row leads"
unfoldable pub merged_leaders : ℕ → ℕ → Clock → ℕ → Clock → ℕ
merged_leaders W m p n q =
    let named = mask_below W (leads_on m p n q) in
    cond (eqb named 0) (mask_below W (λ u. leb 1 (join p q u))) named

-- "The larger count at each place of the past, the larger issue number", of two versions of key k.
unfoldable pub larger : ℕ → ℕ → Version → Version → Version
larger W k a b = record {
  issue = max a.issue b.issue;
  leaders = merged_leaders W a.leaders (a.past k) b.leaders (b.past k);
  past = join_pasts a.past b.past;
}

-- "Merge of two versions of one sheet: .. With one side not held, the other."
unfoldable pub merge : ℕ → ℕ → Version → Version → Version
merge W k a b = cond (held a) (cond (held b) (larger W k a b) a) b

-- Versions with clocks of W writers.
abbrev pub versions : ℕ → Algebra Version
versions W = record {
  nothing = unheld;
  held = held;
  needs = dependency W;
  meets = λ d b a. supersedes W d b (a.past d);
  merge = merge W;
}
