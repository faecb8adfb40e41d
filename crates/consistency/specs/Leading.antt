-- CR 3: the masks of leading writers, at one point of a list.
-- Leads: who leads in a copy. LedAs, Led: a mask that names just these. OnPlace: a version on the
-- store. Named: somebody leads a merge. Leading: all of it.
-- Assumes nothing.
use Rattle.std.specs.Prelude.{◌≡◌, ◌↔◌, ◌≢◌, List, ℕ, ◌≤◌, ◌<◌}
use Rattle.std.proofs.Math.Bool.{So}
use Rattle.masks.specs.Mask.{test_bit, mask_below}
use Rattle.model.specs.Algebra.{Place}
use Rattle.model.specs.Version.{Version, held, leads_on}
use Rattle.model.specs.Store.{branch_of, Store}
use Rattle.history.specs.History.{History, HappensBefore, writer_of}
use Rattle.history.specs.Copies.{Copy, leading}
use Rattle.history.specs.Listing.{BookCopy}
use Rattle.history.specs.Book.{book_branch, Book}
use Rattle.consistency.specs.Trace.{ReadSet, Among}

-- Writer u is one "whose last included save stands behind no other included save", in a copy
-- of key k.
pub record Leads (h : History) (k : ℕ) (c : Copy) (u : ℕ) : Type 0 where
  pub last : ℕ
  pub included : So (c last)
  pub own : writer_of h last ≡ u
  pub latest : (i : ℕ) → So (c i) → writer_of h i ≡ u → i ≤ last
  pub free : (i : ℕ) → So (c i) → i ≢ last → ¬ (HappensBefore h k last k i)

-- "On a desk written only by our calls it names just" these: the mask m, of W writers.
pub record LedAs (W K : ℕ) (h : History) (k m : ℕ) (c : Copy) : Type 0 where
  pub mask : m ≡ mask_below W (leading K h k c)
  pub leads : (u : ℕ) → u < W → So (test_bit m u) ↔ Leads h k c u

abbrev pub Led : ℕ → ℕ → History → Place Version → Place BookCopy → Type 0
Led W K h p c = (k : ℕ) → k < K → LedAs W K h k (p k).leaders (c k).later

-- A version of key k on the master, a shelf or a card.
pub data OnPlace (s : Store) (k : ℕ) : Version → Type 0 where
  on_master : OnPlace s k (s.master k)
  on_cache : (o : ℕ) → o < s.counts.sites → OnPlace s k ((s.site o).cache k)
  on_snapshot : (r n : ℕ) → r < s.counts.runs → OnPlace s k ((branch_of n (s.run r)).snapshot k)

-- "if that names nobody" doesn't happen: in a merge of two held versions of key k somebody leads
-- by his side's mask. At a point this is claimed of versions on places; of the merges inside
-- prepare and of those with a new version it is a law (`prepare-named`, `issued_master-named`).
abbrev pub Named : ℕ → ℕ → Version → Version → Type 0
Named W k a b =
    So (held a) → So (held b)
    → (u : ℕ) × (u < W) × So (leads_on a.leaders (a.past k) b.leaders (b.past k) u)

-- ---- at one point: on master, shelves and cards, and of what finished jobs have read

pub record Leading (s : Store) (b : Book) (finished : ℕ → List ReadSet) : Type 0 where
  pub led-master : Led s.counts.writers s.counts.keys b.history s.master b.master
  pub led-caches : (o : ℕ) → o < s.counts.sites
      → Led s.counts.writers s.counts.keys b.history (s.site o).cache (b.cache o)
  pub led-snapshots : (r n : ℕ) → r < s.counts.runs
      → Led s.counts.writers s.counts.keys b.history (branch_of n (s.run r)).snapshot
      (book_branch n (b.run r)).snapshot
  pub led-reads : (r : ℕ) (x : ReadSet) → Among x (finished r) → (k : ℕ) → k < s.counts.keys
      → So (x.keys k)
      → LedAs s.counts.writers s.counts.keys b.history k (x.version k).leaders
      (x.copy k).later
  pub named : (k : ℕ) (v w : Version) → k < s.counts.keys → OnPlace s k v → OnPlace s k w
      → Named s.counts.writers k v w
