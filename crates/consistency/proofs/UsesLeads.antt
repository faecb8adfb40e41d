-- What a reader takes out of the claim on masks (CR 3); nothing here knows how it is proved.
-- leads-..: what a leader has. Names: a mask that names just these. master-, cache-, snapshot-,
-- read-led: every mask does. leaders_rival: two in one mask are rivals. cache-is-master: number,
-- mask and rows say all. ..-named, merge-by-masks: in a merge somebody is named.
-- Assumes nothing.
use mathlib.Core.Path.{◌≡◌, refl, sym, ap, ◌∙◌}
use mathlib.Core.Bool.{So}
use mathlib.Core.Logic.{◌≢◌}
use Prim.Native.Nat.{ℕ, ◌≤◌, ◌<◌}
use Rattle.words.proofs.Tests.{any-intro}
use Rattle.masks.specs.Mask.{test_bit, mask_below}
use Rattle.masks.proofs.Sets.{set-none}
use Rattle.model.specs.Version.{Version, held, leads_on, merged_leaders, larger, merge}
use Rattle.model.specs.Store.{branch_of, Store}
use Rattle.history.specs.Book.{book_branch}
use Rattle.model.proofs.Merges.{version-path, merge-both}
use Rattle.layout.specs.Reading.{store_of}
use Rattle.history.specs.History.{History, HappensBefore, writer_of}
use Rattle.history.specs.Copies.{Copy, leading}
use Rattle.history.specs.Listing.{no_base}
use Rattle.consistency.specs.Trace.{ReadSet, Trace, Among}
use Rattle.consistency.specs.Leading.{Leads, LedAs, OnPlace, OnPlace.on_master, OnPlace.on_cache, OnPlace.on_snapshot, Named}
use Rattle.consistency.specs.Claim.{HoldsAt}

-- ---- "whose last included save stands behind no other included save"

module _ (h : History) (k : ℕ) (c : Copy) (u : ℕ) (L : Leads h k c u) where
  pub leads-own : So (c L.last) × (writer_of h L.last ≡ u)
  leads-own = (L.included, L.own)

  -- No included save by this writer is later.
  pub leads-last : (i : ℕ) → So (c i) → writer_of h i ≡ u → i ≤ L.last
  leads-last = L.latest

  -- It stands behind no save that is included beside it.
  pub leads-free : (i : ℕ) → So (c i) → i ≢ L.last → ¬ (HappensBefore h k L.last k i)
  leads-free = L.free

-- Neither of two leaders has seen the other's last save.
pub leaders_rival : (h : History) (k : ℕ) (c : Copy) (u w : ℕ) → u ≢ w → (L : Leads h k c u)
    → (M : Leads h k c w) → ¬ (HappensBefore h k L.last k M.last)
leaders_rival h k c u w ne L M =
    let other : M.last ≢ L.last =
    λ e. ne (sym L.own ∙ ap (writer_of h) (sym e) ∙ M.own) in
    L.free M.last M.included other

-- ---- at a point of a list from new

module _ (t : Trace) (H : HoldsAt t) (plain : t.book.base ≡ no_base) where
  abbrev s : Store
  s = store_of t.buffer

  abbrev K : ℕ
  K = s.counts.keys

  abbrev W : ℕ
  W = s.counts.writers

  abbrev h : History
  h = t.book.history

  -- The mask m of a version of key k is the one that the book gives, it names who leads, and who
  -- leads is named.
  abbrev pub Names : ℕ → ℕ → Copy → Type 0
  Names k m c =
      (m ≡ mask_below W (leading K h k c))
      × ((u : ℕ) → u < W → So (test_bit m u) → Leads h k c u)
      × ((u : ℕ) → u < W → Leads h k c u → So (test_bit m u))

  names : {k m : ℕ} {c : Copy} → LedAs W K h k m c → Names k m c
  names e = (e.mask, λ u l. (e.leads u l).0, λ u l. (e.leads u l).1)

  -- On master, shelves and cards, and of what finished jobs have read.
  pub master-led : (k : ℕ) → k < K → Names k (s.master k).leaders (t.book.master k).later
  master-led k l = names ((H.holds.leads plain).led-master k l)

  pub cache-led : (o : ℕ) → o < s.counts.sites → (k : ℕ) → k < K
      → Names k ((s.site o).cache k).leaders (t.book.cache o k).later
  cache-led o l k i = names ((H.holds.leads plain).led-caches o l k i)

  pub snapshot-led : (r n : ℕ) → r < s.counts.runs → (k : ℕ) → k < K
      → Names k ((branch_of n (s.run r)).snapshot k).leaders
      ((book_branch n (t.book.run r)).snapshot k).later
  snapshot-led r n l k i = names ((H.holds.leads plain).led-snapshots r n l k i)

  pub read-led : (r : ℕ) (x : ReadSet) → Among x (t.finished r) → (k : ℕ) → k < K
      → So (x.keys k) → Names k (x.version k).leaders (x.copy k).later
  read-led r x p k l q = names ((H.holds.leads plain).led-reads r x p k l q)

  -- Number, mask and rows say all: the shelf's version of the master's copy is the master's.
  pub cache-is-master : (o : ℕ) → o < s.counts.sites → (k : ℕ) → k < K
      → t.book.cache o k ≡ t.book.master k → (s.site o).cache k ≡ s.master k
  cache-is-master o l k i e =
      let a = H.holds.caches o l k i in
      let b = H.holds.master k i in
      let m = ((H.holds.leads plain).led-caches o l k i).mask in
      let n = ((H.holds.leads plain).led-master k i).mask in
      version-path (rw e at a.issue ∙ sym b.issue) (rw e at m ∙ sym n)
      (rw e at a.past ∙ sym b.past)

  -- "if that names nobody" doesn't happen: in a merge of what the master and a shelf have, of two
  -- shelves, of a card and a shelf,
  pub master-named : (o k : ℕ) → o < s.counts.sites → k < K
      → Named W k (s.master k) ((s.site o).cache k)
  master-named o k l i = (H.holds.leads plain).named k _ _ i on_master (on_cache o l)

  pub caches-named : (o q k : ℕ) → o < s.counts.sites → q < s.counts.sites → k < K
      → Named W k ((s.site o).cache k) ((s.site q).cache k)
  caches-named o q k l j i = (H.holds.leads plain).named k _ _ i (on_cache o l) (on_cache q j)

  pub snapshot-named : (r n o k : ℕ) → r < s.counts.runs → o < s.counts.sites → k < K
      → Named W k ((branch_of n (s.run r)).snapshot k) ((s.site o).cache k)
  snapshot-named r n o k l j i =
      (H.holds.leads plain).named k _ _ i (on_snapshot r n l) (on_cache o j)

  -- of the two cards that a join merges,
  pub lines-named : (r k : ℕ) → r < s.counts.runs → k < K
      → Named W k ((s.run r).branch.snapshot k) ((s.run r).second.snapshot k)
  lines-named r k l i =
      (H.holds.leads plain).named k _ _ i (on_snapshot r 0 l) (on_snapshot r 1 l)

  -- so that the merged mask is whom the two masks name.
  pub merge-by-masks : (k : ℕ) (v w : Version) → k < K → OnPlace s k v → OnPlace s k w
      → So (held v) → So (held w) → (merge W k v w).leaders
      ≡ mask_below W (leads_on v.leaders (v.past k) w.leaders (w.past k))
  unfolding larger merged_leaders
  merge-by-masks k v w l p q x y =
      let named = leads_on v.leaders (v.past k) w.leaders (w.past k) in
      let u = (H.holds.leads plain).named k v w l p q x y in
      let some = any-intro W named u.0 u.1 u.2 in
      rw (merge-both W k v w x y, set-none W named, some) refl
