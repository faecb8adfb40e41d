-- What a reader takes out of the claim of specs/Claim; of specs/Lasting: UsesRuns.
-- Nothing here knows how they are proved: a claim that says less is refused here.
-- At a point: form, shelves, versions, reads, steps. Lists: each point of one, two in a row.
-- Assumes nothing.
use mathlib.Core.Path.{◌≡◌, refl, sym, ap, ◌∙◌}
use mathlib.Core.Bool.{false, So}
use mathlib.Core.Logic.{◌⊎◌, inl, inr, ⊎_elim}
use mathlib.Core.List.{List, [], ◌∷◌, ◌++◌, append-nil}
use Prim.Native.Nat.{ℕ, ◌≤◌, ◌<◌}
use lib.Dec.{eqb}
use Rattle.words.proofs.Bools.{test}
use Rattle.clock.specs.declared.Standing.TheVariants.{Equal, Older}
use Rattle.clock.specs.Clock.{Clock, standing_number}
use Rattle.clock.proofs.Standings.{standing-below, standing-self}
use Rattle.sizes.specs.declared.Counts.{Counts}
use Rattle.model.specs.Version.{Version, held, dependency, supersedes, versions}
use Rattle.model.specs.Store.{branch_of, Store, planned}
use Rattle.model.specs.Outcome.{refused, broken, done}
use Rattle.model.specs.Calls.Look.{look_place, look_limit, row_numbers, look_standing, look_numbers}
use Rattle.model.specs.Calls.{step}
use Rattle.model.proofs.Cuts.{causal_cut-at, overlapping_cut-within, overlapping_cut-at}
use Rattle.layout.specs.Reading.{store_of}
use Rattle.layout.specs.Buffer.{in_form}
use Rattle.layout.specs.Calls.{Call, on, new_on, call_on, is_ok_of, after}
use Rattle.history.specs.History.{History, HappensBefore, saved, in_past}
use Rattle.history.specs.Copies.{CopyCount, CountedAs}
use Rattle.history.specs.Listing.{Base, counted_copy}
use Rattle.history.specs.Book.{book_branch}
use Rattle.consistency.specs.Trace.{ReadSet, Trace, start, follow, Among}
use Rattle.consistency.specs.Claim.{Pick, Works, Choice, is_refused, is_broken, HoldsAt, Consistent, Demand3}
use Rattle.consistency.proofs.Rows.{after-append, follow-append, follow-buffer}

-- ---- an outcome is refused, broken or done, and one of them alone

pub outcomes-differ : (n m : ℕ) (a : List ℕ) (s : Store)
    → So (is_refused (refused n)) × (is_refused (broken m s) ≡ false)
    × (is_refused (done a s) ≡ false) × (is_broken (refused n) ≡ false)
    × So (is_broken (broken m s)) × (is_broken (done a s) ≡ false)
unfolding is_refused is_broken
outcomes-differ n m a s = (refl, refl, refl, refl, refl, refl)

-- ---- at a point

-- A version's number, and each count of each row, are those of a copy.
abbrev pub Same : Version → CopyCount → Type 0
Same v n = (v.issue ≡ n.issue) × ((d w : ℕ) → v.past d w ≡ n.past d w)

same : {v : Version} {n : CopyCount} → CountedAs v n → Same v n
same e = (e.issue, λ d w. ap (λ (p : ℕ → Clock). p d w) e.past)

module _ (t : Trace) (H : HoldsAt t) where
  abbrev s : Store
  s = store_of t.buffer

  abbrev K : ℕ
  K = s.counts.keys

  abbrev W : ℕ
  W = s.counts.writers

  abbrev h : History
  h = t.book.history

  abbrev B : Base
  B = t.book.base

  pub form : So (in_form t.buffer)
  form = H.formed

  -- The book counts keys, writers, sites and runs as the store does.
  pub counts : s.counts ≡ t.book.counts
  counts = H.holds.counts

  -- "every need of every held version is met by a held version", on each shelf
  pub cache-meets : (o : ℕ) → o < s.counts.sites → (k d : ℕ) → k < K → d < K
      → So (held ((s.site o).cache k)) → So (dependency W k ((s.site o).cache k) d)
      → So (supersedes W d ((s.site o).cache d) (((s.site o).cache k).past d))
  cache-meets o l = causal_cut-at (versions W) K (s.site o).cache (H.holds.cuts o l)

  -- "only those sheets are held, and every need among them is met", on each card
  pub snapshot-within : (r n : ℕ) → r < s.counts.runs → (k : ℕ) → k < K
      → So (held ((branch_of n (s.run r)).snapshot k))
      → So (planned (s.run r).jobs (s.run r).job k)
  snapshot-within r n l = overlapping_cut-within (versions W) K _ _ (H.holds.overlaps r n l)

  pub snapshot-meets : (r n : ℕ) → r < s.counts.runs → (k d : ℕ) → k < K → d < K
      → So (planned (s.run r).jobs (s.run r).job d)
      → let p = (branch_of n (s.run r)).snapshot in
      So (held (p k)) → So (dependency W k (p k) d) → So (supersedes W d (p d) ((p k).past d))
  snapshot-meets r n l = overlapping_cut-at (versions W) K _ _ (H.holds.overlaps r n l)

  -- "A version on the desk is its copy counted": master, shelves, cards, what jobs have read
  pub master-counted : (k : ℕ) → k < K
      → Same (s.master k) (counted_copy K h B (t.book.master k))
  master-counted k l = same (H.holds.master k l)

  pub cache-counted : (o : ℕ) → o < s.counts.sites → (k : ℕ) → k < K
      → Same ((s.site o).cache k) (counted_copy K h B (t.book.cache o k))
  cache-counted o l k i = same (H.holds.caches o l k i)

  pub snapshot-counted : (r n : ℕ) → r < s.counts.runs → (k : ℕ) → k < K
      → Same ((branch_of n (s.run r)).snapshot k)
      (counted_copy K h B ((book_branch n (t.book.run r)).snapshot k))
  snapshot-counted r n l k i = same (H.holds.snapshots r n l k i)

  pub read-counted : (r : ℕ) (x : ReadSet) → Among x (t.finished r) → (k : ℕ) → k < K
      → So (x.keys k) → Same (x.version k) (counted_copy K h B (x.copy k))
  read-counted r x p k l q = same (H.holds.reads r x p k l q)

  pub master-has : (k i : ℕ) → k < K → So (saved h k i) → So ((t.book.master k).later i)
  master-has = H.holds.every-save

  -- "which copy is ahead": no count on a shelf or card is larger than the master's
  pub cache-not-ahead : (o : ℕ) → o < s.counts.sites → (k : ℕ) → k < K → (w : ℕ) → w < W
      → ((s.site o).cache k).past k w ≤ (s.master k).past k w
  cache-not-ahead o l k h = (standing-below W _ _).1 (H.holds.behind-caches o l k h)

  pub snapshot-not-ahead : (r n : ℕ) → r < s.counts.runs → (k : ℕ) → k < K → (w : ℕ) → w < W
      → ((branch_of n (s.run r)).snapshot k).past k w ≤ (s.master k).past k w
  snapshot-not-ahead r n l k h = (standing-below W _ _).1 (H.holds.behind-snapshots r n l k h)

  -- So a look, whatever place it asks for, tells equal or older,
  pub look-not-ahead : (p i k : ℕ) → i < look_limit s.counts p → k < K
      → let x = look_standing W k (look_place s p i k) (s.master k) in (x ≡ Equal) ⊎ (x ≡ Older)
  unfolding look_standing look_place look_limit
  look-not-ahead p i k h l =
      test (eqb p 0) (λ y. rw y (inl (standing-self W ((s.master k).past k)))) (λ n.
      test (eqb p 1)
      (λ y. rw (n, y) (H.holds.behind-caches i (rw (n, y) at h) k l))
      (λ m. rw (n, m) (H.holds.behind-snapshots i 0 (rw (n, m) at h) k l)))

  -- and its last number is 0 or 1.
  pub look-last : (p i k : ℕ) → i < look_limit s.counts p → k < K → let v = look_place s p i k in
      (n : ℕ) × ((n ≡ 0) ⊎ (n ≡ 1))
      × (look_numbers s p i k ≡ v.issue ∷ v.leaders ∷ (row_numbers W (v.past k) ++ n ∷ []))
  unfolding look_numbers
  look-last p i k h l =
      let x = look_standing W k (look_place s p i k) (s.master k) in (
        standing_number x,
        ⊎_elim (λ e. inl (ap standing_number e)) (λ e. inr (ap standing_number e))
            (look-not-ahead p i k h l),
        refl,
      )

  -- "Save s stands behind save t": in the past of t's issue, and nothing else is but t itself
  pub behind-past : (d j e i : ℕ) → So (saved h e i) → HappensBefore h d j e i
      → So (in_past K h i d j)
  behind-past d j e i p b = (H.holds.behind d j e i p).1 (inr b)

  pub past-behind : (d j e i : ℕ) → So (saved h e i) → So (in_past K h i d j)
      → ((d ≡ e) × (j ≡ i)) ⊎ HappensBefore h d j e i
  past-behind d j e i p = (H.holds.behind d j e i p).0

  -- Two finished jobs of a run, on line n both, either of them first: "a sheet that both read is
  -- one version",
  pub one-version : (r : ℕ) (x y : ReadSet) → Among x (t.finished r) → Among y (t.finished r)
      → (n : ℕ) → So (x.on n) → So (y.on n)
      → (k : ℕ) → k < K → So (x.keys k) → So (y.keys k) → x.version k ≡ y.version k
  one-version r x y p q n m o = (H.holds.shared r x y p q n m o).one-version

  -- and what stands behind anything that either read is included in what either read.
  pub either-includes : (r : ℕ) (x y : ReadSet) → Among x (t.finished r)
      → Among y (t.finished r) → (n : ℕ) → So (x.on n) → So (y.on n)
      → (e i d j : ℕ) → e < K → d < K → HappensBefore h d j e i
      → (So (x.keys e) → So ((x.copy e).later i) → So (y.keys d) → So ((y.copy d).later j))
      × (So (y.keys e) → So ((y.copy e).later i) → So (x.keys d) → So ((x.copy d).later j))
  either-includes r x y p q n m o e i d j le ld b = (
    λ u v w. (H.holds.shared r x y p q n m o).included e i d j le ld u v w b,
    λ u v w. (H.holds.shared r y x q p n o m).included e i d j le ld u v w b,
  )

  -- The step of run r's job j on line n as a call on the buffer: a done one has a choice that
  -- works,
  pub done-works : (r j n : ℕ) (a : List ℕ) (u : Store)
      → call_on (on (step r j n)) t.buffer ≡ done a u → Choice s r j n
  unfolding is_ok_of
  done-works r j n a u e = (H.breaks r j n).works (rw e refl)

  pub done-pick : (r j n : ℕ) (a : List ℕ) (u : Store)
      → call_on (on (step r j n)) t.buffer ≡ done a u → (pick : ℕ → Pick) × Works s r j n pick
  done-pick = done-works

  -- a broken one has none,
  pub broken-none : (r j n m : ℕ) (u : Store) → call_on (on (step r j n)) t.buffer ≡ broken m u
      → ¬ (Choice s r j n)
  unfolding is_refused is_broken
  broken-none r j n m u e = ((H.breaks r j n).exactly (rw e refl)).0 (rw e refl)

  pub broken-pick : (r j n m : ℕ) (u : Store) → call_on (on (step r j n)) t.buffer ≡ broken m u
      → (pick : ℕ → Pick) → ¬ (Works s r j n pick)
  broken-pick r j n m u e pick w = broken-none r j n m u e (pick, w)

  -- and one that is not refused is broken if there is none.
  pub none-broken : (r j n : ℕ) → is_refused (call_on (on (step r j n)) t.buffer) ≡ false
      → ¬ (Choice s r j n) → So (is_broken (call_on (on (step r j n)) t.buffer))
  none-broken r j n x g = ((H.breaks r j n).exactly x).1 g

-- ---- lists

module _ (claim : Demand3) (l : List ℕ) (z : Counts) (ok : So (is_ok_of (new_on l z))) where
  -- After the first calls of a list, with more to come; after all of it; before any.
  pub point : (sofar : List Call) (c : Call) (rest : List Call)
      → HoldsAt (follow sofar (start z l))
  point sofar c rest = claim l z ok (sofar ++ (c ∷ rest)) sofar (c ∷ rest) refl

  pub end : (cs : List Call) → HoldsAt (follow cs (start z l))
  end cs = claim l z ok cs cs [] (sym (append-nil cs))

  pub beginning : (cs : List Call) → HoldsAt (start z l)
  unfolding follow
  beginning cs = claim l z ok cs [] cs refl

  -- Calls ds made m' of the buffer m that calls cs had left, calls es made m'' of it: that is one
  -- list, and the claim holds of it.
  pub in_a_row : (cs ds es : List Call) (m m' m'' : List ℕ) → m ≡ (follow cs (start z l)).buffer
      → m' ≡ after ds m → m'' ≡ after es m'
      → (m'' ≡ (follow (cs ++ (ds ++ es)) (start z l)).buffer)
      × Consistent (cs ++ (ds ++ es)) (start z l)
  in_a_row cs ds es m m' m'' p q r = (made, claim l z ok (cs ++ (ds ++ es)))
    where
      made : m'' ≡ (follow (cs ++ (ds ++ es)) (start z l)).buffer
      made =
          r ∙ ap (after es) (q ∙ ap (after ds) p)
          ∙ sym (after-append ds es (follow cs (start z l)).buffer)
          ∙ sym (follow-buffer (ds ++ es) (follow cs (start z l)))
          ∙ sym (ap (λ t. t.buffer) (follow-append cs (ds ++ es) (start z l)))
