-- What a reader takes out of the claim on stale marks (CR 4), allowances (CR 7) and rights (CR 9);
-- nothing here knows how it is proved.
-- mark-is: every mark is the mask. fits: no shelf holds more than it may. bars: nor a sheet that
-- is barred to it. marked-..: what a set
-- bit says. behind-marked: a copy that is behind is marked. in_master, row_in_master: what a shelf
-- has, the master has. look-marked: a bit is set exactly if the look there does not end in 0.
-- empty-fails, same-fails: what is not behind.
-- Assumes nothing.
use mathlib.Core.Path.{◌≡◌, refl}
use mathlib.Core.Bool.{false, So}
use mathlib.Core.Logic.{◌↔◌, ◌≢◌, ◌⊎◌, inl, inr, ⊎_elim}
use Prim.Native.Nat.{ℕ, ◌≤◌, ◌<◌}
use native.Mathlib.Omega.{arith}
use Rattle.words.proofs.Bools.{test, clash, and_right}
use Rattle.masks.specs.Mask.{test_bit}
use Rattle.clock.specs.Clock.{standing_number}
use Rattle.model.specs.Version.{held}
use Rattle.model.specs.Allowance.{held_count}
use Rattle.model.specs.Marks.{stale_mask}
use Rattle.model.specs.Form.{well_formed}
use Rattle.model.specs.Calls.Look.{look_place, look_standing, look_cause}
use Rattle.model.specs.Store.{Store}
use Rattle.model.proofs.Marked.{stale-look}
use Rattle.layout.specs.Reading.{store_of}
use Rattle.layout.specs.Buffer.{shaped, in_form}
use Rattle.history.specs.Listing.{BookCopy}
use Rattle.consistency.specs.Trace.{Trace}
use Rattle.consistency.specs.Claim.{IsBehind, HoldsAt}

-- ---- "isn't empty and isn't the master's"

-- It has neither a later save nor an admitted one.
pub empty-fails : (W k : ℕ) (c master : BookCopy) → ((i : ℕ) → c.later i ≡ false)
    → ((u : ℕ) → c.rows k u ≡ 0) → ¬ (IsBehind W k c master)
empty-fails W k c master e z b =
    ⊎_elim (λ p. clash p.1 (e p.0)) (λ p. absurd (omega (arith, p.2, z p.0))) b.some

pub same-fails : (W k : ℕ) (c : BookCopy) → ¬ (IsBehind W k c c)
same-fails W k c b = b.other (λ i. refl, λ u l. refl)

-- ---- at a point

module _ (t : Trace) (H : HoldsAt t) (o : ℕ) (ho : o < (store_of t.buffer).counts.sites) where
  abbrev s : Store
  s = store_of t.buffer

  pub mark-is : (s.site o).stale ≡ stale_mask s.counts s.master (s.site o).cache
  mark-is = H.holds.marks_true o ho

  -- CR 7: "No shelf ever holds more" than its own allowance.
  pub fits : held_count s.counts.keys (s.site o).cache ≤ (s.site o).allowance
  fits = H.holds.within o ho

  -- CR 9: "No shelf ever holds a sheet barred to its office".
  pub bars : (k : ℕ) → k < s.counts.keys → test_bit (s.tail.may_hold o) k ≡ false
      → held ((s.site o).cache k) ≡ false
  bars k hk n =
      test (held ((s.site o).cache k)) (λ y. clash (H.holds.unbarred o k ho hk y) n) (λ e. e)

  abbrev W : ℕ
  W = s.counts.writers

  module _ (k : ℕ) (hk : k < s.counts.keys) where
    -- The shelf's copy includes what the master's does.
    abbrev AsMaster : Type 0
    AsMaster =
        ((i : ℕ) → (t.book.cache o k).later i ≡ (t.book.master k).later i)
        × ((u : ℕ) → u < W → (t.book.cache o k).rows k u ≡ (t.book.master k).rows k u)

    -- It includes a later save, or an admitted one,
    pub marked-some : So (test_bit (s.site o).stale k)
        → ((i : ℕ) × So ((t.book.cache o k).later i))
        ⊎ ((u : ℕ) × (u < W) × (1 ≤ (t.book.cache o k).rows k u))
    marked-some p = ((H.holds.marks-copies o k ho hk).0 p).some

    -- and not all that the master's does.
    pub marked_other : So (test_bit (s.site o).stale k) → ¬ AsMaster
    marked_other p = ((H.holds.marks-copies o k ho hk).0 p).other

    pub behind-marked : (i : ℕ) → So ((t.book.cache o k).later i) → ¬ AsMaster
        → So (test_bit (s.site o).stale k)
    behind-marked i p n =
        (H.holds.marks-copies o k ho hk).1 (record { some = inl (i, p); other = n })

    pub admitted-marked : (u : ℕ) → u < W → 1 ≤ (t.book.cache o k).rows k u → ¬ AsMaster
        → So (test_bit (s.site o).stale k)
    admitted-marked u l p n =
        (H.holds.marks-copies o k ho hk).1 (record { some = inr (u, l, p); other = n })

    pub in_master : (i : ℕ) → So ((t.book.cache o k).later i) → So ((t.book.master k).later i)
    in_master i p = H.holds.caches-part o k i ho hk p

    pub row_in_master : (u : ℕ) → u < W
        → (t.book.cache o k).rows k u ≤ (t.book.master k).rows k u
    row_in_master u l = H.holds.caches-admitted o k u ho hk l

    pub look-marked : So (test_bit (s.site o).stale k)
        ↔ ((look_cause s 1 o k ≡ 0) × (standing_number (look_standing s.counts.writers k
        (look_place s 1 o k) (s.master k)) ≢ 0))
    unfolding in_form
    look-marked =
        stale-look s (and_right (shaped t.buffer) (well_formed s) H.formed) o k ho hk
