-- What an admission begins with (CR 6), and what each clause of "stands behind" gives of two
-- finished jobs of a run, on one line.
-- admitted-is: the desk as it is, the book of it, what its runs had read. listed-, past-, read-,
-- chain-shared: an admitted save that stands behind what one job read, by its own list, by a
-- writer's past, by what a run had read, by a chain, is in what the other one read. plain-behind:
-- where nothing was admitted, a copy is behind by its saves alone, as before CR 6.
-- Assumes nothing.
use mathlib.Core.Path.{◌≡◌, refl, ap}
use mathlib.Core.Bool.{So}
use mathlib.Core.Logic.{◌↔◌, ◌⊎◌, inl, inr}
use mathlib.Core.List.{List}
use Prim.Native.Nat.{ℕ, ◌≤◌, ◌<◌}
use native.Mathlib.Omega.{arith}
use lib.ListN.{length}
use Rattle.clock.specs.Clock.{Clock}
use Rattle.model.specs.Store.{Store}
use Rattle.layout.specs.Reading.{store_of}
use Rattle.history.specs.History.{History, HappensBefore, writer_of, rows_of}
use Rattle.history.specs.Listing.{Base, BookCopy}
use Rattle.history.specs.Lists.{ListedBefore.in_past_of, ListedBefore.in_read, ListedBefore.chained, ListedBehind.in_list, ListedBehind.in_later}
use Rattle.history.specs.Admission.{admitted_book}
use Rattle.history.proofs.Plain.{Plain}
use Rattle.consistency.specs.Trace.{ReadSet, Among, Trace, admitted_reads, admitted}
use Rattle.consistency.specs.Claim.{Snapshot, IsBehind, HoldsAt}

pub admitted-is : (l : List ℕ) → ((admitted l).buffer ≡ l)
    × ((admitted l).book ≡ admitted_book (store_of l))
    × ((admitted l).finished ≡ admitted_reads (store_of l))
unfolding admitted
admitted-is l = (refl, refl, refl)

module _ (t : Trace) (H : HoldsAt t) (r : ℕ) (x y : ReadSet) (p : Among x (t.finished r))
    (q : Among y (t.finished r)) (m : ℕ) (xm : So (x.on m)) (ym : So (y.on m)) where
  abbrev s : Store
  s = store_of t.buffer

  abbrev h : History
  h = t.book.history

  abbrev B : Base
  B = t.book.base

  snapshot : Snapshot s.counts.keys s.counts.writers h B x y
  snapshot = H.holds.shared r x y p q m xm ym

  module _ (e d u n : ℕ) (le : e < s.counts.keys) (ld : d < s.counts.keys)
      (lu : u < s.counts.writers) (xe : So (x.keys e)) (yd : So (y.keys d)) where
    -- The save of d by writer u at count n is in what y read of d.
    abbrev Shared : Type 0
    Shared = n ≤ (y.copy d).rows d u

    pub listed-shared : n ≤ (x.copy e).rows d u → Shared
    listed-shared g = snapshot.listed e d u n le ld lu xe yd (in_list g)

    module _ (i : ℕ) (in-x : So ((x.copy e).later i)) (li : i < length h) where
      -- "behind a writer's next issue also those in that writer's past"
      pub past-shared : n ≤ B.past (writer_of h i) d u → Shared
      past-shared g =
          snapshot.listed e d u n le ld lu xe yd (in_later in-x (in_past_of li g))

      -- "if the run that issued t had read a version that includes s"
      pub read-shared : n ≤ rows_of h i d u → Shared
      read-shared g =
          snapshot.listed e d u n le ld lu xe yd (in_later in-x (in_read li g))

      -- "or through a chain of these": behind an earlier issue j that stands behind i
      pub chain-shared : (c j a : ℕ) → j < length h → n ≤ rows_of h j d u
          → HappensBefore h c j a i → Shared
      chain-shared c j a lj g b =
          snapshot.listed e d u n le ld lu xe yd
          (in_later in-x (chained (in_read lj g) b))

pub plain-behind : (W k : ℕ) (c m : BookCopy) → Plain c → Plain m → IsBehind W k c m
    ↔ (((i : ℕ) × So (c.later i)) × ¬ ((i : ℕ) → c.later i ≡ m.later i))
plain-behind W k c m p q = (
  λ b. (some b.some, λ e. b.other (e, λ u l. omega (arith, none p u, none q u))),
  λ b. record { some = inl b.0; other = λ e. b.1 e.0 },
)
  where
    none : {a : BookCopy} → Plain a → (u : ℕ) → a.rows k u ≡ 0
    none a u = ap (λ (f : ℕ → Clock). f k u) a.rows

    some : ((i : ℕ) × So (c.later i)) ⊎ ((u : ℕ) × (u < W) × (1 ≤ c.rows k u))
        → (i : ℕ) × So (c.later i)
    some (inl x) = x
    some (inr x) = absurd (omega (arith, none p x.0, x.2))
