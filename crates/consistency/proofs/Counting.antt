-- Versions stand for copies: a version is its copy counted, the copy can be one of its key, and
-- where nothing was admitted the mask names who leads in it.
-- StandsFor: the relation. Masked: the masks of a place. stands_plain: as without a base.
-- stands-named: a merge names somebody. counted-simulates: the rules give the same for both.
-- counted-related: a place that is counted from a cut.
-- Assumes nothing.
use mathlib.Core.Path.{◌≡◌, sym, ap, ◌∙◌}
use Prim.Native.Nat.{ℕ, ◌<◌}
use lib.ListN.{length}
use Rattle.words.specs.Tests.{Items, none}
use Rattle.masks.specs.Mask.{mask_below}
use Rattle.masks.proofs.Sets.{mask-no}
use Rattle.clock.specs.Clock.{Clock}
use Rattle.model.specs.Algebra.{Place}
use Rattle.model.specs.Version.{Version, unheld, larger, merge, versions}
use Rattle.model.proofs.Merges.{held-unheld, merge-cases}
use Rattle.history.specs.History.{History, writer_of}
use Rattle.history.specs.Copies.{Copy, CountedAs, union, counted, leading}
use Rattle.history.specs.Listing.{Base, no_base, BookCopy, merge_book, book_copies, counted_copy}
use Rattle.history.proofs.Notions.{PastLaws}
use Rattle.history.proofs.Reached.{union-unheld-left, union-unheld-right}
use Rattle.history.proofs.Counted.{held_same, counted_none}
use Rattle.history.proofs.Leading.{leading-unheld}
use Rattle.history.proofs.LeadingUnion.{named-union, leading-union}
use Rattle.history.proofs.Listed.{Based}
use Rattle.history.proofs.Plain.{listed_plain, counted-plain}
use Rattle.history.proofs.Listing as Listing
use Rattle.history.proofs.ListingMeets.{meets-same}
use Rattle.history.proofs.ListingMerged.{merge-counted, book-none}
use Rattle.history.proofs.BookWrites.{GoodBook, write-nothing-good, write-merge-good}
use Rattle.consistency.specs.Leading.{Named}
use Rattle.consistency.specs.Claim.{Counted}
use Rattle.consistency.proofs.Simulation.{Simulates, Related}
use Rattle.consistency.proofs.Closing.{ClosedIn}

-- v, a version of key k, and c, of W writers.
pub record StandsFor (W K : ℕ) (h : History) (B : Base) (k : ℕ) (v : Version) (c : BookCopy)
    : Type 0 where
  pub counts : CountedAs v (counted_copy K h B c)
  pub good : GoodBook K W h B k c
  pub led : B ≡ no_base → v.leaders ≡ mask_below W (leading K h k c.later)

-- The masks of a place name who leads in its copies.
abbrev pub Masked : ℕ → ℕ → History → Base → Place Version → Place BookCopy → Type 0
Masked W K h B p c =
    B ≡ no_base → (k : ℕ) → k < K → (p k).leaders ≡ mask_below W (leading K h k (c k).later)

-- What is not held stands for no copy.
pub masked-none : (W K : ℕ) (h : History) (k : ℕ)
    → unheld.leaders ≡ mask_below W (leading K h k none)
masked-none W K h k =
    let n = sym (held_same K h unheld none (counted_none K h)) ∙ held-unheld in
    sym (mask-no W (leading K h k none) (λ u _. leading-unheld K h k none n u))

-- Where nothing was admitted, a version is its set of saves counted.
pub stands_plain : {W K : ℕ} {h : History} {B : Base} {k : ℕ} {v : Version} {c : BookCopy}
    → B ≡ no_base → StandsFor W K h B k v c → CountedAs v (counted K h c.later)
stands_plain {W} {K} {h} {B} {k} {v} {c} e r =
    rw (counted-plain K h B c e (listed_plain B W k c e r.good.listed)) at r.counts

module _ (K W : ℕ) (h : History) (B : Base) (laws : PastLaws K h) (based : Based B)
    (writers : (i : ℕ) → i < length h → writer_of h i < W) where
  module _ (k : ℕ) (v w : Version) (a b : BookCopy) (r : StandsFor W K h B k v a)
      (r' : StandsFor W K h B k w b) where
    abbrev own : (v : Version) (c : Copy) → CountedAs v (counted K h c)
        → v.past k ≡ (counted K h c).past k
    own v c e = ap (λ (p : ℕ → Clock). p k) e.past

    -- Their merge names somebody.
    pub stands-named : B ≡ no_base → Named W k v w
    stands-named e p q =
        let x = stands_plain e r in
        let y = stands_plain e r' in
        rw (r.led e, r'.led e, own v a.later x, own w b.later y)
        (named-union K h laws k W a.later b.later r.good.good r'.good.good writers
        (sym (held_same K h v a.later x) ∙ p))

    merge-led : B ≡ no_base → (merge W k v w).leaders
        ≡ mask_below W (leading K h k (union K h a.later b.later))
    unfolding larger
    merge-led e =
        let x = stands_plain e r in
        let y = stands_plain e r' in
        merge-cases W k
        (λ z. z.leaders ≡ mask_below W (leading K h k (union K h a.later b.later))) v w
        (λ p _.
        rw (r.led e, r'.led e, own v a.later x, own w b.later y)
        (leading-union K h laws k W a.later b.later r.good.good r'.good.good writers
        (sym (held_same K h v a.later x) ∙ p)))
        (λ _ n.
        let z = sym (held_same K h w b.later y) ∙ n in
        let q = union-unheld-right K h k a.later b.later r'.good.good z in
        r.led e ∙ ap (λ (c : Copy). mask_below W (leading K h k c)) (sym q))
        (λ n.
        let z = sym (held_same K h v a.later x) ∙ n in
        let q = union-unheld-left K h k a.later b.later r.good.good z in
        r'.led e ∙ ap (λ (c : Copy). mask_below W (leading K h k c)) (sym q))

    pub stands-merge : StandsFor W K h B k (merge W k v w) (merge_book K h a b)
    unfolding merge_book
    stands-merge = record {
      counts = merge-counted K h B W k v w a b r.counts r'.counts r.good.good
          r'.good.good r.good.listed.blank r'.good.listed.blank;
      good = write-merge-good K W h B k a b r.good r'.good;
      led = merge-led;
    }

  pub counted-simulates : Simulates (versions W) (book_copies K W h) K (StandsFor W K h B)
  counted-simulates = record {
    nothing = λ k. record {
      counts = book-none K h B;
      good = write-nothing-good K W h B k;
      led = λ _. masked-none W K h k;
    };
    held = λ k a b _ r. Listing.held_same K h B a b r.counts;
    needs = λ k d a b _ _ r. Listing.needs-same K h B W writers k a b r.counts d;
    meets = λ k d a b a' b' _ _ r r' n.
        meets-same K h B W writers laws based k d a a' b b' r.counts r'.counts
        r.good.good r.good.listed r'.good.listed n;
    merge = λ k a a' b b' _ r r'. stands-merge k a a' b b' r r';
  }

pub counted-related : {W K : ℕ} {h : History} {B : Base} {scope : Items} {p : Place Version}
    {c : Place BookCopy} → Counted K h B p c → Masked W K h B p c → ClosedIn K W h B scope c
    → Related K (StandsFor W K h B) p c
counted-related e m cut k l =
    record { counts = e k l; good = cut.good k l; led = λ q. m q k l }
