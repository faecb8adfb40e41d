-- Cuts on the book's copies, and that they stay cuts as the history grows.
-- book_writes, copy-laws: writes of later issues, and admitted ones. ClosedIn, ClosedAll: cuts.
-- closed-grow: one issue more. every-..: of all writes.
-- Assumes nothing.
use mathlib.Core.Path.{◌≡◌, refl}
use mathlib.Core.Bool.{So}
use mathlib.Core.List.{◌∷◌}
use Prim.Native.Nat.{ℕ, ◌<◌}
use Rattle.words.specs.Tests.{Items}
use Rattle.model.specs.Algebra.{Place, everything}
use Rattle.history.specs.History.{Issue, History, saved}
use Rattle.history.specs.Listing.{Base, BookCopy, book_copies}
use Rattle.history.proofs.BookWrites.{BookWrite, Includes, StandsBehind, GoodBook, write-held, write-behind-held, write-needs, write_meets, write-nothing-good, write-nothing_in, write-nothing-behind, write-merge-good, write-merge_in, write-merge-behind, write-every, write-every-behind, write-grow}
use Rattle.history.proofs.ListingIssued.{book-grown}
use Rattle.consistency.proofs.CopyLaws.{Writes, CopyLaws, CopyCut, PartIn}

-- ---- the book's copies

abbrev pub book_writes : ℕ → ℕ → History → Base → Writes BookCopy
book_writes K W h B = record {
  Write = BookWrite;
  good = GoodBook K W h B;
  includes = Includes W;
  behind = StandsBehind K W h;
}

pub copy-laws : (K W : ℕ) (h : History) (B : Base)
    → CopyLaws (book_copies K W h) (book_writes K W h B)
copy-laws K W h B = record {
  held = write-held K W h B;
  behind-held = write-behind-held K W h B;
  needs = write-needs K W h B;
  meets = write_meets K W h B;
  nothing-good = write-nothing-good K W h B;
  nothing_in = write-nothing_in K W h B;
  nothing-behind = write-nothing-behind K W h B;
  merge-good = write-merge-good K W h B;
  merge_in = write-merge_in K W h B;
  merge-behind = λ k. write-merge-behind K W h B;
}

-- A cut on copies, within a scope of keys.
abbrev pub ClosedIn : ℕ → ℕ → History → Base → Items → Place BookCopy → Type 0
ClosedIn K W h B scope p = CopyCut (book_writes K W h B) K scope p

-- A causal cut on copies.
abbrev pub ClosedAll : ℕ → ℕ → History → Base → Place BookCopy → Type 0
ClosedAll K W h B p = ClosedIn K W h B everything p

-- ---- one issue more

pub closed-grow : {K W : ℕ} {h : History} {B : Base} {scope : Items} {p : Place BookCopy}
    → ClosedIn K W h B scope p → (e : Issue) → ClosedIn K W (e ∷ h) B scope p
closed-grow {K} {W} {h} {B} {scope} {p} c e = record {
  good = λ k l. book-grown K W e h B k (p k) (c.good k l);
  within = c.within;
  closed = λ k d x lk ld s y.
      c.closed k d x lk ld s
      (write-grow K W e h d (p k) (λ i q. ((c.good k lk).good.writes i q).0) x y);
}

-- ---- a place that has every write: the master

module _ {K W : ℕ} {h : History} {B : Base} (m : Place BookCopy)
    (all : (d i : ℕ) → d < K → So (saved h d i) → So ((m d).later i))
    (rows : (d : ℕ) → d < K → (m d).rows d ≡ B.saves d) where
  pub every-part : {scope : Items} {p : Place BookCopy} → ClosedIn K W h B scope p
      → PartIn (book_writes K W h B) K p m
  every-part {p = p} c d x l q =
      write-every K W h B d (m d) (p d) (λ i. all d i l) (rows d l) (c.good d l) x q

  pub every-closed : ((k : ℕ) → k < K → GoodBook K W h B k (m k)) → ClosedAll K W h B m
  every-closed good = record {
    good = good;
    within = λ d x _ _. refl;
    closed = λ k d x lk ld _ y.
        write-every-behind K W h B k d (m d) (m k) (λ i. all d i ld) (rows d ld) (good k lk) x y;
  }
