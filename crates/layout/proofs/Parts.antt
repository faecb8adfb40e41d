-- The laws of each part of the store but the runs (Runs) and the tail (Tail).
-- Fit..: nothing of the part stands outside of the counts. ..-laws: its words are read back.
-- Assumes nothing.
use mathlib.Core.Path.{◌≡◌, refl, sym, ap, ap₂, ◌∙◌, subst}
use mathlib.Core.List.{List, [], ◌∷◌, ◌++◌}
use Prim.Native.Nat.{ℕ, ◌+◌, ◌*◌}
use native.Mathlib.Nat.{mul-one}
use native.Mathlib.Omega.{arith}
use lib.ListN.{get_or, length-append}
use Rattle.words.specs.Lists.{window, upto}
use Rattle.words.proofs.Lists.{append-same, window-add, window-cons}
use Rattle.clock.specs.Clock.{Clock}
use Rattle.sizes.specs.declared.Counts.{Counts}
use Rattle.sizes.specs.Bounds.{past_size, version_size, place_size, site_size, writer_size}
use Rattle.model.specs.Algebra.{Place}
use Rattle.model.specs.Version.{Version, unheld}
use Rattle.model.specs.Store.{Writer, Site, no_writer, no_site}
use Rattle.model.proofs.Merges.{version-path}
use Rattle.layout.specs.Words.{clock_words, past_words, version_words, place_words, site_words, sites_words, writer_words, writers_words}
use Rattle.layout.specs.Reading.{read_word_of, read_clock, read_past_of, read_version, read_place, read_site, read_writer}
use Rattle.layout.proofs.Codec.{Laws, FitMany, many}
use Rattle.layout.proofs.Jobs.{cons_same}

-- ---- words

-- Any number.
pub record Any (x : ℕ) : Type 0 where

pub word_laws : Laws 1 (λ x. x ∷ []) read_word_of Any
unfolding window
word_laws = record {
  long = λ a. refl;
  round = λ l at. refl;
  fits = λ l at. record {};
  same = λ a b _ _ e. (cons_same a b [] [] e).0;
}

-- ---- pasts

abbrev pub FitClock : Counts → Clock → Type 0
FitClock z = FitMany z.writers 0 Any

abbrev pub FitPast : Counts → (ℕ → Clock) → Type 0
FitPast z = FitMany z.keys (λ w. 0) (FitClock z)

pub clock-laws : (z : Counts) → Laws z.writers (clock_words z) (read_clock z) (FitClock z)
unfolding clock_words read_clock
clock-laws z =
    subst (λ (n : ℕ). Laws n (clock_words z) (read_clock z) (FitClock z)) (mul-one z.writers)
    (many z.writers word_laws 0)

pub past-laws : (z : Counts) → Laws (past_size z) (past_words z) (read_past_of z) (FitPast z)
unfolding past_size past_words read_past_of
past-laws z = many z.keys (clock-laws z) (λ w. 0)

-- A number and a past.
numbered-round : (z : Counts) (l : List ℕ) (at : ℕ)
    → read_word_of l at ∷ past_words z (read_past_of z l (at + 1)) ≡ window l at (1 + past_size z)
numbered-round z l at =
    ap (λ (t : List ℕ). read_word_of l at ∷ t) ((past-laws z).round l (at + 1))
    ∙ window-cons l at (past_size z)

numbered-same : (z : Counts) (m n : ℕ) (a b : ℕ → Clock) → FitPast z a → FitPast z b
    → m ∷ past_words z a ≡ n ∷ past_words z b → (m ≡ n) × (a ≡ b)
numbered-same z m n a b F G e =
    let c = cons_same m n (past_words z a) (past_words z b) e in
    (c.0, (past-laws z).same a b F G c.1)

-- ---- versions and places

pub record FitVersion (z : Counts) (v : Version) : Type 0 where
  pub past : FitPast z v.past

pub version-laws : (z : Counts)
    → Laws (version_size z) (version_words z) (read_version z) (FitVersion z)
unfolding version_size version_words read_version
version-laws z = record {
  long = λ v. omega (arith, (past-laws z).long v.past);
  round = λ l at.
      let e : at + 2 ≡ at + 1 + 1 = omega arith in
      let o : 2 + past_size z ≡ 1 + (1 + past_size z) = omega arith in
      rw (e, o) (ap (λ (t : List ℕ). read_word_of l at ∷ t) (numbered-round z l (at + 1))
      ∙ window-cons l at (1 + past_size z));
  fits = λ l at. record { past = (past-laws z).fits l (at + 2) };
  same = λ a b F G e.
      let c = cons_same a.issue b.issue (a.leaders ∷ past_words z a.past)
      (b.leaders ∷ past_words z b.past) e in
      let d = numbered-same z a.leaders b.leaders a.past b.past F.past G.past
      c.1 in
      version-path c.0 d.0 d.1;
}

abbrev pub FitPlace : Counts → Place Version → Type 0
FitPlace z = FitMany z.keys unheld (FitVersion z)

pub place-laws : (z : Counts) → Laws (place_size z) (place_words z) (read_place z) (FitPlace z)
unfolding place_size place_words read_place
place-laws z = many z.keys (version-laws z) unheld

-- ---- sites

pub record FitSite (z : Counts) (x : Site) : Type 0 where
  pub cache : FitPlace z x.cache

-- The words behind a cache.
two-words : (l : List ℕ) (at : ℕ) → get_or l at 0 ∷ get_or l (at + 1) 0 ∷ [] ≡ window l at 2
two-words l at =
    ap (λ (t : List ℕ). get_or l at 0 ∷ t) (word_laws.round l (at + 1)) ∙ window-cons l at 1

pub site-laws : (z : Counts) → Laws (site_size z) (site_words z) (read_site z) (FitSite z)
unfolding site_size site_words read_site
site-laws z =
    let L = place-laws z in
    record {
      long = λ x. rw (length-append, L.long x.cache) (omega arith);
      round = λ l at.
          ap₂ ◌++◌ (L.round l at) (two-words l (at + place_size z))
          ∙ sym (window-add l at (place_size z) 2);
      fits = λ l at. record { cache = L.fits l at };
      same = λ a b F G e.
          let d = append-same _ _ _ _ (L.long a.cache ∙ sym (L.long b.cache)) e in
          let p = L.same a.cache b.cache F.cache G.cache d.0 in
          let q = cons_same _ _ _ _ d.1 in
          let r = cons_same _ _ _ _ q.1 in
          λ i. record { cache = p i; stale = q.0 i; allowance = r.0 i };
    }

abbrev pub FitSites : Counts → (ℕ → Site) → Type 0
FitSites z = FitMany z.sites no_site (FitSite z)

abbrev read_sites : Counts → List ℕ → ℕ → ℕ → Site
read_sites z l at = upto z.sites no_site (λ o. read_site z l (at + o * site_size z))

pub sites-laws : (z : Counts)
    → Laws (z.sites * site_size z) (sites_words z) (read_sites z) (FitSites z)
unfolding sites_words
sites-laws z = many z.sites (site-laws z) no_site

-- ---- writers

pub record FitWriter (z : Counts) (x : Writer) : Type 0 where
  pub past : FitPast z x.past

pub writer-laws : (z : Counts) → Laws (writer_size z) (writer_words z) (read_writer z) (FitWriter
    z)
unfolding writer_size writer_words read_writer
writer-laws z = record {
  long = λ x. omega (arith, (past-laws z).long x.past);
  round = numbered-round z;
  fits = λ l at. record { past = (past-laws z).fits l (at + 1) };
  same = λ a b F G e.
      let c = numbered-same z a.count b.count a.past b.past F.past G.past e in
      let p = c.0 in let q = c.1 in λ i. record { count = p i; past = q i };
}

abbrev pub FitWriters : Counts → (ℕ → Writer) → Type 0
FitWriters z = FitMany z.writers no_writer (FitWriter z)

abbrev read_writers : Counts → List ℕ → ℕ → ℕ → Writer
read_writers z l at = upto z.writers no_writer (λ w. read_writer z l (at + w * writer_size z))

pub writers-laws : (z : Counts)
    → Laws (z.writers * writer_size z) (writers_words z) (read_writers z) (FitWriters z)
unfolding writers_words
writers-laws z = many z.writers (writer-laws z) no_writer
