-- Each area of a written store, between what stands before and behind it.
-- AreaOf: an area, whatever stands in it. put-area: a store of words into an area, as a change of
-- the store. put-row-part: one within a part of a row. ..-area: the five areas.
-- Assumes nothing.
use mathlib.Core.Path.{◌≡◌, refl, sym, ap, ◌∙◌}
use mathlib.Core.List.{List, ◌++◌, append_assoc}
use Prim.Native.Nat.{ℕ, ◌+◌, ◌*◌, ◌≤◌, ◌<◌}
use native.Mathlib.Omega.{arith}
use lib.ListN.{length, drop, length-append}
use lib.Seq.{sets}
use Rattle.words.specs.Lists.{blocks, put_at}
use Rattle.words.proofs.Stores.{sets-left, sets_behind}
use Rattle.sizes.specs.Bounds.{master_at, sites_at, writers_at, runs_at, tail_at, total_of}
use Rattle.model.specs.Store.{Writer, Run, Store, with_master, with_sites, with_tail_of}
use Rattle.layout.specs.Words.{header_words, place_words, sites_words, writers_words, runs_words, tail_words, store_words}
use Rattle.layout.specs.Buffer.{written}
use Rattle.layout.proofs.Codec.{Laws, many-part, many-room}
use Rattle.layout.proofs.Whole.{to_master, to_sites, to_writers, to_runs, header-long, master-long, sites_long, writers-long, runs-long}

-- A store into the middle one of three lists.
sets-area : (a b c x : List ℕ) (at i : ℕ) → length a ≡ at → i + length x ≤ length b
    → sets (a ++ b ++ c) (at + i) x ≡ a ++ sets b i x ++ c
sets-area a b c x at i e h =
    rw (← e)
    (sets-left x (a ++ b) c (length a + i) (rw length-append (omega arith))
    ∙ ap (λ (t : List ℕ). t ++ c) (sets_behind a b x i h))

-- An area from index at on: `changed a` is the store with a in it, and whatever a is, the same
-- words stand before and behind it.
pub record AreaOf (l : List ℕ) {A : Type 0} (words : A → List ℕ) (at : ℕ)
    (changed : A → Store) : Type 0 where
  pub before : List ℕ
  pub behind : List ℕ
  pub long : length before ≡ at
  pub split : (a : A) → written (changed a) l ≡ before ++ words a ++ behind

-- What a store of words does to the area, it does to the store.
pub put-area : {l : List ℕ} {A : Type 0} {words : A → List ℕ} {at : ℕ} {changed : A → Store}
    → AreaOf l words at changed → (a b : A) (i : ℕ) (x : List ℕ) → i + length x ≤ length (words a)
    → sets (words a) i x ≡ words b
    → sets (written (changed a) l) (at + i) x ≡ written (changed b) l
put-area {words = words} {at = at} area a b i x h e =
    ap (λ (t : List ℕ). sets t (at + i) x) (area.split a)
    ∙ sets-area area.before (words a) area.behind x at i area.long h
    ∙ ap (λ (t : List ℕ). area.before ++ t ++ area.behind) e
    ∙ sym (area.split b)

-- And what it does to a part, where the area is a row of parts.
pub put-row-part : {l : List ℕ} {A : Type 0} {v : ℕ} {words : A → List ℕ} {read : List ℕ → ℕ → A}
    {Fit : A → Type 0} {at n : ℕ} {changed : (ℕ → A) → Store} → Laws v words read Fit
    → AreaOf l (λ f. blocks n (λ i. words (f i))) at changed
    → (f : ℕ → A) (k i : ℕ) (x : List ℕ) (b : A) → k < n → i + length x ≤ v
    → sets (words (f k)) i x ≡ words b
    → sets (written (changed f) l) (at + k * v + i) x ≡ written (changed (put_at f k b)) l
put-row-part {l} {v = v} {at = at} {n = n} {changed = changed} L area f k i x b h j e =
    let g : at + k * v + i ≡ at + (k * v + i) = omega arith in
    ap (λ (m : ℕ). sets (written (changed f) l) m x) g
    ∙ put-area area f (put_at f k b) (k * v + i) x (many-room n L f k i x h j)
    (many-part n L f k i x b h j e)

-- ---- the areas

-- The words behind each area.
abbrev after_tail : Store → List ℕ → List ℕ
after_tail s l = drop (total_of s.counts) l

abbrev after_runs : Store → List ℕ → List ℕ
after_runs s l = tail_words s.counts s.tail ++ after_tail s l

abbrev after_writers : Store → List ℕ → List ℕ
after_writers s l = runs_words s.counts s.run ++ after_runs s l

abbrev after_sites : Store → List ℕ → List ℕ
after_sites s l = writers_words s.counts s.writer ++ after_writers s l

abbrev after_master : Store → List ℕ → List ℕ
after_master s l = sites_words s.counts s.site ++ after_sites s l

-- A store with other writers, and one with other runs.
abbrev pub with_writers : Store → (ℕ → Writer) → Store
with_writers s f = record {
  counts = s.counts;
  last = s.last;
  master = s.master;
  site = s.site;
  writer = f;
  run = s.run;
  tail = s.tail;
}

abbrev pub with_runs : Store → (ℕ → Run) → Store
with_runs s f = record {
  counts = s.counts;
  last = s.last;
  master = s.master;
  site = s.site;
  writer = s.writer;
  run = f;
  tail = s.tail;
}

pub master-area : (s : Store) (l : List ℕ)
    → AreaOf l (place_words s.counts) (master_at s.counts) (with_master s)
unfolding with_master written store_words
master-area s l = record {
  before = header_words s.counts s.last;
  behind = after_master s l;
  long = header-long s;
  split = λ p. simp append_assoc;
}

pub sites-area : (s : Store) (l : List ℕ)
    → AreaOf l (sites_words s.counts) (sites_at s.counts) (with_sites s)
unfolding with_sites written store_words to_master
sites-area s l = record {
  before = to_master s;
  behind = after_sites s l;
  long = master-long s;
  split = λ f. simp append_assoc;
}

pub writers-area : (s : Store) (l : List ℕ)
    → AreaOf l (writers_words s.counts) (writers_at s.counts) (with_writers s)
unfolding written store_words to_master to_sites
writers-area s l = record {
  before = to_sites s;
  behind = after_writers s l;
  long = sites_long s;
  split = λ f. simp append_assoc;
}

pub runs-area : (s : Store) (l : List ℕ)
    → AreaOf l (runs_words s.counts) (runs_at s.counts) (with_runs s)
unfolding written store_words to_master to_sites to_writers
runs-area s l = record {
  before = to_writers s;
  behind = after_runs s l;
  long = writers-long s;
  split = λ f. simp append_assoc;
}

pub tail-area : (s : Store) (l : List ℕ)
    → AreaOf l (tail_words s.counts) (tail_at s.counts) (with_tail_of s)
unfolding with_tail_of written store_words to_master to_sites to_writers to_runs
tail-area s l = record {
  before = to_runs s;
  behind = after_tail s l;
  long = runs-long s;
  split = λ t. refl;
}
