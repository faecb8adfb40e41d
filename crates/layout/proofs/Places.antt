-- A place written at an index of a buffer, key by key.
-- place-..: the whole place. key-..: one key of it. place-run: a loop over keys.
-- Assumes nothing.
use mathlib.Core.Path.{◌≡◌, refl, sym, ap, ◌∙◌}
use mathlib.Core.Bool.{Bool, true, false, cond}
use mathlib.Core.Logic.{◌⊎◌, inl, inr, ⊎_elim}
use mathlib.Core.List.{List}
use Prim.Native.Nat.{ℕ, zero, suc, ◌+◌, ◌*◌, ◌≤◌, ◌<◌}
use native.Mathlib.Nat.{not-suc-le-zero}
use native.Mathlib.Omega.{arith}
use lib.ListN.{length}
use lib.Seq.{sets, length-sets}
use Rattle.words.specs.Tests.{Items}
use Rattle.words.specs.Numbers.{fold_below}
use Rattle.words.specs.Lists.{put_at}
use Rattle.words.proofs.Tests.{below-cases}
use Rattle.words.proofs.Lists.{upto_in, put_at_same, put_at_other, put_at_itself, blocks-ext}
use Rattle.words.proofs.Slots.{slot-end}
use Rattle.sizes.specs.declared.Counts.{Counts}
use Rattle.sizes.specs.Bounds.{version_size, place_size, key_at}
use Rattle.sizes.proofs.Offsets.{key-lies}
use Rattle.model.specs.Algebra.{Place}
use Rattle.model.specs.Version.{Version, unheld}
use Rattle.layout.specs.Words.{version_words, place_words}
use Rattle.layout.specs.Reading.{read_version, read_place}
use Rattle.layout.specs.Stored.{put_version, put_place}
use Rattle.layout.proofs.Codec.{many-put}
use Rattle.layout.proofs.Parts.{FitVersion, version-laws, place-laws}
use Rattle.layout.proofs.Windows.{part-back, part-beside, part-again, part-twice}

-- One turn of a loop over keys: key k of the place, if it is in the set, becomes what G says.
abbrev pub key_step : Counts → ℕ → Items → (ℕ → List ℕ → Version) → ℕ → List ℕ → List ℕ
key_step z at b G k l = cond (b k) (put_version z l (key_at z at k) (G k l)) l

-- ---- whole places

pub place_at_lem : (z : Counts) (l : List ℕ) (at k : ℕ) → k < z.keys
    → read_place z l at k ≡ read_version z l (key_at z at k)
unfolding read_place key_at
place_at_lem z l at k h =
    upto_in z.keys unheld (λ k. read_version z l (at + k * version_size z)) k h

pub place-again : (z : Counts) (l : List ℕ) (at : ℕ) → put_place z l at (read_place z l at) ≡ l
place-again z l at = part-again (place-laws z) l at

pub place-ext : (z : Counts) (l : List ℕ) (at : ℕ) (p q : Place Version)
    → ((k : ℕ) → k < z.keys → p k ≡ q k) → put_place z l at p ≡ put_place z l at q
unfolding place_words
place-ext z l at p q h =
    ap (sets l at) (blocks-ext z.keys (λ k. version_words z (p k)) (λ k. version_words z (q k))
    (λ k i. ap (version_words z) (h k i)))

place-long : (z : Counts) (l : List ℕ) (at : ℕ) (p : Place Version)
    → length (put_place z l at p) ≡ length l
place-long z l at p = length-sets l at (place_words z p)

-- ---- one key of a place

key-room : (z : Counts) (k : ℕ) (v : Version) → k < z.keys
    → k * version_size z + length (version_words z v) ≤ place_size z
unfolding place_size
key-room z k v h = rw ((version-laws z).long v) (slot-end k z.keys (version_size z) h)

key-stored : (z : Counts) (p : Place Version) (k : ℕ) (v : Version) → k < z.keys
    → sets (place_words z p) (k * version_size z) (version_words z v) ≡ place_words z (put_at p k
    v)
unfolding place_words
key-stored z p k v h = many-put z.keys (version-laws z) p k v h

-- Within a place, one key is stored.
pub place-key : (z : Counts) (l : List ℕ) (at : ℕ) (p : Place Version) (k : ℕ) (v : Version)
    → at + place_size z ≤ length l → k < z.keys
    → put_version z (put_place z l at p) (key_at z at k) v ≡ put_place z l at (put_at p k v)
unfolding key_at
place-key z l at p k v h i =
    part-twice (place-laws z) l at (k * version_size z) (version_words z v) p (put_at p k v) h
    (key-room z k v i) (key-stored z p k v i)

-- A key of a place that was just written, and of a place beside it.
pub key_back : (z : Counts) (l : List ℕ) (at : ℕ) (p : Place Version) (k : ℕ)
    → at + place_size z ≤ length l → FitVersion z (p k) → k < z.keys
    → read_version z (put_place z l at p) (key_at z at k) ≡ p k
key_back z l at p k h F i =
    let m = put_place z l at p in
    let long = place-long z l at p in
    let again : put_version z m (key_at z at k) (p k) ≡ m =
    place-key z l at p k (p k) h i ∙ ap (put_place z l at) (put_at_itself p k) in
    ap (λ (m : List ℕ). read_version z m (key_at z at k)) (sym again)
    ∙ part-back (version-laws z) m (key_at z at k) (p k) F
    (omega (arith, (key-lies z at k i).ends, long))

pub key-beside : (z : Counts) (l : List ℕ) (at from : ℕ) (p : Place Version) (k : ℕ)
    → (from + place_size z ≤ at) ⊎ (at + place_size z ≤ from) → k < z.keys
    → read_version z (put_place z l at p) (key_at z from k) ≡ read_place z l from k
key-beside z l at from p k d i =
    let lies = key-lies z from k i in
    let long = (place-laws z).long p in
    part-beside (version-laws z) l (place_words z p) at (key_at z from k)
    (⊎_elim (λ a. inl (omega (arith, lies.ends))) (λ a. inr (omega (arith, lies.starts))) d)
    ∙ sym (place_at_lem z l from k i)

-- ---- a loop over keys

-- The place p after n keys, those of the set b as in g.
turned : Items → Place Version → Place Version → ℕ → Place Version
turned b g p zero = p
turned b g p (suc n) = cond (b n) (put_at (turned b g p n) n (g n)) (turned b g p n)

turned-high : (b : Items) (g p : Place Version) (n k : ℕ) → n ≤ k → turned b g p n k ≡ p k
unfolding turned
turned-high b g p zero k h = refl
turned-high b g p (suc n) k h = go (b n) (turned-high b g p n k (omega arith))
  where
    go : (c : Bool) → turned b g p n k ≡ p k
        → cond c (put_at (turned b g p n) n (g n)) (turned b g p n) k ≡ p k
    go true e = put_at_other (turned b g p n) n (g n) k (λ q. omega arith) ∙ e
    go false e = e

turned-low : (b : Items) (g p : Place Version) (n k : ℕ) → k < n
    → turned b g p n k ≡ cond (b k) (g k) (p k)
unfolding turned
turned-low b g p zero k h = absurd (not-suc-le-zero h)
turned-low b g p (suc n) k h =
    below-cases k n h (λ e. rw e (last (b n))) (λ i. low (b n) i (turned-low b g p n k i))
  where
    low : (c : Bool) → k < n → turned b g p n k ≡ cond (b k) (g k) (p k)
        → cond c (put_at (turned b g p n) n (g n)) (turned b g p n) k ≡ cond (b k) (g k) (p k)
    low true i e = put_at_other (turned b g p n) n (g n) k (λ q. omega arith) ∙ e
    low false i e = e

    last : (c : Bool)
        → cond c (put_at (turned b g p n) n (g n)) (turned b g p n) n ≡ cond c (g n) (p n)
    last true = put_at_same (turned b g p n) n (g n)
    last false = turned-high b g p n n (omega arith)

-- What is written for a key, G, does not hang on the keys before it: it is g.
abbrev pub Alone : Counts → List ℕ → ℕ → (ℕ → List ℕ → Version) → Place Version → Type 0
Alone z l at G g =
    (k : ℕ) (q : Place Version) → k < z.keys → FitVersion z (q k) → q k ≡ read_place z l at k
    → G k (put_place z l at q) ≡ g k

module _ (z : Counts) (l : List ℕ) (at : ℕ) (b : Items) (G : ℕ → List ℕ → Version)
    (g : Place Version) (h : at + place_size z ≤ length l) (f : Alone z l at G g) where
  step : (q : Place Version) (n : ℕ) → n < z.keys → (c : Bool) → G n (put_place z l at q) ≡ g n
      → cond c (put_version z (put_place z l at q) (key_at z at n) (G n (put_place z l at q)))
      (put_place z l at q)
      ≡ put_place z l at (cond c (put_at q n (g n)) q)
  step q n i true e = rw e (place-key z l at q n (g n) h i)
  step q n i false e = refl

  turn : (n : ℕ) → n ≤ z.keys
      → fold_below n (key_step z at b G) l ≡ put_place z l at (turned b g (read_place z l at) n)
  unfolding fold_below turned
  turn zero i = sym (place-again z l at)
  turn (suc n) i =
      let p = read_place z l at in
      let q = turned b g p n in
      let e = turned-high b g p n n (omega arith) in
      let fit : FitVersion z (q n) = rw e (((place-laws z).fits l at).each n i) in
      ap (key_step z at b G n) (turn n (omega arith)) ∙ step q n i (b n) (f n q i fit e)

  -- For each key in turn: the place becomes what the set and g say.
  pub place-run : fold_below z.keys (key_step z at b G) l
      ≡ put_place z l at (λ k. cond (b k) (g k) (read_place z l at k))
  place-run =
      let p = read_place z l at in
      turn z.keys (omega arith)
      ∙ place-ext z l at (turned b g p z.keys) (λ k. cond (b k) (g k) (p k))
      (turned-low b g p z.keys)
