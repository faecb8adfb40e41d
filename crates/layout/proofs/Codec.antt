-- One set of laws for every kind of part, and that a row of parts has them too.
-- Laws v words read Fit: a part has v words, is read back, and is told by its words.
-- FitMany, fit-put, many: n parts in a row. many-put, many-part: a store into one of them.
-- Segment: some words of a part. two-laws: a part of two segments. into-first, into-rest: a store
-- into one of them.
-- Assumes nothing.
use mathlib.Core.Path.{◌≡◌, refl, sym, ap, ap₂, ◌∙◌, fun_ext}
use mathlib.Core.Bool.{Bool, true, false, cond}
use mathlib.Core.Logic.{⊎_elim}
use mathlib.Core.List.{List, ◌++◌}
use Prim.Native.Nat.{ℕ, ◌+◌, ◌*◌, ◌≤◌, ◌<◌}
use native.Mathlib.Nat.{add-zero}
use native.Mathlib.Omega.{arith}
use lib.Dec.{eqb}
use lib.ListN.{length, length-append}
use lib.Seq.{sets}
use Rattle.words.specs.Lists.{blocks, window, upto, put_at}
use Rattle.words.proofs.Tests.{below_or_not}
use Rattle.words.proofs.Lists.{put_at_other, put_at_cases, upto_in, upto-out, length-blocks, blocks-ext, blocks-same, append-same, window-add, window-blocks}
use Rattle.words.proofs.Stores.{sets-left, sets_behind, sets-block, sets-blocks}
use Rattle.words.proofs.Slots.{slot-end}

-- Words and reader of a part; Fit: nothing stands outside of the counts.
pub record Laws {A : Type 0} (v : ℕ) (words : A → List ℕ) (read : List ℕ → ℕ → A)
    (Fit : A → Type 0) : Type 0 where
  pub long : (a : A) → length (words a) ≡ v
  pub round : (l : List ℕ) (at : ℕ) → words (read l at) ≡ window l at v
  pub fits : (l : List ℕ) (at : ℕ) → Fit (read l at)
  pub same : (a b : A) → Fit a → Fit b → words a ≡ words b → a ≡ b

-- Parts that fit below n, and x from n on.
pub record FitMany {A : Type 0} (n : ℕ) (x : A) (Fit : A → Type 0) (f : ℕ → A) : Type 0 where
  pub each : (i : ℕ) → i < n → Fit (f i)
  pub rest : (i : ℕ) → n ≤ i → f i ≡ x

-- One part of a row changed.
pub fit-put : {A : Type 0} {n : ℕ} {x : A} {Fit : A → Type 0} (f : ℕ → A) (i : ℕ) (a : A)
    → FitMany n x Fit f → i < n → Fit a → FitMany n x Fit (put_at f i a)
fit-put {A} {n} {x} {Fit} f i a F h G = record {
  each = λ j k. put_at_cases Fit f i a j (λ _. G) (λ _. F.each j k);
  rest = λ j k. put_at_other f i a j (λ e. omega arith) ∙ F.rest j k;
}

-- The words of a row, and its reader: x stands from n on.
abbrev row_words : {A : Type 0} → ℕ → (A → List ℕ) → (ℕ → A) → List ℕ
row_words n words f = blocks n (λ i. words (f i))

abbrev read_row : {A : Type 0} → ℕ → ℕ → A → (List ℕ → ℕ → A) → List ℕ → ℕ → ℕ → A
read_row n v x read l at = upto n x (λ i. read l (at + i * v))

module _ {A : Type 0} {v : ℕ} {words : A → List ℕ} {read : List ℕ → ℕ → A} {Fit : A → Type 0}
    (n : ℕ) (L : Laws v words read Fit) where
  row_in : (x : A) (l : List ℕ) (at i : ℕ) → i < n
      → read_row n v x read l at i ≡ read l (at + i * v)
  row_in x l at i h = upto_in n x (λ i. read l (at + i * v)) i h

  part_same : (f g : ℕ → A) → row_words n words f ≡ row_words n words g → (i : ℕ) → i < n
      → words (f i) ≡ words (g i)
  part_same f g e i h =
      blocks-same n v (λ i. words (f i)) (λ i. words (g i)) (λ i. L.long (f i))
      (λ i. L.long (g i)) e i h

  -- A row of n parts has the laws.
  pub many : (x : A) → Laws (n * v) (row_words n words) (read_row n v x read) (FitMany n x Fit)
  many x = record {
    long = λ f. length-blocks n v (λ i. words (f i)) (λ i. L.long (f i));
    round = λ l at.
        blocks-ext n (λ i. words (read_row n v x read l at i)) (λ i. window l (at + i * v) v)
        (λ i h. ap words (row_in x l at i h) ∙ L.round l (at + i * v))
        ∙ window-blocks l at n v;
    fits = λ l at. record {
      each = λ i h. rw (row_in x l at i h) (L.fits l (at + i * v));
      rest = λ i h. upto-out n x (λ i. read l (at + i * v)) i h;
    };
    same = λ f g F G e. fun_ext (λ i. ⊎_elim
        (λ h. L.same (f i) (g i) (F.each i h) (G.each i h) (part_same f g e i h))
        (λ h. F.rest i h ∙ sym (G.rest i h)) (below_or_not i n));
  }

  put-words : (f : ℕ → A) (k : ℕ) (a : A) (i : ℕ)
      → put_at (λ i. words (f i)) k (words a) i ≡ words (put_at f k a i)
  unfolding put_at
  put-words f k a i = go (eqb i k)
    where
      go : (b : Bool) → cond b (words a) (words (f i)) ≡ words (cond b a (f i))
      go true = refl
      go false = refl

  row_put : (f : ℕ → A) (k : ℕ) (a : A)
      → blocks n (put_at (λ i. words (f i)) k (words a)) ≡ row_words n words (put_at f k a)
  row_put f k a =
      blocks-ext n (put_at (λ i. words (f i)) k (words a)) (λ i. words (put_at f k a i))
      (λ i _. put-words f k a i)

  -- One part of a row is stored.
  pub many-put : (f : ℕ → A) (k : ℕ) (a : A) → k < n
      → sets (row_words n words f) (k * v) (words a) ≡ row_words n words (put_at f k a)
  many-put f k a h =
      sets-block n v (λ i. words (f i)) (λ i. L.long (f i)) k (words a) h (L.long a)
      ∙ row_put f k a

  -- A store within one part of a row, where it makes the part b of it.
  pub many-part : (f : ℕ → A) (k i : ℕ) (x : List ℕ) (b : A) → k < n → i + length x ≤ v
      → sets (words (f k)) i x ≡ words b
      → sets (row_words n words f) (k * v + i) x ≡ row_words n words (put_at f k b)
  many-part f k i x b h j e =
      sets-blocks n v (λ i. words (f i)) (λ i. L.long (f i)) k i x h j ∙ rw e (row_put f k b)

  -- The row has room for it.
  pub many-room : (f : ℕ → A) (k i : ℕ) (x : List ℕ) → k < n → i + length x ≤ v
      → k * v + i + length x ≤ length (row_words n words f)
  many-room f k i x h j =
      rw (length-blocks n v (λ i. words (f i)) (λ i. L.long (f i)))
      (omega (arith, slot-end k n v h))

-- ---- a part of two segments

-- The v words of a part from offset i on; Same: what they tell of it.
pub record Segment {A : Type 0} (i v : ℕ) (words : A → List ℕ) (read : List ℕ → ℕ → A)
    (Fit : A → Type 0) (Same : A → A → Type 0) : Type 0 where
  pub long : (a : A) → length (words a) ≡ v
  pub round : (l : List ℕ) (at : ℕ) → words (read l at) ≡ window l (at + i) v
  pub same : (a b : A) → Fit a → Fit b → words a ≡ words b → Same a b

module _ {A : Type 0} {v w : ℕ} {first rest : A → List ℕ} {read : List ℕ → ℕ → A}
    {Fit : A → Type 0} {F G : A → A → Type 0}
    (L : Segment 0 v first read Fit F) (R : Segment v w rest read Fit G) where
  -- They have the laws of a part, if a part is known by what the two tell.
  pub two-laws : ((l : List ℕ) (at : ℕ) → Fit (read l at)) → ((a b : A) → F a b → G a b → a ≡ b)
      → Laws (v + w) (λ a. first a ++ rest a) read Fit
  two-laws fits one = record {
    long = λ a. length-append (first a) (rest a) ∙ ap₂ ◌+◌ (L.long a) (R.long a);
    round = λ l at.
        ap₂ ◌++◌ (L.round l at ∙ ap (λ (j : ℕ). window l j v) (add-zero at)) (R.round l at)
        ∙ sym (window-add l at v w);
    fits = fits;
    same = λ a b p q e.
        let d = append-same (first a) (rest a) (first b) (rest b) (L.long a ∙ sym (L.long b))
        e in
        one a b (L.same a b p q d.0) (R.same a b p q d.1);
  }

  -- A store into one of them leaves the other.
  pub into-first : (a b : A) (i : ℕ) (x : List ℕ) → i + length x ≤ v
      → sets (first a) i x ≡ first b → rest a ≡ rest b
      → sets (first a ++ rest a) i x ≡ first b ++ rest b
  into-first a b i x h e f =
      sets-left x (first a) (rest a) i (omega (arith, L.long a)) ∙ ap₂ ◌++◌ e f

  pub into-rest : (a b : A) (i : ℕ) (x : List ℕ) → i + length x ≤ w → first a ≡ first b
      → sets (rest a) i x ≡ rest b
      → sets (first a ++ rest a) (v + i) x ≡ first b ++ rest b
  into-rest a b i x h e f =
      ap (λ (j : ℕ). sets (first a ++ rest a) (j + i) x) (sym (L.long a))
      ∙ sets_behind (first a) (rest a) x i (omega (arith, R.long a))
      ∙ ap₂ ◌++◌ e f
