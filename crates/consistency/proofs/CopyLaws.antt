-- What is asked of copies, whatever a write in them is, and cuts by that.
-- Writes: what is in a copy, and what is in it or behind it. CopyLaws: an algebra's tests and its
-- merge by these. CopyCut: a cut within a scope of keys. PartIn: a place within another.
-- cut-..: what a cut gives. empty-cut: no copies.
-- Assumes nothing.
use mathlib.Core.Bool.{So}
use mathlib.Core.Logic.{◌⊎◌, ◌↔◌, ◌≢◌}
use Prim.Native.Nat.{ℕ, ◌<◌}
use Rattle.words.specs.Tests.{Items}
use Rattle.model.specs.Algebra.{Algebra, Place, empty, everything, needs_met, causal_cut, overlapping_cut}
use Rattle.model.proofs.Cuts.{needs_met-intro, overlapping_cut-intro}

pub record Writes (A : Type 0) : Type 1 where
  pub Write : Type 0
  -- what a copy of a key can be
  pub good : ℕ → A → Type 0
  -- a write of key k is in a copy of it
  pub includes : ℕ → A → Write → Type 0
  -- a write of key d is in a copy, or stands behind one in it
  pub behind : ℕ → A → Write → Type 0

pub record CopyLaws {A : Type 0} (alg : Algebra A) (S : Writes A) : Type 0 where
  -- Held: some write is in it.
  pub held : (k : ℕ) (c : A) → S.good k c
      → So (alg.held c) ↔ ((x : S.Write) × S.includes k c x)
  -- What has a write behind it is held.
  pub behind-held : (k d : ℕ) (c : A) (x : S.Write) → S.good k c → S.behind d c x
      → So (alg.held c)
  -- "A copy needs another sheet d if saves of d stand behind any of it."
  pub needs : (k d : ℕ) (c : A) (x : S.Write) → d ≢ k → S.behind d c x → So (alg.needs k c d)
  -- "a copy of d meets that if it has all these"
  pub meets : (d : ℕ) (b c : A)
      → So (alg.meets d b c) ↔ ((x : S.Write) → S.behind d c x → S.includes d b x)
  -- "empty if not held"
  pub nothing-good : (k : ℕ) → S.good k alg.nothing
  pub nothing_in : (k : ℕ) (x : S.Write) → S.includes k alg.nothing x → ⊥
  pub nothing-behind : (d : ℕ) (x : S.Write) → S.behind d alg.nothing x → ⊥
  -- "Merge is union."
  pub merge-good : (k : ℕ) (a b : A) → S.good k a → S.good k b → S.good k (alg.merge k a b)
  pub merge_in : (k : ℕ) (a b : A) (x : S.Write)
      → S.includes k (alg.merge k a b) x ↔ (S.includes k a x ⊎ S.includes k b x)
  pub merge-behind : (k d : ℕ) (a b : A) (x : S.Write) → S.behind d (alg.merge k a b) x
      → S.behind d a x ⊎ S.behind d b x

-- Copies that can be such, none of a key outside of the scope, and each write of the scope that is
-- in or behind one is in the copy of its key.
pub record CopyCut {A : Type 0} (S : Writes A) (K : ℕ) (scope : Items) (p : Place A) : Type 0 where
  pub good : (k : ℕ) → k < K → S.good k (p k)
  pub within : (k : ℕ) (x : S.Write) → k < K → S.includes k (p k) x → So (scope k)
  pub closed : (k d : ℕ) (x : S.Write) → k < K → d < K → So (scope d) → S.behind d (p k) x
      → S.includes d (p d) x

-- Below K, every write in p is in q.
abbrev pub PartIn : {A : Type 0} → Writes A → ℕ → Place A → Place A → Type 0
PartIn S K p q = (d : ℕ) (x : S.Write) → d < K → S.includes d (p d) x → S.includes d (q d) x

module _ {A : Type 0} {alg : Algebra A} {S : Writes A} (L : CopyLaws alg S) {K : ℕ} where
  -- ---- a cut by the tests of the model

  cut-needs_met : {scope : Items} {p : Place A} → CopyCut S K scope p
      → So (needs_met alg K scope p)
  cut-needs_met {scope} {p} c =
      needs_met-intro alg K scope p (λ k d lk ld _ s _ _.
      (L.meets d (p d) (p k)).1 (λ x y. c.closed k d x lk ld s y))

  pub cut_overlapping : {scope : Items} {p : Place A} → CopyCut S K scope p
      → So (overlapping_cut alg K scope p)
  cut_overlapping {scope} {p} c =
      overlapping_cut-intro alg K scope p
      (λ k l y. let r = (L.held k (p k) (c.good k l)).0 y in c.within k r.0 l r.1)
      (cut-needs_met c)

  pub cut_causal : {p : Place A} → CopyCut S K everything p → So (causal_cut alg K p)
  unfolding causal_cut
  cut_causal c = cut-needs_met c

  pub empty-cut : (scope : Items) → CopyCut S K scope (empty alg)
  empty-cut scope = record {
    good = λ k _. L.nothing-good k;
    within = λ k x _ p. absurd (L.nothing_in k x p);
    closed = λ k d x _ _ _ q. absurd (L.nothing-behind d x q);
  }
