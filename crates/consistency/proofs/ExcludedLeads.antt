-- Who leads in a copy (CR 3), on small histories: as computed, in the paper's words, and what a
-- mask must not say.
-- rivals-lead, second-leads, alone-leads: who does. behind-fails, absent-fails: who doesn't.
-- first-fails: by the last save. union-fails, union-differs, one-fails: masks that name one too
-- many or too few.
-- Assumes nothing.
use mathlib.Core.Path.{◌≡◌, refl, sym, ap, ◌∙◌}
use mathlib.Core.Bool.{false, ◌&&◌, So, false≢true}
use mathlib.Core.Logic.{◌≢◌}
use mathlib.Core.List.{[], ◌∷◌}
use Prim.Native.Nat.{ℕ, zero, suc, ◌≤◌, ◌<◌}
use native.Mathlib.Omega.{arith}
use Rattle.words.specs.Tests.{none, any_below, only}
use Rattle.words.specs.Numbers.{largest, when}
use Rattle.words.proofs.Bools.{and_left, and_right, eqb-eq}
use Rattle.masks.specs.Mask.{test_bit, with_bit, with_if, mask_below}
use Rattle.masks.proofs.Bits.{test_low}
use Rattle.model.specs.Version.{zero_past}
use Rattle.history.specs.History.{Issue, History, writer_of, saved, read_by, leads, in_past, HappensBefore, HappensBefore.together, HappensBefore.was_read_of, HappensBefore.chain}
use Rattle.history.specs.Copies.{Copy, last_in, by_writer, last_by, behind_other, leading}
use Rattle.history.proofs.Notions.{Sound}
use Rattle.history.proofs.Sounds.{sound_empty, sound-issue}
use Rattle.history.proofs.Behind.{before-past, before-order}
use Rattle.consistency.specs.Leading.{Leads, LedAs}

-- ---- the histories: sheet 0 saved twice

-- Writer w saves the sheets of S; its run had read sheet 0 in the version of copy c.
abbrev saving : ℕ → ℕ → Copy → Issue
saving w S c = record
    { writer = w; keys = test_bit S; read = λ d i. only 0 d && c i; rows = zero_past }

-- By writer 0, then by writer 1, who has not seen the first, or has.
abbrev unseen : History
unseen = saving 1 1 none ∷ saving 0 1 none ∷ []

abbrev seen : History
seen = saving 1 1 (only 0) ∷ saving 0 1 none ∷ []

-- Both by writer 0.
abbrev twice : History
twice = saving 0 1 none ∷ saving 0 1 none ∷ []

-- Once, together with sheet 1.
abbrev pair : History
pair = saving 0 3 none ∷ []

-- The copy with both saves.
abbrev both : Copy
both = test_bit 3

-- It has no other.
both-cases {ℓ} : (P : ℕ → Type ℓ) → P 0 → P 1 → (i : ℕ) → So (both i) → P i
both-cases P x y i p = go i (test_low 3 2 i (omega arith) p)
  where
    go : (i : ℕ) → i < 2 → P i
    go zero l = x
    go (suc zero) l = y
    go (suc (suc i)) l = absurd (omega arith)

-- ---- as computed

pub record Computed : Type 0 where
  pub rivals : mask_below 2 (leading 1 unseen 0 both) ≡ 3
  pub second : mask_below 2 (leading 1 seen 0 both) ≡ 2
  -- In the copy without the second save the first one leads.
  pub first : mask_below 2 (leading 1 seen 0 (only 0)) ≡ 1
  pub again : mask_below 2 (leading 1 twice 0 both) ≡ 1
  pub alone : mask_below 2 (leading 2 pair 0 (only 0)) ≡ 1
  pub nobody : mask_below 2 (leading 1 seen 0 none) ≡ 0

pub computed : Computed
unfolding any_below only largest when test_bit with_bit with_if mask_below writer_of leads in_past
    last_in by_writer last_by behind_other leading
computed = record {
  rivals = refl;
  second = refl;
  first = refl;
  again = refl;
  alone = refl;
  nobody = refl;
}

-- ---- in the paper's words

-- Writer 0 saves sheet 0, then writer w, having read at most the first save.
two-sound : (w : ℕ) (c : Copy) → w < 2 → ((j : ℕ) → So (c j) → j ≡ 0)
    → Sound 1 2 (saving w 1 c ∷ saving 0 1 none ∷ [])
unfolding test_bit saved only
two-sound w c lw only-first =
    sound-issue 1 2 (saving w 1 c) (saving 0 1 none ∷ [])
    (sound-issue 1 2 (saving 0 1 none) [] (sound_empty 1 2) (omega arith) low (0, refl)
    (λ d j p. absurd (false≢true (and_right (only 0 d) false p))))
    lw low (0, refl) first
  where
    low : (d : ℕ) → So (test_bit 1 d) → d < 1
    low d p = test_low 1 1 d (omega arith) p

    first : (d j : ℕ) → So (only 0 d && c j)
        → (d < 1) × (j < 1) × So (saved (saving 0 1 none ∷ []) d j)
    first d j p =
        let d-is : d ≡ 0 = eqb-eq d 0 (and_left (only 0 d) (c j) p) in
        let j-is = only-first j (and_right (only 0 d) (c j) p) in
        (omega arith, omega arith, rw (d-is, j-is) refl)

-- Two rivals lead: neither save stands behind the other,
pub rivals-lead : Leads unseen 0 both 0 × Leads unseen 0 both 1
unfolding any_below only test_bit writer_of leads in_past
rivals-lead = (
  record {
    last = 0;
    included = refl;
    own = refl;
    latest = both-cases (λ i. writer_of unseen i ≡ 0 → i ≤ 0) (λ _. omega arith)
        (λ e. let z : ◌≡◌ {A = ℕ} 1 0 = e in absurd (omega (arith, z)));
    free = both-cases (λ i. i ≢ 0 → ¬ (HappensBefore unseen 0 0 0 i)) (λ n _. n refl)
        (λ _ b. false≢true (before-past sound b));
  },
  record {
    last = 1;
    included = refl;
    own = refl;
    latest = both-cases (λ i. writer_of unseen i ≡ 1 → i ≤ 1) (λ _. omega arith) (λ _. omega
        arith);
    free = both-cases (λ i. i ≢ 1 → ¬ (HappensBefore unseen 0 1 0 i))
        (λ _ b. absurd (omega (arith, before-order sound b))) (λ n _. n refl);
  },
)
  where
    sound : Sound 1 2 unseen
    sound = two-sound 1 none (omega arith) (λ j p. absurd (false≢true p))

-- and by the second alone, where it has seen the first.
pub second-leads : Leads seen 0 both 1
unfolding only test_bit writer_of
second-leads = record {
  last = 1;
  included = refl;
  own = refl;
  latest = both-cases (λ i. writer_of seen i ≡ 1 → i ≤ 1) (λ _. omega arith) (λ _. omega arith);
  free = both-cases (λ i. i ≢ 1 → ¬ (HappensBefore seen 0 1 0 i))
      (λ _ b. absurd (omega (arith, before-order sound b))) (λ n _. n refl);
}
  where
    sound : Sound 1 2 seen
    sound = two-sound 1 (only 0) (omega arith) (λ j p. eqb-eq j 0 p)

pub behind-fails : ¬ (Leads seen 0 both 0)
unfolding only test_bit writer_of saved read_by
behind-fails L =
    let first = both-cases (λ i. writer_of seen i ≡ 0 → i ≡ 0) (λ _. refl)
    (λ e. let z : ◌≡◌ {A = ℕ} 1 0 = e in absurd (omega (arith, z))) L.last L.included
    L.own in
    let behind : HappensBefore seen 0 0 0 1 = was_read_of {i = 1} (omega arith) refl refl in
    L.free 1 refl (λ e. absurd (omega (arith, e, first))) (rw first behind)

-- A writer without a save in the copy doesn't lead.
pub absent-fails : ¬ (Leads unseen 0 (only 0) 1)
unfolding only writer_of
absent-fails L =
    let first : L.last ≡ 0 = eqb-eq L.last 0 L.included in
    let z : ◌≡◌ {A = ℕ} 0 1 = ap (writer_of unseen) (sym first) ∙ L.own in
    absurd (omega (arith, z))

-- One who has saved twice leads by the second save.
pub first-fails : (L : Leads twice 0 both 0) → L.last ≡ 1
unfolding test_bit writer_of
first-fails L =
    let least = L.latest 1 refl refl in
    let low = test_low 3 2 L.last (omega arith) L.included in
    omega arith

-- A save of two sheets stands behind itself, by a chain through the other one; it leads all the
-- same, since that is no other save.
pub alone-leads : HappensBefore pair 0 0 0 0 × Leads pair 0 (only 0) 0
unfolding only test_bit saved writer_of
alone-leads = (
  chain (together {d = 0} {e = 1} {i = 0} (omega arith) refl refl (λ e. omega (arith, e)))
      (together {d = 1} {e = 0} {i = 0} (omega arith) refl refl (λ e. omega (arith, e))),
  record {
    last = 0;
    included = refl;
    own = refl;
    latest = λ i p _. let e : i ≡ 0 = eqb-eq i 0 p in omega arith;
    free = λ i p n _. n (eqb-eq i 0 p);
  },
)

-- ---- masks

-- The union of the masks, where the second has seen the first: by words, and as computed.
pub union-fails : ¬ (LedAs 2 1 seen 0 3 both)
unfolding test_bit
union-fails M = behind-fails ((M.leads 0 (omega arith)).0 refl)

pub union-differs : ¬ (LedAs 2 1 seen 0 3 both)
union-differs M =
    let e = M.mask ∙ computed.second in
    absurd (omega (arith, e))

-- A mask that leaves out a rival.
pub one-fails : ¬ (LedAs 2 1 unseen 0 2 both)
unfolding test_bit
one-fails M = false≢true ((M.leads 0 (omega arith)).1 rivals-lead.0)
