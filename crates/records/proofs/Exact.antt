-- The checker accepts exactly the records in which each issue's reads form a causal snapshot, and
-- otherwise names the first issue whose reads don't (CR 14).
-- first-..: the first number that passes. audit_anywhere: the call. audit-accepts,
-- audit-names, audit_refuses: the three answers.
-- Assumes nothing.
use mathlib.Core.Path.{◌≡◌, refl, sym, ap, ◌∙◌}
use mathlib.Core.Bool.{false, not, So}
use mathlib.Core.List.{List}
use Prim.Native.Nat.{ℕ, zero, suc, ◌≤◌, ◌<◌}
use native.Mathlib.Omega.{arith}
use native.Mathlib.Nat.{not-suc-le-zero}
use native.Mathlib.Decide.{dec_le}
use lib.ListN.{get_or}
use Rattle.words.specs.Tests.{Items}
use Rattle.words.specs.Numbers.{when}
use Rattle.words.proofs.Bools.{test, clash, eq-eqb, ne_eqb, not-intro}
use Rattle.words.proofs.Numbers.{when-yes, when-no, when-pos}
use Rattle.words.proofs.Tests.{below-cases}
use Rattle.model.specs.Outcome.{Outcome, refused, answer, refuse, unless, replied}
use Rattle.model.specs.Calls.Audit.{audit_reply}
use Rattle.layout.specs.Calls.{call_on}
use Rattle.records.specs.Format.{Record, issues_in, Readable, readable}
use Rattle.records.specs.Snapshots.{Snapshot, is_snapshot}
use Rattle.records.specs.Audit.{first_below_of, audit_number, verdict_of, audit_of, audit_call, heard}
use Rattle.records.specs.Claims.{AcceptsExactly, NamesFirst, RefusesUnreadable}
use Rattle.records.proofs.Reading.{readable-is}
use Rattle.records.proofs.Judging.{snapshot-is}

-- ---- the first number that passes

first_next : (n : ℕ) (p : Items) → first_below_of n p ≡ 0 → first_below_of (suc n) p ≡ when (p n)
    (suc n)
unfolding first_below_of
first_next n p e = rw (eq-eqb (first_below_of n p) 0 e)

first-stays : (n : ℕ) (p : Items) → 1 ≤ first_below_of n p → first_below_of (suc n) p ≡
    first_below_of n p
unfolding first_below_of
first-stays n p h = rw (ne_eqb (first_below_of n p) 0 (λ e. omega arith))

pub first-none : (n : ℕ) (p : Items) → ((i : ℕ) → i < n → p i ≡ false) → first_below_of n p ≡ 0
unfolding first_below_of
first-none zero p f = refl
first-none (suc n) p f =
    first_next n p (first-none n p (λ i l. f i (omega arith)))
    ∙ when-no (p n) (suc n) (f n (omega arith))

pub first_found : (n : ℕ) (p : Items) (i : ℕ) → i < n → So (p i)
    → ((j : ℕ) → j < i → p j ≡ false) → first_below_of n p ≡ suc i
first_found zero p i l q f = absurd (not-suc-le-zero l)
first_found (suc n) p i l q f =
    below-cases i n l
    (λ e.
    let z = first_next n p (first-none n p (λ j k. f j (omega arith))) in
    omega (arith, z, when-yes (p n) (suc n) (rw e at q)))
    (λ k.
    let z = first_found n p i k q f in
    omega (arith, z, first-stays n p (omega arith)))

pub first-same : (n : ℕ) (p q : Items) → ((i : ℕ) → i < n → p i ≡ q i)
    → first_below_of n p ≡ first_below_of n q
unfolding first_below_of
first-same zero p q f = refl
first-same (suc n) p q f =
    rw (first-same n p q (λ i l. f i (omega arith)), f n (omega arith))

-- What its value says.
pub first-zero : (n : ℕ) (p : Items) → first_below_of n p ≡ 0 → (i : ℕ) → i < n → p i ≡ false
first-zero zero p e i l = absurd (not-suc-le-zero l)
first-zero (suc n) p e i l =
    elim (dec_le 1 (first_below_of n p)) [
      | yes h ↦ absurd (omega (arith, first-stays n p h))
      | no h ↦
          let z : first_below_of n p ≡ 0 = omega arith in
          below-cases i n l
          (λ q.
          test (p i) (λ y. absurd
          (omega (arith, first_next n p z, when-yes (p n) (suc n) (rw q at y)))) (λ y. y))
          (λ k. first-zero n p z i k)
    ]

pub first-is : (n : ℕ) (p : Items) (i : ℕ) → first_below_of n p ≡ suc i
    → (i < n) × So (p i) × ((j : ℕ) → j < i → p j ≡ false)
unfolding first_below_of
first-is zero p i e = absurd (omega arith)
first-is (suc n) p i e =
    elim (dec_le 1 (first_below_of n p)) [
      | yes h ↦
          let r = first-is n p i (omega (arith, first-stays n p h)) in
          (omega arith, r.1, r.2)
      | no h ↦
          let z : first_below_of n p ≡ 0 = omega arith in
          let v = first_next n p z in
          let y = when-pos (p n) (suc n) (omega arith) in
          let q : i ≡ n = omega (arith, when-yes (p n) (suc n) y) in
          (omega arith, rw q y, λ j k. first-zero n p z j (omega arith))
    ]

-- ---- the three answers

-- The call needs no desk: on any buffer it is the record's answer.
pub audit_anywhere : (b : Record) (l : List ℕ) → call_on (audit_call b) l ≡ audit_of b
unfolding call_on audit_of
audit_anywhere b l = refl

heard-number : {m n : ℕ} → heard m ≡ heard n → m ≡ n
unfolding answer
heard-number e = ap (λ (o : Outcome). get_or (answer o) 1 0) e

refused-not : {X : Type 0} {m n : ℕ} → refused m ≡ heard n → X
unfolding answer
refused-not e =
    let z : ◌≡◌ {A = ℕ} 2 0 = ap (λ (o : Outcome). get_or (answer o) 0 0) e in absurd (omega arith)

audit-read : (b : Record) → So (readable b) → audit_of b ≡ heard (audit_number b)
unfolding audit_of replied verdict_of audit_reply refuse unless
audit-read b p = rw p

audit-unread : (b : Record) → readable b ≡ false → audit_of b ≡ refused 15
unfolding audit_of replied verdict_of audit_reply refuse unless
audit-unread b p = rw p

-- A number is told of a readable record only.
number-told : (b : Record) (n : ℕ) → audit_of b ≡ heard n → So (readable b) × (audit_number b ≡ n)
number-told b n e =
    test (readable b) (λ p. (p, heard-number (sym (audit-read b p) ∙ e)))
    (λ z. refused-not (sym (audit-unread b z) ∙ e))

-- Issue i's reads are no snapshot.
abbrev bad : Record → Items
bad b i = not (is_snapshot b i)

good_of : (b : Record) → Readable b → (i : ℕ) → i < issues_in b → bad b i ≡ false → Snapshot b i
good_of b R i l e =
    test (is_snapshot b i) (λ p. (snapshot-is R i l).0 p) (λ z. clash (not-intro z) e)

of-good : (b : Record) → Readable b → (i : ℕ) → i < issues_in b → Snapshot b i → bad b i ≡ false
of-good b R i l s = let p = (snapshot-is R i l).1 s in rw p

pub audit-accepts : AcceptsExactly
unfolding audit_number
audit-accepts b = (there, back)
  where
    there : audit_of b ≡ heard 0 → Readable b × ((i : ℕ) → i < issues_in b → Snapshot b i)
    there e =
        let t = number-told b 0 e in
        let R = (readable-is b).0 t.0 in
        (R, λ i l. good_of b R i l (first-zero (issues_in b) (bad b) t.1 i l))

    back : Readable b × ((i : ℕ) → i < issues_in b → Snapshot b i) → audit_of b ≡ heard 0
    back s =
        audit-read b ((readable-is b).1 s.0)
        ∙ ap heard (first-none (issues_in b) (bad b) (λ i l. of-good b s.0 i l (s.1 i l)))

pub audit-names : NamesFirst
unfolding audit_number
audit-names b i = (there, back)
  where
    there : audit_of b ≡ heard (suc i)
        → Readable b × (i < issues_in b) × ((j : ℕ) → j < i → Snapshot b j) × ¬ (Snapshot b i)
    there e =
        let t = number-told b (suc i) e in
        let R = (readable-is b).0 t.0 in
        let f = first-is (issues_in b) (bad b) i t.1 in (
          R,
          f.0,
          λ j k. good_of b R j (omega (arith, f.0)) (f.2 j k),
          λ s. clash f.1 (of-good b R i f.0 s),
        )

    back : Readable b × (i < issues_in b) × ((j : ℕ) → j < i → Snapshot b j) × ¬ (Snapshot b i)
        → audit_of b ≡ heard (suc i)
    back s =
        let R = s.0 in
        let no-good : So (bad b i) =
        not-intro (test (is_snapshot b i)
        (λ p. absurd (s.3 ((snapshot-is R i s.1).0 p))) (λ z. z)) in
        audit-read b ((readable-is b).1 R)
        ∙ ap heard (first_found (issues_in b) (bad b) i s.1 no-good
        (λ j k. of-good b R j (omega (arith, s.1)) (s.2 j k)))

pub audit_refuses : RefusesUnreadable
audit_refuses b = (
  λ e R. refused-not (sym e ∙ audit-read b ((readable-is b).1 R)),
  λ n.
      test (readable b) (λ p. absurd (n ((readable-is b).0 p))) (λ z. audit-unread b z),
)
