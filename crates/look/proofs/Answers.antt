-- What a look comes to on a buffer.
-- area_in, held_in, cause-in: what the tests rest on. Found, found: the version is there.
-- standing-in: how it stands. Says: what the answer shows, and which row it has; look-refused,
-- look-done. row_lies. few-shown: how many words.
-- Assumes nothing.
use mathlib.Core.Path.{◌≡◌, refl, sym, ap, ◌∙◌}
use mathlib.Core.Bool.{not, So}
use mathlib.Core.Logic.{◌≢◌}
use mathlib.Core.List.{List, [], ◌∷◌}
use Prim.Native.Nat.{ℕ, ◌<◌, ◌≤◌}
use native.Mathlib.Omega.{arith}
use lib.Dec.{eqb, leb}
use lib.ListN.{length, get_or, length-append}
use Rattle.words.specs.Lists.{window}
use Rattle.words.proofs.Bools.{test, leb-gt, eqb-eq, eqb-ne}
use Rattle.clock.specs.declared.Standing.{Standing}
use Rattle.clock.specs.Clock.{standing, standing_number, clock_at}
use Rattle.sizes.specs.declared.Counts.{Counts}
use Rattle.sizes.specs.Bounds.{master_at, key_at, row_at}
use Rattle.numbers.specs.declared.IssueNumber.{IssueNumber}
use Rattle.model.specs.Version.{Version, held}
use Rattle.model.specs.Outcome.{refused, told, answer, refuse}
use Rattle.model.specs.Calls.Look.{place_kinds, look_place, look_limit, look_cause, look_standing, look_numbers, look_reply}
use Rattle.model.specs.Calls.{look, ask, reply_of}
use Rattle.layout.specs.Reading.{read_word_of, read_version, read_place, counts_in, store_of}
use Rattle.layout.specs.Buffer.{in_form}
use Rattle.layout.specs.Calls.{on, call_on}
use Rattle.model.proofs.Outcomes.{no-cause}
use Rattle.layout.proofs.Places.{place_at_lem}
use Rattle.layout.proofs.Readings.{counts_in_lem, master_in}
use Rattle.layout.proofs.Forms.{ask-refused, ask-told}
use Rattle.version.specs.Places.{Area}
use Rattle.version.proofs.Areas.{row_in, standing-word}
use Rattle.form.proofs.Known.{form-area}
use Rattle.look.specs.declared.Looked.{Looked}
use Rattle.std.specs.Prelude.{Result, Ok, Err}
use Rattle.answers.specs.declared.refusal.Refusal.{Refusal}
use Rattle.answers.specs.Refusals.{refusal_number}
use Rattle.answers.proofs.Refusals.{refusal_some}
use Rattle.look.specs.Places.{place_at, own_row_at}
use Rattle.look.specs.Answer.{seen, shown, OwnRow, RowIn}
use Rattle.look.proofs.Places.{place_in, place-area, row-window}
use Rattle.words.proofs.Lists.{length-window}
use Rattle.answers.specs.Answers.{max_answer}

-- ---- the tests

module _ (l : List ℕ) (z : Counts) (d : z ≡ counts_in l) (p i : ℕ) where
  pub area_in : So (in_form l) → i < look_limit z p → Area (length l) z (place_at z p i)
  area_in F h =
      let S = form-area l z (record { form = F; counts = d }) in
      place-area (length l) z S.ranged S.fits p i h

  pub held_in : (k : ℕ) → i < look_limit z p
      → held (look_place (store_of l) p i k) ≡ held (read_place z l (place_at z p i) k)
  held_in k h = rw (place_in l z d p i h)

  -- The cause, with the counts in the header.
  pub cause-in : (k : ℕ) → look_cause (store_of l) p i k
      ≡ refuse (leb place_kinds p) 3
      (refuse (leb (look_limit z p) i) 3
      (refuse (leb z.keys k) 3
      (refuse (not (held (look_place (store_of l) p i k))) 8
      0)))
  unfolding look_cause look_limit store_of
  cause-in k = rw d

-- ---- the answer

-- No cause: the version is there.
pub record Found (l : List ℕ) (z : Counts) (p i k : ℕ) : Type 0 where
  pub number : i < look_limit z p
  pub key : k < z.keys
  pub result : call_on (on (ask (look p i k))) l ≡ told 0 (look_numbers (store_of l) p i k)

module _ (l : List ℕ) (p i k : ℕ) where
  pub found : (z : Counts) → z ≡ counts_in l → So (in_form l) → look_cause (store_of l) p i k ≡ 0
      → Found l z p i k
  unfolding reply_of look_reply
  found z d F e =
      let a = no-cause _ 3 _ (omega arith) (sym (cause-in l z d p i k) ∙ e) in
      let b = no-cause _ 3 _ (omega arith) a.1 in
      let c = no-cause _ 3 _ (omega arith) b.1 in
      record {
        number = leb-gt _ _ b.0;
        key = leb-gt _ _ c.0;
        result = ask-told (look p i k) l F e;
      }

  -- What it says, and which row it has.
  abbrev pub Says : Result Looked Refusal → Type 0
  Says r =
      (shown l r ≡ answer (call_on (on (ask (look p i k))) l)) × OwnRow (counts_in l) p i k r

  refused-by : So (in_form l) → look_cause (store_of l) p i k ≢ 0
      → call_on (on (ask (look p i k))) l ≡ refused (look_cause (store_of l) p i k)
  unfolding reply_of look_reply
  refused-by F h = ask-refused (look p i k) l F h

  pub look-refused : (r : Refusal) → So (in_form l)
      → refusal_number r ≡ look_cause (store_of l) p i k → Says (Err r)
  unfolding shown answer OwnRow
  look-refused r F e =
      let h = refusal_some r in
      let no : call_on (on (ask (look p i k))) l ≡ refused (refusal_number r) =
      rw e (refused-by F (rw e at h)) in
      (rw no refl, tt)

  -- The standing of the two rows is that of the versions.
  standing-in : (z : Counts) → z ≡ counts_in l → i < look_limit z p → k < z.keys
      → let s = store_of l in look_standing s.counts.writers k (look_place s p i k) (s.master k)
      ≡ standing z.writers (clock_at l (own_row_at z p i k))
      (clock_at l (row_at z (key_at z (master_at z) k) k))
  unfolding look_standing own_row_at
  standing-in z d h g =
      rw (place_in l z d p i h, master_in l z d, counts_in_lem l, ← d)
      (standing-word z l (place_at z p i) k (master_at z) k k g g g)

  -- m: the mask that was read.
  pub look-done : (z : Counts) → z ≡ counts_in l → So (in_form l) → Found l z p i k
      → (m : ℕ) → m ≡ (read_place z l (place_at z p i) k).leaders
      → (s : Standing) → s ≡ standing z.writers (clock_at l (own_row_at z p i k))
      (clock_at l (row_at z (key_at z (master_at z) k) k))
      → Says (Ok (record {
        issue = record { 0 = read_word_of l (key_at z (place_at z p i) k) };
        leaders = m;
        row = own_row_at z p i k;
        counts = z.writers;
        standing = s;
      }))
  unfolding look_numbers seen shown answer OwnRow own_row_at read_version
  look-done z d F T m e s q =
      let at = place_at z p i in
      let issue = ap (λ (v : Version). v.issue) (place_at_lem z l at k T.key) in
      let row = row-window z l at k k T.key T.key in
      let number : IssueNumber = record { 0 = read_word_of l (key_at z at k) } in
      let r : Result Looked Refusal = Ok (record {
        issue = number;
        leaders = m;
        row = own_row_at z p i k;
        counts = z.writers;
        standing = s;
      }) in
      let stands = q ∙ sym (standing-in z d T.number T.key) in
      let says : shown l r ≡ answer (call_on (on (ask (look p i k))) l) =
      rw (T.result, ← stands, place_in l z d p i T.number, counts_in_lem l, ← d)
      (rw (issue, e, row)) in
      let here = ap (λ (y : Counts). own_row_at y p i k) d in
      (says, (here, ap (λ (y : Counts). y.writers) d))

  -- Such a row lies in the buffer.
  pub row_lies : (r : Result Looked Refusal) → So (in_form l)
      → shown l r ≡ answer (call_on (on (ask (look p i k))) l)
      → OwnRow (counts_in l) p i k r → RowIn l r
  unfolding seen shown answer OwnRow RowIn own_row_at
  row_lies (Err n) F e o = tt
  row_lies (Ok v) F e o =
      let x = look_cause (store_of l) p i k in
      test (eqb x 0)
      (λ t. let T = found (counts_in l) refl F (eqb-eq x 0 t) in
      let A = area_in l (counts_in l) refl p i F T.number in
      rw (o.0, o.1)
      (row_in (length l) (counts_in l) _ A k k T.key T.key, A.ranged.writers-high))
      (λ t. let no = refused-by F (eqb-ne x 0 t) in
      let two : seen l v ≡ 2 ∷ x ∷ [] = e ∙ rw no in
      absurd (omega (arith, ap (λ (t : List ℕ). get_or t 0 0) two)))

-- How many words the answer has.
pub few-shown : (l : List ℕ) (r : Result Looked Refusal) → RowIn l r
    → length (shown l r) ≤ max_answer
unfolding seen shown RowIn
few-shown l (Ok v) h =
    let last : List ℕ = standing_number v.standing ∷ [] in
    let row = window l v.row v.counts in
    omega (arith, length-append row last, length-window l v.row v.counts, h.1)
few-shown l (Err r) h = omega arith
