-- Bytes that are read one chunk after another are served as all of them.
-- front: a part of a buffer. served-none: before any read. served-more: one read more.
-- served-last: the end of the input.
-- Assumes nothing.
use mathlib.Core.Path.{◌≡◌, refl, sym, ap, ◌∙◌}
use mathlib.Core.Bool.{false}
use mathlib.Core.List.{List, [], ◌∷◌, ◌++◌, append_assoc, append-nil}
use Prim.Native.Nat.{ℕ, ◌+◌, ◌-◌, ◌≤◌}
use native.Mathlib.Omega.{arith}
use lib.Dec.{eqb}
use lib.ListN.{length, take, length-append, length-take}
use Rattle.words.proofs.Bools.{test}
use Rattle.layout.specs.Buffer.{in_form}
use Rattle.layout.specs.Calls.{after}
use Rattle.script.specs.Script.{lines_of, program, buffer_after}
use Rattle.script.specs.Fold.{Part, bytes, too_long, Progress, part_call, fresh, ended, kept, byte_step, fed, finished_part, finished, part_in_of, progress, calls_fed}
use Rattle.script.specs.Tie.{Served, Finished}
use Rattle.script.proofs.Lines.{after_call, after-lines}
use Rattle.script.proofs.Folds.{fed-append, fed-whole}
use Rattle.script.proofs.Ties.{begun}

-- ---- text that was there before

abbrev text_first : List ℕ → Progress → Progress
text_first t q = record { buffer = q.buffer; part = q.part; text = t ++ q.text }

ended-first : (t : List ℕ) (q : Progress) → ended (text_first t q) ≡ text_first t (ended q)
unfolding ended
ended-first t q = rw append_assoc

step-first : (t : List ℕ) (q : Progress) (b : ℕ)
    → byte_step (text_first t q) b ≡ text_first t (byte_step q b)
unfolding byte_step kept
step-first t q b = test (eqb b 10) (λ h. rw h (ended-first t q)) (λ h. rw h refl)

fed-first : (bs t : List ℕ) (q : Progress) → fed (text_first t q) bs ≡ text_first t (fed q bs)
unfolding fed
fed-first [] t q = refl
fed-first (b ∷ bs) t q =
    ap (λ p. fed p bs) (step-first t q b) ∙ fed-first bs t (byte_step q b)

finished-first : (part : Part) (t : List ℕ) (q : Progress)
    → finished_part part (text_first t q) ≡ text_first t (finished_part part q)
unfolding finished_part
finished-first (bytes []) t q = refl
finished-first (bytes (b ∷ s)) t q = ended-first t q
finished-first too_long t q = ended-first t q

-- ---- the buffer

fed-after : (bs : List ℕ) (p : Progress)
    → (fed p bs).buffer ≡ after (calls_fed p.part bs) p.buffer
unfolding fed calls_fed after byte_step ended kept
fed-after [] p = refl
fed-after (b ∷ bs) p =
    fed-after bs (byte_step p b)
    ∙ test (eqb b 10)
    (λ h. rw h (after_call (part_call p.part) (calls_fed (bytes []) bs) p.buffer))
    (λ h. rw h refl)

-- ---- the program

-- A part from the start of l on, as the code takes it.
pub front : (n : ℕ) (l : List ℕ) → n ≤ length l → length (take (n - 0) l) ≡ n
front n l h = length-take (n - 0) l ∙ omega (arith, h)

module _ (l : List ℕ) (bad : in_form l ≡ false) where
  pub served-none : (line : List ℕ) → Served l l line 0 0 0
  unfolding fed part_in_of calls_fed after
  served-none line = record {
    input = [];
    text = [];
    all_read = refl;
    all-handed = refl;
    keeps = refl;
    claim = begun l bad [] l refl;
  }

  -- The bytes c were read, and t handed over.
  pub served-more : (c t : List ℕ) {m line m' line' : List ℕ} {n n' k r r' h h' : ℕ}
      → Served l m line n r h → progress m' line' n' t ≡ fed (progress m line n []) c
      → k ≡ n' → r' ≡ r + length c → h' ≡ h + length t → Served l m' line' k r' h'
  served-more c t {m} {line} {m'} {line'} {n} {n'} s e x i j =
      let u = s.text in
      let q : progress m' line' n' (u ++ t) ≡ fed (fresh l) (s.input ++ c) =
      ap (text_first u) e
      ∙ sym (fed-first c u (progress m line n []))
      ∙ ap (λ x. fed (progress m line n x) c) (append-nil u)
      ∙ ap (λ p. fed p c) s.keeps
      ∙ sym (fed-append (fresh l) s.input c) in
      record {
        input = s.input ++ c;
        text = u ++ t;
        all_read = omega (arith, length-append s.input c, s.all_read, i);
        all-handed = omega (arith, length-append u t, s.all-handed, j);
        keeps = rw x q;
        claim = begun l bad _ m' (ap (λ p. p.buffer) q ∙ fed-after (s.input ++ c) (fresh l));
      }

  -- The answer to a last line that lacks its end was handed over: q, after the end.
  pub served-last : {m line : List ℕ} {n read handed handed' : ℕ} {q : Progress}
      → Served l m line n read handed → q ≡ finished (progress m line n [])
      → handed' ≡ handed + length q.text → Finished l q.buffer read handed'
  served-last {m} {line} {n} {q = q} s e h =
      let u = s.text in
      let k : text_first u q
      ≡ record {
        buffer = buffer_after l (lines_of s.input);
        part = bytes [];
        text = program l s.input;
      } =
      ap (text_first u) e
      ∙ sym (finished-first (part_in_of line n) u (progress m line n []))
      ∙ ap (λ x. finished (progress m line n x)) (append-nil u)
      ∙ ap finished s.keeps
      ∙ fed-whole l s.input in
      let b : q.buffer ≡ buffer_after l (lines_of s.input) = ap (λ p. p.buffer) k in
      record {
        input = s.input;
        all_read = s.all_read;
        all-handed = sym (ap (λ p. length p.text) k)
            ∙ omega (arith, length-append u q.text, s.all-handed, h);
        leaves = b;
        claim = begun l bad _ _ (b ∙ after-lines (lines_of s.input) l);
      }
