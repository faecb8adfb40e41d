-- What code that puts a line goes by: its texts one by one.
-- calls-first, calls-next, calls-end: what is put and what is left make the whole; replies-..:
-- alike. line-parts: a line put in four parts.
-- Assumes nothing.
use mathlib.Core.Path.{◌≡◌, ap, ◌∙◌}
use mathlib.Core.List.{List, [], ◌∷◌, ◌++◌, map, append_assoc, append-nil}
use Prim.Native.Nat.{ℕ, suc, ◌+◌, ◌≤◌, ◌<◌}
use native.Mathlib.Numerals.{add-one}
use native.Mathlib.Nat.{not-suc-le-zero}
use lib.ListN.{length, get_or, drop, drop_of_length-le}
use lib.Seq.{drop-cons}
use Rattle.text.specs.Bytes.{bytes_of}
use Rattle.text.proofs.Puts.{put_both}
use Rattle.model.specs.Outcome.{Outcome, answer}
use Rattle.layout.specs.Calls.{on, call_on, leaves, outcomes}
use Rattle.print.specs.Print.{answer_body}
use Rattle.listing.specs.Lines.{call_text, joined, joined_on, desk_room, desk_in, answers_in, answers_of, history_line, whole_line}
use Rattle.listing.proofs.Desks.{room-suffices, answers-any}
use Rattle.lister.specs.Numbered.{call_at}

-- ---- texts joined

-- m: what stands before the first text. r: what stands after it.
pub joined-first : (m t : List ℕ) (ts : List (List ℕ)) {r : List ℕ} → r ≡ m ++ t
    → r ++ joined_on ts ≡ m ++ joined (t ∷ ts)
unfolding joined
joined-first m t ts e = rw e (append_assoc m t (joined_on ts))

pub joined-next : (m t : List ℕ) (ts : List (List ℕ)) {s r : List ℕ} → s ≡ m ++ bytes_of "; "
    → r ≡ s ++ t → r ++ joined_on ts ≡ m ++ joined_on (t ∷ ts)
unfolding joined_on
joined-next m t ts e f =
    rw (put_both m (bytes_of "; ") t e f) (append_assoc m (bytes_of "; " ++ t) (joined_on ts))

-- ---- calls by their numbers

-- The texts of the calls ds.
abbrev pub call_texts : List ℕ → List (List ℕ)
call_texts ds = map call_text (map call_at ds)

pub calls-first : (m ds : List ℕ) {r : List ℕ} → 0 < length ds
    → r ≡ m ++ call_text (call_at (get_or ds 0 0))
    → r ++ joined_on (call_texts (drop 1 ds)) ≡ m ++ joined (call_texts ds)
calls-first m [] h e = absurd (not-suc-le-zero h)
calls-first m (d ∷ ds) h e = joined-first m (call_text (call_at d)) (call_texts ds) e

pub calls-next : (m ds : List ℕ) (j : ℕ) {s r : List ℕ} → j < length ds → s ≡ m ++ bytes_of "; "
    → r ≡ s ++ call_text (call_at (get_or ds j 0))
    → r ++ joined_on (call_texts (drop (j + 1) ds)) ≡ m ++ joined_on (call_texts (drop j ds))
calls-next m ds j h e f =
    rw (drop-cons ds j 0 h, add-one)
    (joined-next m (call_text (call_at (get_or ds j 0))) (call_texts (drop (suc j) ds)) e f)

pub calls-end : (m ds : List ℕ) (j : ℕ) → length ds ≤ j
    → m ++ joined_on (call_texts (drop j ds)) ≡ m
unfolding joined_on
calls-end m ds j h = rw (drop_of_length-le ds h, append-nil)

-- ---- their answers

-- The texts of the answers to the calls ds, on the buffer l.
abbrev pub reply_texts : List ℕ → List ℕ → List (List ℕ)
reply_texts l ds = map answer_body (map answer (outcomes (map on (map call_at ds)) l))

-- The outcome of call d.
abbrev pub outcome_of : List ℕ → ℕ → Outcome
outcome_of l d = call_on (on (call_at d)) l

pub replies-first : (m l ds : List ℕ) {k r : List ℕ} → 0 < length ds
    → r ≡ m ++ answer_body (answer (outcome_of l (get_or ds 0 0)))
    → k ≡ leaves (outcome_of l (get_or ds 0 0)) l
    → r ++ joined_on (reply_texts k (drop 1 ds)) ≡ m ++ joined (reply_texts l ds)
unfolding outcomes
replies-first m l [] h e f = absurd (not-suc-le-zero h)
replies-first m l (d ∷ ds) h e f =
    rw f
    (joined-first m (answer_body (answer (outcome_of l d)))
    (reply_texts (leaves (outcome_of l d) l) ds) e)

pub replies-next : (m l ds : List ℕ) (j : ℕ) {k s r : List ℕ} → j < length ds
    → s ≡ m ++ bytes_of "; " → r ≡ s ++ answer_body (answer (outcome_of l (get_or ds j 0)))
    → k ≡ leaves (outcome_of l (get_or ds j 0)) l
    → r ++ joined_on (reply_texts k (drop (j + 1) ds)) ≡ m ++ joined_on (reply_texts l (drop j ds))
unfolding outcomes
replies-next m l ds j h e f g =
    rw (g, drop-cons ds j 0 h, add-one)
    (joined-next m (answer_body (answer (outcome_of l (get_or ds j 0))))
    (reply_texts (leaves (outcome_of l (get_or ds j 0)) l) (drop (suc j) ds)) e f)

pub replies-end : (m l ds : List ℕ) (j : ℕ) → length ds ≤ j
    → m ++ joined_on (reply_texts l (drop j ds)) ≡ m
unfolding joined_on outcomes
replies-end m l ds j h = rw (drop_of_length-le ds h, append-nil)

-- ---- a line

-- Its parts: the calls, what follows them, the answers, the line's end.
pub line-parts : (m l ds : List ℕ) {k a b c r : List ℕ} → desk_room ≤ length l → k ≡ desk_in l
    → a ≡ m ++ joined (call_texts ds) → b ≡ a ++ bytes_of ": "
    → c ≡ b ++ joined (reply_texts k ds) → r ≡ c ++ (10 ∷ []) → r ≡ m ++ whole_line (map call_at
    ds)
unfolding history_line answers_in
line-parts m l ds {k = k} {b = b} h d e f g i =
    let cs = map call_at ds in
    let texts = joined (map call_text cs) in
    let same : joined (reply_texts k ds) ≡ joined (map answer_body (answers_of cs)) =
    rw d (ap (λ (ts : List (List ℕ)). joined (map answer_body ts))
    (answers-any l cs (room-suffices (length l) h))) in
    put_both m (history_line cs) (10 ∷ [])
    (put_both m (texts ++ bytes_of ": ") (joined (map answer_body (answers_of cs)))
    (put_both m texts (bytes_of ": ") e f)
    (g ∙ ap (λ (t : List ℕ). b ++ t) same))
    i
