-- What stands first in a run, stored changed: only the words that changed.
-- freed-words: zeros. marked-words: two masks. spoiled-words: the state.
-- put_on: words stored after others, as one store.
-- Assumes nothing.
use mathlib.Core.Path.{◌≡◌, sym, ap, ◌∙◌}
use mathlib.Core.List.{List}
use mathlib.Core.Logic.{◌≢◌}
use Prim.Native.Nat.{ℕ, zero, suc, ◌+◌}
use native.Mathlib.Nat.{add-zero}
use native.Mathlib.Omega.{arith}
use lib.ListN.{get_or, set}
use lib.Seq.{set-get_or, get_or-set_other}
use Rattle.words.specs.Words.{put}
use Rattle.sizes.specs.Runs.{jobs_offset, done_offset, read_offset, plan_offset}
use Rattle.model.specs.Outcome.{broken_state}
use Rattle.status.specs.Lent.{status_at, put_status, freed, marked, spoiled}

pub freed-words : (l : List ℕ) (at : ℕ)
    → put_status l at (at + read_offset) (freed (status_at l at (at + read_offset)))
    ≡ put l at plan_offset (λ _. 0)
unfolding put_status freed put
freed-words l at =
    let three : List ℕ → List ℕ =
    λ m. set (set (set m (at + jobs_offset) 0) (at + done_offset) 0) (at + read_offset) 0 in
    ap (λ (i : ℕ). three (set l i 0)) (sym (add-zero at))

pub marked-words : (l : List ℕ) (at read done reads : ℕ)
    → put_status l at read (marked (status_at l at read) done reads)
    ≡ set (set l (at + done_offset) done) read reads
unfolding put_status marked status_at
marked-words l at read done reads =
    let masks : List ℕ → List ℕ = λ m. set (set m (at + done_offset) done) read reads in
    let jobs = at + jobs_offset in
    ap (λ (m : List ℕ). masks (set m jobs (get_or l jobs 0))) (set-get_or l at 0)
    ∙ ap masks (set-get_or l jobs 0)

-- A word stored again after another was changed.
again : (l : List ℕ) (i x j : ℕ) → j ≢ i → set (set l i x) j (get_or l j 0) ≡ set l i x
again l i x j n =
    ap (set (set l i x) j) (sym (get_or-set_other l i j x 0 n)) ∙ set-get_or (set l i x) j 0

pub spoiled-words : (l : List ℕ) (at : ℕ)
    → put_status l at (at + read_offset) (spoiled (status_at l at (at + read_offset)))
    ≡ set l at broken_state
unfolding put_status spoiled status_at
spoiled-words l at =
    let w : ℕ → ℕ = λ i. get_or l i 0 in
    let done = at + done_offset in
    let read = at + read_offset in
    ap (λ (m : List ℕ). set (set m done (w done)) read (w read))
    (again l at broken_state (at + jobs_offset) (omega arith))
    ∙ ap (λ (m : List ℕ). set m read (w read)) (again l at broken_state done (omega arith))
    ∙ again l at broken_state read (omega arith)

pub put_on : (l : List ℕ) (at m n : ℕ) (f : ℕ → ℕ)
    → put (put l at m f) (at + m) n (λ i. f (m + i)) ≡ put l at (m + n) f
unfolding put
put_on l at m zero f = ap (λ (k : ℕ). put l at k f) (sym (add-zero m))
put_on l at m (suc n) f =
    let e : at + m + n ≡ at + (m + n) = omega arith in
    let more : suc (m + n) ≡ m + suc n = omega arith in
    ap (λ (t : List ℕ). set t (at + m + n) (f (m + n))) (put_on l at m n f)
    ∙ ap (λ (i : ℕ). set (put l at (m + n) f) i (f (m + n))) e
    ∙ ap (λ (k : ℕ). put l at k f) more
