-- CR 9: rights on any buffer.
-- SetByCalls: "a call sets each", and no other one does. StaysUnbarred: "No shelf ever holds a
-- sheet barred to its office", after any call on a buffer in form (at each point of a list it is
-- `Holds.unbarred`). ..Entitled: what a call that is answered ok takes, reads and saves is what it
-- may.
-- Assumes nothing.
use Rattle.std.specs.Prelude.{◌≡◌, Bool, cond, List, ℕ, ◌<◌}
use Rattle.std.proofs.Math.Bool.{So}
use Rattle.words.specs.Tests.{only}
use Rattle.words.specs.Lists.{put_at}
use Rattle.masks.specs.Mask.{test_bit}
use Rattle.model.specs.Version.{held, versions}
use Rattle.model.specs.Sets.{fetch_set}
use Rattle.model.specs.Store.{Store}
use Rattle.model.specs.Outcome.{done}
use Rattle.model.specs.Calls.{StoreCall, open_run, fetch, evict, prepare, step, issue, drop_run, allow, pick, mayhold, maysave, fork, join, ask}
use Rattle.layout.specs.Reading.{store_of}
use Rattle.layout.specs.Buffer.{in_form}
use Rattle.layout.specs.Calls.{on, call_on, leaves, is_ok_of}

-- The right that a call sets: the mask of a site, of a writer, or none.
pub data Right : Type 0 where
  of_site : ℕ → ℕ → Right  -- site, mask
  of_writer : ℕ → ℕ → Right  -- writer, mask
  no_right : Right

unfoldable pub right_of_at : StoreCall → Right
right_of_at (open_run r l) = no_right
right_of_at (fetch o k) = no_right
right_of_at (evict o k) = no_right
right_of_at (prepare r) = no_right
right_of_at (step r j n) = no_right
right_of_at (issue r w S) = no_right
right_of_at (drop_run r) = no_right
right_of_at (allow o n) = no_right
right_of_at pick = no_right
right_of_at (mayhold o m) = of_site o m
right_of_at (maysave w m) = of_writer w m
right_of_at (fork r) = no_right
right_of_at (join r) = no_right
right_of_at (ask q) = no_right

-- What sites may hold, and writers may save, after a call that sets a right, if it is ok.
unfoldable pub hold_after : Right → Bool → (ℕ → ℕ) → ℕ → ℕ
hold_after (of_site o m) ok right = cond ok (put_at right o m) right
hold_after (of_writer w m) ok right = right
hold_after no_right ok right = right

unfoldable pub save_after : Right → Bool → (ℕ → ℕ) → ℕ → ℕ
save_after (of_site o m) ok right = right
save_after (of_writer w m) ok right = cond ok (put_at right w m) right
save_after no_right ok right = right

abbrev pub SetByCalls : Type 0
SetByCalls =
    (l : List ℕ) (c : StoreCall) → So (in_form l)
    → let x = call_on (on c) l in
    let before = (store_of l).tail in
    let after = (store_of (leaves x l)).tail in
    (after.may_hold ≡ hold_after (right_of_at c) (is_ok_of x) before.may_hold)
    × (after.may_save ≡ save_after (right_of_at c) (is_ok_of x) before.may_save)

-- Every sheet on a shelf of the store is one that its office may hold.
abbrev pub Unbarred : Store → Type 0
Unbarred s =
    (o k : ℕ) → o < s.counts.sites → k < s.counts.keys → So (held ((s.site o).cache k))
    → So (test_bit (s.tail.may_hold o) k)

abbrev pub StaysUnbarred : Type 0
StaysUnbarred =
    (l : List ℕ) (c : StoreCall) → So (in_form l) → Unbarred (store_of
    (leaves (call_on (on c) l) l))

-- "a barred sheet in T stops the fetch"
abbrev pub TakesEntitled : Type 0
TakesEntitled =
    (l : List ℕ) (o k : ℕ) (a : List ℕ) (t : Store) → call_on (on (fetch o k)) l ≡ done a t
    → let s = store_of l in
    (d : ℕ) → d < s.counts.keys
    → So (fetch_set (versions s.counts.writers) s.counts.keys s.master
    (s.site o).cache (only k) d)
    → So (test_bit (s.tail.may_hold o) d)

-- "a job may not read it at that office": each job of a run that is prepared.
abbrev pub PreparesEntitled : Type 0
PreparesEntitled =
    (l : List ℕ) (r : ℕ) (a : List ℕ) (t : Store) → call_on (on (prepare r)) l ≡ done a t
    → let s = store_of l in
    (j k : ℕ) → j < (s.run r).jobs → k < s.counts.keys → So (test_bit ((s.run r).job j).reads k)
    → So (test_bit (s.tail.may_hold ((s.run r).job j).site) k)

-- "a job may not read it at that office, even from the card"
abbrev pub ReadsEntitled : Type 0
ReadsEntitled =
    (l : List ℕ) (r j n : ℕ) (a : List ℕ) (t : Store) → call_on (on (step r j n)) l ≡ done a t
    → let s = store_of l in let x = (s.run r).job j in
    (k : ℕ) → k < s.counts.keys → So (test_bit x.reads k)
    → So (test_bit (s.tail.may_hold x.site) k)

-- "each writer one of sheets it may save"
abbrev pub SavesEntitled : Type 0
SavesEntitled =
    (l : List ℕ) (r w S : ℕ) (a : List ℕ) (t : Store) → call_on (on (issue r w S)) l ≡ done a t
    → let s = store_of l in
    (k : ℕ) → k < s.counts.keys → So (test_bit S k) → So (test_bit (s.tail.may_save w) k)
