-- An issue's stores one after the other: last issue number, writer, master, marks, run.
-- run-put: a run stored in a store just written.
-- saved-number, savable_in: where a key is saved. counted_store: number and writer are stored.
-- writer-done, master-done, marks-done: from the words that the phases leave to the store.
-- Assumes nothing.
use mathlib.Core.Path.{◌≡◌, sym, ap, ◌∙◌}
use mathlib.Core.List.{List}
use Prim.Native.Nat.{ℕ, ◌+◌, ◌<◌, ◌^◌}
use native.Mathlib.Omega.{arith}
use lib.ListN.{set}
use Rattle.words.specs.Numbers.{fold_below}
use Rattle.words.proofs.Bools.{ne_eqb}
use Rattle.words.proofs.Lists.{put_at_same}
use Rattle.sizes.specs.declared.Counts.{Counts}
use Rattle.sizes.specs.Bounds.{master_at, writer_at, run_at_of, snapshot_at}
use Rattle.model.specs.Algebra.{Place}
use Rattle.model.specs.Version.{Version}
use Rattle.model.specs.Store.{Writer, Run, Store, with_last, with_marks, with_master, with_writer, with_run}
use Rattle.model.specs.Issue.{taken_in, rows_set, new_past, new_version, issued_master, issued_writer, saved_store, issued_store, issued_number}
use Rattle.layout.specs.Reading.{read_place, read_writer, store_of}
use Rattle.layout.specs.Stored.{put_place, put_writer, put_run}
use Rattle.layout.specs.Buffer.{written}
use Rattle.layout.proofs.Whole.{FitStore, store-fits, store-back}
use Rattle.layout.proofs.Fit.{fit-last, fit-master, fit-writer}
use Rattle.layout.proofs.Rules.Issue.{past_fits, master-fits}
use Rattle.layout.proofs.Follow.{form-fine}
use Rattle.layout.proofs.Updates.{put_last, put-master, put-writer}
use Rattle.layout.proofs.RunUpdates.{put-run}
use Rattle.layout.proofs.Readings.{writer_in, snapshot_in}
use Rattle.form.specs.Parts.{FormWith}
use Rattle.form.proofs.Known.{form-counts, form-again}
use Rattle.issue.specs.Saves.{Savable, mark_at}
use Rattle.issue.proofs.Marking.{counted, master-back, marks-stored}

-- ---- a store that was just written: its parts, and another one of them

module _ (s : Store) (l : List ℕ) (z : Counts) (F : FitStore s) (e : s.counts ≡ z) where
  writer-back : (w : ℕ) → w < z.writers
      → read_writer z (written s l) (writer_at z w) ≡ s.writer w
  writer-back w h =
      sym (writer_in (written s l) z (counted s l z F e) w h)
      ∙ ap (λ (t : Store). t.writer w) (store-back s l F)

  snapshot-back : (r : ℕ) → r < z.runs
      → read_place z (written s l) (snapshot_at z r 0) ≡ (s.run r).branch.snapshot
  snapshot-back r h =
      sym (snapshot_in (written s l) z (counted s l z F e) r 0 h)
      ∙ ap (λ (t : Store). (t.run r).branch.snapshot) (store-back s l F)

module _ (s : Store) (l : List ℕ) (z : Counts) (e : s.counts ≡ z) where
  writer-put : (w : ℕ) (y : Writer) → w < z.writers
      → put_writer z (written s l) (writer_at z w) y ≡ written (with_writer s w y) l
  writer-put w y h = rw (← e) (put-writer s l w y (rw e h))

  master-put : (p : Place Version)
      → put_place z (written s l) (master_at z) p ≡ written (with_master s p) l
  master-put p = rw (← e) (put-master s l p)

  pub run-put : (r : ℕ) (a : Run) → r < z.runs
      → put_run z (written s l) (run_at_of z r) a ≡ written (with_run s r a) l
  run-put r a h = rw (← e) (put-run s l r a (rw e h))

-- ---- a mask that isn't empty

pub saved-number : (s : Store) (S : ℕ) → 0 < S → issued_number s S ≡ s.last + 1
unfolding issued_number
saved-number s S h = rw (ne_eqb S 0 (omega arith))

-- Number and writer are stored, the master isn't yet.
abbrev pub counted_store : Store → ℕ → ℕ → ℕ → Store
counted_store s r w S = with_writer (with_last s (s.last + 1)) w (issued_writer s r w S)

-- The master too, the marks aren't yet.
abbrev pub merged_store : Store → ℕ → ℕ → ℕ → Store
merged_store s r w S =
    with_master (counted_store s r w S)
    (issued_master s.counts.writers S (new_version (s.last + 1) w (new_past s r w S))
    s.master)

saved-store : (s : Store) (r w S : ℕ) → 0 < S
    → issued_store s r w S ≡ with_marks (merged_store s r w S)
unfolding issued_store saved_store
saved-store s r w S h = rw (ne_eqb S 0 (omega arith))

pub savable_in : (l : List ℕ) (z : Counts) (r w S : ℕ) → FormWith l z → Savable (store_of l) r w S
    → (r < z.runs) × (w < z.writers) × (S < 2 ^ z.keys)
savable_in l z r w S H K =
    let same = form-counts l z H in
    (rw (← same) K.run, rw (← same) K.writer, rw (← same) K.mask)

-- ---- the phases

module _ (l : List ℕ) (z : Counts) (H : FormWith l z) (r w S : ℕ) (hr : r < z.runs)
    (hw : w < z.writers) (hS : S < 2 ^ z.keys) where
  abbrev s : Store
  s = store_of l

  abbrev s₁ : Store
  s₁ = with_last s (s.last + 1)

  abbrev s₂ : Store
  s₂ = counted_store s r w S

  -- The master after it, with counts in hand.
  abbrev master-of : Counts → Place Version
  master-of y =
      issued_master y.writers S (new_version (s.last + 1) w (new_past s r w S)) s.master

  abbrev new : Place Version
  new = master-of s.counts

  fits₁ : FitStore s₁
  fits₁ = fit-last s (store-fits l) (s.last + 1)

  same₁ : s₁.counts ≡ z
  unfolding with_last
  same₁ = form-counts l z H

  number-stored : set l 4 (s.last + 1) ≡ written s₁ l
  number-stored =
      ap (λ (m : List ℕ). set m 4 (s.last + 1)) (sym (form-again l z H))
      ∙ put_last s l (s.last + 1)

  saved : Writer
  saved =
      let n = (s.writer w).count + 1 in
      record {
        count = n;
        past = rows_set S w n
            (taken_in z.keys (s.run r).branch.read (s.run r).branch.snapshot
            (s.writer w).past);
      }

  saved_as : issued_writer s r w S ≡ saved
  unfolding saved issued_writer new_past
  saved_as = rw (← form-counts l z H)

  fits₂ : FitStore s₂
  unfolding with_last issued_writer
  fits₂ =
      let same = form-counts l z H in
      fit-writer s₁ fits₁ w (issued_writer s r w S) (rw same hw) (record {
        past = past_fits s r w S (form-fine l H.form) (rw same hr) (rw same hw) (rw same hS);
      })

  same₂ : s₂.counts ≡ z
  unfolding with_writer
  same₂ = same₁

  writer-stored : (m₁ m₂ : List ℕ) (read n : ℕ) → read ≡ (s.run r).branch.read
      → n ≡ (s.writer w).count + 1 → m₁ ≡ written s₁ l
      → m₂ ≡ put_writer z m₁ (writer_at z w)
      (record {
        count = n;
        past = rows_set S w n
            (taken_in z.keys read (read_place z m₁ (snapshot_at z r 0))
            (read_writer z m₁ (writer_at z w)).past);
      })
      → m₂ ≡ written s₂ l
  unfolding saved with_last
  writer-stored m₁ m₂ read n a b e₁ e₂ =
      e₂
      ∙ rw (a, b, e₁, snapshot-back s₁ l z fits₁ same₁ r hr, writer-back s₁ l z fits₁ same₁ w hw)
      (ap (put_writer z (written s₁ l) (writer_at z w)) (sym saved_as)
      ∙ writer-put s₁ l z same₁ w (issued_writer s r w S) hw)

  master-stored : (m₂ m₃ : List ℕ) (i : ℕ) → i ≡ s.last + 1 → m₂ ≡ written s₂ l
      → m₃ ≡ put_place z m₂ (master_at z)
      (issued_master z.writers S (new_version i w (read_writer z m₂ (writer_at z w)).past)
      (read_place z m₂ (master_at z)))
      → m₃ ≡ written (with_master s₂ new) l
  unfolding with_writer with_last issued_writer
  master-stored m₂ m₃ i a e₂ e₃ =
      let writer : read_writer z (written s₂ l) (writer_at z w) ≡ issued_writer s r w S =
      writer-back s₂ l z fits₂ same₂ w hw ∙ put_at_same s.writer w (issued_writer s r w S) in
      e₃
      ∙ rw (a, e₂, writer, master-back s₂ l z fits₂ same₂)
      (ap (λ (y : Counts). put_place z (written s₂ l) (master_at z) (master-of y))
      (sym (form-counts l z H))
      ∙ master-put s₂ l z same₂ new)

  -- From what the code reads and stores, by its own indices and numbers: number and writer,
  pub writer-done : (at place read i n : ℕ) (m₁ m₂ : List ℕ) → at ≡ writer_at z w
      → place ≡ snapshot_at z r 0 → read ≡ (s.run r).branch.read → i ≡ s.last + 1
      → n ≡ (s.writer w).count + 1 → m₁ ≡ set l 4 i
      → m₂ ≡ put_writer z m₁ at
      (record {
        count = n;
        past = rows_set S w n
            (taken_in z.keys read (read_place z m₁ place) (read_writer z m₁ at).past);
      })
      → m₂ ≡ written s₂ l
  writer-done at place read i n m₁ m₂ p q a b c e₁ e₂ =
      writer-stored m₁ m₂ read n a c (e₁ ∙ rw b number-stored) (rw (p, q) at e₂)

  -- the master,
  pub master-done : (master at i : ℕ) (m₂ m₃ : List ℕ) → master ≡ master_at z
      → at ≡ writer_at z w → i ≡ s.last + 1 → m₂ ≡ written s₂ l
      → m₃ ≡ put_place z m₂ master
      (issued_master z.writers S (new_version i w (read_writer z m₂ at).past)
      (read_place z m₂ master))
      → m₃ ≡ written (merged_store s r w S) l
  master-done master at i m₂ m₃ d p b e₂ e₃ = master-stored m₂ m₃ i b e₂ (rw (p, d) at e₃)

  -- and the marks.
  pub marks-done : (master : ℕ) (m₃ m₄ : List ℕ) → 0 < S → master ≡ master_at z
      → m₃ ≡ written (merged_store s r w S) l → m₄ ≡ fold_below z.sites (mark_at z master) m₃
      → m₄ ≡ written (issued_store s r w S) l
  unfolding with_master with_writer with_last
  marks-done master m₃ m₄ h d e₃ e₄ =
      let same = form-counts l z H in
      let fits = master-fits s r w S (form-fine l H.form) (rw same hr) (rw same hw)
      (rw same hS) in
      let t = merged_store s r w S in
      let F : FitStore t = fit-master s₂ fits₂ new fits in
      e₄ ∙ rw (d, e₃, saved-store s r w S h) (marks-stored t l z F same₂)
