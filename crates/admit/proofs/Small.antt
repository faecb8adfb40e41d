-- What the code asks of a store in form is admission.
-- small-test: of a store. small-words: of the words of a buffer.
-- Assumes nothing.
use mathlib.Core.Path.{◌≡◌, refl, sym, ap, ap₂, ◌∙◌}
use mathlib.Core.Bool.{Bool, So, ◌&&◌}
use mathlib.Core.List.{List}
use Prim.Native.Nat.{ℕ, ◌≤◌, ◌<◌}
use lib.Dec.{leb}
use Rattle.words.specs.Tests.{Items, all_below}
use Rattle.words.proofs.Bools.{same_test, clash, and_intro, and_left, and_right, leb-le, le-leb}
use Rattle.words.proofs.Tests.{all-intro, all-at, all_same}
use Rattle.masks.specs.Mask.{test_bit}
use Rattle.masks.proofs.Bits.{test-none}
use Rattle.clock.specs.Clock.{Clock}
use Rattle.sizes.specs.declared.Counts.{Counts}
use Rattle.sizes.specs.Bounds.{master_at}
use Rattle.model.specs.Algebra.{Place, everything, needs_met}
use Rattle.model.specs.Version.{Version, versions}
use Rattle.model.specs.Store.{Writer, branch_of, Store, planned}
use Rattle.model.specs.Calls.Admit.{master_covers, counts_within, admissible}
use Rattle.model.proofs.Cuts.{needs_met-intro}
use Rattle.model.proofs.Formed.{Formed, well-out}
use Rattle.model.proofs.Branches.{each-out, each_in}
use Rattle.model.proofs.Admits.{Covered, covered_out, covered_in, counted-out, counted_in, admissible-out, admissible_in}
use Rattle.model.proofs.Sufficing.{Sufficing, own_rows, admissible-small, sufficing}
use Rattle.layout.specs.Reading.{read_word_of, read_place, read_writer, store_of}
use Rattle.layout.proofs.Readings.{last_in_lem, master_in, cache_in, writer_in, run_in}
use Rattle.layout.proofs.Follow.{form-fine}
use Rattle.form.specs.Parts.{FormWith}
use Rattle.form.proofs.Known.{form-counts}
use Rattle.admit.specs.Parts.{past_covered, rows_covered, numbers_within, row_within, own_counts, place_taken, run_taken, counts_at, cache_test, run_test, writer_test}

-- ---- one place

pub record Taken (s : Store) (S : Items) (p : Place Version) : Type 0 where
  pub covered : (k : ℕ) → k < s.counts.keys → Covered s (p k).past
  pub numbered : (k : ℕ) → k < s.counts.keys → (p k).issue ≤ s.last
  pub met : So (needs_met (versions s.counts.writers) s.counts.keys S p)

module _ (s : Store) where
  -- The same test, of a store and of its parts.
  past-test : (q : ℕ → Clock) → past_covered s.counts s.master q ≡ master_covers s q
  unfolding past_covered master_covers
  past-test q = refl

  past-out : (q : ℕ → Clock) → So (past_covered s.counts s.master q) → Covered s q
  past-out q h = covered_out s q (sym (past-test q) ∙ h)

  past_in : (q : ℕ → Clock) → Covered s q → So (past_covered s.counts s.master q)
  past_in q f = past-test q ∙ covered_in s q f

  taken_out : (S : Items) (p : Place Version)
      → So (place_taken s.counts s.master s.last S p) → Taken s S p
  unfolding place_taken rows_covered numbers_within
  taken_out S p h =
      let K = s.counts.keys in
      let rows : Items = λ k. past_covered s.counts s.master (p k).past in
      let numbers : Items = λ k. leb (p k).issue s.last in
      let met = needs_met (versions s.counts.writers) K S p in
      let rest = and_right (all_below K rows) (all_below K numbers && met) h in
      record {
        covered = λ k l. past-out (p k).past
            (all-at K rows (and_left (all_below K rows) (all_below K numbers && met) h) k l);
        numbered = λ k l.
            leb-le _ _ (all-at K numbers (and_left (all_below K numbers) met rest) k l);
        met = and_right (all_below K numbers) met rest;
      }

  taken_in_lem : (S : Items) (p : Place Version) → Taken s S p
      → So (place_taken s.counts s.master s.last S p)
  unfolding place_taken rows_covered numbers_within
  taken_in_lem S p T =
      let K = s.counts.keys in
      and_intro (all-intro K _ (λ k l. past_in (p k).past (T.covered k l)))
      (and_intro (all-intro K _ (λ k l. le-leb _ _ (T.numbered k l))) T.met)

  -- ---- the store

  -- The test as the code makes it, with the counts, the master and the last issue number.
  abbrev small_of : Counts → Place Version → ℕ → Bool
  small_of z m last =
      place_taken z m last (test_bit 0) m
      && (all_below z.sites (λ o. place_taken z m last everything (s.site o).cache)
      && (all_below z.runs (λ r. run_taken z m last (s.run r))
      && (all_below z.writers (λ w. past_covered z m (s.writer w).past)
      && own_counts z (λ u. (s.writer u).count) m)))

  abbrev small_test : Bool
  small_test = small_of s.counts s.master s.last

  own-test : own_counts s.counts (λ u. (s.writer u).count) s.master
      ≡ counts_within s (own_rows s)
  unfolding own_counts row_within counts_within
  own-test = refl

  small-out : So small_test → Sufficing s
  unfolding run_taken
  small-out h =
      let z = s.counts in
      let a = place_taken z s.master s.last (test_bit 0) s.master in
      let cache : Items = λ o.
      place_taken z s.master s.last everything (s.site o).cache in
      let run : Items = λ r. run_taken z s.master s.last (s.run r) in
      let past : Items = λ w. past_covered z s.master (s.writer w).past in
      let b = all_below z.sites cache in
      let c = all_below z.runs run in
      let d = all_below z.writers past in
      let e = own_counts z (λ u. (s.writer u).count) s.master in
      let h₂ = and_right a (b && (c && (d && e))) h in
      let h₃ = and_right b (c && (d && e)) h₂ in
      let h₄ = and_right c (d && e) h₃ in
      let master = taken_out (test_bit 0) s.master (and_left a (b && (c && (d && e))) h) in
      let caches : (o : ℕ) → o < z.sites → Taken s everything (s.site o).cache =
      λ o l. taken_out everything (s.site o).cache
      (all-at z.sites cache (and_left b (c && (d && e)) h₂) o l) in
      let runs : (r : ℕ) → r < z.runs → (n : ℕ)
      → Taken s (planned (s.run r).jobs (s.run r).job) (branch_of n (s.run r)).snapshot =
      λ r l n.
      let S = planned (s.run r).jobs (s.run r).job in
      taken_out S (branch_of n (s.run r)).snapshot
      (each-out (s.run r) (λ b. place_taken z s.master s.last S b.snapshot)
      (all-at z.runs run (and_left c (d && e) h₃) r l) n) in
      record {
        caches = λ o l. (caches o l).met;
        snapshots = λ r l n. (runs r l n).met;
        covered = record {
          versions = record {
            master = master.covered;
            caches = λ o l. (caches o l).covered;
            snapshots = λ r l n. (runs r l n).covered;
          };
          writers = λ w l. past-out (s.writer w).past
              (all-at z.writers past (and_left d e h₄) w l);
        };
        counted = counted-out s (own_rows s) (sym own-test ∙ and_right d e h₄);
        numbered = record {
          master = master.numbered;
          caches = λ o l. (caches o l).numbered;
          snapshots = λ r l n. (runs r l n).numbered;
        };
      }

  small_in : Sufficing s → So small_test
  unfolding run_taken
  small_in E =
      let z = s.counts in
      let C = E.covered.versions in
      let N = E.numbered in
      and_intro
      (taken_in_lem (test_bit 0) s.master (record {
        covered = C.master;
        numbered = N.master;
        met = needs_met-intro (versions z.writers) z.keys (test_bit 0) s.master
            (λ k d _ _ b. clash b (test-none k));
      }))
      (and_intro
      (all-intro z.sites _ (λ o l. taken_in_lem everything (s.site o).cache (record {
        covered = C.caches o l;
        numbered = N.caches o l;
        met = E.caches o l;
      })))
      (and_intro
      (all-intro z.runs _ (λ r l.
      let S = planned (s.run r).jobs (s.run r).job in
      each_in (s.run r) (λ b. place_taken z s.master s.last S b.snapshot)
      (λ n. taken_in_lem S (branch_of n (s.run r)).snapshot (record {
        covered = C.snapshots r l n;
        numbered = N.snapshots r l n;
        met = E.snapshots r l n;
      }))))
      (and_intro
      (all-intro z.writers _ (λ w l. past_in (s.writer w).past (E.covered.writers w l)))
      (own-test ∙ counted_in s (own_rows s) E.counted))))

  pub small-test : Formed s → small_test ≡ admissible s
  small-test F =
      same_test (λ h. admissible_in s (admissible-small s F (small-out h)))
      (λ h. small_in (sufficing s (admissible-out s h)))

-- ---- the words of a buffer

-- Only the counts of writers matter.
own_same : (z : Counts) (f g : ℕ → ℕ) (m : Place Version)
    → ((u : ℕ) → u < z.writers → f u ≡ g u) → own_counts z f m ≡ own_counts z g m
unfolding own_counts row_within
own_same z f g m e =
    all_same z.keys _ _ (λ d _. all_same z.writers _ _ (λ u h.
    ap (leb ((m d).past d u)) (e u h)))

pub small-words : (l : List ℕ) (z : Counts) → FormWith l z
    → let at = master_at z in
    let last = read_word_of l 4 in
    place_taken z (read_place z l at) last (test_bit 0) (read_place z l at)
    && (all_below z.sites (cache_test z l at last)
    && (all_below z.runs (run_test z l at last)
    && (all_below z.writers (writer_test z l at)
    && own_counts z (counts_at z l) (read_place z l at))))
    ≡ admissible (store_of l)
unfolding read_writer
small-words l z H =
    let s = store_of l in
    let e = H.counts in
    let at = master_at z in
    let last = read_word_of l 4 in
    let m = read_place z l at in
    let small : small_test s ≡ admissible s =
    small-test s (well-out s (form-fine l H.form).formed) in
    let caches = all_same z.sites (cache_test z l at last)
    (λ o. place_taken z m last everything (s.site o).cache)
    (λ o h. ap (place_taken z m last everything) (sym (cache_in l z e o h))) in
    let runs = all_same z.runs (run_test z l at last) (λ r. run_taken z m last (s.run r))
    (λ r h. ap (run_taken z m last) (sym (run_in l z e r h))) in
    let pasts = all_same z.writers (writer_test z l at)
    (λ w. past_covered z m (s.writer w).past)
    (λ w h. ap (λ (x : Writer). past_covered z m x.past) (sym (writer_in l z e w h))) in
    let counts = own_same z (counts_at z l) (λ u. (s.writer u).count) m
    (λ u h. ap (λ (x : Writer). x.count) (sym (writer_in l z e u h))) in
    ap (λ (b : Bool). place_taken z m last (test_bit 0) m && b)
    (ap₂ ◌&&◌ caches (ap₂ ◌&&◌ runs (ap₂ ◌&&◌ pasts counts)))
    ∙ ap (λ (x : Counts). small_of s x m last) (sym (form-counts l z H))
    ∙ ap (λ (x : Place Version). small_of s s.counts x last) (sym (master_in l z e))
    ∙ ap (small_of s s.counts s.master) (sym (last_in_lem l))
    ∙ small
