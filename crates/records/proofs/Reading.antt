-- The test of readable records is what the request asks.
-- layout_is, issue-is, read_is, readable-is: each test.
-- Assumes nothing.
use mathlib.Core.Bool.{Bool, not, ◌&&◌, So}
use mathlib.Core.Logic.{◌↔◌}
use Prim.Native.Nat.{ℕ, ◌+◌, ◌*◌, ◌^◌}
use lib.Dec.{eqb, leb, ltb}
use lib.ListN.{length}
use Rattle.words.specs.Tests.{Items, any_below, all_below}
use Rattle.words.proofs.Bools.{and_intro, and_left, and_right, not-intro, not_elim, leb-le, le-leb, ltb-lt, lt-ltb, eqb-eq, eq-eqb, eqb-ne, ne_eqb}
use Rattle.words.proofs.Tests.{any-intro, any_some, all-intro, all-at}
use Rattle.model.specs.Algebra.{implies}
use Rattle.model.proofs.Cuts.{implies_in, implies-out}
use Rattle.records.proofs.ReadsOf.{reads_all, reads_at}
use Rattle.records.specs.Format.{Record, keys_in, writers_in, issues_in, reads_in_of, issues_from, reads_from, total_in, writer_at, mask_at, saved_at, first_at, read_at_of, key_of, clock_of, all_reads, reads_before, issues_before, rank, Layout, IssueReadable, ReadReadable, Readable, layout_ok, issue_ok, read_ok, readable}

pub layout_is : (b : Record) → So (layout_ok b) ↔ Layout b
unfolding layout_ok
layout_is b = (there, back)
  where
    last : Bool
    last = leb (total_in b) (length b)

    t₇ : Bool
    t₇ = eqb (total_in b) (read_at_of b (reads_in_of b)) && last

    t₆ : Bool
    t₆ = eqb (reads_from b) (7 + 4 * issues_in b) && t₇

    t₅ : Bool
    t₅ = eqb (issues_from b) 7 && t₆

    t₄ : Bool
    t₄ = leb (writers_in b) 16 && t₅

    t₃ : Bool
    t₃ = leb 1 (writers_in b) && t₄

    t₂ : Bool
    t₂ = leb (keys_in b) 32 && t₃

    t₁ : Bool
    t₁ = leb 1 (keys_in b) && t₂

    there : So (leb 7 (length b) && t₁) → Layout b
    there p =
        let p₁ = and_right (leb 7 (length b)) t₁ p in
        let p₂ = and_right (leb 1 (keys_in b)) t₂ p₁ in
        let p₃ = and_right (leb (keys_in b) 32) t₃ p₂ in
        let p₄ = and_right (leb 1 (writers_in b)) t₄ p₃ in
        let p₅ = and_right (leb (writers_in b) 16) t₅ p₄ in
        let p₆ = and_right (eqb (issues_from b) 7) t₆ p₅ in
        let p₇ = and_right (eqb (reads_from b) (7 + 4 * issues_in b)) t₇ p₆ in
        record {
          header = leb-le 7 (length b) (and_left (leb 7 (length b)) t₁ p);
          keys = (
            leb-le 1 (keys_in b) (and_left (leb 1 (keys_in b)) t₂ p₁),
            leb-le (keys_in b) 32 (and_left (leb (keys_in b) 32) t₃ p₂),
          );
          writers = (
            leb-le 1 (writers_in b) (and_left (leb 1 (writers_in b)) t₄ p₃),
            leb-le (writers_in b) 16 (and_left (leb (writers_in b) 16) t₅ p₄),
          );
          issues-from = eqb-eq (issues_from b) 7 (and_left (eqb (issues_from b) 7) t₆ p₅);
          reads-from =
              eqb-eq (reads_from b) (7 + 4 * issues_in b)
              (and_left (eqb (reads_from b) (7 + 4 * issues_in b)) t₇ p₆);
          total =
              eqb-eq (total_in b) (read_at_of b (reads_in_of b))
              (and_left (eqb (total_in b) (read_at_of b (reads_in_of b))) last p₇);
          fits =
              leb-le (total_in b) (length b)
              (and_right (eqb (total_in b) (read_at_of b (reads_in_of b))) last p₇);
        }

    back : Layout b → So (leb 7 (length b) && t₁)
    back y =
        and_intro (le-leb 7 (length b) y.header)
        (and_intro (le-leb 1 (keys_in b) y.keys.0)
        (and_intro (le-leb (keys_in b) 32 y.keys.1)
        (and_intro (le-leb 1 (writers_in b) y.writers.0)
        (and_intro (le-leb (writers_in b) 16 y.writers.1)
        (and_intro (eq-eqb (issues_from b) 7 y.issues-from)
        (and_intro (eq-eqb (reads_from b) (7 + 4 * issues_in b) y.reads-from)
        (and_intro (eq-eqb (total_in b) (read_at_of b (reads_in_of b)) y.total)
        (le-leb (total_in b) (length b) y.fits))))))))

pub issue-is : (b : Record) (i : ℕ) → So (issue_ok b i) ↔ IssueReadable b i
unfolding issue_ok
issue-is b i = (there, back)
  where
    t₃ : Bool
    t₃ = eqb (first_at b i) (reads_before b i)

    t₂ : Bool
    t₂ = ltb (mask_at b i) (2 ^ keys_in b) && t₃

    t₁ : Bool
    t₁ = leb 1 (mask_at b i) && t₂

    there : So (ltb (writer_at b i) (writers_in b) && t₁) → IssueReadable b i
    there p =
        let p₁ = and_right (ltb (writer_at b i) (writers_in b)) t₁ p in
        let p₂ = and_right (leb 1 (mask_at b i)) t₂ p₁ in
        record {
          writer =
              ltb-lt (writer_at b i) (writers_in b)
              (and_left (ltb (writer_at b i) (writers_in b)) t₁ p);
          some = leb-le 1 (mask_at b i) (and_left (leb 1 (mask_at b i)) t₂ p₁);
          mask =
              ltb-lt (mask_at b i) (2 ^ keys_in b)
              (and_left (ltb (mask_at b i) (2 ^ keys_in b)) t₃ p₂);
          first =
              eqb-eq (first_at b i) (reads_before b i)
              (and_right (ltb (mask_at b i) (2 ^ keys_in b)) t₃ p₂);
        }

    back : IssueReadable b i → So (ltb (writer_at b i) (writers_in b) && t₁)
    back y =
        and_intro (lt-ltb (writer_at b i) (writers_in b) y.writer)
        (and_intro (le-leb 1 (mask_at b i) y.some)
        (and_intro (lt-ltb (mask_at b i) (2 ^ keys_in b) y.mask)
        (eq-eqb (first_at b i) (reads_before b i) y.first)))

pub read_is : (b : Record) (i x : ℕ) → So (read_ok b i x) ↔ ReadReadable b i x
unfolding read_ok
read_is b i x = (there, back)
  where
    low : Bool
    low = ltb (key_of b x) (keys_in b)

    nonzero : Items
    nonzero u = not (eqb (clock_of b x u) 0)

    fits : Items
    fits u = leb (clock_of b x u) (issues_before b i u)

    named : Items
    named j = eqb (rank b j) (clock_of b x (writer_at b j))

    hit : Items
    hit j = implies (named j) (saved_at b j (key_of b x))

    t₂ : Bool
    t₂ = all_below (writers_in b) fits && all_below i hit

    t₁ : Bool
    t₁ = any_below (writers_in b) nonzero && t₂

    there : So (low && t₁) → ReadReadable b i x
    there p =
        let p₁ = and_right low t₁ p in
        let p₂ = and_right (any_below (writers_in b) nonzero) t₂ p₁ in
        let s = any_some (writers_in b) nonzero (and_left (any_below (writers_in b) nonzero) t₂
        p₁) in
        record {
          key = ltb-lt (key_of b x) (keys_in b) (and_left low t₁ p);
          some = (s.0, s.1, eqb-ne (clock_of b x s.0) 0 (not_elim s.2));
          counted = λ u l.
              leb-le (clock_of b x u) (issues_before b i u)
              (all-at (writers_in b) fits
              (and_left (all_below (writers_in b) fits) (all_below i hit) p₂) u l);
          saved = λ j l e.
              implies-out (named j) (saved_at b j (key_of b x))
              (all-at i hit (and_right (all_below (writers_in b) fits) (all_below i hit) p₂) j l)
              (eq-eqb (rank b j) (clock_of b x (writer_at b j)) e);
        }

    back : ReadReadable b i x → So (low && t₁)
    back y =
        let s = y.some in
        and_intro (lt-ltb (key_of b x) (keys_in b) y.key)
        (and_intro
        (any-intro (writers_in b) nonzero s.0 s.1
        (not-intro (ne_eqb (clock_of b x s.0) 0 s.2)))
        (and_intro
        (all-intro (writers_in b) fits
        (λ u l. le-leb (clock_of b x u) (issues_before b i u) (y.counted u l)))
        (all-intro i hit (λ j l.
        implies_in (named j) (saved_at b j (key_of b x))
        (λ q. y.saved j l (eqb-eq (rank b j) (clock_of b x (writer_at b j)) q))))))

pub readable-is : (b : Record) → So (readable b) ↔ Readable b
unfolding readable
readable-is b = (there, back)
  where
    reads : Items
    reads i = all_reads b i (read_ok b i)

    whole : Bool
    whole = eqb (reads_before b (issues_in b)) (reads_in_of b)

    t₂ : Bool
    t₂ = whole && all_below (issues_in b) reads

    t₁ : Bool
    t₁ = all_below (issues_in b) (issue_ok b) && t₂

    there : So (layout_ok b && t₁) → Readable b
    there p =
        let p₁ = and_right (layout_ok b) t₁ p in
        let p₂ = and_right (all_below (issues_in b) (issue_ok b)) t₂ p₁ in
        let p₃ = and_right whole (all_below (issues_in b) reads) p₂ in
        record {
          layout = (layout_is b).0 (and_left (layout_ok b) t₁ p);
          issue = λ i l.
              (issue-is b i).0
              (all-at (issues_in b) (issue_ok b)
              (and_left (all_below (issues_in b) (issue_ok b)) t₂ p₁) i l);
          every =
              eqb-eq (reads_before b (issues_in b)) (reads_in_of b)
              (and_left whole (all_below (issues_in b) reads) p₂);
          reads = λ i l x m.
              (read_is b i x).0
              (reads_at b i (read_ok b i) (all-at (issues_in b) reads p₃ i l) x m);
        }

    back : Readable b → So (layout_ok b && t₁)
    back y =
        and_intro ((layout_is b).1 y.layout)
        (and_intro (all-intro (issues_in b) (issue_ok b) (λ i l. (issue-is b i).1 (y.issue i l)))
        (and_intro (eq-eqb (reads_before b (issues_in b)) (reads_in_of b) y.every)
        (all-intro (issues_in b) reads (λ i l.
        reads_all b i (read_ok b i) (λ x m. (read_is b i x).1 (y.reads i l x m))))))
