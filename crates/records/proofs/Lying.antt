-- The words of a record of a history (CR 14): each issue as it stands in them, whatever is behind.
-- written: the newest issue. Grown: a history that goes on from another. Lies: words that have the
-- record's header and lie as it does; lies-reads, lies-written: each issue of it. record_lies,
-- record_layout: the record's words do.
-- Assumes nothing.
use mathlib.Core.Path.{◌≡◌, refl, ap, ap₂, ◌∙◌}
use mathlib.Core.Bool.{So}
use mathlib.Core.List.{List, [], ◌∷◌, ◌++◌}
use Prim.Native.Nat.{ℕ, suc, ◌+◌, ◌*◌, ◌≤◌, ◌<◌}
use native.Mathlib.Omega.{arith}
use native.Mathlib.Decide.{dec_le}
use lib.ListN.{length, length-append, get_or-append}
use Rattle.words.specs.Numbers.{count_below}
use Rattle.words.proofs.Numbers.{count-one, count-mono, count-between}
use Rattle.history.specs.History.{Issue, History}
use Rattle.history.proofs.Tally as tallies
use Rattle.records.specs.Format.{Record, keys_in, writers_in, issues_in, reads_in_of, issues_from, reads_from, total_in, number_at, read_at_of, key_of, clock_of, ReadOf, reads_before, Layout}
use Rattle.records.specs.Own.{had_read, number_of, reads_up_to, issues_words, reads_words, head_words, record_of_at, own_row}
use Rattle.records.proofs.Histories.{count-reached}
use Rattle.records.proofs.Notions.{Written}
use Rattle.records.proofs.Written.{Begins, begins-left, begins-right, issues-length, reads-length, the-first, the_number, the-writer, the-mask, key-is, counts-are, read_of}

module _ (b : Record) (e : Issue) (h : History)
    (f : Begins b 7 (issues_words (keys_in b) (writers_in b) (e ∷ h)))
    (g : Begins b (7 + 4 * issues_in b) (reads_words (keys_in b) (writers_in b) (e ∷ h)))
    (q : reads_before b (length h) ≡ reads_up_to (keys_in b) (writers_in b) h) where
  -- The sheet of a read of the issue.
  nth : (x : ℕ) → ReadOf b (length h) x
      → (d : ℕ) × (d < keys_in b) × So (had_read (keys_in b) (writers_in b) h e d)
      × (x ≡ read_of b e h f g q d)
  unfolding number_of
  nth x m =
      let p = had_read (keys_in b) (writers_in b) h e in
      let n = the_number b e h f g q in
      let r = count-reached p (keys_in b) (suc m.0) (omega arith) (omega (arith, n, m.1)) in
      let d = r.0 in
      (d, r.1, r.2, omega (arith, m.2, r.3, count-one p d r.2))

  key-of : (x : ℕ) (m : ReadOf b (length h) x) → key_of b x ≡ (nth x m).0
  key-of x m =
      let r = nth x m in
      ap (key_of b) r.3 ∙ key-is b e h f g q r.0 r.1 r.2

  rises : (x y : ℕ) → ReadOf b (length h) x → ReadOf b (length h) y → x < y
      → key_of b x < key_of b y
  rises x y m n l =
      let c = nth x m in
      let d = nth y n in
      elim (dec_le (suc c.0) d.0) [
        | yes o ↦ omega (arith, key-of x m, key-of y n)
        | no o ↦
            absurd (omega (
              arith,
              c.3,
              d.3,
              count-mono d.0 c.0 (had_read (keys_in b) (writers_in b) h e) (omega arith),
            ))
      ]

  inside : (d : ℕ) → d < keys_in b → So (had_read (keys_in b) (writers_in b) h e d)
      → count_below d (had_read (keys_in b) (writers_in b) h e) < number_at b (length h)
  unfolding number_of
  inside d l p =
      let n = the_number b e h f g q in
      omega (
        arith,
        n,
        count-between d (keys_in b) d (had_read (keys_in b) (writers_in b) h e) (omega arith) l p,
      )

  row-tally : (d u : ℕ) → own_row (keys_in b) (writers_in b) h (e.read d) u
      ≡ tallies.tally (keys_in b) h (e.read d) u
  unfolding own_row tallies.tally
  row-tally d u = refl

  pub written : Written b (length h) h e
  unfolding had_read
  written = record {
    writer = the-writer b e h f g q;
    mask = the-mask b e h f g q;
    first = the-first b e h f g q;
    held = λ x m. let r = nth x m in rw (key-of x m) (r.1, r.2);
    every = λ d l p. (
      read_of b e h f g q d,
      (count_below d (had_read (keys_in b) (writers_in b) h e), inside d l p, refl),
      key-is b e h f g q d l p,
    );
    rising = rises;
    counts = λ x m u l.
        let r = nth x m in
        let c = counts-are b e h f g q r.0 r.1 r.2 u l in
        rw (key-of x m) (ap (λ (y : ℕ). clock_of b y u) r.3 ∙ c ∙ row-tally r.0 u);
  }

-- ---- all issues

-- h with further issues on top.
pub data Grown (h : History) : History → Type 0 where
  same : Grown h h
  more : {e : Issue} {g : History} → Grown h g → Grown h (e ∷ g)

pub grown-below : {e : Issue} {l h : History} → Grown (e ∷ l) h → Grown l h
grown-below same = more same
grown-below (more g) = more (grown-below g)

module _ (b : Record) where
  reads-are : (h : History) → Begins b 7 (issues_words (keys_in b) (writers_in b) h)
      → Begins b (7 + 4 * issues_in b) (reads_words (keys_in b) (writers_in b) h)
      → reads_before b (length h) ≡ reads_up_to (keys_in b) (writers_in b) h
  unfolding issues_words reads_words reads_before reads_up_to
  reads-are [] f g = refl
  reads-are (e ∷ h) f g =
      let K = keys_in b in
      let W = writers_in b in
      let q = reads-are h (begins-left b 7 (issues_words K W h) _ f)
      (begins-left b (7 + 4 * issues_in b) (reads_words K W h) _ g) in
      omega (arith, q, the_number b e h f g q)

  written_below : (e : Issue) (h l : History) → Grown (e ∷ h) l
      → Begins b 7 (issues_words (keys_in b) (writers_in b) l)
      → Begins b (7 + 4 * issues_in b) (reads_words (keys_in b) (writers_in b) l)
      → Written b (length h) h e
  unfolding issues_words reads_words
  written_below e h l same f g =
      written b e h f g (reads-are h (begins-left b 7 (issues_words (keys_in b) (writers_in b) h)
      _ f)
      (begins-left b (7 + 4 * issues_in b) (reads_words (keys_in b) (writers_in b) h) _ g))
  written_below e h l (more {g = m} n) f g =
      written_below e h m n (begins-left b 7 (issues_words (keys_in b) (writers_in b) m) _ f)
      (begins-left b (7 + 4 * issues_in b) (reads_words (keys_in b) (writers_in b) m) _ g)

-- Words that have the record's header and lie as it does.
pub record Lies (b : Record) (K W : ℕ) (h : History) : Type 0 where
  pub keys : keys_in b ≡ K
  pub writers : writers_in b ≡ W
  pub issues : issues_in b ≡ length h
  pub reads : reads_in_of b ≡ reads_up_to K W h
  pub issue-words : Begins b 7 (issues_words K W h)
  pub read-words : Begins b (7 + 4 * length h) (reads_words K W h)

module _ {b : Record} {K W : ℕ} {h : History} (y : Lies b K W h) where
  issues-begin : Begins b 7 (issues_words (keys_in b) (writers_in b) h)
  issues-begin = rw (y.keys, y.writers) y.issue-words

  reads-begin : Begins b (7 + 4 * issues_in b) (reads_words (keys_in b) (writers_in b) h)
  reads-begin = rw (y.keys, y.writers, y.issues) y.read-words

  -- "each in one issue"
  pub lies-reads : reads_before b (issues_in b) ≡ reads_in_of b
  lies-reads =
      rw (y.issues, y.reads)
      (reads-are b h issues-begin reads-begin ∙ rw (y.keys, y.writers) refl)

  -- Each issue stands in them as it was written down.
  pub lies-written : (e : Issue) (l : History) → Grown (e ∷ l) h → Written b (length l) l e
  lies-written e l g = written_below b e l h g issues-begin reads-begin

-- ---- the record of a history

head_at : (K W : ℕ) (h : History) (c : List ℕ) → Begins (record_of_at K W h ++ c) 0 (record_of_at
    K W h)
head_at K W h c k l =
    let e : 0 + k ≡ k = omega arith in
    rw e (get_or-append (record_of_at K W h) c 0 k l)

module _ (K W : ℕ) (h : History) (c : List ℕ) where
  abbrev words_of : Record
  words_of = (head_words K W h ++ (issues_words K W h ++ reads_words K W h)) ++ c

  top : Begins words_of 0 (head_words K W h)
  unfolding record_of_at
  top =
      begins-left words_of 0 (head_words K W h) (issues_words K W h ++ reads_words K W h)
      (head_at K W h c)

  rest : Begins words_of 7 (issues_words K W h ++ reads_words K W h)
  unfolding record_of_at head_words
  rest =
      begins-right words_of 0 7 (head_words K W h) (issues_words K W h ++ reads_words K W h) refl
      (head_at K W h c)

  pub record_lies : Lies (record_of_at K W h ++ c) K W h
  unfolding record_of_at head_words keys_in writers_in issues_in reads_in_of
  record_lies = record {
    keys = top 0 (omega arith);
    writers = top 1 (omega arith);
    issues = top 2 (omega arith);
    reads = top 3 (omega arith);
    issue-words = begins-left words_of 7 (issues_words K W h) (reads_words K W h) rest;
    read-words =
        begins-right words_of 7 (4 * length h) (issues_words K W h) (reads_words K W h)
        (issues-length K W h) rest;
  }

  long : length ((issues_words K W h ++ reads_words K W h) ++ c)
      ≡ 4 * length h + reads_up_to K W h * (1 + W) + length c
  long =
      length-append (issues_words K W h ++ reads_words K W h) c
      ∙ ap (λ (n : ℕ). n + length c)
      (length-append (issues_words K W h) (reads_words K W h)
      ∙ ap₂ ◌+◌ (issues-length K W h) (reads-length K W h))

  pub record_total : total_in (record_of_at K W h ++ c) ≡ 7 + 4 * length h + reads_up_to K W h *
      (1 + W)
  unfolding record_of_at head_words total_in
  record_total = top 6 (omega arith)

  pub record_layout : 1 ≤ K → K ≤ 32 → 1 ≤ W → W ≤ 16 → Layout (record_of_at K W h ++ c)
  unfolding record_of_at head_words keys_in writers_in issues_in reads_in_of issues_from
      reads_from total_in
      read_at_of
  record_layout k₁ k₂ w₁ w₂ = record {
    header = omega (arith, long);
    keys = rw (top 0 (omega arith)) (k₁, k₂);
    writers = rw (top 1 (omega arith)) (w₁, w₂);
    issues-from = top 4 (omega arith);
    reads-from = rw (top 2 (omega arith)) (top 5 (omega arith));
    total =
        rw (top 1 (omega arith), top 2 (omega arith), top 3 (omega arith)) (top 6 (omega arith));
    fits = omega (arith, long);
  }
