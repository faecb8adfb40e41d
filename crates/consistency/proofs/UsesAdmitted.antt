-- What a reader takes out of the claim for a desk read back from disk (CR 6); nothing here knows
-- how it is proved.
-- taken_back, from-here: at each point admit answers ok, and a list may begin. ..-lists: what
-- stands behind an issue, a copy, what was read. admitted-..: lists after an admission. new-..:
-- from new nothing was admitted, and all is as document 01 has it, masks included.
-- Assumes nothing.
use mathlib.Core.Path.{◌≡◌, refl, sym, ap, ◌∙◌}
use mathlib.Core.Bool.{So}
use mathlib.Core.Logic.{◌↔◌, inl, ⊎_elim}
use mathlib.Core.List.{List, [], ◌∷◌, ◌++◌, append-nil}
use Prim.Native.Nat.{ℕ, ◌≤◌, ◌<◌}
use native.Mathlib.Omega.{arith}
use lib.ListN.{length}
use Rattle.masks.specs.Mask.{test_bit}
use Rattle.clock.specs.Clock.{Clock}
use Rattle.sizes.specs.declared.Counts.{Counts}
use Rattle.model.specs.Version.{Version}
use Rattle.model.specs.Store.{branch_of, Store}
use Rattle.model.specs.Outcome.{refuse, told}
use Rattle.model.specs.Calls.Admit.{admissible, admit_cause, admit_reply}
use Rattle.model.specs.Calls.{admit, ask, reply_of}
use Rattle.layout.specs.Reading.{store_of}
use Rattle.layout.specs.Calls.{Call, on, new_on, call_on, is_ok_of}
use Rattle.layout.proofs.Forms.{ask-told}
use Rattle.history.specs.History.{History}
use Rattle.history.specs.Copies.{CountedAs, counted}
use Rattle.history.specs.Listing.{Base, no_base, BookCopy, counted_copy}
use Rattle.history.specs.Lists.{ListedBefore, ListedBehind, list_of}
use Rattle.history.specs.Book.{book_branch, fresh_book}
use Rattle.history.proofs.Plain.{Plain, lists-plain, counted-plain}
use Rattle.history.proofs.Bases.{step-base}
use Rattle.consistency.specs.Trace.{ReadSet, Among, Trace, start, admitted, advance, follow}
use Rattle.consistency.specs.Leading.{Leading}
use Rattle.consistency.specs.Listed.{Lists}
use Rattle.consistency.specs.Claim.{HoldsAt, Consistent, Demand3, AfterAdmission}

-- ---- at a point

module _ (t : Trace) (H : HoldsAt t) where
  abbrev s : Store
  s = store_of t.buffer

  abbrev K : ℕ
  K = s.counts.keys

  abbrev h : History
  h = t.book.history

  abbrev B : Base
  B = t.book.base

  -- A desk that our calls left is taken back: "ok 0".
  pub taken_back : call_on (on (ask admit)) t.buffer ≡ told 0 (0 ∷ [])
  unfolding reply_of admit_reply admit_cause refuse
  taken_back =
      let fit : So (admissible s) = H.holds.admissible in
      ask-told admit t.buffer H.formed (rw fit)

  -- So from here on the claim holds as after an admission, beside the one that runs.
  pub from-here : AfterAdmission → (cs : List Call) → Consistent cs (admitted t.buffer)
  unfolding is_ok_of
  from-here claim = claim t.buffer (rw taken_back refl)

  -- What stands behind an issue of the admitted saves is its list,
  pub issue-lists : (d u n i : ℕ) → i < length h → ListedBefore B h d u n i
      ↔ n ≤ list_of B h i d u
  issue-lists = H.holds.lists.issues

  -- and what stands behind a copy is its own, which was admitted: on master, shelves and cards,
  -- and of what finished jobs have read.
  abbrev Own : BookCopy → Type 0
  Own c =
      ((d u n : ℕ) → ListedBehind B h c d u n ↔ n ≤ c.rows d u)
      × ((d u : ℕ) → c.rows d u ≤ B.saves d u) × (c.number ≤ B.last)

  own : {c : BookCopy} → Lists B h c → Own c
  own l = (l.behind, l.admitted, l.number)

  pub master-lists : (k : ℕ) → k < K → Own (t.book.master k)
  master-lists k l = own (H.holds.lists.master k l)

  pub cache-lists : (o k : ℕ) → o < s.counts.sites → k < K → Own (t.book.cache o k)
  cache-lists o k i l = own (H.holds.lists.caches o i k l)

  pub snapshot-lists : (r n k : ℕ) → r < s.counts.runs → k < K
      → Own ((book_branch n (t.book.run r)).snapshot k)
  snapshot-lists r n k i l = own (H.holds.lists.snapshots r n i k l)

  pub read-lists : (r : ℕ) (x : ReadSet) → Among x (t.finished r) → (k : ℕ) → k < K
      → So (x.keys k) → Own (x.copy k)
  read-lists r x p k l q = own (H.holds.lists.reads r x p k l q)

  -- The master has every admitted save.
  pub master-admitted : (k u : ℕ) → k < K → (t.book.master k).rows k u ≡ B.saves k u
  master-admitted = H.holds.lists.every

  -- Two finished jobs of a run, on line m both, either of them first: what is listed behind
  -- anything that either read is included in what either read.
  pub either-lists : (r : ℕ) (x y : ReadSet) → Among x (t.finished r) → Among y (t.finished r)
      → (m : ℕ) → So (x.on m) → So (y.on m)
      → (e d u n : ℕ) → e < K → d < K → u < s.counts.writers
      → (So (x.keys e) → So (y.keys d) → ListedBehind B h (x.copy e) d u n
      → n ≤ (y.copy d).rows d u)
      × (So (y.keys e) → So (x.keys d) → ListedBehind B h (y.copy e) d u n
      → n ≤ (x.copy d).rows d u)
  either-lists r x y p q m xm ym e d u n le ld lu = (
    (H.holds.shared r x y p q m xm ym).listed e d u n le ld lu,
    (H.holds.shared r y x q p m ym xm).listed e d u n le ld lu,
  )

-- ---- lists after an admission

module _ (claim : AfterAdmission) (l : List ℕ) (ok : So (is_ok_of (call_on (on (ask admit)) l)))
  where
    pub admitted-point : (sofar : List Call) (c : Call) (rest : List Call)
        → HoldsAt (follow sofar (admitted l))
    admitted-point sofar c rest = claim l ok (sofar ++ (c ∷ rest)) sofar (c ∷ rest) refl

    pub admitted-end : (cs : List Call) → HoldsAt (follow cs (admitted l))
    admitted-end cs = claim l ok cs cs [] (sym (append-nil cs))

-- ---- lists from new

-- Nothing was admitted, at no point.
follow-base : (cs : List Call) (t : Trace) → t.book.base ≡ no_base
    → (follow cs t).book.base ≡ no_base
unfolding follow advance
follow-base [] t e = e
follow-base (c ∷ cs) t e =
    follow-base cs (advance c t) (step-base c (is_ok_of (call_on c t.buffer)) t.book e)

module _ (claim : Demand3) (l : List ℕ) (z : Counts) (ok : So (is_ok_of (new_on l z)))
    (cs : List Call) where
  abbrev now : Trace
  now = follow cs (start z l)

  abbrev desk : Store
  desk = store_of now.buffer

  pub new-base : now.book.base ≡ no_base
  unfolding start fresh_book
  new-base = follow-base cs (start z l) refl

  holds : HoldsAt now
  holds = claim l z ok cs cs [] (sym (append-nil cs))

  -- A version that is its copy counted is document 01's: its set of saves counted, no rows listed.
  abbrev AsBefore : Version → BookCopy → Type 0
  AsBefore v c = Plain c × CountedAs v
      (counted desk.counts.keys now.book.history c.later)

  as_before : (v : Version) (c : BookCopy) → Lists now.book.base now.book.history c
      → CountedAs v (counted_copy desk.counts.keys now.book.history now.book.base c)
      → AsBefore v c
  as_before v c L e =
      let p = lists-plain now.book.base c new-base L.admitted L.number in (
        p,
        rw (counted-plain desk.counts.keys now.book.history now.book.base c new-base
            p) at e,
      )

  pub new-plain : (k : ℕ) → k < desk.counts.keys
      → AsBefore (desk.master k) (now.book.master k)
      × ((o : ℕ) → o < desk.counts.sites
      → AsBefore ((desk.site o).cache k) (now.book.cache o k))
      × ((r n : ℕ) → r < desk.counts.runs
      → AsBefore ((branch_of n (desk.run r)).snapshot k)
      ((book_branch n (now.book.run r)).snapshot k))
      × ((r : ℕ) (x : ReadSet) → Among x (now.finished r) → So (x.keys k)
      → AsBefore (x.version k) (x.copy k))
  new-plain k i =
      let H = holds.holds in (
        as_before (desk.master k) (now.book.master k) (H.lists.master k i) (H.master k i),
        λ o m. as_before ((desk.site o).cache k) (now.book.cache o k) (H.lists.caches o m k i)
            (H.caches o m k i),
        λ r n m. as_before ((branch_of n (desk.run r)).snapshot k)
            ((book_branch n (now.book.run r)).snapshot k) (H.lists.snapshots r n m k i)
            (H.snapshots r n m k i),
        λ r x p q. as_before (x.version k) (x.copy k) (H.lists.reads r x p k i q)
            (H.reads r x p k i q),
      )

  -- The masks are claimed at each point.
  pub new-leads : Leading desk now.book now.finished
  new-leads = holds.holds.leads new-base

  -- A shelf's copy is behind by its set of saves alone.
  pub new-behind : (o k : ℕ) → o < desk.counts.sites → k < desk.counts.keys
      → So (test_bit (desk.site o).stale k)
      ↔ (((i : ℕ) × So ((now.book.cache o k).later i))
      × ¬ ((i : ℕ) → (now.book.cache o k).later i ≡ (now.book.master k).later i))
  new-behind o k m i =
      let mark = holds.holds.marks-copies o k m i in
      let here = ((new-plain k i).1 o m).0.rows in
      let there = (new-plain k i).0.0.rows in
      let none : (u : ℕ) → (now.book.cache o k).rows k u ≡ 0 =
      λ u. ap (λ (r : ℕ → Clock). r k u) here in (
        λ p. let b = mark.0 p in (
          ⊎_elim (λ x. x) (λ x. absurd (omega (arith, x.2, none x.0))) b.some,
          λ e. b.other (e, λ u l. none u ∙ sym (ap (λ (r : ℕ → Clock). r k u) there)),
        ),
        λ q. mark.1 (record { some = inl q.0; other = λ e. q.1 e.0 }),
      )
