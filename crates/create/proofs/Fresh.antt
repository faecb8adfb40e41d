-- The words of a fresh store: the header, zeros up to the total, the allowances and the tail.
-- zero-blocks: rows of zeros are zeros. zeroed: the store of zeros; zero-words: its words.
-- zero-stored: a buffer that was filled with zeros up to the total, and then got the header.
-- fresh-stored: with the allowances and the tail it has the fresh store in it.
-- Assumes nothing.
use mathlib.Core.Path.{◌≡◌, refl, sym, ap, ap₂, ◌∙◌, fun_ext}
use mathlib.Core.Bool.{cond, false}
use mathlib.Core.Logic.{⊎_elim}
use mathlib.Core.List.{List, [], ◌∷◌, ◌++◌, append_assoc}
use Prim.Native.Nat.{ℕ, zero, suc, ◌+◌, ◌-◌, ◌*◌, ◌≤◌}
use native.Mathlib.Nat.{mul-one}
use native.Mathlib.Omega.{arith}
use lib.Dec.{eqb, ltb}
use lib.ListN.{length, drop, set, replicate, length-replicate, replicate-append-replicate}
use lib.Seq.{sets, sets-eq}
use Rattle.words.specs.Words.{put}
use Rattle.words.specs.Lists.{put_at, blocks}
use Rattle.words.specs.Numbers.{fold_below}
use Rattle.words.proofs.Bools.{test, eqb-eq, eqb-ne, lt-ltb, ge-ltb}
use Rattle.words.proofs.Tests.{below_or_not}
use Rattle.sizes.specs.declared.Counts.{Counts}
use Rattle.sizes.specs.declared.Sizes.{Sizes}
use Rattle.sizes.specs.Bounds.{header_size, past_offset, site_rest, writer_past_offset, past_size, version_size, place_size, site_size, writer_size, run_front, run_rest, run_size, tail_size, master_at, sites_at, writers_at, runs_at, tail_at, total_of, site_at, allowance_at}
use Rattle.sizes.specs.Runs.{snapshot_offset, second_offset}
use Rattle.model.specs.Version.{zero_past, unheld}
use Rattle.model.specs.Tail.{no_tail, fresh_tail}
use Rattle.model.specs.Store.{Site, Store, empty_place, no_writer, no_site, free_run, site_allowed, fresh, with_sites, with_tail_of}
use Rattle.layout.specs.Words.{clock_words, past_words, version_words, place_words, site_words, sites_words, writer_words, writers_words, job_words, jobs_words, front_words, rest_words, run_words, runs_words, tail_words, header_words, store_words}
use Rattle.layout.specs.Buffer.{written}
use Rattle.layout.proofs.Merges.{table, put-table}
use Rattle.layout.proofs.Updates.{put-allowance}
use Rattle.create.specs.Room.{Room, allowances_put}
use Rattle.create.proofs.Sized.{total-is, tail-is}
use Rattle.create.proofs.Tails.{tail-zero, put-tail}

-- n zeros.
abbrev zeros : ℕ → List ℕ
zeros n = replicate n 0

-- ---- zeros in a row

zero-join : (x y : List ℕ) (m n k : ℕ) → x ≡ zeros m → y ≡ zeros n → m + n ≡ k
    → x ++ y ≡ zeros k
zero-join x y m n k p q e = ap₂ ◌++◌ p q ∙ replicate-append-replicate m n 0 ∙ ap zeros e

zero-cons : (x : List ℕ) (n : ℕ) → x ≡ zeros n → 0 ∷ x ≡ zeros (1 + n)
zero-cons x n p = zero-join (0 ∷ []) x 1 n (1 + n) refl p refl

pub zero-blocks : (n v : ℕ) (x : List ℕ) → x ≡ zeros v → blocks n (λ _. x) ≡ zeros (n * v)
unfolding blocks
zero-blocks zero v x p = let e : 0 ≡ 0 * v = omega arith in ap zeros e
zero-blocks (suc n) v x p =
    zero-join x (blocks n (λ _. x)) v (n * v) (suc n * v) p (zero-blocks n v x p) (omega arith)

zero-table : (n : ℕ) → table n (λ _. 0) ≡ zeros n
unfolding table
zero-table zero = refl
zero-table (suc n) =
    zero-join (table n (λ _. 0)) (0 ∷ []) n 1 (suc n) (zero-table n) refl (omega arith)

-- ---- the parts of a store of zeros

module _ (z : Counts) where
  clock-zero : clock_words z (λ w. 0) ≡ zeros z.writers
  unfolding clock_words
  clock-zero = zero-blocks z.writers 1 (0 ∷ []) refl ∙ ap zeros (mul-one z.writers)

  past-zero : past_words z zero_past ≡ zeros (past_size z)
  unfolding past_words past_size
  past-zero = zero-blocks z.keys z.writers (clock_words z (λ w. 0)) clock-zero

  version-zero : version_words z unheld ≡ zeros (version_size z)
  unfolding version_words version_size
  version-zero =
      zero-join (0 ∷ 0 ∷ []) (past_words z zero_past) past_offset (past_size z) (version_size z)
      refl
      past-zero refl

  place-zero : place_words z empty_place ≡ zeros (place_size z)
  unfolding place_words place_size
  place-zero = zero-blocks z.keys (version_size z) (version_words z unheld) version-zero

  site-zero : site_words z no_site ≡ zeros (site_size z)
  unfolding site_words site_size
  site-zero =
      zero-join (place_words z empty_place) (zeros site_rest) (place_size z) site_rest (site_size
      z)
      place-zero refl refl

  sites-zero : sites_words z (λ o. no_site) ≡ zeros (z.sites * site_size z)
  unfolding sites_words
  sites-zero = zero-blocks z.sites (site_size z) (site_words z no_site) site-zero

  writers-zero : writers_words z (λ w. no_writer) ≡ zeros (z.writers * writer_size z)
  unfolding writers_words writer_words writer_size
  writers-zero =
      zero-blocks z.writers (writer_past_offset + past_size z) (0 ∷ past_words z zero_past)
      (zero-cons (past_words z zero_past) (past_size z) past-zero)

  front-zero : front_words z free_run ≡ zeros (run_front z)
  unfolding jobs_words job_words blocks
  front-zero =
      zero-join (zeros snapshot_offset) (place_words z empty_place) snapshot_offset (place_size z)
      (run_front z) refl place-zero refl

  rest-zero : rest_words z free_run ≡ zeros (run_rest z)
  rest-zero =
      zero-join (zeros second_offset) (place_words z empty_place) second_offset (place_size z)
      (run_rest z) refl place-zero refl

  run-zero : run_words z free_run ≡ zeros (run_size z)
  unfolding run_words run_size
  run-zero =
      zero-join (front_words z free_run) (rest_words z free_run) (run_front z) (run_rest z)
      (run_size z)
      front-zero rest-zero refl

  runs-zero : runs_words z (λ r. free_run) ≡ zeros (z.runs * run_size z)
  unfolding runs_words
  runs-zero = zero-blocks z.runs (run_size z) (run_words z free_run) run-zero

-- ---- the whole

abbrev zeroed : Counts → Store
zeroed z = record {
  counts = z;
  last = 0;
  master = empty_place;
  site = λ o. no_site;
  writer = λ w. no_writer;
  run = λ r. free_run;
  tail = no_tail;
}

-- One area of zeros more.
next : (h x y : List ℕ) (m n : ℕ) → x ≡ h ++ zeros m → y ≡ zeros n → x ++ y ≡ h ++ zeros (m + n)
next h x y m n p q =
    ap₂ ◌++◌ p q ∙ append_assoc h (zeros m) (zeros n)
    ∙ ap (λ (t : List ℕ). h ++ t) (replicate-append-replicate m n 0)

zero-words : (z : Counts) (n : ℕ) → total_of z ≡ header_size + n
    → store_words (zeroed z) ≡ header_words z 0 ++ zeros n
unfolding store_words total_of tail_at runs_at writers_at sites_at master_at
zero-words z n e =
    let h = header_words z 0 in
    let a = place_size z in
    let b = z.sites * site_size z in
    let c = z.writers * writer_size z in
    let d = z.runs * run_size z in
    let t = tail_size z in
    let k : a + b + c + d + t ≡ n = omega arith in
    let master = ap (λ (t : List ℕ). h ++ t) (place-zero z) in
    let sites = next h _ _ a b master (sites-zero z) in
    let writers = next h _ _ (a + b) c sites (writers-zero z) in
    let runs = next h _ _ (a + b + c) d writers (runs-zero z) in
    next h _ _ (a + b + c + d) t runs (tail-zero z) ∙ ap (λ (k : ℕ). h ++ zeros k) k

-- Zeros from the first word on.
filled : (l : List ℕ) (n : ℕ) → n ≤ length l → put l 0 n (λ _. 0) ≡ zeros n ++ drop n l
filled l n h =
    let e : length (zeros n) ≡ n = length-replicate n 0 in
    let k : 0 + length (zeros n) ≡ n = omega arith in
    put-table l 0 n (λ _. 0)
    ∙ ap (sets l 0) (zero-table n) ∙ sets-eq (zeros n) l 0 (omega arith)
    ∙ ap (λ (j : ℕ). zeros n ++ drop j l) k

-- The header over the first of them.
headed : (z : Counts) (n : ℕ) (rest : List ℕ)
    → sets (zeros header_size ++ zeros n ++ rest) 0 (header_words z 0)
    ≡ header_words z 0 ++ zeros n ++ rest
unfolding header_words
headed z n rest = refl

zero-stored : (l m n : List ℕ) (z : Counts) (at : Sizes) → Room (length l) z at
    → m ≡ put l 0 at.total (λ _. 0) → n ≡ sets m 0 (header_words z 0) → n ≡ written (zeroed z) l
unfolding written
zero-stored l m n z at R p q =
    let t = total_of z in
    let same = total-is z at R.sizes in
    let k = t - header_size in
    let rest = drop t l in
    let e : t ≡ header_size + k = omega (arith, R) in
    let split : zeros t ≡ zeros header_size ++ zeros k =
    ap zeros e ∙ sym (replicate-append-replicate header_size k 0) in
    let whole : m ≡ zeros header_size ++ zeros k ++ rest =
    p ∙ ap (λ (j : ℕ). put l 0 j (λ _. 0)) same
    ∙ filled l t (omega (arith, R.fits)) ∙ ap (λ (x : List ℕ). x ++ rest) split in
    q ∙ ap (λ (x : List ℕ). sets x 0 (header_words z 0)) whole
    ∙ headed z k rest ∙ ap (λ (x : List ℕ). x ++ rest) (sym (zero-words z k e))

-- ---- the allowances

-- The sites of a store, the first n of them with an allowance.
abbrev allowed : Store → ℕ → ℕ → ℕ → Site
allowed s k n o = cond (ltb o n) (site_allowed (s.site o) k) (s.site o)

one_more : (s : Store) (k n : ℕ) → put_at (allowed s k n) n (site_allowed (allowed s k n n) k)
    ≡ allowed s k (suc n)
unfolding put_at
one_more s k n =
    fun_ext (λ o. test (eqb o n)
    (λ y. let e : o ≡ n = eqb-eq o n y in
    rw (y, e, ge-ltb n n (omega arith), lt-ltb n (suc n) (omega arith))) (λ y. rw y (same o y)))
  where
    same : (o : ℕ) → eqb o n ≡ false → allowed s k n o ≡ allowed s k (suc n) o
    same o y =
        let ne = eqb-ne o n y in
        ⊎_elim (λ h. rw (lt-ltb o n h, lt-ltb o (suc n) (omega arith)))
        (λ h. rw (ge-ltb o n h, ge-ltb o (suc n) (omega (arith, ne)))) (below_or_not o n)

allowances : (s : Store) (l : List ℕ) (n : ℕ) → n ≤ s.counts.sites
    → allowances_put s.counts n (written s l)
    ≡ written (with_sites s (allowed s s.counts.keys n)) l
unfolding fold_below with_sites
allowances s l zero h =
    ap (λ (f : ℕ → Site). written (with_sites s f) l)
    (fun_ext (λ o. rw (ge-ltb o 0 (omega arith))))
allowances s l (suc n) h =
    let z = s.counts in
    let t = with_sites s (allowed s z.keys n) in
    ap (λ (m : List ℕ). set m (allowance_at z (site_at z n)) z.keys)
    (allowances s l n (omega arith)) ∙ put-allowance t l n z.keys (omega arith)
    ∙ ap (λ (f : ℕ → Site). written (with_sites s f) l) (one_more s z.keys n)

-- All of them, and the tail: a fresh store.
abbrev all_allowed : Counts → Store
all_allowed z = with_sites (zeroed z) (allowed (zeroed z) z.keys z.sites)

all-allowed : (z : Counts) → with_tail_of (all_allowed z) (fresh_tail z) ≡ fresh z
unfolding fresh with_sites with_tail_of
all-allowed z =
    ap (λ (f : ℕ → Site). with_tail_of (with_sites (zeroed z) f) (fresh_tail z))
    (fun_ext (λ o. test (ltb o z.sites) (λ y. rw y) (λ y. rw y)))

pub fresh-stored : (l m n k o : List ℕ) (z : Counts) (at : Sizes) → Room (length l) z at
    → m ≡ put l 0 at.total (λ _. 0) → n ≡ sets m 0 (header_words z 0)
    → k ≡ allowances_put z z.sites n → o ≡ sets k at.tail (tail_words z (fresh_tail z))
    → o ≡ written (fresh z) l
unfolding with_sites
fresh-stored l m n k o z at R p q a e =
    let b : k ≡ written (all_allowed z) l =
    a ∙ ap (allowances_put z z.sites) (zero-stored l m n z at R p q)
    ∙ allowances (zeroed z) l z.sites (omega arith) in
    let t = fresh_tail z in
    e ∙ ap₂ (λ (x : List ℕ) (i : ℕ). sets x i (tail_words z t)) b (tail-is z at R.sizes)
    ∙ put-tail (all_allowed z) l t
    ∙ ap (λ (s : Store). written s l) (all-allowed z)
