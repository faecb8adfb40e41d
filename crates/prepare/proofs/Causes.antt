-- The causes of prepare, as the code tests them.
-- cause-..: a cause found, or none. used-run: where none of those that calls on a run share is,
-- the run isn't free.
-- Assumes nothing.
use mathlib.Core.Path.{◌≡◌, refl, sym, ap, ◌∙◌}
use mathlib.Core.Bool.{Bool, true, false, cond, not, So}
use mathlib.Core.Logic.{◌≢◌}
use mathlib.Core.List.{List}
use Prim.Native.Nat.{ℕ}
use native.Mathlib.Omega.{arith}
use lib.Dec.{eqb, leb}
use Rattle.words.proofs.Bools.{ne_eqb}
use Rattle.sizes.specs.declared.Counts.{Counts}
use Rattle.model.specs.Version.{versions}
use Rattle.model.specs.Store.{forked_mark, Store}
use Rattle.model.specs.Outcome.{refuse, allowed, prepare_row, run_cause}
use Rattle.model.specs.Prepare.{unentitled, unpreparable, site_caches, any_over, prepare_caches, prepare_cause}
use Rattle.model.proofs.Outcomes.{no-cause, no-lack, allowed-used, run-rest}
use Rattle.layout.specs.Reading.{store_of}
use Rattle.form.specs.Parts.{FormWith}
use Rattle.form.proofs.Known.{form-counts}
use Rattle.status.proofs.Known.{cause-below}
use Rattle.trial.specs.Jobs.{UsedRun}
use Rattle.prepare.specs.Turns.{early_cause}

-- ---- those that the run decides

early-rest : (s : Store) (r n : ℕ)
    → early_cause s r n ≡ cond (eqb (early_cause s r 0) 0) n (early_cause s r 0)
unfolding early_cause run_cause refuse
early-rest s r n =
    go (leb s.counts.runs r) (not (allowed prepare_row (s.run r).state))
    (eqb (s.run r).mark forked_mark) (not (eqb (s.run r).done 0))
  where
    go : (a b c d : Bool) → refuse a 3 (refuse b 4 (refuse c 14 (refuse d 6 n)))
        ≡ cond (eqb (refuse a 3 (refuse b 4 (refuse c 14 (refuse d 6 0)))) 0) n
        (refuse a 3 (refuse b 4 (refuse c 14 (refuse d 6 0))))
    go true b c d = refl
    go false true c d = refl
    go false false true d = refl
    go false false false true = refl
    go false false false false = refl

-- n: what the code finds of the run.
pub cause-run : (s : Store) (r n : ℕ) → n ≡ run_cause s prepare_row r 0 → n ≢ 0
    → n ≡ early_cause s r 0
unfolding early_cause
cause-run s r n e h = rw (run-rest s prepare_row r _, ← e, ne_eqb n 0 h)

-- a, b: what it finds of the mark and of the done mask.
pub cause-words : (s : Store) (r : ℕ) (a b : Bool) → run_cause s prepare_row r 0 ≡ 0
    → a ≡ eqb (s.run r).mark forked_mark → b ≡ not (eqb (s.run r).done 0)
    → refuse a 14 (refuse b 6 0) ≡ early_cause s r 0
unfolding early_cause
cause-words s r a b e f g = rw (run-rest s prepare_row r _, e, ← f, ← g)

-- ---- all of them

prepare-cause : (s : Store) (r : ℕ) → let z = s.counts in
    let a = s.run r in
    prepare_cause s r
    ≡ early_cause s r
    (refuse (unentitled (versions z.writers) z.keys s.master a.job s.tail.may_hold
    a.jobs (site_caches s)) 13
    (refuse (unpreparable (versions z.writers) z.keys s.master a.job a.jobs
    (site_caches s)) 7
    (refuse (any_over s (prepare_caches s r)) 12 0)))
unfolding prepare_cause early_cause
prepare-cause s r = refl

pub cause-early : (s : Store) (r n : ℕ) → n ≡ early_cause s r 0 → n ≢ 0 → n ≡ prepare_cause s r
cause-early s r n e h = rw (prepare-cause s r, early-rest s r _, ← e, ne_eqb n 0 h)

-- a, b, c: what it finds of the rights to the keys to be fetched, of these keys, and of the sites
-- that take them.
module _ (l : List ℕ) (z : Counts) (r : ℕ) (a b : Bool) (H : FormWith l z)
    (e : early_cause (store_of l) r 0 ≡ 0)
    (d : a ≡ unentitled (versions z.writers) z.keys (store_of l).master
    ((store_of l).run r).job (store_of l).tail.may_hold ((store_of l).run r).jobs
    (site_caches (store_of l)))
    (f : b ≡ unpreparable (versions z.writers) z.keys (store_of l).master
    ((store_of l).run r).job ((store_of l).run r).jobs (site_caches (store_of l))) where
  rest : prepare_cause (store_of l) r
      ≡ refuse a 13
      (refuse b 7 (refuse (any_over (store_of l) (prepare_caches (store_of l) r)) 12 0))
  rest =
      let s = store_of l in
      let same = sym (form-counts l z H) in
      let g = d ∙ ap (λ (y : Counts). unentitled (versions y.writers) y.keys s.master
      (s.run r).job s.tail.may_hold (s.run r).jobs (site_caches s)) same in
      let h = f ∙ ap (λ (y : Counts). unpreparable (versions y.writers) y.keys s.master
      (s.run r).job (s.run r).jobs (site_caches s)) same in
      rw (prepare-cause s r, early-rest s r _, e, ← g, ← h)

  pub cause-barred : So a → 13 ≡ prepare_cause (store_of l) r
  unfolding refuse
  cause-barred x = rw (rest, x)

  pub cause-lacks : a ≡ false → So b → 7 ≡ prepare_cause (store_of l) r
  unfolding refuse
  cause-lacks m y = rw (rest, m, y)

  pub cause-over : a ≡ false → b ≡ false → (c : Bool)
      → c ≡ any_over (store_of l) (prepare_caches (store_of l) r)
      → refuse c 12 0 ≡ prepare_cause (store_of l) r
  unfolding refuse
  cause-over m n c g = rw (rest, m, n, ← g)

pub used-run : (l : List ℕ) (z : Counts) (r : ℕ) → FormWith l z
    → run_cause (store_of l) prepare_row r 0 ≡ 0 → UsedRun l z r
unfolding run_cause allowed
used-run l z r H e =
    let a = no-cause (leb (store_of l).counts.runs r) 3 _ (omega arith) e in
    let b = no-lack (allowed prepare_row ((store_of l).run r).state) 4 _ (omega arith) a.1 in
    record {
      form = H;
      run = cause-below l z prepare_row r H e;
      used = allowed-used prepare_row ((store_of l).run r).state refl b.0;
    }

-- No early cause: the run passes.
pub no-run-cause : (s : Store) (r : ℕ) → early_cause s r 0 ≡ 0 → run_cause s prepare_row r 0 ≡ 0
unfolding early_cause run_cause refuse
no-run-cause s r e =
    let a = no-cause (leb s.counts.runs r) 3 _ (omega arith) e in
    let b = no-lack (allowed prepare_row (s.run r).state) 4 _ (omega arith) a.1 in
    rw (a.0, b.0)
