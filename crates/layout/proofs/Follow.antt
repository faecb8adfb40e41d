-- A buffer follows a machine on stores.
-- Fine: a store that a buffer in form can hold.
-- fine-..: what a call does to a buffer with a fine store in it.
-- Assumes nothing.
use mathlib.Core.Path.{◌≡◌, refl}
use mathlib.Core.Bool.{So}
use mathlib.Core.List.{List}
use Prim.Native.Nat.{ℕ}
use Rattle.words.proofs.Bools.{and_intro, and_left, and_right}
use Rattle.sizes.specs.Bounds.{Ranged}
use Rattle.model.specs.Store.{Store}
use Rattle.model.specs.Form.{well_formed}
use Rattle.model.specs.Outcome.{Outcome, refused, broken, done, told}
use Rattle.model.specs.Calls.{StoreCall, rule_of}
use Rattle.model.proofs.Outcomes.{next_store}
use Rattle.layout.specs.Reading.{store_of}
use Rattle.layout.specs.Buffer.{written, shaped, in_form}
use Rattle.layout.specs.Calls.{on, on_store, call_on, leaves}
use Rattle.layout.proofs.Shapes.{shaped_out}
use Rattle.layout.proofs.Whole.{FitStore, store-fits, store-back, written-shaped, written_twice}

-- Nothing outside of the counts, which are in range, and well formed.
pub record Fine (s : Store) : Type 0 where
  pub fits : FitStore s
  pub counts : Ranged s.counts
  pub formed : So (well_formed s)

-- ---- a buffer with a fine store in it

pub fine-form : (s : Store) (l : List ℕ) → Fine s → So (in_form (written s l))
unfolding in_form
fine-form s l F =
    and_intro (written-shaped s l F.counts) (rw (store-back s l F.fits) F.formed)

pub fine_rule : (c : StoreCall) (s : Store) (l : List ℕ) → Fine s
    → call_on (on c) (written s l) ≡ rule_of c s
unfolding call_on on_store
fine_rule c s l F = rw (fine-form s l F, store-back s l F.fits)

left : (x : Outcome) (s : Store) (l : List ℕ) → (next_store x s).counts ≡ s.counts
    → leaves x (written s l) ≡ written (next_store x s) l
unfolding leaves
left (refused n) s l e = refl
left (broken m t) s l e = written_twice s t l e
left (done a t) s l e = written_twice s t l e
left (told w a) s l e = refl

pub fine-leaves : (c : StoreCall) (s : Store) (l : List ℕ) → Fine s
    → (next_store (rule_of c s) s).counts ≡ s.counts
    → leaves (call_on (on c) (written s l)) (written s l) ≡ written (next_store (rule_of c s) s) l
fine-leaves c s l F e = rw (fine_rule c s l F) (left (rule_of c s) s l e)

-- A buffer in form holds a fine store.
pub form-fine : (l : List ℕ) → So (in_form l) → Fine (store_of l)
unfolding in_form store_of
form-fine l p = record {
  fits = store-fits l;
  counts = (shaped_out l (and_left (shaped l) (well_formed (store_of l)) p)).counts;
  formed = and_right (shaped l) (well_formed (store_of l)) p;
}
