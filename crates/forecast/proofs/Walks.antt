-- The walk over the jobs of a run, turn by turn.
-- is-through: which answer means that all steps are done. Goes: the scratch on the way.
-- goes-start, goes_on, goes-stops, goes_end.
-- Assumes nothing.
use mathlib.Core.Path.{◌≡◌, refl, sym, ap, ◌∙◌}
use mathlib.Core.Bool.{So}
use mathlib.Core.Logic.{◌≢◌}
use mathlib.Core.List.{List, []}
use Prim.Native.Nat.{ℕ, ◌+◌, ◌≤◌, ◌<◌}
use native.Mathlib.Omega.{arith}
use Rattle.model.specs.Store.{Store}
use Rattle.model.specs.Calls.Forecast.{undone_at, Ended, through, breaks_at, turned_at, walk, forecast_walk}
use Rattle.model.proofs.Forecasts.{undone_from, undone-start, undone-end, undone-more, walk-append, walk-stopped}
use Rattle.layout.specs.Reading.{store_of}
use Rattle.layout.specs.Buffer.{written, in_form}
use Rattle.layout.proofs.Whole.{store_kept, store-back, written_twice}
use Rattle.layout.proofs.Follow.{fine-form, form-fine}
use Rattle.layout.proofs.Foreseeing.{walk_kept}
use Rattle.form.proofs.Known.{in_shape}
use Rattle.forecast.specs.declared.Foretold.{Foretold}
use Rattle.forecast.specs.Answers.{ended_of}
use Rattle.forecast.proofs.Turns.{Walks}

-- From the buffer l₀, over the jobs of n that a mask lacks, the walk has come to job j and the
-- buffer l.
pub record Goes (r finished n : ℕ) (l₀ : List ℕ) (j : ℕ) (l : List ℕ) : Type 0 where
  pub form : So (in_form l)
  pub counts : (store_of l).counts ≡ (store_of l₀).counts
  pub past : (t : Store) → t.counts ≡ (store_of l₀).counts → written t l ≡ written t l₀
  pub rest : walk r (undone_from finished n j) (store_of l) ≡ forecast_walk r (store_of l₀)

abbrev tag : Ended → ℕ
tag through = 0
tag (breaks_at j m) = 1
tag (turned_at j n) = 1

pub is-through : (x : Foretold) → ended_of x ≡ through → x ≡ Foretold.Through
unfolding ended_of
is-through Foretold.Through q = refl
is-through (Foretold.Breaks j m) q = absurd (omega (arith, ap tag q))
is-through (Foretold.Turned j r) q = absurd (omega (arith, ap tag q))

-- What the call answers, and what the scratch becomes.
abbrev pub Foretells : ℕ → List ℕ → Ended → List ℕ → Type 0
Foretells r l₀ x m =
    (x ≡ (forecast_walk r (store_of l₀)).ended)
    × (m ≡ written (forecast_walk r (store_of l₀)).store l₀)

pub goes-start : (r finished n : ℕ) (l : List ℕ) → So (in_form l)
    → n ≡ ((store_of l).run r).jobs → finished ≡ ((store_of l).run r).done → Goes r finished n l 0
    l
unfolding forecast_walk
goes-start r finished n l F e f = record {
  form = F;
  counts = refl;
  past = λ t _. refl;
  rest = rw (e, f, undone-start ((store_of l).run r));
}

module _ (r finished n : ℕ) (l₀ : List ℕ) (j : ℕ) (l : List ℕ) (G : Goes r finished n l₀ j l) where
  -- Nothing is left.
  pub goes_end : n ≤ j → Foretells r l₀ through l
  unfolding walk
  goes_end h =
      let e : walk r [] (store_of l) ≡ forecast_walk r (store_of l₀) =
      rw (undone-end finished n j h) at G.rest in
      rw (← e)
      (refl, sym (store_kept l (in_shape l G.form)) ∙ G.past (store_of l) G.counts)

  module _ (h : j < n) (x : Ended) (m : List ℕ) (W : Walks r (undone_at finished j) l x m) where
    -- The walk ends with this job,
    pub goes-stops : x ≢ through → Foretells r l₀ x m
    goes-stops q =
        let s = store_of l in
        let e : walk r (undone_at finished j) s ≡ forecast_walk r (store_of l₀) =
        sym (walk-stopped r (undone_from finished n (j + 1)) (undone_at finished j) s
        (λ y. q (W.0 ∙ y))) ∙ ap (λ js. walk r js s)
        (sym (undone-more finished n j h)) ∙ G.rest in
        let K = walk_kept r (undone_at finished j) s (form-fine l G.form) in
        rw (← e) (W.0, W.1 ∙ G.past _ (K.1 ∙ G.counts))

    -- or goes on.
    pub goes_on : x ≡ through → Goes r finished n l₀ (j + 1) m
    goes_on q =
        let s = store_of l in
        let js = undone_at finished j in
        let t = (walk r js s).store in
        let K = walk_kept r js s (form-fine l G.form) in
        let back : store_of m ≡ t = ap store_of W.1 ∙ store-back t l K.0.fits in
        let e : walk r (undone_from finished n (j + 1)) t ≡ forecast_walk r (store_of l₀) =
        sym (walk-append r (undone_from finished n (j + 1)) js s
        (sym W.0 ∙ q)) ∙ ap (λ js. walk r js s)
        (sym (undone-more finished n j h)) ∙ G.rest in
        record {
          form = rw W.1 (fine-form t l K.0);
          counts = ap (λ (u : Store). u.counts) back ∙ K.1 ∙ G.counts;
          past = λ u c. rw W.1 (written_twice t u l (c ∙ sym G.counts ∙ sym K.1)
              ∙ G.past u c);
          rest = rw back e;
        }
