-- Which commands are lent a scratch.
-- not-forecast: any command but forecast has none. lent_none, scratch-none, lent-some,
-- scratch-some: the call that is made, and what it leaves of the scratch.
-- Assumes nothing.
use mathlib.Core.Path.{◌≡◌, refl}
use mathlib.Core.List.{List}
use mathlib.Core.Option.{Option, none, some}
use Prim.Native.Nat.{ℕ, ◌≤◌}
use lib.ListN.{length}
use Rattle.words.proofs.Bools.{le-leb}
use Rattle.answers.specs.Answers.{answer_room}
use Rattle.model.specs.Calls.{forecast, ask}
use Rattle.layout.specs.Calls.{Call, on}
use Rattle.calls.specs.Performs.{scratch_after}
use Rattle.command.specs.declared.Command.{Command}
use Rattle.command.specs.declared.Command.TheVariants.{Unread, New, Open, Fetch, Evict, Prepare, Step, Issue, Drop, Look, Explain, Stale, Admit, Allow, Pick, Mayhold, Maysave, Fork, Join, Forecast, Audit}
use Rattle.command.specs.Commands.{spelled}
use Rattle.batch.specs.Lent.{query_forecast, store_forecast, forecast_of, lent_forecast, lent_call, scratch_leaves}

pub not-forecast : (k : Command) → ((r : ℕ) → k ≡ Forecast r → ⊥) → (ws : List ℕ)
    → forecast_of (spelled k ws) ≡ none
unfolding forecast_of store_forecast query_forecast
not-forecast (Forecast r) p ws = absurd (p r refl)
not-forecast Unread p ws = refl
not-forecast (New a b d e) p ws = refl
not-forecast (Open r i n) p ws = refl
not-forecast (Fetch o k) p ws = refl
not-forecast (Evict o k) p ws = refl
not-forecast (Prepare r) p ws = refl
not-forecast (Step r j n) p ws = refl
not-forecast (Issue r w m) p ws = refl
not-forecast (Drop r) p ws = refl
not-forecast (Look a i k) p ws = refl
not-forecast (Explain r j n) p ws = refl
not-forecast (Stale o) p ws = refl
not-forecast Admit p ws = refl
not-forecast (Allow o n) p ws = refl
not-forecast Pick p ws = refl
not-forecast (Mayhold o m) p ws = refl
not-forecast (Maysave w m) p ws = refl
not-forecast (Fork r) p ws = refl
not-forecast (Join r) p ws = refl
not-forecast (Audit i n) p ws = refl

-- ---- a call that is no forecast: as it was, and the scratch too

module _ (c : Option Call) (h : forecast_of c ≡ none) where
  pub lent_none : (n : ℕ) → lent_call n c ≡ c
  unfolding lent_forecast
  lent_none n = rw h refl

  pub scratch-none : (l m : List ℕ) → m ≡ scratch_leaves (forecast_of c) l m
  unfolding scratch_leaves
  scratch-none l m = rw h refl

-- ---- a forecast of run r, read from a line

module _ (k : Command) (r : ℕ) (e : k ≡ Forecast r) (ws : List ℕ) where
  pub lent-some : (n : ℕ) → some (on (ask (forecast n r))) ≡ lent_call n (spelled k ws)
  unfolding lent_forecast forecast_of store_forecast query_forecast
  lent-some n = rw e refl

  pub scratch-some : (l m a : List ℕ) → answer_room ≤ length a
      → scratch_after l m r a ≡ scratch_leaves (forecast_of (spelled k ws)) l m
  unfolding scratch_leaves forecast_of store_forecast query_forecast scratch_after
  scratch-some l m a h = rw (e, le-leb answer_room (length a) h) refl
