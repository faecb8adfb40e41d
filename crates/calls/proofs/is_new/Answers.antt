-- `is_new` tells it by the command's variant.
-- Assumes nothing.
-- The variants but new, by their place.
use mathlib.Core.Path.{◌≡◌, refl}
use mathlib.Core.Bool.{false}
use mathlib.Core.List.{List}
use Prim.Native.Nat.{ℕ}
use Rattle.layout.specs.Calls.{is_new}
use Rattle.command.specs.declared.Command.{Command}
use Rattle.command.specs.declared.Command.TheVariants.{Unread, New, Open, Fetch, Evict, Prepare, Step, Issue, Drop, Look, Explain, Stale, Admit, Allow, Pick, Mayhold, Maysave, Fork, Join, Forecast, Audit}
use Rattle.command.specs.Commands.{spelled}
use Rattle.calls.specs.Performs.{asks_new}
use Rattle.calls.proofs.is_new.Goals as goal

other : (k : Command) → ((a b d e : ℕ) → k ≡ New a b d e → ⊥)
    → (ws : List ℕ) → false ≡ asks_new (spelled k ws)
unfolding asks_new is_new
other (New a b d e) p ws = absurd (p a b d e refl)
other Unread p ws = refl
other (Open r i n) p ws = refl
other (Fetch o k) p ws = refl
other (Evict o k) p ws = refl
other (Prepare r) p ws = refl
other (Step r j n) p ws = refl
other (Issue r w m) p ws = refl
other (Drop r) p ws = refl
other (Look a i k) p ws = refl
other (Explain r j n) p ws = refl
other (Stale o) p ws = refl
other Admit p ws = refl
other (Allow o n) p ws = refl
other Pick p ws = refl
other (Mayhold o m) p ws = refl
other (Maysave w m) p ws = refl
other (Fork r) p ws = refl
other (Join r) p ws = refl
other (Forecast r) p ws = refl
other (Audit i n) p ws = refl

pub returns-in-New : goal.returns-in-New
unfolding asks_new is_new
returns-in-New c ws = rw c.in-New.is refl

pub returns-in_default : goal.returns-in_default
returns-in_default c ws = other c.args.command c.in_default.not-New ws
