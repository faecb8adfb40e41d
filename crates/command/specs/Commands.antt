-- The call that a command asks for, with the numbers that are lent beside it.
-- scratch_room: the scratch that is lent to a forecast. spelled: the call, none for `unread`.
-- numbers_end: where the numbers end that it uses.
-- Assumes nothing.
use Rattle.std.specs.Prelude.{List, ℕ, ◌+◌, take, drop}
use Rattle.std.proofs.Math.Option.{Option, none, some}
use Rattle.model.specs.Calls.{look, explain, stale, admit, forecast, open_run, fetch, evict, prepare, step, issue, drop_run, allow, pick, mayhold, maysave, fork, join, ask}
use Rattle.layout.specs.Calls.{Call, new, on}
use Rattle.records.specs.Audit.{audit_call}
use Rattle.command.specs.declared.Command.{Command}
use Rattle.command.specs.declared.Command.TheVariants.{Unread, New, Open, Fetch, Evict, Prepare, Step, Issue, Drop, Look, Explain, Stale, Admit, Allow, Pick, Mayhold, Maysave, Fork, Join, Forecast, Audit}

-- CR 12: "a scratch buffer of at least the desk's total": the program lends as many words as its
-- buffer has (crate script, `scratch-room`).
abbrev pub scratch_room : ℕ
scratch_room = 16384

-- Open's job words, and the words of audit's record, are the n from index i on.
abbrev pub spelled : Command → List ℕ → Option Call
spelled Unread l = none
spelled (New k w n p) l = some (new k w n p)
spelled (Open r i n) l = some (on (open_run r (take n (drop i l))))
spelled (Fetch o k) l = some (on (fetch o k))
spelled (Evict o k) l = some (on (evict o k))
spelled (Prepare r) l = some (on (prepare r))
spelled (Step r j n) l = some (on (step r j n))
spelled (Issue r w m) l = some (on (issue r w m))
spelled (Drop r) l = some (on (drop_run r))
spelled (Look p i k) l = some (on (ask (look p i k)))
spelled (Explain r j n) l = some (on (ask (explain r j n)))
spelled (Stale o) l = some (on (ask (stale o)))
spelled Admit l = some (on (ask admit))
spelled (Allow o n) l = some (on (allow o n))
spelled Pick l = some (on pick)
spelled (Mayhold o m) l = some (on (mayhold o m))
spelled (Maysave w m) l = some (on (maysave w m))
spelled (Fork r) l = some (on (fork r))
spelled (Join r) l = some (on (join r))
spelled (Forecast r) l = some (on (ask (forecast scratch_room r)))
spelled (Audit i n) l = some (audit_call (take n (drop i l)))

-- Open and audit alone use any.
abbrev pub numbers_end : Command → ℕ
numbers_end Unread = 0
numbers_end (New k w n p) = 0
numbers_end (Open r i n) = i + n
numbers_end (Fetch o k) = 0
numbers_end (Evict o k) = 0
numbers_end (Prepare r) = 0
numbers_end (Step r j n) = 0
numbers_end (Issue r w m) = 0
numbers_end (Drop r) = 0
numbers_end (Look p i k) = 0
numbers_end (Explain r j n) = 0
numbers_end (Stale o) = 0
numbers_end Admit = 0
numbers_end (Allow o n) = 0
numbers_end Pick = 0
numbers_end (Mayhold o m) = 0
numbers_end (Maysave w m) = 0
numbers_end (Fork r) = 0
numbers_end (Join r) = 0
numbers_end (Forecast r) = 0
numbers_end (Audit i n) = i + n
