-- A run on the way to be joined.
-- Assumes nothing.
use Rattle.std.specs.Prelude.{ℕ}
use Rattle.model.specs.Store.{Run, Store, run_with}
use Rattle.model.specs.Calls.Fork.{joined_branch}

-- Its first branch has taken in the second, which is still there.
abbrev pub merged_run : Store → ℕ → Run
merged_run s r =
    let a = s.run r in run_with a a.state a.done (joined_branch s r) a.mark a.second
