-- Writers' counts. max_word: the largest. count_after: one more.
-- Assumes nothing.
use Rattle.std.specs.Prelude.{ℕ, ◌+◌}
use Rattle.clock.specs.declared.count.WriterCount.{WriterCount}

-- The largest word, so the largest count and issue number.
abbrev pub max_word : ℕ
max_word = 4294967295

-- "the writer's count" rises "by 1".
abbrev pub count_after : WriterCount → WriterCount
count_after c = record { 0 = c.0 + 1 }
