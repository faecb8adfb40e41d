-- An issue number and a writer's count, raised by an issue.
-- Assumes nothing.
use Rattle.std.specs.Prelude.{◌+◌}
use Rattle.clock.specs.declared.count.WriterCount.{WriterCount}
use Rattle.clock.specs.Count.{count_after}
use Rattle.numbers.specs.declared.IssueNumber.{IssueNumber}
use Rattle.numbers.specs.declared.Tally.{Tally}

abbrev pub issue_after : IssueNumber → IssueNumber
issue_after i = record { 0 = i.0 + 1 }

abbrev pub risen : IssueNumber → WriterCount → Tally
risen i c = record { issue = issue_after i; count = count_after c }
