-- The book that begins at an admission (CR 6): "with needs listed at admission in place of the
-- earlier history".
-- base_of: what it takes over. admitted_copy, admitted_place, admitted_run: what stands on the
-- store.
-- admitted_book: all of it.
-- Assumes nothing.
use Rattle.std.specs.Prelude.{[]}
use Rattle.words.specs.Tests.{none}
use Rattle.masks.specs.Mask.{test_bit}
use Rattle.model.specs.Algebra.{Place}
use Rattle.model.specs.Version.{Version}
use Rattle.model.specs.Store.{Branch, Run, Store}
use Rattle.history.specs.Listing.{Base, BookCopy}
use Rattle.history.specs.Book.{BookBranch, BookRun, Book}

unfoldable pub base_of : Store → Base
base_of s = record {
  last = s.last;
  count = λ w. (s.writer w).count;
  past = λ w. (s.writer w).past;
  saves = λ d. (s.master d).past d;
}

-- "a copy then admitted includes the saves that its own row counts, and behind them stand just
-- those in its own list"
abbrev pub admitted_copy : Version → BookCopy
admitted_copy v = record { later = none; rows = v.past; number = v.issue }

abbrev pub admitted_place : Place Version → Place BookCopy
admitted_place p k = admitted_copy (p k)

abbrev pub admitted_branch : Branch → BookBranch
admitted_branch x = record { read = test_bit x.read; snapshot = admitted_place x.snapshot }

unfoldable pub admitted_run : Run → BookRun
admitted_run a = record {
  jobs = a.jobs;
  job = a.job;
  branch = admitted_branch a.branch;
  second = admitted_branch a.second;
}

unfoldable pub admitted_book : Store → Book
admitted_book s = record {
  counts = s.counts;
  base = base_of s;
  history = [];
  master = admitted_place s.master;
  cache = λ o. admitted_place (s.site o).cache;
  run = λ r. admitted_run (s.run r);
}
