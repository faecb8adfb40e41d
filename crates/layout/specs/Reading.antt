-- What the words of a buffer stand for: the part that begins at an index, and the store.
-- Readers stop at the counts: beyond them a part is what stands where nothing does.
-- Assumes nothing.
use Rattle.std.specs.Prelude.{List, ℕ, ◌+◌, ◌*◌, get_or}
use Rattle.words.specs.Lists.{upto}
use Rattle.clock.specs.Clock.{Clock}
use Rattle.sizes.specs.Bounds.{leaders_offset, past_offset, writer_past_offset, keys_offset, writers_offset, sites_offset, runs_offset, last_offset, version_size, site_size, writer_size, run_front, run_size, master_at, sites_at, writers_at, runs_at, tail_at, stale_at, allowance_at}
use Rattle.sizes.specs.Runs.{max_jobs, job_size, reads_offset, upstream_offset, jobs_offset, done_offset, read_offset, plan_offset, snapshot_offset, second_read_offset, second_offset}
use Rattle.sizes.specs.declared.Counts.{Counts}
use Rattle.model.specs.Algebra.{Place}
use Rattle.model.specs.Version.{Version, unheld}
use Rattle.model.specs.Tail.{Tail}
use Rattle.model.specs.Store.{Writer, Job, Run, Site, Store, no_writer, no_job, no_site, free_run}

abbrev pub read_word_of : List ℕ → ℕ → ℕ
read_word_of l at = get_or l at 0

unfoldable pub read_clock : Counts → List ℕ → ℕ → Clock
read_clock z l at = upto z.writers 0 (λ w. read_word_of l (at + w * 1))

unfoldable pub read_past_of : Counts → List ℕ → ℕ → ℕ → Clock
read_past_of z l at = upto z.keys (λ w. 0) (λ d. read_clock z l (at + d * z.writers))

unfoldable pub read_version : Counts → List ℕ → ℕ → Version
read_version z l at = record {
  issue = read_word_of l at;
  leaders = read_word_of l (at + leaders_offset);
  past = read_past_of z l (at + past_offset);
}

unfoldable pub read_place : Counts → List ℕ → ℕ → Place Version
read_place z l at = upto z.keys unheld (λ k. read_version z l (at + k * version_size z))

unfoldable pub read_site : Counts → List ℕ → ℕ → Site
read_site z l at = record {
  cache = read_place z l at;
  stale = read_word_of l (stale_at z at);
  allowance = read_word_of l (allowance_at z at);
}

unfoldable pub read_writer : Counts → List ℕ → ℕ → Writer
read_writer z l at =
    record { count = read_word_of l at; past = read_past_of z l (at + writer_past_offset) }

unfoldable pub read_job : List ℕ → ℕ → Job
read_job l at = record {
  site = read_word_of l at;
  reads = read_word_of l (at + reads_offset);
  upstream = read_word_of l (at + upstream_offset);
}

unfoldable pub read_jobs : List ℕ → ℕ → ℕ → Job
read_jobs l at = upto max_jobs no_job (λ i. read_job l (at + i * job_size))

unfoldable pub read_run : Counts → List ℕ → ℕ → Run
read_run z l at = record {
  state = read_word_of l at;
  jobs = read_word_of l (at + jobs_offset);
  done = read_word_of l (at + done_offset);
  job = read_jobs l (at + plan_offset);
  branch = record {
    read = read_word_of l (at + read_offset);
    snapshot = read_place z l (at + snapshot_offset);
  };
  mark = read_word_of l (at + run_front z);
  second = record {
    read = read_word_of l (at + (run_front z + second_read_offset));
    snapshot = read_place z l (at + (run_front z + second_offset));
  };
}

unfoldable pub read_masks : ℕ → List ℕ → ℕ → ℕ → ℕ
read_masks n l at = upto n 0 (λ i. read_word_of l (at + i * 1))

unfoldable pub read_tail_of : Counts → List ℕ → ℕ → Tail
read_tail_of z l at = record {
  round = read_word_of l at;
  may_hold = read_masks z.sites l (at + 1);
  may_save = read_masks z.writers l (at + 1 + z.sites);
}

-- The counts in the header.
unfoldable pub counts_in : List ℕ → Counts
counts_in l = record {
  keys = read_word_of l keys_offset;
  writers = read_word_of l writers_offset;
  sites = read_word_of l sites_offset;
  runs = read_word_of l runs_offset;
}

-- The store in the first words of a buffer.
unfoldable pub store_of : List ℕ → Store
store_of l =
    let z = counts_in l in
    record {
      counts = z;
      last = read_word_of l last_offset;
      master = read_place z l (master_at z);
      site = upto z.sites no_site (λ o. read_site z l (sites_at z + o * site_size z));
      writer = upto z.writers no_writer (λ w. read_writer z l (writers_at z + w * writer_size z));
      run = upto z.runs free_run (λ r. read_run z l (runs_at z + r * run_size z));
      tail = read_tail_of z l (tail_at z);
    }
