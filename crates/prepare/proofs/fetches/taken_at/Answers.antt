-- `taken_at` finds T from what the cache lacks of the reads.
-- Assumes nothing.
use mathlib.Core.Path.{ap, ◌∙◌}
use native.Mathlib.Omega.{arith}
use lib.ListN.{length}
use Rattle.words.specs.Tests.{Items}
use Rattle.masks.specs.Mask.{mask_below}
use Rattle.masks.proofs.Sets.{mask_lt}
use Rattle.model.specs.Version.{versions}
use Rattle.model.specs.Sets.{fetch_set}
use Rattle.layout.specs.Reading.{store_of}
use Rattle.version.proofs.Stores.{site-area}
use Rattle.form.proofs.Known.{form-area}
use Rattle.prepare.specs.Turns.{taken_at_of}
use Rattle.prepare.proofs.Fetching.{reads-low, start_as}
use Rattle.prepare.proofs.fetches.taken_at.Goals as goal

pub site_at-at-requires : goal.site_at-at-requires
site_at-at-requires c =
    record {
      ranged = (form-area _ _ c.requires.0.form).ranged;
      o_lt_sites = c.requires.1;
    }

pub lacking-start-requires : goal.lacking-start-requires
lacking-start-requires c =
    let a = c.args in
    let R = form-area a.words.now a.z c.requires.0.form in record {
      area = rw c.site_at-at.ensures
          (site-area (length a.words.now) a.z R.ranged R.fits a.o c.requires.1);
      mask_bound = rw c.reads_at-reads.ensures (reads-low a.words.now a.z a.r c.requires.0 a.o);
    }

pub find_taken-requires : goal.find_taken-requires
find_taken-requires c =
    record {
      form_with = (c.requires.0.form, c.requires.1);
      start_bound = rw c.lacking-start.ensures (mask_lt c.args.z.keys _ c.args.z.keys
          (omega arith));
    }

pub returns : goal.returns
unfolding taken_at_of
returns c =
    let a = c.args in
    let l = a.words.now in
    c.find_taken.ensures
    ∙ ap (λ (S : Items). mask_below a.z.keys (fetch_set (versions a.z.writers) a.z.keys
    (store_of l).master ((store_of l).site a.o).cache S))
    (start_as l a.z a.r c.requires.0 a.o _ _ _ c.requires.1 c.site_at-at.ensures
    c.reads_at-reads.ensures c.lacking-start.ensures)
