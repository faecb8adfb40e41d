-- `lister::history_line` puts the script of its line's digits. Assumes nothing.
use mathlib.Core.Path.{ap, ◌∙◌}
use mathlib.Core.List.{List, ◌++◌}
use lib.ListN.{take}
use Rattle.model.specs.Calls.{StoreCall}
use Rattle.listing.specs.Lines.{whole_line}
use Rattle.lister.proofs.history_line.Goals as goal

pub returns : goal.returns
returns c =
    let a = c.args in
    let e = c.put_script.ensures in record {
      out_after = e.out_after
          ∙ ap (λ (cs : List StoreCall). take a.at a.out.now ++ whole_line cs)
          c.digits_of-n.ensures.digits_after;
      upper_bound = e.upper_bound;
    }
