-- `lister::small::put_call` puts the text of a call's words. Assumes nothing.
use mathlib.Core.Path.{ap, ◌∙◌}
use mathlib.Core.List.{List, ◌++◌}
use Prim.Native.Nat.{ℕ}
use lib.ListN.{take}
use Rattle.lister.specs.Numbered.{call_at}
use Rattle.lister.proofs.Smalls.{told_text}
use Rattle.lister.proofs.small.put_call.Goals as goal

pub returns : goal.returns
returns c =
    let p = c.put_words.ensures in
    let s = c.small_at-small in
    let a = c.args in (
      p.0,
      p.1
          ∙ ap (λ (t : List ℕ). take a.at a.out.now ++ t)
          (told_text (call_at a.i) s.result _ s.ensures),
    )
