-- `zero` fills a part of the words with 0.
-- Assumes nothing.
use mathlib.Core.Path.{◌∙◌, ap}
use lib.ListN.{get_or}
use Rattle.std.proofs.Common.{rules}
use Rattle.std.proofs.lemmas.List.{places}
use Rattle.words.proofs.Words.{put-part}
use Rattle.words.proofs.zero.Goals as goal

pub returns : goal.returns
returns c =
    let a = c.args in
    put-part a.words.now a.at a.n (λ _. 0) c.fill.new.self c.requires
    (c.fill.ensures.len ∙ search (rules, places))
    (λ i h. ap (λ l. get_or l i 0) (c.fill.ensures.after (λ _ e. e)) ∙ search (rules, places))
