-- `store_header` meets its contract: each word is a count or one of the sizes.
-- Assumes nothing.
-- Ten words that are the counts and the sizes are the header.
use mathlib.Core.Path.{◌≡◌, ap}
use mathlib.Core.List.{[], ◌∷◌}
use Prim.Native.Nat.{ℕ}
use lib.Seq.{sets}
use Rattle.sizes.specs.declared.Counts.{Counts}
use Rattle.sizes.specs.declared.Sizes.{Sizes}
use Rattle.sizes.specs.Bounds.{sizes_of}
use Rattle.layout.specs.Words.{header_words}
use Rattle.create.proofs.store_header.Goals as goal

header_is : (z : Counts) (at : Sizes) (a b c d e f g h i : ℕ) → at ≡ sizes_of z
    → a ≡ z.keys → b ≡ z.writers → c ≡ z.sites → d ≡ z.runs
    → e ≡ at.master → f ≡ at.sites → g ≡ at.writers → h ≡ at.runs → i ≡ at.total
    → a ∷ b ∷ c ∷ d ∷ 0 ∷ e ∷ f ∷ g ∷ h ∷ i ∷ [] ≡ header_words z 0
unfolding header_words sizes_of
header_is z at a b c d e f g h i s p q r t u v w x y = rw (p, q, r, t, u, v, w, x, y, s)

pub returns : goal.returns
returns c =
    ap (sets c.args.words.now 0)
    (header_is _ _ _ _ _ _ _ _ _ _ _ c.requires.sizes
    c.narrow.ensures c.narrow-2.ensures c.narrow-3.ensures c.narrow-4.ensures
    c.narrow-5.ensures c.narrow-6.ensures c.narrow-7.ensures c.narrow-8.ensures
    c.narrow-9.ensures)
