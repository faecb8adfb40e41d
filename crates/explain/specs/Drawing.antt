-- The path of keys by what a trial found, and what is known of it.
-- source_of: the cache as the fetch would leave it. drawn_edge, drawn_start, drawn_path: the path.
-- Draws: where its places lie, and C. drawn_words: what is answered.
-- Assumes nothing.
use Rattle.std.specs.Prelude.{◌≡◌, cond, List, [], ◌∷◌, ℕ, ◌<◌, ◌^◌, eqb, length}
use Rattle.std.specs.Int.Bits.{bit_and}
use Rattle.words.specs.Tests.{Items}
use Rattle.masks.specs.Mask.{test_bit, mask_below}
use Rattle.reach.specs.Closure.{closure}
use Rattle.paths.specs.Path.{shortest_path}
use Rattle.sizes.specs.declared.Counts.{Counts}
use Rattle.model.specs.Algebra.{lacking}
use Rattle.model.specs.Version.{versions}
use Rattle.model.specs.Calls.Explain.{clear_word, path_word}
use Rattle.layout.specs.Reading.{read_place}
use Rattle.sets.specs.declared.View.{View}
use Rattle.sets.specs.declared.growth.Rule.{Rule}
use Rattle.sets.specs.Draws.{DrawArea}
use Rattle.sets.specs.Leads.{leads_to}
use Rattle.trial.specs.declared.Visit.{Visit}
use Rattle.trial.specs.declared.Trial.{Trial}

-- The cache as the step's fetch would leave it: the master's version for the keys of T.
abbrev pub source_of : Visit → Trial → View
source_of v t = record { mask = t.taken; first = v.master; second = v.cache }

-- The reads that the snapshot lacks.
unfoldable pub drawn_start : Counts → List ℕ → Visit → Items
drawn_start z l v =
    lacking (versions z.writers) z.keys (read_place z l v.snapshot) (test_bit v.reads)

module _ (z : Counts) (l : List ℕ) (v : Visit) (t : Trial) where
  -- A key of that cache draws in one of the plan.
  unfoldable pub drawn_edge : ℕ → Items
  drawn_edge = leads_to z l (Rule.Draw v.snapshot (source_of v t)) v.plan

  unfoldable pub drawn_path : List ℕ
  drawn_path = shortest_path z.keys drawn_edge (drawn_start z l v) (test_bit v.read)

  -- Clear where no key of C is read.
  unfoldable pub drawn_words : List ℕ
  drawn_words = cond (eqb (bit_and t.pulled v.read) 0) (clear_word ∷ []) (path_word ∷ drawn_path)

-- A visit whose places lie in the buffer, and a trial that has C.
pub record Draws (l : List ℕ) (z : Counts) (v : Visit) (t : Trial) : Type 0 where
  pub area : DrawArea (length l) z v.snapshot (source_of v t)
  pub reads : v.reads < 2 ^ z.keys
  pub read : v.read < 2 ^ z.keys
  pub pulled : t.pulled
      ≡ mask_below z.keys (closure z.keys (drawn_edge z l v t) (drawn_start z l v))
