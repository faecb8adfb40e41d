-- The answer of explain in words.
-- explained_words: so. Listed: the keys of a path are there.
-- Assumes nothing.
use Rattle.std.specs.Prelude.{List, [], ◌∷◌, ℕ, ◌≤◌, length, Option, Some, None, Result, Ok, Err}
use Rattle.answers.specs.declared.refusal.Refusal.{Refusal}
use Rattle.answers.specs.Refusals.{refusal_number}
use Rattle.words.specs.Lists.{window}
use Rattle.paths.specs.declared.ItemPath.{ItemPath}
use Rattle.model.specs.Calls.Explain.{clear_word, path_word}

-- "clear", a path, or the cause's number.
unfoldable pub explained_words : Result (Option ItemPath) Refusal → List ℕ
explained_words (Ok None) = clear_word ∷ []
explained_words (Ok (Some p)) = path_word ∷ window p.items 0 p.count
explained_words (Err r) = 2 ∷ refusal_number r ∷ []

-- The keys of a path are there, and no more than an answer holds.
unfoldable pub Listed : Result (Option ItemPath) Refusal → Type 0
Listed (Ok None) = Unit
Listed (Ok (Some p)) = (p.count ≤ length p.items) × (p.count ≤ 32)
Listed (Err r) = Unit
