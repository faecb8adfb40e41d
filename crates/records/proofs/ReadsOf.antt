-- The reads of an issue: what is so of each, and of some (CR 14).
-- reads_all, reads_at: each. reads-some, reads-any: some.
-- Assumes nothing.
use mathlib.Core.Path.{refl}
use mathlib.Core.Bool.{So}
use Prim.Native.Nat.{ℕ, ◌+◌}
use Rattle.words.specs.Tests.{Items}
use Rattle.words.proofs.Tests.{any-intro, any_some, all-intro, all-at}
use Rattle.records.specs.Format.{Record, first_at, number_at, ReadOf, all_reads, any_read}

pub reads_all : (b : Record) (i : ℕ) (p : Items) → ((x : ℕ) → ReadOf b i x → So (p x))
    → So (all_reads b i p)
unfolding all_reads
reads_all b i p f =
    all-intro (number_at b i) (λ r. p (first_at b i + r)) (λ r l. f (first_at b i + r)
    (r, l, refl))

pub reads_at : (b : Record) (i : ℕ) (p : Items) → So (all_reads b i p) → (x : ℕ) → ReadOf b i x
    → So (p x)
unfolding all_reads
reads_at b i p a x m =
    rw m.2 (all-at (number_at b i) (λ r. p (first_at b i + r)) a m.0 m.1)

pub reads-some : (b : Record) (i : ℕ) (p : Items) → So (any_read b i p)
    → (x : ℕ) × ReadOf b i x × So (p x)
unfolding any_read
reads-some b i p a =
    let r = any_some (number_at b i) (λ r. p (first_at b i + r)) a in
    (first_at b i + r.0, (r.0, r.1, refl), r.2)

pub reads-any : (b : Record) (i : ℕ) (p : Items) (x : ℕ) → ReadOf b i x → So (p x)
    → So (any_read b i p)
unfolding any_read
reads-any b i p x m a =
    any-intro (number_at b i) (λ r. p (first_at b i + r)) m.0 m.1 (rw m.2 at a)
