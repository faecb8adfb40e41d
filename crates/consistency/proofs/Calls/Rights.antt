-- The laws of mayhold and maysave: they keep the invariant of demand 3, and leave every run.
-- Mayhold is evict, from the held keys that the mask lacks: the versions that are held and the
-- copies are of the same keys.
-- Assumes nothing.
use mathlib.Core.Path.{refl, ap}
use mathlib.Core.Bool.{Bool, not, ◌&&◌}
use Prim.Native.Nat.{ℕ, ◌<◌}
use native.Mathlib.Omega.{arith}
use Rattle.words.proofs.Bools.{leb-gt}
use Rattle.masks.specs.Mask.{test_bit}
use Rattle.model.specs.Algebra.{Algebra, Place}
use Rattle.model.specs.Version.{versions}
use Rattle.model.specs.Tail.{tail_hold, tail_save}
use Rattle.model.specs.Store.{Store, with_sites, with_cache, with_tail_of}
use Rattle.model.specs.Calls.{mayhold, maysave}
use Rattle.model.specs.Calls.Rights.{taken_away, right_cause, mayhold_cache, mayhold_done, mayhold_rule, maysave_rule}
use Rattle.model.proofs.Outcomes.{no-cause}
use Rattle.layout.proofs.Follow.{Fine}
use Rattle.history.specs.Listing.{book_copies}
use Rattle.history.specs.Book.{book_mayhold, book_rule}
use Rattle.consistency.specs.Roles.{role_of}
use Rattle.consistency.specs.Trace.{finish_by, finish}
use Rattle.consistency.proofs.Simulation.{Simulates, Agree, Related}
use Rattle.consistency.proofs.Following.{now-simulates, cache-related}
use Rattle.consistency.proofs.Laws.{Laws, laws-unless}
use Rattle.consistency.proofs.Calls.Caches.{evicted-next}
use Rattle.consistency.proofs.Calls.Pick.{inv-tail}

-- The keys that are held of two related places, and that a mask lacks.
away-same : {A B : Type 0} {X : Algebra A} {Y : Algebra B} {K : ℕ} {Rel : ℕ → A → B → Type 0}
    → Simulates X Y K Rel → (p : Place A) (q : Place B) (m : ℕ) → Related K Rel p q
    → Agree K (taken_away X p m) (taken_away Y q m)
unfolding taken_away
away-same L p q m r k l =
    ap (λ (b : Bool). b && not (test_bit m k)) (L.held k (p k) (q k) l (r k l))

pub mayhold-laws : (o m : ℕ) (s : Store) → Fine s → Laws (mayhold o m) s (mayhold_rule o m s)
unfolding mayhold_rule mayhold_done mayhold_cache right_cause book_rule book_mayhold finish
    finish_by
    role_of with_cache with_sites with_tail_of
mayhold-laws o m s _ =
    laws-unless (mayhold o m) s (right_cause s s.counts.sites o m) (mayhold_done s o m) (λ e.
    let l : o < s.counts.sites = leb-gt _ _ (no-cause _ 3 _ (omega arith) e).0 in
    let alg = versions s.counts.writers in
    record {
      moves = λ b f v. inv-tail
          (evicted-next o (taken_away alg (s.site o).cache m)
          (λ y. taken_away (book_copies y.keys y.writers b.history) (b.cache o) m) v l
          (away-same (now-simulates v.follows) (s.site o).cache (b.cache o) m
          (cache-related v.follows o l)))
          (tail_hold s.tail o m);
      turns = refl;
    })

pub maysave-laws : (w m : ℕ) (s : Store) → Fine s → Laws (maysave w m) s (maysave_rule w m s)
unfolding maysave_rule book_rule finish finish_by role_of with_tail_of
maysave-laws w m s _ =
    laws-unless (maysave w m) s (right_cause s s.counts.writers w m) _ (λ _.
    record { moves = λ b f v. inv-tail v (tail_save s.tail w m); turns = refl })
