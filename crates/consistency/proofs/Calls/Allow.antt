-- The laws of allow: it keeps the invariant of demand 3, and leaves every run.
-- Assumes nothing.
use mathlib.Core.Path.{refl, subst}
use Prim.Native.Nat.{ℕ}
use Rattle.words.specs.Lists.{put_at}
use Rattle.words.proofs.Lists.{put_at_cases}
use Rattle.model.specs.Store.{Site, Store, site_allowed, with_sites}
use Rattle.model.specs.Calls.{allow}
use Rattle.model.specs.Calls.Allow.{allow_cause, allow_done, allow_rule}
use Rattle.layout.proofs.Follow.{Fine}
use Rattle.history.specs.Book.{book_rule, with_book_caches}
use Rattle.consistency.specs.Roles.{role_of}
use Rattle.consistency.specs.Trace.{finish_by, finish}
use Rattle.consistency.proofs.Simulation.{Related}
use Rattle.consistency.proofs.Laws.{Laws, laws-unless}
use Rattle.consistency.proofs.Following.{Stands, cache-related}
use Rattle.consistency.proofs.Changing.{inv-caches}

-- Every cache is what it was.
pub allow-laws : (o n : ℕ) (s : Store) → Fine s → Laws (allow o n) s (allow_rule o n s)
unfolding allow_rule allow_done book_rule with_book_caches finish finish_by role_of with_sites
allow-laws o n s _ =
    laws-unless (allow o n) s (allow_cause s o n) (allow_done s o n) (λ _.
    let K = s.counts.keys in
    let x = site_allowed (s.site o) n in
    record {
      moves = λ b f v. let F = v.follows in
          inv-caches v (put_at s.site o x) b.cache (λ i l. (
            put_at_cases (λ (y : Site). Related K (Stands s b) y.cache (b.cache i)) s.site o
                x i
                (λ e. subst (λ (j : ℕ). Related K (Stands s b) (s.site j).cache (b.cache i)) e
                (cache-related F i l))
                (λ _. cache-related F i l),
            F.closed i l,
          ));
      turns = refl;
    })
