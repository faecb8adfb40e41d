-- Sets of saves, counted.
-- counted-issue, counted-row: the parts of a count. held_same: a version that is a set counted is
-- held where the set is. counted-unheld, counted_none: not held. counted-rows, counted-issues: a
-- union.
-- Assumes nothing.
use mathlib.Core.Path.{◌≡◌, refl, sym, ap, ap₂, ◌∙◌, fun_ext}
use mathlib.Core.Bool.{false}
use Prim.Native.Nat.{ℕ, max}
use native.Mathlib.Omega.{arith}
use native.Mathlib.Decide.{dec_le}
use lib.ListN.{length}
use Rattle.words.specs.Tests.{none}
use Rattle.words.proofs.Bools.{clash, same_test}
use Rattle.words.proofs.Tests.{any-no}
use Rattle.clock.specs.Clock.{join}
use Rattle.model.specs.Version.{Version, unheld, held}
use Rattle.model.proofs.Merges.{held-iff}
use Rattle.history.specs.History.{History}
use Rattle.history.specs.Copies.{Copy, CountedAs, reaches, held_copy, union, last_in, counted}
use Rattle.history.proofs.Tally.{last-at, last_some, last-union, tally, tally-union, tally-none}
use Rattle.history.proofs.Reached.{reaches-union, reaches-unheld, copy-held}

module _ (K : ℕ) (h : History) where
  pub counted-issue : (c : Copy) → (counted K h c).issue ≡ last_in K h c
  unfolding counted
  counted-issue c = refl

  pub counted-row : (c : Copy) (d : ℕ) → (counted K h c).past d ≡ tally K h (reaches K h c d)
  unfolding counted tally
  counted-row c d = refl

  -- ---- held

  pub held_same : (v : Version) (c : Copy) → CountedAs v (counted K h c)
      → held v ≡ held_copy K h c
  held_same v c e =
      same_test
      (λ p.
      let o = (held-iff v).0 p in
      (copy-held K h c).1 (last_some K h c (omega (arith, e.issue, counted-issue c))))
      (λ p.
      let r = (copy-held K h c).0 p in
      let o = last-at K h c r.0 r.1 r.2 in
      (held-iff v).1 (omega (arith, e.issue, counted-issue c)))

  -- A copy that is not held counts as nothing.
  pub counted-unheld : (c : Copy) → held_copy K h c ≡ false → CountedAs unheld (counted K h c)
  counted-unheld c n = record {
    issue = elim (dec_le 1 (last_in K h c)) [
      | yes y ↦ clash ((copy-held K h c).1 (last_some K h c y)) n
      | no y ↦ omega (arith, counted-issue c)
    ];
    past = fun_ext (λ d. sym (counted-row c d
        ∙ tally-none K h (reaches K h c d) (λ j _. reaches-unheld K h c n d j)));
  }

  pub counted_none : CountedAs unheld (counted K h none)
  unfolding held_copy
  counted_none = counted-unheld none (any-no (length h) none (λ i l. refl))

  -- ---- a union

  pub counted-rows : (a b : Copy) (d : ℕ)
      → (counted K h (union K h a b)).past d ≡ join ((counted K h a).past d) ((counted K h b).past
      d)
  counted-rows a b d =
      counted-row (union K h a b) d
      ∙ ap (tally K h) (fun_ext (reaches-union K h a b d))
      ∙ tally-union K h (reaches K h a d) (reaches K h b d)
      ∙ ap₂ join (sym (counted-row a d)) (sym (counted-row b d))

  pub counted-issues : (a b : Copy)
      → (counted K h (union K h a b)).issue ≡ max (counted K h a).issue (counted K h b).issue
  unfolding union counted
  counted-issues a b = last-union K h a b
