-- The sites that the jobs of a run are at: uses_none, none; uses_more, one job after the other.
-- Assumes nothing.
use mathlib.Core.Path.{◌≡◌, ◌∙◌, fun_ext}
use Prim.Native.Nat.{ℕ, ◌+◌}
use lib.Dec.{eqb}
use Rattle.words.specs.Tests.{any_below}
use Rattle.words.proofs.Bools.{eqb-sym}
use Rattle.words.proofs.Tests.{any-more}
use Rattle.masks.specs.Mask.{test_bit, with_bit}
use Rattle.masks.proofs.Bits.{test-with, test-none}
use Rattle.model.specs.Store.{Job}
use Rattle.model.specs.Prepare.{uses_site}

pub uses_none : (job : ℕ → Job) → test_bit 0 ≡ uses_site 0 job
unfolding uses_site any_below
uses_none job = fun_ext (λ o. test-none o)

-- One job more.
pub uses_more : (job : ℕ → Job) (n m : ℕ) → test_bit m ≡ uses_site n job
    → test_bit (with_bit m (job n).site) ≡ uses_site (n + 1) job
unfolding uses_site
uses_more job n m e =
    fun_ext (λ o. test-with m (job n).site o
    ∙ rw (e, any-more (λ j. eqb (job j).site o) n, eqb-sym o (job n).site))
