-- Allow keeps a store fine.
-- Assumes nothing.
use mathlib.Core.Path.{refl}
use Prim.Native.Nat.{ℕ, ◌<◌}
use native.Mathlib.Omega.{arith}
use Rattle.words.proofs.Bools.{leb-gt, ltb-ge}
use Rattle.model.specs.Store.{Store, site_allowed, with_sites, with_site}
use Rattle.model.specs.Calls.Allow.{allow_cause, allow_done, allow_rule}
use Rattle.model.proofs.Outcomes.{no-cause}
use Rattle.model.proofs.Formed.{well-out}
use Rattle.model.proofs.FormedNext.{formed-allowed}
use Rattle.layout.proofs.Fit.{fit-allowed}
use Rattle.layout.proofs.Follow.{Fine}
use Rattle.layout.proofs.Kept.{Kept, kept-done, kept-unless}

pub allow-kept : (o n : ℕ) (s : Store) → Fine s → Kept s (allow_rule o n s)
unfolding allow_rule allow_done allow_cause with_sites
allow-kept o n s F =
    kept-unless s (allow_cause s o n) (allow_done s o n) F (λ e.
    let a = no-cause _ 3 _ (omega arith) e in
    let b = no-cause _ 3 _ (omega arith) a.1 in
    let c = no-cause _ 12 0 (omega arith) b.1 in
    let h : o < s.counts.sites = leb-gt _ _ a.0 in
    kept-done s (with_site s o (site_allowed (s.site o) n)) _ F (fit-allowed s F.fits o n h)
    (formed-allowed s (well-out s F.formed) o n (ltb-ge _ _ b.0) (ltb-ge _ _ c.0)) refl)
