-- What holds of a value after n steps of a relation.
-- folds-more: one step more. folds-keep: what the start has and each step keeps.
-- Assumes nothing.
use Rattle.std.proofs.Common.{subst, ℕ, zero, suc, ◌+◌, ◌<◌, add-one, arith}
use Rattle.audit.specs.Steps.{Folds}

module _ {T : Type 0} (R : ℕ → T → T → Type 0) where
  pub folds-more : (n : ℕ) (x y z : T) → Folds R n x y → R n y z → Folds R (n + 1) x z
  unfolding Folds
  folds-more n x y z f s = rw (add-one n) (y, f, s)

  pub folds-keep : (J : ℕ → T → Type 0) (n : ℕ) (x y : T) → Folds R n x y → J 0 x
      → ((r : ℕ) (s t : T) → r < n → J r s → R r s t → J (r + 1) t) → J n y
  unfolding Folds
  folds-keep J zero x y f j k = subst (J 0) f j
  folds-keep J (suc n) x y f j k =
      let m = folds-keep J n x f.0 f.1 j (λ r s t l. k r s t (omega arith)) in
      let h : J (n + 1) y = k n f.0 y (omega arith) m f.2 in
      rw (add-one n) at h
