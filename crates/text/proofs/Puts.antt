-- Bytes put after others.
-- put_both: two puts in a row put what they put, one after the other.
-- Assumes nothing.
use mathlib.Core.Path.{◌≡◌, ◌∙◌}
use mathlib.Core.List.{List, ◌++◌, append_assoc}
use Prim.Native.Nat.{ℕ}

pub put_both : (l a b : List ℕ) {m r : List ℕ} → m ≡ l ++ a → r ≡ m ++ b → r ≡ l ++ (a ++ b)
put_both l a b p q = q ∙ rw p (append_assoc l a b)
