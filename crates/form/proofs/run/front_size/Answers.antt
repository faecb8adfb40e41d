-- `front_size` adds the size of a place to what stands before the snapshot.
-- Assumes nothing.
use native.Mathlib.Omega.{arith}
use Rattle.sizes.proofs.Offsets.{largest}
use Rattle.form.proofs.run.front_size.Goals as goal

pub overflow_add-result : goal.overflow_add-result
overflow_add-result c =
    omega (arith, c.place_size.ensures, (largest _ c.requires).place)
