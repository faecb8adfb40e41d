-- Laws of views, and of what a mask of keys stores.
-- view-..: a view. chosen: what a mask of keys stores.
-- Assumes nothing.
use mathlib.Core.Path.{◌≡◌, refl, ap, fun_ext}
use mathlib.Core.Bool.{Bool, true, false, cond}
use mathlib.Core.List.{List}
use Prim.Native.Nat.{ℕ}
use Rattle.words.specs.Tests.{Items}
use Rattle.masks.specs.Mask.{test_bit, mask_below}
use Rattle.masks.proofs.Sets.{test-mask}
use Rattle.sizes.specs.declared.Counts.{Counts}
use Rattle.model.specs.Algebra.{Place}
use Rattle.model.specs.Version.{Version}
use Rattle.layout.specs.Reading.{read_place}
use Rattle.layout.specs.Stored.{put_place}
use Rattle.layout.proofs.Places.{place-ext}
use Rattle.version.specs.Places.{choice, Area}
use Rattle.sets.specs.declared.View.{View}
use Rattle.sets.specs.Draws.{view_at, viewed, DrawArea}

-- ---- views

pub view-key : (z : Counts) (l : List ℕ) (v : View) (k : ℕ)
    → viewed z l v k ≡ read_place z l (view_at v k) k
unfolding view_at viewed
view-key z l v k = go (test_bit v.mask k)
  where
    go : (b : Bool) → cond b (read_place z l v.first k) (read_place z l v.second k)
        ≡ read_place z l (cond b v.first v.second) k
    go true = refl
    go false = refl

pub view-area : (len : ℕ) (z : Counts) (target : ℕ) (v : View) → DrawArea len z target v
    → (k : ℕ) → Area len z (view_at v k)
unfolding view_at
view-area len z target v A k = go (test_bit v.mask k)
  where
    go : (b : Bool) → Area len z (cond b v.first v.second)
    go true = A.first_in
    go false = A.second_in

-- One place twice.
pub view-plain : (z : Counts) (l : List ℕ) (m at : ℕ)
    → viewed z l (record { mask = m; first = at; second = at }) ≡ read_place z l at
unfolding viewed
view-plain z l m at = fun_ext (λ k. go (test_bit m k) (read_place z l at k))
  where
    go : (b : Bool) (x : Version) → cond b x x ≡ x
    go true x = refl
    go false x = refl

-- ---- what a set of keys leaves

-- By the set's mask, or by the set.
pub chosen : (z : Counts) (l : List ℕ) (at m : ℕ) (S : Items) (p q : Place Version)
    → m ≡ mask_below z.keys S
    → put_place z l at (choice (test_bit m) p q) ≡ put_place z l at (choice S p q)
chosen z l at m S p q e =
    place-ext z l at (choice (test_bit m) p q) (choice S p q) (λ k i.
    let same : test_bit m k ≡ S k = rw e (test-mask z.keys S k i) in
    ap (λ (b : Bool). cond b (p k) (q k)) same)
