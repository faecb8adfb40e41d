-- The layout's test in two parts, and where issues and reads stand.
-- layout-..: the parts. issues-in, read-..: indices.
-- Assumes nothing.
use mathlib.Core.Path.{◌≡◌, refl, ap}
use mathlib.Core.Bool.{Bool, true, false, ◌&&◌, So}
use mathlib.Core.Logic.{◌≢◌}
use Prim.Native.Nat.{ℕ, ◌+◌, ◌*◌, ◌≤◌, ◌<◌, ◌^◌}
use native.Mathlib.Omega.{arith}
use native.Mathlib.Nat.{mul-le-mul}
use lib.Dec.{leb}
use lib.ListN.{length}
use Rattle.words.proofs.Bools.{and_right, leb-le, le-leb, gt-leb, eq-eqb, ne_eqb}
use Rattle.records.specs.Format.{Record, keys_in, writers_in, issues_in, reads_in_of, issues_from, reads_from, total_in, read_at_of, layout_ok}
use Rattle.audit.specs.Parts.{counts_ok, areas_ok}

four-and : (p q r s t : Bool) → p && (q && (r && (s && t))) ≡ (p && (q && (r && s))) && t
four-and true true true s t = refl
four-and true true false s t = refl
four-and true false r s t = refl
four-and false q r s t = refl

layout-parts : (b : Record)
    → layout_ok b ≡ leb 7 (length b) && (counts_ok (keys_in b) (writers_in b) && areas_ok b)
unfolding layout_ok counts_ok areas_ok
layout-parts b =
    ap (λ (x : Bool). leb 7 (length b) && x)
    (four-and (leb 1 (keys_in b)) (leb (keys_in b) 32) (leb 1 (writers_in b)) (leb (writers_in b)
    16)
    _)

pub layout-short : (b : Record) → length b < 7 → false ≡ layout_ok b
layout-short b h = rw (layout-parts b, gt-leb 7 (length b) h)

pub layout-uncounted : (b : Record) → 7 ≤ length b → counts_ok (keys_in b) (writers_in b) ≡ false
    → false ≡ layout_ok b
layout-uncounted b h e = rw (layout-parts b, le-leb 7 (length b) h, e)

pub layout-counted : (b : Record) → 7 ≤ length b → So (counts_ok (keys_in b) (writers_in b))
    → areas_ok b ≡ layout_ok b
layout-counted b h e = rw (layout-parts b, le-leb 7 (length b) h, e)

pub writers-few : (k w : ℕ) → So (counts_ok k w) → w ≤ 16
unfolding counts_ok
writers-few k w p =
    leb-le w 16
    (and_right (leb 1 w) (leb w 16)
    (and_right (leb k 32) (leb 1 w && leb w 16)
    (and_right (leb 1 k) (leb k 32 && (leb 1 w && leb w 16)) p)))

-- So many words of so many reads.
pub reads-few : (q w : ℕ) → q < 2 ^ 32 → w ≤ 16 → q * (1 + w) ≤ 17 * 4294967296
reads-few q w h k =
    let h' : q ≤ 4294967296 = omega arith in
    let k' : 1 + w ≤ 17 = omega arith in
    let m : q * (1 + w) ≤ 4294967296 * 17 = mul-le-mul h' k' in
    omega arith

-- ---- where things stand

pub areas_moved : (b : Record) → issues_from b ≢ 7 → false ≡ areas_ok b
unfolding areas_ok
areas_moved b h = rw (ne_eqb (issues_from b) 7 h)

pub areas_apart : (b : Record) → issues_from b ≡ 7 → reads_from b ≢ 7 + 4 * issues_in b
    → false ≡ areas_ok b
unfolding areas_ok
areas_apart b a h = rw (eq-eqb (issues_from b) 7 a, ne_eqb (reads_from b) (7 + 4 * issues_in b) h)

pub areas_unended : (b : Record) → issues_from b ≡ 7 → reads_from b ≡ 7 + 4 * issues_in b
    → total_in b ≢ read_at_of b (reads_in_of b) → false ≡ areas_ok b
unfolding areas_ok
areas_unended b a r h =
    rw (
      eq-eqb (issues_from b) 7 a,
      eq-eqb (reads_from b) (7 + 4 * issues_in b) r,
      ne_eqb (total_in b) (read_at_of b (reads_in_of b)) h,
    )

pub areas_ended : (b : Record) → issues_from b ≡ 7 → reads_from b ≡ 7 + 4 * issues_in b
    → total_in b ≡ read_at_of b (reads_in_of b) → leb (total_in b) (length b) ≡ areas_ok b
unfolding areas_ok
areas_ended b a r t =
    rw (
      eq-eqb (issues_from b) 7 a,
      eq-eqb (reads_from b) (7 + 4 * issues_in b) r,
      eq-eqb (total_in b) (read_at_of b (reads_in_of b)) t,
    )
