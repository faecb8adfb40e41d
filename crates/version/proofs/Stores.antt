-- Where the places of a store lie: the master, the caches and the snapshots.
-- ..-area: one of them. site-master, snapshot-site, snapshot-pair: target and source.
-- place-beside: a place is read beside one that was stored.
-- Assumes nothing.
use mathlib.Core.Path.{◌≡◌}
use mathlib.Core.List.{List}
use mathlib.Core.Logic.{◌⊎◌, inl, inr, ⊎_elim}
use Prim.Native.Nat.{ℕ, ◌+◌, ◌≤◌, ◌<◌}
use native.Mathlib.Omega.{arith}
use Rattle.sizes.specs.declared.Counts.{Counts}
use Rattle.sizes.specs.Bounds.{Ranged, place_size, site_size, master_at, site_at, snapshot_at, total_of}
use Rattle.sizes.proofs.Offsets.{ordered, site-lies, run_lies, snapshot-lies}
use Rattle.model.specs.Algebra.{Place}
use Rattle.model.specs.Version.{Version}
use Rattle.layout.specs.Words.{place_words}
use Rattle.layout.specs.Reading.{read_place}
use Rattle.layout.proofs.Parts.{place-laws}
use Rattle.layout.proofs.Windows.{part-beside}
use Rattle.version.proofs.Areas.{site-cache}
use Rattle.version.specs.Places.{Area, SiteArea, Areas}
use Rattle.layout.specs.Stored.{put_place}

pub place-beside : (z : Counts) (l : List ℕ) (at from : ℕ) (p : Place Version)
    → (at + place_size z ≤ from) ⊎ (from + place_size z ≤ at)
    → read_place z (put_place z l at p) from ≡ read_place z l from
place-beside z l at from p d =
    let long = (place-laws z).long p in
    part-beside (place-laws z) l (place_words z p) at from
    (⊎_elim (λ h. inr (omega arith)) (λ h. inl (omega arith)) d)

-- ---- the places of a store in a buffer of len words

module _ (len : ℕ) (z : Counts) (R : Ranged z) (fits : total_of z ≤ len) where
  pub master-area : Area len z (master_at z)
  master-area =
      let o = ordered z R in
      record { ranged = R; low = omega arith; fits = omega arith }

  pub site-whole : (o : ℕ) → o < z.sites → SiteArea len z (site_at z o)
  site-whole o h =
      let q = ordered z R in
      let s = site-lies z o h in
      record { ranged = R; low = omega arith; fits = omega arith }

  -- The cache is the first part of its site.
  pub site-area : (o : ℕ) → o < z.sites → Area len z (site_at z o)
  site-area o h = site-cache len z (site_at z o) (site-whole o h)

  pub snapshot-area : (r n : ℕ) → r < z.runs → Area len z (snapshot_at z r n)
  snapshot-area r n h =
      let q = ordered z R in
      let s = run_lies z r h in
      let t = snapshot-lies z r n in
      record { ranged = R; low = omega arith; fits = omega arith }

  pub site-apart : (o : ℕ) → o < z.sites
      → (site_at z o + place_size z ≤ master_at z) ⊎ (master_at z + place_size z ≤ site_at z o)
  site-apart o h =
      let q = ordered z R in
      let s = site-lies z o h in inr (omega arith)

  pub site-master : (o : ℕ) → o < z.sites → Areas len z (site_at z o) (master_at z)
  site-master o h =
      let q = ordered z R in
      let s = site-lies z o h in
      record {
        target = site-area o h;
        source = master-area;
        apart = inr (inr (omega arith));
      }

  pub snapshot-site : (r n o : ℕ) → r < z.runs → o < z.sites
      → Areas len z (snapshot_at z r n) (site_at z o)
  unfolding site_size
  snapshot-site r n o h i =
      let q = ordered z R in
      let s = site-lies z o i in
      let t = run_lies z r h in
      let u = snapshot-lies z r n in
      record {
        target = snapshot-area r n h;
        source = site-area o i;
        apart = inr (inr (omega arith));
      }

  -- The two snapshots of a run.
  pub snapshot-pair : (r : ℕ) → r < z.runs
      → Areas len z (snapshot_at z r 0) (snapshot_at z r 1)
  unfolding snapshot_at
  snapshot-pair r h = record {
    target = snapshot-area r 0 h;
    source = snapshot-area r 1 h;
    apart = inr (inl (omega arith));
  }
