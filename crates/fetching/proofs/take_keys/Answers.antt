-- `take_keys` copies the keys of T and sets the mark, or stores nothing.
-- Assumes nothing.
use mathlib.Core.Path.{ap, ◌∙◌}
use mathlib.Core.List.{List}
use Prim.Native.Nat.{ℕ}
use lib.ListN.{length}
use Rattle.version.specs.Places.{put_mark}
use Rattle.version.proofs.Stores.{master-area, site-master, site-whole}
use Rattle.form.proofs.Known.{form-area, master-found}
use Rattle.fetching.proofs.Taking.{taken_none, taken-stored}
use Rattle.fetching.proofs.take_keys.Goals as goal

pub returns-then-taken-eq0 : goal.returns-then-taken-eq0
returns-then-taken-eq0 c =
    let s = c in
    let a = s.args in
    taken_none a.words.now a.z s.requires.0 a.o s.requires.1 a.taken c.if-taken-eq0.true

pub areas-areas-requires : goal.areas-areas-requires
areas-areas-requires c = (form-area _ _ c.requires.0).ranged

pub site_at-cache-requires : goal.site_at-cache-requires
site_at-cache-requires c =
    let s = c in record {
      ranged = (form-area _ _ s.requires.0).ranged;
      o_lt_sites = s.requires.1;
    }

pub copy_keys-requires : goal.copy_keys-requires
copy_keys-requires c =
    let n = c in
    let t = n in
    let s = t in
    let a = s.args in
    let R = form-area a.words.now a.z s.requires.0 in
    rw (n.site_at-cache.ensures, master-found a.z t.areas-areas.result t.areas-areas.ensures)
    (site-master (length a.words.now) a.z R.ranged R.fits a.o s.requires.1)

pub mark_site-requires : goal.mark_site-requires
mark_site-requires c =
    let k = c in
    let n = k in
    let t = n in
    let s = t in
    let a = s.args in
    let R = form-area a.words.now a.z s.requires.0 in
    let len = length a.words.now in
    rw (
      k.copy_keys.auto.words,
      n.site_at-cache.ensures,
      master-found a.z t.areas-areas.result t.areas-areas.ensures,
    ) (
      master-area len a.z R.ranged R.fits,
      site-whole len a.z R.ranged R.fits a.o s.requires.1,
    )

pub returns : goal.returns
returns c =
    let m = c in
    let k = m in
    let n = k in
    let t = n in
    let s = t in
    let a = s.args in
    taken-stored a.words.now a.z s.requires.0 a.o s.requires.1 _ _ _ _
    (master-found a.z t.areas-areas.result t.areas-areas.ensures) n.site_at-cache.ensures
    (m.mark_site.ensures
    ∙ ap (λ (l : List ℕ). put_mark a.z l t.areas-areas.result.master n.site_at-cache.result)
    k.copy_keys.ensures)
