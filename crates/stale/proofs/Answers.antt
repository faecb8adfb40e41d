-- What stale comes to on a buffer in form.
-- mark-word: the mark of a site is one word. stale-out: no such office. stale-done: the word.
-- Assumes nothing.
use mathlib.Core.Path.{◌≡◌, refl}
use mathlib.Core.List.{List, [], ◌∷◌}
use Prim.Native.Nat.{ℕ, ◌≤◌, ◌<◌}
use native.Mathlib.Omega.{arith}
use Rattle.words.proofs.Bools.{le-leb, gt-leb}
use Rattle.sizes.specs.declared.Counts.{Counts}
use Rattle.sizes.specs.Bounds.{site_at, stale_at}
use Rattle.model.specs.Outcome.{refused, told, answer, refuse}
use Rattle.model.specs.Calls.Stale.{stale_cause, stale_reply}
use Rattle.model.specs.Calls.{stale, ask, reply_of}
use Rattle.layout.specs.Reading.{read_word_of, read_site, store_of}
use Rattle.layout.specs.Calls.{on, call_on}
use Rattle.layout.proofs.Readings.{site_in}
use Rattle.layout.proofs.Forms.{ask-refused, ask-told}
use Rattle.form.specs.Parts.{FormWith}
use Rattle.form.proofs.Known.{form-counts}

module _ (l : List ℕ) (z : Counts) (H : FormWith l z) (o : ℕ) where
  mark-word : o < z.sites → ((store_of l).site o).stale ≡ read_word_of l (stale_at z (site_at z o))
  unfolding read_site
  mark-word h = rw (site_in l z H.counts o h)

  pub stale-out : z.sites ≤ o → 2 ∷ 3 ∷ [] ≡ answer (call_on (on (ask (stale o))) l)
  unfolding answer reply_of stale_reply stale_cause refuse
  stale-out h =
      let e : stale_cause (store_of l) o ≡ 3 = rw (form-counts l z H, le-leb z.sites o h) refl in
      let no : call_on (on (ask (stale o))) l ≡ refused (stale_cause (store_of l) o) =
      ask-refused (stale o) l H.form (rw e (omega arith)) in
      rw (no, e) refl

  pub stale-done : o < z.sites
      → 0 ∷ read_word_of l (stale_at z (site_at z o)) ∷ [] ≡ answer (call_on (on (ask (stale o)))
      l)
  unfolding answer reply_of stale_reply stale_cause refuse
  stale-done h =
      let e : stale_cause (store_of l) o ≡ 0 = rw (form-counts l z H, gt-leb z.sites o h) refl in
      let yes : call_on (on (ask (stale o))) l ≡ told 0 (((store_of l).site o).stale ∷ []) =
      ask-told (stale o) l H.form e in
      rw (yes, mark-word h) refl
