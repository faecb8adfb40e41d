-- What fetch comes to on a buffer in form: refused by its cause, or done.
-- fetch-out: out of range. fetch_rule_lem: the cause as the code tests it, by T.
-- fetch-refused, fetch-done: answer and buffer.
-- Assumes nothing.
use mathlib.Core.Path.{◌≡◌, refl, sym, ap, ◌∙◌}
use mathlib.Core.Bool.{true, false}
use mathlib.Core.List.{List, [], ◌∷◌}
use mathlib.Core.Logic.{◌≢◌}
use Prim.Native.Nat.{ℕ}
use lib.Dec.{leb}
use native.Mathlib.Omega.{arith}
use Rattle.words.specs.Tests.{Items, only}
use Rattle.masks.specs.Mask.{test_bit, with_bit, mask_below}
use Rattle.masks.proofs.Sets.{item_of}
use Rattle.sizes.specs.declared.Counts.{Counts}
use Rattle.model.specs.Algebra.{Place}
use Rattle.model.specs.Version.{Version, versions}
use Rattle.model.specs.Sets.{fetch_set, fetched, unfetchable}
use Rattle.model.specs.Tail.{barred}
use Rattle.model.specs.Store.{Store, with_cache}
use Rattle.model.specs.Allowance.{over}
use Rattle.model.specs.Outcome.{answer, refuse, unless}
use Rattle.model.specs.Caches.{fetch_cause, fetch_done, fetch_rule}
use Rattle.model.specs.Calls.{fetch, rule_of}
use Rattle.layout.specs.Reading.{store_of}
use Rattle.layout.specs.Buffer.{written}
use Rattle.layout.specs.Calls.{leaves}
use Rattle.layout.proofs.Follow.{form-fine}
use Rattle.version.specs.Places.{choice}
use Rattle.fetching.specs.Takes.{takes_cause}
use Rattle.form.specs.Parts.{FormWith}
use Rattle.form.proofs.Known.{form-counts, Ends, ends-refused, ends-done}
use Rattle.fetching.proofs.Taking.{taken-cache, taken-cause}
use Rattle.caches.specs.Range.{out_of_range_of}
use Rattle.caches.proofs.Known.{inside, range-cause, one_key}

module _ (l : List ℕ) (z : Counts) (H : FormWith l z) (o k : ℕ) where
  abbrev s : Store
  s = store_of l

  -- The rows behind the range.
  abbrev rows : Counts → ℕ
  rows y =
      let alg = versions y.writers in
      let x = s.site o in
      refuse (barred y.keys (s.tail.may_hold o)
      (fetch_set alg y.keys s.master x.cache (only k))) 13
      (refuse (unfetchable alg y.keys s.master (only k)) 7
      (refuse (over y x (fetched alg y.keys s.master x.cache (only k))) 12
      0))

  range_rule : rule_of (fetch o k) s
      ≡ unless (refuse (out_of_range_of z o k) 3 (rows z)) (fetch_done s o k)
  unfolding rule_of fetch_rule fetch_cause
  range_rule =
      ap (λ (n : ℕ). unless n (fetch_done s o k))
      (ap (λ (y : Counts). refuse (leb y.sites o) 3 (refuse (leb y.keys k) 3 (rows y)))
      (form-counts l z H) ∙ range-cause z o k (rows z) (rows z) (λ _. refl))

  pub fetch-out : out_of_range_of z o k ≡ true → Ends (fetch o k) l (2 ∷ 3 ∷ []) l
  unfolding refuse
  fetch-out p = ends-refused (fetch o k) l 3 (fetch_done s o k) H.form (rw p at range_rule)
      (omega arith)

  -- start, T: the key as a mask, and what is found for it.
  module _ (in_range_lem : out_of_range_of z o k ≡ false) (start T : ℕ) (d : start ≡ with_bit 0 k)
      (e : T ≡ mask_below z.keys (fetch_set (versions z.writers) z.keys s.master
      (s.site o).cache (test_bit start))) where
    abbrev found : Items
    found = fetch_set (versions z.writers) z.keys s.master (s.site o).cache (only k)

    taken : T ≡ mask_below z.keys found
    taken = rw (← one_key k, ← d) e

    -- The right is asked for all of T.
    fetch_rule_lem : rule_of (fetch o k) s ≡ unless (takes_cause z s o T T) (fetch_done s o k)
    unfolding refuse
    fetch_rule_lem =
        let rule : rule_of (fetch o k) s ≡ unless (rows z) (fetch_done s o k) =
        rw in_range_lem at range_rule in
        rule
        ∙ ap (λ (n : ℕ). unless n (fetch_done s o k))
        (sym (taken-cause z s o (only k) found T T (item_of z.keys T found taken) taken))

    pub fetch-refused : (n : ℕ) → n ≡ takes_cause z s o T T → n ≢ 0
        → Ends (fetch o k) l (2 ∷ n ∷ []) l
    fetch-refused n p h =
        ends-refused (fetch o k) l n (fetch_done s o k) H.form
        (fetch_rule_lem ∙ ap (λ (n : ℕ). unless n (fetch_done s o k)) (sym p)) h

    pub fetch-done : takes_cause z s o T T ≡ 0 → (m : List ℕ)
        → m ≡ written (with_cache s o (choice (test_bit T) s.master (s.site o).cache)) l
        → Ends (fetch o k) l (0 ∷ T ∷ []) m
    unfolding answer leaves fetch_done
    fetch-done p m f =
        let F = (form-fine l H.form).fits in
        let cache = (s.site o).cache in
        let same = form-counts l z H in
        let alike : choice (test_bit T) s.master cache
        ≡ fetched (versions s.counts.writers) s.counts.keys s.master cache (only k) =
        taken-cache z s.master cache (only k) T taken (rw (← same) F.master)
        (rw (← same) (F.site.each o (rw same (inside z o k in_range_lem).0)).cache)
        ∙ ap (λ (y : Counts). fetched (versions y.writers) y.keys s.master cache (only k))
        (sym same) in
        ends-done (fetch o k) l _ (fetch_done s o k) H.form fetch_rule_lem p
        (0 ∷ T ∷ []) m (rw same (ap (λ (T : ℕ). 0 ∷ T ∷ []) taken))
        (f ∙ ap (λ (p : Place Version). written (with_cache s o p) l) alike)
