-- What allow comes to on a buffer in form: refused by its cause, or done.
-- cause-..: a cause found, or none. allow-refused, allow-done: answer and buffer.
-- Assumes nothing.
use mathlib.Core.Path.{◌≡◌, refl, sym, ap, ◌∙◌}
use mathlib.Core.Bool.{So}
use mathlib.Core.Logic.{◌≢◌}
use mathlib.Core.List.{List, [], ◌∷◌}
use Prim.Native.Nat.{ℕ, ◌≤◌, ◌<◌}
use native.Mathlib.Omega.{arith}
use lib.ListN.{set}
use Rattle.words.proofs.Bools.{le-leb, gt-leb, leb-gt, lt-ltb, ge-ltb}
use Rattle.sizes.specs.declared.Counts.{Counts}
use Rattle.sizes.specs.Bounds.{site_at, allowance_at}
use Rattle.model.specs.Allowance.{held_count}
use Rattle.model.specs.Store.{Store, site_allowed, with_site}
use Rattle.model.specs.Outcome.{answer, refuse, unless}
use Rattle.model.specs.Calls.Allow.{allow_cause, allow_done, allow_rule}
use Rattle.model.specs.Calls.{allow, rule_of}
use Rattle.model.proofs.Outcomes.{no-cause}
use Rattle.layout.specs.Reading.{read_place, store_of}
use Rattle.layout.specs.Buffer.{written, in_form}
use Rattle.layout.specs.Calls.{leaves}
use Rattle.layout.proofs.Readings.{cache_in}
use Rattle.layout.proofs.Updates.{put-allowance}
use Rattle.form.specs.Parts.{FormWith}
use Rattle.form.proofs.Known.{form-counts, form-again, Ends, ends-refused, ends-done}

-- ---- the cause

module _ (l : List ℕ) (z : Counts) (o n : ℕ) (H : FormWith l z) where
  abbrev s : Store
  s = store_of l

  pub cause-out : z.sites ≤ o → 3 ≡ allow_cause s o n
  unfolding allow_cause refuse
  cause-out h = rw (form-counts l z H, le-leb z.sites o h)

  module _ (h : o < z.sites) where
    pub cause-many : z.keys < n → 3 ≡ allow_cause s o n
    unfolding allow_cause refuse
    cause-many p = rw (form-counts l z H, gt-leb z.sites o h, lt-ltb z.keys n p)

    -- The cache is read at the site.
    abbrev count : ℕ
    count = held_count z.keys (read_place z l (site_at z o))

    counted : held_count z.keys (s.site o).cache ≡ count
    counted = ap (held_count z.keys) (cache_in l z H.counts o h)

    pub cause-held : n ≤ z.keys → n < count → 12 ≡ allow_cause s o n
    unfolding allow_cause refuse
    cause-held p q =
        rw (
          form-counts l z H,
          gt-leb z.sites o h,
          ge-ltb z.keys n p,
          counted,
          lt-ltb n count q,
        )

    pub cause-none : n ≤ z.keys → count ≤ n → 0 ≡ allow_cause s o n
    unfolding allow_cause refuse
    cause-none p q =
        rw (
          form-counts l z H,
          gt-leb z.sites o h,
          ge-ltb z.keys n p,
          counted,
          ge-ltb n count q,
        )

  -- No cause: there is such a site.
  pub allow-below : allow_cause s o n ≡ 0 → o < z.sites
  unfolding allow_cause
  allow-below e =
      let h = leb-gt _ _ (no-cause _ 3 _ (omega arith) e).0 in rw (← form-counts l z H) h

-- ---- the call

allow_rule_lem : (o n : ℕ) (s : Store)
    → rule_of (allow o n) s ≡ unless (allow_cause s o n) (allow_done s o n)
unfolding rule_of allow_rule
allow_rule_lem o n s = refl

pub allow-refused : (l : List ℕ) (o n c : ℕ) → So (in_form l) → c ≡ allow_cause (store_of l) o n
    → c ≢ 0 → Ends (allow o n) l (2 ∷ c ∷ []) l
allow-refused l o n c F e h =
    let s = store_of l in
    ends-refused (allow o n) l c (allow_done s o n) F (rw e (allow_rule_lem o n s)) h

pub allow-done : (l : List ℕ) (z : Counts) (o n : ℕ) → FormWith l z
    → allow_cause (store_of l) o n ≡ 0 → (at w : ℕ) (m : List ℕ) → at ≡ site_at z o
    → w ≡ allowance_at z at → m ≡ set l w n → Ends (allow o n) l (0 ∷ 0 ∷ []) m
unfolding answer leaves allow_done
allow-done l z o n H e at w m p q f =
    let s = store_of l in
    let same = form-counts l z H in
    let h = allow-below l z o n H e in
    let put : set (written s l) (allowance_at z (site_at z o)) n
    ≡ written (with_site s o (site_allowed (s.site o) n)) l =
    ap (λ (y : Counts). set (written s l) (allowance_at y (site_at y o)) n) (sym same)
    ∙ put-allowance s l o n (rw same h) in
    ends-done (allow o n) l (allow_cause s o n) (allow_done s o n) H.form (allow_rule_lem o n s) e
    (0 ∷ 0 ∷ []) m refl
    (f ∙ rw (q, p) (ap (λ (k : List ℕ). set k (allowance_at z (site_at z o)) n)
    (sym (form-again l z H)) ∙ put))
