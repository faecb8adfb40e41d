-- The invariant on an admitted store (CR 6).
-- admit-ok: when admit answers ok. inv-admitted: the invariant, each part by a condition of
-- admission.
-- Assumes nothing.
use mathlib.Core.Path.{◌≡◌, refl, sym, ◌∙◌}
use mathlib.Core.Bool.{So, false, false≢true}
use mathlib.Core.Logic.{◌↔◌, ◌≢◌}
use mathlib.Core.List.{List}
use Prim.Native.Nat.{ℕ, ◌+◌}
use native.Mathlib.Omega.{arith}
use Rattle.words.specs.Numbers.{count_below}
use Rattle.words.proofs.Bools.{ge-ltb, test}
use Rattle.model.specs.Version.{versions}
use Rattle.model.specs.Store.{Store}
use Rattle.model.specs.Outcome.{refuse, unless, replied}
use Rattle.model.specs.Calls.Admit.{admissible, admit_cause, admit_reply}
use Rattle.model.specs.Calls.{admit, ask, reply_of, rule_of}
use Rattle.model.proofs.Cuts.{causal_cut-at}
use Rattle.model.proofs.Formed.{well-out}
use Rattle.model.proofs.Admits.{Admissible}
use Rattle.layout.specs.Reading.{store_of}
use Rattle.layout.specs.Buffer.{in_form}
use Rattle.layout.specs.Calls.{on, call_on, is_ok_of}
use Rattle.layout.proofs.Forms.{no-form, form_rule}
use Rattle.layout.proofs.Follow.{Fine}
use Rattle.history.specs.History.{saved}
use Rattle.history.specs.Listing.{Base}
use Rattle.history.specs.Admission.{base_of, admitted_book}
use Rattle.history.proofs.Sounds.{sound_empty}
use Rattle.history.proofs.Carrying.{lists-empty}
use Rattle.history.proofs.ListingEntered.{begin-past}
use Rattle.history.proofs.Admitted.{base-based, admitted-counted}
use Rattle.consistency.specs.Trace.{admitted_reads}
use Rattle.consistency.proofs.AdmittedRuns.{place-good, place-led, run-follows, reads_as, covered-all}
use Rattle.consistency.proofs.AdmittedCuts.{admitted-closed}
use Rattle.consistency.proofs.Invariant.{Inv}
use Rattle.consistency.proofs.Changing.{none-among}

-- ---- the call

-- It answers ok just on a buffer in form whose store can be admitted.
pub admit-ok : (l : List ℕ)
    → So (is_ok_of (call_on (on (ask admit)) l)) ↔ (So (in_form l) × So (admissible (store_of l)))
unfolding rule_of reply_of admit_reply admit_cause refuse unless replied is_ok_of
admit-ok l = (there, back)
  where
    there : So (is_ok_of (call_on (on (ask admit)) l))
        → So (in_form l) × So (admissible (store_of l))
    there p =
        test (in_form l)
        (λ F. (
          F,
          test (admissible (store_of l)) (λ y. y)
              (λ n. absurd (false≢true (rw (form_rule (ask admit) l F, n) at p))),
        ))
        (λ n. absurd (false≢true (rw (no-form (ask admit) l n) at p)))

    back : So (in_form l) × So (admissible (store_of l)) → So (is_ok_of
        (call_on (on (ask admit)) l))
    back r = rw (form_rule (ask admit) l r.0, r.1) refl

-- ---- the invariant

module _ (s : Store) (fine : Fine s) (A : Admissible s) where
  abbrev K : ℕ
  K = s.counts.keys

  abbrev W : ℕ
  W = s.counts.writers

  abbrev B : Base
  B = base_of s

  -- What the base takes over.
  last-same : s.last ≡ B.last + 0
  unfolding base_of
  last-same = omega arith

  saves-own : (k : ℕ) → (s.master k).past k ≡ B.saves k
  unfolding base_of
  saves-own k = refl

  count_same : (w : ℕ) → (s.writer w).count ≡ B.count w + 0
  unfolding base_of
  count_same w = omega arith

  writer-past : (w : ℕ) → (s.writer w).past ≡ B.past w
  unfolding base_of
  writer-past w = refl

  pub inv-admitted : Inv s (admitted_book s) (admitted_reads s)
  unfolding admitted_book admitted_reads saved count_below
  inv-admitted =
      let form = well-out s fine.formed in
      let fits = fine.fits in
      record {
        follows = record {
          counts = refl;
          last = last-same;
          based = base-based s fine A;
          lists = lists-empty B;
          sound = sound_empty K W;
          master = λ k l. record {
            counts = admitted-counted K B (s.master k);
            good = place-good s fine A s.master fits.master form.master
                A.covered.versions.master A.numbered.master k l;
            all = saves-own k;
          };
          led-master = place-led s fine A s.master fits.master form.master
              A.covered.versions.master;
          every = λ d i l p. absurd (false≢true p);
          cache = λ o l k h. admitted-counted K B ((s.site o).cache k);
          led-cache = λ o l.
              place-led s fine A (s.site o).cache (fits.site.each o l).cache (form.cache o l)
              (A.covered.versions.caches o l);
          closed = λ o l.
              admitted-closed s.counts B _ (s.site o).cache (form.cache o l)
              (place-good s fine A (s.site o).cache (fits.site.each o l).cache
              (form.cache o l) (A.covered.versions.caches o l) (A.numbered.caches o l))
              (λ k _ _. refl)
              (λ k d lk ld _. causal_cut-at (versions W) K (s.site o).cache (A.caches o l) k d lk
              ld);
          writer = λ w l. record {
            count = count_same w;
            past = writer-past w ∙ sym (begin-past K B w);
          };
          run = run-follows s fine A;
        };
        reads = reads_as s fine A;
        covered = covered-all s fine A;
        no_run = λ r l x i. none-among (rw (ge-ltb r s.counts.runs l) at i);
      }
