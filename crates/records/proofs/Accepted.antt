-- A record of issues that are written with the own rows of what they had read is accepted, if each
-- one had read a snapshot by the history below it (CR 14).
-- Carries: the record's issues are those of a history. own-history: its own history is that one.
-- own-accepted.
-- Assumes nothing.
use mathlib.Core.Path.{◌≡◌, refl, ap₂}
use mathlib.Core.Bool.{So}
use mathlib.Core.List.{[], ◌∷◌}
use Prim.Native.Nat.{ℕ, ◌<◌}
use native.Mathlib.Omega.{arith}
use native.Mathlib.Nat.{not-suc-le-zero}
use lib.ListN.{length}
use Rattle.words.proofs.Tests.{below-cases}
use Rattle.history.specs.History.{Issue, History}
use Rattle.history.proofs.Notions.{Sound}
use Rattle.history.proofs.Sounds.{sound-low}
use Rattle.records.specs.Format.{Record, keys_in, writers_in, issues_in, reads_in_of, ReadOf, reads_before, Layout, IssueReadable, ReadReadable, Readable}
use Rattle.records.specs.Snapshots.{history_of, is_snapshot}
use Rattle.records.specs.Audit.{audit_of, heard}
use Rattle.records.proofs.Notions.{OwnReads, Written}
use Rattle.records.proofs.Judging.{snapshot-is}
use Rattle.records.proofs.Exact.{audit-accepts}
use Rattle.records.proofs.Own.{own-issue}
use Rattle.records.proofs.OwnJudged.{own-readable, own-reads, own-snapshot}

-- Its issues up to some are those of h.
pub data Carries (b : Record) : History → Type 0 where
  nothing : Carries b []
  another : {e : Issue} {h : History} → OwnReads (keys_in b) h e → Written b (length h) h e
      → Carries b h → Carries b (e ∷ h)

pub own-history : {b : Record} (h : History) → Sound (keys_in b) (writers_in b) h → Carries b h
    → history_of b (length h) ≡ h
unfolding history_of
own-history [] s nothing = refl
own-history {b} (e ∷ h) s (another o w c) =
    let q = own-history h (sound-low s) c in
    let g = history_of b (length h) in
    let s' : Sound (keys_in b) (writers_in b) (e ∷ g) = rw q s in
    let o' : OwnReads (keys_in b) g e = rw q o in
    let w' : Written b (length h) g e = rw q w in
    ap₂ ◌∷◌ (own-issue s' o' w') q

-- What the checker asks of an issue.
pub record Taken (b : Record) (i : ℕ) : Type 0 where
  pub issue : IssueReadable b i
  pub reads : (x : ℕ) → ReadOf b i x → ReadReadable b i x
  pub snapshot : So (is_snapshot b i)

own-taken : {b : Record} (h : History) → Sound (keys_in b) (writers_in b) h → Carries b h
    → (i : ℕ) → i < length h → Taken b i
own-taken [] s nothing i l = absurd (not-suc-le-zero l)
own-taken {b} (e ∷ h) s (another o w c) i l =
    below-cases i (length h) l
    (λ z.
    let q = own-history h (sound-low s) c in
    let g = history_of b (length h) in
    let s' : Sound (keys_in b) (writers_in b) (e ∷ g) = rw q s in
    let o' : OwnReads (keys_in b) g e = rw q o in
    let w' : Written b (length h) g e = rw q w in
    let t : Taken b (length h) =
    record {
      issue = own-readable s' o' w';
      reads = own-reads s' o' w';
      snapshot = own-snapshot s' o' w';
    } in
    rw z t)
    (λ k. own-taken h (sound-low s) c i k)

-- "it accepts the record .. of any history our own desk made": what is asked of the words is that
-- they carry it.
pub own-accepted : (b : Record) (h : History) → Layout b → issues_in b ≡ length h
    → reads_before b (issues_in b) ≡ reads_in_of b → Sound (keys_in b) (writers_in b) h → Carries
    b h
    → audit_of b ≡ heard 0
own-accepted b h y n q s c = (audit-accepts b).1 (R, λ i l. (snapshot-is R i l).0 (t i l).snapshot)
  where
    t : (i : ℕ) → i < issues_in b → Taken b i
    t i l = own-taken h s c i (omega (arith, n))

    R : Readable b
    R = record {
      layout = y;
      issue = λ i l. (t i l).issue;
      every = q;
      reads = λ i l. (t i l).reads;
    }
