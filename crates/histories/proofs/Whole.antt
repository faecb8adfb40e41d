-- The fronts of the buffer, chunk after chunk, make the listing's text.
-- chunks-lines: they are the first lines. chunks-all: with all lines, the text. written_count: as
-- many bytes were handed to write. written-more: one chunk more.
-- Assumes nothing.
use mathlib.Core.Path.{◌≡◌, refl, sym, ap, ap₂, subst, ◌∙◌}
use mathlib.Core.Bool.{false}
use mathlib.Core.List.{List, ◌++◌}
use Prim.Native.Nat.{ℕ, ◌+◌, ◌-◌, ◌≤◌}
use native.Mathlib.Omega.{arith}
use native.Mathlib.Nat.{zero-add}
use lib.ListN.{length, take, length-append, length-take}
use Rattle.listing.specs.Lines.{listing_text, lines_from}
use Rattle.lister.specs.Numbered.{line_count}
use Rattle.listing.proofs.Chunks.{lines-all, lines_none, lines-add}
use Rattle.streams.specs.declared.Output.{Output}
use Rattle.streams.specs.Streams.{Hands}
use Rattle.histories.specs.Written.{Written, none, more, chunks}

pub chunks-lines : {i : ℕ} {o : Output} (w : Written i o) → chunks w ≡ lines_from 0 i
unfolding chunks
chunks-lines (none o e f) = sym (lines_none 0)
chunks-lines (more i n o p out w f h e) =
    ap₂ (λ (a b : List ℕ). a ++ b) (chunks-lines w) e
    ∙ sym (lines-add 0 i n ∙ ap (λ (k : ℕ). lines_from 0 i ++ lines_from k n) (zero-add i))

-- "a program lists every script".
pub chunks-all : {o : Output} (w : Written line_count o) → chunks w ≡ listing_text
chunks-all w = chunks-lines w ∙ lines-all

pub written_count : {i : ℕ} {o : Output} (w : Written i o) → o.all ≡ length (chunks w)
unfolding chunks
written_count (none o e f) = e
written_count (more i n o p out w f h e) =
    let long : length (take p.count out) ≡ p.count =
    length-take p.count out ∙ omega (arith, h.front) in
    h.all ∙ omega (arith, written_count w, long, length-append (chunks w) (take p.count out))

-- From line i up to line k.
pub written-more : (i k : ℕ) (o p : Output) (out : List ℕ) → i ≤ k → Written i o
    → o.failed ≡ false → Hands o p out → take p.count out ≡ lines_from i (k - i) → Written k p
written-more i k o p out l w f h e =
    let s : i + (k - i) ≡ k = omega arith in
    subst (λ (j : ℕ). Written j p) s (more i (k - i) o p out w f h e)
