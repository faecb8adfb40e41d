-- A call by its number, as the code has it: its words and its command.
-- at-fetch ..: which call a number is. tells-fetch ..: what its words and its command tell.
-- told_text: its text is that of its words. made-..: what making it comes to.
-- Assumes nothing.
use mathlib.Core.Path.{◌≡◌, refl, sym, ap, subst, ◌∙◌}
use mathlib.Core.Bool.{So}
use mathlib.Core.List.{List, ◌∷◌, ◌++◌}
use mathlib.Core.Option.{Option}
use Prim.Native.Nat.{ℕ, ◌-◌, ◌/◌, ◌%◌, ◌≤◌, ◌<◌}
use native.Mathlib.Omega.{arith}
use lib.ListN.{length, get_or, take, drop}
use Rattle.words.proofs.Bools.{lt-ltb, ge-ltb, ne_eqb}
use Rattle.answers.specs.Answers.{max_answer}
use Rattle.answers.proofs.Fronts.{over-front}
use Rattle.model.specs.Outcome.{Outcome, refused, broken, done, told, answer}
use Rattle.model.specs.Calls.{StoreCall, open_run, fetch, evict, step, issue, drop_run}
use Rattle.print.specs.Print.{numbers_text}
use Rattle.layout.specs.Buffer.{in_form}
use Rattle.layout.specs.Calls.{Call, on, call_on, leaves}
use Rattle.layout.proofs.Forms.{form-kept}
use Rattle.command.specs.Commands.{spelled}
use Rattle.command.specs.declared.Command.TheVariants.{Open, Fetch, Evict, Step, Issue, Drop}
use Rattle.calls.specs.declared.Performed.{Performed}
use Rattle.calls.specs.Performs.{Does, Made, Performs}
use Rattle.listing.specs.Calls.{one_job, kind_of, arguments_of}
use Rattle.listing.specs.Lines.{kind_word, call_text}
use Rattle.lister.specs.Numbered.{call_at, Tells}
use Rattle.lister.specs.declared.small.Small.{Small}

-- ---- which call a number is

module _ (i : ℕ) where
  pub at-fetch : i < 4 → call_at i ≡ fetch (i / 2) (i % 2)
  unfolding call_at
  at-fetch h = rw (lt-ltb i 4 h)

  pub at-evict : 4 ≤ i → i < 8 → call_at i ≡ evict ((i - 4) / 2) ((i - 4) % 2)
  unfolding call_at
  at-evict g h = rw (ge-ltb i 4 g, lt-ltb i 8 h)

  pub at_open : 8 ≤ i → i < 16 → call_at i ≡ open_run 0 (one_job ((i - 8) / 4) ((i - 8) % 4))
  unfolding call_at
  at_open g h = rw (ge-ltb i 4 (omega arith), ge-ltb i 8 g, lt-ltb i 16 h)

  pub at-step : i ≡ 16 → call_at i ≡ step 0 0 0
  unfolding call_at
  at-step e = rw e

  pub at-issue : 17 ≤ i → i < 25 → call_at i ≡ issue 0 ((i - 17) / 4) ((i - 17) % 4)
  unfolding call_at
  at-issue g h =
      rw (
        ge-ltb i 4 (omega arith),
        ge-ltb i 8 (omega arith),
        ge-ltb i 16 (omega arith),
        ne_eqb i 16 (λ e. omega arith),
        lt-ltb i 25 h,
      )

  pub at_drop : 25 ≤ i → call_at i ≡ drop_run 0
  unfolding call_at
  at_drop g =
      rw (
        ge-ltb i 4 (omega arith),
        ge-ltb i 8 (omega arith),
        ge-ltb i 16 (omega arith),
        ne_eqb i 16 (λ e. omega arith),
        ge-ltb i 25 g,
      )

-- ---- what is told of it

-- l: the words that are lent, r: those behind the call's.
module _ (l r : List ℕ) where
  pub tells-fetch : (o k : ℕ) → l ≡ 0 ∷ o ∷ k ∷ 0 ∷ 0 ∷ r
      → Tells (fetch o k) (record { count = 3; command = Fetch o k }) l
  unfolding kind_of arguments_of
  tells-fetch o k e = record {
    some_words = omega arith;
    few_words = omega arith;
    words_are = rw e refl;
    asks = refl;
    ends = omega arith;
  }

  pub tells-evict : (o k : ℕ) → l ≡ 1 ∷ o ∷ k ∷ 0 ∷ 0 ∷ r
      → Tells (evict o k) (record { count = 3; command = Evict o k }) l
  unfolding kind_of arguments_of
  tells-evict o k e = record {
    some_words = omega arith;
    few_words = omega arith;
    words_are = rw e refl;
    asks = refl;
    ends = omega arith;
  }

  pub tells_open : (o m : ℕ) → l ≡ 2 ∷ 0 ∷ o ∷ m ∷ 0 ∷ r
      → Tells (open_run 0 (one_job o m)) (record { count = 5; command = Open 0 2 3 }) l
  unfolding kind_of arguments_of
  tells_open o m e = record {
    some_words = omega arith;
    few_words = omega arith;
    words_are = rw e refl;
    asks = rw e refl;
    ends = omega arith;
  }

  pub tells-step : l ≡ 3 ∷ 0 ∷ 0 ∷ 0 ∷ 0 ∷ r
      → Tells (step 0 0 0) (record { count = 3; command = Step 0 0 0 }) l
  unfolding kind_of arguments_of
  tells-step e = record {
    some_words = omega arith;
    few_words = omega arith;
    words_are = rw e refl;
    asks = refl;
    ends = omega arith;
  }

  pub tells-issue : (w m : ℕ) → l ≡ 4 ∷ 0 ∷ w ∷ m ∷ 0 ∷ r
      → Tells (issue 0 w m) (record { count = 4; command = Issue 0 w m }) l
  unfolding kind_of arguments_of
  tells-issue w m e = record {
    some_words = omega arith;
    few_words = omega arith;
    words_are = rw e refl;
    asks = refl;
    ends = omega arith;
  }

  pub tells-drop : l ≡ 5 ∷ 0 ∷ 0 ∷ 0 ∷ 0 ∷ r
      → Tells (drop_run 0) (record { count = 2; command = Drop 0 }) l
  unfolding kind_of arguments_of
  tells-drop e = record {
    some_words = omega arith;
    few_words = omega arith;
    words_are = rw e refl;
    asks = refl;
    ends = omega arith;
  }

-- ---- its text

-- Its text, put as that of its words.
pub told_text : (c : StoreCall) (s : Small) (l : List ℕ) → Tells c s l
    → kind_word (get_or (take s.count l) 0 0) ++ numbers_text (drop 1 (take s.count l))
    ≡ call_text c
unfolding call_text
told_text c s l t = rw t.words_are refl

-- ---- its answer

answer-some : (x : Outcome) → 0 < length (answer x)
unfolding answer
answer-some (refused n) = omega arith
answer-some (broken m s) = omega arith
answer-some (done b s) = omega arith
answer-some (told w b) = omega arith

-- What making it comes to.
module _ (c : StoreCall) (s : Small) (ws l m a b : List ℕ) (p : Performed) (t : Tells c s ws)
    (d : Performs (spelled s.command ws) l m a b p) where
  made : Does (on c) l m a b p.count
  unfolding Made
  made = subst (λ (o : Option Call). Made o l m a b p.count) t.asks d.0

  pub made_some : 0 < p.count
  made_some = omega (arith, made.answers.count, answer-some (call_on (on c) l))

  pub made-few : p.count ≤ max_answer
  made-few = made.few

  pub made-words : take p.count b ≡ answer (call_on (on c) l)
  made-words =
      let e = made.answers in rw (e.count, e.laid) (over-front (answer (call_on (on c) l)) a)

  pub made-long : length (take p.count b) ≡ p.count
  made-long = ap length made-words ∙ sym made.answers.count

  pub made-leaves : m ≡ leaves (call_on (on c) l) l
  made-leaves = made.changes

  pub made-form : So (in_form l) → So (in_form m)
  made-form h = rw made.changes (form-kept c l h)
