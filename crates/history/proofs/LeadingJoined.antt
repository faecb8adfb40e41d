-- Who leads in the union of two copies of a key (CR 3): who leads in both with the same count, or
-- in one with a larger count than the other has.
-- Joined: the union. LeadsBy: how one leads in it. union-leads, union-led: the two ways.
-- Assumes nothing.
use mathlib.Core.Path.{◌≡◌, sym, ◌∙◌}
use mathlib.Core.Bool.{false, So}
use mathlib.Core.Logic.{◌⊎◌, inl, inr}
use Prim.Native.Nat.{ℕ, suc, ◌≤◌, ◌<◌}
use native.Mathlib.Omega.{arith}
use native.Mathlib.Decide.{dec_lt}
use Rattle.words.proofs.Bools.{test, clash}
use Rattle.words.proofs.Numbers.{count-mono}
use Rattle.history.specs.History.{History, writer_of, saved}
use Rattle.history.specs.Copies.{Copy, by_writer}
use Rattle.history.proofs.Notions.{PastLaws, Good}
use Rattle.history.proofs.Tally.{rank, tally, tally-at, tally-le, tally-has, SessionClosed}
use Rattle.history.proofs.Leading.{Leader, leader_part}

-- c has what a or b has, and no more.
pub record Joined (a b c : Copy) : Type 0 where
  pub left : (i : ℕ) → So (a i) → So (c i)
  pub right : (i : ℕ) → So (b i) → So (c i)
  pub only : (i : ℕ) → So (c i) → So (a i) ⊎ So (b i)

flip : {a b c : Copy} → Joined a b c → Joined b a c
flip J = record {
  left = J.right;
  right = J.left;
  only = λ i p. elim (J.only i p) [ inl x ↦ inr x | inr x ↦ inl x ];
}

-- One leads on both sides (A and B) with the same count, or on one with a larger count than the
-- other has; the counts are p and q.
abbrev pub LeadsBy : Type 0 → Type 0 → ℕ → ℕ → Type 0
LeadsBy A B p q = (A × B × (p ≡ q)) ⊎ ((A × (q < p)) ⊎ (B × (p < q)))

module _ (K : ℕ) (h : History) (laws : PastLaws K h) (k : ℕ) where
  -- Where b's count at u is as large as a's, b has all writes by u that a has.
  has : (a b : Copy) → Good K h k a → Good K h k b → (i u : ℕ) → So (a i) → writer_of h i ≡ u
      → tally K h a u ≤ tally K h b u → So (b i)
  has a b f g i u p e o =
      let w = f.writes i p in
      tally-has K h (saved h k) a b session i w.0 p w.1 (rw e o)
    where
      session : SessionClosed K h (saved h k) b
      session i j l p o w q = g.behind i j p (laws.session i k j l o w q)

  -- A leader's last write gives its count, in each part of the copy that has it.
  part_count : (a c : Copy) (u : ℕ) → ((i : ℕ) → So (a i) → So (c i))
      → (L : Leader K h k c u) → So (a L.last) → tally K h a u ≡ rank K h u L.last
  part_count a c u sub L p =
      let i = L.last in
      let least = rw L.own at (tally-at K h a i L.low p) in
      let most = tally-le K h a u (rank K h u i) (λ j l q w.
      let o = L.latest j l (sub j q) w in
      count-mono (suc j) (suc i) (by_writer K h u) (omega arith)) in
      omega arith

  -- ---- whom the merge names leads in the union

  module _ (a b c : Copy) (f : Good K h k a) (g : Good K h k b) (J : Joined a b c) (u : ℕ) where
    -- With a larger count: the other side has nothing by u that this one lacks, and no write that
    -- u's last one stands behind, or it would have that one.
    larger-leads : Leader K h k a u → tally K h b u < tally K h a u → Leader K h k c u
    larger-leads L more =
        let i = L.last in
        record {
          last = i;
          low = L.low;
          included = J.left i L.included;
          own = L.own;
          latest = λ j l p w. elim (J.only j p) [
            | inl q ↦ L.latest j l q w
            | inr q ↦ L.latest j l (has b a g f j u q w (omega arith)) w
          ];
          free = λ j l p q. elim (J.only j p) [
            | inl x ↦ L.free j l x q
            | inr x ↦
                let in_b = g.behind j i x q in
                let least = rw L.own at (tally-at K h b i L.low in_b) in
                absurd (omega (arith, least, part_count a a u (λ _ y. y) L L.included))
          ];
        }

    -- With the same count: both sides have the same last write of u.
    equal-leads : Leader K h k a u → Leader K h k b u → tally K h a u ≡ tally K h b u
        → Leader K h k c u
    equal-leads L M e =
        let i = L.last in
        let j = M.last in
        let j-in-a = has b a g f j u M.included M.own (omega arith) in
        let i-in-b = has a b f g i u L.included L.own (omega arith) in
        let below = L.latest j M.low j-in-a M.own in
        let above = M.latest i L.low i-in-b L.own in
        let same : j ≡ i = omega arith in
        record {
          last = i;
          low = L.low;
          included = J.left i L.included;
          own = L.own;
          latest = λ t l p w. elim (J.only t p) [
            | inl q ↦ L.latest t l q w
            | inr q ↦ rw (← same) (M.latest t l q w)
          ];
          free = λ t l p q. elim (J.only t p) [
            | inl x ↦ L.free t l x q
            | inr x ↦ M.free t l x (rw same q) ∙ same
          ];
        }

    -- ---- and who leads in the union is named

    -- By a alone, where b lacks the leader's last write; by both, where they have it.
    left-named : (L : Leader K h k c u) → So (a L.last) → b L.last ≡ false
        → tally K h b u < tally K h a u
    left-named L p n =
        elim (dec_lt (tally K h b u) (tally K h a u)) [
          | yes y ↦ y
          | no y ↦ clash (has a b f g L.last u p L.own (omega arith)) n
        ]

    both-named : (L : Leader K h k c u) → So (a L.last) → So (b L.last)
        → tally K h a u ≡ tally K h b u
    both-named L p q = part_count a c u J.left L p ∙ sym (part_count b c u J.right L q)

  module _ (a b c : Copy) (f : Good K h k a) (g : Good K h k b) (J : Joined a b c) (u : ℕ) where
    pub union-leads :
        LeadsBy (Leader K h k a u) (Leader K h k b u) (tally K h a u) (tally K h b u)
        → Leader K h k c u
    union-leads (inl x) = equal-leads a b c f g J u x.0 x.1 x.2
    union-leads (inr (inl x)) = larger-leads a b c f g J u x.0 x.1
    union-leads (inr (inr x)) = larger-leads b a c g f (flip J) u x.0 x.1

    pub union-led : Leader K h k c u
        → LeadsBy (Leader K h k a u) (Leader K h k b u) (tally K h a u) (tally K h b u)
    union-led L =
        let i = L.last in
        let in-a = leader_part K h k a c u J.left L in
        let in_b = leader_part K h k b c u J.right L in
        test (a i)
        (λ p. test (b i)
        (λ q. inl (in-a p, in_b q, both-named a b c f g J u L p q))
        (λ n. inr (inl (in-a p, left-named a b c f g J u L p n))))
        (λ n. elim (J.only i L.included) [
          | inl p ↦ clash p n
          | inr q ↦ inr (inr (in_b q, left-named b a c g f (flip J) u L q n))
        ])
