-- What is listed, and that all of it is: the calls by kind and bounds, the scripts by length and
-- calls.
-- calls-all: in the list of calls, or in range. scripts-all: over any list. all_listed: both.
-- Assumes nothing.
use mathlib.Core.Path.{◌≡◌, refl, sym, ap, subst}
use mathlib.Core.Logic.{◌↔◌, inl, inr}
use mathlib.Core.List.{List, [], ◌∷◌, ◌++◌, map}
use Prim.Native.Nat.{ℕ, zero, suc, ◌<◌, ◌^◌}
use native.Mathlib.Omega.{arith}
use native.Mathlib.Nat.{not-suc-le-zero, suc_inj, suc-ne-zero}
use lib.ListN.{length}
use Rattle.model.specs.Calls.{StoreCall, open_run, fetch, evict, prepare, step, issue, drop_run, allow, pick, mayhold, maysave, fork, join, ask}
use Rattle.listing.specs.Scripts.{firsts, rows, each, scripts, In, AllOf}
use Rattle.listing.specs.Calls.{one_job, calls, InRange}

-- ---- each element

pub all-imp : {A : Type 0} (P Q : A → Type 0) → ((x : A) → P x → Q x) → (l : List A)
    → AllOf P l → AllOf Q l
unfolding AllOf
all-imp P Q h [] p = tt
all-imp P Q h (x ∷ xs) p = (h x p.0, all-imp P Q h xs p.1)

pub all_append : {A : Type 0} (P : A → Type 0) (a b : List A) → AllOf P a → AllOf P b
    → AllOf P (a ++ b)
unfolding AllOf
all_append P [] b p q = q
all_append P (x ∷ xs) b p q = (p.0, all_append P xs b p.1 q)

pub all_map : {A B : Type 0} (P : A → Type 0) (Q : B → Type 0) (f : A → B)
    → ((x : A) → P x → Q (f x)) → (l : List A) → AllOf P l → AllOf Q (map f l)
unfolding AllOf
all_map P Q f h [] p = tt
all_map P Q f h (x ∷ xs) p = (h x p.0, all_map P Q f h xs p.1)

pub all_firsts : {A : Type 0} (P : A → Type 0) (n : ℕ) (f : ℕ → A)
    → ((i : ℕ) → i < n → P (f i)) → AllOf P (firsts n f)
unfolding AllOf firsts
all_firsts P zero f h = tt
all_firsts P (suc n) f h =
    (h 0 (omega arith), all_firsts P n (λ i. f (suc i)) (λ i l. h (suc i) (omega arith)))

pub all-rows : {A : Type 0} (P : A → Type 0) (n : ℕ) (f : ℕ → List A)
    → ((i : ℕ) → i < n → AllOf P (f i)) → AllOf P (rows n f)
unfolding AllOf rows
all-rows P zero f h = tt
all-rows P (suc n) f h =
    all_append P (f 0) (rows n (λ i. f (suc i))) (h 0 (omega arith))
    (all-rows P n (λ i. f (suc i)) (λ i l. h (suc i) (omega arith)))

-- One of xs before one of S.
pub all-before : {A : Type 0} (P : A → Type 0) (Q R : List A → Type 0)
    → ((x : A) (s : List A) → P x → Q s → R (x ∷ s)) → (S : List (List A)) → AllOf Q S
    → (xs : List A) → AllOf P xs → AllOf R (each (λ x. map (λ s. x ∷ s) S) xs)
unfolding AllOf each
all-before P Q R h S q [] p = tt
all-before P Q R h S q (x ∷ xs) p =
    all_append R (map (λ s. x ∷ s) S) (each (λ x. map (λ s. x ∷ s) S) xs)
    (all_map Q R (λ s. x ∷ s) (λ s k. h x s p.0 k) S q) (all-before P Q R h S q xs p.1)

-- ---- an element

pub in_append_left : {A : Type 0} (x : A) (a b : List A) → In x a → In x (a ++ b)
unfolding In
in_append_left x [] b p = absurd p
in_append_left x (y ∷ ys) b (inl e) = inl e
in_append_left x (y ∷ ys) b (inr p) = inr (in_append_left x ys b p)

pub in_append_right : {A : Type 0} (x : A) (a b : List A) → In x b → In x (a ++ b)
unfolding In
in_append_right x [] b p = p
in_append_right x (y ∷ ys) b p = inr (in_append_right x ys b p)

pub in_map : {A B : Type 0} (f : A → B) (x : A) (l : List A) → In x l → In (f x) (map f l)
unfolding In
in_map f x [] p = absurd p
in_map f x (y ∷ ys) (inl e) = inl (ap f e)
in_map f x (y ∷ ys) (inr p) = inr (in_map f x ys p)

pub in_firsts : {A : Type 0} (n : ℕ) (f : ℕ → A) (i : ℕ) → i < n → In (f i) (firsts n f)
unfolding In firsts
in_firsts zero f i l = absurd (not-suc-le-zero l)
in_firsts (suc n) f zero l = inl refl
in_firsts (suc n) f (suc i) l = inr (in_firsts n (λ j. f (suc j)) i (omega arith))

pub in_rows : {A : Type 0} (x : A) (n : ℕ) (f : ℕ → List A) (i : ℕ) → i < n → In x (f i)
    → In x (rows n f)
unfolding rows
in_rows x zero f i l p = absurd (not-suc-le-zero l)
in_rows x (suc n) f zero l p = in_append_left x (f 0) (rows n (λ j. f (suc j))) p
in_rows x (suc n) f (suc i) l p =
    in_append_right x (f 0) (rows n (λ j. f (suc j)))
    (in_rows x n (λ j. f (suc j)) i (omega arith) p)

pub all_in : {A : Type 0} (P : A → Type 0) (l : List A) → AllOf P l → (x : A) → In x l → P x
unfolding AllOf In
all_in P [] p x q = absurd q
all_in P (y ∷ ys) p x (inl e) = subst P (sym e) p.0
all_in P (y ∷ ys) p x (inr q) = all_in P ys p.1 x q

pub all_among : {A : Type 0} (P : A → Type 0) (l : List A) → ((x : A) → In x l → P x) → AllOf P l
unfolding AllOf In
all_among P [] h = tt
all_among P (y ∷ ys) h = (h y (inl refl), all_among P ys (λ x q. h x (inr q)))

in_before : {A : Type 0} (x : A) (s : List A) (S : List (List A)) (xs : List A) → In x xs
    → In s S → In (x ∷ s) (each (λ y. map (λ t. y ∷ t) S) xs)
unfolding In each
in_before x s S [] p q = absurd p
in_before x s S (y ∷ ys) (inl e) q =
    in_append_left (x ∷ s) (map (λ t. y ∷ t) S) (each (λ y. map (λ t. y ∷ t) S) ys)
    (rw e (in_map (λ t. y ∷ t) s S q))
in_before x s S (y ∷ ys) (inr p) q =
    in_append_right (x ∷ s) (map (λ t. y ∷ t) S) (each (λ y. map (λ t. y ∷ t) S) ys)
    (in_before x s S ys p q)

-- ---- scripts over any list

abbrev pub Script : {A : Type 0} → List A → ℕ → List A → Type 0
Script xs n s = (length s ≡ n) × AllOf (λ x. In x xs) s

pub scripts-only : {A : Type 0} (xs : List A) (n : ℕ) → AllOf (Script xs n) (scripts xs n)
unfolding AllOf scripts
scripts-only xs zero = ((refl, tt), tt)
scripts-only xs (suc n) =
    all-before (λ x. In x xs) (Script xs n) (Script xs (suc n))
    (λ x s p q. (ap suc q.0, (p, q.1))) (scripts xs n) (scripts-only xs n) xs
    (all_among (λ x. In x xs) xs (λ x p. p))

scripts_have : {A : Type 0} (xs : List A) (n : ℕ) (s : List A) → length s ≡ n
    → AllOf (λ x. In x xs) s → In s (scripts xs n)
unfolding AllOf In scripts
scripts_have xs zero [] e p = inl refl
scripts_have xs (suc n) [] e p = absurd (suc-ne-zero n (sym e))
scripts_have xs zero (x ∷ s) e p = absurd (suc-ne-zero (length s) e)
scripts_have xs (suc n) (x ∷ s) e p =
    in_before x s (scripts xs n) xs p.0 (scripts_have xs n s (suc_inj e) p.1)

pub scripts-all : {A : Type 0} (xs : List A) (n : ℕ) (s : List A)
    → In s (scripts xs n) ↔ Script xs n s
scripts-all xs n s = (
  all_in (Script xs n) (scripts xs n) (scripts-only xs n) s,
  λ p. scripts_have xs n s p.0 p.1,
)

-- ---- calls

calls-only : (K W N : ℕ) → AllOf (InRange K W N) (calls K W N)
unfolding calls AllOf InRange
calls-only K W N =
    let P = InRange K W N in
    let fetches = rows N (λ o. firsts K (λ k. fetch o k)) in
    let evicts = rows N (λ o. firsts K (λ k. evict o k)) in
    let opens = rows N (λ o. firsts (2 ^ K) (λ m. open_run 0 (one_job o m))) in
    let issues = rows W (λ w. firsts (2 ^ K) (λ S. issue 0 w S)) in
    let later = step 0 0 0 ∷ (issues ++ (drop_run 0 ∷ [])) in
    all_append P fetches (evicts ++ (opens ++ later))
    (all-rows P N _ (λ o h. all_firsts P K _ (λ k l. (h, l))))
    (all_append P evicts (opens ++ later)
    (all-rows P N _ (λ o h. all_firsts P K _ (λ k l. (h, l))))
    (all_append P opens later
    (all-rows P N _ (λ o h. all_firsts P (2 ^ K) _ (λ m l. (refl, (o, m, h, l, refl))))) (
      (refl, refl, refl),
      all_append P issues (drop_run 0 ∷ [])
          (all-rows P W _ (λ w h. all_firsts P (2 ^ K) _ (λ S l. (refl, h, l)))) (refl, tt),
    )))

calls_have : (K W N : ℕ) (c : StoreCall) → InRange K W N c → In c (calls K W N)
unfolding calls In InRange
calls_have K W N (fetch o k) p =
    in_append_left (fetch o k) (rows N (λ o. firsts K (λ k. fetch o k))) _
    (in_rows (fetch o k) N _ o p.0 (in_firsts K (λ k. fetch o k) k p.1))
calls_have K W N (evict o k) p =
    in_append_right (evict o k) (rows N (λ o. firsts K (λ k. fetch o k))) _
    (in_append_left (evict o k) (rows N (λ o. firsts K (λ k. evict o k))) _
    (in_rows (evict o k) N _ o p.0 (in_firsts K (λ k. evict o k) k p.1)))
calls_have K W N (open_run r l) p =
    let o = p.1.0 in
    let m = p.1.1 in
    rw (p.0, p.1.4)
    (in_append_right (open_run 0 (one_job o m)) (rows N (λ o. firsts K (λ k. fetch o k))) _
    (in_append_right (open_run 0 (one_job o m)) (rows N (λ o. firsts K (λ k. evict o k))) _
    (in_append_left (open_run 0 (one_job o m))
    (rows N (λ o. firsts (2 ^ K) (λ m. open_run 0 (one_job o m)))) _
    (in_rows (open_run 0 (one_job o m)) N _ o p.1.2
    (in_firsts (2 ^ K) (λ m. open_run 0 (one_job o m)) m p.1.3)))))
calls_have K W N (step r j n) p =
    rw (p.0, p.1, p.2)
    (in_append_right (step 0 0 0) (rows N (λ o. firsts K (λ k. fetch o k))) _
    (in_append_right (step 0 0 0) (rows N (λ o. firsts K (λ k. evict o k))) _
    (in_append_right (step 0 0 0) (rows N (λ o. firsts (2 ^ K) (λ m. open_run 0 (one_job o m)))) _
    (inl refl))))
calls_have K W N (issue r w S) p =
    rw p.0
    (in_append_right (issue 0 w S) (rows N (λ o. firsts K (λ k. fetch o k))) _
    (in_append_right (issue 0 w S) (rows N (λ o. firsts K (λ k. evict o k))) _
    (in_append_right (issue 0 w S) (rows N (λ o. firsts (2 ^ K) (λ m. open_run 0 (one_job o m)))) _
    (inr (in_append_left (issue 0 w S) (rows W (λ w. firsts (2 ^ K) (λ S. issue 0 w S))) _
    (in_rows (issue 0 w S) W _ w p.1 (in_firsts (2 ^ K) (λ S. issue 0 w S) S p.2)))))))
calls_have K W N (drop_run r) p =
    rw p
    (in_append_right (drop_run 0) (rows N (λ o. firsts K (λ k. fetch o k))) _
    (in_append_right (drop_run 0) (rows N (λ o. firsts K (λ k. evict o k))) _
    (in_append_right (drop_run 0) (rows N (λ o. firsts (2 ^ K) (λ m. open_run 0 (one_job o m)))) _
    (inr (in_append_right (drop_run 0) (rows W (λ w. firsts (2 ^ K) (λ S. issue 0 w S))) _
    (inl refl))))))
calls_have K W N (prepare r) p = absurd p
calls_have K W N (allow o m) p = absurd p
calls_have K W N pick p = absurd p
calls_have K W N (mayhold o m) p = absurd p
calls_have K W N (maysave w m) p = absurd p
calls_have K W N (fork r) p = absurd p
calls_have K W N (join r) p = absurd p
calls_have K W N (ask q) p = absurd p

pub calls-all : (K W N : ℕ) (c : StoreCall) → In c (calls K W N) ↔ InRange K W N c
calls-all K W N c = (
  all_in (InRange K W N) (calls K W N) (calls-only K W N) c,
  calls_have K W N c,
)

-- ---- both: "every script .., all numbers in range", and no other

pub all_listed : (K W N n : ℕ) (cs : List StoreCall)
    → In cs (scripts (calls K W N) n) ↔ (length cs ≡ n) × AllOf (InRange K W N) cs
all_listed K W N n cs =
    let Listed : StoreCall → Type 0 = λ c. In c (calls K W N) in
    let P = InRange K W N in (
      λ p. let q = (scripts-all (calls K W N) n cs).0 p in
          (q.0, all-imp Listed P (λ c. (calls-all K W N c).0) cs q.1),
      λ p. (scripts-all (calls K W N) n cs).1
          (p.0, all-imp P Listed (λ c. (calls-all K W N c).1) cs p.1),
    )
