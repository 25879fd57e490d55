-- The first number that fails a test: how a loop looks for it, and what is known once it is found.
use mathlib.Core.Path.{◌≡◌, refl, sym, ap, ◌∙◌}
use mathlib.Core.Bool.{Bool, true, false}
use mathlib.Core.Logic.{◌⊎◌, inl, inr, ⊎_elim}
use Prim.Native.Nat.{ℕ, zero, suc, ◌+◌, ◌-◌, ◌*◌, ◌≤◌, ◌<◌}
use native.Mathlib.Omega.{arith}
use native.Mathlib.Nat.{eq-or-lt_of_le}
use native.Mathlib.Numerals.{add-one}
use Rattle.bits.specs.Basics.{pick, first_from, up_to}
use Rattle.bits.specs.Pack.{Bits}
use Rattle.bits.proofs.Laws.Choice.{bit_cases, lt_or_le}

-- a loop's turn, and its two ends
pub first_on : (p : ℕ → Bool) (n i : ℕ) → i < n → p i ≡ true → up_to p (i + 1) n ≡ up_to p i n
unfolding first_from
first_on p n i h e =
    let k : n - i ≡ suc (n - (i + 1)) = omega arith in
    rw (k, e) (ap (λ (j : ℕ). first_from p (n - (i + 1)) j) (add-one i))

pub first_here : (p : ℕ → Bool) (n i : ℕ) → i < n → p i ≡ false → up_to p i n ≡ i
unfolding first_from
first_here p n i h e =
    let k : n - i ≡ suc (n - (i + 1)) = omega arith in
    rw (k, e) refl

pub first_end : (p : ℕ → Bool) (n i : ℕ) → n ≤ i → i ≤ n → up_to p i n ≡ n
unfolding first_from
first_end p n i h g =
    let k : n - i ≡ 0 = omega arith in
    rw k (omega arith)

-- several at once
pub first_skip : (p : ℕ → Bool) (d n i : ℕ) → i + d ≤ n → ((k : ℕ) → i ≤ k → k < i + d → p k ≡ true) → up_to p (i + d) n ≡ up_to p i n
first_skip p zero n i h q = ap (λ (j : ℕ). up_to p j n) (omega arith)
first_skip p (suc d) n i h q =
    let l : i < n = omega arith in
    let e : i + suc d ≡ i + 1 + d = omega arith in
    ap (λ (j : ℕ). up_to p j n) e
    ∙ first_skip p d n (i + 1) (omega arith) (λ k a b. q k (omega arith) (omega arith))
    ∙ first_on p n i l (q i (omega arith) (omega arith))

-- ---- from x on

-- r is the first from x on that fails, or the end
pub record Found (p : ℕ → Bool) (x end r : ℕ) : Type 0 where
  pub least : x ≤ r
  pub most : r ≤ end
  pub before : (k : ℕ) → x ≤ k → k < r → p k ≡ true
  pub fails : r < end → p r ≡ false

found_from : (p : ℕ → Bool) (n i : ℕ) → Found p i (i + n) (first_from p n i)
unfolding first_from
found_from p zero i =
    record { least = omega arith; most = omega arith; before = λ k a b. absurd (omega arith); fails = λ h. absurd (omega arith) }
found_from p (suc n) i = cases (p i) refl (found_from p n (suc i))
  where
    cases : (t : Bool) → p i ≡ t → Found p (suc i) (suc i + n) (first_from p n (suc i)) → Found p i (i + suc n) (pick t (first_from p n (suc i)) i)
    cases true e f =
        record {
          least = let a = f.least in omega arith;
          most = let a = f.most in omega arith;
          before = λ k a b. ⊎_elim (λ (s : i ≡ k). ap p (sym s) ∙ e) (λ (s : i < k). f.before k s b) (eq-or-lt_of_le a);
          fails = λ h. f.fails (omega arith);
        }
    cases false e f =
        record { least = omega arith; most = omega arith; before = λ k a b. absurd (omega arith); fails = λ h. e }

pub found : (p : ℕ → Bool) (x end : ℕ) → x ≤ end → Found p x end (up_to p x end)
found p x end h = let e : x + (end - x) ≡ end = omega arith in rw e at (found_from p (end - x) x)

-- it is the number that fails with all before it passing
pub found_at : (p : ℕ → Bool) (x end k : ℕ) → x ≤ k → k < end → ((i : ℕ) → x ≤ i → i < k → p i ≡ true) → p k ≡ false → up_to p x end ≡ k
found_at p x end k a l h e =
    let s : x + (k - x) ≡ k = omega arith in
    sym (first_skip p (k - x) end x (omega arith) (λ i c d. h i c (omega arith)))
    ∙ ap (λ (i : ℕ). up_to p i end) s
    ∙ first_here p end k l e

-- none fails
pub found_none : (p : ℕ → Bool) (x end : ℕ) → x ≤ end → ((i : ℕ) → x ≤ i → i < end → p i ≡ true) → up_to p x end ≡ end
found_none p x end a h =
    let s : x + (end - x) ≡ end = omega arith in
    let l : end ≤ end = omega arith in
    sym (first_skip p (end - x) end x (omega arith) (λ i c d. h i c (omega arith)))
    ∙ ap (λ (i : ℕ). up_to p i end) s
    ∙ first_end p end end l l

pub none_found : (p : ℕ → Bool) (x end : ℕ) → x ≤ end → up_to p x end ≡ end → (k : ℕ) → x ≤ k → k < end → p k ≡ true
none_found p x end a e k b c = (found p x end a).before k b (omega arith)

-- of the numbers below n
pub up_to_le : (p : ℕ → Bool) (n : ℕ) → up_to p 0 n ≤ n
up_to_le p n = (found p 0 n (omega arith)).most

pub all_pass : (p : ℕ → Bool) (n : ℕ) → ((k : ℕ) → k < n → p k ≡ true) → up_to p 0 n ≡ n
all_pass p n h = found_none p 0 n (omega arith) (λ k a b. h k b)

pub none_fails : (p : ℕ → Bool) (n : ℕ) → up_to p 0 n ≡ n → (k : ℕ) → k < n → p k ≡ true
none_fails p n e k b = none_found p 0 n (omega arith) e k (omega arith) b

-- it fails, and all before it pass
pub one_fails : (p : ℕ → Bool) (n : ℕ) → up_to p 0 n < n → p (up_to p 0 n) ≡ false
one_fails p n h = (found p 0 n (omega arith)).fails h

pub passes_before : (p : ℕ → Bool) (n k : ℕ) → k < up_to p 0 n → p k ≡ true
passes_before p n k b = (found p 0 n (omega arith)).before k (omega arith) b

-- tests that agree find the same place
pub same_from : (p q : ℕ → Bool) (m i : ℕ) → ((k : ℕ) → i ≤ k → k < i + m → p k ≡ q k) → first_from p m i ≡ first_from q m i
unfolding first_from
same_from p q zero i h = refl
same_from p q (suc m) i h =
    let rest : first_from p m (suc i) ≡ first_from q m (suc i) = same_from p q m (suc i) (λ k a b. h k (omega arith) (omega arith)) in
    rw (h i (omega arith) (omega arith), rest) refl

pub first_same : (p q : ℕ → Bool) (n : ℕ) → ((k : ℕ) → k < n → p k ≡ q k) → up_to p 0 n ≡ up_to q 0 n
first_same p q n h = same_from p q (n - 0) 0 (λ k a b. h k (omega arith))

-- ---- in parts

-- the first that fails in a part is the first of the whole
pub part_fails : (t : ℕ → Bool) (x mid end r : ℕ) → x ≤ mid → mid ≤ end → r ≡ up_to t x mid → r < mid → r ≡ up_to t x end
part_fails t x mid end r a b e l =
    let f = found t x mid a in
    e ∙ sym (found_at t x end (up_to t x mid) f.least (omega arith) f.before (f.fails (omega arith)))

-- and where none does, what is left finds what the whole finds
pub part_passes : (t : ℕ → Bool) (x mid end r : ℕ) → x ≤ mid → mid ≤ end → r ≡ up_to t x mid → mid ≤ r → up_to t mid end ≡ up_to t x end
part_passes t x mid end r a b e l =
    let f = found t x mid a in
    let s : x + (mid - x) ≡ mid = omega arith in
    ap (λ (y : ℕ). up_to t y end) (sym s) ∙ first_skip t (mid - x) end x (omega arith) (λ k c d. f.before k c (omega arith))

-- a search part after part, of so many parts of this size: what is left finds what the whole finds
pub record Sought (t : ℕ → Bool) (size end count c : ℕ) : Type 0 where
  pub turn : c ≤ count
  pub left : up_to t (c * size) end ≡ up_to t 0 end

module _ (t : ℕ → Bool) (size end count : ℕ) where
  pub sought_start : Sought t size end count 0
  sought_start = record { turn = omega arith; left = ap (λ (x : ℕ). up_to t x end) (omega arith) }

  module _ (c : ℕ) (sought : Sought t size end count c) (mid r : ℕ) (from : c * size ≤ mid) (to : mid ≤ c * size + size) (within : c * size + size ≤ end) (e : r ≡ up_to t (c * size) mid) where
    -- the first that fails in a part is the first of the whole
    pub sought_fails : r < mid → r ≡ up_to t 0 end
    sought_fails l =
        let f = found t (c * size) mid from in
        e ∙ sym (found_at t (c * size) end (up_to t (c * size) mid) f.least (omega arith) f.before (f.fails (omega arith))) ∙ sought.left

    -- where a part passes, and what follows it too, the next is asked
    pub sought_more : c < count → mid ≤ r → ((k : ℕ) → mid ≤ k → k < c * size + size → t k ≡ true) → Sought t size end count (c + 1)
    sought_more l g h =
        let f = found t (c * size) mid from in
        let next : (c + 1) * size ≡ c * size + size = omega arith in
        record {
          turn = omega arith;
          left =
              ap (λ (x : ℕ). up_to t x end) next
              ∙ first_skip t size end (c * size) within (λ k a b. ⊎_elim (λ (s : k < mid). f.before k a (omega arith)) (λ (s : mid ≤ k). h k s b) (lt_or_le k mid))
              ∙ sought.left;
        }

  -- all parts passed, with nothing after them
  pub sought_end : (c : ℕ) → Sought t size end count c → c * size ≡ end → c * size ≡ up_to t 0 end
  sought_end c sought e = e ∙ sym (first_end t end (c * size) (omega arith) (omega arith)) ∙ sought.left

-- ---- among bits

-- the first 1 of x below n
pub record FirstOne (x : ℕ → ℕ) (n : ℕ) : Type 0 where
  pub at : ℕ
  pub inside : at < n
  pub one : x at ≡ 1
  pub quiet : (k : ℕ) → k < at → x k ≡ 0

-- and another at least 32 places after it
pub record FarOnes (x : ℕ → ℕ) (n : ℕ) : Type 0 where
  pub first : FirstOne x n
  pub other : ℕ
  pub inside : other < n
  pub one : x other ≡ 1
  pub far : first.at + 32 ≤ other

pub one_or_none : (x : ℕ → ℕ) → Bits x → (n : ℕ) → FirstOne x n ⊎ ((k : ℕ) → k < n → x k ≡ 0)
one_or_none x h zero = inr (λ k l. absurd (omega arith))
one_or_none x h (suc n) =
    ⊎_elim
    (λ (f : FirstOne x n). let i = f.inside in inl (record { at = f.at; inside = omega arith; one = f.one; quiet = f.quiet }))
    (λ (z : (k : ℕ) → k < n → x k ≡ 0). ⊎_elim
    (λ (e : x n ≡ 0). inr (λ k l. ⊎_elim (λ (b : k < n). z k b) (λ (b : n ≤ k). let d : k ≡ n = omega arith in ap x d ∙ e) (lt_or_le k n)))
    (λ (e : x n ≡ 1). inl (record { at = n; inside = omega arith; one = e; quiet = z }))
    (bit_cases (x n) (h n)))
    (one_or_none x h n)
