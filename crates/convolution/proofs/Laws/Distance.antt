-- How far apart coded bits are: an input difference that has a 1 at least 32 places after its first 1, and ends in two zeros, has a coded
-- difference of at least 16, 10 or 6 ones.
--
-- The walk through the code's states takes two input bits a step. The state before input bit i is (δ (i-1), δ (i-2)). `gained` bounds from
-- below the ones that a path has made which left the zero state and stands in some state; back in the zero state it is the free distance.
-- `reached` grows with the steps besides: 16 steps later a path that is in another state than zero has made a free distance more, either on
-- a first way out and back or because it has been out all the time. That no step makes fewer ones than a bound grows by is a test over all
-- states and input bits, which antt computes.
use mathlib.Core.Path.{◌≡◌, refl, sym, ap, ap₂, ◌∙◌}
use mathlib.Core.Bool.{Bool, true}
use mathlib.Core.List.{List, [], ◌∷◌}
use mathlib.Core.Logic.{⊎_elim}
use Prim.Native.Nat.{ℕ, zero, suc, ◌+◌, ◌-◌, ◌*◌, ◌/◌, ◌%◌, ◌≤◌, ◌<◌, min}
use native.Mathlib.Omega.{arith}
use native.Mathlib.Numerals.{add-one}
use native.Mathlib.Nat.{add-zero, add-suc}
use lib.Bits.{bit_xor}
use lib.Dec.{T, leb, leb→le, eqb}
use lib.ListN.{get_or}
use borrow.Author.Tests.{ne_eqb}
use Rattle.bits.specs.Basics.{pick}
use Rattle.bits.proofs.Laws.Choice.{bit_cases, lt_or_le}
use Rattle.bits.proofs.Laws.First.{FirstOne, FarOnes}
use Rattle.bits.proofs.Laws.Table.{all_below, below_all}
use Rattle.bits.specs.Pack.{Bits}
use Rattle.bits.specs.Count.{weight}
use Rattle.bits.proofs.Laws.Weight.{weight_two, weight_three}
use Rattle.sizes.specs.Sizes.{info_bits, word_bits}
use Rattle.sizes.proofs.Laws.Rate.{by_rate}
use Rattle.convolution.specs.Code.{delay, first, second, encode}
use Rattle.convolution.proofs.Laws.Code.{delay_bits, third_first, third_second, third_third, half_first, half_second, two_first, two_second, two_odd}

-- the free distance: no path that leaves the zero state and comes back to it makes fewer ones
unfoldable pub distance : ℕ → ℕ
distance zero = 8
distance (suc zero) = 5
distance (suc (suc r)) = 3

-- the bound at a rate in the states 00, 01, 10 and 11, the newer bit first
bounds : ℕ → List ℕ
bounds zero = 8 ∷ 5 ∷ 3 ∷ 4 ∷ []
bounds (suc zero) = 5 ∷ 3 ∷ 2 ∷ 3 ∷ []
bounds (suc (suc r)) = 3 ∷ 2 ∷ 1 ∷ 1 ∷ []

gained : ℕ → ℕ → ℕ → ℕ
gained rate a b = get_or (bounds rate) (2 * a + b) 0

-- the ones that two input bits u, v make in state a, b: their first outputs and their second ones
firsts : ℕ → ℕ → ℕ
firsts b u = bit_xor u b

seconds : ℕ → ℕ → ℕ → ℕ
seconds a b u = bit_xor (bit_xor u a) b

made : ℕ → ℕ → ℕ → ℕ → ℕ → ℕ
made zero a b u v = firsts b u + seconds a b u + seconds a b u + (firsts a v + seconds u a v + seconds u a v)
made (suc zero) a b u v = firsts b u + seconds a b u + (firsts a v + seconds u a v)
made (suc (suc r)) a b u v = firsts b u + seconds a b u + seconds u a v

-- the bound t steps after the step that first left the zero state
reached : ℕ → ℕ → ℕ → ℕ → ℕ
reached r t a b = gained r a b + pick (eqb (a + b) 0) 0 (min (distance r) ((t + a) / 2))

-- a test of all states and input bits
arrows : (ℕ → ℕ → ℕ → ℕ → Bool) → Bool
arrows p = all_below 2 (λ a. all_below 2 (λ b. all_below 2 (λ u. all_below 2 (p a b u))))

of_arrows : (p : ℕ → ℕ → ℕ → ℕ → Bool) → T (arrows p) → (a b u v : ℕ) → a < 2 → b < 2 → u < 2 → v < 2 → T (p a b u v)
unfolding arrows
of_arrows p t a b u v ha hb hu hv =
    below_all 2 (p a b u)
    (below_all 2 (λ u. all_below 2 (p a b u))
    (below_all 2 (λ b. all_below 2 (λ u. all_below 2 (p a b u)))
    (below_all 2 (λ a. all_below 2 (λ b. all_below 2 (λ u. all_below 2 (p a b u)))) t a ha) b hb) u hu) v hv

-- on leaving the zero state
leaves : ℕ → ℕ → ℕ → ℕ → ℕ → Bool
leaves r a b u v = pick (eqb (u + v) 0) true (leb (reached r 0 v u) (made r 0 0 u v))

-- from any state, of either bound
keeps : ℕ → ℕ → ℕ → ℕ → ℕ → Bool
keeps r a b u v = leb (gained r v u) (gained r a b + made r a b u v)

reaches : ℕ → ℕ → ℕ → ℕ → ℕ → ℕ → Bool
reaches r t a b u v = leb (reached r (suc t) v u) (reached r t a b + made r a b u v)

left : (r u v : ℕ) → r < 3 → u < 2 → v < 2 → 0 < u + v → reached r 0 v u ≤ made r 0 0 u v
unfolding arrows leaves reached gained bounds distance made firsts seconds
left r u v hr hu hv h =
    let ne : u + v ≡ 0 → ⊥ = λ e. omega arith in
    let t : T (leaves r 0 0 u v) = of_arrows (leaves r) (below_all 3 (λ r. arrows (leaves r)) tt r hr) 0 0 u v (omega arith) (omega arith) hu hv in
    leb→le (reached r 0 v u) (made r 0 0 u v) (rw (ne_eqb (u + v) 0 ne) at t)

kept : (r a b u v : ℕ) → r < 3 → a < 2 → b < 2 → u < 2 → v < 2 → gained r v u ≤ gained r a b + made r a b u v
unfolding arrows keeps gained bounds made firsts seconds
kept r a b u v hr ha hb hu hv =
    leb→le (gained r v u) (gained r a b + made r a b u v) (of_arrows (keeps r) (below_all 3 (λ r. arrows (keeps r)) tt r hr) a b u v ha hb hu hv)

distance_le : (r : ℕ) → distance r ≤ 8
unfolding distance
distance_le zero = omega arith
distance_le (suc zero) = omega arith
distance_le (suc (suc r)) = omega arith

-- from 16 steps on the bound grows no more: it is a free distance above `gained`
settled : (r t a b : ℕ) → 16 ≤ t → reached r t a b ≡ gained r a b + pick (eqb (a + b) 0) 0 (distance r)
unfolding reached
settled r t a b h =
    let most : min (distance r) ((t + a) / 2) ≡ distance r = omega (arith, distance_le r) in
    rw most refl

reached_on : (r t a b u v : ℕ) → r < 3 → a < 2 → b < 2 → u < 2 → v < 2 → reached r (suc t) v u ≤ reached r t a b + made r a b u v
unfolding arrows reaches reached gained bounds distance made firsts seconds
reached_on r t a b u v hr ha hb hu hv =
    ⊎_elim (λ (l : t < 17). tested t l)
    (λ (l : 17 ≤ t).
    let e : reached r (suc t) v u ≡ reached r 17 v u = settled r (suc t) v u (omega arith) ∙ sym (settled r 17 v u (omega arith)) in
    let f : reached r t a b ≡ reached r 16 a b = settled r t a b (omega arith) ∙ sym (settled r 16 a b (omega arith)) in
    rw (e, f) (tested 16 (omega arith)))
    (lt_or_le t 17)
  where
    tested : (t : ℕ) → t < 17 → reached r (suc t) v u ≤ reached r t a b + made r a b u v
    tested t l =
        leb→le (reached r (suc t) v u) (reached r t a b + made r a b u v)
        (of_arrows (reaches r t)
        (below_all 17 (λ t. arrows (reaches r t))
        (below_all 3 (λ r. all_below 17 (λ t. arrows (reaches r t))) tt r hr) t l) a b u v ha hb hu hv)

-- back in the zero state the bound is the free distance
zero_state : (r : ℕ) → gained r 0 0 ≡ distance r
unfolding gained bounds distance
zero_state zero = refl
zero_state (suc zero) = refl
zero_state (suc (suc r)) = refl

-- coded bits of two input bits
coded_per_two : ℕ → ℕ
coded_per_two zero = 6
coded_per_two (suc zero) = 4
coded_per_two (suc (suc r)) = 3

module _ (δ : ℕ → ℕ) (bits : Bits δ) where
  -- the ones among the coded bits of the first 2 q input bits
  ones : ℕ → ℕ → ℕ
  ones r q = weight (encode r δ) (coded_per_two r * q)

  newer : ℕ → ℕ
  newer q = delay δ (2 * q)

  older : ℕ → ℕ
  older q = delay (delay δ) (2 * q)

  -- the coded bits of input bits n and n + 1, at each rate
  grow_third : (n : ℕ) → weight (encode 0 δ) (3 * n + 3 + 3) ≡ weight (encode 0 δ) (3 * n)
      + (first δ n + second δ n + second δ n + (first δ (suc n) + second δ (suc n) + second δ (suc n)))
  grow_third n =
      let c : ℕ → ℕ = encode 0 δ in
      let m0 : 3 * n + 3 ≡ 3 * suc n = omega arith in
      let m1 : 3 * n + 3 + 1 ≡ 3 * suc n + 1 = omega arith in
      let m2 : 3 * n + 3 + 2 ≡ 3 * suc n + 2 = omega arith in
      let e0 : c (3 * n + 3) ≡ first δ (suc n) = ap c m0 ∙ third_first δ (suc n) in
      let e1 : c (3 * n + 3 + 1) ≡ second δ (suc n) = ap c m1 ∙ third_second δ (suc n) in
      let e2 : c (3 * n + 3 + 2) ≡ second δ (suc n) = ap c m2 ∙ third_third δ (suc n) in
      omega (arith, weight_three c (3 * n + 3), weight_three c (3 * n), third_first δ n, third_second δ n, third_third δ n, e0, e1, e2)

  grow_half : (n : ℕ) → weight (encode 1 δ) (2 * n + 2 + 2) ≡ weight (encode 1 δ) (2 * n)
      + (first δ n + second δ n + (first δ (suc n) + second δ (suc n)))
  grow_half n =
      let c : ℕ → ℕ = encode 1 δ in
      let m0 : 2 * n + 2 ≡ 2 * suc n = omega arith in
      let m1 : 2 * n + 2 + 1 ≡ 2 * suc n + 1 = omega arith in
      let e0 : c (2 * n + 2) ≡ first δ (suc n) = ap c m0 ∙ half_first δ (suc n) in
      let e1 : c (2 * n + 2 + 1) ≡ second δ (suc n) = ap c m1 ∙ half_second δ (suc n) in
      omega (arith, weight_two c (2 * n + 2), weight_two c (2 * n), half_first δ n, half_second δ n, e0, e1)

  grow_two : (q : ℕ) → weight (encode 2 δ) (3 * q + 3) ≡ weight (encode 2 δ) (3 * q) + (first δ (2 * q) + second δ (2 * q) + second δ (suc (2 * q)))
  grow_two q =
      let e : second δ (2 * q + 1) ≡ second δ (suc (2 * q)) = ap (second δ) (add-one (2 * q)) in
      omega (arith, weight_three (encode 2 δ) (3 * q), two_first δ q, two_second δ q, two_odd δ q, e)

  ones_grow : (r q : ℕ) → r < 3 → ones r (suc q) ≡ ones r q + made r (newer q) (older q) (δ (2 * q)) (δ (suc (2 * q)))
  unfolding ones newer older made firsts seconds coded_per_two first second delay
  ones_grow r q h =
      by_rate (λ (r : ℕ). weight (encode r δ) (coded_per_two r * suc q) ≡ weight (encode r δ) (coded_per_two r * q) + made r (delay δ (2 * q)) (delay (delay δ) (2 * q)) (δ (2 * q)) (δ (suc (2 * q))))
      (let a : 6 * suc q ≡ 3 * (2 * q) + 3 + 3 = omega arith in
      let b : 3 * (2 * q) ≡ 6 * q = omega arith in
      ap (weight (encode 0 δ)) a ∙ grow_third (2 * q) ∙ ap (λ (m : ℕ). weight (encode 0 δ) m + made 0 (delay δ (2 * q)) (delay (delay δ) (2 * q)) (δ (2 * q)) (δ (suc (2 * q)))) b)
      (let a : 4 * suc q ≡ 2 * (2 * q) + 2 + 2 = omega arith in
      let b : 2 * (2 * q) ≡ 4 * q = omega arith in
      ap (weight (encode 1 δ)) a ∙ grow_half (2 * q) ∙ ap (λ (m : ℕ). weight (encode 1 δ) m + made 1 (delay δ (2 * q)) (delay (delay δ) (2 * q)) (δ (2 * q)) (δ (suc (2 * q)))) b)
      (let a : 3 * suc q ≡ 3 * q + 3 = omega arith in
      ap (weight (encode 2 δ)) a ∙ grow_two q)
      r h

  -- no input bit so far is 1
  Quiet : ℕ → Type 0
  Quiet q = (k : ℕ) → k < 2 * q → δ k ≡ 0

  -- the state after two input bits
  state_next : (q : ℕ) → (newer (suc q) ≡ δ (suc (2 * q))) × (older (suc q) ≡ δ (2 * q))
  unfolding newer older delay
  state_next q =
      let e : 2 * suc q ≡ suc (suc (2 * q)) = omega arith in
      (rw e refl, rw e refl)

  quiet_state : (q : ℕ) → Quiet q → (newer q ≡ 0) × (older q ≡ 0)
  unfolding newer older Quiet delay
  quiet_state zero h = (refl, refl)
  quiet_state (suc q) h = ((state_next q).0 ∙ h (suc (2 * q)) (omega arith), (state_next q).1 ∙ h (2 * q) (omega arith))

  -- a step with a 1 in it
  loud : (i : ℕ) → δ i ≡ 1 → 0 < δ (2 * (i / 2)) + δ (suc (2 * (i / 2)))
  loud i one =
      ⊎_elim
      (λ (e : i % 2 ≡ 0). let s : 2 * (i / 2) ≡ i = omega arith in let o : δ (2 * (i / 2)) ≡ 1 = ap δ s ∙ one in omega arith)
      (λ (e : i % 2 ≡ 1). let s : suc (2 * (i / 2)) ≡ i = omega arith in let o : δ (suc (2 * (i / 2))) ≡ 1 = ap δ s ∙ one in omega arith)
      (bit_cases (i % 2) (omega arith))

  -- a bound that no step breaks holds along the walk
  walk : (r : ℕ) → r < 3 → (bound : ℕ → ℕ → ℕ → ℕ)
      → ((t a b u v : ℕ) → a < 2 → b < 2 → u < 2 → v < 2 → bound (suc t) v u ≤ bound t a b + made r a b u v)
      → (s : ℕ) → bound 0 (newer s) (older s) ≤ ones r s → (t : ℕ) → bound t (newer (s + t)) (older (s + t)) ≤ ones r (s + t)
  unfolding newer older
  walk r h bound on s from zero = rw (add-zero s) from
  walk r h bound on s from (suc t) =
      let q : ℕ = s + t in
      let u : ℕ = δ (2 * q) in
      let v : ℕ = δ (suc (2 * q)) in
      let after : bound (suc t) (newer (suc q)) (older (suc q)) ≡ bound (suc t) v u = ap₂ (bound (suc t)) (state_next q).0 (state_next q).1 in
      rw (add-suc s t) (omega (arith, after, ones_grow r q h, walk r h bound on s from t, on t (newer q) (older q) u v (delay_bits δ bits (2 * q)) (delay_bits (delay δ) (delay_bits δ bits) (2 * q)) (bits (2 * q)) (bits (suc (2 * q)))))

  -- the first 1 leaves the zero state
  leaving : (r n : ℕ) → r < 3 → (f : FirstOne δ n) → reached r 0 (newer (suc (f.at / 2))) (older (suc (f.at / 2))) ≤ ones r (suc (f.at / 2))
  unfolding Quiet
  leaving r n h f =
      let p : ℕ = f.at / 2 in
      let u : ℕ = δ (2 * p) in
      let v : ℕ = δ (suc (2 * p)) in
      let z = quiet_state p (λ k l. f.quiet k (omega arith)) in
      let after : reached r 0 (newer (suc p)) (older (suc p)) ≡ reached r 0 v u = ap₂ (reached r 0) (state_next p).0 (state_next p).1 in
      let e : made r (newer p) (older p) u v ≡ made r 0 0 u v = ap₂ (λ (a b : ℕ). made r a b u v) z.0 z.1 in
      omega (arith, after, ones_grow r p h, e, left r u v h (bits (2 * p)) (bits (suc (2 * p))) (loud f.at f.one))

  -- after a 1 at least 32 places after it, a free distance is made besides
  far_on : (r n : ℕ) → r < 3 → (f : FarOnes δ n)
      → distance r + gained r (newer (suc (f.other / 2))) (older (suc (f.other / 2))) ≤ ones r (suc (f.other / 2))
  far_on r n h f =
      let p : ℕ = f.first.at / 2 in
      let q : ℕ = f.other / 2 in
      let t : ℕ = q - p in
      let a : ℕ = newer (suc q) in
      let b : ℕ = older (suc q) in
      let far = f.far in
      let at : suc p + t ≡ suc q = omega arith in
      let away : 0 < a + b = omega (arith, loud f.other f.one, (state_next q).0, (state_next q).1) in
      let ne : a + b ≡ 0 → ⊥ = λ e. omega arith in
      let e : reached r t a b ≡ gained r a b + distance r =
      settled r t a b (omega arith) ∙ ap (λ (z : Bool). gained r a b + pick z 0 (distance r)) (ne_eqb (a + b) 0 ne) in
      let w : reached r t a b ≤ ones r (suc q) =
      rw at at (walk r h (reached r) (λ t a b u v. reached_on r t a b u v h) (suc p) (leaving r n h f.first) t) in
      omega (arith, e, w)

  -- at the end, after t times two input bits, the state is the zero state again
  at_end : (r t : ℕ) → r < 3 → coded_per_two r * t ≡ word_bits → 2 * t ≡ info_bits r + 34 → δ (info_bits r + 32) ≡ 0 → δ (info_bits r + 33) ≡ 0
      → FarOnes δ (info_bits r + 32) → 2 * distance r ≤ weight (encode r δ) word_bits
  unfolding newer older delay ones
  at_end r t h size turns e f ends =
      let q : ℕ = ends.other / 2 in
      let l = ends.inside in
      let n : 2 * t ≡ suc (suc (info_bits r + 32)) = omega arith in
      let m : info_bits r + 33 ≡ suc (info_bits r + 32) = omega arith in
      let a : newer t ≡ 0 = ap (delay δ) n ∙ ap δ (sym m) ∙ f in
      let b : older t ≡ 0 = ap (delay (delay δ)) n ∙ e in
      let at : suc q + (t - suc q) ≡ t = omega arith in
      let w : distance r + gained r (newer t) (older t) ≤ ones r t =
      rw at at (walk r h (λ s a b. distance r + gained r a b)
      (λ s a b u v ha hb hu hv. omega (arith, kept r a b u v h ha hb hu hv))
      (suc q) (far_on r (info_bits r + 32) h ends) (t - suc q)) in
      let d : gained r (newer t) (older t) ≡ distance r = ap₂ (gained r) a b ∙ zero_state r in
      let c : ones r t ≡ weight (encode r δ) word_bits = ap (weight (encode r δ)) size in
      omega (arith, w, d, c)

  -- twice the free distance, of a difference with ones so far apart that ends in two zeros
  pub weight_twice : (r : ℕ) → r < 3 → δ (info_bits r + 32) ≡ 0 → δ (info_bits r + 33) ≡ 0 → FarOnes δ (info_bits r + 32)
      → 2 * distance r ≤ weight (encode r δ) word_bits
  unfolding info_bits coded_per_two
  weight_twice r h =
      by_rate
      (λ (r : ℕ). δ (info_bits r + 32) ≡ 0 → δ (info_bits r + 33) ≡ 0 → FarOnes δ (info_bits r + 32) → 2 * distance r ≤ weight (encode r δ) word_bits)
      (at_end 0 2520 (omega arith) refl refl) (at_end 1 3780 (omega arith) refl refl) (at_end 2 5040 (omega arith) refl refl)
      r h
