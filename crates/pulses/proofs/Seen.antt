-- The symbol of a group that has one, by numbers: all but one are 0, and that has its one where the symbol says.
use mathlib.Core.Path.{◌≡◌, refl, sym, ap, ◌∙◌}
use mathlib.Core.List.{List}
use mathlib.Core.Logic.{⊎_elim}
use Prim.Native.Nat.{ℕ, ◌+◌, ◌-◌, ◌*◌, ◌/◌, ◌%◌, ◌^◌, ◌≤◌, ◌<◌}
use native.Mathlib.Omega.{arith}
use native.Mathlib.Nat.{zero-div}
use lib.Dec.{eqb}
use borrow.Author.Tests.{lt-ltb, le-ltb, eq-eqb, ne_eqb, eqb-true}
use Rattle.bits.specs.Basics.{bool}
use Rattle.bits.proofs.Laws.Choice.{bool_true, eq_or_ne, lt_or_le}
use Rattle.bits.specs.Inner.{Leads, lesser, bits_from}
use Rattle.bits.proofs.Laws.Leading.{first_one, no_one}
use Rattle.bits.specs.Pack.{val, bit_at, cut, first_set, clear_at}
use Rattle.bits.proofs.Laws.Pack.{bit_lt, val_same, val_bits, cut_in, cut_past, cut_bits}
use Rattle.bits.proofs.Laws.Parts.{val_shift}
use Rattle.bits.proofs.Laws.Window.{window_stop}
use Rattle.bits.proofs.Laws.First.{found_at}
use Rattle.pulses.proofs.Laws.Groups.{group_got}
use Rattle.pulses.specs.Pulses.{symbol_in}
use Rattle.pulses.proofs.Swept.{number_at}

-- the symbol is the first pulse of the first M slots
pub symbol_first : (order group : ℕ) → order ≤ group → (b : List ℕ) (s : ℕ) → symbol_in order group b s < order → first_set b (s * group) (s * group + order) ≡ s * group + symbol_in order group b s
unfolding first_set
symbol_first order group big b s h =
    let x : ℕ = s * group in
    let q : ℕ = symbol_in order group b s in
    let g = group_got order group big b s h in
    let one : bit_at b (x + q) ≡ 1 = g.slot q (omega arith) ∙ ap bool (eq-eqb q q refl) in
    found_at (clear_at b) x (x + order) (x + q) (omega arith) (omega arith) (λ i a l.
    let e : i ≡ x + (i - x) = omega arith in
    eq-eqb (bit_at b i) 0 (ap (bit_at b) e ∙ g.slot (i - x) (omega arith) ∙ ap bool (ne_eqb (i - x) q (λ z. omega arith)))) (ne_eqb (bit_at b (x + q)) 0 (λ z. omega arith))

-- ---- near

module _ (order group : ℕ) (b : List ℕ) (s : ℕ) (big : order ≤ group) (most : group ≤ 40) (has : symbol_in order group b s < order) where
  near_number : val (bits_from b (8 * (s * group / 8))) 64 * 2 ^ (s * group % 8) % 2 ^ 64 ≡ val (cut (64 - s * group % 8) (bits_from b (s * group))) 64
  near_number =
      let x : ℕ = s * group in
      let c : ℕ = x % 8 in
      let f : ℕ → ℕ = bits_from b (8 * (x / 8)) in
      val_shift f (λ k. bit_lt b (8 * (x / 8) + k)) c 64 (omega arith)
      ∙ val_same (cut (64 - c) (λ t. f (c + t))) (cut (64 - c) (bits_from b x)) 64 (λ k l. ⊎_elim
      (λ (h : k < 64 - c).
      let at : 8 * (x / 8) + (c + k) ≡ x + k = omega arith in
      cut_in (64 - c) (λ t. f (c + t)) k h ∙ ap (bit_at b) at ∙ sym (cut_in (64 - c) (bits_from b x) k h))
      (λ (h : 64 - c ≤ k). cut_past (64 - c) (λ t. f (c + t)) k h ∙ sym (cut_past (64 - c) (bits_from b x) k h))
      (lt_or_le k (64 - c)))

  pub near_some : 1 ≤ val (bits_from b (8 * (s * group / 8))) 64 * 2 ^ (s * group % 8) % 2 ^ 64
  near_some =
      let x : ℕ = s * group in
      let w : ℕ = 64 - x % 8 in
      let q : ℕ = symbol_in order group b s in
      let f : ℕ → ℕ = cut w (bits_from b x) in
      let one : f q ≡ 1 = cut_in w (bits_from b x) q (omega arith) ∙ (group_got order group big b s has).slot q (omega arith) ∙ ap bool (eq-eqb q q refl) in
      ⊎_elim
      (λ (l : val f 64 < 1).
      let z : f q ≡ 0 = no_one f (cut_bits w (bits_from b x) (λ k. bit_lt b (x + k))) (omega arith) q (omega arith) in absurd (omega arith))
      (λ (l : 1 ≤ val f 64). rw near_number l)
      (lt_or_le (val f 64) 1)

  pub near_seen : (r : ℕ) → Leads 64 (val (bits_from b (8 * (s * group / 8))) 64 * 2 ^ (s * group % 8) % 2 ^ 64) r → r ≡ symbol_in order group b s
  unfolding lesser first_set
  near_seen r l =
      let x : ℕ = s * group in
      let first : first_set b x (x + order) ≡ x + symbol_in order group b s = symbol_first order group big b s has in
      let stop : first_set b x (x + order) ≡ x + lesser r (x + order - x) = window_stop b x (x + order) (64 - x % 8) r (omega arith) (rw near_number at l) in
      let m : x + order - x ≡ order = omega arith in
      let same : lesser r order ≡ symbol_in order group b s = let e : lesser r (x + order - x) ≡ symbol_in order group b s = omega arith in rw m at e in
      ⊎_elim
      (λ (q : r < order). rw (lt-ltb r order q) at same)
      (λ (q : order ≤ r). let e : order ≡ symbol_in order group b s = rw (le-ltb r order q) at same in absurd (omega arith))
      (lt_or_le r order)

-- ---- far: number a alone is not 0

pub record Front (f : ℕ → ℕ) (a k any zeros : ℕ) : Type 0 where
  pub low : k ≤ a → (any ≡ 0) × (zeros ≡ k)
  pub high : a < k → (any ≡ f a) × (zeros ≡ a)

pub front_start : (f : ℕ → ℕ) (a : ℕ) → Front f a 0 0 0
front_start f a = record { low = λ l. (refl, refl); high = λ l. absurd (omega arith) }

pub front_room : (f : ℕ → ℕ) (a k any zeros : ℕ) → Front f a k any zeros → zeros ≤ k
front_room f a k any zeros s = ⊎_elim (λ (l : a < k). let e = (s.high l).1 in omega arith) (λ (l : k ≤ a). let e = (s.low l).1 in omega arith) (lt_or_le a k)

pub front_more : (f : ℕ → ℕ) (a k any zeros v z : ℕ) → 1 ≤ f a → ((k ≡ a → ⊥) → f k ≡ 0) → Front f a k any zeros → v ≡ f k → z ≡ bool (eqb (any + v) 0)
    → Front f a (k + 1) (any + v) (zeros + z)
front_more f a k any zeros v z some others s here hz =
    record {
      low = λ l.
          let o = s.low (omega arith) in
          let zero : v ≡ 0 = here ∙ others (λ q. omega arith) in
          let none = o.0 in
          let all : any + v ≡ 0 = omega arith in
          let z1 : z ≡ 1 = hz ∙ ap bool (eq-eqb (any + v) 0 all) in
          let e = o.1 in
          (all, omega arith);
      high = λ l. ⊎_elim
          (λ (n : k ≡ a).
          let o = s.low (omega arith) in
          let none = o.0 in
          let all : any + v ≡ f a = omega (arith, here ∙ ap f n) in
          let z0 : z ≡ 0 = hz ∙ ap bool (ne_eqb (any + v) 0 (λ w. omega (arith, all))) in
          let e = o.1 in
          (all, omega arith))
          (λ (n : k ≡ a → ⊥).
          let o = s.high (let q : a < k = ⊎_elim (λ (y : a < k). y) (λ (y : k ≤ a). absurd (n (omega arith))) (lt_or_le a k) in q) in
          let zero : v ≡ 0 = here ∙ others n in
          let one = o.0 in
          let all : any + v ≡ f a = omega arith in
          let z0 : z ≡ 0 = hz ∙ ap bool (ne_eqb (any + v) 0 (λ w. omega (arith, all))) in
          let e = o.1 in
          (all, omega arith))
          (eq_or_ne k a);
    }

-- the sum stays below what each number stays below
pub front_sum : (f : ℕ → ℕ) (a k any zeros v w : ℕ) → ((i : ℕ) → f i < w) → ((k ≡ a → ⊥) → f k ≡ 0) → Front f a k any zeros → v ≡ f k → any + v < w
front_sum f a k any zeros v w small others s here =
    ⊎_elim
    (λ (l : a < k). let e = (s.high l).0 in let z = others (λ q. omega arith) in let q = small a in omega arith)
    (λ (l : k ≤ a). let e = (s.low l).0 in let q = small k in omega arith)
    (lt_or_le a k)

module _ (order group : ℕ) (b : List ℕ) (s at : ℕ) (big : order ≤ group) (here : s * group ≡ 8 * at) (has : symbol_in order group b s < order) where
  far_bit : (i t : ℕ) → 64 * i + t < order → bit_at b (8 * (at + 8 * i) + t) ≡ bool (eqb (64 * i + t) (symbol_in order group b s))
  far_bit i t l =
      let e : 8 * (at + 8 * i) + t ≡ s * group + (64 * i + t) = omega arith in
      ap (bit_at b) e ∙ (group_got order group big b s has).slot (64 * i + t) (omega arith)

  pub far_none : (i : ℕ) → 64 * i + 64 ≤ order → (i ≡ symbol_in order group b s / 64 → ⊥) → number_at b at i ≡ 0
  far_none i l n =
      val_same (bits_from b (8 * (at + 8 * i))) (λ t. 0 / 2 ^ (64 - 1 - t) % 2) 64 (λ t h.
      far_bit i t (omega arith) ∙ ap bool (ne_eqb (64 * i + t) (symbol_in order group b s) (λ q. n (omega arith)))
      ∙ sym (ap (λ (v : ℕ). v % 2) (zero-div (2 ^ (64 - 1 - t)))))
      ∙ val_bits 0 64 (omega arith)

  pub far_some : order ≡ 64 * (order / 64) → 1 ≤ number_at b at (symbol_in order group b s / 64)
  far_some whole =
      let q : ℕ = symbol_in order group b s in
      let a : ℕ = q / 64 in
      let f : ℕ → ℕ = bits_from b (8 * (at + 8 * a)) in
      let one : f (q % 64) ≡ 1 = far_bit a (q % 64) (omega arith) ∙ ap bool (eq-eqb (64 * a + q % 64) q (omega arith)) in
      ⊎_elim
      (λ (l : val f 64 < 1). let z : f (q % 64) ≡ 0 = no_one f (λ k. bit_lt b (8 * (at + 8 * a) + k)) (omega arith) (q % 64) (omega arith) in absurd (omega arith))
      (λ (l : 1 ≤ val f 64). l)
      (lt_or_le (val f 64) 1)

  pub far_seen : order ≡ 64 * (order / 64) → (r : ℕ) → Leads 64 (number_at b at (symbol_in order group b s / 64)) r → 64 * (symbol_in order group b s / 64) + r ≡ symbol_in order group b s
  far_seen whole r l =
      let q : ℕ = symbol_in order group b s in
      let a : ℕ = q / 64 in
      let f : ℕ → ℕ = bits_from b (8 * (at + 8 * a)) in
      let one : f r ≡ 1 = (first_one f (λ k. bit_lt b (8 * (at + 8 * a) + k)) r l).1 in
      let small : r < 64 = l.small in
      eqb-true (64 * a + r) q (bool_true (eqb (64 * a + r) q) (sym (far_bit a r (omega arith)) ∙ one))
