-- The slots that numbers show, of which one is not 0.
use mathlib.Core.Path.{◌≡◌, refl, sym, ap, ◌∙◌}
use mathlib.Core.List.{List}
use mathlib.Core.Logic.{⊎_elim}
use Prim.Native.Nat.{ℕ, ◌+◌, ◌-◌, ◌*◌, ◌/◌, ◌%◌, ◌^◌, ◌≤◌, ◌<◌}
use native.Mathlib.Omega.{arith}
use lib.Dec.{eqb}
use borrow.Author.Tests.{eq-eqb, ne_eqb}
use Rattle.bits.specs.Basics.{bool}
use Rattle.bits.proofs.Laws.Choice.{eq_or_ne, lt_or_le}
use Rattle.bits.proofs.Laws.Leading.{no_one}
use Rattle.bits.specs.Pack.{val, bit_at, cut, Bits}
use Rattle.bits.proofs.Laws.Pack.{bit_lt, cut_in, cut_bits}
use Rattle.bits.proofs.Laws.Parts.{val_shift}
use Rattle.bits.specs.Inner.{bits_from}
use Rattle.pulses.proofs.Laws.Groups.{group_made}
use Rattle.pulses.proofs.Laws.Lone.{lone_bits}
use Rattle.pulses.specs.Pulses.{symbol_in}
use Rattle.pulses.specs.Inner.{Sole}

-- number k of the bytes from `at` on
abbrev pub number_at : List ℕ → ℕ → ℕ → ℕ
number_at b at k = val (bits_from b (8 * (at + 8 * k))) 64

-- the bits of the bytes
pub sole_bits : (b : List ℕ) (at n r : ℕ) → Sole (number_at b at) n r → (i : ℕ) → i < 64 * n → bit_at b (8 * at + i) ≡ bool (eqb i r)
sole_bits b at n r s i l =
    let a : ℕ = i / 64 in
    let t : ℕ = i % 64 in
    let ht : t < 64 = omega arith in
    let f : ℕ → ℕ = bits_from b (8 * (at + 8 * a)) in
    let bits : Bits f = λ k. bit_lt b (8 * (at + 8 * a) + k) in
    let place : 8 * at + i ≡ 8 * (at + 8 * a) + t = omega arith in
    ap (bit_at b) place
    ∙ ⊎_elim
    (λ (q : a ≡ r / 64).
    let v : val f 64 ≡ 2 ^ (63 - r % 64) = ap (number_at b at) q ∙ s.number in
    lone_bits f bits (r % 64) (omega arith) v t ht
    ∙ ⊎_elim
    (λ (w : t ≡ r % 64). rw (eq-eqb t (r % 64) w, eq-eqb i r (omega arith)) refl)
    (λ (w : t ≡ r % 64 → ⊥). rw (ne_eqb t (r % 64) w, ne_eqb i r (λ u. w (omega arith))) refl)
    (eq_or_ne t (r % 64)))
    (λ (q : a ≡ r / 64 → ⊥).
    no_one f bits (s.others a (omega arith) q) t ht
    ∙ sym (ap bool (ne_eqb i r (λ u. q (omega arith)))))
    (eq_or_ne a (r / 64))

-- guard slots that are empty: the last of 64
pub guard_none : (b : List ℕ) (at w : ℕ) → w ≤ 64 → val (bits_from b (8 * at)) 64 * 2 ^ (64 - w) % 2 ^ 64 ≡ 0 → (i : ℕ) → 64 - w ≤ i → i < 64 → bit_at b (8 * at + i) ≡ 0
guard_none b at w h e i a l =
    let f : ℕ → ℕ = bits_from b (8 * at) in
    let bits : Bits f = λ k. bit_lt b (8 * at + k) in
    let d : ℕ = 64 - w in
    let c : 64 - d ≡ w = omega arith in
    let rest : ℕ → ℕ = λ t. f (d + t) in
    let zero : val (cut (64 - d) rest) 64 ≡ 0 = sym (val_shift f bits d 64 (omega arith)) ∙ e in
    let j : ℕ = i - d in
    let at_i : 8 * at + i ≡ 8 * at + (d + j) = omega arith in
    ap (bit_at b) at_i
    ∙ sym (cut_in (64 - d) rest j (omega arith))
    ∙ no_one (cut (64 - d) rest) (cut_bits (64 - d) rest (λ t. bits (d + t))) zero j (omega arith)

-- M slots with one pulse, and guard slots without one
pub far_symbol : (order group : ℕ) (b : List ℕ) (s at r : ℕ) → order ≤ group → s * group ≡ 8 * at → r < order
    → ((i : ℕ) → i < order → bit_at b (8 * at + i) ≡ bool (eqb i r)) → ((i : ℕ) → order ≤ i → i < group → bit_at b (8 * at + i) ≡ 0) → symbol_in order group b s ≡ r
far_symbol order group b s at r big here small pulses guard =
    group_made order group big b s r (record {
      small = small;
      slot = λ i h. ap (λ (x : ℕ). bit_at b (x + i)) here ∙ ⊎_elim
          (λ (l : i < order). pulses i l)
          (λ (l : order ≤ i). guard i l h ∙ sym (ap bool (ne_eqb i r (λ q. omega arith))))
          (lt_or_le i order);
    })
