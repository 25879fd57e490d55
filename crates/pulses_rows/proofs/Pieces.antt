-- Groups cut out of a number of 64 slots.
use mathlib.Core.Path.{◌≡◌, sym, ap, ◌∙◌}
use mathlib.Core.List.{List}
use Prim.Native.Nat.{ℕ, ◌+◌, ◌-◌, ◌*◌, ◌/◌, ◌%◌, ◌^◌, ◌≤◌, ◌<◌}
use native.Mathlib.Omega.{arith}
use lib.Dec.{eqb}
use Rattle.bits.specs.Basics.{bool}
use Rattle.bits.specs.Inner.{bits_from}
use Rattle.bits.specs.Pack.{val, bit_at, bit_of, cut, Bits}
use Rattle.bits.proofs.Laws.Pack.{bit_lt, bit_of_lt, bit_val, val_bits, cut_in, cut_bits}
use Rattle.bits.proofs.Laws.Parts.{val_shift}
use Rattle.pulses.proofs.Laws.Groups.{group_made}
use Rattle.pulses.proofs.Laws.Lone.{lone_bits, kept}
use Rattle.pulses.specs.Pulses.{symbol_in}

-- a single one among the bits that shifts left over
pub lone_piece : (v skip group r : ℕ) → v < 2 ^ 64 → skip + group ≤ 64 → r < group
    → v * 2 ^ skip % 2 ^ 64 / 2 ^ (64 - group) * 2 ^ (64 - group) % 2 ^ 64 ≡ 2 ^ (63 - r) → (i : ℕ) → i < group → bit_of v (skip + i) ≡ bool (eqb i r)
lone_piece v skip group r fits room small e i l =
    let f : ℕ → ℕ = bit_of v in
    let g : ℕ → ℕ = cut (64 - skip) (λ t. f (skip + t)) in
    let bits : Bits g = cut_bits (64 - skip) (λ t. f (skip + t)) (λ t. bit_of_lt v (skip + t)) in
    let shifted : v * 2 ^ skip % 2 ^ 64 ≡ val g 64 =
    ap (λ (w : ℕ). w * 2 ^ skip % 2 ^ 64) (sym (val_bits v 64 fits)) ∙ val_shift f (bit_of_lt v) skip 64 (omega arith) in
    let number : val (cut group g) 64 ≡ 2 ^ (63 - r) =
    sym (ap (λ (n : ℕ). n / 2 ^ (64 - group) * 2 ^ (64 - group) % 2 ^ 64) shifted ∙ kept g bits group (omega arith)) ∙ e in
    sym (cut_in group g i l ∙ cut_in (64 - skip) (λ t. f (skip + t)) i (omega arith))
    ∙ lone_bits (cut group g) (cut_bits group g bits) r (omega arith) number i (omega arith)

-- a group whose bits those are has that symbol
pub piece_symbol : (order group : ℕ) (b : List ℕ) (s at skip v r : ℕ) → order ≤ group → r < order → skip + group ≤ 64 → s * group ≡ 8 * at + skip
    → v ≡ val (bits_from b (8 * at)) 64 → ((i : ℕ) → i < group → bit_of v (skip + i) ≡ bool (eqb i r)) → symbol_in order group b s ≡ r
piece_symbol order group b s at skip v r big small room here e h =
    group_made order group big b s r (record {
      small = small;
      slot = λ i l.
          let place : s * group + i ≡ 8 * at + (skip + i) = omega arith in
          ap (bit_at b) place
          ∙ sym (bit_val (bits_from b (8 * at)) (λ k. bit_lt b (8 * at + k)) (63 - (skip + i)) (skip + i) 64 (omega arith))
          ∙ ap (λ (w : ℕ). w / 2 ^ (63 - (skip + i)) % 2) (sym e)
          ∙ h i l;
    })
