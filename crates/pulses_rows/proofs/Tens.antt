-- A group of ten bytes, of which the first eight have a single one and the others none.
use mathlib.Core.Path.{◌≡◌, sym, ap, ◌∙◌}
use mathlib.Core.List.{List}
use mathlib.Core.Logic.{⊎_elim}
use Prim.Native.Nat.{ℕ, ◌+◌, ◌-◌, ◌*◌, ◌/◌, ◌%◌, ◌^◌, ◌≤◌, ◌<◌}
use native.Mathlib.Omega.{arith}
use native.Mathlib.Nat.{zero-div}
use lib.ListN.{get_or}
use borrow.Author.Tests.{ne_eqb}
use Rattle.bits.specs.Basics.{bool}
use Rattle.bits.proofs.Laws.Choice.{lt_or_le}
use Rattle.bits.specs.Inner.{bits_from}
use Rattle.bits.specs.Pack.{val, bit_at}
use Rattle.bits.proofs.Laws.Pack.{bit_lt}
use Rattle.pulses.proofs.Laws.Groups.{group_made}
use Rattle.pulses.proofs.Laws.Lone.{lone_bits}
use Rattle.pulses.specs.Pulses.{symbol_in}

-- an empty byte
empty_byte : (b : List ℕ) (n i : ℕ) → get_or b n 0 ≡ 0 → i / 8 ≡ n → bit_at b i ≡ 0
unfolding bit_at
empty_byte b n i e at =
    ap (λ (k : ℕ). get_or b k 0 / 2 ^ (7 - i % 8) % 2) at ∙ ap (λ (v : ℕ). v / 2 ^ (7 - i % 8) % 2) e ∙ ap (λ (v : ℕ). v % 2) (zero-div (2 ^ (7 - i % 8)))

pub ten_bytes : (b : List ℕ) (s r v : ℕ) → r < 64 → v ≡ val (bits_from b (8 * (10 * s))) 64 → v ≡ 2 ^ (63 - r) → get_or b (10 * s + 8) 0 ≡ 0 → get_or b (10 * s + 9) 0 ≡ 0 → symbol_in 64 80 b s ≡ r
ten_bytes b s r v small number power first second =
    group_made 64 80 (omega arith) b s r (record {
      small = small;
      slot = λ i l.
          let at : s * 80 + i ≡ 8 * (10 * s) + i = omega arith in
          ap (bit_at b) at
          ∙ ⊎_elim
          (λ (h : i < 64). lone_bits (bits_from b (8 * (10 * s))) (λ k. bit_lt b (8 * (10 * s) + k)) r small (sym number ∙ power) i h)
          (λ (h : 64 ≤ i).
          ⊎_elim
          (λ (g : i < 72). empty_byte b (10 * s + 8) (8 * (10 * s) + i) first (omega arith))
          (λ (g : 72 ≤ i). empty_byte b (10 * s + 9) (8 * (10 * s) + i) second (omega arith))
          (lt_or_le i 72)
          ∙ sym (ap bool (ne_eqb i r (λ z. omega arith))))
          (lt_or_le i 64);
    })
