-- Every n-th symbol of a row laid into the words, one after the other.
use mathlib.Core.Path.{◌≡◌, refl, sym, ap, ◌∙◌}
use mathlib.Core.List.{List}
use mathlib.Core.Logic.{⊎_elim}
use Prim.Native.Nat.{ℕ, ◌+◌, ◌-◌, ◌*◌, ◌/◌, ◌%◌, ◌^◌, ◌≤◌, ◌<◌}
use native.Mathlib.Omega.{arith}
use native.Mathlib.Nat.{add-mod_right, mul-add}
use lib.Bits.{bit_xor}
use lib.ListN.{length, get_or}
use Rattle.bits.proofs.Laws.Choice.{lt_or_le}
use Rattle.bits.specs.Pack.{bit_at}
use Rattle.channel.proofs.Laws.Places.{same_apart}
use Rattle.channel.specs.Inner.{Puts, Put}
use Rattle.slots_residues.specs.Inner.{Scattered}

-- what can be laid into words can be laid into others of their length
pub puts_long : (t m q : ℕ) (words after : List ℕ) → length after ≡ length words → Puts t m q words → Puts t m q after
puts_long t m q words after e h =
    record { bits_least = h.bits_least; bits_most = h.bits_most; small = h.small; bound = h.bound; room = let r = h.room in omega arith }

module _ (row : List ℕ) (from n m t : ℕ) (words : List ℕ) where
  pub scattered_none : Scattered row from 0 n m t words words
  scattered_none = record { long = refl; here = λ j y l z e. absurd (omega arith); others = λ y h. refl }

  module _ (least : 1 ≤ n) (d : ℕ) (res : d % n ≡ 0) (after : List ℕ) (so_far : Scattered row from d n m t words after) where
    -- one more
    pub scattered_more : (then : List ℕ) → Put (t + d) m (get_or row (from + d) 0) after then → Scattered row from (d + n) n m t words then
    scattered_more then put =
        record {
          long = put.long ∙ so_far.long;
          here = λ j y l z e. ⊎_elim
              (λ (a : j < d). put.others y (λ q. let c : t + j ≡ t + d = sym e ∙ q in absurd (omega arith)) ∙ so_far.here j y a z e)
              (λ (a : d ≤ j).
              let same : j ≡ d = ⊎_elim (λ (b : d < j). let c : d + n ≤ j = same_apart n d j (res ∙ sym z) b in absurd (omega arith)) (λ (b : j ≤ d). omega arith) (lt_or_le d j) in
              let at : y / m ≡ t + d = e ∙ ap (λ (v : ℕ). t + v) same in
              put.here y at
              ∙ ap (λ (v : ℕ). bit_xor v (get_or row (from + d) 0 / 2 ^ (m - 1 - y % m) % 2)) (so_far.others y (λ i k w q. let c : t + i ≡ t + d = sym q ∙ at in absurd (omega arith)))
              ∙ ap (λ (v : ℕ). bit_xor (bit_at words y) (get_or row (from + v) 0 / 2 ^ (m - 1 - y % m) % 2)) (sym same))
              (lt_or_le j d);
          others = λ y h. put.others y (λ q. h d (omega arith) res q) ∙ so_far.others y (λ j l z e. h j (omega arith) z e);
        }

    -- all of them
    pub scattered_end : (c : ℕ) → c ≤ d → d < c + n → Scattered row from c n m t words after
    scattered_end c low high =
        record {
          long = so_far.long;
          here = λ j y l z e. so_far.here j y (omega arith) z e;
          others = λ y h. so_far.others y (λ j l z e. let k : j + n ≤ d = same_apart n j d (z ∙ sym res) l in h j (omega arith) z e);
        }

-- n further on the remainder is the same
pub residue_on : (n d : ℕ) → d % n ≡ 0 → (d + n) % n ≡ 0
residue_on n d e = add-mod_right d n ∙ e

-- n symbols of m bits that are whole bytes: as many bytes on, and the bit in the byte is the same
pub steady_on : (m u n : ℕ) → m * n % 8 ≡ 0 → (m * (u + n) / 8 ≡ m * u / 8 + m * n / 8) × (m * (u + n) % 8 ≡ m * u % 8)
steady_on m u n e = let s : m * (u + n) ≡ m * u + m * n = mul-add m u n in (omega arith, omega arith)
