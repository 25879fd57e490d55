-- The input bits that change, as the code makes them: zeros, the bit itself, and the sum of the two checks. Coded and packed, they are the
-- marked places.
use mathlib.Core.Path.{◌≡◌, refl, sym, ap, ap₂, ◌∙◌}
use mathlib.Core.List.{List}
use mathlib.Core.Logic.{⊎_elim}
use Prim.Native.Nat.{ℕ, zero, suc, ◌+◌, ◌-◌, ◌*◌, ◌/◌, ◌%◌, ◌^◌, ◌≤◌, ◌<◌}
use native.Mathlib.Omega.{arith}
use native.Mathlib.Nat.{zero-div}
use lib.Bits.{bit_xor}
use lib.Dec.{ltb, eqb}
use lib.ListN.{length, get_or, take, replicate, length-take, get_or-eq_default}
use lib.Seq.{get_or-take}
use Rattle.bits.specs.Basics.{pick, bool}
use Rattle.bits.proofs.Laws.Choice.{lt_or_le}
use Rattle.bits.proofs.Laws.Sum.{xor_cancel}
use Rattle.bits.specs.Pack.{bit_at, bytes_of, flip_bit}
use Rattle.bits.proofs.Laws.Pack.{bit_lt, bytes_same, cut_same}
use Rattle.bits.proofs.Laws.Change.{flip_bit_lem, length_flip}
use Rattle.sizes.specs.Sizes.{info_bits, word_bytes}
use Rattle.sizes.specs.Inner.{input_bits}
use Rattle.sizes.proofs.Laws.Rate.{info_le}
use Rattle.crc.specs.Check.{register, check_bit}
use Rattle.crc.specs.Inner.{advances, checked_change}
use Rattle.crc.proofs.Laws.Bytes.{advances_same}
use Rattle.crc.proofs.Laws.Difference.{registers_plus}
use Rattle.convolution.specs.Code.{encode}
use Rattle.convolution.specs.Inner.{Ended}
use Rattle.spread.specs.Spread.{changes, zero_block, spread_of}
use Rattle.spread.specs.Inner.{input_change, Changes}
use Rattle.spread.proofs.Laws.Spread.{changes_are, zero_length}

-- the front of an array of zeros, past its end too
zeros : (n i : ℕ) → get_or {A = ℕ} (replicate n 0) i 0 ≡ 0
zeros zero i = refl
zeros (suc n) zero = refl
zeros (suc n) (suc i) = zeros n i

pub front_zeros : (m n i : ℕ) → get_or {A = ℕ} (take m (replicate n 0)) i 0 ≡ 0
front_zeros m n i =
    ⊎_elim
    (λ (u : i < m). get_or-take m (replicate n 0) i 0 u ∙ zeros n i)
    (λ (u : m ≤ i). let short : length (take m (replicate {A = ℕ} n 0)) ≤ i = omega (arith, length-take m (replicate {A = ℕ} n 0)) in get_or-eq_default (take m (replicate n 0)) 0 short)
    (lt_or_le i m)

-- a changed block of zeros, or of anything: the sum of the registers before and after
checks_sum : (block flipped : List ℕ) (bit k before after : ℕ) → bit < 8 * length block → flipped ≡ flip_bit block bit
    → before ≡ register (bit_at block) k → after ≡ register (bit_at flipped) k → bit_xor before after ≡ advances 0 (λ i. bool (eqb i bit)) k
checks_sum block flipped bit k before after l ef e₁ e₂ =
    rw (e₁, e₂)
    (registers_plus (bit_at block) (bit_at flipped) (bit_lt block) (bit_lt flipped) k
    ∙ advances_same 0 (λ i. bit_xor (bit_at block i) (bit_at flipped i)) (λ i. bool (eqb i bit)) k (λ i u.
    ap (λ (xs : List ℕ). bit_xor (bit_at block i) (bit_at xs i)) ef
    ∙ ap (bit_xor (bit_at block i)) (flip_bit_lem block bit i l)
    ∙ xor_cancel (bit_at block i) (bool (eqb i bit))))

pub changed : (rate bit k before after : ℕ) (block input flipped xs ys : List ℕ) → Changes rate bit block input → k ≡ info_bits rate → flipped ≡ flip_bit block bit
    → before ≡ register (bit_at block) k → after ≡ register (bit_at flipped) k → xs ≡ flip_bit input bit → Ended xs (bit_xor before after) ys
    → (i : ℕ) → i < input_bits rate → bit_at ys i ≡ input_change rate bit i
unfolding input_bits input_change checked_change check_bit bit_at
changed rate bit k before after block input flipped xs ys h ek ef e₁ e₂ ex ended i l =
    let d : ℕ → ℕ = λ i. bool (eqb i bit) in
    let K : ℕ = info_bits rate in
    let inside : bit < 8 * length input = omega (arith, h.bit_is, h.input_is) in
    let long : 8 * length xs ≡ K + 34 = ap (λ (zs : List ℕ). 8 * length zs) ex ∙ ap (λ (n : ℕ). 8 * n) (length_flip input bit) ∙ h.input_is in
    let sum : bit_xor before after ≡ advances 0 d K = checks_sum block flipped bit k before after (omega (arith, h.bit_is, h.block_is, info_le rate)) ef e₁ e₂ ∙ ap (advances 0 d) ek in
    ended.bits K i (sym long) (omega arith)
    ∙ cut_same (K + 32) (λ j. pick (ltb j K) (bit_at xs j) (bit_xor before after / 2 ^ (31 - (j - K)) % 2)) (checked_change K d) (λ j u.
    let zero : bit_at input j ≡ 0 = ap (λ (v : ℕ). v / 2 ^ (7 - j % 8) % 2) (h.zeros_are (j / 8)) ∙ ap (λ (v : ℕ). v % 2) (zero-div (2 ^ (7 - j % 8))) in
    ap₂ (pick (ltb j K))
    (ap (λ (zs : List ℕ). bit_at zs j) ex ∙ flip_bit_lem input bit j inside ∙ ap (λ (b : ℕ). bit_xor b (d j)) zero)
    (ap (λ (r : ℕ). r / 2 ^ (31 - (j - K)) % 2) sum)) i

-- the marked places, as the call makes them
pub spread_made : (rate b : ℕ) → rate < 3 → b < info_bits rate → spread_of rate b ≡ bytes_of word_bytes (encode rate (input_change rate b))
unfolding spread_of
spread_made rate b h l =
    bytes_same word_bytes (changes rate (zero_block rate) b) (encode rate (input_change rate b)) (λ j u.
    changes_are rate (zero_block rate) b h (zero_length rate) l j (omega arith))
