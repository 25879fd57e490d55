-- Where whole symbols make a byte: symbols whose bits are at the same place of a byte, turn by turn.
use mathlib.Core.Path.{◌≡◌, refl, sym, ap, ap₂, ◌∙◌}
use mathlib.Core.List.{List}
use mathlib.Core.Logic.{⊎_elim}
use Prim.Native.Nat.{ℕ, ◌+◌, ◌-◌, ◌*◌, ◌/◌, ◌%◌, ◌^◌, ◌≤◌, ◌<◌}
use native.Mathlib.Omega.{arith}
use native.Mathlib.Nat.{le_refl, mul-le-mul, mul_assoc, mul_comm, mul_left_comm, mul-add, add-mul, mod-lt, mod-eq_of_lt, mul-mod_left, mul-div_cancel, div-add-mod'}
use lib.Arith.{digits_mod, mod-mul}
use lib.Bits.{bit_and, and_mask}
use lib.ListN.{length, get_or}
use lib.Pow.{pow_mono, pow_pos}
use Rattle.bits.specs.Pack.{val, bit_at}
use Rattle.bits.proofs.Laws.Choice.{lt_or_le}
use Rattle.bits.proofs.Laws.Field.{cut_out}
use Rattle.bits.proofs.Laws.Pack.{val_same}
use Rattle.slots_gather.specs.Inner.{symbol_in, cut_from, Column, Turned, Places, Gather, Strides, Bytewise}
use Rattle.slots_gather.proofs.Laws.Columns.{column_same, places_most}

-- ---- a symbol in a byte

-- m bits of one byte, by a shift and a mask
pub in_byte : (words : List ℕ) (m y : ℕ) → y % 8 + m ≤ 8 → val (λ i. bit_at words (y + i)) m ≡ get_or words (y / 8) 0 / 2 ^ (8 - m - y % 8) % 2 ^ m
unfolding bit_at
in_byte words m y l =
    val_same (λ i. bit_at words (y + i)) (λ i. get_or words (y / 8) 0 / 2 ^ (8 - 1 - (y % 8 + i)) % 2) m (λ i h.
    ap₂ (λ (u v : ℕ). get_or words u 0 / 2 ^ v % 2) (omega arith) (omega arith))
    ∙ cut_out (get_or words (y / 8) 0) 8 (y % 8) m l

module _ (m turn mask : ℕ) (w : Bytewise m turn mask) (pos : 1 ≤ m) (some : 1 ≤ turn) where
  -- its bits do not run over into the next byte
  pub stays : (z : ℕ) → m * z % 8 + m ≤ 8
  stays z =
      let e : m * z % 8 ≡ z % turn * m =
      ap₂ (λ (a b : ℕ). a % b) (mul_comm m z) (sym w.whole) ∙ mod-mul (z * m) some pos
      ∙ ap₂ (λ (a b : ℕ). a % turn * m + b) (mul-div_cancel z pos) (mul-mod_left z m) ∙ (let s : z % turn * m + 0 ≡ z % turn * m = omega arith in s) in
      let low : z % turn < turn = mod-lt z some in
      let up : z % turn + 1 ≤ turn = omega arith in
      let top : (z % turn + 1) * m ≤ turn * m = mul-le-mul up (le_refl m) in
      let eight = w.whole in
      omega arith

  -- the symbol `turn` · n further on, i times, is n bytes further on, i times
  pub turned_place : (t n u i : ℕ) → m * (t + (u + i * turn) * n) ≡ m * (t + u * n) + 8 * (i * n)
  turned_place t n u i =
      let parts : (u + i * turn) * n ≡ u * n + i * turn * n = add-mul u (i * turn) n in
      let sum : t + (u + i * turn) * n ≡ t + u * n + i * turn * n = omega arith in
      let far : m * (i * turn * n) ≡ 8 * (i * n) =
      ap (λ (x : ℕ). m * x) (ap (λ (x : ℕ). x * n) (mul_comm i turn) ∙ mul_assoc turn i n) ∙ sym (mul_assoc m turn (i * n)) ∙ ap (λ (x : ℕ). x * (i * n)) (mul_comm m turn ∙ w.whole) in
      ap (λ (x : ℕ). m * x) sum ∙ mul-add m (t + u * n) (i * turn * n) ∙ ap (λ (x : ℕ). m * (t + u * n) + x) far

  pub turned_value : (words : List ℕ) (t n u i : ℕ)
      → cut_from words (m * (t + u * n) / 8) n (8 - m - m * (t + u * n) % 8) mask i ≡ symbol_in m words (t + (u + i * turn) * n)
  turned_value words t n u i =
      let y : ℕ = m * (t + u * n) in
      let z : ℕ = t + (u + i * turn) * n in
      let is : m * z ≡ y + 8 * (i * n) = turned_place t n u i in
      let b : m * z / 8 ≡ y / 8 + i * n = omega arith in
      let r : m * z % 8 ≡ y % 8 = omega arith in
      ap (λ (k : ℕ). bit_and (get_or words (y / 8 + i * n) 0 / 2 ^ (8 - m - y % 8)) k) w.mask_is
      ∙ and_mask (get_or words (y / 8 + i * n) 0 / 2 ^ (8 - m - y % 8)) m
      ∙ sym (in_byte words m (m * z) (stays z) ∙ ap₂ (λ (a c : ℕ). get_or words a 0 / 2 ^ (8 - m - c) % 2 ^ m) b r)

-- a divisor of eight is at most eight
divisor_most : (turn m : ℕ) → turn * m ≡ 8 → m ≤ 8
divisor_most turn m e =
    ⊎_elim
    (λ (l : turn < 1). let z : turn ≡ 0 = omega arith in let p : turn * m ≡ 0 * m = ap (λ (x : ℕ). x * m) z in absurd (omega arith))
    (λ (l : 1 ≤ turn). let a : 1 * m ≤ turn * m = mul-le-mul l (le_refl m) in omega arith)
    (lt_or_le turn 1)

-- the sizes of whole symbols in a byte
pub record Whole (m turn mask : ℕ) : Type 0 where
  pub bits_least : 1 ≤ m
  pub bits_most : m ≤ 8
  pub turn_least : 1 ≤ turn
  pub turn_most : turn ≤ 8
  pub mask_most : mask < 256

pub whole : (m turn mask : ℕ) → Bytewise m turn mask → Whole m turn mask
whole m turn mask w =
    let e = w.whole in
    let some : 1 ≤ m = ⊎_elim (λ (l : m < 1). let z : m ≡ 0 = omega arith in let p : turn * m ≡ turn * 0 = ap (λ (x : ℕ). turn * x) z in absurd (omega arith)) (λ (l : 1 ≤ m). l) (lt_or_le m 1) in
    let one : 1 ≤ turn = ⊎_elim (λ (l : turn < 1). let z : turn ≡ 0 = omega arith in let p : turn * m ≡ 0 * m = ap (λ (x : ℕ). x * m) z in absurd (omega arith)) (λ (l : 1 ≤ turn). l) (lt_or_le turn 1) in
    let a : 1 * m ≤ turn * m = mul-le-mul one (le_refl m) in
    let b : turn * 1 ≤ turn * m = mul-le-mul (le_refl turn) some in
    let most : m ≤ 8 = omega arith in
    let p : 2 ^ m ≤ 2 ^ 8 = pow_mono most in
    let q = w.mask_is in
    let z : 0 < 2 ^ m = pow_pos m in
    record { bits_least = some; bits_most = most; turn_least = one; turn_most = omega arith; mask_most = omega arith }

-- m bits that divide a byte, with the mask as the code computes it
pub bytewise : (m : ℕ) → 8 % m ≡ 0 → Bytewise m (8 / m) (1 * 2 ^ m % 2 ^ 64 - 1)
bytewise m h =
    let d = div-add-mod' 8 m in
    let whole : 8 / m * m ≡ 8 = omega arith in
    let most : m ≤ 8 = divisor_most (8 / m) m whole in
    let p : 2 ^ m ≤ 2 ^ 8 = pow_mono most in
    let low : 1 * 2 ^ m < 2 ^ 64 = omega arith in
    let e : 1 * 2 ^ m % 2 ^ 64 ≡ 1 * 2 ^ m = mod-eq_of_lt low in
    record { whole = whole; mask_is = omega arith }

-- symbol q of a byte
pub unpacked_value : (m turn mask : ℕ) → Bytewise m turn mask → (words : List ℕ) (b q : ℕ) → q < turn
    → (m * q + m ≤ 8) × (bit_and (get_or words b 0 / 2 ^ (8 - m - m * q)) mask ≡ symbol_in m words (b * turn + q))
unpacked_value m turn mask w words b q l =
    let k = whole m turn mask w in
    let z : ℕ = b * turn + q in
    let e = w.whole in
    let up : q + 1 ≤ turn = omega arith in
    let top : (q + 1) * m ≤ turn * m = mul-le-mul up (le_refl m) in
    let c = mul_comm m q in
    let fits : m * q + m ≤ 8 = omega arith in
    let is : m * z ≡ 8 * b + m * q = mul-add m (b * turn) q ∙ ap (λ (x : ℕ). x + m * q) (mul_left_comm m b turn ∙ ap (λ (x : ℕ). b * x) (mul_comm m turn ∙ e) ∙ mul_comm b 8) in
    let pos = k.bits_least in
    let at : m * z / 8 ≡ b = omega arith in
    let r : m * z % 8 ≡ m * q = omega arith in (
      fits,
      ap (λ (x : ℕ). bit_and (get_or words b 0 / 2 ^ (8 - m - m * q)) x) w.mask_is
          ∙ and_mask (get_or words b 0 / 2 ^ (8 - m - m * q)) m
          ∙ sym (in_byte words m (m * z) (let s : m * z % 8 + m ≤ 8 = omega arith in s) ∙ ap₂ (λ (x y : ℕ). get_or words x 0 / 2 ^ (8 - m - y) % 2 ^ m) at r),
    )

-- ---- turn by turn

same_times : (n a b : ℕ) → 1 ≤ n → a * n ≡ b * n → a ≡ b
same_times n a b pos e =
    ⊎_elim
    (λ (l : a < b). let up : a + 1 ≤ b = omega arith in let m : (a + 1) * n ≤ b * n = mul-le-mul up (le_refl n) in absurd (omega arith))
    (λ (l : b ≤ a). ⊎_elim
    (λ (k : b < a). let up : b + 1 ≤ a = omega arith in let m : (b + 1) * n ≤ a * n = mul-le-mul up (le_refl n) in absurd (omega arith))
    (λ (k : a ≤ b). omega arith)
    (lt_or_le b a))
    (lt_or_le a b)

pub turned_none : (before : List ℕ) (from n count turn : ℕ) (f : ℕ → ℕ) → Turned before from n count turn 0 f before
turned_none before from n count turn f = record { long = refl; here = λ j l m. absurd (omega arith); others = λ k h. refl }

pub turned_on : (before middle after : List ℕ) (from n count turn u few : ℕ) (f g : ℕ → ℕ) → 1 ≤ n → u < turn → Places u count turn few
    → Turned before from n count turn u f middle → Column middle (from + u * n) (turn * n) few g after → ((i : ℕ) → i < few → g i ≡ f (u + i * turn))
    → Turned before from n count turn (u + 1) f after
turned_on before middle after from n count turn u few f g pos low places p q same =
    let on : (i : ℕ) → from + u * n + i * (turn * n) ≡ from + (u + i * turn) * n = λ i. omega (arith, add-mul u (i * turn) n, mul_assoc i turn n) in
    let class : (i : ℕ) → (u + i * turn) % turn ≡ u = λ i. (let c : u + i * turn ≡ i * turn + u = omega arith in ap (λ (x : ℕ). x % turn) c) ∙ digits_mod i low in
    record {
      long = q.long ∙ p.long;
      here = λ j l m. ⊎_elim
          (λ (h : j % turn < u).
          q.others (from + j * n) (λ i k e.
          let times : j * n ≡ (u + i * turn) * n = let o = on i in omega arith in
          let is : j ≡ u + i * turn = same_times n j (u + i * turn) pos times in
          let r : j % turn ≡ u = ap (λ (x : ℕ). x % turn) is ∙ class i in
          omega arith)
          ∙ p.here j l h)
          (λ (h : u ≤ j % turn).
          let i : ℕ = j / turn in
          let is : u + i * turn ≡ j = let d = div-add-mod' j turn in omega arith in
          let k : i < few = places.all i (omega arith) in
          ap (λ (x : ℕ). get_or after x 0) (ap (λ (x : ℕ). from + x * n) (sym is) ∙ sym (on i)) ∙ q.here i k ∙ same i k ∙ ap f is)
          (lt_or_le (j % turn) u);
      others = λ k h.
          q.others k (λ i l e. h (u + i * turn) (places.before i l) (let r = class i in omega arith) (e ∙ on i))
          ∙ p.others k (λ j l m e. h j l (omega arith) e);
    }

pub turned_all : (before after : List ℕ) (from n count turn : ℕ) (f : ℕ → ℕ) → 1 ≤ turn → Turned before from n count turn turn f after → Column before from n count f after
turned_all before after from n count turn f some p =
    record { long = p.long; here = λ j l. p.here j l (mod-lt j some); others = λ k h. p.others k (λ j l m e. h j l e) }

-- ---- what the ways of gathering ask for

-- the sizes of turn u
pub record Turn (m t n u : ℕ) : Type 0 where
  pub times : u * n ≤ 1024
  pub symbol : t + u * n < 2 ^ 25
  pub bit : m * (t + u * n) < 2 ^ 28
  pub stay : m * (t + u * n) % 8 + m ≤ 8

pub turn_sizes : (m turn mask : ℕ) → Bytewise m turn mask → (t n u : ℕ) → t < 2 ^ 24 → n ≤ 128 → u < turn → Turn m t n u
turn_sizes m turn mask w t n u ht hn hu =
    let k = whole m turn mask w in
    let most = k.turn_most in
    let few : u ≤ 8 = omega arith in
    let a : u * n ≤ 8 * 128 = mul-le-mul few hn in
    let le : t + u * n ≤ 2 ^ 24 + 1024 = omega arith in
    let b : m * (t + u * n) ≤ 8 * (2 ^ 24 + 1024) = mul-le-mul k.bits_most le in
    record { times = omega arith; symbol = omega arith; bit = omega arith; stay = stays m turn mask w k.bits_least k.turn_least (t + u * n) }

pub turn_strides : (m turn mask : ℕ) → Bytewise m turn mask → (t n count : ℕ) (words : List ℕ) (from : ℕ) (row after : List ℕ) → Gather m t n count words from row
    → (u few : ℕ) → u < turn → Places u count turn few → length after ≡ length row
    → Strides (m * (t + u * n) / 8) n (8 - m - m * (t + u * n) % 8) mask words (from + u * n) (turn * n) few after
turn_strides m turn mask w t n count words from row after g u few low places e =
    let k = whole m turn mask w in
    let z = turn_sizes m turn mask w t n u g.t_most g.step_most low in
    let pos = k.bits_least in
    let one : 1 * 1 ≤ turn * n = mul-le-mul k.turn_least g.step_least in
    let wide : turn * n ≤ 8 * 128 = mul-le-mul k.turn_most g.step_most in
    let most : few ≤ count = places_most u count turn few k.turn_least places in
    let size = g.count_most in
    let less : few ≤ 2 ^ 16 = omega arith in
    let a : few * n ≤ 2 ^ 16 * 128 = mul-le-mul less g.step_most in
    let b : few * (turn * n) ≤ 2 ^ 16 * (8 * 128) = mul-le-mul less wide in
    let bit = z.bit in
    let times = z.times in
    let front = g.from_most in
    record {
      shift_most = omega arith;
      mask_most = k.mask_most;
      step_most = (let h = g.step_most in let z : n ≤ 1024 = omega arith in z);
      n_least = omega arith;
      n_most = omega arith;
      at_most = omega arith;
      from_most = omega arith;
      inside = λ i h.
          let q = g.inside (u + i * turn) (places.before i h) in
          let p = turned_place m turn mask w k.bits_least k.turn_least t n u i in
          omega arith;
      room = λ i h. let q = g.room (u + i * turn) (places.before i h) in omega (arith, add-mul u (i * turn) n, mul_assoc i turn n);
    }

-- whole bytes
pub unpacked_column : (m : ℕ) (words before after : List ℕ) (from n count t b turn c : ℕ) → n ≡ 1 → turn * c ≡ count → b * turn ≡ t
    → Column before from 1 (turn * c) (λ j. symbol_in m words (b * turn + j)) after → Column before from n count (λ j. symbol_in m words (t + j * n)) after
unpacked_column m words before after from n count t b turn c en ec et col =
    rw (en, sym ec, sym et) (column_same before after from 1 (turn * c) (λ j. symbol_in m words (b * turn + j)) (λ j. symbol_in m words (b * turn + j * 1))
    (λ j l. ap (symbol_in m words) (let z : b * turn + j ≡ b * turn + j * 1 = omega arith in z)) col)
