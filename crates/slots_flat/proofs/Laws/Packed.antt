-- Symbols that fill a byte, laid one after the other, are added to it at once; and a row laid in two parts is laid.
use mathlib.Core.Path.{◌≡◌, sym, ap, ◌∙◌}
use mathlib.Core.List.{List}
use mathlib.Core.Logic.{⊎_elim}
use Prim.Native.Nat.{ℕ, ◌+◌, ◌-◌, ◌*◌, ◌/◌, ◌%◌, ◌^◌, ◌≤◌, ◌<◌}
use native.Mathlib.Omega.{arith}
use native.Mathlib.Nat.{le_refl, mod-one, mul-le-mul, mul-lt-mul_of_pos_right, mul-add, mul_assoc, mul_comm, div-add-mod', div-le_self}
use Rattle.std.specs.Int.{div_ceil}
use Rattle.std.proofs.lemmas.Grind.{div_ceil_times}
use lib.Pow.{pow_mono, pow_pos}
use Rattle.std.proofs.lemmas.Nat.{pow-add}
use lib.Bits.{bit_xor}
use lib.ListN.{length, get_or, set, length-set}
use lib.Seq.{set-set, get_or-set_same}
use Rattle.bits.proofs.Laws.Choice.{lt_or_le}
use Rattle.bits.specs.Pack.{bit_at}
use Rattle.channel.specs.Inner.{Puts, Put}
use Rattle.slots_residues.proofs.Laws.Bytes.{put_one}
use Rattle.slots_residues.proofs.Laws.Scatter.{puts_long, scattered_more}
use Rattle.slots_residues.specs.Inner.{Scatters, Scattered}

-- a byte added to again
again : (xs : List ℕ) (b v a : ℕ) → b < length xs → set (set xs b v) b (bit_xor (get_or (set xs b v) b 0) a) ≡ set xs b (bit_xor v a)
again xs b v a l = ap (λ (w : ℕ). set (set xs b v) b (bit_xor w a)) (get_or-set_same xs b v 0 l) ∙ set-set xs b v (bit_xor v a)

-- the symbols of a row in two parts
pub joined : (row : List ℕ) (from c d m t : ℕ) (words mid after : List ℕ) → Scattered row from c 1 m t words mid → Scattered row (from + c) d 1 m (t + c) mid after → Scattered row from (c + d) 1 m t words after
joined row from c d m t words mid after f g =
    record {
      long = g.long ∙ f.long;
      here = λ j y l z e. ⊎_elim
          (λ (a : j < c). g.others y (λ i k w q. let n : t + j ≡ t + c + i = sym e ∙ q in absurd (omega arith)) ∙ f.here j y a z e)
          (λ (a : c ≤ j).
          let s : from + c + (j - c) ≡ from + j = omega arith in
          let u : t + j ≡ t + c + (j - c) = omega arith in
          g.here (j - c) y (omega arith) (mod-one (j - c)) (e ∙ u)
          ∙ ap (λ (v : ℕ). bit_xor v (get_or row (from + c + (j - c)) 0 / 2 ^ (m - 1 - y % m) % 2)) (f.others y (λ i k w q. let n : t + j ≡ t + i = sym e ∙ q in absurd (omega arith)))
          ∙ ap (λ (v : ℕ). bit_xor (bit_at words y) (get_or row v 0 / 2 ^ (m - 1 - y % m) % 2)) s)
          (lt_or_le j c);
      others = λ y h.
          g.others y (λ i k w q. let u : t + c + i ≡ t + (c + i) = omega arith in h (c + i) (omega arith) (mod-one (c + i)) (q ∙ u))
          ∙ f.others y (λ i k w q. h i (omega arith) w q);
    }

-- ---- some to a byte

module _ (m : ℕ) (divides : 8 % m ≡ 0) where
  whole : 8 / m * m ≡ 8
  whole = let d = div-add-mod' 8 m in omega arith

  pub per_least : 1 ≤ 8 / m
  per_least = ⊎_elim (λ (l : 8 / m < 1). let z : 8 / m ≡ 0 = omega arith in let e : 8 / m * m ≡ 0 * m = ap (λ (v : ℕ). v * m) z in let w = whole in absurd (omega arith)) (λ (l : 1 ≤ 8 / m). l) (lt_or_le (8 / m) 1)

  pub per_most : 8 / m ≤ 8
  per_most = div-le_self 8 m

  -- the bits of symbol q of a byte
  pub within : (q : ℕ) → q < 8 / m → m + m * q ≤ 8
  within q l =
      let up : q + 1 ≤ 8 / m = omega arith in
      let top : (q + 1) * m ≤ 8 / m * m = mul-le-mul up (le_refl m) in
      omega (arith, whole, mul_comm m q)

  -- and where they are
  pub place : (at k q : ℕ) → m * (8 / m * at + (8 / m * k + q)) ≡ 8 * (at + k) + m * q
  place at k q =
      let sum : 8 / m * at + (8 / m * k + q) ≡ 8 / m * (at + k) + q = omega arith in
      ap (λ (v : ℕ). m * v) sum ∙ mul-add m (8 / m * (at + k)) q
      ∙ ap (λ (v : ℕ). v + m * q) (sym (mul_assoc m (8 / m) (at + k)) ∙ ap (λ (v : ℕ). v * (at + k)) (mul_comm m (8 / m) ∙ whole))

  -- symbol q of byte k of the words, laid after those before it
  pub packed_more : (row : List ℕ) (from at : ℕ) (words : List ℕ) (k q byte : ℕ) (after : List ℕ) → at + k < length after → q < 8 / m
      → Puts (8 / m * at + (8 / m * k + q)) m (get_or row (from + (8 / m * k + q)) 0) after
      → Scattered row from (8 / m * k + q) 1 m (8 / m * at) words (set after (at + k) byte)
      → Scattered row from (8 / m * k + (q + 1)) 1 m (8 / m * at) words (set after (at + k) (bit_xor byte (get_or row (from + (8 / m * k + q)) 0 * 2 ^ (8 - m - m * q))))
  packed_more row from at words k q byte after room l puts so_far =
      let d : ℕ = 8 / m * k + q in
      let t : ℕ = 8 / m * at + d in
      let v : ℕ = get_or row (from + d) 0 in
      let now : List ℕ = set after (at + k) byte in
      let p = place at k q in
      let w = within q l in
      let pos = puts.bits_least in
      let b : m * t / 8 ≡ at + k = omega arith in
      let r : m * t % 8 ≡ m * q = omega arith in
      let one : m + m * t % 8 ≤ 8 = omega arith in
      let h : Puts t m v now = puts_long t m v after now (length-set after (at + k) byte) puts in
      let put : Put t m v now (set after (at + k) (bit_xor byte (v * 2 ^ (8 - m - m * q)))) =
      rw (again after (at + k) byte (v * 2 ^ (8 - m - m * q)) room) at (rw (b, r) at (put_one t m v now h one)) in
      let next : d + 1 ≡ 8 / m * k + (q + 1) = omega arith in
      rw next at (scattered_more row from 1 m (8 / m * at) words (le_refl 1) d (mod-one d) now so_far (set after (at + k) (bit_xor byte (v * 2 ^ (8 - m - m * q)))) put)

  -- a symbol moved up is still in its byte
  pub moved_up : (v q : ℕ) → v < 2 ^ m → q < 8 / m → v * 2 ^ (8 - m - m * q) < 256
  moved_up v q small l =
      let w = within q l in
      let top : v * 2 ^ (8 - m - m * q) < 2 ^ m * 2 ^ (8 - m - m * q) = mul-lt-mul_of_pos_right small (pow_pos (8 - m - m * q)) in
      let sum : m + (8 - m - m * q) ≤ 8 = omega arith in
      let p : 2 ^ (m + (8 - m - m * q)) ≤ 2 ^ 8 = pow_mono sum in
      omega (arith, pow-add 2 m (8 - m - m * q))

-- ---- a row in three parts

-- a part of the row can be laid, too
pub scatters_part : (row : List ℕ) (from to m t : ℕ) (words : List ℕ) → Scatters row from to 1 m t words → (c first end u : ℕ) (after : List ℕ) → first ≡ from + c → end ≤ to → u ≡ t + c → u < 2 ^ 32
    → length after ≡ length words → Scatters row first end 1 m u after
scatters_part row from to m t words h c first end u after a b d small long =
    record {
      least = h.least;
      most = h.most;
      room = let r = h.room in omega arith;
      bound = let r = h.bound in omega arith;
      bits_least = h.bits_least;
      bits_most = h.bits_most;
      start = small;
      puts = λ j k.
          let e : t + (c + j) ≡ u + j = omega arith in
          let f : from + (c + j) ≡ first + j = omega arith in
          puts_long (u + j) m (get_or row (first + j) 0) words after long (rw (e, f) at (h.puts (c + j) (omega arith)));
    }

pub joined_at : (row : List ℕ) (from c d m t : ℕ) (words mid after : List ℕ) (first u all : ℕ) → first ≡ from + c → u ≡ t + c → all ≡ c + d
    → Scattered row from c 1 m t words mid → Scattered row first d 1 m u mid after → Scattered row from all 1 m t words after
joined_at row from c d m t words mid after first u all a b e f g = rw e (joined row from c d m t words mid after f (rw (a, b) at g))

-- the bytes between the ends, from byte `at` on, and the symbols that go into them
pub cut : (per from to t at head n : ℕ) → 1 ≤ per → per ≤ 8 → at ≡ div_ceil t per → head ≡ from + (per * at - t) → n ≡ (to - head) / per → from + 8 ≤ to
    → (head ≡ from + (head - from)) × (per * at ≡ t + (head - from)) × (head + per * n ≤ to) × (head + per * n ≡ from + (head - from + per * n)) × (per * (at + n) ≡ t + (head - from + per * n)) × (head ≤ to)
cut per from to t at head n least most a h e far =
    let ceil : (t ≤ at * per) × (at * per < t + per) = rw (sym a) at (div_ceil_times t per least) in
    let low : t ≤ per * at = omega (arith, ceil.0) in
    let near : per * at < t + per = omega (arith, ceil.1) in
    let up : head ≤ to = omega arith in
    let d = div-add-mod' (to - head) per in
    let some : n * per ≤ to - head = rw (sym e) at (let z : (to - head) / per * per ≤ to - head = omega arith in z) in
    (omega arith, omega arith, omega arith, omega arith, omega arith, up)
