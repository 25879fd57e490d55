-- Laws of step 8: the symbols of words, and the words of symbols.
use mathlib.Core.Path.{◌≡◌, sym, ap, ap₂, ◌∙◌}
use mathlib.Core.List.{List}
use mathlib.Core.Logic.{⊎_elim}
use Prim.Native.Nat.{ℕ, ◌+◌, ◌-◌, ◌*◌, ◌/◌, ◌%◌, ◌^◌, ◌≤◌, ◌<◌}
use native.Mathlib.Omega.{arith}
use native.Mathlib.Nat.{le_refl, mul-le-mul, mul_comm, mul_assoc, mul-add, mod-lt, div-add-mod', div-lt_iff_lt-mul}
use lib.Arith.{digits_lt, digits_div, digits_mod}
use lib.ListN.{length, get_or, drop}
use lib.Seq.{get_or-take, get_or-drop}
use Rattle.bits.proofs.Laws.Choice.{lt_or_le, eq_or_ne}
use Rattle.bits.specs.Pack.{val, bit_at, Bits, Bytes, piece}
use Rattle.bits.proofs.Laws.Pack.{val_lt, val_same, val_bits, bit_lt, bit_val, bytes_are, bit_bytes, bytes_made}
use Rattle.sizes.specs.Sizes.{word_bits, word_bytes}
use Rattle.channel.specs.declared.Layout.{Layout}
use Rattle.channel.specs.Channel.{total, data_at, word_bit, word_from}

pub data_below : (bits : ℕ) (g : Layout) (word : ℕ → List ℕ) (t : ℕ) → data_at bits g word t < 2 ^ bits
unfolding data_at
data_below bits g word t =
    val_lt (λ i. bit_at (word (t / g.symbols)) (bits * (t % g.symbols) + i)) (λ i. bit_lt (word (t / g.symbols)) (bits * (t % g.symbols) + i)) bits

-- the same words give the same symbols
pub data_same : (bits : ℕ) (g : Layout) (word other : ℕ → List ℕ) → ((j : ℕ) → j < g.words → word j ≡ other j) → (t : ℕ) → t < total g → data_at bits g word t ≡ data_at bits g other t
unfolding data_at
data_same bits g word other h t l =
    ⊎_elim
    (λ (z : g.symbols ≡ 0).
    let e : total g ≡ 0 = ap (λ (s : ℕ). g.words * s) z ∙ omega arith in
    absurd (omega arith))
    (λ (z : g.symbols ≡ 0 → ⊥).
    let s : 0 < g.symbols = omega arith in
    ap (λ (xs : List ℕ). val (λ i. bit_at xs (bits * (t % g.symbols) + i)) bits) (h (t / g.symbols) ((div-lt_iff_lt-mul s).1 l)))
    (eq_or_ne g.symbols 0)

word_bit_lem : (words : List ℕ) (j y : ℕ) → y < word_bits → bit_at (piece word_bytes words j) y ≡ bit_at words (j * word_bits + y)
unfolding bit_at
word_bit_lem words j y h =
    let d : j * word_bytes + y / 8 ≡ (j * word_bits + y) / 8 = omega arith in
    let r : y % 8 ≡ (j * word_bits + y) % 8 = omega arith in
    ap (λ (v : ℕ). v / 2 ^ (7 - y % 8) % 2)
    (get_or-take word_bytes (drop (j * word_bytes) words) (y / 8) 0 (omega arith) ∙ get_or-drop (j * word_bytes) words (y / 8) 0)
    ∙ ap₂ (λ (u v : ℕ). get_or words u 0 / 2 ^ (7 - v) % 2) d r

pub symbols_least : (bits : ℕ) (g : Layout) → g.symbols * bits ≡ word_bits → 1 ≤ g.symbols
symbols_least bits g size =
    ⊎_elim
    (λ (l : g.symbols < 1).
    let z : g.symbols ≡ 0 = omega arith in
    let e : g.symbols * bits ≡ 0 = ap (λ (s : ℕ). s * bits) z ∙ omega arith in
    absurd (omega arith))
    (λ (l : 1 ≤ g.symbols). l)
    (lt_or_le g.symbols 1)

pub word_bit_lt : (bits : ℕ) (g : Layout) (symbol : ℕ → ℕ) (j : ℕ) → Bits (word_bit bits g symbol j)
unfolding word_bit
word_bit_lt bits g symbol j y = omega arith

pub word_bytes_lem : (bits : ℕ) (g : Layout) (symbol : ℕ → ℕ) (j : ℕ) → Bytes (word_from bits g symbol j)
unfolding word_from
word_bytes_lem bits g symbol j = bytes_are word_bytes (word_bit bits g symbol j) (word_bit_lt bits g symbol j)

module _ (bits : ℕ) (g : Layout) (size : g.symbols * bits ≡ word_bits) where
  -- bit i of symbol t in its word, and in all words
  pub data_place : (t i : ℕ) → i < bits → (bits * (t % g.symbols) + i < word_bits) × (t / g.symbols * word_bits + (bits * (t % g.symbols) + i) ≡ bits * t + i)
  data_place t i h =
      let s : ℕ = g.symbols in
      let m : ℕ = bits in
      let r : t % s < s = mod-lt t (symbols_least bits g size) in
      let inside : t % s * m + i < s * m = digits_lt r h in
      let comm : m * (t % s) ≡ t % s * m = mul_comm m (t % s) in
      let whole : t / s * word_bits ≡ m * (t / s * s) = ap (λ (k : ℕ). t / s * k) (sym size) ∙ sym (mul_assoc (t / s) s m) ∙ mul_comm (t / s * s) m in
      let parts : m * (t / s * s) + m * (t % s) ≡ m * t = sym (mul-add m (t / s * s) (t % s)) ∙ ap (λ (k : ℕ). m * k) (div-add-mod' t s) in
      (omega arith, omega arith)

  -- the words lie back to back: symbol t is the m bits from m·t on
  pub data_flat : (words : List ℕ) (t : ℕ) → data_at bits g (piece word_bytes words) t ≡ val (λ i. bit_at words (bits * t + i)) bits
  unfolding data_at
  data_flat words t =
      val_same (λ i. bit_at (piece word_bytes words (t / g.symbols)) (bits * (t % g.symbols) + i)) (λ i. bit_at words (bits * t + i)) bits (λ i l.
      word_bit_lem words (t / g.symbols) (bits * (t % g.symbols) + i) (data_place t i l).0 ∙ ap (bit_at words) (data_place t i l).1)

  -- it lies within them
  pub data_inside : (t : ℕ) → t < total g → bits * t + bits ≤ g.words * word_bits
  data_inside t l =
      let k : t + 1 ≤ total g = omega arith in
      let a : (t + 1) * bits ≤ total g * bits = mul-le-mul k (le_refl bits) in
      let b : total g * bits ≡ g.words * word_bits = mul_assoc g.words g.symbols bits ∙ ap (λ (z : ℕ). g.words * z) size in
      omega (arith, mul_comm t bits)

  -- bit y of a word is in its symbol y / m
  pub symbol_lt : 1 ≤ bits → (y : ℕ) → y < word_bits → y / bits < g.symbols
  symbol_lt pos y l = let k : y < g.symbols * bits = omega arith in (div-lt_iff_lt-mul pos).1 k

  -- the words of a word's symbols are the words
  pub word_again : 1 ≤ bits → (word : ℕ → List ℕ) (symbol : ℕ → ℕ) → ((t : ℕ) → t < total g → symbol t ≡ data_at bits g word t)
      → (j : ℕ) → j < g.words → length (word j) ≡ word_bytes → Bytes (word j) → word_from bits g symbol j ≡ word j
  unfolding word_from word_bit data_at
  word_again pos word symbol same j h long bytes =
      sym (bytes_made word_bytes (word_bit bits g symbol j) (word j) long bytes (λ y l.
      let m : ℕ = bits in
      let t : ℕ = j * g.symbols + y / m in
      let k : y / m < g.symbols = symbol_lt pos y (omega arith) in
      let tl : t < total g = digits_lt h k in
      let r : y % m < m = mod-lt y pos in
      let f : ℕ → ℕ = λ i. bit_at (word (t / g.symbols)) (m * (t % g.symbols) + i) in
      let at : m * (t % g.symbols) + y % m ≡ y =
      ap (λ (a : ℕ). m * a + y % m) (digits_mod j k) ∙ ap (λ (a : ℕ). a + y % m) (mul_comm m (y / m)) ∙ div-add-mod' y m in
      sym (
      ap (λ (v : ℕ). v / 2 ^ (m - 1 - y % m) % 2) (same t tl)
      ∙ bit_val f (λ i. bit_lt (word (t / g.symbols)) (m * (t % g.symbols) + i)) (m - 1 - y % m) (y % m) m (omega arith)
      ∙ ap₂ (λ (a i : ℕ). bit_at (word a) i) (digits_div j k) at
      )))

  -- and the symbols of a word of symbols are the symbols
  pub data_again : (symbol : ℕ → ℕ) (t : ℕ) → symbol t < 2 ^ bits → data_at bits g (word_from bits g symbol) t ≡ symbol t
  unfolding data_at word_from word_bit
  data_again symbol t small =
      let m : ℕ = bits in
      let n : ℕ = g.symbols in
      let q : ℕ = symbol t in
      let r : t % n < n = mod-lt t (symbols_least bits g size) in
      val_same (λ i. bit_at (word_from bits g symbol (t / n)) (m * (t % n) + i)) (λ i. q / 2 ^ (m - 1 - i) % 2) m (λ i k.
      let c : m * (t % n) ≡ t % n * m = mul_comm m (t % n) in
      let y : t % n * m + i < n * m = digits_lt r k in
      bit_bytes word_bytes (word_bit bits g symbol (t / n)) (word_bit_lt bits g symbol (t / n)) (m * (t % n) + i) (omega arith)
      ∙ ap (word_bit bits g symbol (t / n)) (ap (λ (a : ℕ). a + i) c)
      ∙ ap₂ (λ (x d : ℕ). symbol (t / n * n + x) / 2 ^ (m - 1 - d) % 2) (digits_div (t % n) k) (digits_mod (t % n) k)
      ∙ ap (λ (x : ℕ). symbol x / 2 ^ (m - 1 - i) % 2) (div-add-mod' t n))
      ∙ val_bits q m small
