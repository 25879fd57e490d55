-- A turn of the coder's loop: its coded bits are those of the definition, and the tables have them.
use mathlib.Core.Path.{◌≡◌, refl, sym, ap, ap₂, ◌∙◌}
use mathlib.Core.Bool.{Bool, true, false}
use mathlib.Core.List.{List, [], ◌∷◌}
use Prim.Native.Nat.{ℕ, zero, suc, ◌+◌, ◌-◌, ◌*◌, ◌/◌, ◌%◌, ◌^◌, ◌≤◌, ◌<◌}
use native.Mathlib.Omega.{arith}
use native.Mathlib.Nat.{add-zero, zero-add, mod-lt}
use lib.Bits.{bit_xor, bit_and, and_mask}
use lib.Dec.{T, eqb, eqb→eq}
use lib.ListN.{length, get_or, drop}
use lib.Seq.{get_or-drop}
use lib.Pow.{pow_pos, field, mod-mod-pow, shr-shr, low}
use Rattle.bits.specs.Basics.{both, pick, tab}
use Rattle.bits.proofs.Laws.Table.{both_left, both_right, all_below, below_all}
use Rattle.bits.specs.Pack.{Bits, Bytes, val, bit_at}
use Rattle.bits.proofs.Laws.Pack.{val_lt, val_same, bit_val}
use Rattle.bits.proofs.Laws.Parts.{val_split, byte_val}
use Rattle.sizes.specs.Sizes.{inputs_per, coded_per, word_bits}
use Rattle.convolution.specs.Code.{delay, first, second, input_place, encode}
use Rattle.convolution.proofs.Laws.Code.{delay_bits}
use Rattle.encoder_turns.specs.Inner.{bit_in, byte_of, turn_bit, Entries}
use Rattle.convolution.specs.Inner.{Put}
use Rattle.convolution.proofs.Filling.{Filling, filled_none, filled_all, fill_put}

-- ---- what the tables have

-- the test f passes at the first n entries of a list and their places, counted from i: one walk along the list
abbrev pub passes_along : (ℕ → ℕ → Bool) → ℕ → ℕ → List ℕ → Bool
passes_along f i zero xs = true
passes_along f i (suc n) [] = false
passes_along f i (suc n) (x ∷ xs) = both (f i x) (passes_along f (suc i) n xs)

passed_along : (f : ℕ → ℕ → Bool) (i n : ℕ) (xs : List ℕ) → T (passes_along f i n xs) → (k : ℕ) → k < n → T (f (i + k) (get_or xs k 0))
passed_along f i zero xs t k h = absurd (omega arith)
passed_along f i (suc n) [] t k h = absurd t
passed_along f i (suc n) (x ∷ xs) t zero h = rw (add-zero i) (both_left (f i x) (passes_along f (suc i) n xs) t)
passed_along f i (suc n) (x ∷ xs) t (suc k) h =
    let e : i + suc k ≡ suc i + k = omega arith in
    let l : k < n = omega arith in
    rw e (passed_along f (suc i) n xs (both_right (f i x) (passes_along f (suc i) n xs) t) k l)

-- a part of a table is right where this test passes, which antt computes
pub entries_right : (rate u o m base : ℕ) (table : List ℕ)
    → T (passes_along (λ w v. all_below 8 (λ t. eqb (byte_of v t) (turn_bit rate (λ k. bit_in m w (k - o)) (u + t)))) 0 (2 ^ m) (drop base table))
    → Entries rate u o m base table
entries_right rate u o m base table h = record {
  entry = λ w t hw ht.
      let p : T (all_below 8 (λ t. eqb (byte_of (get_or (drop base table) w 0) t) (turn_bit rate (λ k. bit_in m w (k - o)) (u + t)))) =
      rw (zero-add w) at (passed_along (λ w v. all_below 8 (λ t. eqb (byte_of v t) (turn_bit rate (λ k. bit_in m w (k - o)) (u + t)))) 0 (2 ^ m) (drop base table) h w hw) in
      ap (λ (v : ℕ). byte_of v t) (sym (get_or-drop base table w 0))
      ∙ eqb→eq (byte_of (get_or (drop base table) w 0) t) (turn_bit rate (λ k. bit_in m w (k - o)) (u + t))
      (below_all 8 (λ t. eqb (byte_of (get_or (drop base table) w 0) t) (turn_bit rate (λ k. bit_in m w (k - o)) (u + t))) p t ht);
}

-- three bits make a coded bit
turn_same : (rate u : ℕ) (f g : ℕ → ℕ) → ((k : ℕ) → input_place rate u ≤ k → k ≤ input_place rate u + 2 → f k ≡ g k) → turn_bit rate f u ≡ turn_bit rate g u
unfolding turn_bit
turn_same rate u f g h =
    let s : ℕ = input_place rate u in
    let a : f s ≡ g s = h s (omega arith) (omega arith) in
    let b : f (s + 1) ≡ g (s + 1) = h (s + 1) (omega arith) (omega arith) in
    let c : f (s + 2) ≡ g (s + 2) = h (s + 2) (omega arith) (omega arith) in
    ap₂ (pick (eqb (u % coded_per rate) 0)) (ap₂ bit_xor c a) (ap₂ bit_xor (ap₂ bit_xor c b) a)

-- a bit of m bits cut out of n
cut_bit : (w d m r j : ℕ) → r + suc j ≡ m → w / 2 ^ d % 2 ^ m / 2 ^ j % 2 ≡ w / 2 ^ (d + j) % 2
cut_bit w d m r j whole =
    let e : m ≡ r + 1 + j = omega arith in
    ap (λ (p : ℕ). w / 2 ^ d % 2 ^ p / 2 ^ j % 2) e
    ∙ ap (λ (v : ℕ). v % 2) (field (w / 2 ^ d) (r + 1) j)
    ∙ mod-mod-pow (w / 2 ^ d / 2 ^ j) r 1
    ∙ ap (λ (v : ℕ). v % 2) (shr-shr w d j)

part_bit : (o m d n w k : ℕ) → o + m + d ≡ n → o ≤ k → k < o + m → bit_in m (w / 2 ^ d % 2 ^ m) (k - o) ≡ bit_in n w k
part_bit o m d n w k whole l h =
    let g : d + (m - 1 - (k - o)) ≡ n - 1 - k = omega arith in
    cut_bit w d m (k - o) (m - 1 - (k - o)) (omega arith) ∙ ap (λ (p : ℕ). w / 2 ^ p % 2) g

-- eight coded bits of a turn, those from bit u on, by the entry of the bits that make them
pub group : (rate u o m base d n w e : ℕ) (table : List ℕ) → Entries rate u o m base table → e ≡ base + w / 2 ^ d % 2 ^ m → o + m + d ≡ n
    → ((t : ℕ) → t < 8 → (o ≤ input_place rate (u + t)) × (input_place rate (u + t) + 2 < o + m))
    → (t p : ℕ) → t < 8 → p ≡ u + t → byte_of (get_or table e 0) t ≡ turn_bit rate (bit_in n w) p
group rate u o m base d n w e table h at whole inside t p l q =
    let i = inside t l in
    ap (λ (k : ℕ). byte_of (get_or table k 0) t) at
    ∙ h.entry (w / 2 ^ d % 2 ^ m) t (mod-lt (w / 2 ^ d) (pow_pos m)) l
    ∙ turn_same rate (u + t) (λ k. bit_in m (w / 2 ^ d % 2 ^ m) (k - o)) (bit_in n w) (λ k a b. part_bit o m d n w k whole (omega arith) (omega arith))
    ∙ ap (turn_bit rate (bit_in n w)) (sym q)

-- ---- turns

-- at a rate, a turn is made of `ins` input bits and makes `outs` coded bits
pub record Turns (rate ins outs : ℕ) : Type 0 where
  pub step : (i u : ℕ) → input_place rate (outs * i + u) ≡ ins * i + input_place rate u
  pub phase : (i u : ℕ) → (outs * i + u) % coded_per rate ≡ u % coded_per rate
  pub inside : (u : ℕ) → u < outs → input_place rate u < ins

pub third_turns : Turns 0 8 24
unfolding input_place inputs_per coded_per
third_turns = record { step = λ i u. omega arith; phase = λ i u. omega arith; inside = λ u l. omega arith }

pub half_turns : Turns 1 8 16
unfolding input_place inputs_per coded_per
half_turns = record { step = λ i u. omega arith; phase = λ i u. omega arith; inside = λ u l. omega arith }

pub two_thirds_turns : Turns 2 16 24
unfolding input_place inputs_per coded_per
two_thirds_turns = record { step = λ i u. omega arith; phase = λ i u. omega arith; inside = λ u l. omega arith }

-- the bits of turn i: the two before its input bits, and these
unfoldable pub turn_bits : (ℕ → ℕ) → ℕ → ℕ → ℕ → ℕ
turn_bits x ins i k = delay (delay x) (ins * i + k)

-- input bit t of the turn
turn_input : (x : ℕ → ℕ) (ins i t : ℕ) → turn_bits x ins i (2 + t) ≡ x (ins * i + t)
unfolding turn_bits delay
turn_input x ins i t = let e : ins * i + (2 + t) ≡ suc (suc (ins * i + t)) = omega arith in ap (delay (delay x)) e

turn_bits_lem : (x : ℕ → ℕ) → Bits x → (ins i : ℕ) → Bits (turn_bits x ins i)
unfolding turn_bits
turn_bits_lem x h ins i k = delay_bits (delay x) (delay_bits x h) (ins * i + k)

-- the coded bits of turn i
turn_encode : (rate ins outs : ℕ) → Turns rate ins outs → (x : ℕ → ℕ) (i u : ℕ) → turn_bit rate (turn_bits x ins i) u ≡ encode rate x (outs * i + u)
unfolding turn_bit turn_bits encode first second delay
turn_encode rate ins outs h x i u =
    let s : ℕ = input_place rate u in
    let j : ℕ = ins * i + s in
    let two : ins * i + (s + 2) ≡ suc (suc j) = omega arith in
    let one : ins * i + (s + 1) ≡ suc j = omega arith in
    let newest = ap (delay (delay x)) two in
    let newer = ap (delay (delay x)) one in
    ap₂ (pick (eqb (u % coded_per rate) 0)) (ap (λ (v : ℕ). bit_xor v (delay (delay x) j)) newest)
    (ap₂ (λ (v w : ℕ). bit_xor (bit_xor v w) (delay (delay x) j)) newest newer)
    ∙ sym (ap₂ (λ (p q : ℕ). pick (eqb p 0) (first x q) (second x q)) (h.phase i u) (h.step i u))

-- the bits before turn i, and the places that the turns so far have filled
pub record Coding (rate ins outs : ℕ) (x : ℕ → ℕ) (coded : List ℕ) (before i : ℕ) : Type 0 where
  pub carried : before ≡ val (turn_bits x ins i) 2
  pub filled : Filling (encode rate x) coded word_bits (outs * i)

-- before the first turn there are zeros
pub coding_none : (rate ins outs : ℕ) (x : ℕ → ℕ) (coded : List ℕ) → length coded ≡ word_bits → Coding rate ins outs x coded 0 0
unfolding turn_bits val delay
coding_none rate ins outs x coded e =
    let z : ins * 0 ≡ 0 = omega arith in
    let none : outs * 0 ≡ 0 = omega arith in
    record { carried = rw z refl; filled = rw none (filled_none (encode rate x) word_bits coded e) }

pub coding_small : (rate ins outs : ℕ) (x : ℕ → ℕ) → Bits x → (coded : List ℕ) (before i : ℕ) → Coding rate ins outs x coded before i → before < 4
coding_small rate ins outs x b coded before i h = rw h.carried (val_lt (turn_bits x ins i) (turn_bits_lem x b ins i) 2)

-- a byte more of the turn's bits
pub push_byte : (xs : List ℕ) → Bytes xs → (ins i m w k : ℕ) → w ≡ val (turn_bits (bit_at xs) ins i) (2 + m) → 8 * k ≡ ins * i + m
    → w * 2 ^ 8 + get_or xs k 0 ≡ val (turn_bits (bit_at xs) ins i) (2 + m + 8)
push_byte xs h ins i m w k ew at =
    let f : ℕ → ℕ = turn_bits (bit_at xs) ins i in
    ap₂ (λ (p q : ℕ). p * 2 ^ 8 + q) ew
    (sym (byte_val xs k (h k)) ∙ val_same (λ t. bit_at xs (8 * k + t)) (λ t. f (2 + m + t)) 8 (λ t l.
    let e : 8 * k + t ≡ ins * i + (m + t) = omega arith in
    let d : 2 + (m + t) ≡ 2 + m + t = omega arith in
    ap (bit_at xs) e ∙ sym (turn_input (bit_at xs) ins i (m + t)) ∙ ap f d))
    ∙ sym (val_split f (2 + m) 8)

-- the last two bits of a turn stand before the next
turn_next : (x : ℕ → ℕ) → Bits x → (ins i w : ℕ) → w ≡ val (turn_bits x ins i) (ins + 2) → bit_and w 3 ≡ val (turn_bits x ins (i + 1)) 2
unfolding turn_bits
turn_next x b ins i w e =
    let f : ℕ → ℕ = turn_bits x ins i in
    and_mask w 2
    ∙ ap (λ (v : ℕ). v % 2 ^ 2) (e ∙ val_split f ins 2)
    ∙ low (val f ins) 2 (val_lt (λ t. f (ins + t)) (λ t. turn_bits_lem x b ins i (ins + t)) 2)
    ∙ val_same (λ t. f (ins + t)) (turn_bits x ins (i + 1)) 2 (λ t l. let q : ins * i + (ins + t) ≡ ins * (i + 1) + t = omega arith in ap (delay (delay x)) q)

-- they are those of its last byte
pub last_two : (w before byte : ℕ) → w ≡ before * 2 ^ 8 + byte → bit_and byte 3 ≡ bit_and w 3
last_two w before byte e = and_mask byte 2 ∙ omega arith ∙ sym (and_mask w 2)

-- one turn more
pub coding_on : (rate ins outs : ℕ) → Turns rate ins outs → (x : ℕ → ℕ) → Bits x → (xs ys : List ℕ) (before i w next : ℕ) → Coding rate ins outs x xs before i
    → w ≡ val (turn_bits x ins i) (ins + 2) → next ≡ bit_and w 3 → Put xs (outs * i) outs (turn_bit rate (bit_in (ins + 2) w)) ys
    → Coding rate ins outs x ys next (i + 1)
coding_on rate ins outs h x b xs ys before i w next c e q p =
    let on : outs * i + outs ≡ outs * (i + 1) = omega arith in
    let done = fill_put (encode rate x) word_bits xs ys (outs * i) outs (turn_bit rate (bit_in (ins + 2) w)) p (λ t l.
    turn_same rate t (bit_in (ins + 2) w) (turn_bits x ins i) (λ k a c.
    ap (λ (v : ℕ). bit_in (ins + 2) v k) e
    ∙ bit_val (turn_bits x ins i) (turn_bits_lem x b ins i) (ins + 2 - 1 - k) k (ins + 2) (omega (arith, h.inside t l)))
    ∙ turn_encode rate ins outs h x i t) c.filled in
    record { carried = q ∙ turn_next x b ins i w e; filled = rw on at done }

-- after so many turns all places are filled
pub coding_done : (rate ins outs n : ℕ) (x : ℕ → ℕ) (coded : List ℕ) (before i : ℕ) → outs * n ≡ word_bits → i ≡ n → Coding rate ins outs x coded before i
    → coded ≡ tab word_bits (encode rate x)
coding_done rate ins outs n x coded before i all e h =
    let z : outs * i ≡ word_bits = ap (λ (k : ℕ). outs * k) e ∙ all in
    filled_all (encode rate x) word_bits coded (outs * i) (omega arith) h.filled
