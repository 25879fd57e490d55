-- The sequence comes again after 255 bits, and so do its bytes after 255 bytes: a table of them is enough.
use mathlib.Core.Path.{◌≡◌, refl, sym, ap, ◌∙◌}
use mathlib.Core.Bool.{Bool, true}
use mathlib.Core.List.{List, [], ◌∷◌}
use mathlib.Core.Logic.{⊎_elim}
use Prim.Native.Nat.{ℕ, zero, suc, ◌+◌, ◌-◌, ◌*◌, ◌/◌, ◌%◌, ◌^◌, ◌≤◌, ◌<◌}
use native.Mathlib.Omega.{arith}
use lib.Bits.{bit_xor}
use lib.Dec.{eqb}
use borrow.Author.Tests.{eqb-true}
use lib.ListN.{length, get_or, set, length-set}
use lib.Seq.{get_or-set_same, get_or-set_other}
use Rattle.bits.proofs.Laws.Choice.{lt_or_le, eq_or_ne}
use Rattle.bits.specs.Basics.{both}
use Rattle.bits.proofs.Laws.Table.{both_true}
use Rattle.bits.specs.Pack.{val, bit_at, bytes_of}
use Rattle.bits.proofs.Laws.Pack.{bit_lt, val_same, bytes_by_byte}
use Rattle.bits.proofs.Laws.Parts.{byte_val, val_plus}
use Rattle.randomizer.specs.Randomizer.{next, window, sequence, randomize}
use Rattle.randomizer.proofs.Laws.Randomizer.{window_bit, sequence_bits}
use Rattle.randomizer.specs.Inner.{Added}

-- byte i of the sequence
unfoldable pub sequence_byte : ℕ → ℕ
sequence_byte i = val (λ t. sequence (8 * i + t)) 8

-- the first bytes of the sequence, up to where it comes again
pub record Period (table : List ℕ) : Type 0 where
  pub entry : (i : ℕ) → i < 255 → get_or table i 0 ≡ sequence_byte i

-- ---- the period

window_period : (j : ℕ) → window (j + 255) ≡ window j
unfolding window next
window_period zero = refl
window_period (suc j) =
    let e : suc j + 255 ≡ suc (j + 255) = omega arith in
    ap window e ∙ ap next (window_period j)

pub sequence_period : (j m : ℕ) → sequence (j + 255 * m) ≡ sequence j
unfolding sequence
sequence_period j zero = let e : j + 255 * 0 ≡ j = omega arith in ap sequence e
sequence_period j (suc m) =
    let e : j + 255 * suc m ≡ j + 255 * m + 255 = omega arith in
    ap sequence e ∙ ap (λ (w : List ℕ). get_or w 7 0) (window_period (j + 255 * m)) ∙ sequence_period j m

byte_period : (m i : ℕ) → sequence_byte (255 * m + i) ≡ sequence_byte i
unfolding sequence_byte
byte_period m i =
    val_same (λ t. sequence (8 * (255 * m + i) + t)) (λ t. sequence (8 * i + t)) 8 (λ t l.
    let e : 8 * (255 * m + i) + t ≡ 8 * i + t + 255 * (8 * m) = omega arith in
    ap sequence e ∙ sequence_period (8 * i + t) (8 * m))

-- ---- a byte of the block

randomize_byte : (xs : List ℕ) (k : ℕ) → get_or xs k 0 < 256
    → val (λ t. randomize (bit_at xs) (8 * k + t)) 8 ≡ bit_xor (get_or xs k 0) (sequence_byte k)
unfolding randomize sequence_byte
randomize_byte xs k h =
    val_plus (λ t. bit_at xs (8 * k + t)) (λ t. sequence (8 * k + t)) (λ t. bit_lt xs (8 * k + t)) (λ t. sequence_bits (8 * k + t)) 8
    ∙ ap (λ (v : ℕ). bit_xor v (sequence_byte k)) (byte_val xs k h)

-- a byte of the answer depends on that byte alone
byte_alone : (xs ys : List ℕ) (k : ℕ) → get_or ys k 0 ≡ get_or xs k 0
    → val (λ t. randomize (bit_at ys) (8 * k + t)) 8 ≡ val (λ t. randomize (bit_at xs) (8 * k + t)) 8
unfolding randomize bit_at
byte_alone xs ys k e =
    val_same (λ t. randomize (bit_at ys) (8 * k + t)) (λ t. randomize (bit_at xs) (8 * k + t)) 8 (λ t l.
    let place : (8 * k + t) / 8 ≡ k = omega arith in
    ap (λ (v : ℕ). bit_xor (v / 2 ^ (7 - (8 * k + t) % 8) % 2) (sequence (8 * k + t)))
    (ap (λ (p : ℕ). get_or ys p 0) place ∙ e ∙ ap (λ (p : ℕ). get_or xs p 0) (sym place)))

-- ---- loops over the bytes

pub added_none : (xs : List ℕ) (start : ℕ) → Added xs xs start start
added_none xs start = record { size = refl; inside = λ k a b. absurd (omega arith); before = λ k l. refl; behind = λ k l. refl }

-- one byte more
added_byte : (xs ys : List ℕ) (start j v : ℕ) → start ≤ j → j < length ys → get_or ys j 0 < 256 → v ≡ bit_xor (get_or ys j 0) (sequence_byte j)
    → Added xs ys start j → Added xs (set ys j v) start (j + 1)
added_byte xs ys start j v s l b e a = record {
  size = length-set ys j v ∙ a.size;
  inside = λ k p q. ⊎_elim
      (λ (r : k ≡ j). ap (λ (i : ℕ). get_or (set ys j v) i 0) r ∙ get_or-set_same ys j v 0 l ∙ e ∙ sym (randomize_byte ys j b)
      ∙ byte_alone xs ys j (a.behind j (omega arith)) ∙ ap (λ (i : ℕ). val (λ t. randomize (bit_at xs) (8 * i + t)) 8) (sym r))
      (λ (r : k ≡ j → ⊥). get_or-set_other ys j k v 0 r ∙ a.inside k p (omega arith))
      (eq_or_ne k j);
  before = λ k p. get_or-set_other ys j k v 0 (λ r. absurd (omega arith)) ∙ a.before k p;
  behind = λ k p. get_or-set_other ys j k v 0 (λ r. absurd (omega arith)) ∙ a.behind k (omega arith);
}

-- one part more
pub added_part : (xs ys zs : List ℕ) (j end : ℕ) → j ≤ end → Added xs ys 0 j → Added ys zs j end → Added xs zs 0 end
added_part xs ys zs j end l a b = record {
  size = b.size ∙ a.size;
  inside = λ k p q. ⊎_elim
      (λ (r : k < j). b.before k r ∙ a.inside k p r)
      (λ (r : j ≤ k). b.inside k r q ∙ byte_alone xs ys k (a.behind k r))
      (lt_or_le k j);
  before = λ k p. absurd (omega arith);
  behind = λ k p. b.behind k p ∙ a.behind k (omega arith);
}

pub added_all : (n : ℕ) (xs ys : List ℕ) → length xs ≡ n → Added xs ys 0 n → ys ≡ bytes_of n (randomize (bit_at xs))
added_all n xs ys e a =
    bytes_by_byte n (randomize (bit_at xs)) ys (a.size ∙ e) (λ i l. a.inside i (omega arith) l)

-- eight bits on
abbrev eight : List ℕ → List ℕ
eight w = next (next (next (next (next (next (next (next w)))))))

-- the test that antt computes: the bytes of a list are those of the windows from w on
abbrev pub matches : List ℕ → List ℕ → Bool
matches [] w = true
matches (x ∷ xs) w = both (eqb x (val (λ t. get_or w (7 - t) 0) 8)) (matches xs (eight w))

matches_byte : (xs : List ℕ) (m : ℕ) → matches xs (window (8 * m)) ≡ true → (i : ℕ) → i < length xs → get_or xs i 0 ≡ sequence_byte (m + i)
unfolding window sequence_byte
matches_byte [] m e i l = absurd (omega arith)
matches_byte (x ∷ xs) m e zero l =
    let first = (both_true (eqb x (val (λ t. get_or (window (8 * m)) (7 - t) 0) 8)) (matches xs (eight (window (8 * m)))) e).0 in
    let here : m + 0 ≡ m = omega arith in
    eqb-true x (val (λ t. get_or (window (8 * m)) (7 - t) 0) 8) first
    ∙ val_same (λ t. get_or (window (8 * m)) (7 - t) 0) (λ t. sequence (8 * m + t)) 8 (λ t k. window_bit t (8 * m) k)
    ∙ ap sequence_byte (sym here)
matches_byte (x ∷ xs) m e (suc i) l =
    let rest = (both_true (eqb x (val (λ t. get_or (window (8 * m)) (7 - t) 0) 8)) (matches xs (eight (window (8 * m)))) e).1 in
    let on : suc (suc (suc (suc (suc (suc (suc (suc (8 * m)))))))) ≡ 8 * suc m = omega arith in
    let there : suc m + i ≡ m + suc i = omega arith in
    matches_byte xs (suc m) (ap (λ (n : ℕ). matches xs (window n)) (sym on) ∙ rest) i (omega arith) ∙ ap sequence_byte there

pub table_right : (table : List ℕ) → length table ≡ 255 → matches table (window 0) ≡ true → Period table
table_right table e t = record {
  entry = λ i h.
      let l : i < length table = omega arith in
      let here : 0 + i ≡ i = omega arith in
      matches_byte table 0 t i l ∙ ap sequence_byte here;
}

-- counted from any place where the sequence comes again
period_place : (table : List ℕ) → Period table → (start i : ℕ) → start % 255 ≡ 0 → i < 255 → get_or table i 0 ≡ sequence_byte (start + i)
period_place table p start i h l =
    let e : 255 * (start / 255) + i ≡ start + i = omega arith in
    p.entry i l ∙ sym (byte_period (start / 255) i) ∙ ap sequence_byte e

-- one byte more by the table
pub added_entry : (table xs ys : List ℕ) (start i : ℕ) → Period table → start % 255 ≡ 0 → i < 255 → start + i < length ys → get_or ys (start + i) 0 < 256
    → Added xs ys start (start + i) → Added xs (set ys (start + i) (bit_xor (get_or ys (start + i) 0) (get_or table i 0))) start (start + (i + 1))
added_entry table xs ys start i p h k l b a =
    let j : ℕ = start + i in
    let e : j + 1 ≡ start + (i + 1) = omega arith in
    rw e at (added_byte xs ys start j (bit_xor (get_or ys j 0) (get_or table i 0)) (omega arith) l b
    (ap (bit_xor (get_or ys j 0)) (period_place table p start i h k)) a)
