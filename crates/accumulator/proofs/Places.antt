-- Eight places on from any place, or 64, are bytes of the whole; and a list that is changed in place, element by element.
use mathlib.Core.Path.{◌≡◌, refl, sym, ap, ap₂, ◌∙◌}
use mathlib.Core.List.{List}
use mathlib.Core.Logic.{⊎_elim}
use Prim.Native.Nat.{ℕ, zero, suc, ◌+◌, ◌-◌, ◌*◌, ◌/◌, ◌%◌, ◌^◌, ◌≤◌, ◌<◌}
use native.Mathlib.Omega.{arith}
use native.Mathlib.Nat.{add-zero, add-suc}
use lib.Bits.{bit_xor, xor_zero_r}
use lib.ListN.{length, get_or, set, length-set}
use lib.Seq.{get_or-set_other}
use Rattle.bits.proofs.Laws.Choice.{lt_or_le}
use Rattle.bits.proofs.Laws.Sum.{xor_bit}
use Rattle.bits.proofs.Laws.Table.{fill}
use Rattle.bits.specs.Pack as packed
use Rattle.bits.specs.Pack.{val, bit_at, Bits}
use Rattle.bits.proofs.Laws.Pack.{val_same, bit_val, bit_lt, bit_of_lt}
use Rattle.bits.specs.Inner.{Laid}
use Rattle.accumulator.specs.Accumulator.{accumulate, differentiate}
use Rattle.accumulator.proofs.Laws.Accumulator.{accumulate_bits}
use Rattle.accumulator.specs.Inner.{bit_of, behind, accumulate_from, differentiate_from, Made, outputs, SoFar}

accumulate_here : (f : ℕ → ℕ) (m : ℕ) → accumulate f m ≡ bit_xor (f m) (behind 0 (accumulate f) m)
unfolding accumulate behind
accumulate_here f zero = sym (xor_zero_r (f 0))
accumulate_here f (suc m) = refl

-- t places on from place m
accumulate_on : (f : ℕ → ℕ) (m t : ℕ) → accumulate f (m + t) ≡ accumulate_from (behind 0 (accumulate f) m) (λ s. f (m + s)) t
unfolding accumulate_from accumulate
accumulate_on f m zero = rw add-zero (accumulate_here f m)
accumulate_on f m (suc t) = rw add-suc (ap (λ (a : ℕ). bit_xor (f (suc (m + t))) a) (accumulate_on f m t))

differentiate_on : (g : ℕ → ℕ) (m t : ℕ) → differentiate g (m + t) ≡ differentiate_from (behind 0 g m) (λ s. g (m + s)) t
unfolding differentiate_from differentiate behind
differentiate_on g zero zero = sym (xor_zero_r (g 0))
differentiate_on g (suc m) zero = rw add-zero refl
differentiate_on g m (suc t) = rw add-suc refl

-- they ask for no input past their own place
accumulate_upto : (p : ℕ) (f g : ℕ → ℕ) (j : ℕ) → ((i : ℕ) → i ≤ j → f i ≡ g i) → accumulate_from p f j ≡ accumulate_from p g j
unfolding accumulate_from
accumulate_upto p f g zero h = ap (λ (a : ℕ). bit_xor a p) (h 0 (omega arith))
accumulate_upto p f g (suc j) h = ap₂ bit_xor (h (suc j) (omega arith)) (accumulate_upto p f g j (λ i l. h i (omega arith)))

differentiate_upto : (p : ℕ) (f g : ℕ → ℕ) (j : ℕ) → ((i : ℕ) → i ≤ j → f i ≡ g i) → differentiate_from p f j ≡ differentiate_from p g j
unfolding differentiate_from behind
differentiate_upto p f g zero h = ap (λ (a : ℕ). bit_xor a p) (h 0 (omega arith))
differentiate_upto p f g (suc j) h = ap₂ bit_xor (h (suc j) (omega arith)) (h j (omega arith))

accumulate_from_bits : (p : ℕ) (f : ℕ → ℕ) → p < 2 → Bits f → Bits (accumulate_from p f)
unfolding accumulate_from
accumulate_from_bits p f h b zero = xor_bit (f 0) p (b 0) h
accumulate_from_bits p f h b (suc j) = xor_bit (f (suc j)) (accumulate_from p f j) (b (suc j)) (accumulate_from_bits p f h b j)

-- the bits of byte i are eight bits of the list
byte_bits : (xs : List ℕ) (i s : ℕ) → s < 8 → bit_of (get_or xs i 0) s ≡ bit_at xs (8 * i + s)
unfolding bit_at
byte_bits xs i s h =
    let q : i ≡ (8 * i + s) / 8 = omega arith in
    let r : 7 - s ≡ 7 - (8 * i + s) % 8 = omega arith in
    ap₂ (λ (x y : ℕ). get_or xs x 0 / 2 ^ y % 2) q r

-- byte i of the outputs, and of the inputs
accumulated_byte : (xs : List ℕ) (i : ℕ)
    → val (accumulate_from (behind 0 (accumulate (bit_at xs)) (8 * i)) (bit_of (get_or xs i 0))) 8 ≡ val (λ t. accumulate (bit_at xs) (8 * i + t)) 8
accumulated_byte xs i =
    let p : ℕ = behind 0 (accumulate (bit_at xs)) (8 * i) in
    val_same (accumulate_from p (bit_of (get_or xs i 0))) (λ t. accumulate (bit_at xs) (8 * i + t)) 8 (λ t h.
    accumulate_upto p (bit_of (get_or xs i 0)) (λ s. bit_at xs (8 * i + s)) t (λ s l. byte_bits xs i s (omega arith))
    ∙ sym (accumulate_on (bit_at xs) (8 * i) t))

pub differentiated_byte : (xs : List ℕ) (i : ℕ)
    → val (differentiate_from (behind 0 (bit_at xs) (8 * i)) (bit_of (get_or xs i 0))) 8 ≡ val (λ t. differentiate (bit_at xs) (8 * i + t)) 8
differentiated_byte xs i =
    let p : ℕ = behind 0 (bit_at xs) (8 * i) in
    val_same (differentiate_from p (bit_of (get_or xs i 0))) (λ t. differentiate (bit_at xs) (8 * i + t)) 8 (λ t h.
    differentiate_upto p (bit_of (get_or xs i 0)) (λ s. bit_at xs (8 * i + s)) t (λ s l. byte_bits xs i s (omega arith))
    ∙ sym (differentiate_on (bit_at xs) (8 * i) t))

-- the bit before the next byte is the last of this one
next : (g : ℕ → ℕ) (i : ℕ) → g (8 * i + 7) ≡ behind 0 g (8 * (i + 1))
unfolding behind
next g i = let e : 8 * (i + 1) ≡ suc (8 * i + 7) = omega arith in rw e refl

accumulated_last : (xs : List ℕ) (i v : ℕ) → v ≡ val (λ t. accumulate (bit_at xs) (8 * i + t)) 8 → v % 2 ≡ behind 0 (accumulate (bit_at xs)) (8 * (i + 1))
unfolding val
accumulated_last xs i v e =
    let b : accumulate (bit_at xs) (8 * i + 7) < 2 = accumulate_bits (bit_at xs) (bit_lt xs) (8 * i + 7) in
    rw e (omega (arith, next (accumulate (bit_at xs)) i))

pub given_last : (xs : List ℕ) (i : ℕ) → get_or xs i 0 % 2 ≡ behind 0 (bit_at xs) (8 * (i + 1))
given_last xs i = let e : bit_of (get_or xs i 0) 7 ≡ bit_at xs (8 * i + 7) = byte_bits xs i 7 (omega arith) in omega (arith, next (bit_at xs) i)

-- the bit before a place is a bit
pub behind_bit : (g : ℕ → ℕ) → Bits g → (j : ℕ) → behind 0 g j < 2
unfolding behind
behind_bit g h zero = omega arith
behind_bit g h (suc j) = h j

pub made_none : (f : ℕ → ℕ) (xs : List ℕ) → Made f xs xs 0
made_none f xs = record { size = refl; done = λ k l. absurd (omega arith); rest = λ k l. refl }

pub made_more : (f : ℕ → ℕ) (xs out : List ℕ) (i v : ℕ) → Made f xs out i → i < length out → v ≡ f i → Made f xs (set out i v) (i + 1)
made_more f xs out i v m l e =
    record {
      size = length-set out i v ∙ m.size;
      done = fill out f i v l e m.done;
      rest = λ k h. let n : k ≡ i → ⊥ = λ q. omega arith in get_or-set_other out i k v 0 n ∙ m.rest k (omega arith);
    }

pub made_eight : (f : ℕ → ℕ) (xs out after : List ℕ) (i : ℕ) (g : ℕ → ℕ) → Made f xs out i → Laid out i 8 g after
    → ((t : ℕ) → t < 8 → val (λ u. g (8 * t + u)) 8 ≡ f (i + t)) → Made f xs after (i + 8)
made_eight f xs out after i g m l e =
    record {
      size = l.long ∙ m.size;
      done = λ k h. ⊎_elim
          (λ (q : k < i). l.earlier k q ∙ m.done k q)
          (λ (q : i ≤ k).
          let z : k ≡ i + (k - i) = omega arith in
          ap (λ (n : ℕ). get_or after n 0) z ∙ l.here (k - i) (omega arith) ∙ e (k - i) (omega arith) ∙ ap f (sym z))
          (lt_or_le k i);
      rest = λ k h. l.later k h ∙ m.rest k (omega arith);
    }

-- ---- the accumulator, with its first i bytes made

pub so_far_none : (xs : List ℕ) → SoFar xs xs 0 0
unfolding behind
so_far_none xs = record { made = made_none (outputs xs) xs; before = refl }

module _ {xs out : List ℕ} {i last : ℕ} (s : SoFar xs out i last) where
  pub last_bit : last < 2
  last_bit = rw s.before (behind_bit (accumulate (bit_at xs)) (accumulate_bits (bit_at xs) (bit_lt xs)) (8 * i))

  -- one byte more
  pub so_far_byte : (v : ℕ) → i < length out → v ≡ val (accumulate_from last (bit_of (get_or out i 0))) 8 → SoFar xs (set out i v) (i + 1) (v % 2)
  so_far_byte v l q =
      let e : v ≡ outputs xs i =
      q
      ∙ ap₂ (λ (p b : ℕ). val (accumulate_from p (bit_of b)) 8) s.before (s.made.rest i (omega arith))
      ∙ accumulated_byte xs i in
      record { made = made_more (outputs xs) xs out i v s.made l e; before = accumulated_last xs i v e }

  -- and eight
  module _ (sums : ℕ) (eq : sums ≡ val (accumulate_from last (packed.bit_of (val (λ t. bit_at out (8 * i + t)) 64))) 64) where
    given : (t : ℕ) → bit_at out (8 * i + t) ≡ bit_at xs (8 * i + t)
    unfolding bit_at
    given t = ap (λ (b : ℕ). b / 2 ^ (7 - (8 * i + t) % 8) % 2) (s.made.rest ((8 * i + t) / 8) (omega arith))

    sums_bit : (t : ℕ) → t < 64 → packed.bit_of sums t ≡ accumulate (bit_at xs) (8 * i + t)
    sums_bit t h =
        let v : ℕ = val (λ t. bit_at out (8 * i + t)) 64 in
        let f : ℕ → ℕ = accumulate_from last (packed.bit_of v) in
        ap (λ (n : ℕ). packed.bit_of n t) eq
        ∙ bit_val f (accumulate_from_bits last (packed.bit_of v) last_bit (bit_of_lt v)) (63 - t) t 64 (omega arith)
        ∙ accumulate_upto last (packed.bit_of v) (λ u. bit_at xs (8 * i + u)) t (λ u k.
        bit_val (λ t. bit_at out (8 * i + t)) (λ t. bit_lt out (8 * i + t)) (63 - u) u 64 (omega arith) ∙ given u)
        ∙ ap (λ (p : ℕ). accumulate_from p (λ u. bit_at xs (8 * i + u)) t) s.before
        ∙ sym (accumulate_on (bit_at xs) (8 * i) t)

    pub so_far_eight : (after : List ℕ) → Laid out i 8 (packed.bit_of sums) after → SoFar xs after (i + 8) (sums % 2)
    unfolding behind
    so_far_eight after l =
        record {
          made = made_eight (outputs xs) xs out after i (packed.bit_of sums) s.made l (λ t h.
              val_same (λ u. packed.bit_of sums (8 * t + u)) (λ u. accumulate (bit_at xs) (8 * (i + t) + u)) 8 (λ u k.
              sums_bit (8 * t + u) (omega arith) ∙ ap (accumulate (bit_at xs)) (omega arith)));
          before = let e : 8 * (i + 8) ≡ suc (8 * i + 63) = omega arith in rw e (omega (arith, sums_bit 63 (omega arith)));
        }
