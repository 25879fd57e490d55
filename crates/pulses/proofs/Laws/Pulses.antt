-- Laws of the slots of symbols, and of their return: written slots pass question 9 and give their symbols, and slots that pass are those of their symbols.
use mathlib.Core.Path.{◌≡◌, refl, sym, ap, ◌∙◌}
use mathlib.Core.Bool.{true}
use mathlib.Core.List.{List}
use mathlib.Core.Logic.{⊎_elim}
use Prim.Native.Nat.{ℕ, ◌+◌, ◌*◌, ◌/◌, ◌%◌, ◌≤◌, ◌<◌}
use native.Mathlib.Omega.{arith}
use native.Mathlib.Nat.{mod-lt, div-add-mod', div-lt_iff_lt-mul}
use lib.Arith.{digits_lt, digits_div, digits_mod}
use lib.Dec.{ltb, eqb}
use lib.ListN.{length}
use borrow.Author.Tests.{lt-ltb, le-ltb, eq-eqb, eqb-true}
use Rattle.bits.specs.Basics.{pick, bool, up_to}
use Rattle.bits.proofs.Laws.Choice.{bool_lt, lt_or_le}
use Rattle.bits.proofs.Laws.First.{found_none, none_found}
use Rattle.bits.specs.Pack.{bit_at, Bits, Bytes, clear_at, first_set}
use Rattle.bits.proofs.Laws.Pack.{length_bytes, bytes_are, bit_bytes, bytes_made, bytes_same}
use Rattle.pulses.proofs.Laws.Groups.{Passed, group_made, tells}
use Rattle.pulses.specs.Pulses.{bytes_for, slot_bit, slots_of, spare_empty, symbol_in}

-- the same symbols give the same slots
pub slots_same : (group n : ℕ) (f g : ℕ → ℕ) → ((s : ℕ) → f s ≡ g s) → slots_of group n f ≡ slots_of group n g
unfolding slots_of slot_bit
slots_same group n f g h =
    bytes_same (bytes_for group n) (slot_bit group n f) (slot_bit group n g) (λ x l.
    ap (λ (v : ℕ). pick (ltb (x / group) n) (bool (eqb (x % group) v)) 0) (h (x / group)))

module _ (group n : ℕ) (f : ℕ → ℕ) where
  -- slot r of group s
  pub slot_in : (s r : ℕ) → r < group → s < n → slot_bit group n f (s * group + r) ≡ bool (eqb r (f s))
  unfolding slot_bit
  slot_in s r h l = rw (digits_div s h, digits_mod s h, lt-ltb s n l) refl

  -- after the last group
  pub slot_past : (x : ℕ) → n ≤ x / group → slot_bit group n f x ≡ 0
  unfolding slot_bit
  slot_past x h = rw (le-ltb (x / group) n h) refl

  pub slot_bits : Bits (slot_bit group n f)
  unfolding slot_bit
  slot_bits x =
      ⊎_elim
      (λ (l : x / group < n). rw (lt-ltb (x / group) n l) (bool_lt (eqb (x % group) (f (x / group)))))
      (λ (l : n ≤ x / group). rw (le-ltb (x / group) n l) (omega arith))
      (lt_or_le (x / group) n)

  pub length_slots : length (slots_of group n f) ≡ bytes_for group n
  unfolding slots_of
  length_slots = length_bytes (bytes_for group n) (slot_bit group n f)

  pub bytes_slots : Bytes (slots_of group n f)
  unfolding slots_of
  bytes_slots = bytes_are (bytes_for group n) (slot_bit group n f) slot_bits

  -- ---- written slots
  module _ (order : ℕ) (least : 1 ≤ order) (big : order ≤ group) where
    pub slots_read : (s : ℕ) → s < n → f s < order → symbol_in order group (slots_of group n f) s ≡ f s
    unfolding slots_of
    slots_read s l small =
        group_made order group big (slots_of group n f) s (f s) record {
          small = small;
          slot = λ r h.
              let k : s * group + r < n * group = digits_lt l h in
              bit_bytes (bytes_for group n) (slot_bit group n f) slot_bits (s * group + r) (omega arith) ∙ slot_in s r h l;
        }

    pub pass_spare : spare_empty group n (slots_of group n f) ≡ true
    unfolding spare_empty slots_of first_set
    pass_spare =
        let b : List ℕ = slots_of group n f in
        let pos : 0 < group = omega arith in
        let long : length b ≡ bytes_for group n = length_bytes (bytes_for group n) (slot_bit group n f) in
        eq-eqb (up_to (clear_at b) (n * group) (8 * length b)) (8 * length b)
        (found_none (clear_at b) (n * group) (8 * length b) (omega arith) (λ x h l.
        let q : n ≤ x / group = ⊎_elim (λ (a : x / group < n). let c : x < n * group = (div-lt_iff_lt-mul pos).0 a in absurd (omega arith)) (λ (a : n ≤ x / group). a) (lt_or_le (x / group) n) in
        eq-eqb (bit_at b x) 0 (bit_bytes (bytes_for group n) (slot_bit group n f) slot_bits x (omega arith) ∙ slot_past x q)))

    -- ---- slots that pass, with these symbols
    pub slots_made : (b : List ℕ) → length b ≡ bytes_for group n → Bytes b → spare_empty group n b ≡ true → Passed order group n b → ((s : ℕ) → s < n → symbol_in order group b s ≡ f s) → b ≡ slots_of group n f
    unfolding slots_of spare_empty first_set
    slots_made b long bytes spare passed same =
        bytes_made (bytes_for group n) (slot_bit group n f) b long bytes (λ x l.
        let pos : 0 < group = omega arith in
        let d : x / group * group + x % group ≡ x = div-add-mod' x group in
        let r : x % group < group = mod-lt x pos in
        ⊎_elim
        (λ (h : x / group < n).
        ap (bit_at b) (sym d)
        ∙ tells order group n big b passed (x / group) (x % group) h r
        ∙ ap (λ (q : ℕ). bool (eqb (x % group) q)) (same (x / group) h)
        ∙ sym (slot_in (x / group) (x % group) r h)
        ∙ ap (slot_bit group n f) d)
        (λ (h : n ≤ x / group).
        let a : n * group ≤ x = ⊎_elim (λ (c : x < n * group). let q : x / group < n = (div-lt_iff_lt-mul pos).1 c in absurd (omega arith)) (λ (c : n * group ≤ x). c) (lt_or_le x (n * group)) in
        let none : up_to (clear_at b) (n * group) (8 * length b) ≡ 8 * length b = eqb-true (up_to (clear_at b) (n * group) (8 * length b)) (8 * length b) spare in
        eqb-true (bit_at b x) 0 (none_found (clear_at b) (n * group) (8 * length b) (omega arith) none x a (omega arith))
        ∙ sym (slot_past x h))
        (lt_or_le (x / group) n))
