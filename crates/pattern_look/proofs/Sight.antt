-- What a look shows; and two of them side by side: where their sum has its first one, they differ first.
use mathlib.Core.Path.{◌≡◌, sym, ap, ap₂, ◌∙◌}
use mathlib.Core.List.{List}
use mathlib.Core.Logic.{⊎_elim}
use Prim.Native.Nat.{ℕ, ◌+◌, ◌-◌, ◌*◌, ◌/◌, ◌%◌, ◌^◌, ◌≤◌, ◌<◌, min}
use native.Mathlib.Omega.{arith}
use lib.ListN.{length}
use lib.Bits.{bit_xor, xor_lt}
use Rattle.bits.proofs.Laws.Choice.{lt_or_le}
use Rattle.bits.proofs.Laws.Sum.{xor_digit, xor_bit, xor_same, same_xor}
use Rattle.bits.specs.Pack.{val, bit_at, cut, Bits}
use Rattle.bits.proofs.Laws.Pack.{val_lt, val_same, val_bits, bit_val, bit_lt, cut_in, cut_bits, cut_same}
use Rattle.bits.proofs.Laws.Parts.{val_shift}
use Rattle.bits.specs.Inner.{Leads, bits_from, lesser}
use Rattle.bits.proofs.Laws.Leading.{first_one, no_one}
use Rattle.bits.proofs.Laws.Window.{lesser_le, lesser_min, lesser_some}
use Rattle.pattern_look.specs.Inner.{shows, Agrees}

-- ---- one look

pub shows_is : (n y : ℕ) → 8 ≤ n → y < 8 * n → (1 ≤ shows n y) × (shows n y ≤ 64)
unfolding shows
shows_is n y h l = omega (arith, lesser_min (y / 8) (n - 8))

-- eight bytes, shifted up to slot y
pub looked : (b : List ℕ) (y i : ℕ) → 8 ≤ length b → y < 8 * length b → i ≡ lesser (y / 8) (length b - 8)
    → val (λ t. bit_at b (8 * i + t)) 64 * 2 ^ (y - 8 * i) % 2 ^ 64 ≡ val (cut (shows (length b) y) (bits_from b y)) 64
unfolding shows
looked b y i h l e =
    let m : i ≡ min (y / 8) (length b - 8) = e ∙ lesser_min (y / 8) (length b - 8) in
    let r : ℕ = y - 8 * i in
    let f : ℕ → ℕ = λ t. bit_at b (8 * i + t) in
    let g : ℕ → ℕ = λ t. f (r + t) in
    let w : 64 - r ≡ shows (length b) y = ap (λ (j : ℕ). 64 - (y - 8 * j)) e in
    val_shift f (λ t. bit_lt b (8 * i + t)) r 64 (omega arith)
    ∙ val_same (cut (64 - r) g) (cut (shows (length b) y) (bits_from b y)) 64 (λ k u.
    ap (λ (n : ℕ). cut n g k) w ∙ cut_same (shows (length b) y) g (bits_from b y) (λ t v. ap (bit_at b) (omega arith)) k)

-- ---- two

-- the sum of two numbers has the sums of their bits
sum_val : (f g : ℕ → ℕ) → Bits f → Bits g → bit_xor (val f 64) (val g 64) ≡ val (λ k. bit_xor (f k) (g k)) 64
sum_val f g hf hg =
    let v : ℕ = bit_xor (val f 64) (val g 64) in
    sym (val_bits v 64 (xor_lt 64 (val f 64) (val g 64) (val_lt f hf 64) (val_lt g hg 64)))
    ∙ val_same (λ k. v / 2 ^ (64 - 1 - k) % 2) (λ k. bit_xor (f k) (g k)) 64 (λ k l.
    xor_digit (val f 64) (val g 64) (64 - 1 - k)
    ∙ ap₂ bit_xor (bit_val f hf (64 - 1 - k) k 64 (omega arith)) (bit_val g hg (64 - 1 - k) k 64 (omega arith)))

-- the lesser of two is 0 only where the first is, if the second is not
zero_lesser : (x y : ℕ) → 1 ≤ y → lesser x y ≡ 0 → x ≡ 0
zero_lesser x y h e = ⊎_elim (λ (l : x < 1). omega arith) (λ (l : 1 ≤ x). absurd (let s = lesser_some x y l h in omega arith)) (lt_or_le x 1)

-- what one look compares: no more slots than either window shows, and none after the marker's n
pub record Sight (i n w u most : ℕ) : Type 0 where
  pub some : 1 ≤ most
  pub capture : most ≤ w
  pub marker : most ≤ u
  pub fit : i + most ≤ n

pub sight : (i n w u seen most : ℕ) → i < n → 1 ≤ w → 1 ≤ u → seen ≡ lesser w u → most ≡ lesser seen (n - i) → Sight i n w u most
sight i n w u seen most l hw hu es em =
    let a = lesser_le w u in
    let c = lesser_le seen (n - i) in
    let sa : 1 ≤ lesser w u = lesser_some w u hw hu in
    let sc : 1 ≤ lesser seen (n - i) = lesser_some seen (n - i) (omega arith) (omega arith) in
    record { some = omega arith; capture = omega arith; marker = omega arith; fit = omega arith }

-- w slots of the capture are seen, and u of the marker
module _ (b : List ℕ) (y : ℕ) (marker : List ℕ) (i n w u most : ℕ) (look : Sight i n w u most) where
  abbrev seen : ℕ → ℕ
  seen = cut w (bits_from b y)

  abbrev due : ℕ → ℕ
  due = cut u (bits_from marker i)

  seen_bits : Bits seen
  seen_bits = cut_bits w (bits_from b y) (λ k. bit_lt b (y + k))

  due_bits : Bits due
  due_bits = cut_bits u (bits_from marker i) (λ k. bit_lt marker (i + k))

  sum_bits : Bits (λ k. bit_xor (seen k) (due k))
  sum_bits k = xor_bit (seen k) (due k) (seen_bits k) (due_bits k)

  same_here : (k : ℕ) → k < most → bit_xor (seen k) (due k) ≡ 0 → bit_at b (y + k) ≡ bit_at marker (i + k)
  same_here k l e =
      let a = look.capture in
      let c = look.marker in
      sym (cut_in w (bits_from b y) k (omega arith)) ∙ same_xor (seen k) (due k) e ∙ cut_in u (bits_from marker i) k (omega arith)

  -- no difference
  pub look_all : most ≤ 64 → bit_xor (val seen 64) (val due 64) ≡ 0 → Agrees b y marker i n most
  look_all h e =
      let none = no_one (λ k. bit_xor (seen k) (due k)) sum_bits (sym (sum_val seen due seen_bits due_bits) ∙ e) in
      record { room = look.fit; same = λ k l. same_here k l (none k (omega arith)); stop = λ z q. let s = look.some in omega arith }

  -- the first difference is r slots on
  pub look_some : (r : ℕ) → Leads 64 (bit_xor (val seen 64) (val due 64)) r → Agrees b y marker i n (lesser r most)
  look_some r l =
      let one = first_one (λ k. bit_xor (seen k) (due k)) sum_bits r (rw (sum_val seen due seen_bits due_bits) at l) in
      let h = lesser_le r most in
      record {
        room = let f = look.fit in omega arith;
        same = λ k a. same_here k (omega arith) (one.0 k (omega arith));
        stop = λ z q.
            let none : r ≡ 0 = zero_lesser r most look.some z in
            let s = look.some in
            let a = look.capture in
            let c = look.marker in
            let differ : bit_xor (seen 0) (due 0) ≡ 1 = rw none at one.1 in
            let at : bit_at b (y + 0) ≡ bit_at marker (i + 0) = ap (bit_at b) (omega arith) ∙ q ∙ ap (bit_at marker) (omega arith) in
            let same : bit_xor (seen 0) (due 0) ≡ 0 =
            xor_same (seen 0) (due 0) (cut_in w (bits_from b y) 0 (omega arith) ∙ at ∙ sym (cut_in u (bits_from marker i) 0 (omega arith))) in
            omega arith;
      }
