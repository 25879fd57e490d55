-- The places of one residue laid: they have one delay, so that their symbols are as far apart as they are.
use mathlib.Core.Path.{◌≡◌, refl, sym, ap, ◌∙◌}
use mathlib.Core.Bool.{Bool}
use mathlib.Core.List.{List}
use mathlib.Core.Logic.{◌⊎◌, inl, inr, ⊎_elim}
use Prim.Native.Nat.{ℕ, ◌+◌, ◌-◌, ◌*◌, ◌/◌, ◌%◌, ◌^◌, ◌≤◌, ◌<◌}
use native.Mathlib.Omega.{arith}
use native.Mathlib.Nat.{le_refl, mul-le-mul, mod-lt, mul-mod_left, div-add-mod', add-mul-mod_self_right}
use lib.Bits.{bit_xor, xor_zero_l}
use lib.Dec.{ltb}
use lib.ListN.{get_or}
use borrow.Author.Tests.{lt-ltb, le-ltb}
use Rattle.bits.specs.Basics.{pick}
use Rattle.bits.specs.Pack.{bit_at}
use Rattle.bits.proofs.Laws.Choice.{lt_or_le, eq_or_ne}
use Rattle.channel.proofs.Laws.Places.{place_on, place_back, same_apart}
use Rattle.channel.proofs.Laws.Symbols.{data_inside}
use Rattle.channel.specs.Channel.{total, place}
use Rattle.channel.specs.Inner.{delay, Puts}
use Rattle.plan.specs.declared.Plan.{Plan}
use Rattle.plan.specs.Inner.{Fine}
use Rattle.sizes.specs.Sizes.{word_bits}
use Rattle.slots.proofs.Laws.Bounds.{bounds}
use Rattle.slots_residues.specs.Inner.{Room, Scattered, Shown, Laid, before, reached}
use Rattle.slots_residues.proofs.Laws.Bytes.{mod_part}

-- what laying a symbol asks for
pub puts : (p : Plan) → Fine p → (words : List ℕ) (t q : ℕ) → t < total p.layout → q < p.order → Room p words → Puts t p.bits q words
puts p fine words t q hit small room =
    let d : p.bits * t + p.bits ≤ p.layout.words * word_bits = data_inside p.bits p.layout fine.symbols_are t hit in
    let z = bounds p fine in
    let least = fine.bits_least in
    record {
      bits_least = omega arith;
      bits_most = fine.bits_most;
      small = let e = fine.order_is in omega arith;
      bound = omega arith;
      room = omega arith;
    }

-- ---- what is done

reached_below : (n r x y z : ℕ) → z % n < r → reached n r x y z ≡ ltb z y
unfolding reached
reached_below n r x y z l = rw (lt-ltb (z % n) r l) refl

reached_other : (n r x y z : ℕ) → r ≤ z % n → reached n r x y z ≡ ltb z x
unfolding reached
reached_other n r x y z l = rw (le-ltb (z % n) r l) refl

module _ (p : Plan) (at : ℕ → ℕ) where
  laid_same : (f g : ℕ → Bool) (words : List ℕ) → ((z : ℕ) → f z ≡ g z) → Laid p at f words → Laid p at g words
  laid_same f g words e l =
      record { right = λ y k. l.right y k ∙ ap (λ (t : Bool). pick t (at (place p.layout (y / p.bits)) / 2 ^ (p.bits - 1 - y % p.bits) % 2) 0) (e (place p.layout (y / p.bits))) }

  -- before the first residue, and after the last
  pub laid_begun : (n x y : ℕ) (words : List ℕ) → Laid p at (before x) words → Laid p at (reached n 0 x y) words
  laid_begun n x y words = laid_same (before x) (reached n 0 x y) words (λ z. sym (reached_other n 0 x y z (omega arith)))

  pub laid_ended : (n r x y : ℕ) (words : List ℕ) → 1 ≤ n → n ≤ r → Laid p at (reached n r x y) words → Laid p at (before y) words
  laid_ended n r x y words least all = laid_same (reached n r x y) (before y) words (λ z. let l : z % n < n = mod-lt z least in reached_below n r x y z (omega arith))

-- ---- one residue

module _ (p : Plan) (fine : Fine p) (n : ℕ) (least : 1 ≤ n) (whole : n % p.layout.rows ≡ 0) where
  -- places that are the same modulo n have the same delay
  same_delay : (y z : ℕ) → y % n ≡ z % n → delay p.layout (y % p.layout.rows) ≡ delay p.layout (z % p.layout.rows)
  same_delay y z e =
      ap (delay p.layout) (sym (mod_part n p.layout.rows y whole) ∙ ap (λ (v : ℕ). v % p.layout.rows) e ∙ mod_part n p.layout.rows z whole)

  further : (y j : ℕ) → j % n ≡ 0 → (y + j) % n ≡ y % n
  further y j e =
      let d = div-add-mod' j n in
      let s : y + j ≡ y + j / n * n = omega arith in
      ap (λ (v : ℕ). v % n) s ∙ add-mul-mod_self_right y (j / n) n

  apart : (y z : ℕ) → y % n ≡ z % n → y ≤ z → (z - y) % n ≡ 0
  apart y z e l =
      let dy = div-add-mod' y n in
      let dz = div-add-mod' z n in
      let up : y / n ≤ z / n = ⊎_elim
      (λ (a : z / n < y / n). let k : (z / n + 1) * n ≤ y / n * n = mul-le-mul (let q : z / n + 1 ≤ y / n = omega arith in q) (le_refl n) in let m : z % n < n = mod-lt z least in absurd (omega arith))
      (λ (a : y / n ≤ z / n). a) (lt_or_le (z / n) (y / n)) in
      let k : z / n ≡ y / n + (z / n - y / n) = omega arith in
      let c : z / n * n ≡ (y / n + (z / n - y / n)) * n = ap (λ (v : ℕ). v * n) k in
      let s : z - y ≡ (z / n - y / n) * n = omega arith in
      ap (λ (v : ℕ). v % n) s ∙ mul-mod_left (z / n - y / n) n

  -- where every place is hit, the delay of residue r is over
  pub early : (x r first late : ℕ) → delay p.layout (p.layout.rows - 1) ≤ x → x ≤ first → late ≡ delay p.layout (r % p.layout.rows) → late ≤ first
  early x r first late begun low is =
      let m : r % p.layout.rows < p.layout.rows = mod-lt r fine.rows_least in
      let k : delay p.layout (r % p.layout.rows) ≤ delay p.layout (p.layout.rows - 1) = mul-le-mul (let q : r % p.layout.rows ≤ p.layout.rows - 1 = omega arith in q) (le_refl (p.layout.step * p.layout.rows)) in
      omega arith

  -- residue r, whose first place this is
  module _ (at : ℕ → ℕ) (row : List ℕ) (from d x : ℕ) (begun : delay p.layout (p.layout.rows - 1) ≤ x) (shown : Shown at row from d x)
      (r first late : ℕ) (res : first % n ≡ r) (low : x ≤ first) (near : first < x + n) (is : late ≡ delay p.layout (r % p.layout.rows)) where
    late_is : delay p.layout (first % p.layout.rows) ≡ late
    late_is = ap (delay p.layout) (sym (mod_part n p.layout.rows first whole) ∙ ap (λ (v : ℕ). v % p.layout.rows) res) ∙ sym is

    stands : (j : ℕ) → j % n ≡ 0 → place p.layout (first - late + j) ≡ first + j
    stands j z =
        let e : delay p.layout ((first + j) % p.layout.rows) ≡ late = same_delay (first + j) first (further first j z) ∙ late_is in
        let l = early x r first late begun low is in
        place_back p.layout (first + j) (first - late + j) (omega arith)

    among : (z : ℕ) → ((z % n ≡ r) × (x ≤ z) × (z < x + d)) ⊎ (z % n ≡ r → x ≤ z → z < x + d → ⊥)
    among z =
        ⊎_elim
        (λ (a : z % n ≡ r). ⊎_elim
        (λ (b : z < x). inr (λ c e f. omega arith))
        (λ (b : x ≤ z). ⊎_elim (λ (c : z < x + d). inl (a, b, c)) (λ (c : x + d ≤ z). inr (λ e f g. omega arith)) (lt_or_le z (x + d)))
        (lt_or_le z x))
        (λ (a : z % n ≡ r → ⊥). inr (λ c e f. a c))
        (eq_or_ne (z % n) r)

    -- its other places are done or not, as they were
    as_before : (z : ℕ) → (z % n ≡ r → x ≤ z → z < x + d → ⊥) → reached n r x (x + d) z ≡ reached n (r + 1) x (x + d) z
    as_before z out =
        let y : ℕ = x + d in
        ⊎_elim
        (λ (a : z % n ≡ r).
        reached_other n r x y z (omega arith)
        ∙ ⊎_elim
        (λ (b : z < x). let c : z < y = omega arith in lt-ltb z x b ∙ sym (lt-ltb z y c))
        (λ (b : x ≤ z). ⊎_elim (λ (c : z < y). absurd (out a b c)) (λ (c : y ≤ z). le-ltb z x b ∙ sym (le-ltb z y c)) (lt_or_le z y))
        (lt_or_le z x)
        ∙ sym (reached_below n (r + 1) x y z (omega arith)))
        (λ (a : z % n ≡ r → ⊥). ⊎_elim
        (λ (b : z % n < r). reached_below n r x y z b ∙ sym (reached_below n (r + 1) x y z (omega arith)))
        (λ (b : r ≤ z % n). reached_other n r x y z b ∙ sym (reached_other n (r + 1) x y z (omega arith)))
        (lt_or_le (z % n) r))
        (eq_or_ne (z % n) r)

    pub laid_residue : (before after : List ℕ) → Scattered row (from + (first - x)) (d - (first - x)) n p.bits (first - late) before after
        → Laid p at (reached n r x (x + d)) before → Laid p at (reached n (r + 1) x (x + d)) after
    laid_residue before after s l =
        let y : ℕ = x + d in
        record {
          right = λ u k.
              let g = p.layout in
              let z : ℕ = place g (u / p.bits) in
              let v : ℕ = at z / 2 ^ (p.bits - 1 - u % p.bits) % 2 in
              ⊎_elim
              (λ (a : (z % n ≡ r) × (x ≤ z) × (z < x + d)).
              let on : z ≡ u / p.bits + delay g (z % g.rows) = place_on g (u / p.bits) in
              let off : delay g (z % g.rows) ≡ late = same_delay z first (a.0 ∙ sym res) ∙ late_is in
              let b : x ≤ z = a.1 in
              let c : z < x + d = a.2 in
              let past : first ≤ z = ⊎_elim (λ (h : z < first). let far : z + n ≤ first = same_apart n z first (a.0 ∙ sym res) h in absurd (omega arith)) (λ (h : first ≤ z). h) (lt_or_le z first) in
              let j : ℕ = z - first in
              let over = early x r first late begun low is in
              let symbol : u / p.bits ≡ first - late + j = omega arith in
              let zero : bit_at before u ≡ 0 = l.right u k ∙ rw (reached_other n r x y z (omega arith), le-ltb z x b) refl in
              let back : from + (first - x) + j ≡ from + (z - x) = omega arith in
              let there : x + (z - x) ≡ z = omega arith in
              let value : get_or row (from + (first - x) + j) 0 ≡ at z = ap (λ (i : ℕ). get_or row i 0) back ∙ shown (z - x) (omega arith) ∙ ap at there in
              s.here j u (omega arith) (apart first z (res ∙ sym a.0) past) symbol
              ∙ ap (λ (w : ℕ). bit_xor w (get_or row (from + (first - x) + j) 0 / 2 ^ (p.bits - 1 - u % p.bits) % 2)) zero
              ∙ ap (λ (w : ℕ). bit_xor 0 (w / 2 ^ (p.bits - 1 - u % p.bits) % 2)) value
              ∙ xor_zero_l v
              ∙ sym (rw (reached_below n (r + 1) x y z (omega arith), lt-ltb z y c) refl))
              (λ (out : z % n ≡ r → x ≤ z → z < x + d → ⊥).
              s.others u (λ j h w e.
              let here : z ≡ first + j = ap (place g) e ∙ stands j w in
              out (ap (λ (i : ℕ). i % n) here ∙ further first j w ∙ res) (omega arith) (omega arith))
              ∙ l.right u k
              ∙ ap (λ (t : Bool). pick t v 0) (as_before z out))
              (among z);
        }
