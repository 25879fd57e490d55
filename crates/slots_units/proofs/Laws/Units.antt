-- Forty slots as a number: a symbol's pulses are those of a zero moved on, and symbols are pushed in from below.
use mathlib.Core.Path.{◌≡◌, refl, sym, ap, ap₂, ◌∙◌}
use mathlib.Core.List.{List}
use mathlib.Core.Logic.{⊎_elim}
use Prim.Native.Nat.{ℕ, ◌+◌, ◌-◌, ◌*◌, ◌/◌, ◌%◌, ◌^◌, ◌≤◌, ◌<◌}
use native.Mathlib.Omega.{arith}
use native.Mathlib.Nat.{le_refl, mul-le-mul, mul_assoc, mul_comm, mod-lt, mod-eq_of_lt, add-mod-mod, add-mod_right, add-mul-mod_self_right, add-mul-div_right}
use lib.Arith.{digits_div}
use lib.Bits.{bit_or}
use lib.Dec.{eqb, lit<}
use lib.ListN.{get_or}
use lib.Pow.{high, shl_exact}
use borrow.Author.Tests.{eq-eqb, ne_eqb}
use Rattle.bits.specs.Basics.{bool}
use Rattle.bits.specs.Pack.{val, Bits}
use Rattle.bits.proofs.Laws.Choice.{lt_or_le, eq_or_ne, bool_lt}
use Rattle.bits.proofs.Laws.Pack.{val_lt, val_same, bit_val}
use Rattle.bits.proofs.Laws.Parts.{val_split, val_none, push_some}
use Rattle.slots_units.specs.Inner.{per_forty, row_slot, Zero}

-- ---- one symbol

-- q slots further on a zero's pulse is at q
again : (group q e : ℕ) → q < group → eqb ((q + e) % group) q ≡ eqb (e % group) 0
again group q e l =
    let pos : 0 < group = omega arith in
    let d : ℕ = e % group in
    let low : d < group = mod-lt e pos in
    let same : (q + e) % group ≡ (q + d) % group = sym (add-mod-mod q e group) in
    ⊎_elim
    (λ (h : d ≡ 0).
    let m : (q + d) % group ≡ q = (let z : q + d ≡ q = omega arith in ap (λ (x : ℕ). x % group) z) ∙ mod-eq_of_lt l in
    eq-eqb ((q + e) % group) q (same ∙ m) ∙ sym (eq-eqb d 0 h))
    (λ (h : d ≡ 0 → ⊥).
    let some : 1 ≤ d = omega arith in
    let other : (q + d) % group ≡ q → ⊥ = ⊎_elim
    (λ (k : q + d < group) z. let m : (q + d) % group ≡ q + d = mod-eq_of_lt k in omega arith)
    (λ (k : group ≤ q + d) z.
    let e1 : q + d ≡ q + d - group + group = omega arith in
    let small : q + d - group < group = omega arith in
    let m : (q + d) % group ≡ q + d - group = ap (λ (x : ℕ). x % group) e1 ∙ add-mod_right (q + d - group) group ∙ mod-eq_of_lt small in
    omega arith)
    (lt_or_le (q + d) group) in
    ne_eqb ((q + e) % group) q (λ z. other (sym same ∙ z)) ∙ sym (ne_eqb d 0 h))
    (eq_or_ne d 0)

-- shifted down by q, the number of a zero is that of q
pub zero_moved : (group width q : ℕ) → q < group → group ≤ width → val (λ t. bool (eqb (t % group) 0)) width / 2 ^ q ≡ val (λ t. bool (eqb (t % group) q)) width
zero_moved group width q l room =
    let z : ℕ → ℕ = λ t. bool (eqb (t % group) 0) in
    let h : ℕ → ℕ = λ t. bool (eqb (t % group) q) in
    let n : ℕ = width - q in
    let up : width ≡ n + q = omega arith in
    let on : width ≡ q + n = omega arith in
    let none : val h q ≡ 0 = val_none h q (λ i k. let low : i < group = omega arith in let m : i % group ≡ i = mod-eq_of_lt low in ap bool (ne_eqb (i % group) q (λ y. omega arith))) in
    let rest : val (λ t. h (q + t)) n ≡ val z n = val_same (λ t. h (q + t)) z n (λ t k. ap bool (again group q t l)) in
    ap (λ (k : ℕ). val z k / 2 ^ q) up
    ∙ ap (λ (v : ℕ). v / 2 ^ q) (val_split z n q)
    ∙ high (val z n) q (val_lt (λ t. z (n + t)) (λ t. bool_lt (eqb ((n + t) % group) 0)) q)
    ∙ sym (ap (val h) on ∙ val_split h q n ∙ ap₂ (λ (a b : ℕ). a * 2 ^ n + b) none rest ∙ omega arith)

-- a zero in one copy more
lone : (n : ℕ) → val (λ t. bool (eqb t 0)) (1 + n) ≡ 1 * 2 ^ n
unfolding val
lone n =
    val_split (λ t. bool (eqb t 0)) 1 n
    ∙ ap (λ (v : ℕ). 1 * 2 ^ n + v) (val_none (λ t. bool (eqb (1 + t) 0)) n (λ t l. ap bool (ne_eqb (1 + t) 0 (λ z. omega arith))))
    ∙ omega arith

pub zero_more : (group c v : ℕ) → 1 ≤ group → c * group + group ≤ 64 → v ≡ val (λ t. bool (eqb (t % group) 0)) (c * group)
    → bit_or (v * 2 ^ group % 2 ^ 64) (1 * 2 ^ (group - 1) % 2 ^ 64) ≡ val (λ t. bool (eqb (t % group) 0)) ((c + 1) * group)
zero_more group c v pos room e =
    let z : ℕ → ℕ = λ t. bool (eqb (t % group) 0) in
    let on : c * group + group ≡ (c + 1) * group = omega arith in
    let size : group ≡ 1 + (group - 1) = omega arith in
    let small : 1 + (group - 1) ≤ 64 = omega arith in
    let last : val (λ t. z (c * group + t)) group ≡ 1 * 2 ^ (group - 1) % 2 ^ 64 =
    val_same (λ t. z (c * group + t)) (λ t. bool (eqb t 0)) group (λ t l.
    let comm : c * group + t ≡ t + c * group = omega arith in
    ap (λ (x : ℕ). bool (eqb x 0)) (ap (λ (x : ℕ). x % group) comm ∙ add-mul-mod_self_right t c group ∙ mod-eq_of_lt l))
    ∙ ap (val (λ t. bool (eqb t 0))) size
    ∙ lone (group - 1)
    ∙ sym (shl_exact 1 (group - 1) 64 (lit< tt) small) in
    ap₂ (λ (x y : ℕ). bit_or (x * 2 ^ group % 2 ^ 64) y) e (sym last)
    ∙ push_some z (λ t. bool_lt (eqb (t % group) 0)) (c * group) group room
    ∙ ap (val z) on

-- ---- symbol after symbol

pub slot_bits : (group width : ℕ) (row : List ℕ) (i : ℕ) → Bits (row_slot group width row i)
slot_bits group width row i t = bool_lt (eqb (t % group) (get_or row (i + t / width) 0))

-- whole symbols do not change a slot's place in its group
pub whole_groups : (copies group width n t : ℕ) → width ≡ copies * group → (n * width + t) % group ≡ t % group
whole_groups copies group width n t e =
    let d : n * width + t ≡ t + n * copies * group = (let c : n * width + t ≡ t + n * width = omega arith in c) ∙ ap (λ (x : ℕ). t + x) (ap (λ (w : ℕ). n * w) e ∙ sym (mul_assoc n copies group)) in
    ap (λ (x : ℕ). x % group) d ∙ add-mul-mod_self_right t (n * copies) group

group_fits : (copies group width num : ℕ) → Zero copies group width num → group ≤ width
group_fits copies group width num z =
    let m : 1 * group ≤ copies * group = mul-le-mul z.copies_least (le_refl group) in
    let e = z.whole in
    omega arith

pub width_some : (copies group width num : ℕ) → Zero copies group width num → 1 ≤ width
width_some copies group width num z = let m = group_fits copies group width num z in let p = z.group_least in omega arith

pub unit_more : (copies group width num : ℕ) (row : List ℕ) (i j q v : ℕ) → Zero copies group width num → q ≡ get_or row (i + j) 0 → q < group → j * width + width ≤ 64
    → v ≡ val (row_slot group width row i) (j * width) → bit_or (v * 2 ^ width % 2 ^ 64) (num / 2 ^ q) ≡ val (row_slot group width row i) ((j + 1) * width)
unit_more copies group width num row i j q v z is l room e =
    let f : ℕ → ℕ = row_slot group width row i in
    let on : j * width + width ≡ (j + 1) * width = omega arith in
    let next : num / 2 ^ q ≡ val (λ t. f (j * width + t)) width =
    ap (λ (x : ℕ). x / 2 ^ q) z.number ∙ zero_moved group width q l (group_fits copies group width num z)
    ∙ val_same (λ t. bool (eqb (t % group) q)) (λ t. f (j * width + t)) width (λ t k.
    ap₂ (λ (x y : ℕ). bool (eqb x y)) (sym (whole_groups copies group width j t z.whole)) (is ∙ ap (λ (x : ℕ). get_or row (i + x) 0) (sym (digits_div j k)))) in
    ap₂ (λ (x y : ℕ). bit_or (x * 2 ^ width % 2 ^ 64) y) e next
    ∙ push_some f (slot_bits group width row i) (j * width) width room
    ∙ ap (val f) on

-- forty slots further on are the next symbols
pub unit_slot : (copies group width per : ℕ) (row : List ℕ) (from u t : ℕ) → width ≡ copies * group → 1 ≤ width → per * width ≡ 40
    → row_slot group width row (from + per * u) t ≡ row_slot group width row from (8 * (5 * u) + t)
unit_slot copies group width per row from u t e pos all =
    let d : 8 * (5 * u) + t ≡ u * per * width + t = (let a : 8 * (5 * u) + t ≡ u * 40 + t = omega arith in a) ∙ ap (λ (x : ℕ). x + t) (ap (λ (x : ℕ). u * x) (sym all) ∙ sym (mul_assoc u per width)) in
    let q : (u * per * width + t) / width ≡ per * u + t / width =
    (let c : u * per * width + t ≡ t + u * per * width = omega arith in ap (λ (x : ℕ). x / width) c)
    ∙ add-mul-div_right t (u * per) pos ∙ (let m = mul_comm u per in let s : t / width + u * per ≡ per * u + t / width = omega arith in s) in
    sym (ap (row_slot group width row from) d
    ∙ ap₂ (λ (x y : ℕ). bool (eqb x (get_or row y 0))) (whole_groups copies group width (u * per) t e) (ap (λ (x : ℕ). from + x) q ∙ (let s : from + (per * u + t / width) ≡ from + per * u + t / width = omega arith in s)))

-- and a bit of the number is a slot
pub unit_bit : (copies group width per : ℕ) (row : List ℕ) (from u v t : ℕ) → width ≡ copies * group → 1 ≤ width → per * width ≡ 40
    → v ≡ val (row_slot group width row (from + per * u)) (per * width) → t < 40 → v / 2 ^ (39 - t) % 2 ≡ row_slot group width row from (8 * (5 * u) + t)
unit_bit copies group width per row from u v t e pos all is l =
    let f : ℕ → ℕ = row_slot group width row (from + per * u) in
    ap (λ (x : ℕ). x / 2 ^ (39 - t) % 2) (is ∙ ap (val f) all)
    ∙ bit_val f (slot_bits group width row (from + per * u)) (39 - t) t 40 (omega arith)
    ∙ unit_slot copies group width per row from u t e pos all

-- ---- the widths

pub per_five : (width : ℕ) → width ≡ 5 → 8 ≡ per_forty width
unfolding per_forty
per_five width e = sym (rw (eq-eqb width 5 e) refl)

pub per_ten : (width : ℕ) → width ≡ 10 → 4 ≡ per_forty width
unfolding per_forty
per_ten width e = sym (ap per_forty e)

pub per_twenty : (width : ℕ) → width ≡ 20 → 2 ≡ per_forty width
unfolding per_forty
per_twenty width e = sym (ap per_forty e)

pub per_all : (width : ℕ) → width ≡ 40 → 1 ≡ per_forty width
unfolding per_forty
per_all width e = sym (ap per_forty e)

pub per_none : (width : ℕ) → (width ≡ 5 → ⊥) → (width ≡ 10 → ⊥) → (width ≡ 20 → ⊥) → (width ≡ 40 → ⊥) → 0 ≡ per_forty width
unfolding per_forty
per_none width a b c d = sym (rw (ne_eqb width 5 a, ne_eqb width 10 b, ne_eqb width 20 c, ne_eqb width 40 d) refl)

-- where they are laid at once, forty slots are whole symbols
pub record Whole (width : ℕ) : Type 0 where
  pub forty : per_forty width * width ≡ 40
  pub width_most : width ≤ 40
  pub per_most : per_forty width ≤ 8

pub per_whole : (width : ℕ) → 1 ≤ per_forty width → Whole width
unfolding per_forty
per_whole width some =
    ⊎_elim (λ (a : width ≡ 5). rw a (record { forty = refl; width_most = omega arith; per_most = omega arith }))
    (λ (na : width ≡ 5 → ⊥). ⊎_elim (λ (b : width ≡ 10). rw b (record { forty = refl; width_most = omega arith; per_most = omega arith }))
    (λ (nb : width ≡ 10 → ⊥). ⊎_elim (λ (d : width ≡ 20). rw d (record { forty = refl; width_most = omega arith; per_most = omega arith }))
    (λ (nd : width ≡ 20 → ⊥). ⊎_elim (λ (e : width ≡ 40). rw e (record { forty = refl; width_most = omega arith; per_most = omega arith }))
    (λ (ne : width ≡ 40 → ⊥). let none = per_none width na nb nd ne in absurd (omega arith))
    (eq_or_ne width 40))
    (eq_or_ne width 20))
    (eq_or_ne width 10))
    (eq_or_ne width 5)

pub per_last : (width : ℕ) → 1 ≤ per_forty width → (width ≡ 5 → ⊥) → (width ≡ 10 → ⊥) → (width ≡ 20 → ⊥) → width ≡ 40
per_last width some a b c =
    ⊎_elim (λ (e : width ≡ 40). e) (λ (d : width ≡ 40 → ⊥). let none = per_none width a b c d in absurd (omega arith)) (eq_or_ne width 40)
