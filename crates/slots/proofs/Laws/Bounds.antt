-- The sizes of a plan's numbers, so that sums and products of them fit 64 bits and slots lie within the buffer; and what crates `channel` and `pulses` ask of them.
use mathlib.Core.Path.{◌≡◌, sym, ap, ◌∙◌}
use mathlib.Core.List.{List}
use Prim.Native.Nat.{ℕ, ◌+◌, ◌-◌, ◌*◌, ◌/◌, ◌%◌, ◌^◌, ◌≤◌, ◌<◌}
use native.Mathlib.Omega.{arith}
use native.Mathlib.Nat.{le_refl, mul-le-mul, mul_assoc, mul_comm, mul-one}
use lib.ListN.{length}
use lib.Pow.{pow_mono, pow_pos}
use Rattle.sizes.specs.Sizes.{word_bits}
use Rattle.channel.specs.Inner.{Placing}
use Rattle.channel.proofs.Laws.Symbols as symbols
use Rattle.pulses.specs.Inner.{Order, Slots}
use Rattle.plan.specs.declared.Plan.{Plan}
use Rattle.plan.specs.Inner.{Fine, slot_bytes}
use Rattle.plan.specs.Plan.{sent_count}
use Rattle.channel.specs.Channel.{total, layout_symbols}

pub record Bounds (p : Plan) : Type 0 where
  pub copies_least : 1 ≤ p.copies
  pub copies_most : p.copies ≤ 32
  pub symbols_least : 1 ≤ p.layout.symbols
  pub symbols_most : p.layout.symbols ≤ 7560
  pub order_least : 1 ≤ p.order
  pub order_most : p.order ≤ 256
  pub group_least : p.order ≤ p.group
  pub group_two : 2 ≤ p.group
  pub group_most : p.group ≤ 320
  pub markers_most : p.layout.markers ≤ 32
  pub back_most : p.layout.step * p.layout.rows ≤ 32768
  pub places : p.layout.lines * p.layout.symbols ≤ layout_symbols p.layout
  pub words : total p.layout ≤ p.layout.lines * p.layout.symbols
  pub symbols_bound : layout_symbols p.layout < 2 ^ 23
  pub sent_bound : sent_count p < 2 ^ 28
  pub slots_bound : sent_count p * p.group < 2 ^ 36

-- 32 copies of fewer than 2^31 slots
sent_most : (p : Plan) → Fine p → sent_count p * p.group < 2 ^ 36
sent_most p fine =
    let n : ℕ = layout_symbols p.layout in
    let e : n * p.copies * p.group ≡ n * p.group * p.copies = mul_assoc n p.copies p.group ∙ ap (λ (v : ℕ). n * v) (mul_comm p.copies p.group) ∙ sym (mul_assoc n p.group p.copies) in
    let one : n * p.group ≤ 2 ^ 31 - 1 = let b = fine.slots_bound in omega arith in
    let all : n * p.group * p.copies ≤ (2 ^ 31 - 1) * 32 = mul-le-mul one fine.copies_most in
    omega arith

pub bounds : (p : Plan) → Fine p → Bounds p
bounds p fine =
    let one : 1 ≤ p.order = rw fine.order_is (pow_pos p.bits) in
    let order : p.order ≤ 256 = let e = fine.order_is in let h : 2 ^ p.bits ≤ 2 ^ 8 = pow_mono fine.bits_most in omega arith in
    let group = fine.group_is in
    let two : 2 ≤ p.group = let l : 2 ^ 2 ≤ 2 ^ p.bits = pow_mono fine.bits_least in let e = fine.order_is in omega arith in
    let size : p.layout.symbols * p.bits ≡ word_bits = fine.symbols_are in
    let few : layout_symbols p.layout ≤ 2 ^ 23 - 1 = let b = fine.symbols_bound in omega arith in
    let copied : sent_count p ≤ (2 ^ 23 - 1) * 32 = mul-le-mul few fine.copies_most in
    record {
      copies_least = fine.copies_least;
      copies_most = fine.copies_most;
      symbols_least = symbols.symbols_least p.bits p.layout size;
      symbols_most = omega (arith, mul-le-mul (le_refl p.layout.symbols) fine.bits_least);
      order_least = one;
      order_most = order;
      group_least = omega arith;
      group_two = two;
      group_most = omega arith;
      markers_most = fine.markers_most;
      back_most = mul-le-mul fine.step_most fine.rows_most;
      places = omega arith;
      words = let e = fine.lines_are in omega arith;
      symbols_bound = fine.symbols_bound;
      sent_bound = omega arith;
      slots_bound = sent_most p fine;
    }

-- ---- for the crates below

pub placing : (p : Plan) → Fine p → (x r : ℕ) → r ≡ x % p.layout.rows → Placing p.layout.rows p.layout.step (total p.layout) x r
placing p fine x r e =
    let k = bounds p fine in
    record { rows_least = fine.rows_least; rows_most = fine.rows_most; step_most = fine.step_most; total_most = omega arith; remainder = e }

pub shape : (p : Plan) → Fine p → Order p.order p.group
shape p fine = record { bits = p.bits; bits_least = fine.bits_least; bits_most = fine.bits_most; order_is = fine.order_is; group_is = fine.group_is }

-- sent once
pub lies : (p : Plan) → Fine p → p.copies ≡ 1 → (b : List ℕ) → length b ≡ slot_bytes p → Slots p.order p.group (layout_symbols p.layout) b
lies p fine one b long =
    let e : sent_count p ≡ layout_symbols p.layout = ap (λ (k : ℕ). layout_symbols p.layout * k) one ∙ mul-one (layout_symbols p.layout) in
    let room : length b ≡ (layout_symbols p.layout * p.group + 7) / 8 = long ∙ ap (λ (n : ℕ). (n * p.group + 7) / 8) e in
    record { shape = shape p fine; room = omega arith; bound = fine.slots_bound }
