-- Laid slots of whole symbols: the symbols of a run before them and those that follow are as they were.
use mathlib.Core.Path.{◌≡◌, refl, sym, ap, ap₂, ◌∙◌}
use mathlib.Core.List.{List}
use mathlib.Core.Logic.{⊎_elim}
use Prim.Native.Nat.{ℕ, ◌+◌, ◌-◌, ◌*◌, ◌/◌, ◌%◌, ◌^◌, ◌≤◌, ◌<◌}
use native.Mathlib.Omega.{arith}
use native.Mathlib.Nat.{le_refl, mul-le-mul, mul_assoc, mul_comm, add-mul, mod-lt, div-add-mod', add-mul-div_right, div-div-eq-div-mul, div-lt_iff_lt-mul, le-div_iff_mul-le}
use lib.Dec.{eqb}
use lib.ListN.{get_or}
use Rattle.bits.specs.Basics.{bool}
use Rattle.bits.specs.Inner.{Laid}
use Rattle.bits.specs.Pack.{bit_at, Bits, Bytes}
use Rattle.bits.proofs.Laws.Choice.{lt_or_le}
use Rattle.bits.proofs.Laws.Pack.{bit_val, cut_in, cut_past}
use Rattle.channel.specs.Channel.{layout_symbols}
use Rattle.plan.specs.Inner.{Fine, slot_bytes}
use Rattle.plan.specs.Plan.{sent_count}
use Rattle.plan.specs.declared.Plan.{Plan}
use Rattle.slots.proofs.Laws.Bounds.{bounds}
use Rattle.slots.specs.Writing.{symbol_at}
use Rattle.slots_moves.specs.Inner.{Holds, front}
use Rattle.slots_units.specs.Inner.{per_forty, row_slot, Symbols, Split}
use Rattle.slots_units.proofs.Laws.Units.{slot_bits, whole_groups, Whole}

-- a bit of a byte that is as it was
bit_kept : (before after : List ℕ) (x : ℕ) → get_or after (x / 8) 0 ≡ get_or before (x / 8) 0 → bit_at after x ≡ bit_at before x
unfolding bit_at
bit_kept before after x e = ap (λ (v : ℕ). v / 2 ^ (7 - x % 8) % 2) e

-- and of one that is laid
bit_laid : (before after : List ℕ) (at n : ℕ) (f : ℕ → ℕ) → Bits f → Laid before at n f after → (t : ℕ) → t < 8 * n → bit_at after (8 * at + t) ≡ f t
unfolding bit_at
bit_laid before after at n f b laid t l =
    let i : (8 * at + t) / 8 ≡ at + t / 8 = omega arith in
    let r : (8 * at + t) % 8 ≡ t % 8 = omega arith in
    let whole : 8 * (t / 8) + t % 8 ≡ t = omega arith in
    ap₂ (λ (u v : ℕ). get_or after u 0 / 2 ^ (7 - v) % 2) i r
    ∙ ap (λ (v : ℕ). v / 2 ^ (7 - t % 8) % 2) (laid.here (t / 8) (omega arith))
    ∙ bit_val (λ u. f (8 * (t / 8) + u)) (λ u. b (8 * (t / 8) + u)) (7 - t % 8) (t % 8) 8 (omega arith)
    ∙ ap f whole

module _ (p : Plan) (fine : Fine p) (word : ℕ → List ℕ) where
  -- the symbol that slot x belongs to
  symbol_of_lem : (x : ℕ) → x / p.group / p.copies ≡ x / (p.copies * p.group)
  symbol_of_lem x = div-div-eq-div-mul x p.group p.copies ∙ ap (λ (w : ℕ). x / w) (mul_comm p.group p.copies)

  some : 0 < p.copies * p.group
  some =
      let k = bounds p fine in
      let m : 1 * 2 ≤ p.copies * p.group = mul-le-mul k.copies_least k.group_two in
      omega arith

  pub units_held : (row : List ℕ) (first n head k at bytes end : ℕ) (before after : List ℕ) → Symbols p word first n row → head + k ≤ n
      → 8 * at ≡ (first + head) * (p.copies * p.group) → 8 * bytes ≡ k * (p.copies * p.group)
      → Laid before at bytes (row_slot p.group (p.copies * p.group) row head) after → Bytes after
      → Holds p (front p word (first + head)) end before → Holds p (front p word (first + head + k)) end after
  units_held row first n head k at bytes end before after same room begin size laid byte h =
      let w : ℕ = p.copies * p.group in
      let s : ℕ = first + head in
      let f : ℕ → ℕ = symbol_at p word in
      record {
        room = laid.long ∙ h.room;
        bytes = byte;
        bits = λ x l. ⊎_elim
            (λ (a : x < 8 * at).
            let low : x / w < s = (div-lt_iff_lt-mul some).1 (omega arith) in
            let more : x / w < s + k = omega arith in
            bit_kept before after x (laid.earlier (x / 8) (omega arith)) ∙ h.bits x l
            ∙ ap (λ (v : ℕ). bool (eqb (x % p.group) v)) (ap (front p word s) (symbol_of_lem x) ∙ cut_in s f (x / w) low ∙ sym (ap (front p word (s + k)) (symbol_of_lem x) ∙ cut_in (s + k) f (x / w) more)))
            (λ (a : 8 * at ≤ x). ⊎_elim
            (λ (b : x < 8 * at + 8 * bytes).
            let t : ℕ = x - 8 * at in
            let is : 8 * at + t ≡ x = omega arith in
            let digits : x ≡ s * w + t = omega arith in
            let few : t / w < k = (div-lt_iff_lt-mul some).1 (omega arith) in
            let from : x / w ≡ s + t / w = ap (λ (y : ℕ). y / w) (digits ∙ (let c : s * w + t ≡ t + s * w = omega arith in c)) ∙ add-mul-div_right t s some ∙ (let c : t / w + s ≡ s + t / w = omega arith in c) in
            let more : x / w < s + k = omega arith in
            let place : first + (head + t / w) ≡ s + t / w = omega arith in
            ap (bit_at after) (sym is)
            ∙ bit_laid before after at bytes (row_slot p.group w row head) (slot_bits p.group w row head) laid t (omega arith)
            ∙ ap₂ (λ (u v : ℕ). bool (eqb u v))
            (sym (ap (λ (y : ℕ). y % p.group) digits ∙ whole_groups p.copies p.group w s t refl))
            (same (head + t / w) (omega arith) ∙ ap f (place ∙ sym from) ∙ sym (ap (front p word (s + k)) (symbol_of_lem x) ∙ cut_in (s + k) f (x / w) more)))
            (λ (b : 8 * at + 8 * bytes ≤ x).
            let reach : (s + k) * w ≤ x = omega arith in
            let past : s + k ≤ x / w = (le-div_iff_mul-le some).1 reach in
            let early : s ≤ x / w = omega arith in
            bit_kept before after x (laid.later (x / 8) (omega arith)) ∙ h.bits x l
            ∙ ap (λ (v : ℕ). bool (eqb (x % p.group) v)) (ap (front p word s) (symbol_of_lem x) ∙ cut_past s f (x / w) early ∙ sym (ap (front p word (s + k)) (symbol_of_lem x) ∙ cut_past (s + k) f (x / w) past)))
            (lt_or_le x (8 * at + 8 * bytes)))
            (lt_or_le x (8 * at));
      }

-- ---- where the whole forties of a row begin and end

forties : (width units : ℕ) → Whole width → 8 * (5 * units) ≡ units * per_forty width * width
forties width units w =
    (let a : 8 * (5 * units) ≡ units * 40 = omega arith in a) ∙ ap (λ (x : ℕ). units * x) (sym w.forty) ∙ sym (mul_assoc units (per_forty width) width)

-- the sizes of `lay_row`
pub record Ceiling (per first n units head whole : ℕ) : Type 0 where
  pub least : first ≤ units * per
  pub most : units * per < first + per
  pub head_is : units * per ≡ first + head
  pub head_most : head < per
  pub last : head + whole * per ≤ n

pub ceiling : (per first n : ℕ) → 1 ≤ per → per ≤ 8 → 8 ≤ n → Ceiling per first n ((first + per - 1) / per) ((first + per - 1) / per * per - first) ((n - ((first + per - 1) / per * per - first)) / per)
ceiling per first n pos few many =
    let units : ℕ = (first + per - 1) / per in
    let d = div-add-mod' (first + per - 1) per in
    let m : (first + per - 1) % per < per = mod-lt (first + per - 1) pos in
    let head : ℕ = units * per - first in
    let e = div-add-mod' (n - head) per in
    let low : first ≤ units * per = omega arith in
    let high : units * per < first + per = omega arith in
    let below : head < per = omega arith in
    record { least = low; most = high; head_is = omega arith; head_most = below; last = omega arith }

pub split : (p : Plan) (per first n units head whole : ℕ) → 1 ≤ per_forty (p.copies * p.group) → Whole (p.copies * p.group) → per ≡ per_forty (p.copies * p.group)
    → Ceiling per first n units head whole → Split p first n units head whole (head + whole * per)
split p per first n units head whole some w is k =
    let width : ℕ = p.copies * p.group in
    let back : head + whole * per - head ≡ whole * per = omega arith in
    let same : whole * per_forty width ≡ whole * per = ap (λ (x : ℕ). whole * x) (sym is) in
    let turn : per_forty width * whole ≡ whole * per = mul_comm (per_forty width) whole ∙ same in
    record {
      some = some;
      begin = forties width units w ∙ ap (λ (x : ℕ). x * width) (ap (λ (x : ℕ). units * x) (sym is) ∙ k.head_is);
      size = forties width whole w ∙ ap (λ (x : ℕ). x * width) (same ∙ sym back);
      last_is = ap (λ (x : ℕ). head + x) turn;
      last_most = k.last;
    }

-- the whole forties are within the slots
pub units_inside : (p : Plan) (first n units head whole last : ℕ) → Split p first n units head whole last → first + n ≤ layout_symbols p.layout
    → 5 * units + 5 * whole ≤ slot_bytes p
units_inside p first n units head whole last s room =
    let w : ℕ = p.copies * p.group in
    let b = s.begin in
    let z = s.size in
    let l = s.last_most in
    let i = s.last_is in
    let within : first + last ≤ layout_symbols p.layout = omega arith in
    let all : (first + last) * w ≤ layout_symbols p.layout * w = mul-le-mul within (le_refl w) in
    let e : layout_symbols p.layout * w ≡ sent_count p * p.group = sym (mul_assoc (layout_symbols p.layout) p.copies p.group) in
    let parts : first + last ≡ first + head + (last - head) = omega arith in
    let join : (first + last) * w ≡ (first + head) * w + (last - head) * w = ap (λ (x : ℕ). x * w) parts ∙ add-mul (first + head) (last - head) w in
    omega arith
