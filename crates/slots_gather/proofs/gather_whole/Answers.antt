-- Symbols that follow one another and fill whole bytes are unpacked; others are gathered turn by turn.
use mathlib.Core.Path.{◌≡◌, sym, ap, ◌∙◌}
use mathlib.Core.List.{List}
use Prim.Native.Nat.{ℕ, ◌+◌, ◌-◌, ◌*◌, ◌/◌, ◌%◌, ◌≤◌, ◌<◌}
use native.Mathlib.Omega.{arith}
use native.Mathlib.Nat.{mul-add, mul_comm, mul_assoc, div-add-mod'}
use lib.ListN.{length}
use Rattle.slots_gather.specs.Inner.{Gather}
use Rattle.slots_gather.proofs.Laws.Turns.{bytewise, unpacked_column}
use Rattle.slots_gather.proofs.gather_whole.Goals as goal

whole_bytes : (n turn : ℕ) → n % turn ≡ 0 → n / turn * turn ≡ n
whole_bytes n turn h = let d = div-add-mod' n turn in omega arith

-- the last symbol lies in the words and its byte in the row, so that all do
sizes : (m turn t n count from : ℕ) (words row : List ℕ) → turn * m ≡ 8 → Gather m t n count words from row → n ≡ 1 → 4 ≤ count → t % turn ≡ 0 → count % turn ≡ 0
    → (t / turn + count / turn ≤ length words) × (from + turn * (count / turn) ≤ length row)
sizes m turn t n count from words row w h one some te ce =
    let b : ℕ = t / turn in
    let c : ℕ = count / turn in
    let tb = whole_bytes t turn te in
    let cb = whole_bytes count turn ce in
    let low : count - 1 < count = omega arith in
    let last : (count - 1) * n ≡ count - 1 = ap (λ (x : ℕ). (count - 1) * x) one ∙ (let z : (count - 1) * 1 ≡ count - 1 = omega arith in z) in
    let inside = h.inside (count - 1) low in
    let room = h.room (count - 1) low in
    let sum : m * (t + (count - 1) * n) + m ≡ m * (t + count) =
    (let z : m * (t + (count - 1) * n) + m ≡ m * (t + (count - 1) * n) + m * 1 = omega arith in z)
    ∙ sym (mul-add m (t + (count - 1) * n) 1) ∙ ap (λ (x : ℕ). m * x) (let z : t + (count - 1) * n + 1 ≡ t + count = omega arith in z) in
    let eight : m * (t + count) ≡ 8 * (b + c) =
    ap (λ (x : ℕ). m * x) (let z : t + count ≡ turn * (b + c) = omega (arith, mul_comm turn b, mul_comm turn c, mul-add turn b c) in z)
    ∙ sym (mul_assoc m turn (b + c)) ∙ ap (λ (x : ℕ). x * (b + c)) (mul_comm m turn ∙ w) in
    (omega arith, omega (arith, mul_comm turn c))

pub unpack-requires : goal.unpack-requires
unpack-requires g c =
    let is = c.packed.ensures c.if-packed.true in
    let w = bytewise g.row.M c.requires.1 in
    let s = sizes g.row.M (8 / g.row.M) c.args.t c.args.to.n c.args.to.count c.args.to.from c.args.words.now c.args.row.now w.whole c.requires.0 is.0 is.1 is.2 is.3 in
    (c.requires.1, s.0, s.1)

pub returns-then-packed : goal.returns-then-packed
returns-then-packed g c =
    let a = c.args in
    let m : ℕ = g.row.M in
    let turn : ℕ = 8 / m in
    let is = c.packed.ensures c.if-packed.true in
    let tb = whole_bytes a.t turn is.2 in
    let cb = whole_bytes a.to.count turn is.3 in
    unpacked_column m a.words.now a.row.now _ a.to.from a.to.n a.to.count a.t (a.t / turn) turn (a.to.count / turn) is.0 (omega (arith, mul_comm turn (a.to.count / turn))) tb c.unpack.ensures
