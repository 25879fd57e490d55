-- The symbols of one turn more, which all are at the same place of a byte.
use mathlib.Core.Path.{◌≡◌}
use Prim.Native.Nat.{ℕ, ◌+◌, ◌-◌, ◌*◌, ◌/◌, ◌%◌, ◌^◌, ◌<◌}
use native.Mathlib.Omega.{arith}
use mathlib.Core.List.{List}
use Rattle.slots_gather.specs.Inner.{symbol_in, Gather}
use Rattle.slots_gather.proofs.Laws.Turns.{Whole, bytewise, whole, Turn, turn_sizes, turn_strides, turned_value, turned_on}
use Rattle.slots_gather.proofs.gather_turns.Goals as goal

sizes : (m : ℕ) → 8 % m ≡ 0 → Whole m (8 / m) (1 * 2 ^ m % 2 ^ 64 - 1)
sizes m h = whole m (8 / m) (1 * 2 ^ m % 2 ^ 64 - 1) (bytewise m h)

turn_of : (words : List ℕ) (t m : ℕ) (row : List ℕ) (from n count : ℕ) → (Gather m t n count words from row × (8 % m ≡ 0)) → (u : ℕ) → u < 8 / m → Turn m t n u
turn_of words t m row from n count asked u l = turn_sizes m (8 / m) (1 * 2 ^ m % 2 ^ 64 - 1) (bytewise m asked.1) t n u asked.0.t_most asked.0.step_most l

pub overflow_sub-y : goal.overflow_sub-y
overflow_sub-y g c = let k = (turn_of _ _ g.row.M _ _ _ _ c.requires c.loop-u.u (omega arith)).stay in omega arith

pub gather_bytes-requires : goal.gather_bytes-requires
gather_bytes-requires g c =
    let a = c.args in
    let l = c.loop-u in
    let m : ℕ = g.row.M in
    turn_strides m (8 / m) (1 * 2 ^ m % 2 ^ 64 - 1) (bytewise m c.requires.1) a.t a.to.n a.to.count a.words.now a.to.from a.row.now l.row c.requires.0 l.u c.places.result (omega arith) c.places.ensures l.invariant.long

pub loop-u-preserved : goal.loop-u-preserved
loop-u-preserved g c =
    let a = c.args in
    let l = c.loop-u in
    let m : ℕ = g.row.M in
    let few = c.places in
    let k = sizes m c.requires.1 in
    turned_on a.row.now l.row _ a.to.from a.to.n a.to.count (8 / m) l.u few.result (λ j. symbol_in m a.words.now (a.t + j * a.to.n)) _ c.requires.0.step_least (omega arith)
    few.ensures l.invariant c.gather_bytes.ensures
    (λ i h. turned_value m (8 / m) (1 * 2 ^ m % 2 ^ 64 - 1) (bytewise m c.requires.1) k.bits_least k.turn_least a.words.now a.t a.to.n l.u i)
