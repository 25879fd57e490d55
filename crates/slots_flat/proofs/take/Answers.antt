-- The three parts are the row.
use mathlib.Core.Path.{◌≡◌, refl, ◌∙◌}
use Prim.Native.Nat.{ℕ, ◌+◌, ◌-◌, ◌*◌, ◌/◌, ◌%◌, ◌^◌, ◌≤◌, ◌<◌}
use native.Mathlib.Omega.{arith}
use native.Mathlib.Nat.{le_refl}
use Rattle.std.specs.Int.{div_ceil}
use Rattle.slots_flat.proofs.Laws.Packed.{per_least, per_most, scatters_part, joined_at, cut}
use Rattle.slots_flat.proofs.take.Goals as goal

fits : (from to t c first u : ℕ) → first ≡ from + c → first ≤ to → u ≡ t + c → t + (to - from) < 2 ^ 32 → u < 2 ^ 32
fits from to t c first u a b e l = omega arith

rest : (from to head d : ℕ) → head ≡ from + (head - from) → head + d ≤ to → to - from ≡ head - from + d + (to - (head + d))
rest from to head d a b = omega arith

-- the bytes between the ends
between : (m : ℕ) → 8 % m ≡ 0 → (from to t at : ℕ) → at ≡ div_ceil t (8 / m) → from + 8 ≤ to → let per : ℕ = 8 / m in let head : ℕ = from + (per * at - t) in let n : ℕ = (to - head) / per in
    (head ≡ from + (head - from)) × (per * at ≡ t + (head - from)) × (head + per * n ≤ to) × (head + per * n ≡ from + (head - from + per * n)) × (per * (at + n) ≡ t + (head - from + per * n)) × (head ≤ to)
between m divides from to t at ceil far =
    let per : ℕ = 8 / m in
    let head : ℕ = from + (per * at - t) in
    cut per from to t at head ((to - head) / per) (per_least m divides) (per_most m divides) ceil refl refl far

pub scatter_each-requires-2 : goal.scatter_each-requires-2
scatter_each-requires-2 g c =
    let a = c.args in
    let m : ℕ = g.row.M in
    let far : a.from + 8 ≤ a.to = omega arith in
    let k = between m c.requires.1 a.from a.to a.t c.div_ceil-at.result c.div_ceil-at.ensures far in
    let head : ℕ = a.from + (8 / m * c.div_ceil-at.result - a.t) in
    let e : a.from ≡ a.from + 0 = omega arith in
    let f : a.t ≡ a.t + 0 = omega arith in
    (scatters_part a.row.now a.from a.to m a.t a.words.now c.requires.0 0 a.from head a.t a.words.now e k.5 f c.requires.0.start refl, c.requires.1)

pub pack-requires : goal.pack-requires
pack-requires g c =
    let a = c.args in
    let m : ℕ = g.row.M in
    let per : ℕ = 8 / m in
    let far : a.from + 8 ≤ a.to = omega arith in
    let at : ℕ = c.div_ceil-at.result in
    let k = between m c.requires.1 a.from a.to a.t at c.div_ceil-at.ensures far in
    let head : ℕ = a.from + (per * at - a.t) in
    let n : ℕ = (a.to - head) / per in
    let o = c.scatter_each-2 in
    (scatters_part a.row.now a.from a.to m a.t a.words.now c.requires.0 (head - a.from) head (head + per * n) (per * at) o.new.words k.0 k.2 k.1 (fits a.from a.to a.t (head - a.from) head (per * at) k.0 k.5 k.1 c.requires.3) o.auto.words, c.requires.1)

pub scatter_each-requires-3 : goal.scatter_each-requires-3
scatter_each-requires-3 g c =
    let a = c.args in
    let m : ℕ = g.row.M in
    let per : ℕ = 8 / m in
    let far : a.from + 8 ≤ a.to = omega arith in
    let at : ℕ = c.div_ceil-at.result in
    let k = between m c.requires.1 a.from a.to a.t at c.div_ceil-at.ensures far in
    let head : ℕ = a.from + (per * at - a.t) in
    let n : ℕ = (a.to - head) / per in
    let o = c.pack in
    let f = c.scatter_each-2 in (
      scatters_part a.row.now a.from a.to m a.t a.words.now c.requires.0 (head - a.from + per * n) (head + per * n) a.to (per * (at + n)) o.new.words k.3 (le_refl a.to) k.4 (fits a.from a.to a.t (head - a.from + per * n) (head + per * n) (per * (at + n)) k.3 k.2 k.4 c.requires.3)
          (o.auto.words ∙ f.auto.words),
      c.requires.1,
    )

pub returns : goal.returns
returns g c =
    let a = c.args in
    let m : ℕ = g.row.M in
    let per : ℕ = 8 / m in
    let far : a.from + 8 ≤ a.to = omega arith in
    let at : ℕ = c.div_ceil-at.result in
    let k = between m c.requires.1 a.from a.to a.t at c.div_ceil-at.ensures far in
    let head : ℕ = a.from + (per * at - a.t) in
    let n : ℕ = (a.to - head) / per in
    let f = c.scatter_each-2 in
    let o = c.pack in
    let l = c.scatter_each-3 in
    let two = joined_at a.row.now a.from (head - a.from) (per * n) m a.t a.words.now f.new.words o.new.words head (per * at) (head - a.from + per * n) k.0 k.1 refl f.ensures o.ensures in
    let all : a.to - a.from ≡ head - a.from + per * n + (a.to - (head + per * n)) = rest a.from a.to head (per * n) k.0 k.2 in
    joined_at a.row.now a.from (head - a.from + per * n) (a.to - (head + per * n)) m a.t a.words.now o.new.words l.new.words (head + per * n) (per * (at + n)) (a.to - a.from) k.3 k.4 all two l.ensures
