-- Sent once, the group holds just that pulse.
use mathlib.Core.Path.{◌≡◌, refl, sym, ap, ◌∙◌}
use mathlib.Core.Bool.{Bool, true, false}
use Rattle.slots.specs.Reading.{pooled_in}
use Prim.Native.Nat.{ℕ, ◌+◌, ◌≤◌, ◌<◌}
use native.Mathlib.Omega.{arith}
use lib.Dec.{eqb}
use Rattle.bits.specs.Basics.{bool}
use Rattle.channel.specs.Channel.{layout_symbols}
use Rattle.pulses.proofs.Laws.Groups.{group_got}
use Rattle.pulses.specs.Inner.{Held}
use Rattle.pulses.proofs.Laws.Needs.{held}
use Rattle.pulses.specs.Pulses.{symbol_in}
use Rattle.slots_symbols.proofs.Once.{sent_in, groups_in, once}
use Rattle.slots_symbols.specs.Inner.{Decided}
use mathlib.Core.List.{List}
use Rattle.plan.specs.declared.Plan.{Plan}
use Rattle.slots_symbols.proofs.is_symbol.Goals as goal

is_one : (t : Bool) → eqb (bool t) 1 ≡ t
is_one true = refl
is_one false = refl

-- its group lies in the slots
known : (p : Plan) (b : List ℕ) (s q : ℕ) → (Decided p b s × (q < p.group)) → p.copies ≡ 1 → Held p.order p.group b s
known p b s q asked one =
    let next : s + 1 ≤ layout_symbols p.layout = let l = asked.0.among in omega arith in
    held p.order p.group (s + 1) b (groups_in p b asked.0.slots one (s + 1) next) s (omega arith)

pub bit_at-requires : goal.bit_at-requires
bit_at-requires c = let k = (known c.args.p c.args.b.now c.args.s c.args.q c.requires) c.if-p-eq1.true in omega arith

pub returns-then-p-eq1 : goal.returns-then-p-eq1
returns-then-p-eq1 c =
    let s = c in
    let a = c.args in
    let one = c.if-p-eq1.true in
    let same = once a.p a.b.now s.requires.0.slots one a.s in
    let small : symbol_in a.p.order a.p.group a.b.now a.s < a.p.order = rw (sym same) s.requires.0.small in
    ap (λ (v : ℕ). eqb v 1) (c.bit_at.ensures
    ∙ (group_got a.p.order a.p.group ((known c.args.p c.args.b.now c.args.s c.args.q c.requires) one).of_group.group_least a.b.now a.s small).slot a.q s.requires.1
    ∙ ap (λ (v : ℕ). bool (eqb a.q v)) (sym same)) ∙ is_one (eqb a.q (pooled_in a.p a.b.now a.s))

pub pooled-requires : goal.pooled-requires
pooled-requires c =
    let s = c in
    let next : s.args.s + 1 ≤ layout_symbols s.args.p.layout = let l = c.requires.0.among in omega arith in
    sent_in s.args.p s.args.b.now s.requires.0.slots (s.args.s + 1) next
