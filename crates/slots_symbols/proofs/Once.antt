-- A plan's symbols in slots of its length: where the calls of crates `pulses` and `pool` find them.
use mathlib.Core.Path.{◌≡◌, sym, ap}
use mathlib.Core.List.{List}
use Prim.Native.Nat.{ℕ, ◌-◌, ◌≤◌}
use native.Mathlib.Omega.{arith}
use lib.Dec.{ltb}
use Rattle.bits.specs.Basics.{up_to}
use Rattle.bits.proofs.Laws.First.{same_from}
use Rattle.pool.specs.Inner as pool
use Rattle.pool.proofs.Laws.Pooled as pool_laws
use Rattle.pulses.specs.Inner.{Slots}
use Rattle.pulses.proofs.Laws.Needs.{fewer, sizes}
use Rattle.pulses.specs.Pulses.{symbol_in, grouped}
use Rattle.plan.specs.declared.Plan.{Plan}
use Rattle.channel.specs.Channel.{layout_symbols}
use Rattle.slots.proofs.Laws.Bounds.{bounds, shape, lies}
use Rattle.slots.specs.Reading.{pooled_in}
use Rattle.slots.specs.Inner.{decided_in, RunSlots}
use Rattle.slots.proofs.Laws.Return.{pooled_once}

module _ (p : Plan) (b : List ℕ) (h : RunSlots p b) where
  -- n of them, with their copies
  pub sent_in : (n : ℕ) → n ≤ layout_symbols p.layout → pool.Sent p.order p.group p.copies n b
  sent_in n l =
      let k = bounds p h.fine in
      let long = h.long in
      pool_laws.fewer p.order p.group p.copies (layout_symbols p.layout) b
      (record { of_group = sizes p.order p.group (shape p h.fine); copies_most = k.copies_most; room = omega arith; bound = k.slots_bound }) n l

  -- each sent once
  module _ (one : p.copies ≡ 1) where
    pub groups_in : (n : ℕ) → n ≤ layout_symbols p.layout → Slots p.order p.group n b
    groups_in n l = fewer p.order p.group (layout_symbols p.layout) b (lies p h.fine one b h.long) n l

    pub once : (s : ℕ) → pooled_in p b s ≡ symbol_in p.order p.group b s
    once = pooled_once p h.fine one b

    pub undecided_once : (from to : ℕ) → up_to (grouped p.order p.group b) from to ≡ up_to (decided_in p b) from to
    undecided_once from to = same_from (grouped p.order p.group b) (decided_in p b) (to - from) from (λ s a l. ap (λ (q : ℕ). ltb q p.order) (sym (once s)))
