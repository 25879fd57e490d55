-- The slots of a plan: symbols below the pulse order, lengths, and equal words.
use Prim.Native.Nat.{ℕ, ◌*◌, ◌/◌, ◌<◌}
use mathlib.Core.Path.{◌≡◌, ap, ◌∙◌}
use mathlib.Core.List.{List}
use native.Mathlib.Nat.{mul-one, div-one}
use lib.ListN.{length}
use Rattle.plan.specs.declared.Plan.{Plan}
use Rattle.plan.specs.Plan.{sent_count}
use Rattle.bits.specs.Pack.{Bytes}
use Rattle.channel.proofs.Laws.Places as places
use Rattle.channel.proofs.Laws.Markers as markers
use Rattle.channel.proofs.Laws.Symbols as symbols
use Rattle.pulses.proofs.Laws.Pulses as pulses
use Rattle.pulses.specs.Pulses as asked
use Rattle.plan.specs.Inner.{Fine, slot_bytes}
use Rattle.channel.specs.Channel.{layout_symbols}
use Rattle.slots.proofs.Laws.Bounds.{bounds}
use Rattle.slots.specs.Writing.{data_symbol, placed_symbol, symbol_at, sent_at, run_slots}

pub placed_below : (p : Plan) → Fine p → (word : ℕ → List ℕ) (x : ℕ) → placed_symbol p word x < p.order
placed_below p fine word x =
    places.placed_below p.layout (data_symbol p word) p.order (bounds p fine).order_least
    (λ t. rw fine.order_is (symbols.data_below p.bits p.layout word t)) x

pub symbol_below : (p : Plan) → Fine p → (word : ℕ → List ℕ) (s : ℕ) → symbol_at p word s < p.order
symbol_below p fine word s =
    markers.marked_below p.layout p.marks (placed_symbol p word) p.order fine.marks_below (placed_below p fine word) s

pub length_slots : (p : Plan) (word : ℕ → List ℕ) → length (run_slots p word) ≡ slot_bytes p
unfolding run_slots
length_slots p word = pulses.length_slots p.group (sent_count p) (sent_at p word)

pub bytes_slots : (p : Plan) (word : ℕ → List ℕ) → Bytes (run_slots p word)
unfolding run_slots
bytes_slots p word = pulses.bytes_slots p.group (sent_count p) (sent_at p word)

-- the same words give the same symbols, and the same slots
pub symbol_same : (p : Plan) (word other : ℕ → List ℕ) → ((j : ℕ) → j < p.layout.words → word j ≡ other j) → (s : ℕ) → symbol_at p word s ≡ symbol_at p other s
symbol_same p word other h =
    markers.marked_same p.layout p.marks (placed_symbol p word) (placed_symbol p other)
    (places.placed_same p.layout (data_symbol p word) (data_symbol p other)
    (symbols.data_same p.bits p.layout word other h))

pub slots_same : (p : Plan) (word other : ℕ → List ℕ) → ((j : ℕ) → j < p.layout.words → word j ≡ other j) → run_slots p word ≡ run_slots p other
unfolding run_slots
slots_same p word other h = pulses.slots_same p.group (sent_count p) (sent_at p word) (sent_at p other) (λ u. symbol_same p word other h (u / p.copies))

-- sent once, each symbol is one group
pub slots_one : (p : Plan) → p.copies ≡ 1 → (word : ℕ → List ℕ) → run_slots p word ≡ asked.slots_of p.group (layout_symbols p.layout) (symbol_at p word)
unfolding run_slots
slots_one p one word =
    ap (λ (k : ℕ). asked.slots_of p.group (layout_symbols p.layout * k) (λ u. symbol_at p word (u / k))) one
    ∙ ap (λ (n : ℕ). asked.slots_of p.group n (λ u. symbol_at p word (u / 1))) (mul-one (layout_symbols p.layout))
    ∙ pulses.slots_same p.group (layout_symbols p.layout) (λ u. symbol_at p word (u / 1)) (symbol_at p word) (λ u. ap (symbol_at p word) (div-one u))
