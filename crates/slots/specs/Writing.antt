-- Steps 8 to 10 of a plan: the definitions of crates `channel` and `pulses` for the plan's layout and numbers. The words are a function: word j is a list of 1,890 bytes.
use Rattle.std.specs.Prelude.{List, ℕ, ◌/◌}
use Rattle.channel.specs.Channel as channel
use Rattle.pulses.specs.Pulses as pulses
use Rattle.plan.specs.declared.Plan.{Plan}
use Rattle.plan.specs.Plan.{sent_count}

-- Step 8: symbol t of all words
abbrev pub data_symbol : Plan → (ℕ → List ℕ) → ℕ → ℕ
data_symbol p word t = channel.data_at p.bits p.layout word t

-- Step 9: what is at place x
abbrev pub placed_symbol : Plan → (ℕ → List ℕ) → ℕ → ℕ
placed_symbol p word x = channel.placed p.layout (data_symbol p word) x

-- Step 10: symbol s, markers counted
abbrev pub symbol_at : Plan → (ℕ → List ℕ) → ℕ → ℕ
symbol_at p word s = channel.with_markers p.layout p.marks (placed_symbol p word) s

-- each symbol is sent as often as the factor says, one copy after the other
abbrev pub sent_at : Plan → (ℕ → List ℕ) → ℕ → ℕ
sent_at p word u = symbol_at p word (u / p.copies)

-- slot x, and all slots, packed
abbrev pub run_slot : Plan → (ℕ → List ℕ) → ℕ → ℕ
run_slot p word x = pulses.slot_bit p.group (sent_count p) (sent_at p word) x

unfoldable pub run_slots : Plan → (ℕ → List ℕ) → List ℕ
run_slots p word = pulses.slots_of p.group (sent_count p) (sent_at p word)
