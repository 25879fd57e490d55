-- A plan whose numbers are in range, and what is known once a call has been accepted.
use Rattle.std.specs.Prelude.{◌≡◌, ℕ, ◌+◌, ◌-◌, ◌*◌, ◌/◌, ◌^◌, ◌≤◌, ◌<◌, get_or, length}
use Rattle.sizes.specs.Sizes.{word_bits}
use Rattle.channel.specs.Channel.{total, layout_symbols}
use Rattle.channel.specs.Inner.{delay}
use Rattle.header_sizes.specs.Quantities as quantities
use Rattle.header_sizes.specs.Inner.{Valid}
use Rattle.parameters.specs.declared.Parameters.{Parameters}
use Rattle.plan.specs.declared.Plan.{Plan}
use Rattle.plan.specs.Plan.{sent_count, plan_of}

-- the bytes of all slots, packed
abbrev pub slot_bytes : Plan → ℕ
slot_bytes p = (sent_count p * p.group + 7) / 8

pub record Fine (p : Plan) : Type 0 where
  pub copies_least : 1 ≤ p.copies
  pub copies_most : p.copies ≤ 32
  pub bits_least : 2 ≤ p.bits
  pub bits_most : p.bits ≤ 8
  pub order_is : p.order ≡ 2 ^ p.bits
  pub group_is : p.group ≡ p.order + p.order / 4
  pub symbols_are : p.layout.symbols * p.bits ≡ word_bits
  pub words_least : 1 ≤ p.layout.words
  pub words_most : p.layout.words ≤ 210
  pub rows_least : 1 ≤ p.layout.rows
  pub rows_most : p.layout.rows ≤ 128
  pub step_most : p.layout.step ≤ 256
  pub lines_are : p.layout.lines * p.layout.symbols ≡ total p.layout + delay p.layout (p.layout.rows - 1)
  pub markers_least : 1 ≤ p.layout.markers
  pub markers_most : p.layout.markers ≤ 32
  pub marks_are : length p.marks ≡ 32
  pub marks_below : (i : ℕ) → get_or p.marks i 0 < p.order
  pub symbols_bound : layout_symbols p.layout < 2 ^ 23
  pub slots_bound : layout_symbols p.layout * p.group < 2 ^ 31

-- the same of the parameters that the check returns, as the writer and the reader require it
pub record Entered (q : Parameters) (frames_length slots_length : ℕ) : Type 0 where
  pub valid : Valid q.fields
  pub fine : Fine (plan_of q)
  pub frames_are : frames_length ≡ quantities.frame_bytes q.fields
  pub slots_are : slots_length ≡ slot_bytes (plan_of q)
