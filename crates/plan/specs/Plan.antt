-- What steps 8 to 10 need of a run, from the checked parameters, and what is known of it once all questions are answered yes.
use Rattle.std.specs.Prelude.{List, ℕ, ◌*◌}
use Rattle.channel.specs.Channel.{layout_symbols}
use Rattle.header.specs.Header.{fields_of}
use Rattle.parameters.specs.Parameters.{parameters_of}
use Rattle.header_sizes.specs.Quantities as quantities
use Rattle.parameters.specs.declared.Parameters.{Parameters}
use Rattle.plan.specs.declared.Plan.{Plan}

unfoldable pub plan_of : Parameters → Plan
plan_of q = record {
  copies = q.fields.copies;
  bits = q.fields.bits;
  order = quantities.pulse_order q.fields;
  group = quantities.slots_per_symbol q.fields;
  layout = quantities.layout_of q.fields;
  marks = q.marks;
}

-- the plan of a header with its marker symbols
abbrev pub plan_in : List ℕ → List ℕ → Plan
plan_in header marker = plan_of (parameters_of (fields_of header) marker)

-- the symbols with their copies, as they are sent: number s·k + c is copy c of symbol s, where k is the factor
abbrev pub sent_count : Plan → ℕ
sent_count p = layout_symbols p.layout * p.copies
