-- The checked parameters of a run: the header's fields, and the marker symbols passed with it.
use Rattle.std.specs.Prelude.{List, ℕ, get_or}
use Rattle.bits.specs.Basics.{tab}
use Rattle.bits.specs.Pack.{cut}
use Rattle.header_questions.specs.Questions.{lent_marks}
use Rattle.header.specs.declared.Fields.{Fields}
use Rattle.parameters.specs.declared.Parameters.{Parameters}

-- the fields and the marker symbols, followed by zeros, and how many symbols there are
unfoldable pub parameters_of : Fields → List ℕ → Parameters
parameters_of f marker = record {
  fields = f;
  marks = tab 32 (cut (lent_marks f marker) (λ i. get_or marker i 0));
  markers = lent_marks f marker;
}
