-- The code of the answer, which fits.
use mathlib.Core.Path.{ap, ◌∙◌}
use mathlib.Core.List.{List}
use Prim.Native.Nat.{ℕ}
use Rattle.answers.specs.Answer.{Answer, code_of}
use Rattle.rack.specs.Rack.{entry_at, Read, handed}
use Rattle.rack.proofs.Laws.Answers.{says_fits}
use Rattle.c_calls.proofs.mahyrei_rack_read.Goals as goal

pub code-requires : goal.code-requires
code-requires c = rw c.read.ensures.value (says_fits _ _)

pub returns : goal.returns
returns c =
    let a = c.args in
    let r = c.read in
    let slice : List ℕ = a.header.now in record {
      value = c.code.ensures ∙ ap code_of r.ensures.value;
      header_after = r.ensures.header_after ∙ ap (λ (x : Answer). handed (Read slice) x (entry_at a.area.now a.owner a.place)) r.ensures.value;
    }
