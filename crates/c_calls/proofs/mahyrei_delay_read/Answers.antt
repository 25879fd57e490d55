-- The code of the answer, which fits, and of the symbol, which is a byte.
use mathlib.Core.Path.{◌∙◌}
use Rattle.delay.specs.declared.Side.TheVariants.{Reading}
use Rattle.c_calls.proofs.Steps.{fits, coded, left}
use Rattle.c_calls.proofs.mahyrei_delay_read.Goals as goal

pub code_with-requires : goal.code_with-requires
code_with-requires c =
    let a = c.args in
    let s = c.step-given in
    let w = c.widened in
    fits Reading a.header.now a.step a.symbol a.area.now s.result w.result w.ensures.same s.ensures.answer_value w.ensures.byte

pub returns : goal.returns
returns c =
    let a = c.args in
    let s = c.step-given in
    let w = c.widened in record {
      value = c.code_with.ensures ∙ coded Reading a.header.now a.step a.symbol a.area.now s.result w.result w.ensures.same s.ensures.answer_value s.ensures.symbol_value;
      area_after = left Reading a.header.now a.step a.symbol a.area.now s.result w.result w.ensures.same s.ensures.answer_value s.new.area s.ensures.area_after;
    }
