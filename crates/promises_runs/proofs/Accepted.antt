-- What a run call that was let in knows of the header, in the plan's numbers: all W marker symbols are lent, the slots of a symbol, the symbols in all.
use mathlib.Core.Path.{◌≡◌, refl}
use mathlib.Core.Bool.{true}
use mathlib.Core.List.{List}
use Prim.Native.Nat.{ℕ, ◌+◌, ◌/◌, ◌^◌, ◌<◌}
use native.Mathlib.Omega.{arith}
use lib.ListN.{length, get_or}
use Rattle.answers.proofs.Laws.Answer.{then_done}
use Rattle.answers.specs.Answer.{Done}
use Rattle.header.specs.Header.{fields_of}
use Rattle.header_sizes.specs.Quantities as quantities
use Rattle.parameters.specs.Parameters.{parameters_of}
use Rattle.header_questions.specs.Questions.{lent_marks, marks_good, run_says}
use Rattle.header_questions.proofs.Laws.Marks.{lent_all, run_good}
use Rattle.parameters.proofs.Laws.Accepted.{carries_marks}
use Rattle.channel.specs.Channel.{layout_symbols}
use Rattle.plan.specs.Plan.{plan_of, plan_in}
use Rattle.plan.specs.Lengths.{call_says}
use Rattle.plan.proofs.Laws.Accepted.{ready}
use Rattle.run.specs.Run.{run_write_says}

pub asked : (header marker frames : List ℕ) (n : ℕ) → run_write_says header marker frames n ≡ Done → call_says header marker (length frames) n ≡ Done
unfolding run_write_says
asked header marker frames n e = e

module _ (header marker : List ℕ) where
  pub group_is : (M G : ℕ) → M ≡ 2 ^ (fields_of header).bits → G ≡ M + M / 4 → G ≡ (plan_in header marker).group
  unfolding plan_of parameters_of quantities.slots_per_symbol quantities.pulse_order
  group_is M G eM eG = rw (eG, eM) refl

  module _ (k n : ℕ) (e : call_says header marker k n ≡ Done) where
    pub all_lent : lent_marks (fields_of header) marker ≡ (fields_of header).markers
    all_lent = lent_all (fields_of header) marker (ready header marker k n e).marker_is

    marks_good_lem : marks_good (fields_of header) marker ≡ true
    unfolding call_says
    marks_good_lem = (run_good header marker (then_done (run_says header marker) _ e).0).1

    pub marks_are : (w : ℕ) → w < (fields_of header).markers → get_or (plan_in header marker).marks w 0 ≡ get_or marker w 0
    unfolding plan_of
    marks_are w l = let a = all_lent in (carries_marks (fields_of header) (ready header marker k n e).valid marker marks_good_lem).lent w (omega arith)

  pub count_is : layout_symbols (plan_in header marker).layout ≡ quantities.symbol_count (fields_of header)
  unfolding plan_of parameters_of quantities.symbol_count quantities.layout_of
  count_is = refl
