-- The proofs about refused headers, of the calls.
use mathlib.Core.Path.{◌≡◌, refl}
use mathlib.Core.Bool.{true}
use mathlib.Core.List.{List}
use Prim.Native.Nat.{ℕ}
use borrow.Author.Tests.{lt-ltb, eq-eqb}
use Rattle.header.specs.Header.{fields_of}
use Rattle.header_questions.specs.Questions.{header_says, marks_good, run_says}
use Rattle.header_convert.specs.Convert.{narrow_says}
use Rattle.capture_search.specs.Search.{find_from_says}
use Rattle.capture_cut.specs.Cut.{cut_says}
use Rattle.delay.specs.Delay.{step_says}
use Rattle.fades.specs.Fades.{fades_say}
use Rattle.rack.specs.Rack as racks
use Rattle.plan.specs.Lengths.{call_says}
use Rattle.run.specs.Run.{run_read_says, run_write_says}
use Rattle.promises_calls.specs.HeaderRefusals.{HeaderRefusals, HeaderRefused, FactorRefused}

-- good marker symbols, asked between 7 and 20, change nothing
marks_passed : (header marker : List ℕ) → marks_good (fields_of header) marker ≡ true → run_says header marker ≡ header_says header
unfolding run_says header_says
marks_passed header marker good = rw good refl

pub header_refused : HeaderRefused
unfolding cut_says fades_say step_says narrow_says racks.says racks.missions_right racks.place_right run_write_says run_read_says call_says find_from_says
header_refused header marker frames slots capture fades area capture_length s n q c p number place e = (
  rw e refl,
  rw e refl,
  rw e refl,
  rw e refl,
  λ lc lp. rw (lt-ltb c 4 lc, lt-ltb p 4 lp, eq-eqb c c refl, e) refl,
  λ good. (
    rw (marks_passed header marker good, e) refl,
    rw (marks_passed header marker good, e) refl,
    rw (marks_passed header marker good, e) refl,
    rw (marks_passed header marker good, e) refl,
  ),
)

pub factor_refused : FactorRefused
unfolding find_from_says run_says cut_says step_says narrow_says header_says
factor_refused header marker capture capture_length s n q e bad =
    (λ marks. (rw (e, marks, bad) refl, rw (e, marks, bad) refl), rw (e, bad) refl, rw (e, bad) refl, rw (e, bad) refl)

-- all of it
pub header_refusals : HeaderRefusals
header_refusals = record {
  header_refused = header_refused;
  factor_refused = factor_refused;
}
