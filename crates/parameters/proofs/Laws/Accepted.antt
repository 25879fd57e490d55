-- What an accepted header with its marker symbols is known to be.
use mathlib.Core.Path.{◌≡◌, refl, ap, ◌∙◌}
use mathlib.Core.Bool.{true}
use mathlib.Core.List.{List}
use mathlib.Core.Logic.{⊎_elim}
use Prim.Native.Nat.{ℕ, ◌≤◌, ◌<◌}
use native.Mathlib.Omega.{arith}
use lib.ListN.{length, get_or}
use borrow.Author.Tests.{ltb-true, eqb-true}
use Rattle.bits.proofs.Laws.Choice.{lt_or_le}
use Rattle.bits.specs.Basics.{up_to, tab}
use Rattle.bits.proofs.Laws.First.{none_fails}
use Rattle.bits.specs.Pack.{cut}
use Rattle.bits.proofs.Laws.Pack.{cut_in, cut_past}
use Rattle.bits.proofs.Laws.Table.{length_tab, get_or_tab, get_or_tab_past}
use Rattle.std.specs.Prelude.{Result, Ok, Err, IfOk}
use Rattle.answers.specs.Answer.{Done}
use Rattle.answers.specs.Inner.{answer_of}
use Rattle.answers.specs.declared.Refusal.{Refusal}
use Rattle.answers.proofs.Laws.Answer.{no_done}
use Rattle.header.specs.Header.{fields_of}
use Rattle.header.specs.declared.Fields.{Fields}
use Rattle.header_sizes.specs.Quantities.{pulse_order}
use Rattle.header_sizes.specs.Inner.{Valid}
use Rattle.header_sizes.proofs.Laws.Shape.{order_least}
use Rattle.header_questions.specs.Questions.{lent_marks, below, marks_good, run_says}
use Rattle.header_questions.proofs.Laws.Marks.{lent_most}
use Rattle.parameters.specs.Parameters.{parameters_of}
use Rattle.parameters.specs.declared.Parameters.{Parameters}

-- the checked parameters: 32 bytes, the lent symbols first, zeros after them, all below M
pub record CarriesMarks (f : Fields) (marker : List ℕ) (p : Parameters) : Type 0 where
  pub fields : p.fields ≡ f
  pub long : length p.marks ≡ 32
  pub lent : (i : ℕ) → i < lent_marks f marker → get_or p.marks i 0 ≡ get_or marker i 0
  pub behind : (i : ℕ) → lent_marks f marker ≤ i → get_or p.marks i 0 ≡ 0
  pub below : (i : ℕ) → get_or p.marks i 0 < pulse_order f

pub carries_marks : (f : Fields) → Valid f → (marker : List ℕ) → marks_good f marker ≡ true → CarriesMarks f marker (parameters_of f marker)
unfolding parameters_of marks_good
carries_marks f v marker g = record {
  fields = refl;
  long = length_tab 32 x;
  lent = inside;
  behind = outside;
  below = λ i. ⊎_elim
      (λ (l : i < n). rw (inside i l) (ltb-true (get_or marker i 0) (pulse_order f)
      (none_fails (below (pulse_order f) marker) n (eqb-true (up_to (below (pulse_order f) marker) 0 n) n g) i l)))
      (λ (l : n ≤ i). rw (outside i l) (let m = order_least f v.shaped in omega arith))
      (lt_or_le i n);
}
  where
    n : ℕ
    n = lent_marks f marker

    x : ℕ → ℕ
    x = cut n (λ i. get_or marker i 0)

    inside : (i : ℕ) → i < n → get_or (tab 32 x) i 0 ≡ get_or marker i 0
    inside i l =
        let a = lent_most f marker in
        let b = v.markers_most in
        get_or_tab 32 x i (omega arith) ∙ cut_in n (λ i. get_or marker i 0) i l

    outside : (i : ℕ) → n ≤ i → get_or (tab 32 x) i 0 ≡ 0
    outside i l =
        ⊎_elim (λ (m : i < 32). get_or_tab 32 x i m ∙ cut_past n (λ i. get_or marker i 0) i l) (λ (m : 32 ≤ i). get_or_tab_past 32 x i m) (lt_or_le i 32)

-- acceptance hands the parameters on: what `check` promises of its result, in one equation
pub check_parameters : (header marker : List ℕ) (r : Result Parameters Refusal) → answer_of r ≡ run_says header marker
    → IfOk r (λ q. q ≡ parameters_of (fields_of header) marker) → run_says header marker ≡ Done → r ≡ Ok (parameters_of (fields_of header) marker)
check_parameters header marker (Ok q) e h g = ap Ok h
check_parameters header marker (Err refusal) e h g = absurd (no_done (e ∙ g))
