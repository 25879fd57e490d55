-- The array that carries the marker symbols: those that are lent, then zeros.
use mathlib.Core.Path.{◌≡◌, sym, ap₂, ◌∙◌}
use mathlib.Core.List.{List, ◌++◌}
use mathlib.Core.Logic.{⊎_elim}
use Prim.Native.Nat.{ℕ, ◌+◌, ◌-◌, ◌≤◌, ◌<◌}
use native.Mathlib.Omega.{arith}
use lib.ListN.{length, get_or, take, drop, replicate}
use Rattle.std.proofs.lemmas.List.{get_or_append_left, get_or-append_right, get_or-take, get_or-drop, get_or-replicate, length-take-le, length-append, length-drop}
use Rattle.bits.proofs.Laws.Choice.{lt_or_le}
use Rattle.bits.specs.Pack.{cut}
use Rattle.bits.proofs.Laws.Pack.{cut_in, cut_past}
use Rattle.bits.proofs.Laws.Table.{tab_made}
use Rattle.header.specs.declared.Fields.{Fields}
use Rattle.header_questions.specs.Questions.{lent_marks}
use Rattle.header_questions.proofs.Laws.Marks.{lent_le}
use Rattle.parameters.specs.Parameters.{parameters_of}
use Rattle.parameters.specs.declared.Parameters.{Parameters}

pub carried : (f : Fields) (marker moved : List ℕ) (n : ℕ) → n ≡ lent_marks f marker → n ≤ 32 → moved ≡ take n marker
    → ◌≡◌ {A = Parameters} (record { fields = f; marks = moved ++ drop n (replicate 32 0); markers = n }) (parameters_of f marker)
unfolding parameters_of
carried f marker moved n en few e =
    ap₂ (λ (m : List ℕ) (c : ℕ). record { fields = f; marks = m; markers = c }) (tab_made 32 (cut (lent_marks f marker) (λ i. get_or marker i 0)) (moved ++ rest) whole each) en
  where
    rest : List ℕ
    rest = drop n (replicate 32 0)

    long : length moved ≡ n
    long = rw e (let l = lent_le f marker in length-take-le n marker (omega arith))

    whole : length (moved ++ rest) ≡ 32
    whole = let a : length (moved ++ rest) ≡ length moved + length rest = length-append moved rest in let b : length rest ≡ 32 - n = length-drop n (replicate 32 0) in a ∙ omega (arith, long)

    each : (k : ℕ) → k < 32 → get_or (moved ++ rest) k 0 ≡ cut (lent_marks f marker) (λ i. get_or marker i 0) k
    each k b =
        rw (sym en) (⊎_elim
        (λ (l : k < n). get_or_append_left moved rest 0 k (omega (arith, long)) ∙ rw e (get_or-take n marker k 0 l) ∙ sym (cut_in n (λ i. get_or marker i 0) k l))
        (λ (l : n ≤ k). get_or-append_right moved rest n k 0 long l ∙ get_or-drop n (replicate 32 0) (k - n) 0 ∙ get_or-replicate 32 (n + (k - n)) 0 0 (omega arith) ∙ sym (cut_past n (λ i. get_or marker i 0) k l))
        (lt_or_le k n))
