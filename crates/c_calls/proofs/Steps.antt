-- What a step of the delay lines hands out goes by its answer.
use mathlib.Core.Path.{◌≡◌, ap, ◌∙◌}
use mathlib.Core.List.{List}
use Prim.Native.Nat.{ℕ, ◌^◌, ◌<◌}
use native.Mathlib.Omega.{arith}
use lib.ListN.{length}
use Rattle.std.specs.Prelude.{Result, Ok, Err, IfOk}
use Rattle.answers.specs.declared.Refusal.{Refusal}
use Rattle.answers.specs.Answer.{Answer, after}
use Rattle.answers.specs.Inner.{answer_of, code_given, FitsGiven}
use Rattle.answers.proofs.Laws.Answer.{given_is, fits_given}
use Rattle.header.specs.Header.{fields_of}
use Rattle.delay.specs.Delay.{step_says, gives, leaves, step_code, area_after}
use Rattle.delay.specs.declared.Side.{Side}
use Rattle.delay.proofs.Laws.Delay.{step_fits}

below : (r : Result ℕ Refusal) → IfOk r (λ symbol. symbol < 256) → IfOk r (λ x. x < 2 ^ 56)
below (Ok symbol) h = omega arith
below (Err x) h = h

module _ (side : Side) (header : List ℕ) (n q : ℕ) (area : List ℕ) (r w : Result ℕ Refusal) (same : w ≡ r) (said : answer_of r ≡ step_says header q (length area)) where
  pub fits : IfOk w (λ symbol. symbol < 256) → FitsGiven w
  fits byte = fits_given w (step_says header q (length area)) (ap answer_of same ∙ said) (step_fits header q (length area)) (below w byte)

  pub coded : IfOk r (λ symbol. symbol ≡ gives side (fields_of header) n q area) → code_given w ≡ step_code side header n q area
  coded given = ap code_given same ∙ given_is r (step_says header q (length area)) (gives side (fields_of header) n q area) said given

  pub left : (xs : List ℕ) → xs ≡ after (answer_of r) (leaves side (fields_of header) n q area) area → xs ≡ area_after side header n q area
  left xs e = e ∙ ap (λ (x : Answer). after x (leaves side (fields_of header) n q area) area) said
