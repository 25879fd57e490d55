-- Questions 1 to 7 of the header, then the area's length, then the symbol.
use mathlib.Core.Path.{◌≡◌, refl, sym, ap, ◌∙◌}
use mathlib.Core.Bool.{Bool}
use mathlib.Core.List.{List}
use Prim.Native.Nat.{ℕ, ◌/◌}
use native.Mathlib.Omega.{arith}
use lib.Dec.{ltb, eqb}
use Rattle.answers.specs.Answer.{Done}
use Rattle.answers.proofs.Laws.Answer.{stops, goes_on, stops_at, goes_past, says_last}
use Rattle.header.specs.Header.{fields_of}
use Rattle.header.specs.declared.Fields.{Fields}
use Rattle.header_sizes.specs.Quantities.{pulse_order, interleaver_delay}
use Rattle.header_sizes.specs.Inner.{Shaped}
use Rattle.header_questions.specs.Questions.{header_says}
use Rattle.header_questions.proofs.Laws.Good.{header_good}
use Rattle.delay.specs.Delay.{area_bytes, step_says}
use Rattle.delay_step.proofs.says.Goals as goal

-- a good header leaves the two questions, of the fields that were read
module _ (header : List ℕ) (q n : ℕ) (e : header_says header ≡ Done) (f : Fields) (ef : f ≡ fields_of header) (all : ℕ) (ea : all ≡ interleaver_delay f) where
  shaped : Shaped f
  shaped = rw ef (header_good header e).valid.shaped

  halved : all / 2 ≡ area_bytes (fields_of header)
  unfolding area_bytes
  halved = ap (λ (k : ℕ). k / 2) ea ∙ ap area_bytes ef

  area_asked : (said : Bool) → said ≡ eqb n (all / 2) → said ≡ eqb n (area_bytes (fields_of header))
  area_asked said q = q ∙ ap (eqb n) halved

  symbol_asked : (order : ℕ) → order ≡ pulse_order f → (said : Bool) → said ≡ ltb q order → said ≡ ltb q (pulse_order (fields_of header))
  symbol_asked order eo said e = e ∙ ap (ltb q) (eo ∙ ap pulse_order ef)

pub returns-in_err-header_says : goal.returns-in_err-header_says
unfolding step_says
returns-in_err-header_says c = stops _ _ _ _ c.from_residual.ensures.1 c.in_err-header_says.ensures

pub read-f-requires : goal.read-f-requires
read-f-requires c = let l = (header_good c.args.header.now (sym c.in_ok-header_says.ensures)).long in omega arith

pub interleaver_delay-requires : goal.interleaver_delay-requires
interleaver_delay-requires c = shaped c.args.header.now 0 0 (sym c.in_ok-header_says.ensures) c.read-f.result c.read-f.ensures _ refl

pub returns-in_err-ask : goal.returns-in_err-ask
unfolding step_says
returns-in_err-ask c =
    let a = c.args in
    let s = c.interleaver_delay in
    goes_on _ _ _ c.in_ok-header_says.ensures
    (stops_at _ _ _ _ _ _ _ c.from_residual-in_err-ask.ensures.1 c.in_err-ask.ensures
    (area_asked a.header.now a.symbol a.length (sym c.in_ok-header_says.ensures) c.read-f.result c.read-f.ensures s.result s.ensures _ refl))

pub pulse_order-requires : goal.pulse_order-requires
pulse_order-requires c = shaped c.args.header.now 0 0 (sym c.in_ok-header_says.ensures) c.read-f.result c.read-f.ensures _ refl

pub returns : goal.returns
unfolding step_says
returns c =
    let a = c.args in
    let done = sym c.in_ok-header_says.ensures in
    let f = c.read-f in
    let s = c.interleaver_delay in
    let o = c.pulse_order in
    goes_on _ _ _ c.in_ok-header_says.ensures
    (goes_past _ _ _ _ _ _ c.in_ok-ask.ensures (area_asked a.header.now a.symbol a.length done f.result f.ensures s.result s.ensures _ refl)
    (says_last _ _ _ _ _ c.ask-2.ensures (symbol_asked a.header.now a.symbol a.length done f.result f.ensures s.result s.ensures o.result o.ensures _ refl)))
