-- Each answer is that of the first question answered no; the ones before it were answered yes.
use mathlib.Core.Path.{refl, ◌∙◌}
use Rattle.answers.proofs.Laws.Answer.{stops, stops_at, goes_on, goes_past}
use Rattle.rack.specs.Rack.{Load}
use Rattle.rack_asked.proofs.Laws.Said.{asked}
use Rattle.rack_asked.proofs.load_says.Goals as goal

pub returns-in_err-ask : goal.returns-in_err-ask
returns-in_err-ask c =
    stops_at _ _ _ _ _ _ _ c.from_residual.ensures.1 c.in_err-ask.ensures c.missions_right.ensures
    ∙ asked c.args.area.now c.args.caller c.args.owner c.args.place (Load c.args.header.now) refl

pub returns-in_err-ask-2 : goal.returns-in_err-ask-2
returns-in_err-ask-2 c =
    goes_past _ _ _ _ _ _ c.in_ok-ask.ensures c.missions_right.ensures
    (stops _ _ _ _ c.from_residual-in_err-ask-2.ensures.1 c.in_err-ask-2.ensures)
    ∙ asked c.args.area.now c.args.caller c.args.owner c.args.place (Load c.args.header.now) refl

pub returns-in_err-ask-3 : goal.returns-in_err-ask-3
returns-in_err-ask-3 c =
    goes_past _ _ _ _ _ _ c.in_ok-ask.ensures c.missions_right.ensures
    (goes_on _ _ _ c.in_ok-ask-2.ensures
    (stops _ _ _ _ c.from_residual-in_err-ask-3.ensures.1 c.in_err-ask-3.ensures))
    ∙ asked c.args.area.now c.args.caller c.args.owner c.args.place (Load c.args.header.now) refl

pub returns-in_err-header_says : goal.returns-in_err-header_says
returns-in_err-header_says c =
    goes_past _ _ _ _ _ _ c.in_ok-ask.ensures c.missions_right.ensures
    (goes_on _ _ _ c.in_ok-ask-2.ensures
    (goes_on _ _ _ c.in_ok-ask-3.ensures
    (stops _ _ _ _ c.from_residual-in_err-header_says.ensures.1 c.in_err-header_says.ensures)))
    ∙ asked c.args.area.now c.args.caller c.args.owner c.args.place (Load c.args.header.now) refl

pub returns : goal.returns
returns c =
    goes_past _ _ _ _ _ _ c.in_ok-ask.ensures c.missions_right.ensures
    (goes_on _ _ _ c.in_ok-ask-2.ensures
    (goes_on _ _ _ c.in_ok-ask-3.ensures
    (goes_on _ _ _ c.in_ok-header_says.ensures c.ask-4.ensures)))
    ∙ asked c.args.area.now c.args.caller c.args.owner c.args.place (Load c.args.header.now) refl
