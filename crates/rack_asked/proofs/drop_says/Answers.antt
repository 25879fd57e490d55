-- Each answer is that of the first question answered no; the ones before it were answered yes.
use mathlib.Core.Path.{refl, sym, ◌∙◌}
use borrow.Author.Tests.{ltb-true}
use Rattle.answers.proofs.Laws.Answer.{stops_at, goes_past, says_last, said_yes, ask_done}
use Rattle.rack.specs.Rack.{Drop}
use Rattle.rack_asked.proofs.Laws.Said.{missions_place, asked}
use Rattle.rack_asked.proofs.drop_says.Goals as goal

pub returns-in_err-ask : goal.returns-in_err-ask
returns-in_err-ask c =
    stops_at _ _ _ _ _ _ _ c.from_residual.ensures.1 c.in_err-ask.ensures c.missions_right.ensures
    ∙ asked c.args.area.now c.args.caller c.args.owner c.args.place Drop refl

pub returns-in_err-ask-2 : goal.returns-in_err-ask-2
returns-in_err-ask-2 c =
    goes_past _ _ _ _ _ _ c.in_ok-ask.ensures c.missions_right.ensures
    (stops_at _ _ _ _ _ _ _ c.from_residual-in_err-ask-2.ensures.1 c.in_err-ask-2.ensures refl)
    ∙ asked c.args.area.now c.args.caller c.args.owner c.args.place Drop refl

pub own_loaded-requires : goal.own_loaded-requires
own_loaded-requires c =
    missions_place c.args.caller _ _ (said_yes _ _ _ _ c.in_ok-ask.ensures c.missions_right.ensures) (ltb-true _ _ (ask_done _ 24 0 (sym c.in_ok-ask-2.ensures)))

pub returns-in_err-ask-3 : goal.returns-in_err-ask-3
returns-in_err-ask-3 c =
    goes_past _ _ _ _ _ _ c.in_ok-ask.ensures c.missions_right.ensures
    (goes_past _ _ _ _ _ _ c.in_ok-ask-2.ensures refl
    (stops_at _ _ _ _ _ _ _ c.from_residual-in_err-ask-3.ensures.1 c.in_err-ask-3.ensures c.own_loaded.ensures))
    ∙ asked c.args.area.now c.args.caller c.args.owner c.args.place Drop refl

pub returns : goal.returns
returns c =
    goes_past _ _ _ _ _ _ c.in_ok-ask.ensures c.missions_right.ensures
    (goes_past _ _ _ _ _ _ c.in_ok-ask-2.ensures refl
    (goes_past _ _ _ _ _ _ c.in_ok-ask-3.ensures c.own_loaded.ensures c.ask-4.ensures))
    ∙ asked c.args.area.now c.args.caller c.args.owner c.args.place Drop refl
