-- The answer first; then the entry is written, with the loan that it had.
use mathlib.Core.Path.{ap, ◌∙◌}
use mathlib.Core.List.{◌∷◌}
use Prim.Native.Nat.{ℕ}
use Rattle.rack.specs.Rack.{put, filled}
use Rattle.rack_asked.proofs.Laws.Said.{named, area_whole, header_whole, step_no, step_yes}
use Rattle.rack_calls.proofs.load.Goals as goal

pub returns-in_err-load_says-clause-area_after : goal.returns-in_err-load_says-clause-area_after
returns-in_err-load_says-clause-area_after c = step_no _ _ _ _ c.in_err-load_says.ensures

pub status-requires : goal.status-requires
status-requires c = named _ _ c.in_ok-load_says.ensures

pub set_entry-requires : goal.set_entry-requires
set_entry-requires c =
    let done = c.in_ok-load_says.ensures in
    (named _ _ done, area_whole _ _ done, header_whole _ _ _ _ _ done)

pub returns-clause-area_after : goal.returns-clause-area_after
returns-clause-area_after c =
    let a = c.args in
    c.set_entry.ensures
    ∙ ap (λ (s : ℕ). put a.area.now a.owner a.place (s ∷ a.header.now)) (c.filled-status.ensures ∙ ap filled c.status.ensures)
    ∙ step_yes _ _ c.in_ok-load_says.ensures
