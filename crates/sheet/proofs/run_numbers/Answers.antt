-- Each number is what its function gives.
use mathlib.Core.Path.{ap₂, ◌∙◌}
use mathlib.Core.List.{[], ◌∷◌}
use Prim.Native.Nat.{ℕ}
use Rattle.header_sizes.specs.Quantities.{pulse_order, block_count}
use Rattle.sheet.specs.Line.{run_numbers}
use Rattle.sheet.proofs.run_numbers.Goals as goal

pub returns : goal.returns
unfolding run_numbers
returns c =
    let f = c.args.f in
    let m = c.pulse_order-order in
    let b = c.block_count-blocks in
    let s = c.sent_symbols-symbols in
    ap₂ (λ (x y : ℕ). x ∷ f.rows ∷ f.step ∷ f.size ∷ f.markers ∷ f.frames ∷ y ∷ s.result ∷ c.slot_count-slots.result ∷ f.copies ∷ []) m.ensures b.ensures
    ∙ ap₂ (λ (x y : ℕ). pulse_order f ∷ f.rows ∷ f.step ∷ f.size ∷ f.markers ∷ f.frames ∷ block_count f ∷ x ∷ y ∷ f.copies ∷ []) s.ensures c.slot_count-slots.ensures
