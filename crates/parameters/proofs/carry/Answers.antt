-- The symbols passed stand in place, and zeros after them.
use mathlib.Core.Path.{sym, ◌∙◌}
use native.Mathlib.Omega.{arith}
use Rattle.std.proofs.lemmas.List.{length-take-le}
use Rattle.header_questions.proofs.Laws.Marks.{lent_le, lent_most}
use Rattle.parameters.proofs.Carried.{carried}
use Rattle.parameters.proofs.carry.Goals as goal

pub slice_bounds-marks-end : goal.slice_bounds-marks-end
slice_bounds-marks-end c = omega (arith, lent_most c.args.f c.args.marker.now)

pub slice_bounds-copy_from_slice-end : goal.slice_bounds-copy_from_slice-end
slice_bounds-copy_from_slice-end c = sym (length-take-le c.lent_marks-markers.result _ (omega (arith, lent_most c.args.f c.args.marker.now)))

pub slice_bounds-copy_from_slice-end-2 : goal.slice_bounds-copy_from_slice-end-2
slice_bounds-copy_from_slice-end-2 c = sym (length-take-le c.lent_marks-markers.result c.args.marker.now (omega (arith, lent_le c.args.f c.args.marker.now)))

pub copy_from_slice-requires : goal.copy_from_slice-requires
copy_from_slice-requires c =
    length-take-le c.lent_marks-markers.result _ (omega (arith, lent_most c.args.f c.args.marker.now))
    ∙ sym (length-take-le c.lent_marks-markers.result c.args.marker.now (omega (arith, lent_le c.args.f c.args.marker.now)))

pub returns : goal.returns
returns c =
    carried c.args.f c.args.marker.now c.copy_from_slice.new.self c.lent_marks-markers.result c.lent_marks-markers.ensures
    (omega (arith, lent_most c.args.f c.args.marker.now)) c.copy_from_slice.ensures.after
