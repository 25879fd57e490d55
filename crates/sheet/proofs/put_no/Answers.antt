-- `no`, and after it the number as the one item.
use mathlib.Core.List.{[], ◌∷◌}
use Rattle.sheet.specs.Text.{items}
use Rattle.sheet.proofs.Pieces.{put_put}
use Rattle.sheet.specs.Line.{no_line}
use Rattle.sheet.proofs.put_no.Goals as goal

pub returns : goal.returns
unfolding no_line
returns c =
    let a = c.args in
    let p = c.put-at in
    put_put a.out.now p.new.out c.put_items.new.out (110 ∷ 111 ∷ []) (items (a.number ∷ [])) 0 p.result c.put_items.result
    p.ensures c.put_items.ensures
