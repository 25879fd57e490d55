-- The answer first; then the header is copied out.
use Rattle.rack_asked.proofs.Laws.Said.{named, area_whole, slice_whole}
use Rattle.rack_calls.proofs.read.Goals as goal

pub get_header-requires : goal.get_header-requires
get_header-requires c =
    let done = c.in_ok-read_says.ensures in
    (named _ _ done, area_whole _ _ done, slice_whole _ _ _ _ _ done)
