-- What the walk over a run requires of its numbers.
use Rattle.std.specs.Prelude.{◌^◌, ◌≤◌, ◌<◌}
use Rattle.channel.specs.Channel.{total, layout_symbols}
use Rattle.channel.specs.declared.Layout.{Layout}

-- the numbers of a run that a header describes are not large
pub record Small (g : Layout) : Type 0 where
  pub rows_least : 1 ≤ g.rows
  pub rows_most : g.rows ≤ 128
  pub step_most : g.step ≤ 256
  pub symbols_least : 1 ≤ g.symbols
  pub symbols_most : g.symbols ≤ 7560
  pub markers_most : g.markers ≤ 32
  pub total_most : total g < 2 ^ 31
  pub count_most : layout_symbols g < 2 ^ 23
