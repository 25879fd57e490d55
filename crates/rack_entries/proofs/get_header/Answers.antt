-- The ten bytes after the status.
use mathlib.Core.Path.{ap, ◌∙◌}
use native.Mathlib.Omega.{arith}
use Prim.Native.Nat.{ℕ, ◌+◌}
use Rattle.rack_entries.proofs.Bytes.{header_copied}
use Rattle.rack_entries.proofs.get_header.Goals as goal

pub returns : goal.returns
returns c =
    let a = c.args in
    header_copied a.area.now a.owner a.place c.copy_from_slice.new.self _ _ (omega arith) (omega arith) (c.copy_from_slice.ensures.len ∙ c.requires.2) c.copy_from_slice.ensures.after
