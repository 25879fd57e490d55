-- The slices of a call that is accepted have their lengths.
use mathlib.Core.Path.{◌≡◌, sym, ◌∙◌}
use mathlib.Core.Bool.{Bool, true}
use mathlib.Core.List.{List}
use Prim.Native.Nat.{ℕ}
use lib.ListN.{length}
use Rattle.uplink.specs.Uplink.{codeblock_count, uplink_lengths_right}
use Rattle.uplink.proofs.Laws.Uplink.{lengths_sized}
use Rattle.uplink.specs.Inner.{Framed, Slotted}

module _ (slots : List ℕ) (m : ℕ) (t : Bool) (e : t ≡ uplink_lengths_right (codeblock_count slots) m (length slots)) where
  pub slotted : t ≡ true → Slotted (codeblock_count slots) slots
  slotted f = let s = lengths_sized (codeblock_count slots) m (length slots) (sym e ∙ f) in record { long = s.slots; most = s.most }

  pub frames_slotted : (frames : List ℕ) → m ≡ length frames → t ≡ true → Framed (codeblock_count slots) frames
  frames_slotted frames l f =
      let s = lengths_sized (codeblock_count slots) m (length slots) (sym e ∙ f) in
      record { long = sym l ∙ s.frames; most = s.most }
