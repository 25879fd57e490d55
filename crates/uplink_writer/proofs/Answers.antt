-- The slices of a call that is accepted have their lengths.
use mathlib.Core.Path.{◌≡◌, sym, ◌∙◌}
use mathlib.Core.Bool.{Bool, true}
use mathlib.Core.List.{List}
use Prim.Native.Nat.{ℕ}
use lib.ListN.{length}
use Rattle.uplink.specs.Uplink.{frame_count, uplink_lengths_right}
use Rattle.uplink.proofs.Laws.Uplink.{lengths_sized}
use Rattle.uplink.specs.Inner.{Framed, Slotted}

module _ (frames : List ℕ) (m : ℕ) (t : Bool) (e : t ≡ uplink_lengths_right (frame_count frames) (length frames) m) where
  pub framed : t ≡ true → Framed (frame_count frames) frames
  framed f = let s = lengths_sized (frame_count frames) (length frames) m (sym e ∙ f) in record { long = s.frames; most = s.most }

  pub slots_framed : (slots : List ℕ) → m ≡ length slots → t ≡ true → Slotted (frame_count frames) slots
  slots_framed slots l f =
      let s = lengths_sized (frame_count frames) (length frames) m (sym e ∙ f) in
      record { long = sym l ∙ s.slots; most = s.most }
