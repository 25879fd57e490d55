-- The front of the room holds the input bits that the second output gives, and these are packed.
use mathlib.Core.Path.{◌≡◌, sym, ap, ◌∙◌}
use mathlib.Core.List.{List, ◌++◌}
use Prim.Native.Nat.{ℕ, ◌^◌, ◌≤◌, ◌<◌}
use native.Mathlib.Omega.{arith}
use lib.ListN.{length, take, drop, get_or}
use lib.Seq.{length-take-le, take_at, length_front}
use Rattle.bits.specs.Pack.{bit_at}
use Rattle.bits.proofs.Laws.Pack.{bit_bytes}
use Rattle.bits.specs.Basics.{tab}
use Rattle.bits.proofs.Laws.Table.{get_or_tab, tab_bits}
use Rattle.sizes.specs.Inner.{input_bits}
use Rattle.sizes.proofs.Laws.Rate.{input_room}
use Rattle.convolution.specs.Code.{decode}
use Rattle.convolution.proofs.Laws.Code.{decode_bits}
use Rattle.decoder.specs.Inner.{Packs}
use Rattle.decoder.proofs.packed.Goals as goal

-- the input bits fit the room, and after the decoding they are its front
module _ (rate n : ℕ) (coded room input : List ℕ) (p : Packs rate coded room input) (e : n ≡ input_bits rate) where
  room-long : n ≤ length room
  unfolding input_bits
  room-long = omega (arith, input_room rate p.decodes.rate_ok, p.room_size)

  part : (xs : List ℕ) → length xs ≡ length (take n room) → take n (xs ++ drop n room) ≡ xs
  part xs k = take_at xs (drop n room) n (k ∙ length-take-le n room room-long)

pub slice_bounds-unpacked-end : goal.slice_bounds-unpacked-end
slice_bounds-unpacked-end c = room-long _ _ _ _ _ c.requires c.input_bits-n.ensures

pub slice_bounds-unpacked-end-2 : goal.slice_bounds-unpacked-end-2
slice_bounds-unpacked-end-2 c =
    sym (length-take-le _ _ (room-long _ _ _ _ _ c.requires c.input_bits-n.ensures))

pub unpacked-requires : goal.unpacked-requires
unpacked-requires c =
    let s = c in
    record {
      rate_ok = s.requires.decodes.rate_ok;
      coded_size = s.requires.decodes.coded_size;
      bits_size = length-take-le _ _ (room-long _ _ _ _ _ c.requires c.input_bits-n.ensures) ∙ c.input_bits-n.ensures;
    }

pub slice_bounds-pack-end : goal.slice_bounds-pack-end
slice_bounds-pack-end c =
    let s = c in
    let d = c in
    let n : ℕ = d.input_bits-n.result in
    let l : n ≤ length s.args.room.now = room-long _ n _ _ _ s.requires d.input_bits-n.ensures in
    omega (arith, l, length_front s.args.room.now d.unpacked.new.bits n d.unpacked.auto.bits)

pub slice_bounds-pack-end-2 : goal.slice_bounds-pack-end-2
slice_bounds-pack-end-2 c =
    let s = c in
    let d = c in
    let n : ℕ = d.input_bits-n.result in
    let en = c.input_bits-n.ensures in
    sym (ap length (part _ n _ _ _ s.requires en d.unpacked.new.bits d.unpacked.auto.bits) ∙ d.unpacked.auto.bits ∙ length-take-le n s.args.room.now (room-long _ n _ _ _ s.requires en))

pub pack-requires : goal.pack-requires
unfolding input_bits
pack-requires c =
    let s = c in
    let d = c in
    let n : ℕ = d.input_bits-n.result in
    let y : ℕ → ℕ = λ j. get_or s.args.coded.now j 0 in
    let e = part _ n _ _ _ s.requires d.input_bits-n.ensures d.unpacked.new.bits d.unpacked.auto.bits ∙ d.unpacked.ensures in
    ((let small : length c.args.input.now < 2 ^ 32 = omega (arith, input_room c.args.rate c.requires.decodes.rate_ok, c.requires.decodes.input_size) in small), λ i. rw e (tab_bits (input_bits s.args.rate) (decode s.args.rate y) (decode_bits s.args.rate y s.requires.decodes.coded_bits) i))

pub returns : goal.returns
returns c =
    let s = c in
    let d = c in
    let r = c.args.rate in
    let n : ℕ = d.input_bits-n.result in
    let y : ℕ → ℕ = λ j. get_or s.args.coded.now j 0 in
    let held : List ℕ = take n (d.unpacked.new.bits ++ drop n s.args.room.now) in
    let e : held ≡ tab (input_bits r) (decode r y) = part _ n _ _ _ s.requires d.input_bits-n.ensures d.unpacked.new.bits d.unpacked.auto.bits ∙ d.unpacked.ensures in
    λ i l.
    ap (λ (b : List ℕ). bit_at b i) c.pack.ensures
    ∙ bit_bytes (length s.args.input.now) (λ k. get_or held k 0) (λ k. rw e (tab_bits (input_bits r) (decode r y) (decode_bits r y s.requires.decodes.coded_bits) k)) i (omega (arith, s.requires.decodes.input_size))
    ∙ ap (λ (xs : List ℕ). get_or xs i 0) e ∙ get_or_tab (input_bits r) (decode r y) i l
