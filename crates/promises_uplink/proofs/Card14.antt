-- The proofs of card 14.
use mathlib.Core.Path.{◌≡◌, refl, sym, ap, ◌∙◌}
use mathlib.Core.List.{List}
use Prim.Native.Nat.{ℕ, ◌+◌, ◌-◌, ◌*◌, ◌/◌, ◌%◌}
use native.Mathlib.Omega.{arith}
use lib.ListN.{length}
use Rattle.answers.specs.Answer.{Answer, Done, after}
use Rattle.bits.proofs.Laws.Pack.{bytes_are}
use Rattle.randomizer.specs.Randomizer.{randomize}
use Rattle.ldpc.specs.Code.{rows, row_bit, parity_bit}
use Rattle.ldpc.proofs.Laws.Code.{codeword_first, codeword_behind}
use Rattle.ldpc.proofs.Laws.Exactly as code_laws
use Rattle.uplink.specs.Uplink.{sent_bit, slot_of, frame_count, codeblock_count, uplink_slots_of, received, uplink_frames_of, uplink_lengths_right, first_no_bit, first_bad_block, uplink_write_says, uplink_slots_say, uplink_read_says, uplink_slots_after, uplink_frames_after}
use Rattle.uplink.proofs.Laws.Uplink as slot_laws
use Rattle.uplink.proofs.Laws.Return as uplink_laws
use Rattle.uplink.proofs.Laws.Exports as answer_laws
use Rattle.promises_uplink.specs.Card14.{Card14, FrameFirst, ParityBehind, ParityIs, CodewordsExactly, UplinkSlotIs, GuardsEmpty, SlotsLong, CodeblockAlone, WriterAsks, ReaderAsks, AlwaysWritten, ReceivedIs, GroupIsBit, BadGroup, BadCodeblock, AcceptedExactly, UplinkWriterNumbers, UplinkReaderNumbers, UplinkWriteNot17, UplinkReadNot17, WrittenRead, ReadWritten, UplinkBytes, UplinkOne, ThereAndBack, BackAndThere, RefusedWrite, RefusedRead}

pub frame_first : FrameFirst
frame_first = codeword_first

pub parity_behind : ParityBehind
parity_behind u t =
    let d : 64 + t - 64 ≡ t = omega arith in
    codeword_behind u (64 + t) (omega arith) ∙ ap (parity_bit u) d

pub parity_is : ParityIs
unfolding parity_bit row_bit rows
parity_is u t = refl

pub codewords_exactly : CodewordsExactly
codewords_exactly = code_laws.codewords_exactly

pub uplink_slot_is : UplinkSlotIs
uplink_slot_is = uplink_laws.slot_is

pub guards_empty : GuardsEmpty
guards_empty = uplink_laws.guards_empty

pub slots_long : SlotsLong
slots_long = slot_laws.slots_long

pub codeblock_alone : CodeblockAlone
codeblock_alone = uplink_laws.each_alone

pub writer_asks : WriterAsks
unfolding uplink_write_says uplink_lengths_right
writer_asks frames m n e = rw e refl

pub reader_asks : ReaderAsks
unfolding uplink_read_says uplink_slots_say uplink_lengths_right first_no_bit first_bad_block
reader_asks slots m n e = rw e refl

pub always_written : AlwaysWritten
always_written = uplink_laws.always_written

pub received_is : ReceivedIs
unfolding received randomize
received_is slots i j = refl

pub group_is_bit : GroupIsBit
group_is_bit = uplink_laws.bit_is

pub bad_group : BadGroup
bad_group slots m p e = let b = answer_laws.bad_group slots m p e in (omega (arith, b.0, b.1), b.2, b.3)

pub bad_codeblock : BadCodeblock
bad_codeblock slots m p e = let b = answer_laws.bad_block slots m p e in (omega (arith, b.0, b.1), b.2, b.3, b.4)

pub accepted_exactly : AcceptedExactly
accepted_exactly = uplink_laws.accepted_exactly

pub uplink_writer_numbers : UplinkWriterNumbers
uplink_writer_numbers = answer_laws.write_numbers

pub uplink_reader_numbers : UplinkReaderNumbers
uplink_reader_numbers = answer_laws.read_numbers

pub uplink_write_not_17 : UplinkWriteNot17
uplink_write_not_17 frames m = (answer_laws.write_fits frames m).listed

pub uplink_read_not_17 : UplinkReadNot17
uplink_read_not_17 slots m = (answer_laws.read_fits slots m).listed

pub written_read : WrittenRead
written_read = uplink_laws.written_read

pub read_written : ReadWritten
read_written = uplink_laws.read_written

pub uplink_bytes : UplinkBytes
unfolding uplink_slots_of uplink_frames_of
uplink_bytes xs = (
  bytes_are (64 * frame_count xs) (slot_of (sent_bit xs)) (slot_laws.slot_bits (sent_bit xs)),
  bytes_are (8 * codeblock_count xs) (λ y. received xs (y / 64) (y % 64)) (λ y. slot_laws.received_bits xs (y / 64) (y % 64)),
)

pub uplink_one : UplinkOne
uplink_one a b m n ha hb wa wb e = sym (written_read a m ha wa).1 ∙ ap uplink_frames_of e ∙ (written_read b n hb wb).1

pub there_and_back : ThereAndBack
there_and_back frames slots back b w e =
    let r = written_read frames (length slots) b w in
    let written : uplink_slots_after frames slots ≡ uplink_slots_of frames = ap (λ (a : Answer). after a (uplink_slots_of frames) slots) w in
    let said : uplink_read_says (uplink_slots_of frames) (length back) ≡ Done = ap (uplink_read_says (uplink_slots_of frames)) e ∙ r.0 in
    ap (λ (s : List ℕ). uplink_frames_after s back) written ∙ ap (λ (a : Answer). after a (uplink_frames_of (uplink_slots_of frames)) back) said ∙ r.1

pub back_and_there : BackAndThere
back_and_there slots frames again b w e =
    let r = read_written slots (length frames) b w in
    let read : uplink_frames_after slots frames ≡ uplink_frames_of slots = ap (λ (a : Answer). after a (uplink_frames_of slots) frames) w in
    let said : uplink_write_says (uplink_frames_of slots) (length again) ≡ Done = ap (uplink_write_says (uplink_frames_of slots)) e ∙ r.0 in
    ap (λ (f : List ℕ). uplink_slots_after f again) read ∙ ap (λ (a : Answer). after a (uplink_slots_of (uplink_frames_of slots)) again) said ∙ r.1

pub refused_write : RefusedWrite
refused_write frames old number place e = ap (λ (a : Answer). after a (uplink_slots_of frames) old) e

pub refused_read : RefusedRead
refused_read slots old number place e = ap (λ (a : Answer). after a (uplink_frames_of slots) old) e

-- all of it
pub card_14 : Card14
card_14 = record {
  frame_first = frame_first;
  parity_behind = parity_behind;
  parity_is = parity_is;
  codewords_exactly = codewords_exactly;
  uplink_slot_is = uplink_slot_is;
  guards_empty = guards_empty;
  slots_long = slots_long;
  codeblock_alone = codeblock_alone;
  writer_asks = writer_asks;
  reader_asks = reader_asks;
  always_written = always_written;
  received_is = received_is;
  group_is_bit = group_is_bit;
  bad_group = bad_group;
  bad_codeblock = bad_codeblock;
  accepted_exactly = accepted_exactly;
  uplink_writer_numbers = uplink_writer_numbers;
  uplink_reader_numbers = uplink_reader_numbers;
  uplink_write_not_17 = uplink_write_not_17;
  uplink_read_not_17 = uplink_read_not_17;
  written_read = written_read;
  read_written = read_written;
  uplink_bytes = uplink_bytes;
  uplink_one = uplink_one;
  there_and_back = there_and_back;
  back_and_there = back_and_there;
  refused_write = refused_write;
  refused_read = refused_read;
}
