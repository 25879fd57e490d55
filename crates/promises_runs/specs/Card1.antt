-- Card 1. "Our recorders start on any slot. We want a search over a lent capture that gives the earliest slot at which a whole marker stands, each
-- symbol with its guard slots empty. The search tries every starting slot and leaves a candidate at its first wrong slot. Every bit of the capture
-- is a slot, and it may have any number of bytes up to 2^53; a longer one gets 8. If a sound run begins at slot s and no earlier slot fits, the
-- answer is number 0 with s as its place, and the run's number of slots from there, packed anew, reads as that run's frames. Turned away: 19 when no
-- slot fits, put after 8."
--
-- Slot i of a capture is `bitAt capture i`. `MarkerAt` (capture_search/specs/Search.antt) says that the whole marker begins at a slot: its W symbols of M
-- + M/4 slots lie in the capture, and each slot has a pulse if it is the symbol, and none otherwise. `RunAt` (capture_cut/specs/Cut.antt) says that from a
-- slot on the capture has the slots of the run that is written for these frames. The contract of `mahyrei_run_find` is an equation with `find_code`, which
-- is made of the answer `find_says` and, for an acceptance, of the slot `first_fit`. That of `mahyrei_run_cut`, which packs a run's slots anew, is one with
-- `cut_says` and `cut_of`.
use Rattle.std.specs.Prelude.{◌≡◌, List, ℕ, ◌+◌, ◌-◌, ◌*◌, ◌/◌, ◌^◌, ◌≤◌, ◌<◌, ltb, leb, eqb, length, get_or}
use Rattle.bits.specs.Pack.{bit_at, Bytes}
use Rattle.bits.specs.Basics.{bool, both}
use Rattle.answers.specs.Answer.{Done, No, ask, then}
use Rattle.header.specs.Header.{fields_of}
use Rattle.header_sizes.specs.Quantities.{slot_count, slot_bytes, marker_bytes}
use Rattle.header_questions.specs.Questions.{header_says, run_says}
use Rattle.plan.specs.Plan.{plan_in}
use Rattle.run.specs.Run as runs
use Rattle.run.specs.Run.{run_read_says, run_write_says}
use Rattle.capture_search.specs.Search.{first_fit, marker_slots, find_says, find_code, MarkerAt}
use Rattle.capture_cut.specs.Cut as cuts
use Rattle.capture_cut.specs.Cut.{RunAt, cut_after}

-- ---- the search

-- its questions: 1 to 7 and 20 of the header and the marker symbols, then the lengths, then whether any slot fits. "Any number of bytes up to 2^53; a longer
-- one gets 8." "19 when no slot fits, put after 8."
abbrev pub FindAsks : Type 0
FindAsks =
    (header marker capture : List ℕ)
    → find_says header marker capture
    ≡ then (run_says header marker)
    (then (ask (both (eqb (length marker) (marker_bytes (fields_of header))) (leb (length capture) (2 ^ 53))) 8 0)
    (ask (ltb (first_fit (plan_in header marker) capture) (8 * length capture + 1 - marker_slots (plan_in header marker))) 19 0))

-- an acceptance goes to C as number 0 with the slot as its place
abbrev pub FoundCode : Type 0
FoundCode =
    (header marker capture : List ℕ) → find_says header marker capture ≡ Done
    → find_code header marker capture ≡ first_fit (plan_in header marker) capture * 256

-- and a refusal as its own number and place
abbrev pub RefusedFind : Type 0
RefusedFind =
    (header marker capture : List ℕ) (number place : ℕ) → find_says header marker capture ≡ No number place
    → find_code header marker capture ≡ place * 256 + number

-- the whole marker begins at slot x: its W symbols of M + M/4 slots lie in the capture, and a slot has a pulse if it is the symbol, and none if not
abbrev pub MarkerMeans : Type 0
MarkerMeans =
    (header marker capture : List ℕ) (x w group : ℕ) → w ≡ (fields_of header).markers → group ≡ 2 ^ (fields_of header).bits + 2 ^ (fields_of header).bits / 4
    → (MarkerAt header marker capture x
    → (x + w * group ≤ 8 * length capture)
    × ((i r : ℕ) → i < w → r < group → bit_at capture (x + (i * group + r)) ≡ bool (eqb r (get_or marker i 0))))
    × (x + w * group ≤ 8 * length capture
    → ((i r : ℕ) → i < w → r < group → bit_at capture (x + (i * group + r)) ≡ bool (eqb r (get_or marker i 0)))
    → MarkerAt header marker capture x)

-- "The earliest slot at which a whole marker stands",
abbrev pub Earliest : Type 0
Earliest =
    (header marker capture : List ℕ) → find_says header marker capture ≡ Done → (s : ℕ) → s ≡ first_fit (plan_in header marker) capture
    → MarkerAt header marker capture s × ((x : ℕ) → x < s → MarkerAt header marker capture x → ⊥)

-- "each symbol with its guard slots empty": of the M + M/4 slots of symbol w the one that is the symbol has a pulse, and no other.
abbrev pub SymbolsStand : Type 0
SymbolsStand =
    (header marker capture : List ℕ) → find_says header marker capture ≡ Done → (s : ℕ) → s ≡ first_fit (plan_in header marker) capture
    → (order w : ℕ) → order ≡ 2 ^ (fields_of header).bits → w < (fields_of header).markers
    → (get_or marker w 0 < order)
    × (bit_at capture (s + (w * (order + order / 4) + get_or marker w 0)) ≡ 1)
    × ((r : ℕ) → r < order + order / 4 → (r ≡ get_or marker w 0 → ⊥) → bit_at capture (s + (w * (order + order / 4) + r)) ≡ 0)

-- 19 says that no slot fits,
abbrev pub NoneFits : Type 0
NoneFits = (header marker capture : List ℕ) → find_says header marker capture ≡ No 19 0 → (x : ℕ) → MarkerAt header marker capture x → ⊥

-- and is the answer where none does.
abbrev pub NoneIs19 : Type 0
NoneIs19 =
    (header marker capture : List ℕ) → run_says header marker ≡ Done → length marker ≡ (fields_of header).markers → length capture ≤ 2 ^ 53
    → ((x : ℕ) → MarkerAt header marker capture x → ⊥) → find_says header marker capture ≡ No 19 0

-- ---- the slots from there, packed anew

-- the questions of that call: 1 to 7 and 20 of the header alone, and 8, which also asks whether the slots lie in the capture
abbrev pub CutAsks : Type 0
CutAsks =
    (header : List ℕ) (capture_length s slots_length : ℕ)
    → cuts.cut_says header capture_length s slots_length
    ≡ then (header_says header)
    (ask (both (leb capture_length (2 ^ 53))
    (both (eqb slots_length (slot_bytes (fields_of header))) (leb (s + slot_count (fields_of header)) (8 * capture_length)))) 8 0)

-- "The run's number of slots from there, packed anew": slot i is slot s + i of the capture, and spare bits are 0
abbrev pub CutSlots : Type 0
CutSlots =
    (header capture : List ℕ) (s : ℕ) (old : List ℕ) → cuts.cut_says header (length capture) s (length old) ≡ Done
    → (length (cut_after header capture s old) ≡ slot_bytes (fields_of header))
    × ((i : ℕ) → i < slot_count (fields_of header) → bit_at (cut_after header capture s old) i ≡ bit_at capture (s + i))
    × ((i : ℕ) → slot_count (fields_of header) ≤ i → bit_at (cut_after header capture s old) i ≡ 0)

-- what is cut out is bytes, and so may be put to the reader
abbrev pub CutBytes : Type 0
CutBytes =
    (header capture : List ℕ) (s : ℕ) (old : List ℕ) → cuts.cut_says header (length capture) s (length old) ≡ Done → Bytes (cut_after header capture s old)

-- a refused call leaves the slice as it was
abbrev pub RefusedCut : Type 0
RefusedCut =
    (header capture : List ℕ) (s : ℕ) (old : List ℕ) (number place : ℕ)
    → cuts.cut_says header (length capture) s (length old) ≡ No number place
    → cut_after header capture s old ≡ old

-- ---- "If a sound run begins at slot s": one that is written for some frames; what comes before and after it in the capture is free

abbrev pub RunMeans : Type 0
RunMeans =
    (header marker frames capture : List ℕ) (s : ℕ)
    → (RunAt header marker frames capture s
    → (s + slot_count (fields_of header) ≤ 8 * length capture)
    × ((i : ℕ) → i < slot_count (fields_of header) → bit_at capture (s + i) ≡ bit_at (runs.run_of header marker frames) i))
    × (s + slot_count (fields_of header) ≤ 8 * length capture
    → ((i : ℕ) → i < slot_count (fields_of header) → bit_at capture (s + i) ≡ bit_at (runs.run_of header marker frames) i)
    → RunAt header marker frames capture s)

-- "and no earlier slot fits, the answer is number 0 with s as its place": where each symbol is sent once, since then the whole marker begins there;
abbrev pub RunFound : Type 0
RunFound =
    (header marker frames : List ℕ) (n : ℕ) → run_write_says header marker frames n ≡ Done
    → (capture : List ℕ) (s : ℕ) → length capture ≤ 2 ^ 53 → RunAt header marker frames capture s
    → (fields_of header).copies ≡ 1 → ((x : ℕ) → x < s → MarkerAt header marker capture x → ⊥)
    → find_code header marker capture ≡ s * 256

-- "and the run's number of slots from there, packed anew, reads as that run's frames."
abbrev pub RunReads : Type 0
RunReads =
    (header marker frames : List ℕ) (n : ℕ) → run_write_says header marker frames n ≡ Done
    → (capture : List ℕ) (s : ℕ) → length capture ≤ 2 ^ 53 → RunAt header marker frames capture s
    → Bytes frames → (old : List ℕ) → length old ≡ n
    → (cuts.cut_says header (length capture) s (length old) ≡ Done)
    × (cut_after header capture s old ≡ runs.run_of header marker frames)
    × (run_read_says header marker (cut_after header capture s old) (length frames) ≡ Done)
    × (runs.frames_read header marker (cut_after header capture s old) ≡ frames)

-- ---- what is promised, all of it: the contract of `card_1`
pub record Card1 : Type 0 where
  pub find_asks : FindAsks
  pub found_code : FoundCode
  pub refused_find : RefusedFind
  pub marker_means : MarkerMeans
  pub earliest : Earliest
  pub symbols_stand : SymbolsStand
  pub none_fits : NoneFits
  pub none_is_19 : NoneIs19
  pub cut_asks : CutAsks
  pub cut_slots : CutSlots
  pub cut_bytes : CutBytes
  pub refused_cut : RefusedCut
  pub run_means : RunMeans
  pub run_found : RunFound
  pub run_reads : RunReads
