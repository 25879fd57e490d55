-- The proofs of card 1.
use mathlib.Core.Path.{◌≡◌, refl, ap, ◌∙◌}
use Prim.Native.Nat.{ℕ, ◌+◌, ◌*◌, ◌^◌, ◌<◌}
use native.Mathlib.Omega.{arith}
use lib.ListN.{length, get_or}
use borrow.Author.Tests.{eq-eqb, ne_eqb}
use Rattle.bits.specs.Basics.{bool}
use Rattle.answers.specs.Answer.{Answer, Done, code_with, after}
use Rattle.bits.specs.Pack.{bit_at, cut}
use Rattle.bits.proofs.Laws.Pack.{bit_lt, bytes_are, cut_bits}
use Rattle.header.specs.declared.Fields.{Fields}
use Rattle.header.specs.Header.{fields_of}
use Rattle.header_sizes.specs.Quantities.{pulse_order, slots_per_symbol, slot_count, slot_bytes}
use Rattle.plan.specs.Plan.{plan_in}
use Rattle.run.specs.Run as runs
use Rattle.run.proofs.Laws.Return as run_laws
use Rattle.capture_search.specs.Search.{first_fit, find_lengths_right, slot_says, find_from_says, MarkerAt}
use Rattle.capture_search.proofs.Laws.Search as search_laws
use Rattle.capture_search.proofs.Laws.Theorems as search_theorems
use Rattle.capture_cut.specs.Cut as cuts
use Rattle.capture_cut.proofs.Laws.Cut as cut_laws
use Rattle.capture_cut.proofs.Laws.Theorems as cut_theorems
use Rattle.capture_cut.specs.Cut.{cut_after}
use Rattle.promises_runs.specs.Card1.{Card1, FindAsks, FoundCode, RefusedFind, MarkerMeans, RunMeans, Earliest, SymbolsStand, NoneFits, NoneIs19, CutAsks, CutSlots, RefusedCut, RunFound, RunReads, CutBytes}

pub find_asks : FindAsks
unfolding find_from_says find_lengths_right slot_says
find_asks header marker capture = refl

pub found_code : FoundCode
found_code header marker capture e = ap (λ (a : Answer). code_with a (first_fit (plan_in header marker) capture)) e

pub refused_find : RefusedFind
refused_find header marker capture number place e = ap (λ (a : Answer). code_with a (first_fit (plan_in header marker) capture)) e

pub marker_means : MarkerMeans
unfolding slots_per_symbol pulse_order
marker_means header marker capture x w group ew eg = rw (ew, eg) (λ at. (at.inside, at.slot), λ inside slot. record { inside = inside; slot = slot })

pub earliest : Earliest
earliest header marker capture e s es = rw es (search_theorems.earliest_slot header marker capture e)

pub symbols_stand : SymbolsStand
unfolding slots_per_symbol pulse_order
symbols_stand header marker capture e s es order w eo l =
    let f = search_laws.find_accepted header marker capture 0 e in
    let q : ℕ = get_or marker w 0 in
    let below : q < 2 ^ (fields_of header).bits = (search_theorems.lent header marker f.header_is f.marker_is).marks_below w l in
    let at : MarkerAt header marker capture s = (earliest header marker capture e s es).0 in
    rw eo (
      below,
      at.slot w q l (omega arith) ∙ ap bool (eq-eqb q q refl),
      λ r h ne. at.slot w r l h ∙ ap bool (ne_eqb r q ne),
    )

pub none_fits : NoneFits
none_fits = search_theorems.no_slot

pub none_is_19 : NoneIs19
none_is_19 = search_theorems.no_slot_19

pub cut_asks : CutAsks
unfolding cuts.cut_says cuts.cut_lengths_right
cut_asks header capture_length s slots_length = refl

pub cut_slots : CutSlots
cut_slots header capture s old e = rw e (cut_laws.cut_bits (fields_of header) capture s)

pub cut_bytes : CutBytes
unfolding cuts.cut_of
cut_bytes header capture s old e =
    let f : Fields = fields_of header in
    rw e (bytes_are (slot_bytes f) (cut (slot_count f) (λ i. bit_at capture (s + i))) (cut_bits (slot_count f) (λ i. bit_at capture (s + i)) (λ i. bit_lt capture (s + i))))

pub refused_cut : RefusedCut
refused_cut header capture s old number place e = ap (λ (a : Answer). after a (cuts.cut_of (fields_of header) capture s) old) e

pub run_means : RunMeans
run_means header marker frames capture s = (λ at. (at.inside, at.slot), λ inside slot. record { inside = inside; slot = slot })

pub run_found : RunFound
run_found header marker frames n written capture s short begins one none =
    let f = cut_theorems.run_found header marker frames n written capture s short begins one none in
    found_code header marker capture f.0 ∙ ap (λ (x : ℕ). x * 256) f.1

pub run_reads : RunReads
run_reads header marker frames n written capture s short begins bytes old el =
    let c = cut_theorems.run_cut header marker frames n written capture s short begins in
    let r = run_laws.written_read header marker frames n bytes written in
    let done : cuts.cut_says header (length capture) s (length old) ≡ Done = rw el c.0 in
    let run : cut_after header capture s old ≡ runs.run_of header marker frames =
    ap (λ (a : Answer). after a (cuts.cut_of (fields_of header) capture s) old) done ∙ c.1 in
    (done, run, rw run r.0, rw run r.1)

-- all of it
pub card_1 : Card1
card_1 = record {
  find_asks = find_asks;
  found_code = found_code;
  refused_find = refused_find;
  marker_means = marker_means;
  earliest = earliest;
  symbols_stand = symbols_stand;
  none_fits = none_fits;
  none_is_19 = none_is_19;
  cut_asks = cut_asks;
  cut_slots = cut_slots;
  cut_bytes = cut_bytes;
  refused_cut = refused_cut;
  run_means = run_means;
  run_found = run_found;
  run_reads = run_reads;
}
