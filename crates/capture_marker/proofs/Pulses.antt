-- The slots of w symbols with one pulse more are those of w + 1; those of all W are the marker's.
use mathlib.Core.Path.{◌≡◌, refl, sym, ap, ap₂, ◌∙◌}
use mathlib.Core.List.{List}
use mathlib.Core.Logic.{⊎_elim}
use Prim.Native.Nat.{ℕ, ◌+◌, ◌-◌, ◌*◌, ◌/◌, ◌%◌, ◌^◌, ◌≤◌, ◌<◌}
use native.Mathlib.Omega.{arith}
use native.Mathlib.Nat.{mul-le-mul, div-add-mod', eq-or-lt_of_le, zero-div}
use lib.Arith.{digits_lt}
use lib.ListN.{length, get_or}
use borrow.Author.Tests.{lt-ltb, le-ltb, eq-eqb, ne_eqb}
use Rattle.bits.specs.Basics.{bool, up_to}
use Rattle.bits.proofs.Laws.Choice.{lt_or_le, eq_or_ne}
use Rattle.bits.specs.Pack.{bit_at}
use Rattle.bits.specs.Inner.{put_bit}
use Rattle.bits.proofs.Laws.Put.{put_same, put_other}
use Rattle.answers.specs.Answer.{No}
use Rattle.plan.specs.declared.Plan.{Plan}
use Rattle.plan.specs.Inner.{Fine}
use Rattle.pulses.specs.Pulses.{slot_bit}
use Rattle.pulses.proofs.Laws.Pulses.{slot_in, slot_past}
use Rattle.pattern_search.specs.Starts.{starts, missed, earliest}
use Rattle.pattern_search.proofs.Laws.Starts.{earliest_same, earliest_past}
use Rattle.capture_search.proofs.Laws.Search.{marker_sizes, slot_no}
use Rattle.capture_marker.specs.Inner.{Seeks}
use Rattle.capture_search.specs.Search.{marker_slots, marker_slot, first_fit_from, slot_says}

-- empty slots are those of no symbol
pub pulses_none : (g : ℕ) (f : ℕ → ℕ) (slots : List ℕ) → ((k : ℕ) → k < 1288 → get_or slots k 0 ≡ 0) → (x : ℕ) → x < 10304
    → bit_at slots x ≡ slot_bit g 0 f x
unfolding bit_at
pulses_none g f slots empty x l =
    ap (λ (v : ℕ). v / 2 ^ (7 - x % 8) % 2) (empty (x / 8) (omega arith))
    ∙ ap (λ (v : ℕ). v % 2) (zero-div (2 ^ (7 - x % 8)))
    ∙ sym (slot_past g 0 f x (omega arith))

module _ (g w : ℕ) (f : ℕ → ℕ) (small : f w < g) where
  pulse_here : slot_bit g (w + 1) f (w * g + f w) ≡ 1
  pulse_here = slot_in g (w + 1) f w (f w) small (omega arith) ∙ ap bool (eq-eqb (f w) (f w) refl)

  pulse_else : (x : ℕ) → (x ≡ w * g + f w → ⊥) → slot_bit g w f x ≡ slot_bit g (w + 1) f x
  unfolding slot_bit
  pulse_else x ne =
      ⊎_elim
      (λ (l : x / g < w). rw (lt-ltb (x / g) w l, lt-ltb (x / g) (w + 1) (omega arith)) refl)
      (λ (l : w ≤ x / g). ⊎_elim
      (λ (e : w ≡ x / g).
      let other : x % g ≡ f (x / g) → ⊥ = λ q. ne (sym (div-add-mod' x g) ∙ ap₂ (λ (a b : ℕ). a * g + b) (sym e) (q ∙ ap f (sym e))) in
      rw (le-ltb (x / g) w l, lt-ltb (x / g) (w + 1) (omega arith), ne_eqb (x % g) (f (x / g)) other) refl)
      (λ (h : w < x / g). rw (le-ltb (x / g) w l, le-ltb (x / g) (w + 1) (omega arith)) refl)
      (eq-or-lt_of_le l))
      (lt_or_le (x / g) w)

  pub pulses_more : (slots : List ℕ) → w * g + f w < 8 * length slots → ((x : ℕ) → x < 10304 → bit_at slots x ≡ slot_bit g w f x)
      → (x : ℕ) → x < 10304 → bit_at (put_bit slots (w * g + f w)) x ≡ slot_bit g (w + 1) f x
  pulses_more slots l h x k =
      let at : ℕ = w * g + f w in
      ⊎_elim
      (λ (e : x ≡ at). ap (bit_at (put_bit slots at)) e ∙ put_same slots at l ∙ sym pulse_here ∙ ap (slot_bit g (w + 1) f) (sym e))
      (λ (ne : x ≡ at → ⊥). put_other slots at x l ne ∙ h x k ∙ pulse_else x ne)
      (eq_or_ne x at)

-- the pulse of symbol w lies within
pub room : (p : Plan) → Fine p → (w : ℕ) → w < p.layout.markers → w * p.group + get_or p.marks w 0 < 10240
room p fine w l =
    let z = marker_sizes p fine in
    let m = fine.marks_below w in
    let k : w + 1 ≤ 32 = let b = fine.markers_most in omega arith in
    let g : p.group ≤ 320 = omega arith in
    omega (arith, mul-le-mul k g, z.group_least)

-- it is a slot of the marker, with a pulse
pub mark_inside : (p : Plan) → Fine p → (w : ℕ) → w < p.layout.markers → w * p.group + get_or p.marks w 0 < marker_slots p
mark_inside p fine w l =
    let z = marker_sizes p fine in
    let m : get_or p.marks w 0 < p.group = let b = fine.marks_below w in omega (arith, z.group_least) in
    digits_lt l m

pub mark_pulse : (p : Plan) → Fine p → (w : ℕ) → w < p.layout.markers → marker_slot p (w * p.group + get_or p.marks w 0) ≡ 1
mark_pulse p fine w l =
    let q : ℕ = get_or p.marks w 0 in
    let z = marker_sizes p fine in
    let m : q < p.group = let b = fine.marks_below w in omega (arith, z.group_least) in
    slot_in p.group p.layout.markers (λ w. get_or p.marks w 0) w q m l ∙ ap bool (eq-eqb q q refl)

-- the search for slots that are the marker's is the search for the marker
pub whole : (p : Plan) (b marker : List ℕ) (n from end r : ℕ) → Seeks p b n from end
    → ((i : ℕ) → i < marker_slots p → bit_at marker i ≡ marker_slot p i)
    → r ≡ up_to (missed (bit_at marker) n b) from end → r ≡ first_fit_from p b from
unfolding earliest
whole p b marker n from end r s same e =
    let es : n ≡ marker_slots p = s.slots_are in
    let ee : end ≡ starts n b = let q = s.ends in omega arith in
    e ∙ ap (up_to (missed (bit_at marker) n b) from) ee
    ∙ ap (λ (k : ℕ). earliest (bit_at marker) k b from) es
    ∙ earliest_same (bit_at marker) (marker_slot p) (marker_slots p) b from same

-- where no start is left the answer is no
pub none_left : (p : Plan) (b : List ℕ) (from : ℕ) → starts (marker_slots p) b ≤ from
    → (No 19 0 ≡ slot_says p b from) × (from ≡ first_fit_from p b from)
none_left p b from h =
    let e : first_fit_from p b from ≡ from = earliest_past (marker_slot p) (marker_slots p) b from h in
    (sym (slot_no p b from (omega arith)), sym e)

-- the marker has no more slots than 32 symbols of 320
pub slots_most : (p : Plan) → Fine p → marker_slots p ≤ 32 * 320
slots_most p fine = mul-le-mul fine.markers_most (marker_sizes p fine).group_most
