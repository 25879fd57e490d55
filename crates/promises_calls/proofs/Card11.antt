-- The proofs of card 11.
use mathlib.Core.Path.{◌≡◌, refl, sym, ap, ap₂, ◌∙◌}
use mathlib.Core.List.{List}
use mathlib.Core.Logic.{⊎_elim}
use Prim.Native.Nat.{ℕ, zero, suc, ◌+◌, ◌-◌, ◌*◌, ◌/◌, ◌%◌, ◌^◌, ◌≤◌, ◌<◌}
use native.Mathlib.Omega.{arith}
use native.Mathlib.Nat.{mul-div_cancel, zero-mul}
use lib.ListN.{length, get_or, set, replicate, length-replicate, get_or-replicate}
use lib.Dec.{ltb}
use lib.Pow.{pow_pos}
use borrow.Author.Tests.{lt-ltb, le-ltb}
use Rattle.bits.specs.Basics.{pick}
use Rattle.bits.proofs.Laws.Choice.{lt_or_le}
use Rattle.bits.specs.Pack.{cut}
use Rattle.bits.proofs.Laws.Pack.{cut_in, cut_past}
use Rattle.bits.proofs.Laws.Table.{tab_made}
use Rattle.answers.specs.Answer.{Answer, Done, place_of, code_with, after}
use Rattle.header.specs.Header.{fields_of}
use Rattle.header.specs.declared.Fields.{Fields}
use Rattle.header_sizes.specs.Quantities.{pulse_order, symbols_per_word, block_count, interleaver_delay, layout_of}
use Rattle.header_sizes.proofs.Laws.Shape.{spread_steps}
use Rattle.header_questions.specs.Questions.{header_says}
use Rattle.header_questions.proofs.Laws.Good.{header_good, good_header}
use Rattle.parameters.specs.Parameters.{parameters_of}
use Rattle.plan.specs.Plan.{plan_of}
use Rattle.channel.specs.declared.Layout.{Layout}
use Rattle.channel.specs.Inner.{delay}
use Rattle.channel.proofs.Laws.Places.{placed_first, placed_back}
use Rattle.channel.proofs.Laws.Symbols.{data_below}
use Rattle.run.specs.Steps.{word, step8}
use Rattle.delay.specs.Delay.{begin, byte_of, area_bytes, step_says, lines, lag, gives, leaves, step_code, area_after}
use Rattle.delay.proofs.Laws.Delay.{area_at, given_at}
use Rattle.delay.proofs.Laws.Delay as laws
use Rattle.delay.proofs.Laws.Theorems as theorems
use Rattle.delay.specs.declared.Side.{Side}
use Rattle.delay.specs.declared.Side.TheVariants.{Writing, Reading}
use Rattle.promises_calls.specs.Card11.{Card11, StepAsks, StepNot17, RefusedStep, RowsFollow, RowsFill, RowBytes, BytePasses, NonePasses, area_before, answer_at, writer_gives, Accepted, StepsAccepted, AcceptedGood, AcceptedBelow, Written, WrittenLate, ReadLate, ReadAccepted, ReadBack, ReadZeros, RunPlaces}

pub step_asks : StepAsks
unfolding step_says area_bytes interleaver_delay pulse_order
step_asks header q area_length = refl

pub step_not_17 : StepNot17
step_not_17 header q area_length = (laws.step_fits header q area_length).listed

pub refused_step : RefusedStep
refused_step side header n q area number place e =
    let none : place ≡ 0 = ap place_of (sym e) ∙ laws.step_placeless header q (length area) in
    let fits : number < 256 = rw e at (laws.step_fits header q (length area)).number in
    (rw e (omega arith), fits, rw e refl)

pub rows_follow : RowsFollow
unfolding begin
rows_follow side f i = (refl, laws.begin_next (lines side f) i)

pub rows_fill : RowsFill
unfolding area_bytes interleaver_delay begin
rows_fill side f =
    ⊎_elim
    (λ (l : f.rows < 1). let none : f.rows ≡ 0 = omega arith in ap (begin (lines side f)) none ∙ sym (rw (none, zero-mul (0 - 1), zero-mul f.step) refl))
    (λ (l : 1 ≤ f.rows). laws.begin_all side f l)
    (lt_or_le f.rows 1)

pub row_bytes_lem : RowBytes
row_bytes_lem f i = (refl, refl)

-- the bytes of the step's row, by the header's fields
bytes_are : (side : Side) (header : List ℕ) (n : ℕ) (f : Fields) → f ≡ fields_of header → (bytes : ℕ) → bytes ≡ lines side f (n % f.rows)
    → bytes ≡ lines side (fields_of header) (n % (fields_of header).rows)
bytes_are side header n f ef bytes eb = eb ∙ ap (λ (g : Fields). lines side g (n % g.rows)) ef

pub byte_passes : BytePasses
unfolding byte_of
byte_passes side header n q area e f ef bytes eb some at ea =
    let g : Fields = fields_of header in
    let late : ℕ → ℕ = lines side g in
    let here : at ≡ byte_of g.rows late n =
    ea ∙ ap (λ (b : ℕ). begin (lines side f) (n % f.rows) + n / f.rows % b) eb
    ∙ ap (λ (g : Fields). begin (lines side g) (n % g.rows) + n / g.rows % lines side g (n % g.rows)) ef in
    let taken : 1 ≤ late (n % g.rows) = rw (← bytes_are side header n f ef bytes eb) some in
    let known = laws.step_accepted header q (length area) e in
    let least : 1 ≤ g.rows = known.good.valid.shaped.rows_least in
    let inside : byte_of g.rows late n < begin late g.rows = laws.byte_in late g.rows least n taken in
    let long : length area ≡ begin late g.rows = known.area ∙ sym (laws.begin_all side g least) in (
      omega arith,
      ap (λ (a : Answer). code_with a (gives side g n q area)) e
          ∙ ap (λ (x : ℕ). x * 256) (laws.given_some g.rows late n q area taken ∙ ap (λ (i : ℕ). get_or area i 0) (sym here)),
      ap (λ (a : Answer). after a (leaves side g n q area) area) e
          ∙ laws.moved_some g.rows late n q area taken ∙ ap (λ (i : ℕ). set area i q) (sym here),
    )

pub none_passes : NonePasses
none_passes side header n q area e f ef bytes eb z =
    let g : Fields = fields_of header in
    let none : lines side g (n % g.rows) ≡ 0 = sym (bytes_are side header n f ef bytes eb) ∙ z in (
      ap (λ (a : Answer). code_with a (gives side g n q area)) e ∙ ap (λ (x : ℕ). x * 256) (laws.given_none g.rows (lines side g) n q area none),
      ap (λ (a : Answer). after a (leaves side g n q area) area) e ∙ laws.moved_none g.rows (lines side g) n q area none,
    )

-- what steps with symbols below M give, under a good header
module _ (side : Side) (header : List ℕ) (good : header_says header ≡ Done) (q : ℕ → ℕ) (n : ℕ) (below : (k : ℕ) → k < n → q k < 2 ^ (fields_of header).bits) where
  least : 1 ≤ (fields_of header).rows
  least = (header_good header good).valid.shaped.rows_least

  taken : (k : ℕ) → k < n → step_says header (q k) (length (area_at (fields_of header).rows (lines side (fields_of header)) q k)) ≡ Done
  unfolding pulse_order
  taken k l =
      let f : Fields = fields_of header in
      laws.accepted_step header (q k) (length (area_at f.rows (lines side f) q k)) good
      (theorems.length_area f.rows (lines side f) least q k ∙ laws.begin_all side f least) (below k l)

  areas_are : (k : ℕ) → k ≤ n → area_before side header q k ≡ area_at (fields_of header).rows (lines side (fields_of header)) q k
  unfolding area_before area_at area_bytes interleaver_delay
  areas_are zero l =
      let n : ℕ = begin (lines side (fields_of header)) (fields_of header).rows in
      ap (λ (m : ℕ). replicate m 0) (sym (laws.begin_all side (fields_of header) least))
      ∙ tab_made n (λ i. 0) (replicate n 0) (length-replicate n 0) (λ i h. get_or-replicate n i 0 0 h)
  areas_are (suc k) l =
      let f : Fields = fields_of header in
      ap (area_after side header k (q k)) (areas_are k (omega arith))
      ∙ ap (λ (a : Answer). after a (leaves side f k (q k) (area_at f.rows (lines side f) q k)) (area_at f.rows (lines side f) q k)) (taken k (omega arith))

  answers_are : (k : ℕ) → k < n → answer_at side header q k ≡ given_at (fields_of header).rows (lines side (fields_of header)) q k * 256
  answers_are k l =
      ap (step_code side header k (q k)) (areas_are k (omega arith))
      ∙ ap (λ (a : Answer). code_with a (given_at (fields_of header).rows (lines side (fields_of header)) q k)) (taken k l)

pub steps_accepted : StepsAccepted
steps_accepted side header good q n below k l =
    ap (λ (area : List ℕ). step_says header (q k) (length area)) (areas_are side header good q n below k (omega arith)) ∙ taken side header good q n below k l

pub accepted_good : AcceptedGood
accepted_good side header q n accepted k l = good_header header (laws.step_accepted header (q k) (length (area_before side header q k)) (accepted k l)).good

pub accepted_below : AcceptedBelow
unfolding pulse_order
accepted_below side header q n accepted k l = (laws.step_accepted header (q k) (length (area_before side header q k)) (accepted k l)).symbol

-- where a step is accepted there are rows,
some_rows : (side : Side) (header : List ℕ) (q : ℕ → ℕ) (n : ℕ) → Accepted side header q n → (k : ℕ) → k < n → 1 ≤ (fields_of header).rows
some_rows side header q n accepted k l = (header_good header (accepted_good side header q n accepted k l)).valid.shaped.rows_least

-- and it gives what they hold back
given_is : (side : Side) (header : List ℕ) (q : ℕ → ℕ) (n : ℕ) → Accepted side header q n → (k : ℕ) → k < n
    → answer_at side header q k ≡ given_at (fields_of header).rows (lines side (fields_of header)) q k * 256
given_is side header q n accepted k l =
    answers_are side header (accepted_good side header q n accepted k l) q n (accepted_below side header q n accepted) k l

pub written : Written
written header q n accepted g er es h x l =
    let some : 1 ≤ g.rows = rw er (some_rows Writing header q n accepted x l) in
    let first : x - delay g (x % g.rows) < n = omega arith in
    given_is Writing header q n accepted x l
    ∙ ap (λ (v : ℕ). v * 256)
    (ap₂ (λ (r s : ℕ). given_at r (lag Writing r s) q x) (sym er) (sym es)
    ∙ theorems.step9 g some q x (omega arith)
    ∙ placed_first g q x (omega arith)
    ∙ ap (pick (ltb x (delay g (x % g.rows))) 0) (sym (cut_in n q (x - delay g (x % g.rows)) first))
    ∙ sym (placed_first g (cut n q) x (omega arith)))

-- each row gives its symbols as many turns late as it has bytes
late_is : (side : Side) (header : List ℕ) (q : ℕ → ℕ) (n : ℕ) → Accepted side header q n → (f : Fields) → f ≡ fields_of header
    → (x : ℕ) → x < n → (d : ℕ) → d ≡ lines side f (x % f.rows) * f.rows
    → ((t : ℕ) → t + d ≡ x → answer_at side header q x ≡ q t * 256) × (x < d → answer_at side header q x ≡ 0)
late_is side header q n accepted f ef x l d ed =
    let g : Fields = fields_of header in
    let e : d ≡ lines side g (x % g.rows) * g.rows = ed ∙ ap (λ (h : Fields). lines side h (x % h.rows) * h.rows) ef in
    let given : answer_at side header q x ≡ pick (ltb x d) 0 (q (x - d)) * 256 =
    given_is side header q n accepted x l
    ∙ ap (λ (v : ℕ). v * 256)
    (theorems.given_late g.rows (lines side g) (some_rows side header q n accepted x l) q x ∙ ap (λ (k : ℕ). pick (ltb x k) 0 (q (x - k))) (sym e)) in (
      λ t h.
          let past : d ≤ x = omega arith in
          let back : x - d ≡ t = omega arith in
          given ∙ rw (le-ltb x d past, back) refl,
      λ h. given ∙ rw (lt-ltb x d h) refl,
    )

pub written_late : WrittenLate
written_late header q n accepted rows step er es x l =
    late_is Writing header q n accepted (fields_of header) refl x l (x % rows * step * rows) (rw (er, es) refl)

pub read_late : ReadLate
read_late header q n accepted rows step er es x l =
    late_is Reading header q n accepted (fields_of header) refl x l ((rows - 1 - x % rows) * step * rows) (rw (er, es) refl)

-- the symbols that the writer gives
sent_is : (header : List ℕ) (q : ℕ → ℕ) (n : ℕ) → Accepted Writing header q n → (k : ℕ) → k < n
    → writer_gives header q k ≡ given_at (fields_of header).rows (lines Writing (fields_of header)) q k
sent_is header q n accepted k l =
    ap (λ (v : ℕ). v / 256) (given_is Writing header q n accepted k l) ∙ mul-div_cancel (given_at (fields_of header).rows (lines Writing (fields_of header)) q k) (omega arith)

sent_below : (header : List ℕ) (q : ℕ → ℕ) (n : ℕ) → Accepted Writing header q n → (k : ℕ) → k < n → writer_gives header q k < 2 ^ (fields_of header).bits
sent_below header q n accepted k l =
    let f : Fields = fields_of header in
    rw (sent_is header q n accepted k l)
    (theorems.given_below f.rows (lines Writing f) (some_rows Writing header q n accepted k l) q (2 ^ f.bits) k (pow_pos f.bits) (λ j h. accepted_below Writing header q n accepted j (omega arith)))

pub read_accepted : ReadAccepted
read_accepted header q n accepted k l =
    steps_accepted Reading header (accepted_good Writing header q n accepted k l) (writer_gives header q) n (sent_below header q n accepted) k l

-- what the reader gives
read_is : (header : List ℕ) (q : ℕ → ℕ) (n : ℕ) → Accepted Writing header q n → (x : ℕ) → x < n
    → answer_at Reading header (writer_gives header q) x
    ≡ given_at (fields_of header).rows (lines Reading (fields_of header)) (given_at (fields_of header).rows (lines Writing (fields_of header)) q) x * 256
read_is header q n accepted x l =
    let f : Fields = fields_of header in
    given_is Reading header (writer_gives header q) n (read_accepted header q n accepted) x l
    ∙ ap (λ (v : ℕ). v * 256)
    (theorems.given_same f.rows (lines Reading f) (some_rows Writing header q n accepted x l) (writer_gives header q) (given_at f.rows (lines Writing f) q) x (λ k h. sent_is header q n accepted k (omega arith)))

pub read_back : ReadBack
unfolding interleaver_delay
read_back header q n accepted x l =
    let f : Fields = fields_of header in
    read_is header q n accepted (x + interleaver_delay f) l
    ∙ ap (λ (v : ℕ). v * 256)
    (ap (λ (d : ℕ). given_at f.rows (lines Reading f) (given_at f.rows (lines Writing f) q) (x + d)) (spread_steps f)
    ∙ theorems.through f.rows f.step (some_rows Writing header q n accepted (x + interleaver_delay f) l) q x)

pub read_zeros : ReadZeros
unfolding interleaver_delay
read_zeros header q n accepted x l h =
    let f : Fields = fields_of header in
    let d : interleaver_delay f ≡ (f.rows - 1) * (f.step * f.rows) = spread_steps f in
    read_is header q n accepted x l ∙ ap (λ (v : ℕ). v * 256) (theorems.through_first f.rows f.step (some_rows Writing header q n accepted x l) q x (omega arith))

pub run_places : RunPlaces
unfolding plan_of parameters_of layout_of
run_places header marker frames good x =
    let f : Fields = fields_of header in
    let total : ℕ = block_count f * symbols_per_word f in
    let symbol : ℕ → ℕ = step8 header marker frames in
    let n : ℕ = total + (x + 1) in
    let q : ℕ → ℕ = cut total symbol in
    let below : (k : ℕ) → k < n → q k < 2 ^ f.bits = λ k l. ⊎_elim
    (λ (h : k < total). rw (cut_in total symbol k h) (data_below f.bits (layout_of f) (word header marker frames) k))
    (λ (h : total ≤ k). rw (cut_past total symbol k h) (pow_pos f.bits))
    (lt_or_le k total) in
    let g : Layout = layout_of f in
    let more : Layout = record { rows = g.rows; step = g.step; symbols = 1; words = n; markers = g.markers; lines = g.lines } in
    let d : ℕ = delay g (x % g.rows) in
    written header q n (steps_accepted Writing header good q n below) more refl refl (omega arith) x (omega arith)
    ∙ ap (λ (v : ℕ). v * 256)
    (placed_first more (cut n q) x (omega arith)
    ∙ ap (pick (ltb x d) 0) (cut_in n q (x - d) (omega arith))
    ∙ sym (placed_back g symbol x))

-- all of it
pub card_11 : Card11
card_11 = record {
  step_asks = step_asks;
  step_not_17 = step_not_17;
  refused_step = refused_step;
  rows_follow = rows_follow;
  rows_fill = rows_fill;
  row_bytes_lem = row_bytes_lem;
  byte_passes = byte_passes;
  none_passes = none_passes;
  steps_accepted = steps_accepted;
  accepted_good = accepted_good;
  accepted_below = accepted_below;
  written = written;
  written_late = written_late;
  read_late = read_late;
  read_accepted = read_accepted;
  read_back = read_back;
  read_zeros = read_zeros;
  run_places = run_places;
}
