-- A delay line step by step: where the rows lie, which byte a step takes and writes, and what an accepted step is.
use mathlib.Core.List.{List}
use Prim.Native.Nat.{ℕ, zero, suc, ◌+◌, ◌-◌, ◌*◌, ◌/◌, ◌%◌, ◌≤◌, ◌<◌}
use mathlib.Core.Path.{◌≡◌, refl, sym, ap, ◌∙◌}
use mathlib.Core.Bool.{Bool}
use mathlib.Core.Logic.{⊎_elim}
use native.Mathlib.Omega.{arith}
use native.Mathlib.Nat.{le_refl, mul_comm, mul_left_comm, mul-add, mul-sub, mul-le-mul, mod-lt, div-add-mod', add-mul-mod_self_right, add-mul-div_right, add-mod_right}
use native.Mathlib.Numerals.{add-one}
use lib.Dec.{ltb, eqb}
use lib.ListN.{get_or, set}
use borrow.Author.Tests.{ltb-true, eqb-true, lt-ltb, eq-eqb, ne_eqb}
use Rattle.bits.specs.Basics.{tab}
use Rattle.bits.proofs.Laws.Choice.{lt_or_le}
use Rattle.answers.specs.Answer.{Done, place_of, ask}
use Rattle.answers.proofs.Laws.Answer.{then_done, ask_done, placeless_ask, placeless_then, fits_ask, fits_then}
use Rattle.answers.specs.Inner.{Fits}
use Rattle.header.specs.Header.{fields_of}
use Rattle.header.specs.declared.Fields.{Fields}
use Rattle.header_sizes.specs.Quantities.{pulse_order, interleaver_delay}
use Rattle.header_questions.specs.Questions.{header_says}
use Rattle.header_questions.proofs.Laws.Good.{GoodHeader, header_good, header_fits, header_placeless}
use Rattle.channel.proofs.Laws.Places.{same_apart}
use Rattle.delay.specs.Delay.{begin, given, moved, lag, byte_of, area_bytes, step_says, lines}
use Rattle.delay.specs.declared.Side.{Side}
use Rattle.delay.specs.declared.Side.TheVariants.{Writing, Reading}

-- steps told 0, 1, 2 and so on, with the symbols q 0, q 1, ..: the area before step n, and what step n gives
unfoldable pub area_at : ℕ → (ℕ → ℕ) → (ℕ → ℕ) → ℕ → List ℕ
area_at rows late q zero = tab (begin late rows) (λ i. 0)
area_at rows late q (suc n) = moved rows late n (q n) (area_at rows late q n)

abbrev pub given_at : ℕ → (ℕ → ℕ) → (ℕ → ℕ) → ℕ → ℕ
given_at rows late q n = given rows late n (q n) (area_at rows late q n)

-- Where the rows lie, what an accepted step is known to be, and that the answers fit the number that C gets.

module _ (late : ℕ → ℕ) where
  -- a row begins after the one before it, and after all of those
  pub begin_next : (i : ℕ) → begin late (i + 1) ≡ begin late i + late i
  unfolding begin
  begin_next i = rw (add-one i) refl

  begin_more : (i k : ℕ) → begin late i ≤ begin late (i + k)
  unfolding begin
  begin_more i zero = let e : i + 0 ≡ i = omega arith in rw e (omega arith)
  begin_more i (suc k) = let e : i + suc k ≡ suc (i + k) = omega arith in let r = begin_more i k in rw e (omega arith)

  pub row_end : (i j : ℕ) → i < j → begin late i + late i ≤ begin late j
  row_end i j l =
      let e : i + 1 + (j - (i + 1)) ≡ j = omega arith in
      let m : begin late (i + 1) ≤ begin late j = rw e at (begin_more (i + 1) (j - (i + 1))) in
      let n = begin_next i in
      omega arith

  module _ (rows : ℕ) (least : 1 ≤ rows) where
    -- any step's byte lies in its row, and so in the area
    byte_row : (n : ℕ) → 1 ≤ late (n % rows) → byte_of rows late n < begin late (n % rows) + late (n % rows)
    unfolding byte_of
    byte_row n some = let m : n / rows % late (n % rows) < late (n % rows) = mod-lt (n / rows) some in omega arith

    pub byte_in : (n : ℕ) → 1 ≤ late (n % rows) → byte_of rows late n < begin late rows
    byte_in n some =
        let r : n % rows < rows = mod-lt n least in
        let e = row_end (n % rows) rows r in
        let b = byte_row n some in
        omega arith

    byte_from : (n : ℕ) → begin late (n % rows) ≤ byte_of rows late n
    unfolding byte_of
    byte_from n = omega arith

    -- two steps of different rows have different bytes,
    rows_apart : (m n : ℕ) → 1 ≤ late (m % rows) → m % rows < n % rows → byte_of rows late m < byte_of rows late n
    rows_apart m n some l =
        let a = byte_row m some in
        let b = row_end (m % rows) (n % rows) l in
        let c = byte_from n in
        omega arith

    -- and so have two of one row that are fewer turns apart than the row has bytes
    turns_apart : (m n : ℕ) → m % rows ≡ n % rows → m < n → n < m + late (m % rows) * rows → byte_of rows late m ≡ byte_of rows late n → ⊥
    unfolding byte_of
    turns_apart m n e l near same =
        let dm = div-add-mod' m rows in
        let dn = div-add-mod' n rows in
        let turns : m / rows % late (m % rows) ≡ n / rows % late (m % rows) =
        let s : begin late (m % rows) + m / rows % late (m % rows) ≡ begin late (m % rows) + n / rows % late (m % rows) =
        same ∙ ap (λ (r : ℕ). begin late r + n / rows % late r) (sym e) in omega arith in
        ⊎_elim
        (λ (h : m / rows < n / rows).
        let far : m / rows + late (m % rows) ≤ n / rows = same_apart (late (m % rows)) (m / rows) (n / rows) turns h in
        omega (arith, mul-le-mul far (le_refl rows)))
        (λ (h : n / rows ≤ m / rows). omega (arith, mul-le-mul h (le_refl rows)))
        (lt_or_le (m / rows) (n / rows))

    pub bytes_apart : (m n : ℕ) → 1 ≤ late (m % rows) → 1 ≤ late (n % rows) → m < n → (m % rows ≡ n % rows → n < m + late (m % rows) * rows)
        → byte_of rows late m ≡ byte_of rows late n → ⊥
    bytes_apart m n some more l near same =
        ⊎_elim
        (λ (h : m % rows < n % rows). let a = rows_apart m n some h in omega arith)
        (λ (h : n % rows ≤ m % rows). ⊎_elim
        (λ (g : n % rows < m % rows). let a = rows_apart n m more g in omega arith)
        (λ (g : m % rows ≤ n % rows). let e : m % rows ≡ n % rows = omega arith in turns_apart m n e l (near e) same)
        (lt_or_le (n % rows) (m % rows)))
        (lt_or_le (m % rows) (n % rows))

    -- as many turns later the row comes round to the byte
    pub byte_round : (n : ℕ) → byte_of rows late (n + late (n % rows) * rows) ≡ byte_of rows late n
    unfolding byte_of
    byte_round n =
        let l : ℕ = late (n % rows) in
        ap (λ (r : ℕ). begin late r + (n + l * rows) / rows % late r) (add-mul-mod_self_right n l rows)
        ∙ ap (λ (t : ℕ). begin late (n % rows) + t % l) (add-mul-div_right n l least)
        ∙ ap (λ (t : ℕ). begin late (n % rows) + t) (add-mod_right (n / rows) l)

-- ---- a step by its row

module _ (rows : ℕ) (late : ℕ → ℕ) (n q : ℕ) (area : List ℕ) where
  pub given_none : late (n % rows) ≡ 0 → given rows late n q area ≡ q
  unfolding given
  given_none z = rw (eq-eqb (late (n % rows)) 0 z) refl

  pub given_some : 1 ≤ late (n % rows) → given rows late n q area ≡ get_or area (byte_of rows late n) 0
  unfolding given
  given_some h = rw (ne_eqb (late (n % rows)) 0 (λ z. omega arith)) refl

  pub moved_none : late (n % rows) ≡ 0 → moved rows late n q area ≡ area
  unfolding moved
  moved_none z = rw (eq-eqb (late (n % rows)) 0 z) refl

  pub moved_some : 1 ≤ late (n % rows) → moved rows late n q area ≡ set area (byte_of rows late n) q
  unfolding moved
  moved_some h = rw (ne_eqb (late (n % rows)) 0 (λ z. omega arith)) refl

-- ---- B i (i - 1) / 2 writing, and B i (2N - 1 - i) / 2 reading

pub square_least : (i : ℕ) → i ≤ i * i
square_least zero = omega arith
square_least (suc i) = let e : suc i ≡ i + 1 = omega arith in rw e (omega arith)

pub write_begin : (rows step i : ℕ) → 2 * begin (lag Writing rows step) i ≡ step * (i * i - i)
unfolding begin
write_begin rows step zero = omega arith
write_begin rows step (suc i) =
    let r = write_begin rows step i in
    let s = square_least i in
    let e : suc i ≡ i + 1 = omega arith in
    let k : (i + 1) * (i + 1) - (i + 1) ≡ i * i - i + 2 * i = omega arith in
    let d : step * (i * i - i + 2 * i) ≡ step * (i * i - i) + 2 * (i * step) = mul-add step (i * i - i) (2 * i) ∙ omega (arith, mul_left_comm step 2 i, mul_comm step i) in
    rw (e, k) (omega arith)

pub read_begin : (rows step i : ℕ) → i ≤ rows → 2 * begin (lag Reading rows step) i ≡ step * (i * (2 * rows - 1 - i))
unfolding begin
read_begin rows step zero h = omega arith
read_begin rows step (suc i) h =
    let r = read_begin rows step i (omega arith) in
    let e : suc i ≡ i + 1 = omega arith in
    let n : ℕ = rows - 1 - i in
    let a : 2 * rows - 1 - i ≡ 2 * n + i + 1 = omega arith in
    let b : 2 * rows - 1 - (i + 1) ≡ 2 * n + i = omega arith in
    let k : (i + 1) * (2 * n + i) ≡ i * (2 * n + i + 1) + 2 * n = omega arith in
    let d : step * (i * (2 * n + i + 1) + 2 * n) ≡ step * (i * (2 * n + i + 1)) + 2 * (n * step) = mul-add step (i * (2 * n + i + 1)) (2 * n) ∙ omega (arith, mul_left_comm step 2 n, mul_comm step n) in
    let q : 2 * begin (lag Reading rows step) i ≡ step * (i * (2 * n + i + 1)) = rw a at r in
    rw (e, b, k) (omega arith)

-- the rows fill the area
pub begin_all : (side : Side) (f : Fields) → 1 ≤ f.rows → begin (lines side f) f.rows ≡ area_bytes f
unfolding area_bytes interleaver_delay
begin_all Writing f least =
    let n : ℕ = f.rows in
    let k : n * n - n ≡ n * (n - 1) = let s = mul-sub n n 1 in omega arith in
    let b = write_begin n f.step n in
    let e : f.step * (n * n - n) ≡ n * (n - 1) * f.step = ap (λ (x : ℕ). f.step * x) k ∙ mul_comm f.step (n * (n - 1)) in
    omega arith
begin_all Reading f least =
    let n : ℕ = f.rows in
    let k : 2 * n - 1 - n ≡ n - 1 = omega arith in
    let b = read_begin n f.step n (le_refl n) in
    let e : f.step * (n * (2 * n - 1 - n)) ≡ n * (n - 1) * f.step = ap (λ (x : ℕ). f.step * (n * x)) k ∙ mul_comm f.step (n * (n - 1)) in
    omega arith

-- ---- the call

-- what acceptance says
pub record Accepted (header : List ℕ) (q area_length : ℕ) : Type 0 where
  pub good : GoodHeader header
  pub area : area_length ≡ area_bytes (fields_of header)
  pub symbol : q < pulse_order (fields_of header)

pub step_accepted : (header : List ℕ) (q n : ℕ) → step_says header q n ≡ Done → Accepted header q n
unfolding step_says
step_accepted header q n e =
    let f : Fields = fields_of header in
    let h = then_done (header_says header) _ e in
    let a = then_done (ask (eqb n (area_bytes f)) 8 0) (ask (ltb q (pulse_order f)) 26 0) h.1 in
    record {
      good = header_good header h.0;
      area = eqb-true n (area_bytes f) (ask_done (eqb n (area_bytes f)) 8 0 a.0);
      symbol = ltb-true q (pulse_order f) (ask_done (ltb q (pulse_order f)) 26 0 a.1);
    }

pub accepted_step : (header : List ℕ) (q n : ℕ) → header_says header ≡ Done → n ≡ area_bytes (fields_of header) → q < pulse_order (fields_of header) → step_says header q n ≡ Done
unfolding step_says
accepted_step header q n e a l = rw (e, eq-eqb n (area_bytes (fields_of header)) a, lt-ltb q (pulse_order (fields_of header)) l) refl

-- no refusal has a place, so that its code is its number
pub step_placeless : (header : List ℕ) (q n : ℕ) → place_of (step_says header q n) ≡ 0
unfolding step_says
step_placeless header q n =
    let a : Bool = eqb n (area_bytes (fields_of header)) in
    let l : Bool = ltb q (pulse_order (fields_of header)) in
    placeless_then (header_says header) _ (header_placeless header) (placeless_then (ask a 8 0) (ask l 26 0) (placeless_ask a 8) (placeless_ask l 26))

pub step_fits : (header : List ℕ) (q n : ℕ) → Fits (step_says header q n)
unfolding step_says
step_fits header q n =
    let a : Bool = eqb n (area_bytes (fields_of header)) in
    let l : Bool = ltb q (pulse_order (fields_of header)) in
    fits_then (header_says header) _ (header_fits header)
    (λ e. fits_then (ask a 8 0) (ask l 26 0) (fits_ask a 8 0 (omega arith) (omega arith) (λ z. omega arith))
    (λ g. fits_ask l 26 0 (omega arith) (omega arith) (λ z. omega arith)))
