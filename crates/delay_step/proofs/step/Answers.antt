-- The questions, and then one turn of the row, which lies in the area.
use mathlib.Core.Path.{◌≡◌, sym, ap, ap₂, ◌∙◌}
use mathlib.Core.List.{List}
use Prim.Native.Nat.{ℕ, ◌+◌, ◌/◌, ◌%◌, ◌≤◌, ◌<◌}
use native.Mathlib.Omega.{arith}
use native.Mathlib.Nat.{mod-lt}
use lib.Dec.{eqb}
use lib.ListN.{length, get_or, set}
use Rattle.bits.specs.Basics.{pick}
use Rattle.answers.specs.Answer.{Done}
use Rattle.header.specs.Header.{fields_of}
use Rattle.header.specs.declared.Fields.{Fields}
use Rattle.header_sizes.proofs.Laws.Shape.{order_most}
use Rattle.header_sizes.specs.Inner.{Shaped}
use Rattle.delay.specs.Delay.{begin, byte_of, given, moved, area_bytes, step_says, lines, gives, leaves}
use Rattle.delay_rows.specs.Inner.{Rows, RowOf}
use Rattle.delay.proofs.Laws.Delay.{row_end, begin_all, Accepted, step_accepted}
use Rattle.delay.specs.declared.Side.{Side}
use Rattle.delay_step.proofs.step.Goals as goal

module _ (side : Side) (header : List ℕ) (n q : ℕ) (area : List ℕ) (done : Done ≡ step_says header q (length area)) where
  known : Accepted header q (length area)
  known = step_accepted header q (length area) (sym done)

  byte : q < 256
  byte = let o = order_most (fields_of header) known.good.valid.shaped in let l = known.symbol in omega arith

  module _ (f : Fields) (ef : f ≡ fields_of header) where
    shaped : Shaped f
    shaped = rw ef known.good.valid.shaped

    row : Rows f.rows f.step (n % f.rows)
    row = record { row = mod-lt n shaped.rows_least; rows_most = shaped.rows_most; step_most = shaped.step_most }

    module _ (from size : ℕ) (r : RowOf side f.rows f.step (n % f.rows) from size) where
      inside : from + size ≤ length area
      inside =
          let s = shaped in
          let e = row_end (lines side f) (n % f.rows) f.rows (mod-lt n s.rows_least) in
          let all = begin_all side f s.rows_least in
          let long : length area ≡ begin (lines side f) f.rows = known.area ∙ ap area_bytes (sym ef) ∙ sym all in
          let b = r.begins in
          let l = r.lags in
          omega arith

      given_is : (x : ℕ) → x ≡ pick (eqb size 0) q (get_or area (from + n / f.rows % size) 0) → x ≡ gives side (fields_of header) n q area
      unfolding given byte_of
      given_is x e =
          e
          ∙ ap₂ (λ (b l : ℕ). pick (eqb l 0) q (get_or area (b + n / f.rows % l) 0)) r.begins r.lags
          ∙ ap (λ (g : Fields). gives side g n q area) ef

      left_is : (xs : List ℕ) → xs ≡ pick (eqb size 0) area (set area (from + n / f.rows % size) q) → xs ≡ leaves side (fields_of header) n q area
      unfolding moved byte_of
      left_is xs e =
          e
          ∙ ap₂ (λ (b l : ℕ). pick (eqb l 0) area (set area (b + n / f.rows % l) q)) r.begins r.lags
          ∙ ap (λ (g : Fields). leaves side g n q area) ef

pub read-f-requires : goal.read-f-requires
read-f-requires c =
    let a = c.args in
    let l = (known a.side a.header.now a.n a.symbol a.area.now c.in_ok-says.ensures).good.long in
    omega arith

pub nonzero_rem-at : goal.nonzero_rem-at
nonzero_rem-at c =
    let a = c.args in
    (shaped a.side a.header.now a.n a.symbol a.area.now c.in_ok-says.ensures c.read-f.result c.read-f.ensures).rows_least

pub row_of-row-requires : goal.row_of-row-requires
row_of-row-requires c =
    let a = c.args in
    row a.side a.header.now a.n a.symbol a.area.now c.in_ok-says.ensures c.read-f.result c.read-f.ensures

pub nonzero_div-at : goal.nonzero_div-at
nonzero_div-at c =
    let a = c.args in
    (shaped a.side a.header.now a.n a.symbol a.area.now c.in_ok-says.ensures c.read-f.result c.read-f.ensures).rows_least

pub overflow_cast-symbol : goal.overflow_cast-symbol
overflow_cast-symbol c =
    let a = c.args in
    let b = byte a.side a.header.now a.n a.symbol a.area.now c.in_ok-says.ensures in
    omega arith

pub exchange-requires : goal.exchange-requires
exchange-requires c =
    let a = c.args in
    let f = c.read-f in
    let r = c.row_of-row in
    inside a.side a.header.now a.n a.symbol a.area.now c.in_ok-says.ensures f.result f.ensures r.result.begin r.result.lag r.ensures

pub returns-clause-symbol_value : goal.returns-clause-symbol_value
returns-clause-symbol_value c =
    let a = c.args in
    let f = c.read-f in
    let r = c.row_of-row in
    given_is a.side a.header.now a.n a.symbol a.area.now c.in_ok-says.ensures f.result f.ensures r.result.begin r.result.lag r.ensures
    c.exchange.result c.exchange.ensures.value

pub returns-clause-area_after : goal.returns-clause-area_after
returns-clause-area_after c =
    let a = c.args in
    let f = c.read-f in
    let r = c.row_of-row in
    left_is a.side a.header.now a.n a.symbol a.area.now c.in_ok-says.ensures f.result f.ensures r.result.begin r.result.lag r.ensures
    c.exchange.new.area c.exchange.ensures.area_after
