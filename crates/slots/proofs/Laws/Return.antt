-- The laws of return of steps 8 to 10: slots whose pooled symbols are those of words, with no spare bit set, are good and give the words; written slots
-- are such; and good slots have the pooled symbols of the words in them. Where each symbol is sent once, they are the slots of these words.
use mathlib.Core.Path.{◌≡◌, refl, sym, ap, ◌∙◌}
use mathlib.Core.Bool.{true}
use mathlib.Core.List.{List}
use Prim.Native.Nat.{ℕ, ◌+◌, ◌*◌, ◌/◌, ◌≤◌, ◌<◌}
use native.Mathlib.Omega.{arith}
use native.Mathlib.Nat.{mul-one}
use lib.Dec.{eqb}
use lib.ListN.{length}
use borrow.Author.Tests.{eq-eqb, eqb-true, ne_eqb}
use Rattle.bits.proofs.Laws.First.{all_pass, none_fails, up_to_le}
use Rattle.bits.specs.Pack.{Bytes}
use Rattle.sizes.specs.Sizes.{word_bytes}
use Rattle.channel.proofs.Laws.Return as channel
use Rattle.channel.proofs.Laws.Symbols as words
use Rattle.pulses.proofs.Laws.Pulses as pulses
use Rattle.pulses.specs.Pulses as asked
use Rattle.pool.specs.Pooled as pool
use Rattle.pool.proofs.Laws.Pooled.{all_decided, each_decided, pooled_one, pooled_slots}
use Rattle.plan.specs.declared.Plan.{Plan}
use Rattle.plan.specs.Inner.{Fine, slot_bytes}
use Rattle.plan.specs.Plan.{sent_count}
use Rattle.slots.proofs.Laws.Bounds.{Bounds, bounds}
use Rattle.slots.proofs.Laws.Slots.{symbol_below, slots_one}
use Rattle.slots.specs.Writing.{data_symbol, symbol_at, sent_at, run_slots}
use Rattle.answers.specs.Answer.{Done, No, ask}
use Rattle.answers.proofs.Laws.Answer.{then_done, ask_done, fits_ask, fits_then}
use Rattle.answers.specs.Inner.{Fits}
use Rattle.channel.specs.Channel as channels
use Rattle.channel.specs.Channel.{total, layout_symbols, place, symbol_of, mark_right, rest_zero}
use Rattle.slots.specs.Reading.{spare_slots_empty, pooled_in, first_bad_symbol, first_bad_mark, first_bad_rest, data_in, word_out, slots_say}

-- ---- the four questions answered yes
pub record Clean (p : Plan) (b : List ℕ) : Type 0 where
  pub spare : spare_slots_empty p b ≡ true
  pub groups : first_bad_symbol p b ≡ layout_symbols p.layout
  pub marks : first_bad_mark p b ≡ layout_symbols p.layout
  pub rest : first_bad_rest p b ≡ layout_symbols p.layout

pub clean_good : (p : Plan) (b : List ℕ) → Clean p b → slots_say p b ≡ Done
unfolding slots_say
clean_good p b c =
    rw (c.spare, eq-eqb (first_bad_symbol p b) (layout_symbols p.layout) c.groups, eq-eqb (first_bad_mark p b) (layout_symbols p.layout) c.marks, eq-eqb (first_bad_rest p b) (layout_symbols p.layout) c.rest) refl

pub good_clean : (p : Plan) (b : List ℕ) → slots_say p b ≡ Done → Clean p b
unfolding slots_say
good_clean p b e =
    let n : ℕ = layout_symbols p.layout in
    let y9 = then_done (ask (spare_slots_empty p b) 9 0) _ e in
    let y10 = then_done (ask (eqb (first_bad_symbol p b) n) 10 (first_bad_symbol p b)) _ y9.1 in
    let y11 = then_done (ask (eqb (first_bad_mark p b) n) 11 (first_bad_mark p b)) (ask (eqb (first_bad_rest p b) n) 12 (first_bad_rest p b)) y10.1 in
    record {
      spare = ask_done (spare_slots_empty p b) 9 0 y9.0;
      groups = eqb-true (first_bad_symbol p b) n (ask_done (eqb (first_bad_symbol p b) n) 10 (first_bad_symbol p b) y10.0);
      marks = eqb-true (first_bad_mark p b) n (ask_done (eqb (first_bad_mark p b) n) 11 (first_bad_mark p b) y11.0);
      rest = eqb-true (first_bad_rest p b) n (ask_done (eqb (first_bad_rest p b) n) 12 (first_bad_rest p b) y11.1);
    }

pub word_out_bytes : (p : Plan) (b : List ℕ) (j : ℕ) → Bytes (word_out p b j)
unfolding word_out
word_out_bytes p b j = words.word_bytes_lem p.bits p.layout (data_in p b) j

module _ (p : Plan) (fine : Fine p) where
  sizes : Bounds p
  sizes = bounds p fine

  stands_lt : (t : ℕ) → t < total p.layout → symbol_of p.layout (place p.layout t) < layout_symbols p.layout
  stands_lt = channel.stands_lt p.layout fine.rows_least sizes.symbols_least fine.lines_are

  -- ---- slots whose symbols are those of the words
  module _ (word : ℕ → List ℕ) (b : List ℕ) (same : (s : ℕ) → s < layout_symbols p.layout → pooled_in p b s ≡ symbol_at p word s) where
    pass_groups : first_bad_symbol p b ≡ layout_symbols p.layout
    pass_groups = all_decided b p.copies p.group p.order (layout_symbols p.layout) (λ s l. rw (same s l) (symbol_below p fine word s))

    pass_marks : first_bad_mark p b ≡ layout_symbols p.layout
    unfolding first_bad_mark
    pass_marks =
        all_pass (mark_right p.layout p.marks (pooled_in p b)) (layout_symbols p.layout) (λ s l.
        channel.mark_passes p.layout fine.rows_least sizes.symbols_least fine.lines_are p.marks (data_symbol p word) (pooled_in p b) s (same s l))

    pass_rest : first_bad_rest p b ≡ layout_symbols p.layout
    unfolding first_bad_rest
    pass_rest =
        all_pass (rest_zero p.layout (pooled_in p b)) (layout_symbols p.layout) (λ s l.
        channel.rest_passes p.layout fine.rows_least sizes.symbols_least fine.lines_are p.marks (data_symbol p word) (pooled_in p b) s (same s l))

    data_found : (t : ℕ) → t < total p.layout → data_in p b t ≡ data_symbol p word t
    data_found t l =
        same (symbol_of p.layout (place p.layout t)) (stands_lt t l)
        ∙ channel.stands p.layout fine.rows_least sizes.symbols_least fine.lines_are p.marks (data_symbol p word) t l

  -- ---- written slots are such
  module _ (word : ℕ → List ℕ) where
    pub read_slots : (s : ℕ) → s < layout_symbols p.layout → pooled_in p (run_slots p word) s ≡ symbol_at p word s
    unfolding run_slots
    read_slots s l =
        pooled_slots p.copies p.group p.order (layout_symbols p.layout) (symbol_at p word) fine.copies_least sizes.order_least sizes.group_least s l (symbol_below p fine word s)

    pub pass_spare : spare_slots_empty p (run_slots p word) ≡ true
    unfolding run_slots
    pass_spare = pulses.pass_spare p.group (sent_count p) (sent_at p word) p.order sizes.order_least sizes.group_least

  -- ---- good slots
  module _ (b : List ℕ) (clean : Clean p b) where
    -- symbol t of the words that are taken out is what was read at its place
    data_read_lem : (t : ℕ) → t < total p.layout → data_symbol p (word_out p b) t ≡ data_in p b t
    unfolding word_out
    data_read_lem t l =
        let small : data_in p b t < p.order = each_decided b p.copies p.group p.order (layout_symbols p.layout) clean.groups (symbol_of p.layout (place p.layout t)) (stands_lt t l) in
        words.data_again p.bits p.layout fine.symbols_are (data_in p b) t (let e = fine.order_is in omega arith)

    symbol_again : (s : ℕ) → s < layout_symbols p.layout → pooled_in p b s ≡ symbol_at p (word_out p b) s
    unfolding first_bad_mark first_bad_rest
    symbol_again s l =
        channel.read_again p.layout fine.rows_least sizes.symbols_least fine.lines_are p.marks (data_symbol p (word_out p b)) (pooled_in p b) data_read_lem s
        (none_fails (mark_right p.layout p.marks (pooled_in p b)) (layout_symbols p.layout) clean.marks s l)
        (none_fails (rest_zero p.layout (pooled_in p b)) (layout_symbols p.layout) clean.rest s l)

-- slots that pool to the symbols of words are good, and the words come back
pub pooled_good : (p : Plan) (word : ℕ → List ℕ) (b : List ℕ) → Fine p → ((j : ℕ) → j < p.layout.words → length (word j) ≡ word_bytes) → ((j : ℕ) → j < p.layout.words → Bytes (word j))
    → spare_slots_empty p b ≡ true → ((s : ℕ) → s < layout_symbols p.layout → pooled_in p b s ≡ symbol_at p word s)
    → (slots_say p b ≡ Done) × ((j : ℕ) → j < p.layout.words → word_out p b j ≡ word j)
unfolding word_out
pooled_good p word b fine long bytes spare same = (
  clean_good p b record { spare = spare; groups = pass_groups p fine word b same; marks = pass_marks p fine word b same; rest = pass_rest p fine word b same },
  λ j l. words.word_again p.bits p.layout fine.symbols_are (let a = fine.bits_least in omega arith) word (data_in p b) (data_found p fine word b same) j l (long j l) (bytes j l),
)

-- and good slots pool to the symbols of the words in them
pub good_pooled : (p : Plan) (b : List ℕ) → Fine p → slots_say p b ≡ Done
    → (spare_slots_empty p b ≡ true) × ((s : ℕ) → s < layout_symbols p.layout → pooled_in p b s ≡ symbol_at p (word_out p b) s)
good_pooled p b fine good = let clean = good_clean p b good in (clean.spare, symbol_again p fine b clean)

-- ---- each symbol sent once

-- its copy has the only pulse there
pub pooled_once : (p : Plan) → Fine p → p.copies ≡ 1 → (b : List ℕ) (s : ℕ) → pooled_in p b s ≡ asked.symbol_in p.order p.group b s
pooled_once p fine one b s =
    let k = bounds p fine in
    ap (λ (c : ℕ). pool.pooled b c p.group p.order s) one ∙ pooled_one b p.group p.order s k.group_two k.group_least

-- what is good is what is written of its words
pub good_slots : (p : Plan) (b : List ℕ) → Fine p → p.copies ≡ 1 → length b ≡ slot_bytes p → Bytes b → slots_say p b ≡ Done → run_slots p (word_out p b) ≡ b
good_slots p b fine one long bytes good =
    let clean = good_clean p b good in
    let k = bounds p fine in
    let n : sent_count p ≡ layout_symbols p.layout = ap (λ (c : ℕ). layout_symbols p.layout * c) one ∙ mul-one (layout_symbols p.layout) in
    let small : (s : ℕ) → s < layout_symbols p.layout → asked.symbol_in p.order p.group b s < p.order = λ s l.
    rw (sym (pooled_once p fine one b s)) (each_decided b p.copies p.group p.order (layout_symbols p.layout) clean.groups s l) in
    slots_one p one (word_out p b)
    ∙ sym (pulses.slots_made p.group (layout_symbols p.layout) (symbol_at p (word_out p b)) p.order k.order_least k.group_least b
    (long ∙ ap (λ (m : ℕ). (m * p.group + 7) / 8) n) bytes (ap (λ (m : ℕ). asked.spare_empty p.group m b) (sym n) ∙ clean.spare) small
    (λ s l. sym (pooled_once p fine one b s) ∙ symbol_again p fine b clean s l))

-- the answer fits the number that C gets
pub slots_fit : (p : Plan) (b : List ℕ) → Fine p → Fits (slots_say p b)
unfolding slots_say pool.first_undecided first_bad_mark first_bad_rest
slots_fit p b fine =
    let n : ℕ = layout_symbols p.layout in
    let most = fine.symbols_bound in
    let x : first_bad_symbol p b ≤ n = up_to_le _ n in
    let y : first_bad_mark p b ≤ n = up_to_le _ n in
    let z : first_bad_rest p b ≤ n = up_to_le _ n in
    fits_then (ask (spare_slots_empty p b) 9 0) _ (fits_ask (spare_slots_empty p b) 9 0 (omega arith) (omega arith) (λ z. omega arith))
    (λ e. fits_then (ask (eqb (first_bad_symbol p b) n) 10 (first_bad_symbol p b)) _ (fits_ask (eqb (first_bad_symbol p b) n) 10 (first_bad_symbol p b) (omega arith) (omega arith) (λ z. omega arith))
    (λ f. fits_then (ask (eqb (first_bad_mark p b) n) 11 (first_bad_mark p b)) _ (fits_ask (eqb (first_bad_mark p b) n) 11 (first_bad_mark p b) (omega arith) (omega arith) (λ z. omega arith))
    (λ g. fits_ask (eqb (first_bad_rest p b) n) 12 (first_bad_rest p b) (omega arith) (omega arith) (λ z. omega arith))))

-- where 9 is answered yes, the first bad group is the place of 10
pub say_group : (p : Plan) (b : List ℕ) → spare_slots_empty p b ≡ true → (q : ℕ) → q ≡ first_bad_symbol p b → (q ≡ layout_symbols p.layout → ⊥) → No 10 q ≡ slots_say p b
unfolding slots_say
say_group p b spare q e h = rw (spare, ← e, ne_eqb q (layout_symbols p.layout) h) refl

abbrev pub word_bit : Plan → List ℕ → ℕ → ℕ → ℕ
word_bit p b j y = channels.word_bit p.bits p.layout (data_in p b) j y
