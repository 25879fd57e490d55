-- What a loop has written so far, one piece more, and the line that the pieces make.
use mathlib.Core.Path.{◌≡◌, refl, sym, ap, ◌∙◌}
use mathlib.Core.List.{List, [], ◌∷◌, ◌++◌, append_assoc}
use Prim.Native.Nat.{ℕ, suc, ◌+◌, ◌≤◌, ◌<◌}
use native.Mathlib.Omega.{arith}
use native.Mathlib.Numerals.{add-one}
use native.Mathlib.Nat.{min-le_right}
use lib.ListN.{length, get_or, take, drop, set, length-append, length-take, length-set, drop_of_length-le}
use lib.Seq.{take-suc, take-suc-set, drop-cons, length-take-le}
use Rattle.io.specs.Counts.{IsPrefixLen}
use Rattle.header.specs.Header.{fields_of}
use Rattle.header_questions.specs.Questions.{header_says}
use Rattle.answers.specs.Answer.{Answer, Done, No}
use Rattle.sheet.specs.Text.{decimal, space, newline, item, items}
use Rattle.sheet.specs.Inner.{Put}
use Rattle.sheet.specs.Line.{run_line, no_line, line_for, line_of, Printed}
use Rattle.sheet.proofs.Decimals.{decimal_short}

-- the same piece
pub put_same : (a b x y : List ℕ) (at next : ℕ) → x ≡ y → Put a at x b next → Put a at y b next
put_same a b x y at next e p = rw e at p

-- a piece after a piece
pub put_put : (a b c x y : List ℕ) (at mid next : ℕ) → Put a at x b mid → Put b mid y c next → Put a at (x ++ y) c next
put_put a b c x y at mid next p q = record {
  next_is = q.next_is ∙ ap (λ (n : ℕ). n + length y) p.next_is ∙ simp length-append (omega arith);
  text = q.text ∙ ap (λ (t : List ℕ). t ++ y) p.text ∙ append_assoc (take at a) x y;
}

-- one byte
pub put_byte : (before : List ℕ) (at b : ℕ) → at < length before → Put before at (b ∷ []) (set before at b) (at + 1)
put_byte before at b l = record {
  next_is = refl;
  text = rw (add-one at) (take-suc-set before at b l);
}

pub item_short : (n : ℕ) → length (item n) ≤ 21
unfolding item
item_short n = let l = decimal_short n in omega arith

-- a number after a space, put in two
pub put_spaced : (a c : List ℕ) (at n next : ℕ) → at < length a → Put (set a at space) (at + 1) (decimal n) c next → Put a at (item n) c next
unfolding item
put_spaced a c at n next l q = put_put a (set a at space) c (space ∷ []) (decimal n) at (at + 1) next (put_byte a at space l) q

-- what is put, and the items to come, is the whole line
pub items_more : (numbers : List ℕ) (i : ℕ) → i < length numbers → items (drop i numbers) ≡ item (get_or numbers i 0) ++ items (drop (i + 1) numbers)
unfolding items
items_more numbers i l = rw (add-one i, drop-cons numbers i 0 l) refl

pub items_end : (numbers : List ℕ) (i : ℕ) → length numbers ≤ i → items (drop i numbers) ≡ newline ∷ []
unfolding items
items_end numbers i l = rw (drop_of_length-le numbers l) refl

pub items_turn : (before out out' numbers : List ℕ) (at i next next' : ℕ) → i < length numbers
    → take next out ++ items (drop i numbers) ≡ take at before ++ items numbers → Put out next (item (get_or numbers i 0)) out' next'
    → take next' out' ++ items (drop (i + 1) numbers) ≡ take at before ++ items numbers
items_turn before out out' numbers at i next next' l e p =
    ap (λ (x : List ℕ). x ++ items (drop (i + 1) numbers)) p.text
    ∙ append_assoc (take next out) (item (get_or numbers i 0)) (items (drop (i + 1) numbers))
    ∙ ap (λ (x : List ℕ). take next out ++ x) (sym (items_more numbers i l))
    ∙ e

pub items_done : (before out numbers : List ℕ) (at i next : ℕ) → length numbers ≤ i → at ≤ length before → next < length out
    → take next out ++ items (drop i numbers) ≡ take at before ++ items numbers → Put before at (items numbers) (set out next newline) (next + 1)
items_done before out numbers at i next l h m e = record {
  next_is = sym (length-take-le (next + 1) (set out next newline) (let z = length-set out next newline in omega arith))
      ∙ ap length whole ∙ length-append (take at before) (items numbers) ∙ ap (λ (n : ℕ). n + length (items numbers)) (length-take-le at before h);
  text = whole;
}
  where
    whole : take (next + 1) (set out next newline) ≡ take at before ++ items numbers
    whole =
        rw (add-one next) (take-suc-set out next newline m)
        ∙ ap (λ (x : List ℕ). take next out ++ x) (sym (items_end numbers i l))
        ∙ e

-- text at the start of a slice is counted by its end
pub put_counts : (before piece after : List ℕ) (n : ℕ) → Put before 0 piece after n → IsPrefixLen n after
put_counts before piece after n p =
    let whole : n ≡ length piece = omega arith in
    let e : n ≡ length (take n after) = whole ∙ sym (ap length p.text) in
    let m : length (take n after) ≤ length after = rw (length-take n after) (min-le_right n (length after)) in
    (omega arith, e)

-- ---- the line

pub printed : (header before piece out : List ℕ) (n : ℕ) → piece ≡ line_of header → Put before 0 piece out n → Printed header out n
printed header before piece out n e p = record {
  count = (let whole : n ≡ length piece = omega arith in whole ∙ ap length e);
  text = p.text ∙ e;
}

-- the two kinds of line
pub line_no : (header : List ℕ) (number place : ℕ) → No number place ≡ header_says header → no_line number ≡ line_of header
unfolding line_of
line_no header number place e = ap (λ (a : Answer). line_for a (fields_of header)) e

pub line_run : (header : List ℕ) → header_says header ≡ Done → run_line (fields_of header) ≡ line_of header
unfolding line_of
line_run header e = sym (rw e refl)
