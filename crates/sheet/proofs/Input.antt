-- What is read of an input, and that eleven of its bytes are enough for the line of all.
use Rattle.std.proofs.Common.{◌≡◌, ℕ, ◌≤◌, ◌<◌, List, ◌++◌, refl, sym, ap, ◌∙◌, subst, arith, length, length-take, take, take_all, None, Some, IfSome}
use mathlib.Core.Logic.{⊎_elim}
use lib.Seq.{take_at}
use mathlib.Core.List.{append-nil}
use borrow.Author.Tests.{ne_eqb}
use Rattle.std.specs.declared.option.Option.{Option}
use Rattle.std.specs.Io.KnownBytes.{Appends, Consumes, IsAtEnd}
use Rattle.answers.specs.Answer.{No}
use Rattle.bits.proofs.Laws.Choice.{lt_or_le}
use Rattle.header_questions.specs.Questions.{question1, form_says, header_says}
use Rattle.sheet.specs.Line.{line_of}

pub other_length : (header : List ℕ) → (length header ≡ 10 → ⊥) → header_says header ≡ No 1 0
unfolding header_says form_says question1
other_length header h = rw (ne_eqb (length header) 10 h) refl

line_of_other : (x y : List ℕ) → (length x ≡ 10 → ⊥) → (length y ≡ 10 → ⊥) → line_of x ≡ line_of y
unfolding line_of
line_of_other x y p q = rw (other_length x p, other_length y q) refl

line_of_front : (bytes : List ℕ) → line_of (take 11 bytes) ≡ line_of bytes
line_of_front bytes =
    ⊎_elim
    (λ (l : length bytes < 11). ap line_of (take_all 11 bytes (omega arith)))
    (λ (l : 11 ≤ length bytes). line_of_other (take 11 bytes) bytes (λ e. omega (arith, length-take 11 bytes, e)) (λ e. omega arith))
    (lt_or_le (length bytes) 11)

-- a slice was filled, or the input ended
pub front_read : (a b : Option (List ℕ)) (xs : List ℕ) (room n : ℕ) → length xs ≡ room → n ≤ length xs → Consumes a b (take n xs) → (n < length xs → IsAtEnd b)
    → IfSome a (λ bytes. take n xs ≡ take room bytes)
front_read None b xs room n long l p e = tt
front_read (Some bytes) None xs room n long l p e = absurd p
front_read (Some bytes) (Some rest) xs room n long l p e =
    ⊎_elim
    (λ (m : n < length xs).
    let all : bytes ≡ take n xs = p ∙ ap (λ r. take n xs ++ r) (e m) ∙ append-nil (take n xs) in
    sym (take_all room bytes (omega (arith, ap length all, length-take n xs)) ∙ all))
    (λ (m : length xs ≤ n).
    let whole = take_all n xs m in
    whole ∙ sym (ap (take room) (p ∙ ap (λ x. x ++ rest) whole) ∙ take_at xs rest room long))
    (lt_or_le n (length xs))

pub line_printed : (a before after : Option (List ℕ)) (xs text : List ℕ) → IfSome a (λ bytes. xs ≡ take 11 bytes) → text ≡ line_of xs
    → Appends before after text → IfSome a (λ bytes. Appends before after (line_of bytes))
line_printed None before after xs text h e p = tt
line_printed (Some bytes) before after xs text h e p = subst (Appends before after) (e ∙ ap line_of h ∙ line_of_front bytes) p

pub front_taken : (a b : Option (List ℕ)) (xs : List ℕ) → IfSome a (λ bytes. xs ≡ take 11 bytes) → Consumes a b xs
    → IfSome a (λ bytes. Consumes a b (take 11 bytes))
front_taken None b xs h p = tt
front_taken (Some bytes) b xs h p = subst (Consumes (Some bytes) b) h p
