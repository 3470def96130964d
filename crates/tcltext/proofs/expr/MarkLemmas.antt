-- Steps over white space, digits and marks.
use Rattle.std.proofs.Common.{◌≡◌, ◌<◌, ℕ, [], ◌∷◌, length, drop, get_or, Bool, true, false, ◌||◌, ◌&&◌, ◌==◌, Some}
use Rattle.std.proofs.Common.{None, refl, ap, arith}
use Rattle.std.proofs.lemmas.Bool.Decides.{nat_tests}
use Rattle.tcltext.specs.chars.Runs.{Text, take_while, drop_while, begins}
use Rattle.tcltext.specs.chars.Bytes.{is_space, newline, backslash}
use Rattle.tcltext.specs.chars.Classes.{is_name}
use Rattle.tcltext.proofs.chars.RunLemmas.{drop_while-nil, drop_while-cons_true, drop_while-cons_false}
use Rattle.tcltext.specs.declared.expr.operators.Mark.{Mark}
use Rattle.tcltext.specs.declared.expr.numbers.Digits.{Digits}
use Rattle.tcltext.specs.declared.expr.numbers.Digits.TheVariants as digits
use Rattle.tcltext.specs.expr.Marks.{begins_white, after_white, mark_at, before, longest, symbol_at, word_mark}
use Rattle.tcltext.specs.expr.Operands.{is_digit, begins_digit, after_digits}

-- White space
pub white_some : (bs : Text) → begins_white bs ≡ true → 0 < length bs
white_some [] h = cc
white_some (b ∷ bs) h = omega arith

white_byte : (b : ℕ) (t : Bool) → (is_space b || (b == backslash && t)) ≡ true → b < 128
white_byte b true h = grind (arith, nat_tests)
white_byte b false h = grind (arith, nat_tests)

pub white_ascii : (bs : Text) → begins_white bs ≡ true → get_or bs 0 0 < 128
white_ascii [] h = cc
white_ascii (b ∷ bs) h = white_byte b (begins newline bs) h

pub white_more : (bs : Text) → begins_white bs ≡ true → after_white bs ≡ after_white (drop 1 bs)
unfolding after_white
white_more [] h = cc
white_more (b ∷ bs) h = rw h refl

pub white_end : (bs : Text) → begins_white bs ≡ false → after_white bs ≡ bs
unfolding after_white
white_end [] h = refl
white_end (b ∷ bs) h = rw h refl

-- Digits
pub digit_some : (k : Digits) (bs : Text) → begins_digit k bs ≡ true → 0 < length bs
digit_some k [] h = cc
digit_some k (b ∷ bs) h = omega arith

digit_byte : (k : Digits) (b : ℕ) → is_digit k b ≡ true → b < 128
digit_byte digits.Binary b h = grind (arith, nat_tests)
digit_byte digits.Octal b h = grind (arith, nat_tests)
digit_byte digits.Decimal b h = grind (arith, nat_tests)
digit_byte digits.Hexadecimal b h = grind (arith, nat_tests)

pub digit_ascii : (k : Digits) (bs : Text) → begins_digit k bs ≡ true → get_or bs 0 0 < 128
digit_ascii k [] h = cc
digit_ascii k (b ∷ bs) h = digit_byte k b h

pub digits_more : (k : Digits) (bs : Text) → begins_digit k bs ≡ true → after_digits k bs ≡ after_digits k (drop 1 bs)
unfolding after_digits
digits_more k [] h = cc
digits_more k (b ∷ bs) h = drop_while-cons_true (is_digit k) b bs h

pub digits_end : (k : Digits) (bs : Text) → begins_digit k bs ≡ false → after_digits k bs ≡ bs
unfolding after_digits
digits_end k [] h = drop_while-nil (is_digit k)
digits_end k (b ∷ bs) h = drop_while-cons_false (is_digit k) b bs h

-- Marks
pub mark_word : (bs : Text) (m : Mark) → word_mark (take_while is_name bs) ≡ Some m → mark_at bs ≡ Some (m, drop_while is_name bs)
unfolding mark_at
mark_word bs m h = ap (λ s. longest (before (drop_while is_name bs) s) (symbol_at bs)) h

pub mark_symbol : (bs : Text) → word_mark (take_while is_name bs) ≡ None → mark_at bs ≡ symbol_at bs
unfolding mark_at
mark_symbol bs h = ap (λ s. longest (before (drop_while is_name bs) s) (symbol_at bs)) h
