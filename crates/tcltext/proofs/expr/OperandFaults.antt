-- Where no operand begins, the fault that is met is the one that is there; and an operand that is there is read.
use Rattle.std.proofs.Common.{◌≡◌, ℕ, zero, suc, ◌≤◌, [], ◌∷◌, ◌++◌, length, take, Bool, true, false, cond, not, ◌||◌}
use Rattle.std.proofs.Common.{◌&&◌, ◌==◌, Option, Some, None, Result, Ok, Err, refl, sym, ap, ap₂, subst, ◌∙◌, arith}
use Rattle.std.proofs.Common.{append_assoc, inl, inr}
use Rattle.std.proofs.lemmas.Bool.Decides.{nat_tests}
use Rattle.tcltext.specs.chars.Runs.{Text, take_while, drop_while, begins}
use Rattle.tcltext.specs.chars.Bytes.{AllPass, MayBegin, DoesBegin}
use Rattle.tcltext.specs.chars.Classes.{is_name, in_class}
use Rattle.tcltext.specs.chars.Braces.{braced_at}
use Rattle.tcltext.specs.chars.Reading.{◌>>=◌, Read, read_map, remaining_of}
use Rattle.tcltext.specs.declared.chars.fault.Fault.{Fault}
use Rattle.tcltext.specs.declared.chars.fault.Fault.TheVariants.{OpenBrace, BadExpression}
use Rattle.tcltext.proofs.chars.BraceClose.{close_sound, found_close, is_byte}
use Rattle.tcltext.proofs.chars.Results.{bind_err, ok_err, read_map_err}
use Rattle.tcltext.specs.declared.script.context.Context.TheVariants.{InQuotes}
use Rattle.tcltext.specs.script.Tree as tree
use Rattle.tcltext.specs.script.Tree.{Part, Parts, nesting, parts_nesting, part_nesting}
use Rattle.tcltext.specs.script.Grammar as script_grammar
use Rattle.tcltext.specs.script.Grammar.{IsPart, IsLongestName}
use Rattle.tcltext.specs.script.Faults as script_faults
use Rattle.tcltext.specs.script.Faults.{PartFault, PartsFault, NeverCloses, Expands}
use Rattle.tcltext.specs.script.Ends.{class_of}
use Rattle.tcltext.specs.script.Reading.{inner_at, part_at, quotes_at, taken}
use Rattle.tcltext.proofs.script.Ends.{end_length}
use Rattle.tcltext.proofs.script.PartsExact.{part_sound, part_faulty, part_again, at_dollar, at_bracket}
use Rattle.tcltext.proofs.script.PartFaults.{part_met}
use Rattle.tcltext.proofs.script.Operands.{quotes_exact}
use Rattle.tcltext.proofs.script.Dollars.{dollar_alone}
use Rattle.tcltext.proofs.script.Whole as script_whole
use Rattle.tcltext.proofs.script.Whole.{inner_exact}
use Rattle.tcltext.proofs.script.Marks.{Without, run_taken, front_run, back_run, true_false}
use Rattle.tcltext.specs.declared.expr.numbers.Digits.TheVariants.{Decimal}
use Rattle.tcltext.specs.expr.Operands.{Operand, number, word, variable, indexed, bracket, quoted, braced, is_digit}
use Rattle.tcltext.specs.expr.Operands.{begins_digit, announced, after_announced, after_based, begins_point, after_exponent}
use Rattle.tcltext.specs.expr.Operands.{after_fraction, after_digits, after_decimal, first_of_both, after_number, is_truth}
use Rattle.tcltext.specs.expr.Operands.{operand_of, substituted, quoted_at, operand_in_braces, word_at, numeric, operand_at}
use Rattle.tcltext.specs.expr.OperandGrammar.{IsSubstitution, IsTruthWord, IsOperand, is_opening, OperandFault}
use Rattle.tcltext.specs.expr.OperandGrammar.{in_substitution, lone_dollar, open_brace, in_quotes, open_quote, no_operand}
use Rattle.tcltext.proofs.expr.OperandSteps.{word-read, word-false, word-called}
use Rattle.tcltext.proofs.expr.OperandSound.{operand_dollar, operand_bracket, operand_quote, operand_brace, operand_other}
use Rattle.tcltext.proofs.expr.OperandSound.{Opening, dollar, square, quote, brace, other, opening}

abbrev script_run : ℕ → Bool
script_run = in_class (class_of InQuotes)

-- What is there is read

part_read : (d : ℕ) (p : Part) (t rest : Text) → IsPart InQuotes p t rest → part_nesting p ≤ d → part_at InQuotes (inner_at d) (t ++ rest) ≡ Ok (p, rest)
part_read d p t rest is deep = part_again d (inner_at d) (inner_exact d) InQuotes p t rest (is, deep)

-- a part that begins as a variable or a script does, read as an operand
from_dollar : (d : ℕ) (xs rest : Text) (p : Part) (o : Operand × ℕ)
    → part_at InQuotes (inner_at d) (36 ∷ xs) ≡ Ok (p, rest) → operand_of (suc (length xs)) p ≡ Ok o
    → operand_at d (36 ∷ xs) ≡ Ok (o, rest)
from_dollar d xs rest p o h k =
    operand_dollar d xs ∙ ap (λ r. r >>= substituted (suc (length xs))) (sym (at_dollar d (inner_at d) (inner_exact d) InQuotes xs) ∙ h)
    ∙ ap (λ (o : Result (Operand × ℕ) Fault). o >>= (λ o. let found : Read (Operand × ℕ) = Ok (o, rest) in found)) k

from_square : (d : ℕ) (xs rest : Text) (p : Part) (o : Operand × ℕ)
    → part_at InQuotes (inner_at d) (91 ∷ xs) ≡ Ok (p, rest) → operand_of (suc (length xs)) p ≡ Ok o
    → operand_at d (91 ∷ xs) ≡ Ok (o, rest)
from_square d xs rest p o h k =
    operand_bracket d xs ∙ ap (λ r. r >>= substituted (suc (length xs))) (sym (at_bracket d (inner_at d) (inner_exact d) InQuotes xs) ∙ h)
    ∙ ap (λ (o : Result (Operand × ℕ) Fault). o >>= (λ o. let found : Read (Operand × ℕ) = Ok (o, rest) in found)) k

-- how a variable begins
dollar_first : (name t rest : Text) → IsPart InQuotes (tree.variable name) t rest → (ys : Text) × (t ≡ 36 ∷ ys)
dollar_first name t rest (inl h) = (name, h.0)
dollar_first name t rest (inr h) = (123 ∷ (name ++ 125 ∷ []), h.0)

variable_again : (d : ℕ) (bs rest name : Text) (k : ℕ) → IsSubstitution bs rest (tree.variable name) k → k ≤ d → operand_at d bs ≡ Ok ((variable name, k), rest)
variable_again d bs rest name k h deep =
    let first = dollar_first name h.0 rest h.2 in
    let at : h.0 ++ rest ≡ 36 ∷ (first.0 ++ rest) = ap (λ t. t ++ rest) first.1 in
    let read : part_at InQuotes (inner_at d) (36 ∷ (first.0 ++ rest)) ≡ Ok (tree.variable name, rest) = ap
    (part_at InQuotes (inner_at d)) (sym at) ∙ part_read d (tree.variable name) h.0 rest h.2 (omega arith) in
    ap (operand_at d) (h.1 ∙ at) ∙ from_dollar d (first.0 ++ rest) rest (tree.variable name) (variable name, 0) read refl ∙ ap (λ n. Ok ((variable name, n), rest)) (sym h.3)

indexed_again : (d : ℕ) (bs rest name : Text) (ps : Parts) (k : ℕ) → IsSubstitution bs rest (tree.indexed name ps) k → k ≤ d → operand_at d bs ≡ Ok ((indexed name ps, k), rest)
indexed_again d bs rest name ps k h deep =
    let ys = name ++ 40 ∷ (h.2.0 ++ 41 ∷ []) in
    let at : h.0 ++ rest ≡ 36 ∷ (ys ++ rest) = ap (λ t. t ++ rest) h.2.1 in
    let read : part_at InQuotes (inner_at d) (36 ∷ (ys ++ rest)) ≡ Ok (tree.indexed name ps, rest) = ap
    (part_at InQuotes (inner_at d)) (sym at) ∙ part_read d (tree.indexed name ps) h.0 rest h.2 (omega (arith, h.3))
    in
    ap (operand_at d) (h.1 ∙ at) ∙ from_dollar d (ys ++ rest) rest (tree.indexed name ps) (indexed name ps, suc (parts_nesting ps)) read refl ∙ ap (λ n. Ok ((indexed name ps, n), rest)) (sym h.3)

bracket_again : (d : ℕ) (bs rest : Text) (s : tree.Commands) (k : ℕ) → IsSubstitution bs rest (tree.bracket s) k → k ≤ d → operand_at d bs ≡ Ok ((bracket s, k), rest)
bracket_again d bs rest s k h deep =
    let ys = h.2.0 ++ 93 ∷ [] in
    let at : h.0 ++ rest ≡ 91 ∷ (ys ++ rest) = ap (λ t. t ++ rest) h.2.1 in
    let read : part_at InQuotes (inner_at d) (91 ∷ (ys ++ rest)) ≡ Ok (tree.bracket s, rest) = ap
    (part_at InQuotes (inner_at d)) (sym at) ∙ part_read d (tree.bracket s) h.0 rest h.2 (omega (arith, h.3)) in
    ap (operand_at d) (h.1 ∙ at) ∙ from_square d (ys ++ rest) rest (tree.bracket s) (bracket s, suc (nesting s)) read refl ∙ ap (λ n. Ok ((bracket s, n), rest)) (sym h.3)

quoted_again : (d : ℕ) (bs rest : Text) (ps : Parts) (k : ℕ) → IsOperand bs rest (quoted ps) k → k ≤ d → operand_at d bs ≡ Ok ((quoted ps, k), rest)
unfolding quoted_at
quoted_again d bs rest ps k h deep =
    let xs = h.0 ++ 34 ∷ rest in
    let whole : (h.0 ++ 34 ∷ []) ++ rest ≡ xs = append_assoc h.0 (34 ∷ []) rest in
    let read : quotes_at (inner_at d) xs ≡ Ok (ps, rest) =
    ap (quotes_at (inner_at d)) (sym whole) ∙ (quotes_exact d (inner_at d) (inner_exact d)).again ps (h.0 ++ 34 ∷ []) rest (h.0, refl, h.2, omega (arith, h.3))
    in
    ap (operand_at d) h.1 ∙ operand_quote d xs ∙ ap (read_map (λ (ps : Parts). let made : Operand × ℕ = (quoted ps, parts_nesting ps) in made)) read ∙ ap (λ n. Ok ((quoted ps, n), rest)) (sym h.3)

braced_again : (d : ℕ) (bs rest t : Text) (k : ℕ) → IsOperand bs rest (braced t) k → operand_at d bs ≡ Ok ((braced t, k), rest)
braced_again d bs rest t k h =
    ap (operand_at d) h.0 ∙ operand_brace d (t ++ 125 ∷ rest) ∙ ap (operand_in_braces (suc (length (t ++ 125 ∷ rest)))) (found_close t rest h.1) ∙ ap (λ n. Ok ((braced t, n), rest)) (sym h.2)

-- a number begins with a digit or a point
point_byte : (b : ℕ) → (is_digit Decimal b || b == 46) ≡ true → not (is_opening b) ≡ true
point_byte b h = grind (arith, nat_tests)

name_byte : (b : ℕ) → is_name b ≡ true → not (is_opening b) ≡ true
name_byte b h = grind (arith, nat_tests)

opening_marks : (b : ℕ) → not (is_opening b) ≡ true → (not (b == 36) ≡ true) × (not (b == 91) ≡ true) × (not (b == 34) ≡ true) × (not (b == 123) ≡ true)
opening_marks b h = (grind (arith, nat_tests), grind (arith, nat_tests), grind (arith, nat_tests), grind (arith, nat_tests))

pub at_other : (d : ℕ) (bs : Text) → MayBegin (λ b. not (is_opening b)) bs → operand_at d bs ≡ numeric bs (after_number bs)
at_other d [] h = operand_other d [] tt tt tt tt
at_other d (b ∷ bs) h = let m = opening_marks b h in operand_other d (b ∷ bs) m.0 m.1 m.2 m.3

number_first : (b : ℕ) (bs rest : Text) → after_number (b ∷ bs) ≡ Some rest → (is_digit Decimal b || b == 46) ≡ true
unfolding after_number
number_first b bs rest h = both (after_based (b ∷ bs)) (after_decimal (b ∷ bs)) (based b bs) (decimal b bs) h where
  zero_digit : (b : ℕ) → (b == 48) ≡ true → (is_digit Decimal b || b == 46) ≡ true
  zero_digit b h = grind (arith, nat_tests)

  decimal_byte : (b : ℕ) (t : Bool) → (is_digit Decimal b || (b == 46 && t)) ≡ true → (is_digit Decimal b || b == 46) ≡ true
  decimal_byte b true h = grind (arith, nat_tests)
  decimal_byte b false h = grind (arith, nat_tests)

  based : (b : ℕ) (bs r : Text) → after_based (b ∷ bs) ≡ Some r → (is_digit Decimal b || b == 46) ≡ true
  based b [] r h = cc
  based b (c ∷ bs) r h = go (b == 48) refl h where
    go : (t : Bool) → (b == 48) ≡ t → cond t (after_announced bs (announced c)) None ≡ Some r → (is_digit Decimal b || b == 46) ≡ true
    go true t h = zero_digit b t
    go false t h = cc

  decimal : (b : ℕ) (bs r : Text) → after_decimal (b ∷ bs) ≡ Some r → (is_digit Decimal b || b == 46) ≡ true
  decimal b bs r h = go (begins_digit Decimal (b ∷ bs) || begins_point (b ∷ bs)) refl h where
    go : (t : Bool) → (begins_digit Decimal (b ∷ bs) || begins_point (b ∷ bs)) ≡ t
        → cond t (Some (after_exponent (after_fraction (after_digits Decimal (b ∷ bs))))) None ≡ Some r
        → (is_digit Decimal b || b == 46) ≡ true
    go true t h = decimal_byte b (begins_digit Decimal bs) t
    go false t h = cc

  both : (one two : Option Text) → ((r : Text) → one ≡ Some r → (is_digit Decimal b || b == 46) ≡ true) → ((r : Text) → two ≡ Some r → (is_digit Decimal b || b == 46) ≡ true)
      → first_of_both one two ≡ Some rest → (is_digit Decimal b || b == 46) ≡ true
  both None two x y h = y rest h
  both (Some r) two x y h = x r refl

number_opens : (bs rest : Text) → after_number bs ≡ Some rest → MayBegin (λ b. not (is_opening b)) bs
number_opens [] rest h = tt
number_opens (b ∷ bs) rest h = point_byte b (number_first b bs rest h)

take_front : (xs ys : Text) → take (length xs) (xs ++ ys) ≡ xs
take_front [] ys = refl
take_front (x ∷ xs) ys = ap (λ zs. x ∷ zs) (take_front xs ys)

taken_is : (bs rest t : Text) → bs ≡ t ++ rest → taken bs rest ≡ t
taken_is bs rest t e = ap (λ n. take n bs) (end_length bs rest (t, e)) ∙ ap (take (length t)) e ∙ take_front t rest

number_again : (d : ℕ) (bs rest t : Text) (k : ℕ) → IsOperand bs rest (number t) k → operand_at d bs ≡ Ok ((number t, k), rest)
number_again d bs rest t k h =
    at_other d bs (number_opens bs rest h.1) ∙ ap (numeric bs) h.1 ∙ ap₂ (λ (x : Text) (n : ℕ). Ok ((number x, n), rest)) (taken_is bs rest t h.0) (sym h.2)

no_truth : false ≡ is_truth []
unfolding is_truth
no_truth = refl

-- a truth word is some bytes
pub truth_some : (t : Text) → AllPass is_name t → is_truth t ≡ true → DoesBegin is_name t
truth_some [] all h = absurd (true_false (no_truth ∙ h))
truth_some (b ∷ t) all h = all.0

word_opens : (t rest : Text) → DoesBegin is_name t → MayBegin (λ b. not (is_opening b)) (t ++ rest)
word_opens [] rest h = absurd h
word_opens (b ∷ t) rest h = name_byte b h

word_there : (bs t rest : Text) → bs ≡ t ++ rest → IsTruthWord t rest → word_at bs ≡ Ok ((word t, 0), rest)
word_there bs t rest e h =
    word-read bs t rest t (sym (ap (take_while is_name) e ∙ front_run is_name t rest h.0 h.1)) (sym (ap (drop_while is_name) e ∙ back_run is_name t rest h.0 h.1)) h.2 h.3 refl

word_again : (d : ℕ) (bs rest t : Text) (k : ℕ) → IsOperand bs rest (word t) k → operand_at d bs ≡ Ok ((word t, k), rest)
word_again d bs rest t k h =
    at_other d bs (subst (MayBegin (λ b. not (is_opening b))) (sym h.0) (word_opens t rest (truth_some t h.2.0 h.2.2)))
    ∙ ap (numeric bs) h.1 ∙ word_there bs t rest h.0 h.2 ∙ ap (λ n. Ok ((word t, n), rest)) (sym h.3)

-- An operand that is there is read, where brackets and parentheses may nest so deep.
pub operand_again : (d : ℕ) (bs rest : Text) (o : Operand) (k : ℕ) → IsOperand bs rest o k → k ≤ d → operand_at d bs ≡ Ok ((o, k), rest)
operand_again d bs rest (number t) k h deep = number_again d bs rest t k h
operand_again d bs rest (word t) k h deep = word_again d bs rest t k h
operand_again d bs rest (variable name) k h deep = variable_again d bs rest name k h deep
operand_again d bs rest (indexed name ps) k h deep = indexed_again d bs rest name ps k h deep
operand_again d bs rest (bracket s) k h deep = bracket_again d bs rest s k h deep
operand_again d bs rest (quoted ps) k h deep = quoted_again d bs rest ps k h deep
operand_again d bs rest (braced t) k h deep = braced_again d bs rest t k h

-- Faults that are met

none_some : {A : Type 0} (found : Option A) (x : A) → found ≡ None → found ≡ Some x → ⊥
none_some found x h k = apart (sym h ∙ k) where
  apart : {A : Type 0} {x : A} → (let none : Option A = None in none) ≡ Some x → ⊥
  apart h = cc

err_one : {A : Type 0} (e f : Fault) → (let err : Result A Fault = Err e in err) ≡ Err f → e ≡ f
err_one e f h = cc

dollar_not : (b : ℕ) → b ≡ 36 → script_run b ≡ false
dollar_not b e = rw e refl

square_not : (b : ℕ) → b ≡ 91 → script_run b ≡ false
square_not b e = rw e refl

dollar_class : (b : ℕ) → b ≡ 36 → script_run b ≡ true → ⊥
dollar_class b e h = true_false (sym (dollar_not b e) ∙ h)

square_class : (b : ℕ) → b ≡ 91 → script_run b ≡ true → ⊥
square_class b e h = true_false (sym (square_not b e) ∙ h)

head_is : (a b : ℕ) (xs ys : Text) → a ∷ xs ≡ b ∷ ys → a ≡ b
head_is a b xs ys e = cc

empty_no : (a : ℕ) (xs : Text) → [] ≡ a ∷ xs → ⊥
empty_no a xs e = cc

apart : (a b : ℕ) (xs ys : Text) → a ∷ xs ≡ b ∷ ys → (a ≡ b → ⊥) → ⊥
apart a b xs ys e differ = differ (head_is a b xs ys e)

-- a part that stands for itself is no operand
literal_fault : (d : ℕ) (xs rest t taken : Text) (f : Fault) → 36 ∷ xs ≡ taken ++ rest → IsPart InQuotes (tree.literal t) taken rest → BadExpression (suc (length xs)) ≡ f → OperandFault d (36 ∷ xs) f
literal_fault d xs rest t [] f e (same, is) k = absurd (empty_literal t (sym same) is) where
  empty_literal : (t : Text) → t ≡ [] → script_grammar.IsLiteral InQuotes t rest → ⊥
  empty_literal t n (inl run) = subst (DoesBegin script_run) n run.0
  empty_literal t n (inr (inl alone)) = empty_no 36 [] (sym n ∙ alone.0)
  empty_literal t n (inr (inr last)) = empty_no 92 [] (sym n ∙ last.0)
literal_fault d xs rest t (b ∷ taken) f e (same, is) k = by_kind is where
  first : b ≡ 36
  first = cc

  by_kind : script_grammar.IsLiteral InQuotes t rest → OperandFault d (36 ∷ xs) f
  by_kind (inl run) = absurd (dollar_class b first (subst (DoesBegin script_run) (sym same) run.0))
  by_kind (inr (inl alone)) =
      let one : b ∷ taken ≡ 36 ∷ [] = same ∙ alone.0 in
      let none : taken ≡ [] = cc in
      let all : xs ≡ rest = (let tail : xs ≡ taken ++ rest = cc in tail ∙ ap (λ ys. ys ++ rest) none) in
      subst (OperandFault d (36 ∷ xs)) k (lone_dollar (refl, subst (IsLongestName []) (sym all) alone.1, subst (MayBegin (λ b. not (b == 40 || b == 123))) (sym all) alone.2))
  by_kind (inr (inr last)) = absurd (apart 36 92 taken [] (ap (λ c. c ∷ taken) (sym first) ∙ same ∙ last.0) (λ e. omega arith))

dollar_substituted : (d : ℕ) (xs rest taken : Text) (p : Part) (f : Fault) → 36 ∷ xs ≡ taken ++ rest
    → IsPart InQuotes p taken rest → substituted (suc (length xs)) (p, rest) ≡ Err f → OperandFault d (36 ∷ xs) f
dollar_substituted d xs rest taken (tree.literal t) f e is h = literal_fault d xs rest t taken f e is (err_one {A = (Operand × ℕ) × Text} (BadExpression (suc (length xs))) f h)
dollar_substituted d xs rest taken (tree.braced t) f e is h = absurd is
dollar_substituted d xs rest taken (tree.backslash v) f e is h = absurd (apart 36 92 xs (is.0 ++ rest) (e ∙ ap (λ ys. ys ++ rest) is.1) (λ e. omega arith))
dollar_substituted d xs rest taken (tree.variable name) f e is h = absurd (ok_err ((variable name, 0), rest) f h)
dollar_substituted d xs rest taken (tree.indexed name ps) f e is h = absurd (ok_err ((indexed name ps, suc (parts_nesting ps)), rest) f h)
dollar_substituted d xs rest taken (tree.bracket s) f e is h = absurd (ok_err ((bracket s, suc (nesting s)), rest) f h)

square_literal : (xs rest t taken : Text) → 91 ∷ xs ≡ taken ++ rest → IsPart InQuotes (tree.literal t) taken rest → ⊥
square_literal xs rest t taken e (same, inl run) = go taken e (subst (DoesBegin script_run) (sym same) run.0) where
  go : (taken : Text) → 91 ∷ xs ≡ taken ++ rest → DoesBegin script_run taken → ⊥
  go [] e h = h
  go (b ∷ taken) e h = (let first : b ≡ 91 = cc in square_class b first h)
square_literal xs rest t taken e (same, inr (inl alone)) = apart 91 36 xs rest (e ∙ ap (λ ys. ys ++ rest) (same ∙ alone.0)) (λ e. omega arith)
square_literal xs rest t taken e (same, inr (inr last)) = apart 91 92 xs rest (e ∙ ap (λ ys. ys ++ rest) (same ∙ last.0)) (λ e. omega arith)

square_substituted : (d : ℕ) (xs rest taken : Text) (p : Part) (f : Fault) → 91 ∷ xs ≡ taken ++ rest
    → IsPart InQuotes p taken rest → substituted (suc (length xs)) (p, rest) ≡ Err f → OperandFault d (91 ∷ xs) f
square_substituted d xs rest taken (tree.literal t) f e is h = absurd (square_literal xs rest t taken e is)
square_substituted d xs rest taken (tree.braced t) f e is h = absurd is
square_substituted d xs rest taken (tree.backslash v) f e is h = absurd (apart 91 92 xs (is.0 ++ rest) (e ∙ ap (λ ys. ys ++ rest) is.1) (λ e. omega arith))
square_substituted d xs rest taken (tree.variable name) f e is h = absurd (ok_err ((variable name, 0), rest) f h)
square_substituted d xs rest taken (tree.indexed name ps) f e is h = absurd (ok_err ((indexed name ps, suc (parts_nesting ps)), rest) f h)
square_substituted d xs rest taken (tree.bracket s) f e is h = absurd (ok_err ((bracket s, suc (nesting s)), rest) f h)

dollar_faulty : (d : ℕ) (xs : Text) (f : Fault) → operand_at d (36 ∷ xs) ≡ Err f → OperandFault d (36 ∷ xs) f
dollar_faulty d xs f h =
    let from : (part_at InQuotes (inner_at d) (36 ∷ xs) >>= substituted (suc (length xs))) ≡ Err f =
    ap (λ r. r >>= substituted (suc (length xs))) (at_dollar d (inner_at d) (inner_exact d) InQuotes xs) ∙ sym (operand_dollar d xs) ∙ h
    in
    elim (bind_err (part_at InQuotes (inner_at d) (36 ∷ xs)) (substituted (suc (length xs))) f from) [
      | inl e ↦ in_substitution refl (part_faulty d (inner_at d) (inner_exact d) InQuotes (36 ∷ xs) f refl e)
      | inr y ↦ (let t = part_sound d (inner_at d) (inner_exact d) InQuotes (36 ∷ xs) y.0.0 y.0.1 refl y.1 in dollar_substituted d xs y.0.1 t.taken y.0.0 f t.whole t.is.1.0 y.2)
    ]

square_faulty : (d : ℕ) (xs : Text) (f : Fault) → operand_at d (91 ∷ xs) ≡ Err f → OperandFault d (91 ∷ xs) f
square_faulty d xs f h =
    let from : (part_at InQuotes (inner_at d) (91 ∷ xs) >>= substituted (suc (length xs))) ≡ Err f =
    ap (λ r. r >>= substituted (suc (length xs))) (at_bracket d (inner_at d) (inner_exact d) InQuotes xs) ∙ sym (operand_bracket d xs) ∙ h
    in
    elim (bind_err (part_at InQuotes (inner_at d) (91 ∷ xs)) (substituted (suc (length xs))) f from) [
      | inl e ↦ in_substitution refl (part_faulty d (inner_at d) (inner_exact d) InQuotes (91 ∷ xs) f refl e)
      | inr y ↦ (let t = part_sound d (inner_at d) (inner_exact d) InQuotes (91 ∷ xs) y.0.0 y.0.1 refl y.1 in square_substituted d xs y.0.1 t.taken y.0.0 f t.whole t.is.1.0 y.2)
    ]

quote_faulty : (d : ℕ) (xs : Text) (f : Fault) → quoted_at d xs ≡ Err f → OperandFault d (34 ∷ xs) f
unfolding quoted_at
quote_faulty d xs f h =
    elim ((quotes_exact d (inner_at d) (inner_exact d)).faulty xs f tt
    (read_map_err (λ (ps : Parts). let made : Operand × ℕ = (quoted ps, parts_nesting ps) in made)
    (quotes_at (inner_at d) xs) f h)) [
      | inl k ↦ in_quotes k
      | inr k ↦ subst (OperandFault d (34 ∷ xs)) k.3 (open_quote k.0 k.1 k.2)
    ]

brace_faulty : (d : ℕ) (xs : Text) (f : Fault) (found : Option (Text × Text)) → braced_at false 0 xs ≡ found → operand_in_braces (suc (length xs)) found ≡ Err f → OperandFault d (123 ∷ xs) f
brace_faulty d xs f None is h =
    subst (OperandFault d (123 ∷ xs)) (err_one {A = (Operand × ℕ) × Text} (OpenBrace (suc (length xs))) f h)
    (open_brace (λ inside rest e b. none_some (braced_at false 0 xs) (inside, rest) is (ap (braced_at false 0) e ∙ found_close inside rest b)))
brace_faulty d xs f (Some p) is h = absurd (ok_err ((braced p.0, 0), p.1) f h)

word_fault : (bs : Text) (f : Fault) → word_at bs ≡ Err f → BadExpression (length bs) ≡ f
unfolding word_at
word_fault bs f h = go (is_truth (take_while is_name bs) && not (begins 40 (drop_while is_name bs))) h where
  go : (t : Bool) → cond t (let ok : Read (Operand × ℕ) = Ok ((word (take_while is_name bs), 0), drop_while is_name bs) in ok) (Err (BadExpression (length bs))) ≡ Err f → BadExpression (length bs) ≡ f
  go true h = absurd (ok_err ((word (take_while is_name bs), 0), drop_while is_name bs) f h)
  go false h = err_one {A = (Operand × ℕ) × Text} (BadExpression (length bs)) f h

numeric_faulty : (d : ℕ) (bs : Text) (f : Fault) → MayBegin (λ b. not (is_opening b)) bs → (found : Option Text) → after_number bs ≡ found → numeric bs found ≡ Err f → OperandFault d bs f
numeric_faulty d bs f free None is h =
    subst (OperandFault d bs) (word_fault bs f h) (no_operand free is (λ t rest e w. ok_err ((word t, 0), rest) f (sym (word_there bs t rest e w) ∙ h)))
numeric_faulty d bs f free (Some rest) is h = absurd (ok_err ((number (taken bs rest), 0), rest) f h)

no_opening : (bs : Text) → Without 36 bs → Without 91 bs → Without 34 bs → Without 123 bs → MayBegin (λ b. not (is_opening b)) bs
no_opening [] w x y z = tt
no_opening (b ∷ bs) w x y z = free b w x y z where
  free : (b : ℕ) → not (b == 36) ≡ true → not (b == 91) ≡ true → not (b == 34) ≡ true → not (b == 123) ≡ true → not (is_opening b) ≡ true
  free b w x y z = grind (arith, nat_tests)

-- A fault that is met where an operand should begin is the one that is there.
pub operand_faulty : (d : ℕ) (bs : Text) (f : Fault) → operand_at d bs ≡ Err f → OperandFault d bs f
operand_faulty d bs f h = at_opening (opening bs) where
  at_opening : Opening bs → OperandFault d bs f
  at_opening (dollar xs e) = subst (λ ys. OperandFault d ys f) (sym e) (dollar_faulty d xs f (ap (operand_at d) (sym e) ∙ h))
  at_opening (square xs e) = subst (λ ys. OperandFault d ys f) (sym e) (square_faulty d xs f (ap (operand_at d) (sym e) ∙ h))
  at_opening (quote xs e) = subst (λ ys. OperandFault d ys f) (sym e) (quote_faulty d xs f (sym (operand_quote d xs) ∙ ap (operand_at d) (sym e) ∙ h))
  at_opening (brace xs e) = subst (λ ys. OperandFault d ys f) (sym e) (brace_faulty d xs f (braced_at false 0 xs) refl (sym (operand_brace d xs) ∙ ap (operand_at d) (sym e) ∙ h))
  at_opening (other w x y z) = numeric_faulty d bs f (no_opening bs w x y z) (after_number bs) refl (sym (operand_other d bs w x y z) ∙ h)

-- Faults that are there

part_fails : (d : ℕ) (b : ℕ) (xs : Text) (f : Fault) → (b == 36 || b == 91) ≡ true → PartFault d (b ∷ xs) f → operand_at d (b ∷ xs) ≡ Err f
part_fails d b xs f opens h = go (b == 36) refl opens where
  to_dollar : b ≡ 36 → operand_at d (b ∷ xs) ≡ Err f
  to_dollar e =
      let k : PartFault d (36 ∷ xs) f = subst (λ b. PartFault d (b ∷ xs) f) e h in
      ap (λ b. operand_at d (b ∷ xs)) e ∙ operand_dollar d xs
      ∙ ap (λ r. r >>= substituted (suc (length xs))) (sym (at_dollar d (inner_at d) (inner_exact d) InQuotes xs) ∙ part_met d (inner_at d) (inner_exact d) InQuotes (36 ∷ xs) f k)

  to_square : b ≡ 91 → operand_at d (b ∷ xs) ≡ Err f
  to_square e =
      let k : PartFault d (91 ∷ xs) f = subst (λ b. PartFault d (b ∷ xs) f) e h in
      ap (λ b. operand_at d (b ∷ xs)) e ∙ operand_bracket d xs
      ∙ ap (λ r. r >>= substituted (suc (length xs))) (sym (at_bracket d (inner_at d) (inner_exact d) InQuotes xs) ∙ part_met d (inner_at d) (inner_exact d) InQuotes (91 ∷ xs) f k)

  go : (t : Bool) → (b == 36) ≡ t → (t || b == 91) ≡ true → operand_at d (b ∷ xs) ≡ Err f
  go true t h = to_dollar (is_byte b 36 t)
  go false t h = to_square (is_byte b 91 h)

none_found : (bs : Text) (found : Option (Text × Text)) → braced_at false 0 bs ≡ found → NeverCloses bs → braced_at false 0 bs ≡ None
none_found bs None is h = is
none_found bs (Some p) is h = let so = close_sound bs false zero p.0 p.1 is in absurd (h p.0 p.1 so.0 so.1)

no_word_there : (bs : Text) → ((t rest : Text) → bs ≡ t ++ rest → IsTruthWord t rest → ⊥) → word_at bs ≡ Err (BadExpression (length bs))
no_word_there bs none = go (is_truth (take_while is_name bs)) refl (begins 40 (drop_while is_name bs)) refl where
  run : (bs ≡ take_while is_name bs ++ drop_while is_name bs) × AllPass is_name (take_while is_name bs) × MayBegin (λ b. not (is_name b)) (drop_while is_name bs)
  run = run_taken is_name bs

  called : (r : Text) → begins 40 r ≡ true → (rest : Text) × (r ≡ 40 ∷ rest)
  called [] h = cc
  called (b ∷ r) h = (r, ap (λ c. c ∷ r) (is_byte b 40 h))

  go : (s : Bool) → is_truth (take_while is_name bs) ≡ s → (t : Bool) → begins 40 (drop_while is_name bs) ≡ t → word_at bs ≡ Err (BadExpression (length bs))
  go false s t' t = word-false bs (take_while is_name bs) refl s
  go true s true t = let k = called (drop_while is_name bs) t in word-called bs (take_while is_name bs) (drop_while is_name bs) k.0 refl refl s k.1
  go true s false t = absurd (none (take_while is_name bs) (drop_while is_name bs) run.0 (run.1, run.2, s, t))

-- A fault that is there is met.
pub operand_met : (d : ℕ) (bs : Text) (f : Fault) → OperandFault d bs f → operand_at d bs ≡ Err f
unfolding quoted_at
operand_met d [] f (in_substitution opens h) = absurd opens
operand_met d (b ∷ xs) f (in_substitution opens h) = part_fails d b xs f opens h
operand_met d _ f (lone_dollar {bs = xs} h) = operand_dollar d xs ∙ ap (λ r. r >>= substituted (suc (length xs))) (dollar_alone d (inner_at d) (inner_exact d) xs h.1 h.2)
operand_met d _ f (open_brace {bs = xs} h) = operand_brace d xs ∙ ap (operand_in_braces (suc (length xs))) (none_found xs (braced_at false 0 xs) refl h)
operand_met d _ f (in_quotes {bs = xs} h) = operand_quote d xs
    ∙ ap (read_map (λ (ps : Parts). let made : Operand × ℕ = (quoted ps, parts_nesting ps) in made))
    ((quotes_exact d (inner_at d) (inner_exact d)).met xs f (inl h))
operand_met d _ f (open_quote {bs = xs} ps h k) =
    operand_quote d xs ∙ ap (read_map (λ (ps : Parts). let made : Operand × ℕ = (quoted ps, parts_nesting ps) in made)) ((quotes_exact d (inner_at d) (inner_exact d)).met xs f (inr (ps, h, k, refl)))
operand_met d bs f (no_operand free none others) = at_other d bs free ∙ ap (numeric bs) none ∙ no_word_there bs others

-- the place of a fault lies within the text

script_fault : (d : ℕ) (b : ℕ) (xs : Text) (f : Fault) → (b == 36 || b == 91) ≡ true → PartFault d (b ∷ xs) f → remaining_of f ≤ length (b ∷ xs)
script_fault d b xs f opens h =
    script_whole.within d (b ∷ xs) f (script_whole.met d (b ∷ xs) f
    (script_faults.CommandsFault.first_command [] script_grammar.IsGap.nothing (no_hash b opens)
    (script_faults.CommandFault.first_word (script_faults.WordFault.not_expanding (no_expansion b opens)
    (script_faults.UnexpandedWordFault.in_bare (bare_byte b opens) (script_faults.PartsFault.first_part h)))))) where
      no_hash : (b : ℕ) → (b == 36 || b == 91) ≡ true → not (b == 35) ≡ true
      no_hash b h = grind (arith, nat_tests)

      bare_byte : (b : ℕ) → (b == 36 || b == 91) ≡ true → not (b == 123 || b == 34) ≡ true
      bare_byte b h = grind (arith, nat_tests)

      no_brace : (b : ℕ) → (b == 36 || b == 91) ≡ true → b ≡ 123 → ⊥
      no_brace b h e = grind (arith, nat_tests)

      no_expansion : (b : ℕ) → (b == 36 || b == 91) ≡ true → Expands false (b ∷ xs) → ⊥
      no_expansion b h e = no_brace b h (head_is b 123 xs (42 ∷ (125 ∷ e.0)) e.1)

quote_within : (d : ℕ) (xs : Text) (f : Fault) → PartsFault d InQuotes xs f → remaining_of f ≤ suc (length xs)
quote_within d xs f h =
    script_whole.within d (34 ∷ xs) f (script_whole.met d (34 ∷ xs) f
    (script_faults.CommandsFault.first_command [] script_grammar.IsGap.nothing refl
    (script_faults.CommandFault.first_word (script_faults.WordFault.not_expanding no_expansion (script_faults.UnexpandedWordFault.in_quotes h))))) where
      no_expansion : Expands false (34 ∷ xs) → ⊥
      no_expansion e = apart 34 123 xs (42 ∷ (125 ∷ e.0)) e.1 (λ e. omega arith)

part_fault_within : (d : ℕ) (bs : Text) (f : Fault) → DoesBegin (λ b. b == 36 || b == 91) bs → PartFault d bs f → remaining_of f ≤ length bs
part_fault_within d [] f opens h = absurd opens
part_fault_within d (b ∷ xs) f opens h = script_fault d b xs f opens h

pub operand_within : {d : ℕ} {bs : Text} {f : Fault} → OperandFault d bs f → remaining_of f ≤ length bs
operand_within (in_substitution {d} {bs} {f} opens h) = part_fault_within d bs f opens h
operand_within (lone_dollar h) = omega arith
operand_within (open_brace h) = omega arith
operand_within (in_quotes {d} {bs} {f} h) = quote_within d bs f h
operand_within (open_quote ps h k) = omega arith
operand_within (no_operand free none others) = omega arith
