-- The steps of the reader of operands, as the code takes them.
use Rattle.std.proofs.Common.{◌≡◌, ◌<◌, ◌≤◌, ◌&&◌, ℕ, suc, [], ◌∷◌, length, Bool, true, false, cond, not, Some, None}
use Rattle.std.proofs.Common.{Result, Ok, Err, Vec, refl, sym, ap, ap₂, ◌∙◌, arith, rules}
use Rattle.std.specs.declared.alloc.Global.{Global}
use Rattle.tcltext.specs.chars.Runs.{Text, take_while, drop_while, begins}
use Rattle.tcltext.specs.chars.Classes.{is_name}
use Rattle.tcltext.specs.chars.Braces.{braced_at}
use Rattle.tcltext.specs.chars.Reading.{◌>>=◌, Read, read_map, Fails}
use Rattle.tcltext.specs.declared.chars.fault.Fault.{Fault}
use Rattle.tcltext.specs.declared.chars.fault.Fault.TheVariants.{OpenBrace, BadExpression}
use Rattle.tcltext.specs.declared.chars.fault.ReadError.{ReadError}
use Rattle.tcltext.specs.declared.chars.fault.ReadError.TheVariants as errors
use Rattle.tcltext.specs.declared.script.context.Context.TheVariants.{InQuotes}
use Rattle.tcltext.specs.script.Tree as tree
use Rattle.tcltext.specs.script.Tree.{Part, Parts, nesting, part_nesting, parts_nesting}
use Rattle.tcltext.specs.script.View.{part_view, parts_view, script_view}
use Rattle.tcltext.specs.script.Reading.{inner_at, dollar_at, bracket_at, quotes_at}
use Rattle.tcltext.specs.declared.script.tree.Part as rust
use Rattle.tcltext.specs.declared.script.tree.Script.{Script}
use Rattle.tcltext.proofs.script.PartsExact.{part_sound, at_dollar, at_bracket}
use Rattle.tcltext.proofs.script.Whole.{inner_exact}
use Rattle.tcltext.specs.expr.Operands.{Operand, word, is_truth, word_at, indexed, bracket, quoted, braced, operand_of}
use Rattle.tcltext.specs.expr.Operands.{substituted, quoted_at, operand_in_braces, braced_text_at, variable_operand_at}
use Rattle.tcltext.specs.expr.Operands.{bracket_operand_at, operand_at, numeric, after_number}
use Rattle.tcltext.proofs.expr.OperandSound.{quotes_sound, operand_dollar, operand_bracket, operand_quote, operand_brace}
use Rattle.tcltext.proofs.expr.OperandSound.{operand_other}
use Rattle.tcltext.proofs.script.Marks.{Without}

-- How deep what is read nests

pub dollar_deep : (d : ℕ) (bs : Text) (p : Part) (rest : Text) → dollar_at (inner_at d) bs ≡ Ok (p, rest) → part_nesting p ≤ d
dollar_deep d bs p rest h = (part_sound d (inner_at d) (inner_exact d) InQuotes (36 ∷ bs) p rest refl (at_dollar d (inner_at d) (inner_exact d) InQuotes bs ∙ h)).is.1.1

pub bracket_deep : (d : ℕ) (bs : Text) (p : Part) (rest : Text) → bracket_at (inner_at d) bs ≡ Ok (p, rest) → part_nesting p ≤ d
bracket_deep d bs p rest h = (part_sound d (inner_at d) (inner_exact d) InQuotes (91 ∷ bs) p rest refl (at_bracket d (inner_at d) (inner_exact d) InQuotes bs ∙ h)).is.1.1

pub quotes_deep : (d : ℕ) (bs : Text) (ps : Parts) (rest : Text) → quotes_at (inner_at d) bs ≡ Ok (ps, rest) → parts_nesting ps ≤ d
quotes_deep d bs ps rest h = (quotes_sound d bs ps rest h).3

-- Substitutions

pub substituted-read : (left : ℕ) (r : Read Part) (p : Part) (rest : Text) (o : Operand × ℕ) → r ≡ Ok (p, rest) → operand_of left p ≡ Ok o → (r >>= substituted left) ≡ Ok (o, rest)
substituted-read left r p rest o h k = ap (λ r. r >>= substituted left) h ∙ ap (λ (o : Result (Operand × ℕ) Fault). o >>= (λ o. let found : Read (Operand × ℕ) = Ok (o, rest) in found)) k

pub substituted-fails : (left : ℕ) (r : Read Part) (p : Part) (rest : Text) (e : ReadError) → r ≡ Ok (p, rest) → Fails e (operand_of left p) → Fails e (r >>= substituted left)
substituted-fails left r p rest errors.Memory h k = tt
substituted-fails left r p rest (errors.Fault f) h k = ap (λ r. r >>= substituted left) h
    ∙ ap (λ (o : Result (Operand × ℕ) Fault). o >>= (λ o. let found : Read (Operand × ℕ) = Ok (o, rest) in found)) k

module _ {P : Type 0} (shown : P → Text) where
  view_indexed : (name : P) (ps : Vec (rust.Part P) Global) → part_view shown (rust.Indexed name ps) ≡ tree.indexed (shown name) (parts_view shown ps.items)
  view_indexed name ps = search (rules, rust.the_lemmas)

  view_bracket : (s : Script P) → part_view shown (rust.Bracket s) ≡ tree.bracket (script_view shown s)
  view_bracket s = search (rules, rust.the_lemmas)

  pub indexed-of : (part : rust.Part P) (name : P) (ps : Vec (rust.Part P) Global) (left m h limit : ℕ) → part ≡ rust.Indexed name ps → part_nesting (part_view shown part) ≤ limit
      → (parts_nesting (parts_view shown ps.items) ≤ limit → m ≡ parts_nesting (parts_view shown ps.items))
      → (m < limit → h ≡ suc m) → operand_of left (part_view shown part) ≡ Ok
      (indexed (shown name) (parts_view shown ps.items), h)
  indexed-of part name ps left m h limit e small k l =
      let v = ap (part_view shown) e ∙ view_indexed name ps in
      let n : part_nesting (part_view shown part) ≡ suc (parts_nesting (parts_view shown ps.items)) = ap part_nesting v in
      let a : m ≡ parts_nesting (parts_view shown ps.items) = k (omega arith) in
      let b : h ≡ suc m = l (omega arith) in
      ap (operand_of left) v ∙ ap (λ n. Ok (indexed (shown name) (parts_view shown ps.items), n)) (sym (b ∙ ap (λ n. suc n) a))

  pub bracket-of : (part : rust.Part P) (s : Script P) (left m h limit : ℕ) → part ≡ rust.Bracket s → part_nesting (part_view shown part) ≤ limit
      → (nesting (script_view shown s) ≤ limit → m ≡ nesting (script_view shown s)) → (m < limit → h ≡ suc m) → operand_of left (part_view shown part) ≡ Ok (bracket (script_view shown s), h)
  bracket-of part s left m h limit e small k l =
      let v = ap (part_view shown) e ∙ view_bracket s in
      let n : part_nesting (part_view shown part) ≡ suc (nesting (script_view shown s)) = ap part_nesting v in
      let a : m ≡ nesting (script_view shown s) = k (omega arith) in
      let b : h ≡ suc m = l (omega arith) in
      ap (operand_of left) v ∙ ap (λ n. Ok (bracket (script_view shown s), n)) (sym (b ∙ ap (λ n. suc n) a))

-- Quotes and braces

pub quoted-read : (d : ℕ) (bs : Text) (ps : Parts) (rest : Text) (h : ℕ) → quotes_at (inner_at d) bs ≡ Ok (ps, rest) → h ≡ parts_nesting ps → quoted_at d bs ≡ Ok ((quoted ps, h), rest)
unfolding quoted_at
quoted-read d bs ps rest h is e = ap (read_map (λ (ps : Parts). let made : Operand × ℕ = (quoted ps, parts_nesting ps) in made)) is ∙ ap (λ n. Ok ((quoted ps, n), rest)) (sym e)

pub quoted-fails : (d : ℕ) (bs : Text) (e : ReadError) → Fails e (quotes_at (inner_at d) bs) → Fails e (quoted_at d bs)
unfolding quoted_at
quoted-fails d bs errors.Memory h = tt
quoted-fails d bs (errors.Fault f) h = ap (read_map (λ (ps : Parts). let made : Operand × ℕ = (quoted ps, parts_nesting ps) in made)) h

pub braced-read : (bs inside cut rest : Text) → braced_at false 0 bs ≡ Some (inside, rest) → cut ≡ inside → braced_text_at bs ≡ Ok ((braced cut, 0), rest)
unfolding braced_text_at
braced-read bs inside cut rest is e = ap (operand_in_braces (suc (length bs))) is ∙ ap (λ t. Ok ((braced t, 0), rest)) (sym e)

pub braced-open : (bs : Text) (left : ℕ) → braced_at false 0 bs ≡ None → left ≡ suc (length bs) → braced_text_at bs ≡ Err (OpenBrace left)
unfolding braced_text_at
braced-open bs left is e = ap (operand_in_braces (suc (length bs))) is ∙ ap (λ n. Err (OpenBrace n)) (sym e)

-- Words

word_if : (bs : Text) (s t : Bool) → is_truth (take_while is_name bs) ≡ s → begins 40 (drop_while is_name bs) ≡ t
    → word_at bs ≡ cond (s && not t) (let ok : Read (Operand × ℕ) = Ok ((word (take_while is_name bs), 0), drop_while is_name bs) in ok) (Err (BadExpression (length bs)))
unfolding word_at
word_if bs s t h k = ap₂ (λ (s t : Bool). cond (s && not t) (let ok : Read (Operand × ℕ) = Ok ((word (take_while is_name bs), 0), drop_while is_name bs) in ok) (Err (BadExpression (length bs)))) h k

pub word-read : (bs w r cut : Text) → w ≡ take_while is_name bs → r ≡ drop_while is_name bs → is_truth w ≡ true → begins 40 r ≡ false → cut ≡ w → word_at bs ≡ Ok ((word cut, 0), r)
word-read bs w r cut e f h k l =
    word_if bs true false (ap is_truth (sym e) ∙ h) (ap (begins 40) (sym f) ∙ k) ∙ ap₂ (λ (x y : Text). Ok ((word x, 0), y)) (sym (l ∙ e)) (sym f)

pub word-false : (bs w : Text) → w ≡ take_while is_name bs → is_truth w ≡ false → word_at bs ≡ Err (BadExpression (length bs))
word-false bs w e h = word_if bs false (begins 40 (drop_while is_name bs)) (ap is_truth (sym e) ∙ h) refl

pub word-called : (bs w r rest : Text) → w ≡ take_while is_name bs → r ≡ drop_while is_name bs → is_truth w ≡ true → r ≡ 40 ∷ rest → word_at bs ≡ Err (BadExpression (length bs))
word-called bs w r rest e f h k = word_if bs true true (ap is_truth (sym e) ∙ h) (ap (begins 40) (sym f ∙ k))

-- What stands at the front

pub at_variable : (d : ℕ) (bs xs : Text) → bs ≡ 36 ∷ xs → operand_at d bs ≡ variable_operand_at d (length bs) xs
at_variable d bs xs e = ap (operand_at d) e ∙ operand_dollar d xs ∙ ap (λ ys. variable_operand_at d (length ys) xs) (sym e)

pub at_script : (d : ℕ) (bs xs : Text) → bs ≡ 91 ∷ xs → operand_at d bs ≡ bracket_operand_at d (length bs) xs
at_script d bs xs e = ap (operand_at d) e ∙ operand_bracket d xs ∙ ap (λ ys. bracket_operand_at d (length ys) xs) (sym e)

pub at_quote : (d : ℕ) (bs xs : Text) → bs ≡ 34 ∷ xs → operand_at d bs ≡ quoted_at d xs
at_quote d bs xs e = ap (operand_at d) e ∙ operand_quote d xs

pub at_brace : (d : ℕ) (bs xs : Text) → bs ≡ 123 ∷ xs → operand_at d bs ≡ braced_text_at xs
unfolding braced_text_at
at_brace d bs xs e = ap (operand_at d) e ∙ operand_brace d xs

without : (mark : ℕ) (bs : Text) → begins mark bs ≡ false → Without mark bs
without mark [] h = tt
without mark (b ∷ bs) h = ap not h

pub at_numeric : (d : ℕ) (bs : Text) → begins 36 bs ≡ false → begins 91 bs ≡ false → begins 34 bs ≡ false → begins 123 bs ≡ false → operand_at d bs ≡ numeric bs (after_number bs)
at_numeric d bs w x y z = operand_other d bs (without 36 bs w) (without 91 bs x) (without 34 bs y) (without 123 bs z)
