-- Before a fault stand tokens with which some expression begins: what is open is closed behind them.
use Rattle.std.proofs.Common.{◌≡◌, ℕ, suc, max, List, [], ◌∷◌, ◌++◌, length, refl, sym, ap, subst, ◌∙◌, append_assoc}
use Rattle.std.proofs.Common.{append-nil}
use Rattle.tcltext.specs.chars.Runs.{Text}
use Rattle.tcltext.specs.chars.Reading.{remaining_of}
use Rattle.tcltext.specs.declared.chars.fault.Fault.{Fault}
use Rattle.tcltext.specs.declared.chars.fault.Fault.TheVariants.{OpenBrace, OpenQuote, OpenBracket, JoinedToClose, TooDeep}
use Rattle.tcltext.specs.declared.chars.fault.Fault.TheVariants.{BadCharacter, BadExpression}
use Rattle.tcltext.specs.script.Faults as script
use Rattle.tcltext.specs.script.Faults.{CommandsFault, CommandFault, WordsFault, WordFault, UnexpandedWordFault, PartsFault}
use Rattle.tcltext.specs.script.Faults.{PartFault}
use Rattle.tcltext.specs.declared.expr.operators.Mark.TheVariants as marks
use Rattle.tcltext.specs.expr.Tree.{Expr, operand, unary, choice, joined, Token, value, mark}
use Rattle.tcltext.specs.expr.Grammar as grammar
use Rattle.tcltext.specs.expr.Grammar.{IsExpr, IsChain}
use Rattle.tcltext.specs.expr.Marks.{after_white}
use Rattle.tcltext.specs.expr.TokenList.{AreTokens}
use Rattle.tcltext.specs.expr.Operands.{Operand, number}
use Rattle.tcltext.specs.expr.OperandGrammar as operands
use Rattle.tcltext.specs.expr.OperandGrammar.{IsOperand, OperandFault}
use Rattle.tcltext.specs.expr.Faults as faults
use Rattle.tcltext.specs.expr.Faults.{ExprFault, ChainFault, ExprTextFault}
use Rattle.tcltext.specs.expr.ViablePrefixes.{IsFaultFrom, FollowsViablePrefix}
use Rattle.tcltext.proofs.expr.Rows.{row_join}

-- No script is wrong as an expression is

abbrev IsBad : Fault → Type 0
IsBad (OpenBrace left) = ⊥
IsBad (OpenQuote left) = ⊥
IsBad (OpenBracket left) = ⊥
IsBad (JoinedToClose left) = ⊥
IsBad TooDeep = ⊥
IsBad (BadCharacter left) = ⊥
IsBad (BadExpression left) = Unit {0}

mutual
  commands_fault : {d : ℕ} {nested : _} {bs : Text} {f : Fault} → CommandsFault d nested bs f → IsBad f → ⊥
  commands_fault (script.first_command gap a b h) bad = command_fault h bad
  commands_fault (script.later_command gap source body ws a b c e h) bad = commands_fault h bad

  command_fault : {d : ℕ} {nested : _} {bs : Text} {f : Fault} → CommandFault d nested bs f → IsBad f → ⊥
  command_fault (script.first_word h) bad = word_fault h bad
  command_fault (script.later_word body w a b h) bad = words_fault h bad

  words_fault : {d : ℕ} {nested : _} {bs : Text} {f : Fault} → WordsFault d nested bs f → IsBad f → ⊥
  words_fault (script.next_word blanks a h) bad = word_fault h bad
  words_fault (script.word_after blanks body w a b c h) bad = words_fault h bad

  word_fault : {d : ℕ} {nested : _} {bs : Text} {f : Fault} → WordFault d nested bs f → IsBad f → ⊥
  word_fault (script.not_expanding a h) bad = plain_fault h bad
  word_fault (script.expanding a h) bad = plain_fault h bad

  plain_fault : {d : ℕ} {nested : _} {bs : Text} {f : Fault} → UnexpandedWordFault d nested bs f → IsBad f → ⊥
  plain_fault (script.open_brace a) bad = bad
  plain_fault (script.joined_brace inside rest a b) bad = bad
  plain_fault (script.in_quotes h) bad = parts_fault h bad
  plain_fault (script.open_quote ps a b) bad = bad
  plain_fault (script.joined_quote inside rest ps a b c) bad = bad
  plain_fault (script.in_bare a h) bad = parts_fault h bad

  parts_fault : {d : ℕ} {c : _} {bs : Text} {f : Fault} → PartsFault d c bs f → IsBad f → ⊥
  parts_fault (script.first_part h) bad = part_fault h bad
  parts_fault (script.later_part body p a b c h) bad = parts_fault h bad

  part_fault : {d : ℕ} {bs : Text} {f : Fault} → PartFault d bs f → IsBad f → ⊥
  part_fault (script.open_name a) bad = bad
  part_fault (script.bad_character a b) bad = bad
  part_fault script.bracket_too_deep bad = bad
  part_fault (script.in_bracket h) bad = commands_fault h bad
  part_fault (script.open_bracket s a b) bad = bad
  part_fault (script.index_too_deep name bs a) bad = bad
  part_fault (script.in_index name bs a h) bad = parts_fault h bad
  part_fault (script.open_index name bs ps a b c) bad = bad

-- an operand is a wrong expression at its first byte alone
bad_operand : {d : ℕ} {bs : Text} {f : Fault} (left : ℕ) → OperandFault d bs f → f ≡ BadExpression left → length bs ≡ left
bad_operand left (operands.in_substitution a h) e = absurd (part_fault h (subst IsBad (sym e) tt))
bad_operand left (operands.lone_dollar a) e = ap remaining_of e
bad_operand left (operands.open_brace a) e = absurd (subst IsBad (sym e) tt)
bad_operand left (operands.in_quotes h) e = absurd (parts_fault h (subst IsBad (sym e) tt))
bad_operand left (operands.open_quote ps a b) e = absurd (subst IsBad (sym e) tt)
bad_operand left (operands.no_operand a b c) e = ap remaining_of e

fault_from : (f : Fault) {d : ℕ} {bs : Text} → OperandFault d bs f → IsFaultFrom f bs
fault_from (OpenBrace left) {d} h = (d, h)
fault_from (OpenQuote left) {d} h = (d, h)
fault_from (OpenBracket left) {d} h = (d, h)
fault_from (JoinedToClose left) {d} h = (d, h)
fault_from TooDeep h = tt
fault_from (BadCharacter left) {d} h = (d, h)
fault_from (BadExpression left) h = bad_operand left h refl

-- Tokens that go on

abbrev TokenList : Type 0
TokenList = List (Token Operand)

-- what an operand is put for
abbrev some_operand : Token Operand
some_operand = value (number (48 ∷ [])) 0

-- the other half of a choice
abbrev other_half : TokenList
other_half = mark marks.Colon ∷ (some_operand ∷ [])

-- tokens with which an expression begins that has no operator between operands above the level
abbrev ChainGoesOn : ℕ → TokenList → Type 0
ChainGoesOn n ts = (more : TokenList) × (h : ℕ) × (e : Expr Operand) × IsChain Operand h n (ts ++ more) e

record IsBehindChain (n : ℕ) (bs : Text) (f : Fault) : Type 0 where
  tokens : TokenList
  rest : Text
  are_tokens : AreTokens Operand IsOperand bs rest tokens
  is_viable : ChainGoesOn n tokens
  fault : IsFaultFrom f (after_white rest)

nothing_yet : (n : ℕ) (bs : Text) (f : Fault) → IsFaultFrom f (after_white bs) → IsBehindChain n bs f
nothing_yet n bs f h =
    record {
      tokens = [];
      rest = bs;
      are_tokens = refl;
      is_viable = (some_operand ∷ [], 0, operand (number (48 ∷ [])), grammar.single (number (48 ∷ [])));
      fault = h;
    }

three : (a b c d : TokenList) → ((a ++ b) ++ c) ++ d ≡ a ++ (b ++ (c ++ d))
three a b c d = append_assoc (a ++ b) c d ∙ append_assoc a b (c ++ d)

mutual
  expr_front : {d : ℕ} {bs : Text} {f : Fault} → ExprFault Operand IsOperand OperandFault d bs f → FollowsViablePrefix bs f
  expr_front (faults.in_condition h) =
      let c = chain_front h in
      record {
        tokens = c.tokens;
        rest = c.rest;
        are_tokens = c.are_tokens;
        is_viable = (c.is_viable.0, c.is_viable.1, c.is_viable.2, grammar.simple c.is_viable.3);
        fault = c.fault;
      }
  expr_front {bs = bs} (faults.deep_choice cs c after chain are_tokens) =
      record {
        tokens = [];
        rest = bs;
        are_tokens = refl;
        is_viable = (
          some_operand ∷ [],
          0,
          operand (number (48 ∷ [])),
          grammar.simple (grammar.single (number (48 ∷ []))),
        );
        fault = tt;
      }
  expr_front {bs = bs} (faults.in_yes cs c h after chain low are_tokens fault) =
      let y = expr_front fault in
      let g = y.is_viable in
      record {
        tokens = (cs ++ mark marks.QuestionMark ∷ []) ++ y.tokens;
        rest = y.rest;
        are_tokens = row_join Operand IsOperand (cs ++ mark marks.QuestionMark ∷ []) y.tokens bs after y.rest are_tokens y.are_tokens;
        is_viable = (
          g.0 ++ other_half,
          suc (max h (max g.1 0)),
          choice c g.2 (operand (number (48 ∷ []))),
          subst (λ ts. IsExpr Operand (suc (max h (max g.1 0))) ts (choice c g.2 (operand (number (48 ∷ [])))))
              (ap (λ ts. cs ++ mark marks.QuestionMark ∷ ts) (append_assoc y.tokens g.0 other_half)
              ∙ sym (three cs (mark marks.QuestionMark ∷ []) y.tokens (g.0 ++ other_half)))
              (grammar.choosing cs (y.tokens ++ g.0) (some_operand ∷ []) chain g.3 (grammar.simple (grammar.single (number (48 ∷ []))))),
        );
        fault = y.fault;
      }
  expr_front {bs = bs} (faults.no_colon cs c h ys y i after chain low expr low_too are_tokens next) =
      record {
        tokens = cs ++ mark marks.QuestionMark ∷ ys;
        rest = after;
        are_tokens = are_tokens;
        is_viable = (
          other_half,
          suc (max h (max i 0)),
          choice c y (operand (number (48 ∷ []))),
          subst (λ ts. IsExpr Operand (suc (max h (max i 0))) ts (choice c y (operand (number (48 ∷ [])))))
              (sym (append_assoc cs (mark marks.QuestionMark ∷ ys) other_half))
              (grammar.choosing cs ys (some_operand ∷ []) chain expr (grammar.simple (grammar.single (number (48 ∷ []))))),
        );
        fault = refl;
      }
  expr_front {bs = bs} (faults.in_no cs c h ys y i after chain low expr low_too are_tokens fault) =
      let n = expr_front fault in
      let g = n.is_viable in
      let seen : TokenList = cs ++ mark marks.QuestionMark ∷ (ys ++ mark marks.Colon ∷ []) in
      record {
        tokens = seen ++ n.tokens;
        rest = n.rest;
        are_tokens = row_join Operand IsOperand seen n.tokens bs after n.rest are_tokens n.are_tokens;
        is_viable = (
          g.0,
          suc (max h (max i g.1)),
          choice c y g.2,
          subst (λ ts. IsExpr Operand (suc (max h (max i g.1))) ts (choice c y g.2))
              (ap (λ ts. cs ++ mark marks.QuestionMark ∷ ts) (sym (append_assoc ys (mark marks.Colon ∷ []) (n.tokens ++ g.0)))
              ∙ (sym (append_assoc cs (mark marks.QuestionMark ∷ (ys ++ mark marks.Colon ∷ [])) (n.tokens ++ g.0))
              ∙ sym (append_assoc seen n.tokens g.0)))
              (grammar.choosing cs ys (n.tokens ++ g.0) chain expr g.3),
        );
        fault = n.fault;
      }

  chain_front : {d n : ℕ} {bs : Text} {f : Fault} → ChainFault Operand IsOperand OperandFault d n bs f → IsBehindChain n bs f
  chain_front {n = n} {bs = bs} {f = f} (faults.in_operand no_mark h) = nothing_yet n bs f (fault_from f h)
  chain_front {n = n} {bs = bs} (faults.no_operand m after at begins) = nothing_yet n bs (faults.bad_next bs) refl
  chain_front {n = n} {bs = bs} (faults.deep_prefix m after at begins) = nothing_yet n bs TooDeep tt
  chain_front {n = n} (faults.in_signed m u after at sign h) =
      let c = chain_front h in
      let g = c.is_viable in
      record {
        tokens = mark m ∷ c.tokens;
        rest = c.rest;
        are_tokens = (after, at, c.are_tokens);
        is_viable = (g.0, suc g.1, unary u g.2, grammar.signed u sign g.3);
        fault = c.fault;
      }
  chain_front {n = n} (faults.in_open after at h) =
      let e = expr_front h in
      let g = e.is_viable in
      record {
        tokens = mark marks.Open ∷ e.tokens;
        rest = e.rest;
        are_tokens = (after, at, e.are_tokens);
        is_viable = (
          g.0 ++ mark marks.Close ∷ [],
          suc g.1,
          g.2,
          subst (λ ts. IsChain Operand (suc g.1) n ts g.2)
              (ap (λ ts. mark marks.Open ∷ ts) (append_assoc e.tokens g.0 (mark marks.Close ∷ [])))
              (grammar.in_parentheses (e.tokens ++ g.0) g.3),
        );
        fault = e.fault;
      }
  chain_front {n = n} (faults.no_close ts e h after expr low are_tokens next) =
      record {
        tokens = mark marks.Open ∷ ts;
        rest = after;
        are_tokens = are_tokens;
        is_viable = (mark marks.Close ∷ [], suc h, e, grammar.in_parentheses ts expr);
        fault = refl;
      }
  chain_front {n = n} {bs = bs} (faults.deep_operator i ls l after low chain are_tokens) = nothing_yet n bs TooDeep tt
  chain_front {n = n} {bs = bs} (faults.in_right i ls l h after low chain low_too are_tokens fault) =
      let r = chain_front fault in
      let g = r.is_viable in
      record {
        tokens = (ls ++ mark (marks.Infix i) ∷ []) ++ r.tokens;
        rest = r.rest;
        are_tokens = row_join Operand IsOperand (ls ++ mark (marks.Infix i) ∷ []) r.tokens bs after r.rest are_tokens r.are_tokens;
        is_viable = (
          g.0,
          suc (max h g.1),
          joined i l g.2,
          subst (λ ts. IsChain Operand (suc (max h g.1)) n ts (joined i l g.2))
              (sym (three ls (mark (marks.Infix i) ∷ []) r.tokens g.0))
              (grammar.joining i ls (r.tokens ++ g.0) low chain g.3),
        );
        fault = r.fault;
      }

pub text_front : (d : ℕ) (bs : Text) (f : Fault) → ExprTextFault Operand IsOperand OperandFault d bs f → FollowsViablePrefix bs f
text_front d bs f (faults.inside h) = expr_front h
text_front d bs f (faults.trailing ts e h after expr low are_tokens next more) =
    record {
      tokens = ts;
      rest = after;
      are_tokens = are_tokens;
      is_viable = ([], h, e, subst (λ us. IsExpr Operand h us e) (sym (append-nil ts)) expr);
      fault = refl;
    }
