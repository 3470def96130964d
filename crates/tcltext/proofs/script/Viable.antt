-- Up to what offends, a text goes on to a script.
use Rattle.std.proofs.Common.{◌≡◌, ◌≢◌, ℕ, suc, ◌+◌, [], ◌∷◌, ◌++◌, length, Bool, true, false, not, ◌||◌, ◌==◌, Some}
use Rattle.std.proofs.Common.{None, refl, sym, ap, subst, ◌∙◌, arith, append_assoc, append-nil, length-append, ◌⊎◌, inl}
use Rattle.std.proofs.Common.{inr}
use Rattle.std.proofs.lemmas.Bool.Decides.{nat_tests}
use Rattle.tcltext.specs.chars.Runs.{Text, begins}
use Rattle.tcltext.specs.chars.Bytes.{newline, hash, AllPass, DoesBegin}
use Rattle.tcltext.specs.chars.Classes.{in_class}
use Rattle.tcltext.specs.chars.Backslash.{begins_hexadecimal, after_backslash}
use Rattle.tcltext.specs.chars.Braces.{Balanced, braced_at}
use Rattle.tcltext.specs.chars.Reading.{remaining_of}
use Rattle.tcltext.specs.declared.chars.runs.Class.TheVariants.{InBracedName}
use Rattle.tcltext.specs.declared.chars.fault.Fault.{Fault}
use Rattle.tcltext.specs.declared.chars.fault.Fault.TheVariants.{OpenBrace, OpenQuote, OpenBracket, JoinedToClose, TooDeep}
use Rattle.tcltext.specs.declared.chars.fault.Fault.TheVariants.{BadCharacter, BadExpression}
use Rattle.tcltext.specs.declared.script.context.Context.{Context}
use Rattle.tcltext.specs.declared.script.context.Context.TheVariants.{InScript, InBracket, InIndex, InQuotes}
use Rattle.tcltext.specs.script.Tree as tree
use Rattle.tcltext.specs.script.Tree.{Commands, no_commands, command, Words, no_words, word, Word, word_of, Parts, no_parts}
use Rattle.tcltext.specs.script.Tree.{part, Part, braced, variable, indexed, bracket}
use Rattle.tcltext.specs.script.Ends.{script_ends, command_ends, word_ends, parts_end, bare}
use Rattle.tcltext.specs.script.Grammar as grammar
use Rattle.tcltext.specs.script.Grammar.{IsBlanks, IsGap, IsName, IsUnexpandedWord, IsCommands, IsCommand, IsWords, IsWord}
use Rattle.tcltext.specs.script.Grammar.{IsParts, IsPart, IsScript}
use Rattle.tcltext.specs.script.Faults as faults
use Rattle.tcltext.specs.script.ViablePrefixes.{IsViablePrefix, IsOpenMark}
use Rattle.tcltext.specs.script.Faults.{NeverCloses, CommandsFault, CommandFault, WordsFault, WordFault, UnexpandedWordFault}
use Rattle.tcltext.specs.script.Faults.{PartsFault, PartFault, IsFault}
use Rattle.tcltext.proofs.script.Firm.{Firm, firm_before, firm_some, does_begin-firm, gap-any, command-firm, word-firm}
use Rattle.tcltext.proofs.script.Firm.{part-firm, parts_end-firm}
use Rattle.tcltext.proofs.script.PassedOver.{is_no_byte}
use Rattle.tcltext.proofs.script.PartsExact.{part_byte, backslash_goes_on}
use Rattle.tcltext.proofs.script.WordsExact.{bare_end, plain_goes_on, none_found}
use Rattle.tcltext.proofs.script.ViablePrefixes.{long_firm, same_cut, parts_before_quote}
use Rattle.tcltext.proofs.script.Unfinished.{CommandsFrom, parts_finish, commands_finish, brace_finish}
use Rattle.tcltext.proofs.script.Prefixes.{escape_letter}

-- what is kept is all that is left, where a mark is open
abbrev pub IsWhole : Fault → Text → Text → Type 0
IsWhole (OpenBrace n) keep rest = rest ≡ []
IsWhole (OpenQuote n) keep rest = rest ≡ []
IsWhole (OpenBracket n) keep rest = rest ≡ []
IsWhole (BadCharacter n) keep rest = begins 40 (keep ++ rest) ≡ true → rest ≡ []
IsWhole (JoinedToClose n) keep rest = Unit {0}
IsWhole (BadExpression n) keep rest = Unit {0}
IsWhole TooDeep keep rest = Unit {0}

-- What stands before the mark, and what is kept at it, go on to a whole.
pub record Completes {X : Type 0} (Ends : Text → Type 0) (Is : X → Text → Text → Type 0) (bs : Text) (fault : Fault) : Type 0 where
  pub value : X
  pub before : Text
  pub keep : Text
  pub rest : Text
  pub more : Text
  pub whole : bs ≡ before ++ (keep ++ rest)
  pub long : length (keep ++ rest) ≡ remaining_of fault
  pub all : IsWhole fault keep rest
  pub firm : Firm (before ++ keep)
  pub is : (after : Text) → Ends after → Is value (before ++ (keep ++ more)) after

-- with a text before it and one behind it
between : {X Y : Type 0} (Ends Ends' : Text → Type 0) (Is : X → Text → Text → Type 0) (Is' : Y → Text → Text → Type 0) (make : X → Text → Y) (x y bs : Text) (fault : Fault)
    → ((v : X) (p s t : Text) → Firm p → bs ≡ p ++ s → ((after : Text) → Ends after → Is v (p ++ t) after) → (after : Text) → Ends' after → Is' (make v (p ++ t)) (x ++ ((p ++ t) ++ y)) after)
    → Completes Ends Is bs fault → Completes Ends' Is' (x ++ bs) fault
between Ends Ends' Is Is' make x y bs fault step m =
    let p = m.before ++ m.keep in
    let regrouped : (t : Text) → p ++ t ≡ m.before ++ (m.keep ++ t) = append_assoc m.before m.keep in
    record {
      value = make m.value (p ++ m.more);
      before = x ++ m.before;
      keep = m.keep;
      rest = m.rest;
      more = m.more ++ y;
      whole = ap (λ ys. x ++ ys) m.whole ∙ sym (append_assoc x m.before (m.keep ++ m.rest));
      long = m.long;
      all = m.all;
      firm = subst Firm (sym (append_assoc x m.before m.keep)) (firm_before x p m.firm);
      is = λ after ends.
          subst (λ ys. Is' (make m.value (p ++ m.more)) ys after)
          (ap (λ ys. x ++ ys) (append_assoc p m.more y ∙ regrouped (m.more ++ y)) ∙ sym (append_assoc x m.before (m.keep ++ (m.more ++ y))))
          (step m.value p m.rest m.more m.firm (m.whole ∙ sym (regrouped m.rest)) (λ after ends. subst (λ ys. Is m.value ys after) (sym (regrouped m.more)) (m.is after ends)) after ends);
    }

following : {X Y : Type 0} (Ends Ends' : Text → Type 0) (Is : X → Text → Text → Type 0) (Is' : Y → Text → Text → Type 0) (make : X → Text → Y) (x bs : Text) (fault : Fault)
    → ((v : X) (p s t : Text) → Firm p → bs ≡ p ++ s → ((after : Text) → Ends after → Is v (p ++ t) after) → (after : Text) → Ends' after → Is' (make v (p ++ t)) (x ++ (p ++ t)) after)
    → Completes Ends Is bs fault → Completes Ends' Is' (x ++ bs) fault
following Ends Ends' Is Is' make x bs fault step m =
    between Ends Ends' Is Is' make x [] bs fault (λ v p s t firm same is after ends. subst
    (λ ys. Is' (make v (p ++ t)) (x ++ ys) after) (sym (append-nil (p ++ t)))
    (step v p s t firm same is after ends)) m

-- ends

command_word : (nested : Bool) (r : Text) → command_ends nested r ≡ true → word_ends nested r ≡ true
command_word nested [] h = refl
command_word true (b ∷ r) h = grind (arith, nat_tests)
command_word false (b ∷ r) h = grind (arith, nat_tests)

script_command : (nested : Bool) (r : Text) → script_ends nested r ≡ true → command_ends nested r ≡ true
script_command nested [] h = refl
script_command true (b ∷ r) h = grind (arith, nat_tests)
script_command false (b ∷ r) h = cc

no_digit : (c : Context) (r : Text) → parts_end c r ≡ true → begins_hexadecimal r ≡ false
no_digit InScript [] h = refl
no_digit InBracket [] h = refl
no_digit InIndex [] h = refl
no_digit InQuotes [] h = refl
no_digit InScript (b ∷ r) h = grind (arith, nat_tests)
no_digit InBracket (b ∷ r) h = grind (arith, nat_tests)
no_digit InIndex (b ∷ r) h = grind (arith, nat_tests)
no_digit InQuotes (b ∷ r) h = grind (arith, nat_tests)

letter_alone : (b : ℕ) (r : Text) → (b ≡ 117) ⊎ (b ≡ 85) → begins_hexadecimal r ≡ false → after_backslash (b ∷ r) ≡ Some (b ∷ [], r)
letter_alone b r (inl e) h = subst (λ b. after_backslash (b ∷ r) ≡ Some (b ∷ [], r)) (sym e) (rw h refl)
letter_alone b r (inr e) h = subst (λ b. after_backslash (b ∷ r) ≡ Some (b ∷ [], r)) (sym e) (rw h refl)

no_newline : (b : ℕ) (r : Text) → (b ≡ 117) ⊎ (b ≡ 85) → begins newline (b ∷ r) ≡ false
no_newline b r (inl e) = rw e refl
no_newline b r (inr e) = rw e refl

-- what is completed

abbrev pub CommandsTo : ℕ → Bool → Text → Fault → Type 0
CommandsTo at nested bs fault = Completes (λ r. script_ends nested r ≡ true) (CommandsFrom at nested) bs fault

abbrev pub CommandTo : Bool → Text → Fault → Type 0
CommandTo nested bs fault = Completes (λ r. command_ends nested r ≡ true) (λ (c : Text × Words) t r. IsCommand nested c.0 c.1 t r) bs fault

abbrev pub WordsTo : Bool → Text → Fault → Type 0
WordsTo nested bs fault = Completes (λ r. command_ends nested r ≡ true) (λ ws t r. IsWords nested ws t r) bs fault

abbrev pub WordTo : Bool → Text → Fault → Type 0
WordTo nested bs fault = Completes (λ r. word_ends nested r ≡ true) (λ w t r. IsWord nested w t r) bs fault

abbrev pub PlainTo : Bool → Text → Fault → Type 0
PlainTo nested bs fault = Completes (λ r. word_ends nested r ≡ true) (λ ps t r. IsUnexpandedWord nested ps (λ c inside more. IsParts c ps inside more) t r) bs fault

abbrev pub PartsTo : Context → Text → Fault → Type 0
PartsTo c bs fault = Completes (λ r. parts_end c r ≡ true) (λ ps t r. IsParts c ps t r) bs fault

abbrev pub PartTo : Context → Text → Fault → Type 0
PartTo c bs fault = Completes (λ r. parts_end c r ≡ true) (λ q t r. (parts_end c (t ++ r) ≡ false) × IsPart c q t r) bs fault

first_command_to : (at : ℕ) (nested : Bool) (gap body : Text) (fault : Fault) → IsGap gap body
    → DoesBegin (λ b. not (b == hash)) body → CommandTo nested body fault → CommandsTo at nested (gap ++ body) fault
first_command_to at nested gap body fault h free m =
    following (λ r. command_ends nested r ≡ true) (λ r. script_ends nested r ≡ true)
    (λ (c : Text × Words) t r. IsCommand nested c.0 c.1 t r) (CommandsFrom at nested)
    (λ c u. command (at + length gap) c.0 c.1 no_commands) gap body fault
    (λ v p s t firm same is after ends size e.
    record {
      first = gap;
      second = p ++ t;
      whole = refl;
      is_first = (gap-any h (subst (λ ys. ys ≢ []) (sym same) (firm_some p s firm)) ((p ++ t) ++ after), omega (arith, e, length-append gap (p ++ t)));
      is_second = record {
        first = p ++ t;
        second = [];
        whole = sym (append-nil (p ++ t));
        is_first = (does_begin-firm (λ b. not (b == hash)) p s t firm (subst (λ ys. DoesBegin (λ b. not (b == hash)) ys) same free), is after (script_command nested after ends));
        is_second = (grammar.IsGap.nothing, ends);
      };
    })
    m

later_command_to : (at : ℕ) (nested : Bool) (gap source body : Text) (ws : Words) (rest : Text) (fault : Fault)
    → IsGap gap (body ++ rest) → DoesBegin (λ b. not (b == hash)) body → IsCommand nested source ws body rest
    → CommandsTo (at + (length gap + length body)) nested rest fault → CommandsTo at nested (gap ++ (body ++ rest)) fault
later_command_to at nested gap source body ws rest fault h free k m =
    subst (λ ys. CommandsTo at nested ys fault) (append_assoc gap body rest)
    (following (λ r. script_ends nested r ≡ true) (λ r. script_ends nested r ≡ true)
    (CommandsFrom (at + (length gap + length body)) nested) (CommandsFrom at nested)
    (λ cs u. command (at + length gap) source ws cs) (gap ++ body) rest fault
    (λ v p s t firm same is after ends size e.
    record {
      first = gap;
      second = body ++ (p ++ t);
      whole = append_assoc gap body (p ++ t);
      is_first = (
        gap-any h (subst (λ ys. ys ≢ []) (append_assoc body p s ∙ ap (λ ys. body ++ ys) (sym same)) (firm_some (body ++ p) s (firm_before body p firm))) ((body ++ (p ++ t)) ++ after),
        omega (arith, e, length-append (gap ++ body) (p ++ t), length-append gap body, length-append body (p ++ t)),
      );
      is_second = record {
        first = body;
        second = p ++ t;
        whole = refl;
        is_first = (
          free,
          subst (λ ys. IsCommand nested source ws body ys) (sym (append_assoc p t after))
              (command-firm nested source ws body p s (t ++ after) firm
              (subst (λ ys. IsCommand nested source ws body ys) same k)),
        );
        is_second = is after ends size (omega (arith, e, length-append (gap ++ body) (p ++ t), length-append gap body));
      };
    })
    m)

first_word_to : (nested : Bool) (bs : Text) (fault : Fault) → WordTo nested bs fault → CommandTo nested bs fault
first_word_to nested bs fault m =
    following (λ r. word_ends nested r ≡ true) (λ r. command_ends nested r ≡ true) (λ w t r. IsWord nested w t r)
    (λ (c : Text × Words) t r. IsCommand nested c.0 c.1 t r) (λ w u. (u, word w no_words)) [] bs fault
    (λ v p s t firm same is after ends. ([], sym (append-nil (p ++ t)), is after (command_word nested after ends), (grammar.IsBlanks.nothing, ends))) m

later_word_to : (nested : Bool) (body : Text) (w : Word) (rest : Text) (fault : Fault) → IsWord nested w body rest → WordsTo nested rest fault → CommandTo nested (body ++ rest) fault
later_word_to nested body w rest fault h m =
    following (λ r. command_ends nested r ≡ true) (λ r. command_ends nested r ≡ true) (λ ws t r. IsWords nested ws t r)
    (λ (c : Text × Words) t r. IsCommand nested c.0 c.1 t r) (λ ws u. (body, word w ws)) body rest fault
    (λ v p s t firm same is after ends. (
      p ++ t,
      refl,
      subst (λ ys. IsWord nested w body ys) (sym (append_assoc p t after)) (word-firm nested w body p s (t ++ after) firm (subst (λ ys. IsWord nested w body ys) same h)),
      is after ends,
    ))
    m

next_word_to : (nested : Bool) (blanks body : Text) (fault : Fault) → IsBlanks blanks → WordTo nested body fault → WordsTo nested (blanks ++ body) fault
next_word_to nested blanks body fault h m =
    following (λ r. word_ends nested r ≡ true) (λ r. command_ends nested r ≡ true) (λ w t r. IsWord nested w t r) (λ ws t r. IsWords nested ws t r) (λ w u. word w no_words) blanks body fault
    (λ v p s t firm same is after ends.
    record {
      first = blanks;
      second = p ++ t;
      whole = refl;
      is_first = h;
      is_second = record { first = p ++ t; second = []; whole = sym (append-nil (p ++ t)); is_first = is after (command_word nested after ends); is_second = (grammar.IsBlanks.nothing, ends) };
    })
    m

word_after_to : (nested : Bool) (blanks body : Text) (w : Word) (rest : Text) (fault : Fault) → IsBlanks blanks
    → IsWord nested w body rest → WordsTo nested rest fault → WordsTo nested (blanks ++ (body ++ rest)) fault
word_after_to nested blanks body w rest fault h k m =
    subst (λ ys. WordsTo nested ys fault) (append_assoc blanks body rest)
    (following (λ r. command_ends nested r ≡ true) (λ r. command_ends nested r ≡ true) (λ ws t r. IsWords nested ws t r)
    (λ ws t r. IsWords nested ws t r) (λ ws u. word w ws) (blanks ++ body) rest fault
    (λ v p s t firm same is after ends.
    record {
      first = blanks;
      second = body ++ (p ++ t);
      whole = append_assoc blanks body (p ++ t);
      is_first = h;
      is_second = record {
        first = body;
        second = p ++ t;
        whole = refl;
        is_first = subst (λ ys. IsWord nested w body ys) (sym (append_assoc p t after)) (word-firm nested w body p s (t ++ after) firm (subst (λ ys. IsWord nested w body ys) same k));
        is_second = is after ends;
      };
    })
    m)

plain_to : (nested : Bool) (bs : Text) (fault : Fault) → PlainTo nested bs fault → WordTo nested bs fault
plain_to nested bs fault m =
    following (λ r. word_ends nested r ≡ true) (λ r. word_ends nested r ≡ true)
    (λ ps t r. IsUnexpandedWord nested ps (λ c inside more. IsParts c ps inside more) t r)
    (λ w t r. IsWord nested w t r) (λ ps u. word_of false ps) [] bs fault
    (λ v p s t firm same is after ends. is after ends) m

expanding_to : (nested : Bool) (bs : Text) (fault : Fault) → PlainTo nested bs fault → WordTo nested (123 ∷ (42 ∷ (125 ∷ bs))) fault
expanding_to nested bs fault m =
    following (λ r. word_ends nested r ≡ true) (λ r. word_ends nested r ≡ true)
    (λ ps t r. IsUnexpandedWord nested ps (λ c inside more. IsParts c ps inside more) t r)
    (λ w t r. IsWord nested w t r) (λ ps u. word_of true ps) (123 ∷ (42 ∷ (125 ∷ []))) bs fault
    (λ v p s t firm same is after ends. (p ++ t, refl, plain_goes_on nested v (p ++ t) after (is after ends), is after ends)) m

quotes_to : (nested : Bool) (bs : Text) (fault : Fault) → PartsTo InQuotes bs fault → PlainTo nested (34 ∷ bs) fault
quotes_to nested bs fault m =
    between (λ r. parts_end InQuotes r ≡ true) (λ r. word_ends nested r ≡ true) (λ ps t r. IsParts InQuotes ps t r)
    (λ ps t r. IsUnexpandedWord nested ps (λ c inside more. IsParts c ps inside more) t r) (λ ps u. ps) (34 ∷ [])
    (34 ∷ []) bs fault
    (λ v p s t firm same is after ends. (ends, inr (inl (p ++ t, refl, is (34 ∷ after) refl)))) m

bare_to : (nested : Bool) (bs : Text) (fault : Fault) → DoesBegin (λ b. not (b == 123 || b == 34)) bs → PartsTo (bare nested) bs fault → PlainTo nested bs fault
bare_to nested bs fault h m =
    following (λ r. parts_end (bare nested) r ≡ true) (λ r. word_ends nested r ≡ true)
    (λ ps t r. IsParts (bare nested) ps t r) (λ ps t r. IsUnexpandedWord nested ps
    (λ c inside more. IsParts c ps inside more) t r) (λ ps u. ps) [] bs fault
    (λ v p s t firm same is after ends. (
      ends,
      inr
          (inr (
            does_begin-firm (λ b. not (b == 123 || b == 34)) p s t firm
                (subst (λ ys. DoesBegin (λ b. not (b == 123 || b == 34)) ys) same h),
            is after
                (bare_end nested after ∙ ends),
          )),
    )) m

brace_to : (nested : Bool) (inside rest : Text) → Balanced inside → PlainTo nested (123 ∷ (inside ++ 125 ∷ rest)) (JoinedToClose (length rest))
brace_to nested inside rest h =
    let after_closing = 123 ∷ (inside ++ 125 ∷ []) in
    record {
      value = part (braced inside) no_parts;
      before = after_closing;
      keep = [];
      rest = rest;
      more = [];
      whole = ap (λ ys. 123 ∷ ys) (sym (append_assoc inside (125 ∷ []) rest));
      long = refl;
      all = tt;
      firm = subst Firm (sym (append-nil after_closing)) (long_firm after_closing (omega (arith, length-append inside (125 ∷ []))));
      is = λ after ends. (ends, inl (inside, refl, append-nil after_closing, h));
    }

quote_to : (nested : Bool) (inside rest : Text) (ps : Parts) → ((r : Text) → IsParts InQuotes ps inside (34 ∷ r)) → PlainTo nested (34 ∷ (inside ++ 34 ∷ rest)) (JoinedToClose (length rest))
quote_to nested inside rest ps h =
    let after_closing = 34 ∷ (inside ++ 34 ∷ []) in
    record {
      value = ps;
      before = after_closing;
      keep = [];
      rest = rest;
      more = [];
      whole = ap (λ ys. 34 ∷ ys) (sym (append_assoc inside (34 ∷ []) rest));
      long = refl;
      all = tt;
      firm = subst Firm (sym (append-nil after_closing)) (long_firm after_closing (omega (arith, length-append inside (34 ∷ []))));
      is = λ after ends. (ends, inr (inl (inside, append-nil after_closing, h after)));
    }

first_part_to : (c : Context) (bs : Text) (fault : Fault) → PartTo c bs fault → PartsTo c bs fault
first_part_to c bs fault m =
    following (λ r. parts_end c r ≡ true) (λ r. parts_end c r ≡ true) (λ q t r. (parts_end c (t ++ r) ≡ false) × IsPart c q t r) (λ ps t r. IsParts c ps t r) (λ q u. part q no_parts) [] bs fault
    (λ v p s t firm same is after ends. record { first = p ++ t; second = []; whole = sym (append-nil (p ++ t)); is_first = is after ends; is_second = (refl, ends) }) m

later_part_to : (c : Context) (body : Text) (q : Part) (rest : Text) (fault : Fault) → parts_end c (body ++ rest) ≡ false → IsPart c q body rest → PartsTo c rest fault → PartsTo c (body ++ rest) fault
later_part_to c body q rest fault goes h m =
    following (λ r. parts_end c r ≡ true) (λ r. parts_end c r ≡ true) (λ ps t r. IsParts c ps t r) (λ ps t r. IsParts c ps t r) (λ ps u. part q ps) body rest fault
    (λ v p s t firm same is after ends.
    record {
      first = body;
      second = p ++ t;
      whole = refl;
      is_first = (
        ap (parts_end c) (ap (λ ys. body ++ ys) (append_assoc p t after) ∙ sym (append_assoc body p (t ++ after)))
            ∙ sym (parts_end-firm c (body ++ p) s (t ++ after) (firm_before body p firm)) ∙ ap (parts_end c) (append_assoc body p s ∙ ap (λ ys. body ++ ys) (sym same)) ∙ goes,
        subst (λ ys. IsPart c q body ys) (sym (append_assoc p t after)) (part-firm c q body p s (t ++ after) firm (subst (λ ys. IsPart c q body ys) same h)),
      );
      is_second = is after ends;
    })
    m

bracket_to : (c : Context) (bs : Text) (fault : Fault) → CommandsTo 0 true bs fault → PartTo c (91 ∷ bs) fault
bracket_to c bs fault m =
    between (λ r. script_ends true r ≡ true) (λ r. parts_end c r ≡ true) (CommandsFrom 0 true)
    (λ q t r. (parts_end c (t ++ r) ≡ false) × IsPart c q t r) (λ s u. bracket s) (91 ∷ []) (93 ∷ []) bs fault
    (λ v p s t firm same is after ends. (part_byte c 91 (((p ++ t) ++ 93 ∷ []) ++ after) (inr refl), (p ++ t, refl, is (93 ∷ after) refl (length (p ++ t)) (omega arith)))) m

index_to : (c : Context) (name bs : Text) (fault : Fault) → IsName name → PartsTo InIndex bs fault → PartTo c (36 ∷ (name ++ 40 ∷ bs)) fault
index_to c name bs fault h m =
    subst (λ ys. PartTo c (36 ∷ ys) fault) (append_assoc name (40 ∷ []) bs)
    (between (λ r. parts_end InIndex r ≡ true) (λ r. parts_end c r ≡ true) (λ ps t r. IsParts InIndex ps t r)
    (λ q t r. (parts_end c (t ++ r) ≡ false) × IsPart c q t r) (λ ps u. indexed name ps) (36 ∷ (name ++ 40 ∷ []))
    (41 ∷ []) bs fault
    (λ v p s t firm same is after ends. (
      part_byte c 36 (((name ++ 40 ∷ []) ++ ((p ++ t) ++ 41 ∷ [])) ++ after) (inl refl),
      (p ++ t, ap (λ ys. 36 ∷ ys) (append_assoc name (40 ∷ []) ((p ++ t) ++ 41 ∷ [])), h, is (41 ∷ after) refl),
    ))
    m)

false_true : false ≡ true → ⊥
false_true h = cc

escape_to : (c : Context) (b : ℕ) (bs : Text) → after_backslash (b ∷ bs) ≡ None → PartTo c (92 ∷ (b ∷ bs)) (BadCharacter (suc (suc (length bs))))
escape_to c b bs h =
    let is = escape_letter b bs h in
    record {
      value = tree.backslash (b ∷ []);
      before = [];
      keep = 92 ∷ (b ∷ []);
      rest = bs;
      more = [];
      whole = refl;
      long = refl;
      all = λ e. absurd (false_true e);
      firm = tt;
      is = λ after ends. (backslash_goes_on c (b ∷ after) (no_newline b after is), (b ∷ [], refl, letter_alone b after is (no_digit c after ends)));
    }

bad_escape_to : (c : Context) (bs : Text) → bs ≢ [] → after_backslash bs ≡ None → PartTo c (92 ∷ bs) (BadCharacter (suc (length bs)))
bad_escape_to c [] some h = absurd (some refl)
bad_escape_to c (b ∷ bs) some h = escape_to c b bs h

-- open marks

mark_firm : (b : ℕ) (bs : Text) → (b == 92) ≡ false → (b == 58) ≡ false → Firm (b ∷ bs)
mark_firm b [] h k = (is_no_byte b 92 h, is_no_byte b 58 k)
mark_firm b (c ∷ bs) h k = tt

all_left : (b : ℕ) (bs : Text) → length ((b ∷ bs) ++ []) ≡ suc (length bs)
all_left b bs = ap length (append-nil (b ∷ bs))

open_brace_to : (nested : Bool) (bs : Text) → NeverCloses bs → PlainTo nested (123 ∷ bs) (OpenBrace (suc (length bs)))
open_brace_to nested bs h =
    let m = brace_finish bs (none_found bs (braced_at false 0 bs) refl h) in
    record {
      value = part (braced m.1) no_parts;
      before = [];
      keep = 123 ∷ bs;
      rest = [];
      more = m.0;
      whole = sym (append-nil (123 ∷ bs));
      long = all_left 123 bs;
      all = refl;
      firm = mark_firm 123 bs refl refl;
      is = λ after ends. (ends, inl (m.1, refl, ap (λ ys. 123 ∷ ys) m.2, m.3));
    }

open_quote_to : (nested : Bool) (bs : Text) (ps : Parts) → IsParts InQuotes ps bs [] → PlainTo nested (34 ∷ bs) (OpenQuote (suc (length bs)))
open_quote_to nested bs ps h =
    let m = parts_finish InQuotes ps bs h in
    record {
      value = m.value;
      before = [];
      keep = 34 ∷ bs;
      rest = [];
      more = m.more ++ 34 ∷ [];
      whole = sym (append-nil (34 ∷ bs));
      long = all_left 34 bs;
      all = refl;
      firm = mark_firm 34 bs refl refl;
      is = λ after ends. (ends, inr (inl (bs ++ m.more, ap (λ ys. 34 ∷ ys) (sym (append_assoc bs m.more (34 ∷ []))), m.is after)));
    }

open_name_to : (c : Context) (bs : Text) → AllPass (in_class InBracedName) bs → PartTo c (36 ∷ (123 ∷ bs)) (OpenBrace (suc (length bs)))
open_name_to c bs h = record {
  value = variable bs;
  before = 36 ∷ [];
  keep = 123 ∷ bs;
  rest = [];
  more = 125 ∷ [];
  whole = ap (λ ys. 36 ∷ ys) (sym (append-nil (123 ∷ bs)));
  long = all_left 123 bs;
  all = refl;
  firm = tt;
  is = λ after ends. (part_byte c 36 ((123 ∷ (bs ++ 125 ∷ [])) ++ after) (inl refl), inr (refl, h));
}

open_bracket_to : (c : Context) (bs : Text) (s : Commands) → IsCommands (length bs) true s bs [] → PartTo c (91 ∷ bs) (OpenBracket (suc (length bs)))
open_bracket_to c bs s h =
    let m = commands_finish (length bs) 0 s bs (omega arith) h in
    record {
      value = bracket m.value;
      before = [];
      keep = 91 ∷ bs;
      rest = [];
      more = m.more ++ 93 ∷ [];
      whole = sym (append-nil (91 ∷ bs));
      long = all_left 91 bs;
      all = refl;
      firm = mark_firm 91 bs refl refl;
      is = λ after ends. (
        part_byte c 91 ((bs ++ (m.more ++ 93 ∷ [])) ++ after) (inr refl),
        (bs ++ m.more, ap (λ ys. 91 ∷ ys) (sym (append_assoc bs m.more (93 ∷ []))), m.is after (length (bs ++ m.more)) (omega arith)),
      );
    }

open_index_to : (c : Context) (name bs : Text) (ps : Parts) → IsName name → IsParts InIndex ps bs [] → PartTo c (36 ∷ (name ++ 40 ∷ bs)) (BadCharacter (suc (length bs)))
open_index_to c name bs ps h k =
    let m = parts_finish InIndex ps bs k in
    record {
      value = indexed name m.value;
      before = 36 ∷ name;
      keep = 40 ∷ bs;
      rest = [];
      more = m.more ++ 41 ∷ [];
      whole = ap (λ ys. 36 ∷ (name ++ ys)) (sym (append-nil (40 ∷ bs)));
      long = all_left 40 bs;
      all = λ e. refl;
      firm = long_firm ((36 ∷ name) ++ 40 ∷ bs) (omega (arith, length-append name (40 ∷ bs)));
      is = λ after ends. (
        part_byte c 36 ((name ++ (40 ∷ (bs ++ (m.more ++ 41 ∷ [])))) ++ after) (inl refl),
        (bs ++ m.more, ap (λ ys. 36 ∷ (name ++ 40 ∷ ys)) (sym (append_assoc bs m.more (41 ∷ []))), h, m.is after),
      );
    }

mutual
  pub commands_viable : {d : ℕ} {nested : Bool} {bs : Text} {f : Fault} → CommandsFault d nested bs f → (at : ℕ) → f ≢ TooDeep → CommandsTo at nested bs f
  commands_viable (faults.CommandsFault.first_command {d} {nested} gap {body} {f} h free k) at some = first_command_to at nested gap body f h free (command_viable k some)
  commands_viable (faults.CommandsFault.later_command {d} {nested} gap source body ws {rest} {f} h free k deep l) at some =
      later_command_to at nested gap source body ws rest f h free k (commands_viable l (at + (length gap + length body)) some)

  command_viable : {d : ℕ} {nested : Bool} {bs : Text} {f : Fault} → CommandFault d nested bs f → f ≢ TooDeep → CommandTo nested bs f
  command_viable (faults.CommandFault.first_word {d} {nested} {bs} {f} h) some = first_word_to nested bs f (word_viable h some)
  command_viable (faults.CommandFault.later_word {d} {nested} body w {rest} {f} h deep k) some = later_word_to nested body w rest f h (words_viable k some)

  words_viable : {d : ℕ} {nested : Bool} {bs : Text} {f : Fault} → WordsFault d nested bs f → f ≢ TooDeep → WordsTo nested bs f
  words_viable (faults.WordsFault.next_word {d} {nested} blanks {body} {f} h k) some = next_word_to nested blanks body f h (word_viable k some)
  words_viable (faults.WordsFault.word_after {d} {nested} blanks body w {rest} {f} h k deep l) some = word_after_to nested blanks body w rest f h k (words_viable l some)

  word_viable : {d : ℕ} {nested : Bool} {bs : Text} {f : Fault} → WordFault d nested bs f → f ≢ TooDeep → WordTo nested bs f
  word_viable (faults.WordFault.not_expanding {d} {nested} {bs} {f} none h) some = plain_to nested bs f (plain_viable h some)
  word_viable (faults.WordFault.expanding {d} {nested} {body} {f} h k) some = expanding_to nested body f (plain_viable k some)

  plain_viable : {d : ℕ} {nested : Bool} {bs : Text} {f : Fault} → UnexpandedWordFault d nested bs f → f ≢ TooDeep → PlainTo nested bs f
  plain_viable (faults.UnexpandedWordFault.open_brace {d} {nested} {bs} h) some = open_brace_to nested bs h
  plain_viable (faults.UnexpandedWordFault.joined_brace {d} {nested} inside rest h k) some = brace_to nested inside rest h
  plain_viable (faults.UnexpandedWordFault.in_quotes {d} {nested} {bs} {f} h) some = quotes_to nested bs f (parts_viable h some)
  plain_viable (faults.UnexpandedWordFault.open_quote {d} {nested} {bs} ps h k) some = open_quote_to nested bs ps h
  plain_viable (faults.UnexpandedWordFault.joined_quote {d} {nested} inside rest ps h k l) some = quote_to nested inside rest ps (λ r. parts_before_quote ps inside rest r h)
  plain_viable (faults.UnexpandedWordFault.in_bare {d} {nested} {bs} {f} h k) some = bare_to nested bs f h (parts_viable k some)

  parts_viable : {d : ℕ} {c : Context} {bs : Text} {f : Fault} → PartsFault d c bs f → f ≢ TooDeep → PartsTo c bs f
  parts_viable (faults.PartsFault.first_part {d} {c} {bs} {f} h) some = first_part_to c bs f (part_viable h c some)
  parts_viable (faults.PartsFault.later_part {d} {c} body q {rest} {f} goes h deep k) some = later_part_to c body q rest f goes h (parts_viable k some)

  part_viable : {d : ℕ} {bs : Text} {f : Fault} → PartFault d bs f → (c : Context) → f ≢ TooDeep → PartTo c bs f
  part_viable (faults.PartFault.open_name {d} {bs} h) c some = open_name_to c bs h
  part_viable (faults.PartFault.bad_character {d} {bs} begun h) c some = bad_escape_to c bs begun h
  part_viable faults.PartFault.bracket_too_deep c some = absurd (some refl)
  part_viable (faults.PartFault.in_bracket {d} {bs} {f} h) c some = bracket_to c bs f (commands_viable h 0 some)
  part_viable (faults.PartFault.open_bracket {d} {bs} s h less) c some = open_bracket_to c bs s h
  part_viable (faults.PartFault.index_too_deep name bs h) c some = absurd (some refl)
  part_viable (faults.PartFault.in_index {d} name bs {f} h k) c some = index_to c name bs f h (parts_viable k some)
  part_viable (faults.PartFault.open_index {d} name bs ps h k less) c some = open_index_to c name bs ps h k

-- Up to its mark, a text with a fault goes on to a script.
pub before_mark : (d : ℕ) (before rest : Text) (f : Fault) → IsFault d (before ++ rest) f → f ≢ TooDeep → remaining_of f ≡ length rest → IsViablePrefix before
before_mark d before rest f h some long =
    let m = commands_viable h 0 some in
    let cut = same_cut before rest m.before (m.keep ++ m.rest) m.whole (sym (m.long ∙ long)) in
    (m.keep ++ m.more, m.value, subst (λ ys. IsScript (ys ++ (m.keep ++ m.more)) m.value) (sym cut.0) (m.is [] refl (length (m.before ++ (m.keep ++ m.more))) (omega arith)))

-- Where a mark is open, the whole text does.
whole_text : (d : ℕ) (bs : Text) (f : Fault) → (h : IsFault d bs f) (some : f ≢ TooDeep) → (commands_viable h 0 some).rest ≡ [] → IsViablePrefix bs
whole_text d bs f h some none =
    let m = commands_viable h 0 some in
    let whole : bs ≡ m.before ++ m.keep = m.whole ∙ ap (λ ys. m.before ++ ys) (ap (λ ys. m.keep ++ ys) none ∙ append-nil m.keep) in (
      m.more,
      m.value,
      subst (λ ys. IsScript ys m.value)
          (sym (append_assoc m.before m.keep m.more) ∙ ap (λ ys. ys ++ m.more) (sym whole))
          (m.is [] refl (length (m.before ++ (m.keep ++ m.more))) (omega arith)),
    )

pub open_mark : (d : ℕ) (bs : Text) (f : Fault) → IsFault d bs f → IsOpenMark f → IsViablePrefix bs
open_mark d bs (OpenBrace n) h is = whole_text d bs (OpenBrace n) h (λ e. cc) (commands_viable h 0 (λ e. cc)).all
open_mark d bs (OpenQuote n) h is = whole_text d bs (OpenQuote n) h (λ e. cc) (commands_viable h 0 (λ e. cc)).all
open_mark d bs (OpenBracket n) h is = whole_text d bs (OpenBracket n) h (λ e. cc) (commands_viable h 0 (λ e. cc)).all
open_mark d bs (JoinedToClose n) h is = absurd is
open_mark d bs (BadCharacter n) h is = absurd is
open_mark d bs (BadExpression n) h is = absurd is
open_mark d bs TooDeep h is = absurd is

pub open_index : (d : ℕ) (before rest : Text) → IsFault d (before ++ 40 ∷ rest) (BadCharacter (suc (length rest))) → IsViablePrefix (before ++ 40 ∷ rest)
open_index d before rest h =
    let some : BadCharacter (suc (length rest)) ≢ TooDeep = λ e. cc in
    let m = commands_viable h 0 some in
    let cut = same_cut before (40 ∷ rest) m.before (m.keep ++ m.rest) m.whole (sym m.long) in
    whole_text d (before ++ 40 ∷ rest) (BadCharacter (suc (length rest))) h some (m.all (ap (begins 40) (sym cut.1)))
