-- What a text is doesn't hang on what follows far behind it.
use Rattle.std.proofs.Common.{◌≡◌, ◌≢◌, ℕ, suc, ◌≤◌, [], ◌∷◌, ◌++◌, length, Bool, true, false, not, ◌||◌, ◌==◌, ◌&&◌}
use Rattle.std.proofs.Common.{Option, Some, None, refl, sym, ap, ap₂, subst, ◌∙◌, arith, append_assoc, inl, inr}
use Rattle.std.proofs.lemmas.Bool.Decides.{nat_tests}
use Rattle.tcltext.specs.chars.Runs.{Text, begins}
use Rattle.tcltext.specs.chars.Bytes.{newline, MayBegin, DoesBegin, colon}
use Rattle.tcltext.specs.chars.Classes.{in_class}
use Rattle.tcltext.specs.chars.Backslash.{after_backslash}
use Rattle.tcltext.specs.declared.script.context.Context.{Context}
use Rattle.tcltext.specs.declared.script.context.Context.TheVariants.{InScript, InBracket, InIndex, InQuotes}
use Rattle.tcltext.specs.script.ScanState.{ScanState, Blanks, AwaitsNewline, Gap, Comment, Escaped, Name, Colons, step}
use Rattle.tcltext.specs.script.ScanState.{put_before, scan_on, scan}
use Rattle.tcltext.specs.script.Tree as tree
use Rattle.tcltext.specs.script.Tree.{Commands, no_commands, command, Words, no_words, word, Word, word_of, Parts, no_parts}
use Rattle.tcltext.specs.script.Tree.{part, Part, literal, variable, indexed, bracket}
use Rattle.tcltext.specs.script.Ends.{script_ends, command_ends, word_ends, ends_at, parts_end, class_of, bare}
use Rattle.tcltext.specs.script.Grammar as grammar
use Rattle.tcltext.specs.script.Grammar.{IsGap, IsLongestName, IsLiteral, IsUnexpandedWord, IsCommands, IsCommand, IsWords}
use Rattle.tcltext.specs.script.Grammar.{IsWord, IsParts, IsPart}
use Rattle.tcltext.proofs.script.PassedOver.{scan-on, scan-stop}
use Rattle.tcltext.proofs.script.Names.{name_longest, name_again}
use Rattle.tcltext.proofs.script.NextByte.{same_escape, shorter_escape}

-- two bytes or more, or one after which nothing is asked
abbrev pub Firm : Text → Type 0
Firm [] = ⊥
Firm (b ∷ []) = (b ≢ 92) × (b ≢ 58)
Firm (b ∷ (c ∷ p)) = Unit {0}

pub firm_before : (x p : Text) → Firm p → Firm (x ++ p)
firm_before [] p h = h
firm_before (b ∷ []) [] h = absurd h
firm_before (b ∷ []) (c ∷ p) h = tt
firm_before (b ∷ (c ∷ x)) p h = tt

pub firm_some : (p s : Text) → Firm p → p ++ s ≢ []
firm_some [] s h = absurd h
firm_some (b ∷ p) s h = λ e. cc

-- two texts that begin so, or one byte of which no more is asked than they have in common
abbrev pub Like : Text → Text → Text → Type 0
Like [] s t = ⊥
Like (b ∷ []) s t = ((b == 92 && begins newline s) ≡ (b == 92 && begins newline t)) × ((b == 58 && begins colon s) ≡ (b == 58 && begins colon t))
Like (b ∷ (c ∷ p)) s t = Unit {0}

pub like_before : (x p s t : Text) → Like p s t → Like (x ++ p) s t
like_before [] p s t h = h
like_before (b ∷ []) [] s t h = absurd h
like_before (b ∷ []) (c ∷ p) s t h = tt
like_before (b ∷ (c ∷ x)) p s t h = tt

pub like_some : (p s t : Text) → Like p s t → p ++ s ≢ []
like_some [] s t h = absurd h
like_some (b ∷ p) s t h = λ e. cc

-- Tests of what follows

pub no_byte : (b c : ℕ) → b ≢ c → (b == c) ≡ false
no_byte b c h = grind (arith, nat_tests)

pub word_ends-like : (nested : Bool) (p s t : Text) → Like p s t → word_ends nested (p ++ s) ≡ word_ends nested (p ++ t)
word_ends-like nested [] s t h = absurd h
word_ends-like nested (b ∷ []) s t h = rw (h.0) refl
word_ends-like nested (b ∷ (c ∷ p)) s t h = refl

pub command_ends-like : (nested : Bool) (p s t : Text) → Like p s t → command_ends nested (p ++ s) ≡ command_ends nested (p ++ t)
command_ends-like nested [] s t h = absurd h
command_ends-like nested (b ∷ p) s t h = refl

pub script_ends-like : (nested : Bool) (p s t : Text) → Like p s t → script_ends nested (p ++ s) ≡ script_ends nested (p ++ t)
script_ends-like nested [] s t h = absurd h
script_ends-like nested (b ∷ p) s t h = refl

ends_at-like : (mark : ℕ) (p s t : Text) → Like p s t → ends_at mark (p ++ s) ≡ ends_at mark (p ++ t)
ends_at-like mark [] s t h = absurd h
ends_at-like mark (b ∷ p) s t h = refl

pub parts_end-like : (c : Context) (p s t : Text) → Like p s t → parts_end c (p ++ s) ≡ parts_end c (p ++ t)
parts_end-like InScript p s t h = word_ends-like false p s t h
parts_end-like InBracket p s t h = word_ends-like true p s t h
parts_end-like InIndex p s t h = ends_at-like 41 p s t h
parts_end-like InQuotes p s t h = ends_at-like 34 p s t h

pub may_begin-like : (q : ℕ → Bool) (p s t : Text) → Like p s t → MayBegin q (p ++ s) → MayBegin q (p ++ t)
may_begin-like q [] s t h k = absurd h
may_begin-like q (b ∷ p) s t h k = k

pub does_begin-like : (q : ℕ → Bool) (p s t : Text) → Like p s t → DoesBegin q (p ++ s) → DoesBegin q (p ++ t)
does_begin-like q [] s t h k = absurd h
does_begin-like q (b ∷ p) s t h k = k

-- What is passed over

same_step : (p : ScanState) (b : ℕ) (x y : Text) → begins newline x ≡ begins newline y → begins colon x ≡ begins colon y → step p b x ≡ step p b y
same_step Blanks b x y h k = rw h refl
same_step AwaitsNewline b x y h k = refl
same_step Gap b x y h k = rw h refl
same_step Comment b x y h k = refl
same_step Escaped b x y h k = refl
same_step Name b x y h k = rw k refl
same_step Colons b x y h k = refl

like_step : (p : ScanState) (b : ℕ) (x y : Text) → (b == 92 && begins newline x) ≡ (b == 92 && begins newline y) → (b == 58 && begins colon x) ≡ (b == 58 && begins colon y) → step p b x ≡ step p b y
like_step Blanks b x y h k = rw h refl
like_step AwaitsNewline b x y h k = refl
like_step Gap b x y h k = rw h refl
like_step Comment b x y h k = refl
like_step Escaped b x y h k = refl
like_step Name b x y h k = rw k refl
like_step Colons b x y h k = refl

firm_step : (p : ScanState) (b : ℕ) (bs s t : Text) → Like (b ∷ bs) s t → step p b (bs ++ s) ≡ step p b (bs ++ t)
firm_step p b [] s t h = like_step p b s t h.0 h.1
firm_step p b (c ∷ bs) s t h = same_step p b (c ∷ (bs ++ s)) (c ∷ (bs ++ t)) refl refl

-- the first byte of what was passed over
stopped : (b : ℕ) (bs : Text) (next : Option ScanState) → (scan_on b bs (λ p. scan p bs) next).0 ≡ [] → next ≡ None
stopped b bs None h = refl
stopped b bs (Some p) h = cc

went_on : (b x : ℕ) (bs xs r : Text) (next : Option ScanState) → scan_on b bs (λ p. scan p bs) next ≡ (x ∷ xs, r) → (p : ScanState) × (next ≡ Some p) × (scan p bs ≡ (xs, r))
went_on b x bs xs r None h = absurd (apart (ap (λ (p : Text × Text). p.0) h)) where
  apart : [] ≡ x ∷ xs → ⊥
  apart h = cc
went_on b x bs xs r (Some p) h =
    let one : b ∷ (scan p bs).0 ≡ x ∷ xs = ap (λ (p : Text × Text). p.0) h in
    let rest : (scan p bs).1 ≡ r = ap (λ (p : Text × Text). p.1) h in
    let same : (scan p bs).0 ≡ xs = cc in
    (p, refl, ap₂ (λ (x y : Text). (x, y)) same rest)

scan-open : (p : ScanState) (b : ℕ) (bs : Text) → scan p (b ∷ bs) ≡ scan_on b bs (λ p. scan p bs) (step p b bs)
unfolding scan
scan-open p b bs = refl

scan-like : (q : ScanState) (x p s t : Text) → Like p s t → scan q (x ++ (p ++ s)) ≡ (x, p ++ s) → scan q (x ++ (p ++ t)) ≡ (x, p ++ t)
scan-like q [] [] s t h k = absurd h
scan-like q [] (b ∷ p) s t h k =
    let none : step q b (p ++ s) ≡ None = stopped b (p ++ s) (step q b (p ++ s)) (ap (λ (p : Text × Text). p.0) (sym (scan-open q b (p ++ s)) ∙ k)) in
    scan-stop q b (p ++ t) (sym (firm_step q b p s t h) ∙ none)
scan-like q (b ∷ x) p s t h k =
    let m = went_on b b (x ++ (p ++ s)) x (p ++ s) (step q b (x ++ (p ++ s))) (sym (scan-open q b (x ++ (p ++ s))) ∙ k) in
    let same : step q b (x ++ (p ++ s)) ≡ step q b (x ++ (p ++ t)) =
    ap (step q b) (sym (append_assoc x p s)) ∙ firm_step q b (x ++ p) s t (like_before (b ∷ x) p s t h) ∙ ap (step q b) (append_assoc x p t) in
    scan-on q m.0 b (x ++ (p ++ t)) (sym same ∙ m.1) ∙ ap (put_before b) (scan-like m.0 x p s t h m.2)

longest-like : (name p s t : Text) → Like p s t → IsLongestName name (p ++ s) → IsLongestName name (p ++ t)
longest-like name p s t h k =
    let e = scan-like Name name p s t h (name_again name (p ++ s) k) in
    subst (λ (x : Text × Text). IsLongestName x.0 x.1) e (name_longest (name ++ (p ++ t)))

-- Gaps

pub gap-any : {gap after : Text} → IsGap gap after → after ≢ [] → (other : Text) → IsGap gap other
gap-any grammar.IsGap.nothing some other = grammar.IsGap.nothing
gap-any (grammar.IsGap.space h k) some other = grammar.IsGap.space h (gap-any k some other)
gap-any (grammar.IsGap.line k) some other = grammar.IsGap.line (gap-any k some other)
gap-any (grammar.IsGap.comment h k) some other = grammar.IsGap.comment h (gap-any k some other)
gap-any (grammar.IsGap.open_comment h) some other = absurd (some refl)
gap-any (grammar.IsGap.open_escape h) some other = absurd (some refl)

-- Escapes

escape-like : (e v p s t : Text) → Like p s t → after_backslash (e ++ (p ++ s)) ≡ Some (v, p ++ s) → after_backslash (e ++ (p ++ t)) ≡ Some (v, p ++ t)
escape-like e v [] s t h k = absurd h
escape-like [] v (b ∷ p) s t h k = absurd (too_short (shorter_escape b (p ++ s) v (b ∷ (p ++ s)) k)) where
  too_short : suc (length (p ++ s)) ≤ length (p ++ s) → ⊥
  too_short h = omega arith
escape-like (c ∷ e) v (b ∷ p) s t h k = same_escape b (p ++ s) (p ++ t) c e v k

-- The grammar

literal-like : (c : Context) (x p s t : Text) → Like p s t → IsLiteral c x (p ++ s) → IsLiteral c x (p ++ t)
literal-like c x p s t h (inl run) = inl (run.0, run.1, may_begin-like (λ b. not (in_class (class_of c) b)) p s t h run.2)
literal-like c x p s t h (inr (inl dollar)) = inr (inl (dollar.0, longest-like [] p s t h dollar.1, may_begin-like (λ b. not (b == 40 || b == 123)) p s t h dollar.2))
literal-like c x p s t h (inr (inr last)) = absurd (like_some p s t h last.1)

back_to : (x p s : Text) → (x ++ p) ++ s ≡ x ++ (p ++ s)
back_to x p s = append_assoc x p s

not_expanding-like : (nested : Bool) (ps : Parts) (x p s t : Text) → Like p s t → ((c : Context) (y q : Text) → Like q s t → IsParts c ps y (q ++ s) → IsParts c ps y (q ++ t))
    → IsUnexpandedWord nested ps (λ c inside more. IsParts c ps inside more) x (p ++ s) → IsUnexpandedWord nested ps (λ c inside more. IsParts c ps inside more) x (p ++ t)
not_expanding-like nested ps x p s t h all (e, inl k) = (sym (word_ends-like nested p s t h) ∙ e, inl k)
not_expanding-like nested ps x p s t h all (e, inr (inl k)) = (sym (word_ends-like nested p s t h) ∙ e, inr (inl (k.0, k.1, all InQuotes k.0 (34 ∷ p) (like_before (34 ∷ []) p s t h) k.2)))
not_expanding-like nested ps x p s t h all (e, inr (inr k)) = (sym (word_ends-like nested p s t h) ∙ e, inr (inr (k.0, all (bare nested) x p h k.1)))

mutual
  pub commands-like : (size : ℕ) (nested : Bool) (cs : Commands) (x p s t : Text) → Like p s t → IsCommands size nested cs x (p ++ s) → IsCommands size nested cs x (p ++ t)
  commands-like size nested no_commands x p s t h k = (gap-any k.0 (like_some p s t h) (p ++ t), sym (script_ends-like nested p s t h) ∙ k.1)
  commands-like size nested (command offset source ws cs) x p s t h k =
      let body = k.is_second.first in
      let rest = k.is_second.second in
      record {
        first = k.first;
        second = k.second;
        whole = k.whole;
        is_first = (gap-any k.is_first.0 (subst (λ xs. xs ≢ []) (append_assoc k.second p s) (like_some (k.second ++ p) s t (like_before k.second p s t h))) (k.second ++ (p ++ t)), k.is_first.1);
        is_second = record {
          first = body;
          second = rest;
          whole = k.is_second.whole;
          is_first = (
            k.is_second.is_first.0,
            subst (λ ys. IsCommand nested source ws body ys) (append_assoc rest p t)
                (command-like nested source ws body (rest ++ p) s t (like_before rest p s t h) (subst (λ ys. IsCommand nested source ws body ys) (sym (append_assoc rest p s)) k.is_second.is_first.1)),
          );
          is_second = commands-like size nested cs rest p s t h k.is_second.is_second;
        };
      }

  pub command-like : (nested : Bool) (source : Text) (ws : Words) (x p s t : Text) → Like p s t → IsCommand nested source ws x (p ++ s) → IsCommand nested source ws x (p ++ t)
  command-like nested source no_words x p s t h k = absurd k
  command-like nested source (word w ws) x p s t h k = (
    k.0,
    k.1,
    subst (λ ys. IsWord nested w source ys) (append_assoc k.0 p t)
        (word-like nested w source (k.0 ++ p) s t (like_before k.0 p s t h)
        (subst (λ ys. IsWord nested w source ys) (sym (append_assoc k.0 p s)) k.2)),
    words-like nested ws k.0 p s t h k.3,
  )

  pub words-like : (nested : Bool) (ws : Words) (x p s t : Text) → Like p s t → IsWords nested ws x (p ++ s) → IsWords nested ws x (p ++ t)
  words-like nested no_words x p s t h k = (k.0, sym (command_ends-like nested p s t h) ∙ k.1)
  words-like nested (word w ws) x p s t h k =
      let body = k.is_second.first in
      let rest = k.is_second.second in
      record {
        first = k.first;
        second = k.second;
        whole = k.whole;
        is_first = k.is_first;
        is_second = record {
          first = body;
          second = rest;
          whole = k.is_second.whole;
          is_first =
              subst (λ ys. IsWord nested w body ys) (append_assoc rest p t)
              (word-like nested w body (rest ++ p) s t (like_before rest p s t h) (subst (λ ys. IsWord nested w body ys) (sym (append_assoc rest p s)) k.is_second.is_first));
          is_second = words-like nested ws rest p s t h k.is_second.is_second;
        };
      }

  pub word-like : (nested : Bool) (w : Word) (x p s t : Text) → Like p s t → IsWord nested w x (p ++ s) → IsWord nested w x (p ++ t)
  word-like nested (word_of false ps) x p s t h k = not_expanding-like nested ps x p s t h (λ c y q r. parts-like c ps y q s t r) k
  word-like nested (word_of true ps) x p s t h k = (
    k.0,
    k.1,
    ap (word_ends nested) (sym (append_assoc k.0 p t)) ∙ sym (word_ends-like nested (k.0 ++ p) s t (like_before k.0 p s t h)) ∙ ap (word_ends nested) (append_assoc k.0 p s) ∙ k.2,
    not_expanding-like nested ps k.0 p s t h (λ c y q r. parts-like c ps y q s t r) k.3,
  )

  pub parts-like : (c : Context) (ps : Parts) (x p s t : Text) → Like p s t → IsParts c ps x (p ++ s) → IsParts c ps x (p ++ t)
  parts-like c no_parts x p s t h k = (k.0, sym (parts_end-like c p s t h) ∙ k.1)
  parts-like c (part q ps) x p s t h k =
      let rest = k.second in
      record {
        first = k.first;
        second = rest;
        whole = k.whole;
        is_first = (
          ap (parts_end c) (ap (λ ys. k.first ++ ys) (sym (append_assoc rest p t)) ∙ sym (append_assoc k.first (rest ++ p) t))
              ∙ sym (parts_end-like c (k.first ++ (rest ++ p)) s t (like_before k.first (rest ++ p) s t (like_before rest p s t h)))
              ∙ ap (parts_end c) (append_assoc k.first (rest ++ p) s ∙ ap (λ ys. k.first ++ ys) (append_assoc rest p s)) ∙ k.is_first.0,
          subst (λ ys. IsPart c q k.first ys) (append_assoc rest p t)
              (part-like c q k.first (rest ++ p) s t (like_before rest p s t h) (subst (λ ys. IsPart c q k.first ys) (sym (append_assoc rest p s)) k.is_first.1)),
        );
        is_second = parts-like c ps rest p s t h k.is_second;
      }

  pub part-like : (c : Context) (q : Part) (x p s t : Text) → Like p s t → IsPart c q x (p ++ s) → IsPart c q x (p ++ t)
  part-like c (literal y) x p s t h k = (k.0, literal-like c y p s t h k.1)
  part-like c (tree.braced y) x p s t h k = k
  part-like c (tree.backslash v) x p s t h k = (k.0, k.1, escape-like k.0 v p s t h k.2)
  part-like c (variable name) x p s t h (inl k) = inl (k.0, k.1, longest-like name p s t h k.2, may_begin-like (λ b. not (b == 40)) p s t h k.3)
  part-like c (variable name) x p s t h (inr k) = inr k
  part-like c (indexed name ps) x p s t h k = (k.0, k.1, k.2, parts-like InIndex ps k.0 (41 ∷ p) s t (like_before (41 ∷ []) p s t h) k.3)
  part-like c (bracket s') x p s t h k = (k.0, k.1, commands-like (length k.0) true s' k.0 (93 ∷ p) s t (like_before (93 ∷ []) p s t h) k.2)

-- Where what follows is firm

pub firm_like : (p s t : Text) → Firm p → Like p s t
firm_like [] s t h = absurd h
firm_like (b ∷ []) s t h = (rw (no_byte b 92 h.0) refl, rw (no_byte b 58 h.1) refl)
firm_like (b ∷ (c ∷ p)) s t h = tt

pub does_begin-firm : (q : ℕ → Bool) (p s t : Text) → Firm p → DoesBegin q (p ++ s) → DoesBegin q (p ++ t)
does_begin-firm q p s t h = does_begin-like q p s t (firm_like p s t h)

pub parts_end-firm : (c : Context) (p s t : Text) → Firm p → parts_end c (p ++ s) ≡ parts_end c (p ++ t)
parts_end-firm c p s t h = parts_end-like c p s t (firm_like p s t h)

pub commands-firm : (size : ℕ) (nested : Bool) (cs : Commands) (x p s t : Text) → Firm p → IsCommands size nested cs x (p ++ s) → IsCommands size nested cs x (p ++ t)
commands-firm size nested cs x p s t h = commands-like size nested cs x p s t (firm_like p s t h)

pub command-firm : (nested : Bool) (source : Text) (ws : Words) (x p s t : Text) → Firm p → IsCommand nested source ws x (p ++ s) → IsCommand nested source ws x (p ++ t)
command-firm nested source ws x p s t h = command-like nested source ws x p s t (firm_like p s t h)

pub word-firm : (nested : Bool) (w : Word) (x p s t : Text) → Firm p → IsWord nested w x (p ++ s) → IsWord nested w x (p ++ t)
word-firm nested w x p s t h = word-like nested w x p s t (firm_like p s t h)

pub parts-firm : (c : Context) (ps : Parts) (x p s t : Text) → Firm p → IsParts c ps x (p ++ s) → IsParts c ps x (p ++ t)
parts-firm c ps x p s t h = parts-like c ps x p s t (firm_like p s t h)

pub part-firm : (c : Context) (q : Part) (x p s t : Text) → Firm p → IsPart c q x (p ++ s) → IsPart c q x (p ++ t)
part-firm c q x p s t h = part-like c q x p s t (firm_like p s t h)
