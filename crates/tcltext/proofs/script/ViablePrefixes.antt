-- What offends behind a closing brace or quote, or behind a backslash, offends whatever follows it.
use Rattle.std.proofs.Common.{◌≡◌, ◌≢◌, ℕ, suc, ◌≤◌, [], ◌∷◌, ◌++◌, length, Bool, true, false, not, ◌||◌, ◌==◌, None}
use Rattle.std.proofs.Common.{refl, sym, ap, ap₂, subst, ◌∙◌, arith, append_assoc, length-append}
use Rattle.tcltext.specs.chars.Runs.{Text}
use Rattle.tcltext.specs.chars.Bytes.{hash, DoesBegin}
use Rattle.tcltext.specs.chars.Backslash.{after_backslash}
use Rattle.tcltext.specs.chars.Braces.{Balanced}
use Rattle.tcltext.specs.declared.chars.fault.Fault.{Fault}
use Rattle.tcltext.specs.declared.chars.fault.Fault.TheVariants.{OpenBrace, OpenQuote, OpenBracket, JoinedToClose, TooDeep}
use Rattle.tcltext.specs.declared.chars.fault.Fault.TheVariants.{BadCharacter, BadExpression}
use Rattle.tcltext.proofs.chars.Results.{err_same}
use Rattle.tcltext.specs.declared.script.context.Context.{Context}
use Rattle.tcltext.specs.declared.script.context.Context.TheVariants.{InIndex, InQuotes}
use Rattle.tcltext.specs.script.Tree.{Words, Word, Parts, Part, words_nesting, word_nesting, parts_nesting, part_nesting}
use Rattle.tcltext.specs.script.Ends.{word_ends, parts_end, bare}
use Rattle.tcltext.specs.script.Grammar.{IsBlanks, IsGap, IsCommand, IsName, IsWord, IsParts, IsPart}
use Rattle.tcltext.specs.script.Faults as faults
use Rattle.tcltext.specs.script.Faults.{Expands, CommandsFault, CommandFault, WordsFault, WordFault, UnexpandedWordFault}
use Rattle.tcltext.specs.script.Faults.{PartsFault, PartFault}
use Rattle.tcltext.specs.script.Reading.{inner_at, unexpanded_word_at}
use Rattle.tcltext.proofs.script.WordsExact.{plain_met, plain_fault_goes_on, star_joined}
use Rattle.tcltext.proofs.script.Whole.{inner_exact}
use Rattle.tcltext.specs.script.ViablePrefixes.{ShowsFault, IsBadEscape}
use Rattle.tcltext.proofs.script.Firm.{Firm, no_byte, firm_before, firm_some, does_begin-firm, gap-any, command-firm}
use Rattle.tcltext.proofs.script.Firm.{word-firm, parts-firm, part-firm, parts_end-firm}

-- behind what closes, or behind a backslash
pub data Kind : Type 0 where
  joined : Kind
  escape : Kind

abbrev pub mark : Kind → ℕ → Fault
mark joined n = JoinedToClose n
mark escape n = BadCharacter n

-- what is kept at the mark, before the rest of the text and before another one, where it offends too
abbrev pub Kept : Kind → Text → Text → Text → Type 0
Kept joined keep s t = (keep ≢ []) × ((nested : Bool) → word_ends nested (keep ++ s) ≡ word_ends nested (keep ++ t))
Kept escape keep s t = (b : ℕ) × (e : Text) × (keep ≡ 92 ∷ (b ∷ e)) × (after_backslash (b ∷ (e ++ t)) ≡ None)

abbrev pub Base : Kind → Text → Type 0
Base joined before = 2 ≤ length before
Base escape before = Unit {0}

pub long_firm : (p : Text) → 2 ≤ length p → Firm p
long_firm [] h = absurd (omega arith)
long_firm (b ∷ []) h = absurd (omega arith)
long_firm (b ∷ (c ∷ p)) h = tt

kept_firm : (kind : Kind) (before keep s t : Text) → Base kind before → Kept kind keep s t → Firm (before ++ keep)
kept_firm joined before keep s t h k = long_firm (before ++ keep) (omega (arith, length-append before keep))
kept_firm escape before keep s t h k = firm_before before keep (long_firm keep (omega (arith, ap length k.2)))

base_before : (kind : Kind) (x before : Text) → Base kind before → Base kind (x ++ before)
base_before joined x before h = omega (arith, length-append x before)
base_before escape x before h = tt

-- A text is cut at the mark; with another text behind what is kept there, it has the fault at the same place.
pub record Moves (kind : Kind) (Faulty : Text → Fault → Type 0) (bs : Text) (remaining : ℕ) : Type 0 where
  pub before : Text
  pub rest : Text
  pub whole : bs ≡ before ++ rest
  pub long : length rest ≡ remaining
  pub base : Base kind before
  pub moves : (keep s t : Text) → rest ≡ keep ++ s → Kept kind keep s t → Faulty (before ++ (keep ++ t)) (mark kind (length (keep ++ t)))

moves_before : (kind : Kind) (One Two : Text → Fault → Type 0) (x bs : Text) (remaining : ℕ) → ((p s t : Text) (f : Fault) → Firm p → bs ≡ p ++ s → One (p ++ t) f → Two (x ++ (p ++ t)) f)
    → Moves kind One bs remaining → Moves kind Two (x ++ bs) remaining
moves_before kind One Two x bs remaining step m = record {
  before = x ++ m.before;
  rest = m.rest;
  whole = ap (λ ys. x ++ ys) m.whole ∙ sym (append_assoc x m.before m.rest);
  long = m.long;
  base = base_before kind x m.before m.base;
  moves = λ keep s t e k.
      let f = mark kind (length (keep ++ t)) in
      let regrouped : (m.before ++ keep) ++ t ≡ m.before ++ (keep ++ t) = append_assoc m.before keep t in
      let same : bs ≡ (m.before ++ keep) ++ s = m.whole ∙ ap (λ ys. m.before ++ ys) e ∙ sym (append_assoc m.before keep s) in
      let one : One ((m.before ++ keep) ++ t) f = subst (λ ys. One ys f) (sym regrouped) (m.moves keep s t e k) in
      subst (λ ys. Two ys f) (ap (λ ys. x ++ ys) regrouped ∙ sym (append_assoc x m.before (keep ++ t))) (step (m.before ++ keep) s t f (kept_firm kind m.before keep s t m.base k) same one);
}

moves_same : (kind : Kind) (One Two : Text → Fault → Type 0) (bs : Text) (remaining : ℕ)
    → ((p s t : Text) (f : Fault) → Firm p → bs ≡ p ++ s → One (p ++ t) f → Two (p ++ t) f)
    → Moves kind One bs remaining → Moves kind Two bs remaining
moves_same kind One Two bs remaining step m = moves_before kind One Two [] bs remaining step m

-- Two cuts of a text that leave as much are one

pub same_cut : (a b c d : Text) → a ++ b ≡ c ++ d → length b ≡ length d → (a ≡ c) × (b ≡ d)
same_cut [] b [] d h k = (refl, h)
same_cut [] b (x ∷ c) d h k = absurd (omega (arith, ap length h, length-append c d))
same_cut (x ∷ a) b [] d h k = absurd (omega (arith, ap length h, length-append a b))
same_cut (x ∷ a) b (y ∷ c) d h k =
    let e : x ≡ y = cc in
    let r : a ++ b ≡ c ++ d = cc in
    let m = same_cut a b c d r k in
    (ap₂ (λ (x : ℕ) (xs : Text). x ∷ xs) e m.0, m.1)

-- a word that doesn't expand stays one
still_plain : (kind : Kind) (d : ℕ) (nested : Bool) (bs before rest keep s t : Text) → (Expands nested bs → ⊥) → bs ≡ before ++ rest → rest ≡ keep ++ s → Kept kind keep s t
    → UnexpandedWordFault d nested (before ++ (keep ++ t)) (mark kind (length (keep ++ t))) → Expands nested (before ++ (keep ++ t)) → ⊥
still_plain kind d nested bs before rest keep s t none whole e k h x =
    let read : unexpanded_word_at nested (inner_at d) (before ++ (keep ++ t)) ≡ _ = plain_met d (inner_at d) (inner_exact d) nested h in
    let star = ap (unexpanded_word_at nested (inner_at d)) x.1 ∙ star_joined d (inner_at d) (inner_exact d) nested x.0 x.2 in
    go kind k (err_same {A = Parts × Text} (mark kind (length (keep ++ t))) (JoinedToClose (length x.0)) (sym read ∙ star)) where
      go : (kind : Kind) → Kept kind keep s t → mark kind (length (keep ++ t)) ≡ JoinedToClose (length x.0) → ⊥
      go escape k same = cc
      go joined k same =
          let long : length (keep ++ t) ≡ length x.0 = cc in
          let cut = same_cut before (keep ++ t) (123 ∷ (42 ∷ (125 ∷ []))) x.0 x.1 long in
          none (keep ++ s, whole ∙ ap₂ (λ (a b : Text). a ++ b) cut.0 e, k.1 nested ∙ ap (word_ends nested) cut.1 ∙ x.2)

-- the parts of a quoted word, whatever stands behind its quote
pub parts_before_quote : (ps : Parts) (inside s t : Text) → IsParts InQuotes ps inside (34 ∷ s) → IsParts InQuotes ps inside (34 ∷ t)
parts_before_quote ps inside s t h = parts-firm InQuotes ps inside (34 ∷ []) s t ((λ e. cc), (λ e. cc)) h

goes_on : {d : ℕ} {nested : Bool} {bs : Text} {f : Fault} → UnexpandedWordFault d nested bs f → word_ends nested bs ≡ false
goes_on = plain_fault_goes_on

-- faults of other kinds

abbrev pub IsOther : Fault → Type 0
IsOther (OpenBrace remaining) = Unit {0}
IsOther (OpenQuote remaining) = Unit {0}
IsOther (OpenBracket remaining) = Unit {0}
IsOther (JoinedToClose remaining) = ⊥
IsOther TooDeep = Unit {0}
IsOther (BadCharacter remaining) = ⊥
IsOther (BadExpression remaining) = Unit {0}

pub not_other : (kind : Kind) (remaining : ℕ) → IsOther (mark kind remaining) → ⊥
not_other joined remaining h = h
not_other escape remaining h = h

other : {Faulty : Text → Fault → Type 0} {bs : Text} (kind : Kind) (f : Fault) (remaining : ℕ) → f ≡ mark kind remaining → IsOther f → Moves kind Faulty bs remaining
other kind f remaining e h = absurd (not_other kind remaining (subst IsOther e h))

-- one step

first_command_moves : (kind : Kind) (d : ℕ) (nested : Bool) (gap body : Text) (remaining : ℕ) → IsGap gap body
    → DoesBegin (λ b. not (b == hash)) body → Moves kind (CommandFault d nested) body remaining
    → Moves kind (CommandsFault d nested) (gap ++ body) remaining
first_command_moves kind d nested gap body remaining h free m =
    moves_before kind (CommandFault d nested) (CommandsFault d nested) gap body remaining
    (λ p s t f firm same l. faults.CommandsFault.first_command gap
    (gap-any h (subst (λ ys. ys ≢ []) (sym same) (firm_some p s firm)) (p ++ t))
    (does_begin-firm (λ b. not (b == hash)) p s t firm
    (subst (λ ys. DoesBegin (λ b. not (b == hash)) ys) same free)) l) m

later_command_moves : (kind : Kind) (d : ℕ) (nested : Bool) (gap source body : Text) (ws : Words) (rest : Text)
    (remaining : ℕ) → IsGap gap (body ++ rest) → DoesBegin (λ b. not (b == hash)) body
    → IsCommand nested source ws body rest
    → words_nesting ws ≤ d → Moves kind (CommandsFault d nested) rest remaining → Moves kind (CommandsFault d nested) (gap ++ (body ++ rest)) remaining
later_command_moves kind d nested gap source body ws rest remaining h free k deep m =
    subst (λ ys. Moves kind (CommandsFault d nested) ys remaining) (append_assoc gap body rest)
    (moves_before kind (CommandsFault d nested) (CommandsFault d nested) (gap ++ body) rest remaining
    (λ p s t f firm same l.
    subst (λ ys. CommandsFault d nested ys f) (sym (append_assoc gap body (p ++ t)))
    (faults.CommandsFault.later_command gap source body ws
    (gap-any h (subst (λ ys. ys ≢ []) (append_assoc body p s ∙ ap (λ ys. body ++ ys) (sym same)) (firm_some (body ++ p) s (firm_before body p firm))) (body ++ (p ++ t)))
    free (command-firm nested source ws body p s t firm (subst (λ ys. IsCommand nested source ws body ys) same k)) deep l))
    m)

later_word_moves : (kind : Kind) (d : ℕ) (nested : Bool) (body : Text) (w : Word) (rest : Text) (remaining : ℕ)
    → IsWord nested w body rest → word_nesting w ≤ d → Moves kind (WordsFault d nested) rest remaining
    → Moves kind (CommandFault d nested) (body ++ rest) remaining
later_word_moves kind d nested body w rest remaining h deep m =
    moves_before kind (WordsFault d nested) (CommandFault d nested) body rest remaining
    (λ p s t f firm same l. faults.CommandFault.later_word body w (word-firm nested w body p s t firm (subst (λ ys. IsWord nested w body ys) same h)) deep l) m

word_after_moves : (kind : Kind) (d : ℕ) (nested : Bool) (blanks body : Text) (w : Word) (rest : Text) (remaining : ℕ)
    → IsBlanks blanks → IsWord nested w body rest → word_nesting w ≤ d → Moves kind (WordsFault d nested) rest remaining
    → Moves kind (WordsFault d nested) (blanks ++ (body ++ rest)) remaining
word_after_moves kind d nested blanks body w rest remaining h k deep m =
    subst (λ ys. Moves kind (WordsFault d nested) ys remaining) (append_assoc blanks body rest)
    (moves_before kind (WordsFault d nested) (WordsFault d nested) (blanks ++ body) rest remaining
    (λ p s t f firm same l.
    subst (λ ys. WordsFault d nested ys f) (sym (append_assoc blanks body (p ++ t)))
    (faults.WordsFault.word_after blanks body w h (word-firm nested w body p s t firm (subst (λ ys. IsWord nested w body ys) same k)) deep l))
    m)

word_moves : (kind : Kind) (d : ℕ) (nested : Bool) (bs : Text) (remaining : ℕ) → (Expands nested bs → ⊥)
    → Moves kind (UnexpandedWordFault d nested) bs remaining → Moves kind (WordFault d nested) bs remaining
word_moves kind d nested bs remaining none m = record {
  before = m.before;
  rest = m.rest;
  whole = m.whole;
  long = m.long;
  base = m.base;
  moves = λ keep s t r k. (let l = m.moves keep s t r k in faults.WordFault.not_expanding (still_plain kind d nested bs m.before m.rest keep s t none m.whole r k l) l);
}

brace_moves : (kind : Kind) (d : ℕ) (nested : Bool) (inside rest : Text) (remaining : ℕ) → Balanced inside
    → word_ends nested rest ≡ false → JoinedToClose (length rest) ≡ mark kind remaining
    → Moves kind (UnexpandedWordFault d nested) (123 ∷ (inside ++ 125 ∷ rest)) remaining
brace_moves escape d nested inside rest remaining h k e = absurd (apart e) where
  apart : JoinedToClose (length rest) ≡ BadCharacter remaining → ⊥
  apart e = cc
brace_moves joined d nested inside rest remaining h k e = record {
  before = 123 ∷ (inside ++ 125 ∷ []);
  rest = rest;
  whole = ap (λ ys. 123 ∷ ys) (sym (append_assoc inside (125 ∷ []) rest));
  long = (let same : length rest ≡ remaining = cc in same);
  base = omega (arith, length-append inside (125 ∷ []));
  moves = λ keep s t r x.
      subst (λ ys. UnexpandedWordFault d nested (123 ∷ ys) (JoinedToClose (length (keep ++ t)))) (sym (append_assoc inside (125 ∷ []) (keep ++ t)))
      (faults.UnexpandedWordFault.joined_brace inside (keep ++ t) h (sym (x.1 nested) ∙ ap (word_ends nested) (sym r) ∙ k));
}

quote_moves : (kind : Kind) (d : ℕ) (nested : Bool) (inside rest : Text) (ps : Parts) (remaining : ℕ)
    → IsParts InQuotes ps inside (34 ∷ rest) → parts_nesting ps ≤ d → word_ends nested rest ≡ false
    → JoinedToClose (length rest) ≡ mark kind remaining
    → Moves kind (UnexpandedWordFault d nested) (34 ∷ (inside ++ 34 ∷ rest)) remaining
quote_moves escape d nested inside rest ps remaining h deep k e = absurd (apart e) where
  apart : JoinedToClose (length rest) ≡ BadCharacter remaining → ⊥
  apart e = cc
quote_moves joined d nested inside rest ps remaining h deep k e = record {
  before = 34 ∷ (inside ++ 34 ∷ []);
  rest = rest;
  whole = ap (λ ys. 34 ∷ ys) (sym (append_assoc inside (34 ∷ []) rest));
  long = (let same : length rest ≡ remaining = cc in same);
  base = omega (arith, length-append inside (34 ∷ []));
  moves = λ keep s t r x.
      subst (λ ys. UnexpandedWordFault d nested (34 ∷ ys) (JoinedToClose (length (keep ++ t)))) (sym (append_assoc inside (34 ∷ []) (keep ++ t)))
      (faults.UnexpandedWordFault.joined_quote inside (keep ++ t) ps (parts_before_quote ps inside rest (keep ++ t) h) deep (sym (x.1 nested) ∙ ap (word_ends nested) (sym r) ∙ k));
}

bare_moves : (kind : Kind) (d : ℕ) (nested : Bool) (bs : Text) (remaining : ℕ)
    → DoesBegin (λ b. not (b == 123 || b == 34)) bs → Moves kind (PartsFault d (bare nested)) bs remaining
    → Moves kind (UnexpandedWordFault d nested) bs remaining
bare_moves kind d nested bs remaining h m =
    moves_same kind (PartsFault d (bare nested)) (UnexpandedWordFault d nested) bs remaining
    (λ p s t f firm same l. faults.UnexpandedWordFault.in_bare (does_begin-firm (λ b. not (b == 123 || b == 34)) p s t firm (subst (λ ys. DoesBegin (λ b. not (b == 123 || b == 34)) ys) same h)) l) m

later_part_moves : (kind : Kind) (d : ℕ) (c : Context) (body : Text) (q : Part) (rest : Text) (remaining : ℕ)
    → parts_end c (body ++ rest) ≡ false → IsPart c q body rest → part_nesting q ≤ d
    → Moves kind (PartsFault d c) rest remaining
    → Moves kind (PartsFault d c) (body ++ rest) remaining
later_part_moves kind d c body q rest remaining goes h deep m =
    moves_before kind (PartsFault d c) (PartsFault d c) body rest remaining
    (λ p s t f firm same l.
    faults.PartsFault.later_part body q
    (ap (parts_end c) (sym (append_assoc body p t)) ∙ sym (parts_end-firm c (body ++ p) s t (firm_before body p firm))
    ∙ ap (parts_end c) (append_assoc body p s ∙ ap (λ ys. body ++ ys) (sym same)) ∙ goes)
    (part-firm c q body p s t firm (subst (λ ys. IsPart c q body ys) same h)) deep l)
    m

escape_moves : (kind : Kind) (d : ℕ) (bs : Text) (remaining : ℕ) → BadCharacter (suc (length bs)) ≡ mark kind remaining → Moves kind (PartFault d) (92 ∷ bs) remaining
escape_moves joined d bs remaining e = absurd (apart e) where
  apart : BadCharacter (suc (length bs)) ≡ JoinedToClose remaining → ⊥
  apart e = cc
escape_moves escape d bs remaining e = record {
  before = [];
  rest = 92 ∷ bs;
  whole = refl;
  long = (let same : suc (length bs) ≡ remaining = cc in same);
  base = tt;
  moves = λ keep s t r k. subst (λ ys. PartFault d (ys ++ t) (BadCharacter (length (ys ++ t)))) (sym k.2) (faults.PartFault.bad_character (λ x. cc) k.3);
}

index_moves : (kind : Kind) (d : ℕ) (name bs : Text) (remaining : ℕ) → IsName name → Moves kind (PartsFault d InIndex) bs remaining → Moves kind (PartFault (suc d)) (36 ∷ (name ++ 40 ∷ bs)) remaining
index_moves kind d name bs remaining h m =
    subst (λ ys. Moves kind (PartFault (suc d)) (36 ∷ ys) remaining) (append_assoc name (40 ∷ []) bs)
    (moves_before kind (PartsFault d InIndex) (PartFault (suc d)) (36 ∷ (name ++ 40 ∷ [])) bs remaining
    (λ p s t f firm same l. subst (λ ys. PartFault (suc d) (36 ∷ ys) f) (sym (append_assoc name (40 ∷ []) (p ++ t))) (faults.PartFault.in_index name (p ++ t) h l)) m)

open_index_moves : (kind : Kind) (d : ℕ) (name bs : Text) (remaining : ℕ) → BadCharacter (suc (length bs)) ≡ mark kind remaining → Moves kind (PartFault d) (36 ∷ (name ++ 40 ∷ bs)) remaining
open_index_moves joined d name bs remaining e = absurd (apart e) where
  apart : BadCharacter (suc (length bs)) ≡ JoinedToClose remaining → ⊥
  apart e = cc
open_index_moves escape d name bs remaining e = record {
  before = 36 ∷ name;
  rest = 40 ∷ bs;
  whole = refl;
  long = (let same : suc (length bs) ≡ remaining = cc in same);
  base = tt;
  moves = λ keep s t r x. absurd (apart keep s x.0 x.1 r x.2);
} where
  apart : (keep s : Text) (b : ℕ) (xs : Text) → 40 ∷ bs ≡ keep ++ s → keep ≡ 92 ∷ (b ∷ xs) → ⊥
  apart keep s b xs h k = differ (h ∙ ap (λ ys. ys ++ s) k) where
    differ : 40 ∷ bs ≡ 92 ∷ (b ∷ (xs ++ s)) → ⊥
    differ h = cc

mutual
  pub commands_move : (kind : Kind) {d : ℕ} {nested : Bool} {bs : Text} {f : Fault} → CommandsFault d nested bs f
      → (remaining : ℕ) → f ≡ mark kind remaining → Moves kind (CommandsFault d nested) bs remaining
  commands_move kind (faults.CommandsFault.first_command {d} {nested} gap {body} h free k) remaining e = first_command_moves kind d nested gap body remaining h free (command_move kind k remaining e)
  commands_move kind (faults.CommandsFault.later_command {d} {nested} gap source body ws {rest} h free k deep l)
      remaining e = later_command_moves kind d nested gap source body ws rest remaining h free k deep
      (commands_move kind l remaining e)

  command_move : (kind : Kind) {d : ℕ} {nested : Bool} {bs : Text} {f : Fault} → CommandFault d nested bs f
      → (remaining : ℕ) → f ≡ mark kind remaining → Moves kind (CommandFault d nested) bs remaining
  command_move kind (faults.CommandFault.first_word {d} {nested} {bs} h) remaining e = moves_same kind
      (WordFault d nested) (CommandFault d nested) bs remaining
      (λ p s t f firm same l. faults.CommandFault.first_word l) (word_move kind h remaining e)
  command_move kind (faults.CommandFault.later_word {d} {nested} body w {rest} h deep k) remaining e = later_word_moves kind d nested body w rest remaining h deep (words_move kind k remaining e)

  words_move : (kind : Kind) {d : ℕ} {nested : Bool} {bs : Text} {f : Fault} → WordsFault d nested bs f → (remaining : ℕ) → f ≡ mark kind remaining → Moves kind (WordsFault d nested) bs remaining
  words_move kind (faults.WordsFault.next_word {d} {nested} blanks {body} h k) remaining e =
      moves_before kind (WordFault d nested) (WordsFault d nested) blanks body remaining (λ p s t f firm same l. faults.WordsFault.next_word blanks h l) (word_move kind k remaining e)
  words_move kind (faults.WordsFault.word_after {d} {nested} blanks body w {rest} h k deep l) remaining e =
      word_after_moves kind d nested blanks body w rest remaining h k deep (words_move kind l remaining e)

  word_move : (kind : Kind) {d : ℕ} {nested : Bool} {bs : Text} {f : Fault} → WordFault d nested bs f → (remaining : ℕ) → f ≡ mark kind remaining → Moves kind (WordFault d nested) bs remaining
  word_move kind (faults.WordFault.not_expanding {d} {nested} {bs} none h) remaining e = word_moves kind d nested bs remaining none (plain_move kind h remaining e)
  word_move kind (faults.WordFault.expanding {d} {nested} {body} h k) remaining e =
      moves_before kind (UnexpandedWordFault d nested) (WordFault d nested) (123 ∷ (42 ∷ (125 ∷ []))) body remaining
      (λ p s t f firm same l. faults.WordFault.expanding (goes_on l) l) (plain_move kind k remaining e)

  plain_move : (kind : Kind) {d : ℕ} {nested : Bool} {bs : Text} {f : Fault} → UnexpandedWordFault d nested bs f
      → (remaining : ℕ) → f ≡ mark kind remaining → Moves kind (UnexpandedWordFault d nested) bs remaining
  plain_move kind (faults.UnexpandedWordFault.open_brace {d} {nested} {bs} h) remaining e = other kind (OpenBrace (suc (length bs))) remaining e tt
  plain_move kind (faults.UnexpandedWordFault.joined_brace {d} {nested} inside rest h k) remaining e = brace_moves kind d nested inside rest remaining h k e
  plain_move kind (faults.UnexpandedWordFault.in_quotes {d} {nested} {bs} h) remaining e = moves_before kind
      (PartsFault d InQuotes) (UnexpandedWordFault d nested) (34 ∷ []) bs remaining
      (λ p s t f firm same l. faults.UnexpandedWordFault.in_quotes l) (parts_move kind h remaining e)
  plain_move kind (faults.UnexpandedWordFault.open_quote {d} {nested} {bs} ps h k) remaining e = other kind (OpenQuote (suc (length bs))) remaining e tt
  plain_move kind (faults.UnexpandedWordFault.joined_quote {d} {nested} inside rest ps h k l) remaining e = quote_moves kind d nested inside rest ps remaining h k l e
  plain_move kind (faults.UnexpandedWordFault.in_bare {d} {nested} {bs} h k) remaining e = bare_moves kind d nested bs remaining h (parts_move kind k remaining e)

  parts_move : (kind : Kind) {d : ℕ} {c : Context} {bs : Text} {f : Fault} → PartsFault d c bs f → (remaining : ℕ) → f ≡ mark kind remaining → Moves kind (PartsFault d c) bs remaining
  parts_move kind (faults.PartsFault.first_part {d} {c} {bs} h) remaining e = moves_same kind (PartFault d)
      (PartsFault d c) bs remaining (λ p s t f firm same l. faults.PartsFault.first_part l)
      (part_move kind h remaining e)
  parts_move kind (faults.PartsFault.later_part {d} {c} body q {rest} goes h deep k) remaining e = later_part_moves kind d c body q rest remaining goes h deep (parts_move kind k remaining e)

  part_move : (kind : Kind) {d : ℕ} {bs : Text} {f : Fault} → PartFault d bs f → (remaining : ℕ) → f ≡ mark kind remaining → Moves kind (PartFault d) bs remaining
  part_move kind (faults.PartFault.open_name {d} {bs} h) remaining e = other kind (OpenBrace (suc (length bs))) remaining e tt
  part_move kind (faults.PartFault.bad_character {d} {bs} some h) remaining e = escape_moves kind d bs remaining e
  part_move kind faults.PartFault.bracket_too_deep remaining e = other kind TooDeep remaining e tt
  part_move kind (faults.PartFault.in_bracket {d} {bs} h) remaining e = moves_before kind (CommandsFault d true)
      (PartFault (suc d)) (91 ∷ []) bs remaining (λ p s t f firm same l. faults.PartFault.in_bracket l)
      (commands_move kind h remaining e)
  part_move kind (faults.PartFault.open_bracket {d} {bs} s h less) remaining e = other kind (OpenBracket (suc (length bs))) remaining e tt
  part_move kind (faults.PartFault.index_too_deep name bs h) remaining e = other kind TooDeep remaining e tt
  part_move kind (faults.PartFault.in_index {d} name bs h k) remaining e = index_moves kind d name bs remaining h (parts_move kind k remaining e)
  part_move kind (faults.PartFault.open_index {d} name bs ps h k less) remaining e = open_index_moves kind (suc d) name bs remaining e

-- what offends behind a brace or quote does so before any text
pub offender_kept : (bad s t : Text) → ShowsFault bad → Kept joined bad s t
offender_kept [] s t h = absurd h
offender_kept (b ∷ []) s t h = ((λ e. cc), λ nested. rw (no_byte b 92 h) refl)
offender_kept (b ∷ (c ∷ bad)) s t h = ((λ e. cc), λ nested. refl)

-- and so does what a backslash begins
pub escape_kept : (bad s t : Text) → IsBadEscape bad → Kept escape (92 ∷ bad) s t
escape_kept [] s t h = absurd (h.0 refl)
escape_kept (b ∷ bad) s t h = (b, bad, refl, h.1 t)
