-- What stands at the end of a text goes on before what closes.
use Rattle.std.proofs.Common.{◌≡◌, ◌≢◌, ℕ, zero, suc, ◌<◌, ◌+◌, [], ◌∷◌, ◌++◌, length, Bool, true, false, not, ◌||◌}
use Rattle.std.proofs.Common.{◌==◌, Option, Some, None, refl, sym, ap, subst, ◌∙◌, arith, append_assoc, append-nil}
use Rattle.std.proofs.Common.{length-append, ◌⊎◌, inl, inr}
use Rattle.std.proofs.lemmas.Bool.Decides.{nat_tests}
use Rattle.tcltext.specs.chars.Runs.{Text, begins}
use Rattle.tcltext.specs.chars.Bytes.{newline, hash, backslash, is_gap, DoesBegin}
use Rattle.tcltext.specs.chars.Braces.{Balanced, brace_step, after_step, with_first, braced_at}
use Rattle.tcltext.proofs.chars.BraceLemmas.{braced_at-cons}
use Rattle.tcltext.proofs.chars.BraceClose.{close_sound}
use Rattle.tcltext.specs.declared.script.context.Context.{Context}
use Rattle.tcltext.specs.declared.script.context.Context.TheVariants.{InScript, InBracket, InIndex, InQuotes}
use Rattle.tcltext.specs.script.Tree as tree
use Rattle.tcltext.specs.script.Tree.{Commands, no_commands, command, Words, no_words, word, Word, word_of, Parts, no_parts}
use Rattle.tcltext.specs.script.Tree.{part, Part, literal, variable, indexed, bracket}
use Rattle.tcltext.specs.chars.Classes.{in_class}
use Rattle.tcltext.specs.script.Ends.{parts_end, class_of}
use Rattle.tcltext.specs.script.Grammar as grammar
use Rattle.tcltext.specs.script.Grammar.{IsLongestName, IsBlanks, IsComment, IsGap, IsLiteral, IsUnexpandedWord, IsCommands}
use Rattle.tcltext.specs.script.Grammar.{IsCommand, IsWords, IsWord, IsParts, IsPart}
use Rattle.tcltext.proofs.script.Names.{longest_before}
use Rattle.tcltext.proofs.script.PartsExact.{part_some, backslash_goes_on}
use Rattle.tcltext.proofs.script.WordsExact.{plain_goes_on, word_some}
use Rattle.tcltext.proofs.script.Firm.{Like, like_before, parts_end-like, commands-like, command-like, word-like, parts-like}
use Rattle.tcltext.proofs.script.Firm.{part-like, gap-any}
use Rattle.tcltext.proofs.script.LastByte.{IsStop, escape_finish}

-- a byte at which parts end
abbrev pub closer : Context → ℕ
closer InScript = 59
closer InBracket = 93
closer InIndex = 41
closer InQuotes = 34

closer_stops : (c : Context) → IsStop (closer c)
closer_stops InScript = record { octal = refl; hexadecimal = refl; blank = refl; continuation = refl }
closer_stops InBracket = record { octal = refl; hexadecimal = refl; blank = refl; continuation = refl }
closer_stops InIndex = record { octal = refl; hexadecimal = refl; blank = refl; continuation = refl }
closer_stops InQuotes = record { octal = refl; hexadecimal = refl; blank = refl; continuation = refl }

closer_ends : (c : Context) (r : Text) → parts_end c (closer c ∷ r) ≡ true
closer_ends InScript r = refl
closer_ends InBracket r = refl
closer_ends InIndex r = refl
closer_ends InQuotes r = refl

like_all : (t s z : Text) → t ≢ [] → begins newline s ≡ false → begins 58 s ≡ false → begins newline z ≡ false → begins 58 z ≡ false → Like t s z
like_all [] s z some a b c d = absurd (some refl)
like_all (x ∷ []) s z some a b c d = (rw (a, c) refl, rw (b, d) refl)
like_all (x ∷ (y ∷ t)) s z some a b c d = tt

closer_like : (c : Context) (t r : Text) → t ≢ [] → Like t [] (closer c ∷ r)
closer_like InScript t r some = like_all t [] (59 ∷ r) some refl refl refl refl
closer_like InBracket t r some = like_all t [] (93 ∷ r) some refl refl refl refl
closer_like InIndex t r some = like_all t [] (41 ∷ r) some refl refl refl refl
closer_like InQuotes t r some = like_all t [] (34 ∷ r) some refl refl refl refl

some_nonempty : (t : Text) → 0 < length t → t ≢ []
some_nonempty [] less = absurd (omega arith)
some_nonempty (b ∷ t) less = λ e. cc

-- more text, with which it is one before what closes
pub record Finished {X : Type 0} (Is : X → Text → Text → Type 0) (k : ℕ) (t : Text) : Type 0 where
  pub more : Text
  pub value : X
  pub like : (r : Text) → t ≢ [] → Like t [] (more ++ k ∷ r)
  pub is : (r : Text) → Is value (t ++ more) (k ∷ r)

-- no more is needed
as_is : {X : Type 0} (Is : X → Text → Text → Type 0) (c : Context) (t : Text) (v : X) → ((r : Text) → Is v t (closer c ∷ r)) → Finished Is (closer c) t
as_is Is c t v h = record { more = []; value = v; like = λ r some. closer_like c t r some; is = λ r. subst (λ ys. Is v ys (closer c ∷ r)) (sym (append-nil t)) (h r) }

-- Parts

abbrev PartHere : Context → Part → Text → Text → Type 0
PartHere c q t r = (parts_end c (t ++ r) ≡ false) × IsPart c q t r

part_as_is : (c : Context) (q : Part) (t : Text) → parts_end c (t ++ []) ≡ false → 0 < length t → ((r : Text) → IsPart c q t (closer c ∷ r)) → Finished (PartHere c) (closer c) t
part_as_is c q t goes some h = as_is (PartHere c) c t q (λ r. (sym (parts_end-like c t [] (closer c ∷ r) (closer_like c t r (some_nonempty t some))) ∙ goes, h r))

literal_finish : (c : Context) (x t : Text) → parts_end c (t ++ []) ≡ false → 0 < length t → t ≡ x → IsLiteral c x [] → Finished (PartHere c) (closer c) t
literal_finish c x t goes some e (inl run) = part_as_is c (literal x) t goes some (λ r. (e, inl (run.0, run.1, no_class c))) where
  no_class : (c : Context) → not (in_class (class_of c) (closer c)) ≡ true
  no_class InScript = refl
  no_class InBracket = refl
  no_class InIndex = refl
  no_class InQuotes = refl
literal_finish c x t goes some e (inr (inl dollar)) = part_as_is c (literal x) t goes some (λ r. (e, inr (inl (dollar.0, no_name c r, no_mark c)))) where
  no_name : (c : Context) (r : Text) → IsLongestName [] (closer c ∷ r)
  no_name InScript r = longest_before [] 59 r refl grammar.IsName.nothing
  no_name InBracket r = longest_before [] 93 r refl grammar.IsName.nothing
  no_name InIndex r = longest_before [] 41 r refl grammar.IsName.nothing
  no_name InQuotes r = longest_before [] 34 r refl grammar.IsName.nothing

  no_mark : (c : Context) → not (closer c == 40 || closer c == 123) ≡ true
  no_mark InScript = refl
  no_mark InBracket = refl
  no_mark InIndex = refl
  no_mark InQuotes = refl
literal_finish c x t goes some e (inr (inr last)) = record {
  more = 97 ∷ [];
  value = tree.backslash (7 ∷ []);
  like = λ r some. like_all t [] (97 ∷ (closer c ∷ r)) some refl refl refl refl;
  is = λ r.
      subst (λ ys. PartHere c (tree.backslash (7 ∷ [])) (ys ++ 97 ∷ []) (closer c ∷ r)) (sym (e ∙ last.0))
      (backslash_goes_on c (97 ∷ (closer c ∷ r)) refl, (97 ∷ [], refl, refl));
}

part_finish : (c : Context) (q : Part) (t : Text) → parts_end c (t ++ []) ≡ false → IsPart c q t [] → Finished (PartHere c) (closer c) t
part_finish c (literal x) t goes h = literal_finish c x t goes (part_some c (literal x) t [] h) h.0 h.1
part_finish c (tree.braced x) t goes h = absurd h
part_finish c (tree.backslash v) t goes h = part_as_is c (tree.backslash v) t goes (part_some c (tree.backslash v) t [] h) (λ r. (h.0, h.1, escape_finish (closer c) (closer_stops c) r h.0 v h.2))
part_finish c (variable name) t goes (inl h) = part_as_is c (variable name) t goes (part_some c (variable name) t [] (inl h)) (λ r. inl (h.0, h.1, no_name c r, no_mark c)) where
  no_name : (c : Context) (r : Text) → IsLongestName name (closer c ∷ r)
  no_name InScript r = longest_before name 59 r refl h.2.0
  no_name InBracket r = longest_before name 93 r refl h.2.0
  no_name InIndex r = longest_before name 41 r refl h.2.0
  no_name InQuotes r = longest_before name 34 r refl h.2.0

  no_mark : (c : Context) → not (closer c == 40) ≡ true
  no_mark InScript = refl
  no_mark InBracket = refl
  no_mark InIndex = refl
  no_mark InQuotes = refl
part_finish c (variable name) t goes (inr h) = part_as_is c (variable name) t goes (part_some c (variable name) t [] (inr h)) (λ r. inr h)
part_finish c (indexed name ps) t goes h =
    part_as_is c (indexed name ps) t goes (part_some c (indexed name ps) t [] h) (λ r. (h.0, h.1, h.2, parts-like InIndex ps h.0 (41 ∷ []) [] (closer c ∷ r) (refl, refl) h.3))
part_finish c (bracket s) t goes h = part_as_is c (bracket s) t goes (part_some c (bracket s) t [] h)
    (λ r. (h.0, h.1, commands-like (length h.0) true s h.0 (93 ∷ []) [] (closer c ∷ r) (refl, refl) h.2))

no_front : (x y : Text) → [] ≡ x ++ y → x ≡ []
no_front [] y h = refl
no_front (b ∷ x) y h = cc

none_parts : (c : Context) (ps : Parts) (r : Text) → IsParts c ps [] r → ps ≡ no_parts
none_parts c no_parts r h = refl
none_parts c (part q ps) r h = absurd (some_nonempty h.first (part_some c q h.first (h.second ++ r) h.is_first.1) (no_front h.first h.second h.whole))

-- whether a text is empty
empty_or : (t : Text) → (t ≡ []) ⊎ (t ≢ [])
empty_or [] = inl refl
empty_or (b ∷ t) = inr (λ e. cc)

pub parts_finish : (c : Context) (ps : Parts) (t : Text) → IsParts c ps t [] → Finished (λ ps t r. IsParts c ps t r) (closer c) t
parts_finish c no_parts t h = as_is (λ ps t r. IsParts c ps t r) c t no_parts (λ r. (h.0, closer_ends c r))
parts_finish c (part q ps) t h = go h (parts_finish c ps h.second h.is_second) (empty_or h.second) where
  go : (h : IsParts c (part q ps) t []) → Finished (λ ps t r. IsParts c ps t r) (closer c) h.second → (h.second ≡ []) ⊎ (h.second ≢ []) → Finished (λ ps t r. IsParts c ps t r) (closer c) t
  go h m (inl none) =
      let body = h.first in
      let goes : parts_end c (body ++ []) ≡ false = ap (λ ys. parts_end c (body ++ (ys ++ []))) (sym none) ∙ h.is_first.0 in
      let f = part_finish c q body goes (subst (λ ys. IsPart c q body (ys ++ [])) none h.is_first.1) in
      let same : t ≡ body = h.whole ∙ ap (λ ys. body ++ ys) none ∙ append-nil body in
      record {
        more = f.more;
        value = part f.value no_parts;
        like = λ r some. subst (λ ys. Like ys [] (f.more ++ closer c ∷ r)) (sym same) (f.like r (subst (λ ys. ys ≢ []) same some));
        is = λ r. record { first = body ++ f.more; second = []; whole = ap (λ ys. ys ++ f.more) same ∙ sym (append-nil (body ++ f.more)); is_first = f.is r; is_second = (refl, closer_ends c r) };
      }
  go h m (inr some) =
      let body = h.first in
      let rest = h.second in
      record {
        more = m.more;
        value = part q m.value;
        like = λ r _. subst (λ ys. Like ys [] (m.more ++ closer c ∷ r)) (sym h.whole) (like_before body rest [] (m.more ++ closer c ∷ r) (m.like r some));
        is = λ r.
            let z = m.more ++ closer c ∷ r in
            let l = m.like r some in
            record {
              first = body;
              second = rest ++ m.more;
              whole = ap (λ ys. ys ++ m.more) h.whole ∙ append_assoc body rest m.more;
              is_first = (
                ap (λ ys. parts_end c (body ++ ys)) (append_assoc rest m.more (closer c ∷ r)) ∙ ap (parts_end c) (sym (append_assoc body rest z))
                    ∙ sym (parts_end-like c (body ++ rest) [] z (like_before body rest [] z l)) ∙ ap (parts_end c) (append_assoc body rest []) ∙ h.is_first.0,
                subst (λ ys. IsPart c q body ys) (sym (append_assoc rest m.more (closer c ∷ r))) (part-like c q body rest [] z l h.is_first.1),
              );
              is_second = m.is r;
            };
      }

-- Words in brackets

abbrev PlainHere : Parts → Text → Text → Type 0
PlainHere ps t r = IsUnexpandedWord true ps (λ c inside more. IsParts c ps inside more) t r

still_begins : (p : ℕ → Bool) (t more : Text) → DoesBegin p t → DoesBegin p (t ++ more)
still_begins p [] more h = absurd h
still_begins p (b ∷ t) more h = h

plain_finish : (ps : Parts) (t : Text) → PlainHere ps t [] → Finished PlainHere 93 t
plain_finish ps t (e, inl h) = as_is PlainHere InBracket t ps (λ r. (refl, inl h))
plain_finish ps t (e, inr (inl h)) = as_is PlainHere InBracket t ps (λ r. (refl, inr (inl (h.0, h.1, parts-like InQuotes ps h.0 (34 ∷ []) [] (93 ∷ r) (refl, refl) h.2))))
plain_finish ps t (e, inr (inr h)) =
    let m = parts_finish InBracket ps t h.1 in
    record { more = m.more; value = m.value; like = m.like; is = λ r. (refl, inr (inr (still_begins (λ b. not (b == 123 || b == 34)) t m.more h.0, m.is r))) }

word_finish : (w : Word) (t : Text) → IsWord true w t [] → Finished (λ w t r. IsWord true w t r) 93 t
word_finish (word_of false ps) t h = (let m = plain_finish ps t h in record { more = m.more; value = word_of false m.value; like = m.like; is = m.is })
word_finish (word_of true ps) t h =
    let m = plain_finish ps h.0 h.3 in
    record {
      more = m.more;
      value = word_of true m.value;
      like = λ r some. subst (λ ys. Like ys [] (m.more ++ 93 ∷ r)) (sym h.1) tt;
      is = λ r. (h.0 ++ m.more, ap (λ ys. ys ++ m.more) h.1, plain_goes_on true m.value (h.0 ++ m.more) (93 ∷ r) (m.is r), m.is r);
    }

none_words : (ws : Words) (r : Text) → IsWords true ws [] r → ws ≡ no_words
none_words no_words r h = refl
none_words (word w ws) r h =
    let more : h.second ≡ [] = second_none h.first h.second h.whole in
    absurd (some_nonempty h.is_second.first (word_some true w h.is_second.first (h.is_second.second ++ r)
    h.is_second.is_first) (no_front h.is_second.first h.is_second.second (sym more ∙ h.is_second.whole))) where
      second_none : (x y : Text) → [] ≡ x ++ y → y ≡ []
      second_none [] y h = sym h
      second_none (b ∷ x) y h = cc

words_finish : (ws : Words) (t : Text) → IsWords true ws t [] → Finished (λ ws t r. IsWords true ws t r) 93 t
words_finish no_words t h = as_is (λ ws t r. IsWords true ws t r) InBracket t no_words (λ r. (h.0, refl))
words_finish (word w ws) t h = go h (words_finish ws h.is_second.second h.is_second.is_second) (empty_or h.is_second.second) where
  go : (h : IsWords true (word w ws) t []) → Finished (λ ws t r. IsWords true ws t r) 93 h.is_second.second
      → (h.is_second.second ≡ []) ⊎ (h.is_second.second ≢ []) → Finished (λ ws t r. IsWords true ws t r) 93 t
  go h m (inl none) =
      let body = h.is_second.first in
      let gap = h.first in
      let f = word_finish w body (subst (λ ys. IsWord true w body (ys ++ [])) none h.is_second.is_first) in
      let same : t ≡ gap ++ body = h.whole ∙ ap (λ ys. gap ++ ys) (h.is_second.whole ∙ ap (λ ys. body ++ ys) none ∙ append-nil body) in
      let some = some_nonempty body (word_some true w body (h.is_second.second ++ []) h.is_second.is_first) in
      record {
        more = f.more;
        value = word f.value no_words;
        like = λ r _. subst (λ ys. Like ys [] (f.more ++ 93 ∷ r)) (sym same) (like_before gap body [] (f.more ++ 93 ∷ r) (f.like r some));
        is = λ r.
            record {
              first = gap;
              second = body ++ f.more;
              whole = ap (λ ys. ys ++ f.more) same ∙ append_assoc gap body f.more;
              is_first = h.is_first;
              is_second = record { first = body ++ f.more; second = []; whole = sym (append-nil (body ++ f.more)); is_first = f.is r; is_second = (grammar.IsBlanks.nothing, refl) };
            };
      }
  go h m (inr some) =
      let body = h.is_second.first in
      let gap = h.first in
      let rest = h.is_second.second in
      let same : t ≡ (gap ++ body) ++ rest = h.whole ∙ ap (λ ys. gap ++ ys) h.is_second.whole ∙ sym (append_assoc gap body rest) in
      record {
        more = m.more;
        value = word w m.value;
        like = λ r _. subst (λ ys. Like ys [] (m.more ++ 93 ∷ r)) (sym same) (like_before (gap ++ body) rest [] (m.more ++ 93 ∷ r) (m.like r some));
        is = λ r.
            record {
              first = gap;
              second = body ++ (rest ++ m.more);
              whole = ap (λ ys. ys ++ m.more) same ∙ append_assoc (gap ++ body) rest m.more ∙ append_assoc gap body (rest ++ m.more);
              is_first = h.is_first;
              is_second = record {
                first = body;
                second = rest ++ m.more;
                whole = refl;
                is_first = subst (λ ys. IsWord true w body ys) (sym (append_assoc rest m.more (93 ∷ r))) (word-like true w body rest [] (m.more ++ 93 ∷ r) (m.like r some) h.is_second.is_first);
                is_second = m.is r;
              };
            };
      }

-- Commands in brackets

abbrev CommandHere : Text × Words → Text → Text → Type 0
CommandHere c t r = IsCommand true c.0 c.1 t r

command_finish : (source : Text) (ws : Words) (t : Text) → IsCommand true source ws t [] → Finished CommandHere 93 t
command_finish source no_words t h = absurd h
command_finish source (word w ws) t h = go h (words_finish ws h.0 h.3) (empty_or h.0) where
  go : (h : IsCommand true source (word w ws) t []) → Finished (λ ws t r. IsWords true ws t r) 93 h.0 → (h.0 ≡ []) ⊎ (h.0 ≢ []) → Finished CommandHere 93 t
  go h m (inl none) =
      let f = word_finish w source (subst (λ ys. IsWord true w source (ys ++ [])) none h.2) in
      let same : t ≡ source = h.1 ∙ ap (λ ys. source ++ ys) none ∙ append-nil source in
      record {
        more = f.more;
        value = (source ++ f.more, word f.value no_words);
        like = λ r some. subst (λ ys. Like ys [] (f.more ++ 93 ∷ r)) (sym same) (f.like r (subst (λ ys. ys ≢ []) same some));
        is = λ r. ([], ap (λ ys. ys ++ f.more) same ∙ sym (append-nil (source ++ f.more)), f.is r, (grammar.IsBlanks.nothing, refl));
      }
  go h m (inr some) =
      let rest = h.0 in
      record {
        more = m.more;
        value = (source, word w m.value);
        like = λ r _. subst (λ ys. Like ys [] (m.more ++ 93 ∷ r)) (sym h.1) (like_before source rest [] (m.more ++ 93 ∷ r) (m.like r some));
        is = λ r. (
          rest ++ m.more,
          ap (λ ys. ys ++ m.more) h.1 ∙ append_assoc source rest m.more,
          subst (λ ys. IsWord true w source ys) (sym (append_assoc rest m.more (93 ∷ r))) (word-like true w source rest [] (m.more ++ 93 ∷ r) (m.like r some) h.2),
          m.is r,
        );
      }

-- gaps

comment_append : {x : Text} → IsComment x → {y : Text} → IsComment y → IsComment (x ++ y)
comment_append grammar.IsComment.nothing k = k
comment_append (grammar.IsComment.other a b h) k = grammar.IsComment.other a b (comment_append h k)
comment_append (grammar.IsComment.escaped h) k = grammar.IsComment.escaped (comment_append h k)

-- more text, with which it is a gap before what closes
record GapFinished (t : Text) : Type 0 where
  more : Text
  like : (z : Text) → t ≢ [] → Like t [] z
  is : (r : Text) → IsGap (t ++ more) (93 ∷ r)

plain_like : (b : ℕ) (bs z : Text) → (b == 92) ≡ false → (b == 58) ≡ false → Like (b ∷ bs) [] z
plain_like b [] z h k = (rw h refl, rw k refl)
plain_like b (c ∷ bs) z h k = tt

gap_byte : (b : ℕ) → is_gap b ≡ true → ((b == 92) ≡ false) × ((b == 58) ≡ false)
gap_byte b h = (grind (arith, nat_tests), grind (arith, nat_tests))

gap_finish : {t after : Text} → IsGap t after → GapFinished t
gap_finish grammar.IsGap.nothing = record { more = []; like = λ z some. absurd (some refl); is = λ r. grammar.IsGap.nothing }
gap_finish (grammar.IsGap.space {b} {bs} h k) =
    let m = gap_finish k in
    let byte = gap_byte b h in
    record { more = m.more; like = λ z some. plain_like b bs z byte.0 byte.1; is = λ r. grammar.IsGap.space h (m.is r) }
gap_finish (grammar.IsGap.line {bs} k) = (let m = gap_finish k in record { more = m.more; like = λ z some. tt; is = λ r. grammar.IsGap.line (m.is r) })
gap_finish (grammar.IsGap.comment {inside} {bs} h k) =
    let m = gap_finish k in
    record {
      more = m.more;
      like = λ z some. plain_like hash (inside ++ newline ∷ bs) z refl refl;
      is = λ r. subst (λ ys. IsGap (hash ∷ ys) (93 ∷ r)) (sym (append_assoc inside (newline ∷ bs) m.more)) (grammar.IsGap.comment h (m.is r));
    }
gap_finish (grammar.IsGap.open_comment {inside} h) = record { more = newline ∷ []; like = λ z some. plain_like hash inside z refl refl; is = λ r. grammar.IsGap.comment h grammar.IsGap.nothing }
gap_finish (grammar.IsGap.open_escape {inside} h) = record {
  more = 97 ∷ (newline ∷ []);
  like = λ z some. plain_like hash (inside ++ backslash ∷ []) z refl refl;
  is = λ r.
      subst (λ ys. IsGap (hash ∷ ys) (93 ∷ r)) (append_assoc inside (backslash ∷ (97 ∷ [])) (newline ∷ []) ∙ sym (append_assoc inside (backslash ∷ []) (97 ∷ (newline ∷ []))))
      (grammar.IsGap.comment (comment_append h (grammar.IsComment.escaped grammar.IsComment.nothing)) grammar.IsGap.nothing);
}

none_commands : (size : ℕ) (s : Commands) (r : Text) → IsCommands size true s [] r → s ≡ no_commands
none_commands size no_commands r h = refl
none_commands size (command offset source ws cs) r h =
    let more : h.second ≡ [] = second_none h.first h.second h.whole in
    absurd (begun h.is_second.first (no_front h.is_second.first h.is_second.second (sym more ∙ h.is_second.whole)) h.is_second.is_first.0) where
      second_none : (x y : Text) → [] ≡ x ++ y → y ≡ []
      second_none [] y h = sym h
      second_none (b ∷ x) y h = cc

      begun : (t : Text) → t ≡ [] → DoesBegin (λ b. not (b == hash)) t → ⊥
      begun t e h = subst (DoesBegin (λ b. not (b == hash))) e h

body_some : (p : ℕ → Bool) (t : Text) → DoesBegin p t → t ≢ []
body_some p [] h = absurd h
body_some p (b ∷ t) h = λ e. cc

-- commands behind so many bytes of their script
abbrev pub CommandsFrom : ℕ → Bool → Commands → Text → Text → Type 0
CommandsFrom at nested s t r = (size : ℕ) → size ≡ at + length t → IsCommands size nested s t r

pub commands_finish : (size at : ℕ) (s : Commands) (t : Text) → size ≡ at + length t → IsCommands size true s t [] → Finished (CommandsFrom at true) 93 t
commands_finish size at no_commands t long h = (let m = gap_finish h.0 in record {
  more = m.more;
  value = no_commands;
  like = λ r some. m.like (m.more ++ 93 ∷ r) some;
  is = λ r new e.
      (m.is r, refl);
})
commands_finish size at (command offset source ws cs) t long h =
    go h (commands_finish size (at + (length h.first + length h.is_second.first)) cs h.is_second.second (omega (arith, long, parts_long h)) h.is_second.is_second) (empty_or h.is_second.second) where
      parts_long : (h : IsCommands size true (command offset source ws cs) t []) → length t ≡ length h.first + (length h.is_second.first + length h.is_second.second)
      parts_long h = omega (arith, ap length h.whole, length-append h.first h.second, ap length h.is_second.whole, length-append h.is_second.first h.is_second.second)

      go : (h : IsCommands size true (command offset source ws cs) t [])
          → Finished (CommandsFrom (at + (length h.first + length h.is_second.first)) true) 93 h.is_second.second
          → (h.is_second.second ≡ []) ⊎ (h.is_second.second ≢ [])
          → Finished (CommandsFrom at true) 93 t
      go h m (inl none) =
          let body = h.is_second.first in
          let gap = h.first in
          let free = h.is_second.is_first.0 in
          let f = command_finish source ws body (subst (λ ys. IsCommand true source ws body (ys ++ [])) none h.is_second.is_first.1) in
          let same : t ≡ gap ++ body = h.whole ∙ ap (λ ys. gap ++ ys) (h.is_second.whole ∙ ap (λ ys. body ++ ys) none ∙ append-nil body) in
          let some = body_some (λ b. not (b == hash)) body free in
          let before : h.second ++ [] ≢ [] = subst (λ ys. ys ≢ []) (sym (append-nil h.second ∙ h.is_second.whole ∙ ap (λ ys. body ++ ys) none ∙ append-nil body)) some in
          record {
            more = f.more;
            value = command offset f.value.0 f.value.1 no_commands;
            like = λ r _. subst (λ ys. Like ys [] (f.more ++ 93 ∷ r)) (sym same) (like_before gap body [] (f.more ++ 93 ∷ r) (f.like r some));
            is = λ r new e.
                record {
                  first = gap;
                  second = body ++ f.more;
                  whole = ap (λ ys. ys ++ f.more) same ∙ append_assoc gap body f.more;
                  is_first = (
                    gap-any h.is_first.0 before ((body ++ f.more) ++ 93 ∷ r),
                    omega (arith, e, long, h.is_first.1, ap length h.whole, length-append gap h.second, ap length same, length-append gap body, length-append t f.more, length-append body f.more),
                  );
                  is_second = record {
                    first = body ++ f.more;
                    second = [];
                    whole = sym (append-nil (body ++ f.more));
                    is_first = (still_begins (λ b. not (b == hash)) body f.more free, f.is r);
                    is_second = (grammar.IsGap.nothing, refl);
                  };
                };
          }
      go h m (inr some) =
          let body = h.is_second.first in
          let gap = h.first in
          let rest = h.is_second.second in
          let free = h.is_second.is_first.0 in
          let same : t ≡ (gap ++ body) ++ rest = h.whole ∙ ap (λ ys. gap ++ ys) h.is_second.whole ∙ sym (append_assoc gap body rest) in
          let before : h.second ++ [] ≢ [] = subst (λ ys. ys ≢ []) (sym (append-nil h.second ∙ h.is_second.whole))
          (body_some (λ b. not (b == hash)) (body ++ rest) (still_begins (λ b. not (b == hash)) body rest free)) in
          record {
            more = m.more;
            value = command offset source ws m.value;
            like = λ r _. subst (λ ys. Like ys [] (m.more ++ 93 ∷ r)) (sym same) (like_before (gap ++ body) rest [] (m.more ++ 93 ∷ r) (m.like r some));
            is = λ r new e.
                record {
                  first = gap;
                  second = body ++ (rest ++ m.more);
                  whole = ap (λ ys. ys ++ m.more) same ∙ append_assoc (gap ++ body) rest m.more ∙ append_assoc gap body (rest ++ m.more);
                  is_first = (
                    gap-any h.is_first.0 before ((body ++ (rest ++ m.more)) ++ 93 ∷ r),
                    omega (
                      arith,
                      e,
                      long,
                      h.is_first.1,
                      parts_long h,
                      ap length h.is_second.whole,
                      length-append body
                          rest,
                      length-append t m.more,
                      length-append body (rest ++ m.more),
                      length-append rest m.more,
                    ),
                  );
                  is_second = record {
                    first = body;
                    second = rest ++ m.more;
                    whole = refl;
                    is_first = (
                      free,
                      subst (λ ys. IsCommand true source ws body ys) (sym (append_assoc rest m.more (93 ∷ r)))
                          (command-like true source ws body rest [] (m.more ++ 93 ∷ r) (m.like r some)
                          h.is_second.is_first.1),
                    );
                    is_second = m.is r new (omega (arith, e, parts_long h, length-append t m.more, length-append rest m.more));
                  };
                };
          }

-- Braces

abbrev Found : Type 0
Found = Option (Text × Text)

none_behind : (b : ℕ) (found : Found) → with_first b found ≡ None → found ≡ None
none_behind b None h = refl
none_behind b (Some p) h = cc

-- what closes so many open braces
closing_braces : (d : ℕ) → (more : Text) × (inside : Text) × (braced_at false d more ≡ Some (inside, []))
closing_braces zero = (125 ∷ [], [], braced_at-cons false 0 125 [])
closing_braces (suc d) = (let m = closing_braces d in (125 ∷ m.0, 125 ∷ m.1, braced_at-cons false (suc d) 125 m.0 ∙ ap (with_first 125) m.2))

closing_end : (escaped : Bool) (d : ℕ) → (more : Text) × (inside : Text) × (braced_at escaped d more ≡ Some (inside, []))
closing_end false d = closing_braces d
closing_end true d = (let m = closing_braces d in (97 ∷ m.0, 97 ∷ m.1, braced_at-cons true d 97 m.0 ∙ ap (with_first 97) m.2))

some_none : {A : Type 0} (x : A) → Some x ≡ None → ⊥
some_none x h = cc

-- what closes an open brace behind a text in which none does
closing : (bs : Text) (escaped : Bool) (d : ℕ) → braced_at escaped d bs ≡ None → (more : Text) × (inside : Text) × (braced_at escaped d (bs ++ more) ≡ Some (inside, []))
closing [] escaped d h = closing_end escaped d
closing (b ∷ bs) escaped d h = on_step (brace_step escaped d b) refl (closing bs) where
  on_step : (step : Option (Bool × ℕ)) → brace_step escaped d b ≡ step
      → ((e : Bool) (k : ℕ) → braced_at e k bs ≡ None → (more : Text) × (inside : Text)
      × (braced_at e k (bs ++ more) ≡ Some (inside, [])))
      → (more : Text) × (inside : Text) × (braced_at escaped d (b ∷ (bs ++ more)) ≡ Some (inside, []))
  on_step None e next = absurd (some_none ([], bs) (sym (braced_at-cons escaped d b bs ∙ ap (after_step b bs (λ e d. braced_at e d bs)) e) ∙ h))
  on_step (Some s) e next =
      let none = none_behind b (braced_at s.0 s.1 bs) (sym (braced_at-cons escaped d b bs ∙ ap (after_step b bs (λ e d. braced_at e d bs)) e) ∙ h) in
      let m = next s.0 s.1 none in
      (m.0, b ∷ m.1, braced_at-cons escaped d b (bs ++ m.0) ∙ ap (after_step b (bs ++ m.0) (λ e d. braced_at e d (bs ++ m.0))) e ∙ ap (with_first b) m.2)

-- no brace closes it yet: more text does
pub brace_finish : (bs : Text) → braced_at false 0 bs ≡ None → (more : Text) × (inside : Text) × (bs ++ more ≡ inside ++ 125 ∷ []) × Balanced inside
brace_finish bs h =
    let m = closing bs false 0 h in
    let so = close_sound (bs ++ m.0) false zero m.1 [] m.2 in
    (m.0, m.1, so.0, so.1)
