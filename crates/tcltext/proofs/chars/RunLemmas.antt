-- Runs of bytes at the front of a text.
use Rattle.std.proofs.Common.{◌≡◌, ℕ, zero, suc, ◌+◌, ◌<◌, ◌≤◌, List, [], ◌∷◌, ◌++◌, length, get_or, take, drop, Bool}
use Rattle.std.proofs.Common.{true, false, refl, sym, ap, ◌∙◌, subst, arith, add-one, append_assoc, not, cond, ltb}
use Rattle.std.proofs.Common.{Some, None, unwrap_or}
use borrow.Author.Count.{below_more}
use Rattle.std.specs.List.{prefix_len, position_or_len}
use Rattle.std.proofs.lemmas.List.{drop_more, take_more}
use Rattle.std.proofs.lemmas.List.Sums.{prefix_len-le-length, prefix_len_passes, prefix_len_stops, take_while-cons}
use Rattle.std.proofs.lemmas.Bool.Decides.{nat_tests}
use Rattle.std.specs.Str.{IsUtf8, IsCharBoundary}
use Rattle.std.proofs.lemmas.Str.{IsCharBoundary-start, IsCharBoundary-after_ascii, IsCharBoundary-before_ascii}
use Rattle.std.proofs.lemmas.Str.{IsUtf8-drop}
use Rattle.tcltext.specs.chars.Runs.{take_while, drop_while}
use Rattle.tcltext.specs.chars.Classes.{in_class}
use Rattle.tcltext.specs.declared.chars.runs.Class.{Class}
use Rattle.tcltext.specs.declared.chars.runs.Class.TheVariants.{Blank, Gap, Space, BlankOrTab, Literal, BareScript}
use Rattle.tcltext.specs.declared.chars.runs.Class.TheVariants.{BareBracket, BareIndex, BareQuote, BareElement}
use Rattle.tcltext.specs.declared.chars.runs.Class.TheVariants.{QuotedElement, Name, InBracedName, Unescaped}

pub take_while-cons_true : (p : ℕ → Bool) (b : ℕ) (bs : List ℕ) → p b ≡ true → take_while p (b ∷ bs) ≡ b ∷ take_while p bs
take_while-cons_true p b bs h = rw h refl

pub take_while-cons_false : (p : ℕ → Bool) (b : ℕ) (bs : List ℕ) → p b ≡ false → take_while p (b ∷ bs) ≡ []
take_while-cons_false p b bs h = rw h refl

pub drop_while-cons_true : (p : ℕ → Bool) (b : ℕ) (bs : List ℕ) → p b ≡ true → drop_while p (b ∷ bs) ≡ drop_while p bs
drop_while-cons_true p b bs h = rw h refl

pub drop_while-cons_false : (p : ℕ → Bool) (b : ℕ) (bs : List ℕ) → p b ≡ false → drop_while p (b ∷ bs) ≡ b ∷ bs
drop_while-cons_false p b bs h = rw h refl

pub take_while-nil : (p : ℕ → Bool) → take_while p [] ≡ []
take_while-nil p = refl

pub drop_while-nil : (p : ℕ → Bool) → drop_while p [] ≡ []
drop_while-nil p = refl

-- what was passed so far, and the rest
pub record Passed (p : ℕ → Bool) (bs : List ℕ) (n : ℕ) : Type 0 where
  pub run : take_while p bs ≡ take n bs ++ take_while p (drop n bs)
  pub rest : drop_while p bs ≡ drop_while p (drop n bs)
  pub each : (k : ℕ) → k < n → p (get_or bs k 0) ≡ true

pub passed-none : (p : ℕ → Bool) (bs : List ℕ) → Passed p bs 0
passed-none p bs = record { run = refl; rest = refl; each = λ k h. absurd (omega arith) }

pub passed-more : (p : ℕ → Bool) (bs : List ℕ) (n : ℕ) → n < length bs → p (get_or bs n 0) ≡ true → Passed p bs n → Passed p bs (n + 1)
passed-more p bs n h t s =
    let here = drop_more bs n 0 h in
    let x = get_or bs n 0 in
    let more = drop (n + 1) bs in
    record {
      run =
          s.run ∙ ap (λ ys. take n bs ++ take_while p ys) here ∙ ap (λ ys. take n bs ++ ys) (take_while-cons_true p x more t)
          ∙ sym (ap (λ ys. ys ++ take_while p more) (take_more bs n 0 h) ∙ append_assoc (take n bs) (x ∷ []) (take_while p more));
      rest = s.rest ∙ ap (drop_while p) here ∙ drop_while-cons_true p x more t;
      each = below_more _ _ s.each t;
    }

-- as many bytes pass as stand before the first that does not
not_not : (p : ℕ → Bool) (bs : List ℕ) → position_or_len (λ b. not (p b)) bs ≡ prefix_len p bs
not_not p [] = refl
not_not p (b ∷ bs) = cases (not_not p bs) (p b) refl where
  cases : position_or_len (λ b. not (p b)) bs ≡ prefix_len p bs → (t : Bool) → p b ≡ t → position_or_len (λ b. not (p b)) (b ∷ bs) ≡ prefix_len p (b ∷ bs)
  cases more true e = rw e (ap (λ n. 1 + n) more)
  cases more false e = rw e refl

pub run_end : (p : ℕ → Bool) (bs : List ℕ) → unwrap_or (cond (ltb (position_or_len (λ b. not (p b)) bs) (length bs)) (Some (position_or_len (λ b. not (p b)) bs)) None) (length bs) ≡ prefix_len p bs
run_end p bs = rw (not_not p bs) (cases (ltb (prefix_len p bs) (length bs)) refl) where
  cases : (t : Bool) → ltb (prefix_len p bs) (length bs) ≡ t → unwrap_or (cond (ltb (prefix_len p bs) (length bs)) (Some (prefix_len p bs)) None) (length bs) ≡ prefix_len p bs
  cases true e = rw e refl
  cases false e =
      let le : prefix_len p bs ≤ length bs = prefix_len-le-length p bs in
      rw e (grind (arith, nat_tests))

-- the cut behind the bytes that pass is that of the run
pub take_run : (p : ℕ → Bool) (bs : List ℕ) → take (prefix_len p bs) bs ≡ take_while p bs
take_run p [] = refl
take_run p (b ∷ bs) = take_while-cons p b bs ∙ ap (λ xs. cond (p b) (b ∷ xs) []) (take_run p bs)

pub drop_run : (p : ℕ → Bool) (bs : List ℕ) → drop (prefix_len p bs) bs ≡ drop_while p bs
drop_run p [] = refl
drop_run p (b ∷ bs) = cases (drop_run p bs) (p b) refl where
  cases : drop (prefix_len p bs) bs ≡ drop_while p bs → (t : Bool) → p b ≡ t → drop (prefix_len p (b ∷ bs)) (b ∷ bs) ≡ drop_while p (b ∷ bs)
  cases more true e =
      let next : suc (prefix_len p bs) ≡ 1 + prefix_len p bs = omega arith in
      rw e (subst (λ n. drop n (b ∷ bs) ≡ drop_while p bs) next more)
  cases more false e = rw e refl

-- every class but those of bytes that stand for themselves holds ASCII alone
abbrev pub is_narrow : Class → Bool
is_narrow Blank = true
is_narrow Gap = true
is_narrow Space = true
is_narrow BlankOrTab = true
is_narrow Literal = false
is_narrow BareScript = false
is_narrow BareBracket = false
is_narrow BareIndex = false
is_narrow BareQuote = false
is_narrow BareElement = false
is_narrow QuotedElement = false
is_narrow Name = true
is_narrow InBracedName = false
is_narrow Unescaped = false

narrow_ascii : (class : Class) (b : ℕ) → is_narrow class ≡ true → in_class class b ≡ true → b < 128
narrow_ascii Blank b n h = grind (arith, nat_tests)
narrow_ascii Gap b n h = grind (arith, nat_tests)
narrow_ascii Space b n h = grind (arith, nat_tests)
narrow_ascii BlankOrTab b n h = grind (arith, nat_tests)
narrow_ascii Name b n h = grind (arith, nat_tests)
narrow_ascii Literal b n h = cc
narrow_ascii BareScript b n h = cc
narrow_ascii BareBracket b n h = cc
narrow_ascii BareIndex b n h = cc
narrow_ascii BareQuote b n h = cc
narrow_ascii BareElement b n h = cc
narrow_ascii QuotedElement b n h = cc
narrow_ascii InBracedName b n h = cc
narrow_ascii Unescaped b n h = cc

wide_ascii : (class : Class) (b : ℕ) → is_narrow class ≡ false → in_class class b ≡ false → b < 128
wide_ascii Literal b n h = grind (arith, nat_tests)
wide_ascii BareScript b n h = grind (arith, nat_tests)
wide_ascii BareBracket b n h = grind (arith, nat_tests)
wide_ascii BareIndex b n h = grind (arith, nat_tests)
wide_ascii BareQuote b n h = grind (arith, nat_tests)
wide_ascii BareElement b n h = grind (arith, nat_tests)
wide_ascii QuotedElement b n h = grind (arith, nat_tests)
wide_ascii InBracedName b n h = grind (arith, nat_tests)
wide_ascii Unescaped b n h = grind (arith, nat_tests)
wide_ascii Blank b n h = cc
wide_ascii Gap b n h = cc
wide_ascii Space b n h = cc
wide_ascii BlankOrTab b n h = cc
wide_ascii Name b n h = cc

-- a text may be cut behind a run
pub run_cut : (class : Class) (bs : List ℕ) → IsUtf8 bs → IsCharBoundary bs (prefix_len (in_class class) bs)
run_cut class bs u = cases (is_narrow class) refl _ refl where
  cases : (t : Bool) → is_narrow class ≡ t → (n : ℕ) → n ≡ prefix_len (in_class class) bs → IsCharBoundary bs n
  cases true e zero is = IsCharBoundary-start bs u
  cases true e (suc m) is =
      let within : suc m ≤ length bs = subst (λ n. n ≤ length bs) (sym is) (prefix_len-le-length (in_class class) bs) in
      let passes : in_class class (get_or bs m 0) ≡ true = prefix_len_passes (in_class class) bs m 0 (subst (λ n. m < n) is (omega arith)) in
      subst (IsCharBoundary bs) (add-one m) (IsCharBoundary-after_ascii bs m u (omega arith) (narrow_ascii class _ e passes))
  cases false e n is =
      let stops : n < length bs → in_class class (get_or bs n 0) ≡ false = rw is (prefix_len_stops (in_class class) bs 0) in
      (rw is (prefix_len-le-length (in_class class) bs), λ lt big. let small : get_or bs n 0 < 128 = wide_ascii class _ e (stops lt) in absurd (omega arith))

-- a text that is cut before a mark may be cut after it
pub mark_cut : (bs following : List ℕ) (i mark : ℕ) → IsUtf8 bs → following ≡ drop i bs → i < length bs → get_or bs i 0 ≡ mark → mark < 128 → IsCharBoundary following 1
mark_cut bs following i mark u e lt is small =
    let utf8 : IsUtf8 (drop i bs) = IsUtf8-drop bs i u (IsCharBoundary-before_ascii bs i lt (omega arith)) in
    let here : drop i bs ≡ get_or bs i 0 ∷ drop (i + 1) bs = drop_more bs i 0 lt in
    let first : get_or (drop i bs) 0 0 ≡ mark = ap (λ ys. get_or ys 0 0) here ∙ is in
    rw e (IsCharBoundary-after_ascii (drop i bs) 0 utf8 (rw here (omega arith)) (omega arith))

pub drop_one : (bs : List ℕ) (i : ℕ) → i < length bs → drop 1 (drop i bs) ≡ drop (i + 1) bs
drop_one bs i lt = ap (drop 1) (drop_more bs i 0 lt)
