-- What is passed over: blanks, gaps and names, as the grammar has them.
use Rattle.std.proofs.Common.{◌≡◌, ◌≢◌, ℕ, zero, suc, ◌<◌, [], ◌∷◌, ◌++◌, length, Bool, true, false, ◌||◌, ◌&&◌, ◌==◌}
use Rattle.std.proofs.Common.{Option, Some, None, refl, sym, ap, subst, ◌∙◌, arith, append_assoc, ◌⊎◌, inl, inr}
use Rattle.std.proofs.lemmas.Bool.Decides.{nat_tests}
use Rattle.tcltext.specs.chars.Runs.{Text, begins}
use Rattle.tcltext.specs.chars.Bytes.{newline, hash, backslash, is_blank, is_gap}
use Rattle.tcltext.specs.script.ScanState.{ScanState, Blanks, AwaitsNewline, Gap, Comment, Escaped, step, put_before}
use Rattle.tcltext.specs.script.ScanState.{scan_on, scan, skip_blanks, skip_gap}
use Rattle.tcltext.specs.script.Grammar as grammar
use Rattle.tcltext.specs.script.Grammar.{IsBlanks, IsComment, IsGap}

whole_on : (b : ℕ) (bs : Text) (next : Option ScanState) → ((p : ScanState) → bs ≡ (scan p bs).0 ++ (scan p bs).1)
    → b ∷ bs ≡ (scan_on b bs (λ p. scan p bs) next).0 ++ (scan_on b bs (λ p. scan p bs) next).1
whole_on b bs None all = refl
whole_on b bs (Some p) all = ap (λ xs. b ∷ xs) (all p)

pub pass_whole : (p : ScanState) (bs : Text) → bs ≡ (scan p bs).0 ++ (scan p bs).1
unfolding scan
pass_whole p [] = refl
pass_whole p (b ∷ bs) = whole_on b bs (step p b bs) (λ q. pass_whole q bs)

pub scan-nil : (p : ScanState) → scan p [] ≡ ([], [])
unfolding scan
scan-nil p = refl

pub scan-on : (p q : ScanState) (b : ℕ) (bs : Text) → step p b bs ≡ Some q → scan p (b ∷ bs) ≡ put_before b (scan q bs)
unfolding scan
scan-on p q b bs h = ap (scan_on b bs (λ p. scan p bs)) h

pub scan-stop : (p : ScanState) (b : ℕ) (bs : Text) → step p b bs ≡ None → scan p (b ∷ bs) ≡ ([], b ∷ bs)
unfolding scan
scan-stop p b bs h = ap (scan_on b bs (λ p. scan p bs)) h

-- Blanks

abbrev pub begins_line : ℕ → Text → Bool
begins_line b bs = b == backslash && begins newline bs

pub blank_step : (b : ℕ) (bs : Text) → is_blank b ≡ true → step Blanks b bs ≡ Some Blanks
blank_step b bs h = rw h refl

line_step : (b : ℕ) (bs : Text) → is_blank b ≡ false → begins_line b bs ≡ true → step Blanks b bs ≡ Some AwaitsNewline
line_step b bs h k = rw (h, k) refl

blanks_stop : (b : ℕ) (bs : Text) → is_blank b ≡ false → begins_line b bs ≡ false → step Blanks b bs ≡ None
blanks_stop b bs h k = rw (h, k) refl

-- a byte that no blank begins with, before what follows
abbrev pub NoBlank : Text → Type 0
NoBlank [] = Unit {0}
NoBlank (b ∷ bs) = (is_blank b ≡ false) × (begins_line b bs ≡ false)

abbrev pub BlanksTaken : Text × Text → Type 0
BlanksTaken p = IsBlanks p.0 × NoBlank p.1

abbrev LineTaken : Text × Text → Type 0
LineTaken p = IsBlanks (backslash ∷ p.0) × NoBlank p.1

line_byte : (b : ℕ) (bs : Text) → begins_line b bs ≡ true → (b ≡ backslash) × (begins newline bs ≡ true)
line_byte b bs h = (grind (arith, nat_tests), grind (arith, nat_tests))

joined_taken : (bs : Text) → begins newline bs ≡ true → ((more : Text) → length more < length bs → BlanksTaken (scan Blanks more)) → LineTaken (scan AwaitsNewline bs)
joined_taken [] h all = cc
joined_taken (b ∷ bs) h all =
    let is : b ≡ newline = grind (arith, nat_tests) in
    let k = all bs (omega arith) in
    let e : scan AwaitsNewline (b ∷ bs) ≡ put_before newline (scan Blanks bs) = ap (λ b. scan AwaitsNewline (b ∷ bs)) is ∙ scan-on AwaitsNewline Blanks newline bs refl in
    subst LineTaken (sym e) (grammar.IsBlanks.line k.0, k.1)

blanks_cases : (b : ℕ) (bs : Text) (t u : Bool) → is_blank b ≡ t → begins_line b bs ≡ u
    → ((more : Text) → length more < length (b ∷ bs) → BlanksTaken (scan Blanks more))
    → BlanksTaken (scan Blanks (b ∷ bs))
blanks_cases b bs true u h k all =
    let m = all bs (omega arith) in
    subst BlanksTaken (sym (scan-on Blanks Blanks b bs (blank_step b bs h))) (grammar.IsBlanks.blank h m.0, m.1)
blanks_cases b bs false true h k all =
    let is = line_byte b bs k in
    let m = joined_taken bs is.1 (λ more less. all more (omega arith)) in
    subst BlanksTaken (sym (scan-on Blanks AwaitsNewline b bs (line_step b bs h k))) (rw (is.0) m.0, m.1)
blanks_cases b bs false false h k all = subst BlanksTaken (sym (scan-stop Blanks b bs (blanks_stop b bs h k))) (grammar.IsBlanks.nothing, (h, k))

blanks_below : (n : ℕ) (bs : Text) → length bs < n → BlanksTaken (scan Blanks bs)
blanks_below zero bs less = absurd (omega arith)
blanks_below (suc n) [] less = subst BlanksTaken (sym (scan-nil Blanks)) (grammar.IsBlanks.nothing, tt)
blanks_below (suc n) (b ∷ bs) less = blanks_cases b bs (is_blank b) (begins_line b bs) refl refl (λ more shorter. blanks_below n more (omega arith))

-- what is passed over is blanks, and no blank follows
pub blanks_taken : (bs : Text) → BlanksTaken (scan Blanks bs)
blanks_taken bs = blanks_below (suc (length bs)) bs (omega arith)

-- blanks are passed over
pub blanks_over : {gap : Text} → IsBlanks gap → (start : Text) → skip_blanks (gap ++ start) ≡ skip_blanks start
blanks_over grammar.IsBlanks.nothing start = refl
blanks_over (grammar.IsBlanks.blank {b} {bs} h k) start = ap (λ p. p.1) (scan-on Blanks Blanks b (bs ++ start) (blank_step b (bs ++ start) h)) ∙ blanks_over k start
blanks_over (grammar.IsBlanks.line {bs} k) start =
    ap (λ p. p.1) (scan-on Blanks AwaitsNewline backslash (newline ∷ (bs ++ start)) refl) ∙ ap (λ p. p.1) (scan-on AwaitsNewline Blanks newline (bs ++ start) refl) ∙ blanks_over k start

pub blanks_stay : (start : Text) → NoBlank start → skip_blanks start ≡ start
blanks_stay [] h = ap (λ p. p.1) (scan-nil Blanks)
blanks_stay (b ∷ bs) h = ap (λ p. p.1) (scan-stop Blanks b bs (blanks_stop b bs h.0 h.1))

-- Gaps

pub gap_step : (b : ℕ) (bs : Text) → (is_gap b || begins_line b bs) ≡ true → step Gap b bs ≡ Some Gap
gap_step b bs h = rw h refl

hash_step : (b : ℕ) (bs : Text) → (is_gap b || begins_line b bs) ≡ false → (b == hash) ≡ true → step Gap b bs ≡ Some Comment
hash_step b bs h k = rw (h, k) refl

gap_stop : (b : ℕ) (bs : Text) → (is_gap b || begins_line b bs) ≡ false → (b == hash) ≡ false → step Gap b bs ≡ None
gap_stop b bs h k = rw (h, k) refl

pub newline_step : (b : ℕ) (bs : Text) → (b == newline) ≡ true → step Comment b bs ≡ Some Gap
newline_step b bs h = rw h refl

pub escape_step : (b : ℕ) (bs : Text) → (b == newline) ≡ false → (b == backslash) ≡ true → step Comment b bs ≡ Some Escaped
escape_step b bs h k = rw (h, k) refl

pub comment_step : (b : ℕ) (bs : Text) → (b == newline) ≡ false → (b == backslash) ≡ false → step Comment b bs ≡ Some Comment
comment_step b bs h k = rw (h, k) refl

-- what no gap begins with, before what follows
abbrev pub NoGap : Text → Type 0
NoGap [] = Unit {0}
NoGap (b ∷ bs) = ((is_gap b || begins_line b bs) ≡ false) × ((b == hash) ≡ false)

-- what is left of a comment and of the gap behind it
data InComment : Text → Text → Type 0 where
  after_closing : (inside bs : Text) {after : Text} → IsComment inside → IsGap bs after → InComment (inside ++ newline ∷ bs) after
  opened : {inside : Text} → IsComment inside → InComment inside []
  escape : (inside : Text) → IsComment inside → InComment (inside ++ backslash ∷ []) []

from_hash : {bs after : Text} → InComment bs after → IsGap (hash ∷ bs) after
from_hash (after_closing inside bs h k) = grammar.IsGap.comment h k
from_hash (opened h) = grammar.IsGap.open_comment h
from_hash (escape inside h) = grammar.IsGap.open_escape h

comment_more : (b : ℕ) {bs after : Text} → b ≢ backslash → b ≢ newline → InComment bs after → InComment (b ∷ bs) after
comment_more b x y (after_closing inside bs h k) = after_closing (b ∷ inside) bs (grammar.IsComment.other x y h) k
comment_more b x y (opened h) = opened (grammar.IsComment.other x y h)
comment_more b x y (escape inside h) = escape (b ∷ inside) (grammar.IsComment.other x y h)

comment_escaped : (b : ℕ) {bs after : Text} → InComment bs after → InComment (backslash ∷ (b ∷ bs)) after
comment_escaped b (after_closing inside bs h k) = after_closing (backslash ∷ (b ∷ inside)) bs (grammar.IsComment.escaped h) k
comment_escaped b (opened h) = opened (grammar.IsComment.escaped h)
comment_escaped b (escape inside h) = escape (backslash ∷ (b ∷ inside)) (grammar.IsComment.escaped h)

abbrev pub GapTaken : Text × Text → Type 0
GapTaken p = IsGap p.0 p.1 × NoGap p.1

abbrev CommentTaken : Text × Text → Type 0
CommentTaken p = InComment p.0 p.1 × NoGap p.1

abbrev EscapeTaken : Text × Text → Type 0
EscapeTaken p = InComment (backslash ∷ p.0) p.1 × NoGap p.1

pub is_byte : (b c : ℕ) → (b == c) ≡ true → b ≡ c
is_byte b c h = grind (arith, nat_tests)

pub is_no_byte : (b c : ℕ) → (b == c) ≡ false → b ≢ c
is_no_byte b c h = grind (arith, nat_tests)

-- a gap goes on with white space
space_or_line : (b : ℕ) (bs : Text) → (is_gap b || begins_line b bs) ≡ true → (t : Bool) → is_gap b ≡ t → (is_gap b ≡ true) ⊎ (begins_line b bs ≡ true)
space_or_line b bs h true e = inl e
space_or_line b bs h false e = inr (rw e at h)

newline_gap : (bs : Text) → begins newline bs ≡ true → (more : Text) × (bs ≡ newline ∷ more)
newline_gap [] h = cc
newline_gap (b ∷ bs) h = (bs, ap (λ b. b ∷ bs) (is_byte b newline h))

abbrev AllBelow : Text → Type 0
AllBelow bs = (more : Text) → length more < length bs → GapTaken (scan Gap more) × CommentTaken (scan Comment more) × EscapeTaken (scan Escaped more)

line_taken : (b : ℕ) (bs : Text) → begins_line b bs ≡ true → AllBelow (b ∷ bs) → GapTaken (put_before b (scan Gap bs))
line_taken b bs h all =
    let is = line_byte b bs h in
    let more = newline_gap bs is.1 in
    let e : scan Gap bs ≡ put_before newline (scan Gap more.0) = ap (scan Gap) more.1 ∙ scan-on Gap Gap newline more.0 refl in
    let k = (all more.0 (omega (arith, ap length more.1))).0 in
    let made : GapTaken (put_before backslash (put_before newline (scan Gap more.0))) = (grammar.IsGap.line k.0, k.1) in
    rw (is.0) (subst (λ p. GapTaken (put_before backslash p)) (sym e) made)

gap_cases : (b : ℕ) (bs : Text) (t u : Bool) → (is_gap b || begins_line b bs) ≡ t → (b == hash) ≡ u → AllBelow (b ∷ bs) → GapTaken (scan Gap (b ∷ bs))
gap_cases b bs true u h k all =
    subst GapTaken (sym (scan-on Gap Gap b bs (gap_step b bs h)))
    (elim (space_or_line b bs h (is_gap b) refl) [
      | inl space ↦ (let m = (all bs (omega arith)).0 in (grammar.IsGap.space space m.0, m.1))
      | inr line ↦ line_taken b bs line all
    ])
gap_cases b bs false true h k all =
    let m = (all bs (omega arith)).1 in
    let made : GapTaken (put_before hash (scan Comment bs)) = (from_hash m.0, m.1) in
    subst GapTaken (sym (scan-on Gap Comment b bs (hash_step b bs h k))) (rw (is_byte b hash k) made)
gap_cases b bs false false h k all = subst GapTaken (sym (scan-stop Gap b bs (gap_stop b bs h k))) (grammar.IsGap.nothing, (h, k))

comment_cases : (b : ℕ) (bs : Text) (t u : Bool) → (b == newline) ≡ t → (b == backslash) ≡ u → AllBelow (b ∷ bs) → CommentTaken (scan Comment (b ∷ bs))
comment_cases b bs true u h k all =
    let m = (all bs (omega arith)).0 in
    let made : CommentTaken (put_before newline (scan Gap bs)) = (after_closing [] (scan Gap bs).0 grammar.IsComment.nothing m.0, m.1) in
    subst CommentTaken (sym (scan-on Comment Gap b bs (newline_step b bs h))) (rw (is_byte b newline h) made)
comment_cases b bs false true h k all =
    let m = (all bs (omega arith)).2 in
    subst CommentTaken (sym (scan-on Comment Escaped b bs (escape_step b bs h k))) (rw (is_byte b backslash k) m)
comment_cases b bs false false h k all =
    let m = (all bs (omega arith)).1 in
    subst CommentTaken (sym (scan-on Comment Comment b bs (comment_step b bs h k))) (comment_more b (is_no_byte b backslash k) (is_no_byte b newline h) m.0, m.1)

escaped_cases : (b : ℕ) (bs : Text) → AllBelow (b ∷ bs) → EscapeTaken (scan Escaped (b ∷ bs))
escaped_cases b bs all =
    let m = (all bs (omega arith)).1 in
    subst EscapeTaken (sym (scan-on Escaped Comment b bs refl)) (comment_escaped b m.0, m.1)

gap_below : (n : ℕ) (bs : Text) → length bs < n → GapTaken (scan Gap bs) × CommentTaken (scan Comment bs) × EscapeTaken (scan Escaped bs)
gap_below zero bs less = absurd (omega arith)
gap_below (suc n) [] less = (
  subst GapTaken (sym (scan-nil Gap)) (grammar.IsGap.nothing, tt),
  subst CommentTaken (sym (scan-nil Comment)) (opened grammar.IsComment.nothing, tt),
  subst EscapeTaken (sym (scan-nil Escaped)) (escape [] grammar.IsComment.nothing, tt),
)
gap_below (suc n) (b ∷ bs) less =
    let all : AllBelow (b ∷ bs) = λ more shorter. gap_below n more (omega arith) in
    (gap_cases b bs (is_gap b || begins_line b bs) (b == hash) refl refl all, comment_cases b bs (b == newline) (b == backslash) refl refl all, escaped_cases b bs all)

-- what is passed over is a gap, and none follows
pub gap_taken : (bs : Text) → GapTaken (scan Gap bs)
gap_taken bs = (gap_below (suc (length bs)) bs (omega arith)).0

no_test : (b c : ℕ) → b ≢ c → (b == c) ≡ false
no_test b c h = grind (arith, nat_tests)

abbrev pub rest_of : ScanState → Text → Text
rest_of p bs = (scan p bs).1

pub rest-on : (p q : ScanState) (b : ℕ) (bs : Text) → step p b bs ≡ Some q → rest_of p (b ∷ bs) ≡ rest_of q bs
rest-on p q b bs h = ap (λ p. p.1) (scan-on p q b bs h)

comment_over : {inside : Text} → IsComment inside → (xs : Text) → rest_of Comment (inside ++ xs) ≡ rest_of Comment xs
comment_over grammar.IsComment.nothing xs = refl
comment_over (grammar.IsComment.other {b} {bs} x y h) xs = rest-on Comment Comment b (bs ++ xs) (comment_step b (bs ++ xs) (no_test b newline y) (no_test b backslash x)) ∙ comment_over h xs
comment_over (grammar.IsComment.escaped {b} {bs} h) xs =
    rest-on Comment Escaped backslash (b ∷ (bs ++ xs)) refl ∙ rest-on Escaped Comment b (bs ++ xs) refl ∙ comment_over h xs

or_left : (a b : Bool) → a ≡ true → (a || b) ≡ true
or_left a b h = rw h refl

-- gaps are passed over
pub gap_over : {bs start : Text} → IsGap bs start → skip_gap (bs ++ start) ≡ skip_gap start
gap_over grammar.IsGap.nothing = refl
gap_over (grammar.IsGap.space {b} {bs} {after} h k) = rest-on Gap Gap b (bs ++ after) (gap_step b (bs ++ after) (or_left (is_gap b) _ h)) ∙ gap_over k
gap_over (grammar.IsGap.line {bs} {after} k) = rest-on Gap Gap backslash (newline ∷ (bs ++ after)) refl ∙ rest-on Gap Gap newline (bs ++ after) refl ∙ gap_over k
gap_over (grammar.IsGap.comment {inside} {bs} {after} h k) =
    rest-on Gap Comment hash ((inside ++ newline ∷ bs) ++ after) refl
    ∙ ap (rest_of Comment) (append_assoc inside (newline ∷ bs) after) ∙ comment_over h (newline ∷ (bs ++ after)) ∙ rest-on Comment Gap newline (bs ++ after) refl ∙ gap_over k
gap_over (grammar.IsGap.open_comment {inside} h) = rest-on Gap Comment hash (inside ++ []) refl ∙ comment_over h [] ∙ ap (λ p. p.1) (scan-nil Comment) ∙ sym (ap (λ p. p.1) (scan-nil Gap))
gap_over (grammar.IsGap.open_escape {inside} h) =
    rest-on Gap Comment hash ((inside ++ backslash ∷ []) ++ []) refl ∙ ap (rest_of Comment) (append_assoc inside (backslash ∷ []) [])
    ∙ comment_over h (backslash ∷ []) ∙ rest-on Comment Escaped backslash [] refl ∙ ap (λ p. p.1) (scan-nil Escaped) ∙ sym (ap (λ p. p.1) (scan-nil Gap))

pub gap_stay : (start : Text) → NoGap start → skip_gap start ≡ start
gap_stay [] h = ap (λ p. p.1) (scan-nil Gap)
gap_stay (b ∷ bs) h = ap (λ p. p.1) (scan-stop Gap b bs (gap_stop b bs h.0 h.1))
