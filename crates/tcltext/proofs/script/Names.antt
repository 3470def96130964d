-- The longest name at the front of a text is what is passed over as one.
use Rattle.std.proofs.Common.{◌≡◌, ℕ, zero, suc, ◌<◌, [], ◌∷◌, ◌++◌, length, Bool, true, false, ◌||◌, ◌&&◌, ◌==◌, Some}
use Rattle.std.proofs.Common.{None, refl, sym, ap, ap₂, subst, ◌∙◌, arith, append_assoc, append-nil, length-append}
use Rattle.std.proofs.lemmas.Bool.Decides.{nat_tests}
use Rattle.tcltext.specs.chars.Runs.{Text, begins}
use Rattle.tcltext.specs.chars.Bytes.{AllPass, colon}
use Rattle.tcltext.specs.chars.Classes.{is_name}
use Rattle.tcltext.specs.script.ScanState.{ScanState, Name, Colons, step, put_before, scan}
use Rattle.tcltext.specs.script.Grammar as grammar
use Rattle.tcltext.specs.script.Grammar.{IsName, IsLongestName, is_colon}
use Rattle.tcltext.proofs.script.PassedOver.{pass_whole, scan-nil, scan-on, scan-stop, is_byte}

-- in a name, or behind one of several colons
abbrev naming : Bool → ScanState
naming false = Name
naming true = Colons

name_step : (colons : Bool) (b : ℕ) (bs : Text) → is_name b ≡ true → step (naming colons) b bs ≡ Some Name
name_step true b bs h = rw h refl
name_step false b bs h = rw h refl

colon_step : (b : ℕ) (bs : Text) → is_name b ≡ false → (b == colon) ≡ true → step Colons b bs ≡ Some Colons
colon_step b bs h k = rw (h, k) refl

colons_step : (b : ℕ) (bs : Text) → is_name b ≡ false → (b == colon && begins colon bs) ≡ true → step Name b bs ≡ Some Colons
colons_step b bs h k = rw (h, k) refl

name_stop : (b : ℕ) (bs : Text) → is_name b ≡ false → (b == colon && begins colon bs) ≡ false → step Name b bs ≡ None
name_stop b bs h k = rw (h, k) refl

colons_stop : (b : ℕ) (bs : Text) → is_name b ≡ false → (b == colon) ≡ false → step Colons b bs ≡ None
colons_stop b bs h k = rw (h, k) refl

-- What is passed over is a name

-- colons, and then a name
record Run (p : Text × Text) (bs : Text) : Type 0 where
  run : Text
  more : Text
  whole : p.0 ≡ run ++ more
  all : AllPass is_colon run
  is : IsName more
  begun : begins colon bs ≡ true → (others : Text) × (run ≡ 58 ∷ others)

abbrev NamesBelow : Text → Type 0
NamesBelow bs = (more : Text) → length more < length bs → IsName (scan Name more).0 × Run (scan Colons more) more

two_colons : (run more : Text) → (others : Text) × (run ≡ 58 ∷ others) → AllPass is_colon run → IsName more → IsName (58 ∷ (run ++ more))
two_colons run more k all is =
    let passed : AllPass is_colon (58 ∷ k.0) = subst (AllPass is_colon) k.1 all in
    rw (k.1) (grammar.IsName.colons k.0 passed.1 is)

both : (b : ℕ) (bs : Text) → (b == colon && begins colon bs) ≡ true → (b ≡ 58) × (begins colon bs ≡ true)
both b bs h = (grind (arith, nat_tests), grind (arith, nat_tests))

name_cases : (b : ℕ) (bs : Text) (t u : Bool) → is_name b ≡ t → (b == colon && begins colon bs) ≡ u → NamesBelow (b ∷ bs) → IsName (scan Name (b ∷ bs)).0
name_cases b bs true u h k all = subst (λ p. IsName p.0) (sym (scan-on Name Name b bs (name_step false b bs h))) (grammar.IsName.letter h (all bs (omega arith)).0)
name_cases b bs false true h k all =
    let is = both b bs k in
    let m = (all bs (omega arith)).1 in
    let made : IsName (58 ∷ (m.run ++ m.more)) = two_colons m.run m.more (m.begun is.1) m.all m.is in
    subst (λ p. IsName p.0) (sym (scan-on Name Colons b bs (colons_step b bs h k))) (rw (is.0, m.whole) made)
name_cases b bs false false h k all = subst (λ p. IsName p.0) (sym (scan-stop Name b bs (name_stop b bs h k))) grammar.IsName.nothing

no_name : (b : ℕ) → is_name b ≡ true → (b == colon) ≡ true → ⊥
no_name b h k = grind (arith, nat_tests)

no_colon : (b : ℕ) → (b == colon) ≡ false → (b == colon) ≡ true → ⊥
no_colon b h k = cc

run_cases : (b : ℕ) (bs : Text) (t u : Bool) → is_name b ≡ t → (b == colon) ≡ u → NamesBelow (b ∷ bs) → Run (scan Colons (b ∷ bs)) (b ∷ bs)
run_cases b bs true u h k all =
    let m = (all bs (omega arith)).0 in
    subst (λ p. Run p (b ∷ bs)) (sym (scan-on Colons Name b bs (name_step true b bs h)))
    (record { run = []; more = b ∷ (scan Name bs).0; whole = refl; all = tt; is = grammar.IsName.letter h m; begun = λ e. absurd (no_name b h e) })
run_cases b bs false true h k all =
    let m = (all bs (omega arith)).1 in
    subst (λ p. Run p (b ∷ bs)) (sym (scan-on Colons Colons b bs (colon_step b bs h k)))
    (record { run = b ∷ m.run; more = m.more; whole = ap (λ xs. b ∷ xs) m.whole; all = (k, m.all); is = m.is; begun = λ e. (m.run, ap (λ x. x ∷ m.run) (is_byte b 58 k)) })
run_cases b bs false false h k all =
    subst (λ p. Run p (b ∷ bs)) (sym (scan-stop Colons b bs (colons_stop b bs h k)))
    (record { run = []; more = []; whole = refl; all = tt; is = grammar.IsName.nothing; begun = λ e. absurd (no_colon b k e) })

false_true : false ≡ true → ⊥
false_true h = cc

names_below : (n : ℕ) (bs : Text) → length bs < n → IsName (scan Name bs).0 × Run (scan Colons bs) bs
names_below zero bs less = absurd (omega arith)
names_below (suc n) [] less = (
  subst (λ p. IsName p.0) (sym (scan-nil Name)) grammar.IsName.nothing,
  subst (λ p. Run p []) (sym (scan-nil Colons)) (record { run = []; more = []; whole = refl; all = tt; is = grammar.IsName.nothing; begun = λ e. absurd (false_true e) }),
)
names_below (suc n) (b ∷ bs) less =
    let all : NamesBelow (b ∷ bs) = λ more shorter. names_below n more (omega arith) in
    (name_cases b bs (is_name b) (b == colon && begins colon bs) refl refl all, run_cases b bs (is_name b) (b == colon) refl refl all)

passed_name : (bs : Text) → IsName (scan Name bs).0
passed_name bs = (names_below (suc (length bs)) bs (omega arith)).0

-- Names are passed over

abbrev before : Text → Text × Text → Text × Text
before name p = (name ++ p.0, p.1)

run_over : (run r : Text) → AllPass is_colon run → scan Colons (run ++ r) ≡ before run (scan Colons r)
run_over [] r h = refl
run_over (b ∷ run) r h = scan-on Colons Colons b (run ++ r) (colon_step b (run ++ r) (not_name b h.0) h.0) ∙ ap (put_before b) (run_over run r h.1) where
  not_name : (b : ℕ) → is_colon b ≡ true → is_name b ≡ false
  not_name b h = grind (arith, nat_tests)

first_colon : (colons : Bool) (bs : Text) → step (naming colons) 58 (58 ∷ bs) ≡ Some Colons
first_colon true bs = refl
first_colon false bs = refl

name_over : {name : Text} → IsName name → (colons : Bool) (r : Text) → (p : ScanState) × (scan (naming colons) (name ++ r) ≡ before name (scan p r))
name_over grammar.IsName.nothing colons r = (naming colons, refl)
name_over (grammar.IsName.letter {b} {bs} h k) colons r =
    let m = name_over k false r in
    (m.0, scan-on (naming colons) Name b (bs ++ r) (name_step colons b (bs ++ r) h) ∙ ap (put_before b) m.1)
name_over (grammar.IsName.colons run {bs} h k) colons r =
    let m = name_over k true r in (
      m.0,
      scan-on (naming colons) Colons 58 (58 ∷ ((run ++ bs) ++ r)) (first_colon colons ((run ++ bs) ++ r))
          ∙ ap (put_before 58) (
          scan-on Colons Colons 58 ((run ++ bs) ++ r) refl
          ∙ ap (put_before 58) (ap (scan Colons) (append_assoc run bs r) ∙ run_over run (bs ++ r) h ∙ ap (before run) m.1 ∙ ap (λ xs. (xs, (scan m.0 r).1)) (sym (append_assoc run bs (scan m.0 r).0)))
          ),
    )

none_more : (xs ys : Text) → xs ≡ xs ++ ys → ys ≡ []
none_more xs [] h = refl
none_more xs (b ∷ ys) h = absurd (omega (arith, ap length h, length-append xs (b ∷ ys)))

append_left : (a b c : Text) → a ++ b ≡ a ++ c → b ≡ c
append_left [] b c h = h
append_left (x ∷ a) b c h = append_left a b c (let e : a ++ b ≡ a ++ c = cc in e)

-- what is passed over is the longest name
pub name_longest : (bs : Text) → IsLongestName (scan Name bs).0 (scan Name bs).1
name_longest bs = (
  passed_name bs,
  λ more rest e is.
      let name = (scan Name bs).0 in
      let whole : bs ≡ (name ++ more) ++ rest = pass_whole Name bs ∙ ap (λ xs. name ++ xs) e ∙ sym (append_assoc name more rest) in
      let m = name_over is false rest in
      let same : name ≡ (name ++ more) ++ (scan m.0 rest).0 = ap (λ xs. (scan Name xs).0) whole ∙ ap (λ p. p.0) m.1 in
      let none : more ++ (scan m.0 rest).0 ≡ [] = none_more name (more ++ (scan m.0 rest).0) (same ∙ append_assoc name more (scan m.0 rest).0) in
      front_none more (scan m.0 rest).0 none,
) where
  front_none : (xs ys : Text) → xs ++ ys ≡ [] → xs ≡ []
  front_none [] ys h = refl
  front_none (x ∷ xs) ys h = cc

-- the longest name is what is passed over
pub name_again : (name after : Text) → IsLongestName name after → scan Name (name ++ after) ≡ (name, after)
name_again name after h =
    let m = name_over h.0 false after in
    let more = (scan m.0 after).0 in
    let is : IsName (name ++ more) = subst (λ p. IsName p.0) m.1 (passed_name (name ++ after)) in
    let none : more ≡ [] = h.1 more (scan m.0 after).1 (pass_whole m.0 after) is in
    let rest : after ≡ (scan m.0 after).1 = pass_whole m.0 after ∙ ap (λ xs. xs ++ (scan m.0 after).1) none in
    m.1 ∙ ap₂ (λ (xs ys : Text). (name ++ xs, ys)) none (sym rest) ∙ ap (λ xs. (xs, after)) (append-nil name)

-- a byte of names
abbrev in_names : ℕ → Bool
in_names b = is_name b || is_colon b

named : (b : ℕ) → is_name b ≡ true → in_names b ≡ true
named b h = rw h refl

colon_named : (b : ℕ) → is_colon b ≡ true → in_names b ≡ true
colon_named b h = grind (arith, nat_tests)

all_append : (p : ℕ → Bool) (xs ys : Text) → AllPass p xs → AllPass p ys → AllPass p (xs ++ ys)
all_append p [] ys h k = k
all_append p (b ∷ xs) ys h k = (h.0, all_append p xs ys h.1 k)

all_weaker : (p q : ℕ → Bool) → ((b : ℕ) → p b ≡ true → q b ≡ true) → (bs : Text) → AllPass p bs → AllPass q bs
all_weaker p q to [] h = tt
all_weaker p q to (b ∷ bs) h = (to b h.0, all_weaker p q to bs h.1)

all_right : (p : ℕ → Bool) (xs ys : Text) → AllPass p (xs ++ ys) → AllPass p ys
all_right p [] ys h = h
all_right p (b ∷ xs) ys h = all_right p xs ys h.1

all_named : {name : Text} → IsName name → AllPass in_names name
all_named grammar.IsName.nothing = tt
all_named (grammar.IsName.letter {b} h k) = (named b h, all_named k)
all_named (grammar.IsName.colons run {bs} h k) = (refl, (refl, all_append in_names run bs (all_weaker is_colon in_names colon_named run h) (all_named k)))

-- a name is the longest before a byte of no name
pub longest_before : (name : Text) (b : ℕ) (after : Text) → in_names b ≡ false → IsName name → IsLongestName name (b ∷ after)
longest_before name b after h is = (is, λ more rest e k. stops more rest e (all_right in_names name more (all_named k))) where
  stops : (more rest : Text) → b ∷ after ≡ more ++ rest → AllPass in_names more → more ≡ []
  stops [] rest e k = refl
  stops (c ∷ more) rest e k =
      let same : c ≡ b = cc in
      let no : true ≡ false = sym k.0 ∙ ap in_names same ∙ h in
      absurd (false_true (sym no))
