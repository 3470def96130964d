-- The bytes that mean something in texts of Tcl, by their codes, and their classes (Tcl(n), rules 1 to 9).
use Rattle.std.specs.Prelude.{◌≡◌, ℕ, List, [], ◌∷◌, Bool, true, not, ◌||◌, ◌&&◌, ◌==◌, nat_le, nat_lt}

abbrev pub tab : ℕ
tab = 9

abbrev pub newline : ℕ
newline = 10

abbrev pub vertical_tab : ℕ
vertical_tab = 11

abbrev pub form_feed : ℕ
form_feed = 12

abbrev pub carriage_return : ℕ
carriage_return = 13

abbrev pub space : ℕ
space = 32

abbrev pub quote : ℕ
quote = 34

abbrev pub hash : ℕ
hash = 35

abbrev pub dollar : ℕ
dollar = 36

abbrev pub left_parenthesis : ℕ
left_parenthesis = 40

abbrev pub right_parenthesis : ℕ
right_parenthesis = 41

abbrev pub star : ℕ
star = 42

abbrev pub colon : ℕ
colon = 58

abbrev pub semicolon : ℕ
semicolon = 59

abbrev pub left_bracket : ℕ
left_bracket = 91

abbrev pub backslash : ℕ
backslash = 92

abbrev pub right_bracket : ℕ
right_bracket = 93

abbrev pub left_brace : ℕ
left_brace = 123

abbrev pub right_brace : ℕ
right_brace = 125

-- what separates the words of a command: space, tab, vertical tab, form feed and carriage return
abbrev pub is_blank : ℕ → Bool
is_blank b = b == space || b == tab || b == vertical_tab || b == form_feed || b == carriage_return

-- what ends a command: newline and semicolon (Tcl(n), rule 1)
abbrev pub is_end : ℕ → Bool
is_end b = b == newline || b == semicolon

-- what may be between commands
abbrev pub is_gap : ℕ → Bool
is_gap b = is_blank b || is_end b

-- what has a meaning of its own somewhere in a script: " $ [ ] { } \
abbrev pub is_special : ℕ → Bool
is_special b =
    b == quote || b == dollar || b == left_bracket || b == right_bracket || b == left_brace || b == right_brace
    || b == backslash

-- what has no meaning of its own anywhere
abbrev pub is_literal : ℕ → Bool
is_literal b = not (is_gap b || is_special b)

-- each byte passes the test
abbrev pub AllPass : (ℕ → Bool) → List ℕ → Type 0
AllPass p [] = Unit {0}
AllPass p (b ∷ bs) = (p b ≡ true) × AllPass p bs

-- nothing, or a first byte that passes
abbrev pub MayBegin : (ℕ → Bool) → List ℕ → Type 0
MayBegin p [] = Unit {0}
MayBegin p (b ∷ bs) = p b ≡ true

-- a first byte that passes
abbrev pub DoesBegin : (ℕ → Bool) → List ℕ → Type 0
DoesBegin p [] = ⊥
DoesBegin p (b ∷ bs) = p b ≡ true

-- white space: space, tab, newline, vertical tab, form feed and carriage return
abbrev pub is_space : ℕ → Bool
is_space b = is_blank b || b == newline

-- a byte of a character of several bytes, after its first
abbrev pub is_continuation : ℕ → Bool
is_continuation b = nat_le 128 b && nat_lt b 192
