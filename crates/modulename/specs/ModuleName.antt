-- How the name of a module is spelled, and which modules a name means (modulefile(5), module(1)).
use Rattle.std.specs.Prelude.{ℕ, Bool, true, false, not, ◌&&◌, ◌||◌, ◌==◌, List, [], ◌∷◌, length, nat_le}
use Rattle.std.specs.List.{slice_split, list_all}

-- a text is its bytes
abbrev pub Text : Type 0
Text = List ℕ

-- space, tab, newline, vertical tab, form feed, carriage return
abbrev pub is_white_space : ℕ → Bool
is_white_space b = b == 32 || (nat_le 9 b && nat_le b 13)

-- a byte that no name holds: NUL, white space, or one of `: & | \ @`
abbrev pub is_forbidden : ℕ → Bool
is_forbidden b = b == 0 || is_white_space b || b == 58 || b == 38 || b == 124 || b == 92 || b == 64

-- the byte between the parts of a name
abbrev pub slash : ℕ
slash = 47

-- the texts between the slashes of a name
abbrev pub parts : Text → List Text
parts name = slice_split (λ b. b == slash) name

-- a part is not empty, does not begin with a point, and holds no forbidden byte
abbrev pub is_part : Text → Bool
is_part [] = false
is_part (b ∷ bs) = not (b == 46) && list_all (λ c. not (is_forbidden c)) (b ∷ bs)

-- one to four parts
abbrev pub is_module_name : Text → Bool
is_module_name name = list_all is_part (parts name) && nat_le (length (parts name)) 4

-- A name means the module of this name, and each module whose name begins with it and a slash.
abbrev pub means : Text → Text → Bool
means [] [] = true
means [] (b ∷ bs) = b == slash
means (c ∷ cs) [] = false
means (c ∷ cs) (b ∷ bs) = b == c && means cs bs
