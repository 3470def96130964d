-- Which names are put in no more (own).
use Rattle.std.specs.Prelude.{ℕ, Bool, ◌||◌, List, length, nat_le}
use Rattle.envvars.specs.Texts.{Text, has}

-- how many names are put in at most
abbrev pub most_added : ℕ
most_added = 1000

-- the name was put in already, or as many names were as can be
abbrev pub is_spent : Text → List Text → Bool
is_spent name added = nat_le most_added (length added) || has name added
