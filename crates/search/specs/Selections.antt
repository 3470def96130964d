-- The names of a listing for which texts are given (module(1), avail): those that begin with one of the texts. Without
-- texts all names are selected.
use Rattle.std.specs.Prelude.{Bool, true, ◌||◌, List, [], ◌∷◌, ◌++◌, nat_eq}
use Rattle.std.specs.List.{list_any, starts_with}
use Rattle.modulename.specs.ModuleName.{Text, slash}

-- the name begins with one of the texts, or there are none
abbrev pub is_selected : List Text → Text → Bool
is_selected [] name = true
is_selected (text ∷ texts) name = list_any (λ t. starts_with nat_eq name t) (text ∷ texts)

-- The name of a file or a folder is sought: it is selected, or one of the texts begins with it and `/`.
abbrev pub is_sought : List Text → Text → Bool
is_sought texts name = is_selected texts name || list_any (λ t. starts_with nat_eq t (name ++ slash ∷ [])) texts
