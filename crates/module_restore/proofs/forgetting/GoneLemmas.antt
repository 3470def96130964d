-- Modules whose files are gone.
use Rattle.std.proofs.Common.{◌≡◌, ◌<◌, ◌+◌, ℕ, Bool, true, false, cond, List, [], ◌∷◌, ◌++◌, map, drop, get_or, length, refl, sym, ap, ◌∙◌}
use Rattle.std.proofs.lemmas.List.{append_assoc}
use Rattle.std.specs.Prelude.{filter}
use Rattle.envvars.specs.Texts.{Text}
use Rattle.envstate.specs.loaded_list.Loaded.{Entry, names_of}
use Rattle.filetree.specs.Agreement.{Files}
use Rattle.module_restore.specs.forgetting.Forgets.{can_go, gone}
use Rattle.module_restore.proofs.forgetting.ListLemmas.{split_at}

gone_first : (files : Files) (x : Entry) (xs : List Entry) → gone files (x ∷ xs) ≡ gone files (x ∷ []) ++ gone files xs
gone_first files x xs = at (can_go false files x.path)
  where
    rest : List Entry
    rest = filter (λ (y : Entry). can_go false files y.path) xs

    at : (b : Bool) → names_of (cond b (x ∷ rest) rest) ≡ names_of (cond b (x ∷ []) []) ++ names_of rest
    at true = refl
    at false = refl

-- one more is looked at
pub gone_turn : {X : Type 0} (view : X → Entry) (files : Files) (found next all : List Text) (xs : List X) (i : ℕ) (x : X) → i < length xs → x ≡ get_or xs i x
    → next ≡ found ++ gone files (view x ∷ []) → found ++ gone files (map view (drop i xs)) ≡ all → next ++ gone files (map view (drop (i + 1) xs)) ≡ all
gone_turn view files found next all xs i x below is pushed before =
    let rest = map view (drop (i + 1) xs) in
    ap (λ (l : List Text). l ++ gone files rest) pushed
    ∙ append_assoc found (gone files (view x ∷ [])) (gone files rest)
    ∙ ap (λ (l : List Text). found ++ l) (sym (gone_first files (view x) rest))
    ∙ ap (λ (l : List Entry). found ++ gone files l) (sym (split_at view xs i x below is))
    ∙ before
