-- Values that are cut at a delimiter, one after another.
use Rattle.std.proofs.Common.{◌≡◌, ◌+◌, ◌<◌, ℕ, List, ◌∷◌, ◌++◌, length, map, drop, get_or, string_bytes, String}
use Rattle.std.proofs.Common.{ap, sym, ◌∙◌}
use Rattle.std.specs.declared.alloc.Global.{Global}
use Rattle.std.proofs.lemmas.List.{append_assoc, drop_more}
use Rattle.envvars.specs.Texts.{Text}
use Rattle.envstate.specs.paths.PathTexts.{split_elements}
use Rattle.modulefile.specs.Calls.{elements_of}

-- the next text, and those after it
pub split_next : (texts : List (String Global)) (i : ℕ) (x : String Global) → i < length texts → x ≡ get_or texts i x
    → map string_bytes (drop i texts) ≡ string_bytes x ∷ map string_bytes (drop (i + 1) texts)
split_next texts i x l is = ap (map string_bytes) (drop_more texts i x l) ∙ ap (λ (y : String Global). string_bytes y ∷ map string_bytes (drop (i + 1) texts)) (sym is)

-- one value more is cut
pub cut_more : (delim : ℕ) (old new parts : List Text) (value : Text) (rest : List Text) (all : List Text)
    → new ≡ old ++ parts → parts ≡ split_elements delim value → old ++ elements_of delim (value ∷ rest) ≡ all → new ++ elements_of delim rest ≡ all
cut_more delim old new parts value rest all e p h =
    ap (λ xs. xs ++ elements_of delim rest) e
    ∙ append_assoc old parts (elements_of delim rest)
    ∙ ap (λ ps. old ++ (ps ++ elements_of delim rest)) p ∙ h

pub cut_on : (delim : ℕ) (old new parts : List Text) (value : Text) (left right : List (String Global)) (all : List Text)
    → map string_bytes left ≡ value ∷ map string_bytes right → new ≡ old ++ parts → parts ≡ split_elements delim value
    → old ++ elements_of delim (map string_bytes left) ≡ all → new ++ elements_of delim (map string_bytes right) ≡ all
cut_on delim old new parts value left right all s e p h =
    cut_more delim old new parts value (map string_bytes right) all e p (ap (λ vs. old ++ elements_of delim vs) (sym s) ∙ h)
