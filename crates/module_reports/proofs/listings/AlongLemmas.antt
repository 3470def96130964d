-- Names along directories, one directory more.
use Rattle.std.proofs.Common.{◌≡◌, ℕ, ◌+◌, ◌<◌, List, [], ◌∷◌, ◌++◌, length, take, get_or, map, Bor, Option, Some, None, refl, sym, ap, subst, ◌∙◌, append_assoc, append-nil, String, string_bytes}
use Rattle.std.proofs.lemmas.List.{take_more, map-append}
use Rattle.std.specs.Prelude.{unwrap_or}
use Rattle.std.specs.declared.alloc.Global.{Global}
use Rattle.std.specs.declared.vec.Vec.{Vec}
use Rattle.envvars.specs.Texts.{Text, slice_texts, texts_in}
use Rattle.filetree.specs.Agreement.{Listings}
use Rattle.search.specs.NamesBelow.{AreNamesBelow}
use Rattle.module_reports.specs.listings.Along.{AreNamesAlong, names_or_none}

along_more : (listings : Listings) (folder : Option Text) (dirs : List Text) (dir : Text) (names : List Text) (first : Option (Vec (String Global) Global))
    → AreNamesAlong listings folder dirs names → AreNamesBelow listings dir folder first → AreNamesAlong listings folder (dirs ++ dir ∷ []) (names ++ names_or_none first)
along_more listings folder [] dir names first e below = (first, [], below, refl, ap (λ ns. ns ++ names_or_none first) e ∙ sym (append-nil (names_or_none first)))
along_more listings folder (d ∷ dirs) dir names first (head, rest, at, more, e) below =
    (head, rest ++ names_or_none first, at, along_more listings folder dirs dir rest first more below, ap (λ ns. ns ++ names_or_none first) e ∙ append_assoc (names_or_none head) rest (names_or_none first))

-- what an answer has, or nothing
filled : (o : Option (Vec (String Global) Global)) (v none : Vec (String Global) Global) → v ≡ unwrap_or o none → none.items ≡ [] → texts_in v ≡ names_or_none o
filled (Some w) v none e z = ap texts_in e
filled None v none e z = ap texts_in e ∙ ap (map (λ (s : String Global). string_bytes s)) z

pub names_more : (listings : Listings) (folder : Option Text) (dirs : List (Bor Text)) (i : ℕ) (d : Bor Text) → i < length dirs
    → (names new below none : Vec (String Global) Global) (o : Option (Vec (String Global) Global)) → below ≡ unwrap_or o none → none.items ≡ []
    → new.items ≡ names.items ++ below.items → AreNamesAlong listings folder (slice_texts (take i dirs)) (texts_in names)
    → AreNamesBelow listings (get_or dirs i d).now folder o → AreNamesAlong listings folder (slice_texts (take (i + 1) dirs)) (texts_in new)
names_more listings folder dirs i d l names new below none o is empty more along at =
    let longer : slice_texts (take (i + 1) dirs) ≡ slice_texts (take i dirs) ++ (get_or dirs i d).now ∷ [] = ap slice_texts (take_more dirs i d l)
    ∙ map-append (λ (x : Bor Text). x.now) (take i dirs) (get_or dirs i d ∷ []) in
    let texts : texts_in new ≡ texts_in names ++ names_or_none o = ap (map (λ (s : String Global). string_bytes s)) more
    ∙ map-append (λ (s : String Global). string_bytes s) names.items below.items ∙ ap (λ ts. texts_in names ++ ts) (filled o below none is empty) in
    subst (λ (ds : List Text). AreNamesAlong listings folder ds (texts_in new)) (sym longer)
    (subst (λ (ns : List Text). AreNamesAlong listings folder (slice_texts (take i dirs) ++ (get_or dirs i d).now ∷ []) ns) (sym texts)
    (along_more listings folder (slice_texts (take i dirs)) (get_or dirs i d).now (texts_in names) o along at))
