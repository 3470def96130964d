-- The parts of names.
use Rattle.std.proofs.Common.{◌≡◌, ◌⊎◌, ℕ, ◌≤◌, Bool, true, false, not, ◌&&◌, ◌||◌, cond, List, [], ◌∷◌, ◌++◌, length}
use Rattle.std.proofs.Common.{Option, Some, None, refl, sym, ap, ◌∙◌, inl, inr, append_assoc, length-append, arith}
use Rattle.std.specs.Prelude.{◌==◌, nat_le}
use Rattle.std.specs.List.{list_any, list_all, onto_first, join_with_byte}
use Rattle.std.proofs.lemmas.Bool.{and_parts, and_from}
use Rattle.std.proofs.lemmas.Bool.Decides.{nat_tests}
use Rattle.std.proofs.lemmas.List.Splits.{join_with_byte-slice_split}
use Rattle.modulename.specs.ModuleName.{Text, slash, parts, is_part, is_module_name}
use Rattle.filetree.specs.Modulefiles.{path_of}
use Rattle.search.specs.Single.{is_single}
use Rattle.search.specs.BelowFolder.{folder_path, name_below, parts_of}

not_or : (x y : Bool) → not (x || y) ≡ true → (x ≡ false) × (not y ≡ true)
not_or true y h = absurd (cc)
not_or false y h = (refl, h)

not_or-from : (x y : Bool) → x ≡ false → not y ≡ true → not (x || y) ≡ true
not_or-from true y e h = absurd (cc)
not_or-from false y e h = h

pub parts-single : (e : Text) → is_single e ≡ true → parts e ≡ e ∷ []
parts-single [] h = refl
parts-single (b ∷ bs) h =
    let p = not_or (b == slash) (list_any (λ b. b == slash) bs) h in
    let q : (b == slash) ≡ false = p.0 in rw q (ap (onto_first b) (parts-single bs p.1))

onto_some : (t : Bool) (b : ℕ) (ps : List Text) → cond t ([] ∷ ps) (onto_first b ps) ≡ [] → ⊥
onto_some true b ps h = absurd (cc)
onto_some false b [] h = absurd (cc)
onto_some false b (p ∷ ps) h = absurd (cc)

-- a name has a part
pub parts-some : (name : Text) → parts name ≡ [] → ⊥
parts-some [] h = absurd (cc)
parts-some (b ∷ bs) h = onto_some (b == slash) b (parts bs) h

path_step : (t : Bool) (b : ℕ) (xs ys zs : List Text) → zs ≡ xs ++ ys → (xs ≡ [] → ⊥) → cond t ([] ∷ zs) (onto_first b zs) ≡ cond t ([] ∷ xs) (onto_first b xs) ++ ys
path_step true b xs ys zs e some = ap (λ w. [] ∷ w) e
path_step false b [] ys zs e some = absurd (some refl)
path_step false b (x ∷ xs) ys zs e some = ap (onto_first b) e

pub parts-path : (prefix rest : Text) → parts (path_of prefix rest) ≡ parts prefix ++ parts rest
parts-path [] rest = refl
parts-path (b ∷ bs) rest = path_step (b == slash) b (parts bs) (parts rest) (parts (path_of bs rest)) (parts-path bs rest) (parts-some bs)

-- the first part of a name, and what follows it
abbrev pub Cut : Text → Type 0
Cut rest = (e : Text) × (more : Text) × (rest ≡ path_of e more) × (is_single e ≡ true)

same_byte : (b : ℕ) → (b == slash) ≡ true → b ≡ slash
same_byte b h = grind (arith, nat_tests)

cut_step : (t : Bool) (b : ℕ) (bs : Text) → (b == slash) ≡ t → (is_single bs ≡ true) ⊎ Cut bs → (is_single (b ∷ bs) ≡ true) ⊎ Cut (b ∷ bs)
cut_step true b bs e more = inr ([], bs, ap (λ x. x ∷ bs) (same_byte b e), refl)
cut_step false b bs e (inl s) = inl (not_or-from (b == slash) (list_any (λ b. b == slash) bs) e s)
cut_step false b bs e (inr (x, more, whole, s)) = inr (b ∷ x, more, ap (λ y. b ∷ y) whole, not_or-from (b == slash) (list_any (λ b. b == slash) x) e s)

pub cut : (rest : Text) → (is_single rest ≡ true) ⊎ Cut rest
cut [] = inl refl
cut (b ∷ bs) = cut_step (b == slash) b bs refl (cut bs)

pub path-assoc : (a b c : Text) → path_of (path_of a b) c ≡ path_of a (path_of b c)
path-assoc a b c = append_assoc a (slash ∷ b) (slash ∷ c)

pub name_below-path : (prefix : Option Text) (e more : Text) → name_below prefix (path_of e more) ≡ path_of (name_below prefix e) more
name_below-path None e more = refl
name_below-path (Some f) e more = sym (path-assoc f e more)

pub folder_path-below : (dir : Text) (prefix : Option Text) (e : Text) → folder_path dir (Some (name_below prefix e)) ≡ path_of (folder_path dir prefix) e
folder_path-below dir None e = refl
folder_path-below dir (Some f) e = sym (path-assoc dir f e)

pub parts_of-below : (prefix : Option Text) (e : Text) → is_single e ≡ true → parts_of (Some (name_below prefix e)) ≡ parts_of prefix ++ e ∷ []
parts_of-below None e s = parts-single e s
parts_of-below (Some f) e s = parts-path f e ∙ ap (λ x. parts f ++ x) (parts-single e s)

all_prefix : (p : Text → Bool) (xs ys : List Text) → list_all p (xs ++ ys) ≡ true → list_all p xs ≡ true
all_prefix p [] ys h = refl
all_prefix p (x ∷ xs) ys h =
    let q = and_parts (p x) (list_all p (xs ++ ys)) h in and_from (p x) (list_all p xs) q.0 (all_prefix p xs ys q.1)

few_prefix : (xs ys : List Text) → nat_le (length (xs ++ ys)) 4 ≡ true → nat_le (length xs) 4 ≡ true
few_prefix xs ys h = let e = length-append xs ys in grind (arith, nat_tests)

spelled_step : (ps xs ys : List Text) → ps ≡ xs ++ ys → (list_all is_part ps && nat_le (length ps) 4) ≡ true → (list_all is_part xs && nat_le (length xs) 4) ≡ true
spelled_step ps xs ys e h =
    let k : (list_all is_part (xs ++ ys) && nat_le (length (xs ++ ys)) 4) ≡ true = ap (λ zs. list_all is_part zs && nat_le (length zs) 4) (sym e) ∙ h in
    let q = and_parts (list_all is_part (xs ++ ys)) (nat_le (length (xs ++ ys)) 4) k in
    and_from (list_all is_part xs) (nat_le (length xs) 4) (all_prefix is_part xs ys q.0) (few_prefix xs ys q.1)

-- the prefix of a name is a name
pub spelled_prefix : (name more : Text) → is_module_name (path_of name more) ≡ true → is_module_name name ≡ true
spelled_prefix name more h = spelled_step (parts (path_of name more)) (parts name) (parts more) (parts-path name more) h

some_length : (xs : List Text) → (xs ≡ [] → ⊥) → 1 ≤ length xs
some_length [] h = absurd (h refl)
some_length (x ∷ xs) h = omega arith

few : (n : ℕ) → nat_le n 4 ≡ true → n ≤ 4
few n h = grind (arith, nat_tests)

-- below four parts there is no name
pub too_deep : (prefix : Option Text) (rest name : Text) → 4 ≤ length (parts_of prefix) → name ≡ name_below prefix rest → is_module_name name ≡ true → ⊥
too_deep None rest name deep e spelled = absurd (omega arith)
too_deep (Some f) rest name deep e spelled =
    let q = few (length (parts name)) (and_parts (list_all is_part (parts name)) (nat_le (length (parts name)) 4) spelled).1 in
    let w : length (parts name) ≡ length (parts f ++ parts rest) = ap length (ap parts e ∙ parts-path f rest) in
    let l = length-append (parts f) (parts rest) in
    let s = some_length (parts rest) (parts-some rest) in
    absurd (omega arith)

snoc_same : (xs ys : List Text) (a b : Text) → xs ++ a ∷ [] ≡ ys ++ b ∷ [] → (xs ≡ ys) × (a ≡ b)
snoc_same [] [] a b h = (refl, cc)
snoc_same [] (y ∷ ys) a b h = let e : length (a ∷ []) ≡ length ((y ∷ ys) ++ b ∷ []) = ap length h in absurd (omega (arith, e, length-append ys (b ∷ [])))
snoc_same (x ∷ xs) [] a b h = let e : length ((x ∷ xs) ++ a ∷ []) ≡ length (b ∷ []) = ap length h in absurd (omega (arith, e, length-append xs (a ∷ [])))
snoc_same (x ∷ xs) (y ∷ ys) a b h =
    let p : x ≡ y = cc in
    let t : xs ++ a ∷ [] ≡ ys ++ b ∷ [] = cc in
    let r = snoc_same xs ys a b t in (ap (λ z. z ∷ xs) p ∙ ap (λ zs. y ∷ zs) r.0, r.1)

-- a name in a folder is in no other folder
pub one_folder : (prefix folder e version : Text) → is_single e ≡ true → parts (path_of prefix e) ≡ parts folder ++ version ∷ [] → (prefix ≡ folder) × (e ≡ version)
one_folder prefix folder e version s h =
    let r = snoc_same (parts prefix) (parts folder) e version (ap (λ x. parts prefix ++ x) (sym (parts-single e s)) ∙ sym (parts-path prefix e) ∙ h) in
    (sym (join_with_byte-slice_split slash prefix) ∙ ap (join_with_byte slash) r.0 ∙ join_with_byte-slice_split slash folder, r.1)

-- a single name is in no folder
pub no_folder : (e folder version : Text) → is_single e ≡ true → parts e ≡ parts folder ++ version ∷ [] → ⊥
no_folder e folder version s h =
    let r = snoc_same [] (parts folder) e version (sym (parts-single e s) ∙ h) in parts-some folder (sym r.0)
