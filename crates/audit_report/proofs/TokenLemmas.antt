-- The tokens of arrays and objects, by those of their parts, which are added one after another.
use Rattle.std.proofs.Common.{◌≡◌, ℕ, Bool, true, false, List, [], ◌∷◌, ◌++◌, cond, flat_map, map, refl, ap, ◌∙◌, sym}
use Rattle.std.proofs.Common.{subst, append_assoc, not, string_bytes, String, Global}
use Rattle.std.specs.Prelude.{Result, Ok, Err, OnOk}
use Rattle.json.specs.Json.{Json}
use Rattle.json.specs.Token.{Token, key, begin_array, end_array, begin_object, end_object}
use Rattle.json.specs.Tree.{json_tokens, items_tokens, members_tokens}
use Rattle.json.specs.Value.{items_of}
use Rattle.json.specs.Written.{Written, Writes}
use Rattle.audit_report.specs.declared.selection.Selection.{Selection}
use Rattle.audit_report.specs.Documents.{Field, members_of, object_of, array_of, module_value, named_modules}
use Rattle.audit_report.specs.Documents.{readable_among, text_value}
use Rattle.audit_report.specs.Readable.{is_unreadable}
use Rattle.audit_report.specs.Tokens.{AddsTokens, fields_tokens, field_tokens, missing_tokens, named_tokens}
use Rattle.audit_report.specs.Tried.{TriedModule}
use Rattle.audit_report.specs.Words.{is_named}

-- ---- values

-- an array of values
pub items_tokens-map : {X : Type 0} (f : X → Json) (xs : List X) → items_tokens (items_of (map f xs)) ≡ flat_map (λ x. json_tokens (f x)) xs ++ end_array ∷ []
items_tokens-map f [] = refl
items_tokens-map f (x ∷ xs) =
    ap (λ (ts : List Token). json_tokens (f x) ++ ts) (items_tokens-map f xs) ∙ sym (append_assoc (json_tokens (f x)) (flat_map (λ y. json_tokens (f y)) xs) (end_array ∷ []))

-- one module more, if it is named
named_more : (b : Bool) (m : TriedModule) (ms : List TriedModule) (ts : List Token) → items_tokens (items_of (map module_value ms)) ≡ ts ++ end_array ∷ []
    → items_tokens (items_of (map module_value (cond b (m ∷ ms) ms))) ≡ ((cond b (json_tokens (module_value m)) []) ++ ts) ++ end_array ∷ []
named_more true m ms ts e = ap (λ (l : List Token). json_tokens (module_value m) ++ l) e ∙ sym (append_assoc (json_tokens (module_value m)) ts (end_array ∷ []))
named_more false m ms ts e = e

-- the array of the modules that are named
pub items_tokens-named : (selection : Selection) (ms : List TriedModule)
    → items_tokens (items_of (map module_value (named_modules selection ms))) ≡ flat_map (named_tokens selection) ms
    ++ end_array ∷ []
items_tokens-named selection [] = refl
items_tokens-named selection (m ∷ ms) = named_more (is_named selection m.0.standing) m (named_modules selection ms) (flat_map (named_tokens selection) ms) (items_tokens-named selection ms)

-- one directory more, unless it can't be read
missing_more : (b : Bool) (dir : String Global) (dirs : List (String Global)) (ts : List Token) → items_tokens (items_of (map text_value dirs)) ≡ ts ++ end_array ∷ []
    → items_tokens (items_of (map text_value (cond (not b) (dir ∷ dirs) dirs))) ≡ ((cond b [] (json_tokens (text_value dir))) ++ ts) ++ end_array ∷ []
missing_more true dir dirs ts e = e
missing_more false dir dirs ts e = ap (λ (l : List Token). json_tokens (text_value dir) ++ l) e ∙ sym (append_assoc (json_tokens (text_value dir)) ts (end_array ∷ []))

-- the array of the directories that aren't there, but for those that can't be read
pub items_tokens-missing : (unreadable dirs : List (String Global))
    → items_tokens (items_of (map text_value (readable_among unreadable dirs))) ≡ flat_map (missing_tokens unreadable) dirs ++ end_array ∷ []
items_tokens-missing unreadable [] = refl
items_tokens-missing unreadable (dir ∷ dirs) = missing_more (is_unreadable unreadable (string_bytes dir)) dir (readable_among unreadable dirs) (flat_map (missing_tokens unreadable) dirs) (items_tokens-missing unreadable dirs)

-- an object
pub members_tokens-of : (fields : List Field) → members_tokens (members_of fields) ≡ fields_tokens fields ++ end_object ∷ []
members_tokens-of [] = refl
members_tokens-of ((name, value) ∷ fields) =
    ap (λ (ts : List Token). field_tokens (name, value) ++ ts) (members_tokens-of fields) ∙ sym (append_assoc (field_tokens (name, value)) (fields_tokens fields) (end_object ∷ []))

-- ---- what calls add

-- a token
pub adds_one : {E : Type 0} (r : Result (Unit {0}) E) (a b : Written) (t : Token) → Writes r a b t → OnOk r (AddsTokens a b (t ∷ []))
adds_one (Ok u) a b t h = (h.room.0, h.ok)
adds_one (Err e) a b t h = tt

-- some tokens, and then what a last call adds
pub adds_more : {E : Type 0} (r : Result (Unit {0}) E) (a b c : Written) (x y : List Token) → AddsTokens a b x → OnOk r (AddsTokens b c y) → OnOk r (AddsTokens a c (x ++ y))
adds_more (Ok u) a b c x y p q = (q.0 ∙ p.0, q.1 ∙ (ap (λ (l : List Token). l ++ y) p.1 ∙ append_assoc a.tokens x y))
adds_more (Err e) a b c x y p q = tt

-- a member that is an array
pub adds_array : {E : Type 0} (r : Result (Unit {0}) E) (a b c d e : Written) (name : List ℕ) (values : List Json) (ts : List Token) → items_tokens (items_of values) ≡ ts ++ end_array ∷ []
    → AddsTokens a b (key name ∷ []) → AddsTokens b c (begin_array ∷ []) → AddsTokens c d ts → OnOk r (AddsTokens d e (end_array ∷ [])) → OnOk r (AddsTokens a e (field_tokens (name, array_of values)))
adds_array r a b c d e name values ts same named begun items ended =
    let P : List Token → Type 0 = λ l. OnOk r (AddsTokens a e (key name ∷ begin_array ∷ l)) in
    subst P (sym same) (adds_more r a b e (key name ∷ []) (begin_array ∷ (ts ++ end_array ∷ [])) named
    (adds_more r b c e (begin_array ∷ []) (ts ++ end_array ∷ []) begun
    (adds_more r c d e ts (end_array ∷ []) items ended)))

-- an object
pub adds_object : {E : Type 0} (r : Result (Unit {0}) E) (a b c d : Written) (fields : List Field) → AddsTokens a b (begin_object ∷ []) → AddsTokens b c (fields_tokens fields)
    → OnOk r (AddsTokens c d (end_object ∷ [])) → OnOk r (AddsTokens a d (json_tokens (object_of fields)))
adds_object r a b c d fields begun members ended =
    let P : List Token → Type 0 = λ l. OnOk r (AddsTokens a d (begin_object ∷ l)) in
    subst P (sym (members_tokens-of fields)) (adds_more r a b d (begin_object ∷ [])
    (fields_tokens fields ++ end_object ∷ []) begun (adds_more r b c d (fields_tokens fields) (end_object ∷ [])
    members ended))
