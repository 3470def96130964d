-- A stack that is written is read as it was.
use Rattle.std.proofs.Common.{◌≡◌, ℕ, Bool, true, false, cond, List, [], ◌∷◌, ◌++◌, refl, sym, ap, ◌∙◌, subst, arith}
use Rattle.std.proofs.Common.{length, nat_eq, Option, Some, None, map}
use Rattle.std.specs.Prelude.{bytes_eq, if◌then◌else◌}
use Rattle.std.specs.List.{list_all, list_any}
use Rattle.std.specs.Option.{option_map, option_and_then}
use Rattle.std.proofs.lemmas.Bool.{false≢true}
use Rattle.envvars.specs.Texts.{Text}
use Rattle.envvars.specs.Names.{stack_name}
use Rattle.envvars.specs.Environment.{Environment, lookup, with_value}
use Rattle.envvars.specs.Fields.{joined}
use Rattle.envstate.specs.stacks.Stacks.{OwnedValue, StackState}
use Rattle.envvars.specs.Escapes.{escaped, unescaped_fields}
use Rattle.envstate.specs.stacks.StackTexts.{with_first_byte, split_at_ampersand, owner_of, owner_text, item_of}
use Rattle.envstate.specs.stacks.StackTexts.{items_of_elements, is_stack, if_stack, items_in, element_text, stack_text}
use Rattle.envstate.specs.stacks.StackTexts.{is_writable_owner, is_writable_stack}
use Rattle.envstate.specs.stacks.StackVariables.{stack_in, with_stack}
use Rattle.envvars.proofs.TextLemmas.{same_text, bytes_eq-same}
use Rattle.envvars.proofs.EnvLemmas.{lookup-with_value}
use Rattle.envvars.proofs.EditLemmas.{both_true, not_is}
use Rattle.envvars.proofs.EscapeLemmas.{fields-escaped}

map-twice : (items : List OwnedValue) → map (λ item. escaped (element_text item)) items ≡ map escaped (map element_text items)
map-twice [] = refl
map-twice (i ∷ is) = ap (λ (l : List Text). escaped (element_text i) ∷ l) (map-twice is)

-- an owner that can be read again
cut_plain : (o v : Text) → list_any (λ b. nat_eq b 38) o ≡ false → split_at_ampersand (o ++ 38 ∷ v) ≡ Some (o, v)
cut_plain [] v h = refl
cut_plain (c ∷ o) v h = at (nat_eq c 38) refl (cut_plain o v)
  where
    at : (b : Bool) → nat_eq c 38 ≡ b → (list_any (λ d. nat_eq d 38) o ≡ false → split_at_ampersand (o ++ 38 ∷ v) ≡ Some (o, v)) → split_at_ampersand ((c ∷ o) ++ 38 ∷ v) ≡ Some (c ∷ o, v)
    at true e ih = absurd (false≢true (sym (rw e at h)))
    at false e ih = let k : list_any (λ d. nat_eq d 38) o ≡ false = rw e at h in rw (e, ih k) refl

item_again : (o : Option Text) (v : Text) → is_writable_owner o ≡ true → item_of (owner_text o ++ 38 ∷ v) ≡ Some (o, v)
item_again None v h = refl
item_again (Some []) v h = absurd (false≢true h)
item_again (Some (c ∷ o)) v h = rw (cut_plain (c ∷ o) v (not_is _ h)) refl

items_again : (items : List OwnedValue) → list_all (λ item. is_writable_owner item.0) items ≡ true → items_of_elements (map element_text items) ≡ Some items
items_again [] h = refl
items_again (i ∷ is) h =
    let k = both_true (is_writable_owner i.0) (list_all (λ item. is_writable_owner item.0) is) h in
    rw (item_again i.0 i.1 k.0, items_again is k.1) refl

stack_only : (items : List OwnedValue) → is_stack items ≡ true → if_stack items ≡ Some items
stack_only items h = rw h refl

pub stack_again : (items : List OwnedValue) → is_writable_stack items ≡ true → items_in (stack_text items) ≡ Some items
stack_again [] h = refl
stack_again (i ∷ is) h =
    let k = both_true (is_stack (i ∷ is)) (list_all (λ item. is_writable_owner item.0) (i ∷ is)) h in
    let e : unescaped_fields (joined (map (λ item. escaped (element_text item)) (i ∷ is))) ≡ map element_text (i ∷ is) =
    ap (λ (l : List Text). unescaped_fields (joined l)) (map-twice (i ∷ is))
    ∙ fields-escaped (element_text i) (map element_text is) in
    rw (e, items_again (i ∷ is) k.1) (stack_only (i ∷ is) k.0)

-- the stack's variable is another
name_apart : (name : Text) → bytes_eq name (stack_name name) ≡ false
name_apart name = apart (bytes_eq name (stack_name name)) refl
  where
    apart : (b : Bool) → bytes_eq name (stack_name name) ≡ b → b ≡ false
    apart true e = let l : length name ≡ length (stack_name name) = ap length (same_text name (stack_name name) e) in absurd (omega arith)
    apart false e = refl

pub found_at : (e : Environment) (name : Text) (value text : Option Text) → lookup (with_value (with_value e name value) (stack_name name) text) (stack_name name) ≡ text
found_at e name value text =
    lookup-with_value (with_value e name value) (stack_name name) text (stack_name name)
    ∙ ap (λ (b : Bool). cond b text (lookup (with_value e name value) (stack_name name)))
    (bytes_eq-same (stack_name name))

pub value_at : (e : Environment) (name : Text) (value text : Option Text) → lookup (with_value (with_value e name value) (stack_name name) text) name ≡ value
value_at e name value text =
    lookup-with_value (with_value e name value) (stack_name name) text name ∙ ap (λ (b : Bool). cond b text (lookup (with_value e name value) name)) (name_apart name)
    ∙ lookup-with_value e name value name ∙ ap (λ (b : Bool). cond b value (lookup e name)) (bytes_eq-same name)

pub stack_found : (e : Environment) (name : Text) (s : StackState) → is_writable_stack s.items ≡ true → stack_in (with_stack e name s) name ≡ Some s
stack_found e name s h = rw (found_at e name s.value (stack_text s.items), value_at e name s.value (stack_text s.items), stack_again s.items h) refl

-- What is read can be written.
cut_more : (c : ℕ) (o : Option (Text × Text)) (p : Text × Text) → nat_eq c 38 ≡ false
    → option_map (with_first_byte c) o ≡ Some p → ((q : Text × Text) → o ≡ Some q → list_any (λ b. nat_eq b 38) q.0 ≡
    false) → list_any (λ b. nat_eq b 38) p.0 ≡ false
cut_more c None p n h f = cc
cut_more c (Some q) p n h f =
    let e : with_first_byte c q ≡ p = cc in
    let g : list_any (λ b. nat_eq b 38) (c ∷ q.0) ≡ false = rw (n, f q refl) refl in
    subst (λ (r : Text × Text). list_any (λ b. nat_eq b 38) r.0 ≡ false) e g

cut_owner : (t : Text) (p : Text × Text) → split_at_ampersand t ≡ Some p → list_any (λ b. nat_eq b 38) p.0 ≡ false
cut_owner [] p h = cc
cut_owner (c ∷ cs) p h = at (nat_eq c 38) refl (λ q. cut_owner cs q)
  where
    at : (b : Bool) → nat_eq c 38 ≡ b → ((q : Text × Text) → split_at_ampersand cs ≡ Some q → list_any (λ d. nat_eq d 38) q.0 ≡ false) → list_any (λ d. nat_eq d 38) p.0 ≡ false
    at true e ih = let k : Some ([], cs) ≡ Some p = rw e at h in let s : ([], cs) ≡ p = cc in subst (λ (r : Text × Text). list_any (λ d. nat_eq d 38) r.0 ≡ false) s refl
    at false e ih = let k : option_map (with_first_byte c) (split_at_ampersand cs) ≡ Some p = rw e at h in cut_more c (split_at_ampersand cs) p e k ih

owner_can : (o : Text) → list_any (λ b. nat_eq b 38) o ≡ false → is_writable_owner (owner_of o) ≡ true
owner_can [] h = refl
owner_can (c ∷ cs) h = rw h refl

item_can : (o : Option (Text × Text)) (item : OwnedValue) → option_map (λ p. (owner_of p.0, p.1)) o ≡ Some item
    → ((p : Text × Text) → o ≡ Some p → list_any (λ b. nat_eq b 38) p.0 ≡ false) → is_writable_owner item.0 ≡ true
item_can None item h f = cc
item_can (Some p) item h f =
    let e : (owner_of p.0, p.1) ≡ item = cc in
    subst (λ (i : OwnedValue). is_writable_owner i.0 ≡ true) e (owner_can p.0 (f p refl))

all_can : (o : Option OwnedValue) (r : Option (List OwnedValue)) (items : List OwnedValue) → option_and_then (λ item. option_map (λ is. item ∷ is) r) o ≡ Some items
    → ((i : OwnedValue) → o ≡ Some i → is_writable_owner i.0 ≡ true)
    → ((is : List OwnedValue) → r ≡ Some is → list_all (λ i. is_writable_owner i.0) is ≡ true)
    → list_all (λ i. is_writable_owner i.0) items ≡ true
all_can None r items h f g = cc
all_can (Some i) None items h f g = cc
all_can (Some i) (Some is) items h f g =
    let e : i ∷ is ≡ items = cc in
    let k : list_all (λ j. is_writable_owner j.0) (i ∷ is) ≡ true = rw (f i refl, g is refl) refl in
    subst (λ (l : List OwnedValue). list_all (λ j. is_writable_owner j.0) l ≡ true) e k

items_can : (es : List Text) (items : List OwnedValue) → items_of_elements es ≡ Some items → list_all (λ i. is_writable_owner i.0) items ≡ true
items_can [] items h = let e : [] ≡ items = cc in subst (λ (l : List OwnedValue). list_all (λ j. is_writable_owner j.0) l ≡ true) e refl
items_can (e ∷ es) items h = all_can (item_of e) (items_of_elements es) items h (λ i k. item_can (split_at_ampersand e) i k (cut_owner e)) (items_can es)

only_can : (b : Bool) (is items : List OwnedValue) → (if b then Some is else None) ≡ Some items → list_all (λ i. is_writable_owner i.0) is ≡ true → b ≡ is_stack is → is_writable_stack items ≡ true
only_can true is items h k e = let s : is ≡ items = cc in let w : is_writable_stack is ≡ true = rw (sym e, k) refl in subst (λ (l : List OwnedValue). is_writable_stack l ≡ true) s w
only_can false is items h k e = cc

text_can : (r : Option (List OwnedValue)) (items : List OwnedValue) → option_and_then if_stack r ≡ Some items
    → ((is : List OwnedValue) → r ≡ Some is → list_all (λ i. is_writable_owner i.0) is ≡ true)
    → is_writable_stack items ≡ true
text_can None items h f = cc
text_can (Some is) items h f = only_can (is_stack is) is items h (f is refl) refl

pub stack_readable : (t : Option Text) (items : List OwnedValue) → items_in t ≡ Some items → is_writable_stack items ≡ true
stack_readable None items h = let e : [] ≡ items = cc in subst (λ (l : List OwnedValue). is_writable_stack l ≡ true) e refl
stack_readable (Some t) items h = text_can (items_of_elements (unescaped_fields t)) items h (items_can (unescaped_fields t))
