-- The text of a stack (module(1), __MODULES_PUSHENV_<VAR>): elements `module&value`, the newest first, separated by
-- colons, with escapes.
use Rattle.std.specs.Prelude.{ℕ, Bool, true, false, not, ◌&&◌, ◌||◌, ◌==◌, List, [], ◌∷◌, ◌++◌, map, if◌then◌else◌}
use Rattle.std.specs.Prelude.{Option, Some, None}
use Rattle.std.specs.List.{list_all, list_any}
use Rattle.std.specs.Option.{option_map, option_and_then}
use Rattle.envvars.specs.Texts.{Text}
use Rattle.envvars.specs.Fields.{are_distinct, text_of_elements, ampersand}
use Rattle.envstate.specs.stacks.Stacks.{OwnedValue, has_owner}
use Rattle.envvars.specs.Escapes.{escaped, unescaped_fields}

-- Writing: what is written before the `&` of an element: the owner, or nothing for the bottom.
abbrev pub owner_text : Option Text → Text
owner_text None = []
owner_text (Some owner) = owner

-- the element that an item is written as, without escapes
abbrev pub element_text : OwnedValue → Text
element_text item = owner_text item.0 ++ ampersand ∷ item.1

-- the text of the items; the empty list unsets its variable
abbrev pub stack_text : List OwnedValue → Option Text
stack_text items = text_of_elements (map (λ item. escaped (element_text item)) items)

-- Reading: a pair with this byte before its first text.
abbrev pub with_first_byte : ℕ → Text × Text → Text × Text
with_first_byte c p = (c ∷ p.0, p.1)

-- the texts before and after the first `&`; none where there is no `&`
abbrev pub split_at_ampersand : Text → Option (Text × Text)
split_at_ampersand [] = None
split_at_ampersand (c ∷ cs) = if c == ampersand then Some ([], cs) else option_map (with_first_byte c)
    (split_at_ampersand cs)

-- the owner that is written before the `&`; none where nothing is
abbrev pub owner_of : Text → Option Text
owner_of [] = None
owner_of (c ∷ cs) = Some (c ∷ cs)

-- the item that an element is read as; none where it has no `&`
abbrev pub item_of : Text → Option OwnedValue
item_of element = option_map (λ p. (owner_of p.0, p.1)) (split_at_ampersand element)

-- the items that the elements are read as; none where an element has no `&`
abbrev pub items_of_elements : List Text → Option (List OwnedValue)
items_of_elements [] = Some []
items_of_elements (element ∷ elements) =
    option_and_then (λ item. option_map (λ items. item ∷ items) (items_of_elements elements)) (item_of element)

-- whether there is no item
abbrev pub has_no_item : List OwnedValue → Bool
has_no_item [] = true
has_no_item (item ∷ items) = false

-- no item but the last is without an owner
abbrev pub bottoms_last : List OwnedValue → Bool
bottoms_last [] = true
bottoms_last (item ∷ items) = (has_owner item.0 || has_no_item items) && bottoms_last items

-- the owners of the items
abbrev pub owners_of : List OwnedValue → List Text
owners_of [] = []
owners_of ((None, value) ∷ items) = owners_of items
owners_of ((Some owner, value) ∷ items) = owner ∷ owners_of items

-- no item but the last is without an owner, and no owner has two items
abbrev pub is_stack : List OwnedValue → Bool
is_stack items = bottoms_last items && are_distinct (owners_of items)

-- the items, where they are a stack
abbrev pub if_stack : List OwnedValue → Option (List OwnedValue)
if_stack items = if is_stack items then Some items else None

-- the items that a stack's text is read as; none where the text is no stack
abbrev pub items_in : Option Text → Option (List OwnedValue)
items_in None = Some []
items_in (Some t) = option_and_then if_stack (items_of_elements (unescaped_fields t))

-- an owner that is read again as it is written: it isn't empty, and holds no `&`
abbrev pub is_writable_owner : Option Text → Bool
is_writable_owner None = true
is_writable_owner (Some []) = false
is_writable_owner (Some (c ∷ cs)) = not (list_any (λ b. b == ampersand) (c ∷ cs))

-- items that a text can be read as
abbrev pub is_writable_stack : List OwnedValue → Bool
is_writable_stack items = is_stack items && list_all (λ item. is_writable_owner item.0) items
