-- A text of elements that grows by one after another, for the contracts of this crate's private functions.
use Rattle.std.specs.Prelude.{List, [], ◌∷◌, ◌++◌, Option, Some, None}
use Rattle.envvars.specs.Texts.{Text}
use Rattle.envvars.specs.Fields.{colon}

-- what an element is appended to: nothing, or the text so far and a colon
abbrev pub before_element : Option Text → Text
before_element None = []
before_element (Some text) = text ++ colon ∷ []

-- the text with these elements more
abbrev pub with_elements : Option Text → List Text → Option Text
with_elements text [] = text
with_elements text (element ∷ elements) = with_elements (Some (before_element text ++ element)) elements
