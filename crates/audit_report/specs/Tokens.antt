-- For the contracts of private functions: the tokens of a document's parts (own).
use Rattle.std.specs.Prelude.{◌≡◌, if◌then◌else◌, List, [], ◌∷◌, ◌++◌, flat_map, string_bytes}
use Rattle.std.specs.declared.alloc.Global.{Global}
use Rattle.std.specs.declared.string.String.{String}
use Rattle.json.specs.Token.{Token, key}
use Rattle.json.specs.Tree.{json_tokens}
use Rattle.json.specs.Written.{Written}
use Rattle.audit_report.specs.declared.selection.Selection.{Selection}
use Rattle.audit_report.specs.Documents.{Field, module_value, text_value}
use Rattle.audit_report.specs.Readable.{is_unreadable}
use Rattle.audit_report.specs.Tried.{TriedModule}
use Rattle.audit_report.specs.Words.{is_named}

-- the tokens of a member of an object
abbrev pub field_tokens : Field → List Token
field_tokens (name, value) = key name ∷ json_tokens value

-- those of some members
abbrev pub fields_tokens : List Field → List Token
fields_tokens fields = flat_map field_tokens fields

-- those of a module that the report names; else none
abbrev pub named_tokens : Selection → TriedModule → List Token
named_tokens selection t = if is_named selection t.0.standing then json_tokens (module_value t) else []

-- those of a directory that isn't there; none where it can't be read
abbrev pub missing_tokens : List (String Global) → String Global → List Token
missing_tokens unreadable dir =
    if is_unreadable unreadable (string_bytes dir) then [] else json_tokens (text_value dir)

-- the tokens are added, and what stood before them stays
abbrev pub AddsTokens : Written → Written → List Token → Type 0
AddsTokens old new tokens = (new.before ≡ old.before) × (new.tokens ≡ old.tokens ++ tokens)
