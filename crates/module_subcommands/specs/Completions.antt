-- Which names are offered for completion (own; docs/DECISIONS.md): `names KIND [TEXT]`, `names at FUNCTION WORD...`, and
-- `names line`.
use Rattle.std.specs.Prelude.{◌≡◌, ◌⊎◌, ℕ, Bool, true, false, List, [], ◌∷◌, bytes_eq, codes, map, string_bytes, String, unwrap_or}
use Rattle.std.specs.Prelude.{if◌then◌else◌, Option, Some, None}
use Rattle.std.specs.declared.alloc.Global.{Global}
use Rattle.std.specs.BTreeSet.{BTreeSet}
use Rattle.std.specs.Option.{option_map}
use Rattle.message.specs.Messages.{Text}
use Rattle.envvars.specs.Environment.{lookup}
use Rattle.filetree.specs.Agreement.{Files, Listings}
use Rattle.lookup.specs.DefaultFileResults.{HasResult}
use Rattle.module_collections.specs.files.Entries.{Entries}
use Rattle.module_reports.specs.completions.Kinds.{kind_named}
use Rattle.module_reports.specs.completions.Lines.{Command, last_of, others_of, read_line}
use Rattle.module_reports.specs.completions.Offered.{Offers}
use Rattle.module_reports.specs.completions.Places.{caller_named, kinds_at}
use Rattle.module_reports.specs.declared.completions.kind.NameKind.{NameKind}
use Rattle.module_reports.specs.declared.completions.kind.NameKind.TheVariants.{Collections}
use Rattle.module_reports.specs.declared.completions.place.Caller.{Caller}
use Rattle.module_subcommands.specs.Collections.{AreCollections}
use Rattle.module_subcommands.specs.Limits.{standard}
use Rattle.module_subcommands.specs.declared.asking.Asking.{Asking}

-- of which kinds the names are, and with which text those of modules that can be loaded begin
abbrev pub Wanted : Type 0
Wanted = List NameKind × Text

-- what can stand where the last of the words is typed, behind the others of a command of this function
abbrev pub wanted_at : Option Caller → List Text → Option Wanted
wanted_at None words = None
wanted_at (Some caller) words =
    option_map (λ word. (kinds_at caller (others_of words) word, word)) (last_of words)

-- what can stand at the end of a line that is typed
abbrev pub wanted_in : Command → Wanted
wanted_in c = (kinds_at c.0 c.1.0 c.1.1, c.1.1)

abbrev pub wanted_in_line : Text → Option Wanted
wanted_in_line line = option_map wanted_in (read_line line)

-- the first of some words, or nothing
abbrev pub first_of : List Text → Text
first_of [] = []
first_of (word ∷ words) = word

-- a kind by its own name
abbrev pub wanted_by_name : Text → List Text → Option Wanted
wanted_by_name name words = option_map (λ kind. (kind ∷ [], first_of words)) (kind_named name)

-- the line that tcsh hands over
abbrev pub line_of : Asking → Text
line_of asking = unwrap_or (lookup asking.env (codes "COMMAND_LINE")) []

abbrev pub wanted_behind : Asking → Text → List Text → Option Wanted
wanted_behind asking asked words =
    if bytes_eq asked (codes "line") then wanted_in_line (line_of asking) else wanted_by_name asked words

-- what they ask for by whether the first is `at`
abbrev pub wanted_for : Bool → Asking → Text → List Text → Option Wanted
wanted_for false asking asked words = wanted_behind asking asked words
wanted_for true asking asked [] = None
wanted_for true asking asked (caller ∷ words) = wanted_at (caller_named caller) words

-- What the words ask for, if they make sense.
abbrev pub wanted_by : Asking → List Text → Option Wanted
wanted_by asking [] = None
wanted_by asking (asked ∷ words) = wanted_for (bytes_eq asked (codes "at")) asking asked words

-- the names of the collections, in the order of bytes; none, if they can't be listed
abbrev pub CollectionNames : (Entries → Type 0) → Asking → List Text → Type 0
CollectionNames agrees asking names =
    (names ≡ [])
    ⊎ ((found : BTreeSet (String Global)) × AreCollections agrees asking.env found
    × (names ≡ map string_bytes found.keys))

-- the names of these kinds; none, if they can't be listed
abbrev pub KindNames : (Files → Listings → Type 0) → (Text → Bool) → ℕ → ℕ → Asking → Wanted → List Text → Type 0
KindNames agrees has_failed before now asking wanted names =
    (names ≡ []) ⊎ Offers (HasResult standard) agrees has_failed before now asking.env wanted.0 wanted.1 names

-- Collections stand alone.
abbrev pub AreOffered : (Files → Listings → Type 0) → (Text → Bool) → ℕ → ℕ → (Entries → Type 0) → Asking → Wanted
    → List Text → Type 0
AreOffered agrees has_failed before now files asking (Collections ∷ [], word) names =
    CollectionNames files asking names
AreOffered agrees has_failed before now files asking wanted names =
    KindNames agrees has_failed before now asking wanted names

-- The names that the words ask for; none, if they make no sense.
abbrev pub OffersIf : (Files → Listings → Type 0) → (Text → Bool) → ℕ → ℕ → (Entries → Type 0) → Asking
    → Option Wanted → List Text → Type 0
OffersIf agrees has_failed before now files asking None names = names ≡ []
OffersIf agrees has_failed before now files asking (Some wanted) names =
    AreOffered agrees has_failed before now files asking wanted names
