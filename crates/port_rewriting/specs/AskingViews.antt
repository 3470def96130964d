-- What words, sites and rewritings of the code ask for and mean, as the definitions have it.
use Rattle.std.specs.Prelude.{◌≡◌, ◌⊎◌, ℕ, List, [], ◌∷◌, Bool, true, ◌||◌, Option, Some, None, map, string_bytes, String}
use Rattle.std.specs.Prelude.{IfOk, IfSome, Result, codes}
use Rattle.std.specs.Borrow.{Bor}
use Rattle.std.specs.List.{list_any}
use Rattle.std.specs.Option.{option_map}
use Rattle.std.specs.declared.alloc.AllocError.{AllocError}
use Rattle.std.specs.declared.alloc.Global.{Global}
use Rattle.tcltext.specs.chars.Runs.{Text}
use Rattle.modulename.specs.ModuleName.{means}
use Rattle.modulefile.specs.Records.{Record}
use Rattle.modulefile.specs.declared.records.PathEdit.TheVariants.{Front}
use Rattle.port_constants.specs.declared.knowledge.KnownFile.{KnownFile}
use Rattle.port_rewriting.specs.Asking.{AsksFor}
use Rattle.port_rewriting.specs.Families.{is_among, is_excluded, ExcludesOthers}
use Rattle.port_rewriting.specs.FamilyViews.{is_in_family}
use Rattle.port_rewriting.specs.Leaving.{Leaves}
use Rattle.port_rewriting.specs.Meanings.{added, in_family}
use Rattle.port_rewriting.specs.RecordViews.{shown, texts_in}
use Rattle.port_rewriting.specs.declared.names.Meaning.{Meaning}
use Rattle.port_rewriting.specs.declared.names.Meaning.TheVariants as meanings
use Rattle.port_rewriting.specs.declared.names.Site.{Site}
use Rattle.port_rewriting.specs.declared.rewrite.Case.{Case}
use Rattle.port_rewriting.specs.declared.rewrite.Case.TheVariants as cases
use Rattle.port_rewriting.specs.declared.rewrite.Rewrite.{Rewrite}
use Rattle.port_rewriting.specs.declared.rewrite.Rewrite.TheVariants as rewrites
use Rattle.port_rewriting.specs.declared.scopes.Given.{Given}

-- the words are known, and are these texts
abbrev pub AreKnown : List (Option (Bor Text)) → List Text → Type 0
AreKnown words texts = map (option_map shown) words ≡ map Some texts

-- one of the names means the module here
abbrev pub is_met : List Text → Text → Bool
is_met names own = list_any (λ name. means name own) names

-- a name means a module there: by the module's name, or as that of its family
abbrev pub is_meant : Site → Text → Text → Bool
is_meant site name own = means name own || is_in_family site.members.items name own

-- each of some modules that is meant there is met here
abbrev pub Covers : (Text → Bool) → List Text → (Text → Bool) → Type 0
Covers meant modules met = (own : Text) → is_among own modules ≡ true → meant own ≡ true → met own ≡ true

-- each module of a site that a name means there is met
abbrev pub IsMet : Site → Text → (Text → Bool) → Type 0
IsMet site name met = Covers (is_meant site name) (texts_in site.modules) met

-- what a name stands for: itself, where no site is known
abbrev pub StandsFor : Option (Bor Site) → Text → List Text → Type 0
StandsFor None name modules = modules ≡ name ∷ []
StandsFor (Some site) name modules = IsMet site.now name (is_met modules)

-- what a name is said to mean in a site
abbrev pub MeansSo : Site → Text → Meaning → Type 0
MeansSo site name meanings.Same = IsMet site name (means name)
MeansSo site name (meanings.Modules modules) = IsMet site name (is_excluded modules.items)
MeansSo site name meanings.Unknown = Unit {0}

-- the same, or without a site
abbrev pub MeansIn : Option (Bor Site) → Text → Meaning → Type 0
MeansIn None name meanings.Same = Unit {0}
MeansIn None name (meanings.Modules modules) = ⊥
MeansIn None name meanings.Unknown = Unit {0}
MeansIn (Some site) name meaning = MeansSo site.now name meaning

-- the one word behind `family` asks for the records of a family, whose other members are excluded
abbrev pub IsOfFamily : Option (Bor Site) → Option KnownFile → List Text → List Record → Type 0
IsOfFamily (Some site) (Some file) (name ∷ []) rs =
    (own : Text) × (others : List (String Global)) × (rs ≡ in_family name own (map string_bytes others))
    × ExcludesOthers (is_in_family site.now.members.items name) (texts_in site.now.modules) file.name.now others
IsOfFamily site file words rs = ⊥

-- the folder with the script of an alias is searched first
abbrev pub IsOfFolder : Option (Bor Text) → List Record → Type 0
IsOfFolder None rs = ⊥
IsOfFolder (Some folder) rs = rs ≡ added Front (codes "PATH") (folder.now ∷ [])

-- the words ask for records, by what is known
abbrev pub Asks : Given → List Text → List Record → Type 0
Asks given words rs =
    AsksFor (StandsFor given.site) (IsOfFamily given.site given.file) (IsOfFolder given.scripts_folder) words rs

abbrev pub AreAskedFor : Given → List (Option (Bor Text)) → List Record → Type 0
AreAskedFor given words rs = (texts : List Text) × AreKnown words texts × Asks given texts rs

-- the command is dropped: nothing is written for it, and that is said
abbrev pub IsDropped : List ℕ → Option Case → Type 0
IsDropped text case = (text ≡ []) × (case ≡ Some cases.Dropped)

-- a rewriting has no other commands, or drops the command
abbrev pub AsksNothing : Rewrite → Type 0
AsksNothing (rewrites.Commands text searches case) = IsDropped (string_bytes text) case
AsksNothing rewrite = Unit {0}

-- the commands of a rewriting leave records that are asked for so, unless it drops the command
abbrev pub IsAskedBy : (List Record → Type 0) → Rewrite → Type 0
IsAskedBy Asked (rewrites.Commands text searches case) =
    IsDropped (string_bytes text) case ⊎ ((rs : List Record) × Asked rs × Leaves (string_bytes text) rs)
IsAskedBy Asked rewrite = Unit {0}

-- what may be found has commands that leave records which are asked for so
abbrev pub MayAsk : Result (Option Rewrite) AllocError → (List Record → Type 0) → Type 0
MayAsk found Asked = IfOk found (λ it. IfSome it (IsAskedBy Asked))
