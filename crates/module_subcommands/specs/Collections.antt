-- The commands of collections (module(1)).
use Rattle.std.specs.Prelude.{◌≡◌, true, List, [], ◌∷◌, ◌++◌, codes, map, string_bytes, String, Option, Some, None, Ok}
use Rattle.std.specs.declared.alloc.Global.{Global}
use Rattle.std.specs.BTreeSet.{BTreeSet, contains_text}
use Rattle.std.specs.List.{flat_map}
use Rattle.std.specs.Option.{option_map}
use Rattle.message.specs.Messages.{Text}
use Rattle.envvars.specs.Changes.{new_values_in}
use Rattle.envvars.specs.Environment.{Environment}
use Rattle.envvars.specs.Texts.{texts_in}
use Rattle.filetree.specs.Agreement.{Files, Listings, InEachPair}
use Rattle.modulefile.specs.Reports.{line_of}
use Rattle.shelltext.specs.Reading.{TextSays}
use Rattle.module_collections.specs.files.Calls.{Changes, InEach}
use Rattle.module_collections.specs.files.Entries.{Entries}
use Rattle.module_collections.specs.files.Found.{kept_at, shown_at}
use Rattle.module_collections.specs.files.Lists.{is_listed}
use Rattle.module_collections.specs.files.Places.{Folders, folders_of, found}
use Rattle.module_collections.specs.files.Removes.{Removes}
use Rattle.module_collections.specs.files.Saves.{Saves}
use Rattle.module_collections.specs.texts.Lines.{Kept}
use Rattle.module_auto.specs.Answers.{Outcomes}
use Rattle.module_restore.specs.Answers.{IsRestored}
use Rattle.module_restore.specs.Restores.{ReloadStep, RestoreStep}
use Rattle.module_restore.specs.Saves.{Keeps}
use Rattle.module_restore.specs.declared.restoring.Restored.{Restored}
use Rattle.module_words.specs.declared.protocol.place.Place.{Place}
use Rattle.module_words.specs.function.Asked.{Command}
use Rattle.module_subcommands.specs.Afters.{after_one}
use Rattle.module_subcommands.specs.Edits.{directory_of}
use Rattle.module_subcommands.specs.Limits.{context}
use Rattle.module_subcommands.specs.Moves.{Answered, changed_view}
use Rattle.module_subcommands.specs.Reports.{IsLinesReply}
use Rattle.module_subcommands.specs.Sites.{site_path}
use Rattle.module_subcommands.specs.declared.asking.Asking.{Asking}
use Rattle.module_subcommands.specs.declared.reply.Reply.{Reply}
use Rattle.module_subcommands.specs.declared.reply.Reply.TheVariants as replies

-- the name of a collection: the only word, or `default`
abbrev pub collection_name : List Text → Option Text
collection_name [] = Some (codes "default")
collection_name (name ∷ []) = Some name
collection_name (name ∷ other ∷ words) = None

-- the path of the site's own collection
abbrev pub site_collection : Asking → Option Text
site_collection asking = site_path (option_map string_bytes asking.site.called_as) (codes "etc/initial")

-- the path of the collection that the words name
abbrev pub IsPlaceAt : (Entries → Type 0) → Asking → List Text → Text → Type 0
IsPlaceAt agrees asking words path =
    (name : Text) × (collection_name words ≡ Some name)
    × InEach agrees (λ entries. found entries asking.env (site_collection asking) name ≡ Ok path)

-- a report of a file: its path, and what it has
abbrev pub with_path : Text → Text → Text
with_path path bytes = path ++ (codes ":\n" ++ bytes)

-- What `saveshow` reports.
abbrev pub ShowsSaved : (Entries → Type 0) → Asking → Place → List Text → Reply → Type 0
ShowsSaved agrees asking place words reply =
    (path : Text) × (bytes : Text) × IsPlaceAt agrees asking words path
    × InEach agrees (λ entries. shown_at entries path ≡ Ok bytes)
    × IsLinesReply [] place (with_path path bytes) reply

-- What `save` does: it keeps what the library keeps of the environment, under the name.
pub record SavesModules (agrees : Files → Listings → Type 0) (before now : Entries → Type 0) (asking : Asking)
    (words : List Text) (reply : Reply) : Type 0 where
  pub readable : asking.site.has_text_modulepath ≡ true
  pub name : Text
  pub named : collection_name words ≡ Some name
  pub kept : Kept
  pub keeps : InEachPair agrees (λ files listings.
      Keeps (context asking.shell files listings) (directory_of asking) asking.env (Ok kept))
  pub saves : Changes before now (Saves asking.env name asking.site.number kept (Ok tt))
  pub silent : reply ≡ replies.Nothing

-- What `saverm` does.
abbrev pub RemovesSaved : (Entries → Type 0) → (Entries → Type 0) → Asking → List Text → Reply → Type 0
RemovesSaved before now asking words reply =
    (name : Text) × (words ≡ name ∷ []) × Changes before now (Removes asking.env name (Ok tt))
    × (reply ≡ replies.Nothing)

-- what is answered of a restore: nothing is said of it
abbrev pub restored_answer : Asking → Command → Restored → Answered
restored_answer asking command r = record {
  said = [];
  messages = texts_in r.messages;
  text = string_bytes r.text;
  after = after_one asking (new_values_in r.changes) command;
  hints = [];
}

abbrev pub IsRestoredReply : Asking → Command → Restored → Reply → Type 0
IsRestoredReply asking command r (replies.Changed c) = changed_view c ≡ restored_answer asking command r
IsRestoredReply asking command r other = ⊥

-- the answer of a step that is accepted
abbrev pub IsStepReply : (Files → Listings → Type 0) → Asking → Command → Outcomes → Reply → Type 0
IsStepReply agrees asking command Comes reply =
    (r : Restored) × IsRestored agrees asking.shell asking.env Comes (string_bytes r.text) (texts_in r.messages)
    × TextSays asking.shell (string_bytes r.text) (new_values_in r.changes)
    × IsRestoredReply asking command r reply

-- What `restore` answers: the step with what the file of the collection keeps.
abbrev pub RestoresSaved : (Files → Listings → Type 0) → (Entries → Type 0) → Asking → Command → Reply → Type 0
RestoresSaved agrees agrees_files asking command reply =
    (path : Text) × (kept : Kept) × IsPlaceAt agrees_files asking command.1 path
    × InEach agrees_files (λ entries. kept_at entries path ≡ Ok kept)
    × IsStepReply agrees asking command (λ files listings.
    RestoreStep (context asking.shell files listings) asking.env kept.directories kept.modules) reply

-- What `reload` answers.
abbrev pub Reloads : (Files → Listings → Type 0) → Asking → Command → Reply → Type 0
Reloads agrees asking command reply =
    (command.1 ≡ [])
    × IsStepReply agrees asking command (λ files listings.
    ReloadStep (context asking.shell files listings) asking.env) reply

-- The names in the set are those of the collections.
abbrev pub AreCollections : (Entries → Type 0) → Environment → BTreeSet (String Global) → Type 0
AreCollections agrees e found =
    (folders : Folders) × (folders_of e ≡ Ok folders)
    × InEach agrees (λ entries. (name : Text) → contains_text found name ≡ is_listed entries folders name)

-- the names in a set, one a line, in the order of bytes
abbrev pub lines_of : BTreeSet (String Global) → Text
lines_of names = flat_map line_of (map string_bytes names.keys)

-- why a report of collections is empty, if it is
abbrev pub why_none : Text → Text
why_none [] = codes "No collection is saved.\n"
why_none (b ∷ lines) = []

-- What `savelist` reports.
abbrev pub ListsSaved : (Entries → Type 0) → Asking → Place → List Text → Reply → Type 0
ListsSaved agrees asking place words reply =
    (words ≡ [])
    × ((names : BTreeSet (String Global)) × AreCollections agrees asking.env names
    × IsLinesReply (why_none (lines_of names)) place (lines_of names) reply)
