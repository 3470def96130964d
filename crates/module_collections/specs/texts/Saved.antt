-- What is saved: the text of a collection that is read again as the same.
use Rattle.std.specs.Prelude.{◌≡◌, ◌≢◌, List, ◌++◌, Bool, ◌&&◌, bytes_eq, codes, string_bytes, Result, Ok, Err}
use Rattle.std.specs.Prelude.{IfOk, IfSome}
use Rattle.std.specs.Cmp.Lexicographic.{pointwise}
use Rattle.std.specs.declared.string.String.{String}
use Rattle.std.specs.declared.alloc.Global.{Global}
use Rattle.std.specs.Str.Lossy.{utf8_lossy}
use Rattle.envvars.specs.Texts.{Text}
use Rattle.module_collections.specs.texts.Lines.{Kept}
use Rattle.module_collections.specs.texts.Collections.{read}
use Rattle.module_collections.specs.texts.Spelling.{written}
use Rattle.module_collections.specs.texts.Views.{reason_of, text_of}
use Rattle.module_collections.specs.declared.texts.collection.Collection.{Collection}
use Rattle.module_collections.specs.declared.texts.fault.CollectionFault.{CollectionFault}
use Rattle.module_collections.specs.declared.texts.fault.CollectionFault.TheVariants.{OutOfMemory, BadLine, SaysNothing}
use Rattle.module_collections.specs.declared.texts.fault.CollectionFault.TheVariants.{TooLong, NoText}
use Rattle.module_collections.specs.declared.texts.save.SaveFault.{SaveFault}
use Rattle.module_collections.specs.declared.texts.save.SaveFault.TheVariants as saves

-- the text of a collection as one, since what is written of texts is UTF-8
abbrev pub saved : Kept → Text
saved kept = utf8_lossy (written kept)

-- a text is that of the collection, and is read again as the same
pub record IsSaved (kept : Kept) (text : Text) : Type 0 where
  pub text_is : text ≡ saved kept
  pub read_again : read text ≡ Ok kept

-- the texts are the same, one by one
abbrev pub are_same : List (String Global) → List (String Global) → Bool
are_same xs ys = pointwise (λ x y. bytes_eq (string_bytes x) (string_bytes y)) xs ys

-- two collections of the code keep the same
abbrev pub keep_same : Collection → Collection → Bool
keep_same a b = are_same a.directories.items b.directories.items && are_same a.modules.items b.modules.items

-- why a collection isn't saved: its text is no collection, or another one
abbrev pub IsSaveFault : Kept → SaveFault → Type 0
IsSaveFault kept saves.OutOfMemory = Unit {0}
IsSaveFault kept (saves.Unreadable fault) = IfSome (reason_of fault) (λ reason. read (saved kept) ≡ Err reason)
IsSaveFault kept saves.Differs = IfOk (read (saved kept)) (λ other. other ≢ kept)

-- what is said of it
abbrev pub text_of_save : SaveFault → Text
text_of_save saves.OutOfMemory = codes "Out of memory"
text_of_save (saves.Unreadable SaysNothing) =
    codes "Nothing to save: no module is loaded, and MODULEPATH names no directory"
text_of_save (saves.Unreadable fault) = codes "No collection can keep this: " ++ text_of fault
text_of_save saves.Differs = codes "No collection can keep this: it would be read as another one"

-- the fault of a text that is no collection
abbrev pub of_fault : CollectionFault → SaveFault
of_fault OutOfMemory = saves.OutOfMemory
of_fault (BadLine number fault) = saves.Unreadable (BadLine number fault)
of_fault SaysNothing = saves.Unreadable SaysNothing
of_fault TooLong = saves.Unreadable TooLong
of_fault NoText = saves.Unreadable NoText
