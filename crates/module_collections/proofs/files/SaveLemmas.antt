-- What the steps of a save come to, one after the other.
use Rattle.std.proofs.Common.{◌≡◌, sym, ap, ◌∙◌, subst}
use Rattle.std.specs.Prelude.{bytes_eq, if◌then◌else◌, Result, Ok, Err}
use Rattle.envvars.specs.Texts.{Text}
use Rattle.module_collections.specs.files.Entries.{Entry, Entries, nothing, file}
use Rattle.module_collections.specs.files.Calls.{AreSame, Creates, Makes, Puts}
use Rattle.module_collections.specs.files.Saves.{Adds, Compares, Discards, Leaves, Replaces, Settles, Undoes, left_at}
use Rattle.module_collections.specs.declared.files.storage.CreationFault.{CreationFault}
use Rattle.module_collections.specs.declared.files.storage.CreationFault.TheVariants.{NotMade, Unfinished}
use Rattle.module_collections.specs.declared.files.unwritten.Unwritten.{Unwritten}
use Rattle.module_collections.specs.declared.files.unwritten.Unwritten.TheVariants.{Failed, Left}
use Rattle.module_collections.proofs.files.ChangeLemmas.{made_cleared, made_kept, made_with, put_makes, put_moved}

pub discarded : (path : Text) (f : Unwritten) (a b c : Entries) → Makes path a b → Discards path f b c
    → Leaves (left_at path f) a c
discarded path Failed a b c m k = made_cleared path a b c m k
discarded path Left a b c m k = made_kept path a b c m k

pub discards_after : (path : Text) (f : Unwritten) (a b c : Entries) → AreSame a b → Discards path f b c
    → Discards path f a c
discards_after path Failed a b c same k =
    λ p. k p ∙ ap (λ (x : Entry). if (bytes_eq path p) then nothing else x) (same p)
discards_after path Left a b c same k = λ p. k p ∙ same p

pub undone : (path : Text) (fault : CreationFault) (f : Unwritten) (a b c : Entries) → Creates path (Err fault) a b
    → Undoes path fault f b c → Leaves (left_at path f) a c
undone path NotMade f a b c m k =
    subst (λ (x : Unwritten). Leaves (left_at path x) a c) (sym k.0) (λ p. k.1 p ∙ m p)
undone path Unfinished f a b c m k = discarded path f a b c m k

pub added : (path text : Text) (r : Result (Unit {0}) Unwritten) (a b c : Entries) → Makes path a b
    → Compares path text r b c → Adds path text r a c
added path text (Ok u) a b c m k = made_with path text a b c m k.0 k.1
added path text (Err f) a b c m k = discarded path f a b c m k

pub replaced : (path end text : Text) (r : Result (Unit {0}) Unwritten) (a b c : Entries)
    → (a path ≡ nothing) × Puts path (file text) a b → Settles path end r b c → Replaces path end text r a c
replaced path end text (Ok u) a b c k s = put_moved path end text a b c k.0 k.1 s
replaced path end text (Err f) a b c k s = discarded path f a b c (put_makes path text a b k.0 k.1) s
