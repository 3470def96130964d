-- What a save comes to as a whole.
use Rattle.std.proofs.Common.{◌≡◌, ◌⊎◌, ℕ, inl, inr, Bool, true, false, refl, sym, ap, ◌∙◌, subst, length}
use Rattle.std.proofs.lemmas.Bool.{false≢true}
use Rattle.std.specs.Prelude.{if◌then◌else◌, nat_lt, is_ok, Option, Some, None, Result, Ok, Err, IfSome}
use Rattle.std.specs.List.{list_any, slice_split}
use Rattle.std.specs.Prelude.{◌==◌}
use Rattle.std.specs.Str.{is_utf8}
use Rattle.envvars.specs.Texts.{Text}
use Rattle.envvars.specs.Environment.{Environment}
use Rattle.module_collections.specs.texts.Lines.{Kept}
use Rattle.module_collections.specs.texts.Collections.{CollectionReason, max_length, read, too_long, no_text, something, with_lines, nothing}
use Rattle.module_collections.specs.texts.Saved.{IsSaved}
use Rattle.module_collections.specs.files.Entries.{Entry, Entries, bytes_at, end_of, file, in_folder}
use Rattle.module_collections.specs.files.Calls.{AddsFolders, AddsSome, MakesFolder, Puts, is_on_way, or_folder}
use Rattle.module_collections.specs.files.Faults.{FileReason, no_collection, no_file, reason_of}
use Rattle.module_collections.specs.files.Found.{kept_at, kept_in, said_of, short, shown_at}
use Rattle.module_collections.specs.files.Places.{Folders, folders_for, in_folders}
use Rattle.module_collections.specs.files.Ends.{at_free, free_end, is_free}
use Rattle.module_collections.specs.files.Failures.{Failure, unread, unwritten, left, unsaved, IsSave, IsWrite, failure_by, failure_of, new_path}
use Rattle.module_collections.specs.files.PreparedSave.{IsUnprepared}
use Rattle.module_collections.specs.files.Saves.{Ends, IsNotSaved, Leaves, LeavesBy, MakesOwn, Writes, WritesAt, WritesInFolder}
use Rattle.module_collections.specs.files.Saves.{IsSavedAt, left_at, left_by, own_end, own_kept}
use Rattle.module_collections.specs.declared.files.fault.FileFault.{FileFault}
use Rattle.module_collections.specs.declared.files.unwritten.Unwritten.{Unwritten}
use Rattle.module_collections.specs.declared.files.unwritten.Unwritten.TheVariants.{Failed, Left}
use Rattle.module_collections.proofs.files.EntryLemmas.{bytes_written}

pub leaves_by : (path : Text) (left : Unwritten) (fault : FileFault) (a b : Entries)
    → left_by fault ≡ left_at path left → Leaves (left_at path left) a b → LeavesBy fault a b
leaves_by path Failed fault a b e h = inl h
leaves_by path Left fault a b e h = inr (path, e, h)

pub some_as : {X : Type 0} (o : Option X) (P Q : X → Type 0) → ((x : X) → P x → Q x) → IfSome o P → IfSome o Q
some_as (Some x) P Q f h = f x h
some_as None P Q f h = tt

-- a fault without a reason has none that is wrong
pub no_reason : (fault : FileFault) (P : FileReason → Type 0) → reason_of fault ≡ None → IfSome (reason_of fault) P
no_reason fault P e = subst (λ (o : Option FileReason). IfSome o P) (sym e) tt

-- a write at the end of a path is one of the path
pub written_at_end : (path end text : Text) (number : ℕ) (r : Result (Unit {0}) FileFault) (a b : Entries) → free_end a path ≡ Ok end
    → WritesAt (new_path end number) end text r a b → Writes path number text r a b
written_at_end path end text number (Ok u) a b e w = (end, e, w)
written_at_end path end text number (Err fault) a b e w =
    (no_reason fault (λ r. free_end a path ≡ Err r) w.0, w.1, some_as (failure_of fault) _ _ (λ f h. at_end f h.0 h.1) w.2) where
      at_end : (f : Failure) (way : Unwritten) → f ≡ failure_by way (new_path end number) end → IsWrite path number a f
      at_end f Failed h = subst (IsWrite path number a) (sym h) (inr e)
      at_end f Left h = subst (IsWrite path number a) (sym h) (end, e, refl)

-- where the end isn't found, writing failed at the path
pub unwritten_at : (path : Text) (number : ℕ) (fault : FileFault) (a : Entries) → IfSome (failure_of fault) (λ f. f ≡ unwritten path)
    → IfSome (failure_of fault) (IsWrite path number a)
unwritten_at path number fault a h =
    some_as (failure_of fault) (λ f. f ≡ unwritten path) (IsWrite path number a) (λ f e. subst (IsWrite path number a) (sym e) (inl refl)) h

some_at : (t : Bool) (path p : Text) (old new : Entry) → is_on_way path p ≡ t → new ≡ (if t then or_folder old else old)
    → (new ≡ old) ⊎ ((is_on_way path p ≡ true) × (new ≡ or_folder old))
some_at true path p old new e h = inr (e, h)
some_at false path p old new e h = inl h

-- all of the folders are some of them
some_added : (path : Text) (a b : Entries) → AddsFolders path a b → AddsSome path a b
some_added path a b h = λ p. some_at (is_on_way path p) path p (a p) (b p) refl (h p)

-- a write, once the folder is made
pub in_made_folder : (folder path text : Text) (number : ℕ) (r : Result (Unit {0}) FileFault) (a m b : Entries) → AddsFolders folder a m
    → Writes path number text r m b → WritesInFolder folder path number text r a b
in_made_folder folder path text number (Ok u) a m b added w = (m, added, w)
in_made_folder folder path text number (Err fault) a m b added w =
    (m, some_added folder a m added, w.0, w.1, some_as (failure_of fault) (IsWrite path number m) (λ f. (f ≡ unwritten folder) ⊎ IsWrite path number m f) (λ f h. inr h) w.2)

-- a save that is refused may have made no folder
pub none_made : (folders : Result Folders FileReason) (fault : FileFault) (a : Entries) → MakesOwn folders (Err fault) a a
none_made (Ok folders) fault a = λ p. inl refl
none_made (Err reason) fault a = λ p. refl

-- a result that is an error by a true test is no value
no_value : (t : Bool) {A R : Type 0} (r : R) (x : Result A R) (a : A) → (if t then Err r else x) ≡ Ok a → t ≡ false
no_value true r x a e = absurd (false≢true (ap is_ok e))
no_value false r x a e = refl

abbrev value_or : Text → Result Text FileReason → Text
value_or other (Ok x) = x
value_or other (Err r) = other

free_case : (t : Bool) (path p end : Text) → (if t then Ok p else Err (no_file path)) ≡ Ok end → p ≡ end
free_case true path p end e = ap (value_or p) e
free_case false path p end e = absurd (false≢true (ap is_ok e))

-- the end that is free is the one to which the path leads
free_leads : (path end : Text) (found : Option Text) (entries : Entries) → at_free path found entries ≡ Ok end
    → found ≡ Some end
free_leads path end None entries e = absurd (false≢true (ap is_ok e))
free_leads path end (Some p) entries e = ap (λ (t : Text). Some t) (free_case (is_free (entries p)) path p end e)

reads_back : (entries : Entries) (path text : Text) (kept : Kept) → bytes_at entries path ≡ Some text
    → is_utf8 text ≡ true → read text ≡ Ok kept → kept_at entries path ≡ Ok kept
reads_back entries path text kept has utf8 reads =
    let fits : nat_lt max_length (length text) ≡ false =
    no_value (nat_lt max_length (length text)) too_long
    (if list_any (λ b. b == 0) text then Err no_text else something (with_lines (slice_split (λ b. b == 10) text) 1 nothing))
    kept reads in
    let shown : shown_at entries path ≡ Ok text =
    ap (λ (o : Option Text). short path o) has
    ∙ ap (λ (t : Bool). if t then Err (no_collection path too_long) else Ok text) fits in
    ap (λ (r : Result Text FileReason). kept_in path r) shown
    ∙ (ap (λ (t : Bool). if t then said_of path (read text) else Err (no_collection path no_text)) utf8
    ∙ ap (λ (r : Result Kept CollectionReason). said_of path r) reads)

-- of the user's own path, with the folders that there are
module _ (env : Environment) (name path : Text) (folders : Folders) (found : folders_for env name ≡ Ok folders)
    (lies : path ≡ in_folder folders.own name) where
  own_end_is : (entries : Entries) → own_end entries env name ≡ free_end entries path
  own_end_is entries =
      ap (λ (r : Result Folders FileReason). in_folders r (λ f. free_end entries (in_folder f.own name))) found
      ∙ ap (free_end entries) (sym lies)

  own_kept_is : (entries : Entries) → own_kept entries env name ≡ kept_at entries path
  own_kept_is entries =
      ap (λ (r : Result Folders FileReason). in_folders r (λ f. kept_at entries (in_folder f.own name))) found
      ∙ ap (kept_at entries) (sym lies)

  reason_as : (wrong : Option FileReason) (a : Entries) → IfSome wrong (λ r. free_end a path ≡ Err r)
      → IfSome wrong (λ r. own_end a env name ≡ Err r)
  reason_as None a h = tt
  reason_as (Some r) a h = own_end_is a ∙ h

  is_saved : (text : Text) (kept : Kept) → IsSaved kept text → is_utf8 text ≡ true → (a b : Entries)
      → (end : Text) × (free_end a path ≡ Ok end) × Puts end (file text) a b → IsSavedAt env name kept a b
  is_saved text kept saved utf8 a b w = record {
    end = w.0;
    text = text;
    leads = own_end_is a ∙ w.1;
    saved = saved;
    puts = w.2;
    reads =
        own_kept_is b
        ∙ reads_back b path text kept (bytes_written path w.0 text a b w.2 (free_leads path w.0 (end_of a path) a w.1)) utf8 saved.read_again;
  }

  module _ (number : ℕ) (folder : Text) (is_own : folder ≡ folders.own) (kept : Kept) where
    failed_as : (a : Entries) (f : Failure) → (f ≡ unwritten folder) ⊎ IsWrite path number a f → IsSave folders name number kept a f
    failed_as a (unread p) (inl e) = cc
    failed_as a (unread p) (inr h) = absurd h
    failed_as a (unwritten p) (inl e) = let same : p ≡ folder = cc in inl (same ∙ is_own)
    failed_as a (unwritten p) (inr h) = inr (subst (λ (q : Text). IsWrite q number a (unwritten p)) lies h)
    failed_as a (left p) (inl e) = cc
    failed_as a (left p) (inr h) = subst (λ (q : Text). IsWrite q number a (left p)) lies h
    failed_as a (unsaved wrong) (inl e) = cc
    failed_as a (unsaved wrong) (inr h) = absurd h

    made_own : (r : Result (Unit {0}) FileFault) (a m : Entries) → MakesFolder folder r a m
        → MakesOwn (folders_for env name) r a m
    made_own r a m h =
        subst (λ (f : Result Folders FileReason). MakesOwn f r a m) (sym found)
        (subst (λ (t : Text). MakesFolder t r a m) is_own h)

    pub ended : (text : Text) → IsSaved kept text → is_utf8 text ≡ true → (r : Result (Unit {0}) FileFault) (a b : Entries)
        → WritesInFolder folder path number text r a b
        → (m : Entries) × MakesOwn (folders_for env name) r a m × Ends env name number kept r m b
    ended text saved utf8 (Ok u) a b w = (w.0, made_own (Ok u) a w.0 w.1, is_saved text kept saved utf8 w.0 b w.2)
    ended text saved utf8 (Err fault) a b w = (
      w.0,
      made_own (Err fault) a w.0 w.1,
      record {
        reason = reason_as (reason_of fault) w.0 w.2;
        left = w.3;
        failure = some_as (failure_of fault) _ _ (λ f h. (folders, found, failed_as w.0 f h)) w.4;
      },
    )

-- the folder couldn't be made
pub folder_unmade : (folder given path : Text) (number : ℕ) (fault : FileFault) (a : Entries) → given ≡ folder
    → IfSome (failure_of fault) (λ f. f ≡ unwritten given) → IfSome (failure_of fault) (λ f. (f ≡ unwritten folder) ⊎ IsWrite path number a f)
folder_unmade folder given path number fault a same h =
    some_as (failure_of fault) _ _ (λ f e. inl (e ∙ ap (λ (t : Text). unwritten t) same)) h

-- where there are no folders for the name, nothing is saved
refused_reason : (wrong : Option FileReason) (env : Environment) (name : Text) (a : Entries)
    → IfSome wrong (λ r. folders_for env name ≡ Err r) → IfSome wrong (λ r. own_end a env name ≡ Err r)
refused_reason None env name a h = tt
refused_reason (Some r) env name a h =
    ap (λ (f : Result Folders FileReason). in_folders f (λ x. free_end a (in_folder x.own name))) h

pub refused : (env : Environment) (name : Text) (number : ℕ) (kept : Kept) (fault : FileFault) (a : Entries)
    → IfSome (reason_of fault) (λ r. folders_for env name ≡ Err r) → IfSome (failure_of fault) (IsUnprepared env name kept)
    → IsNotSaved env name number kept fault a a
refused env name number kept fault a h k = record {
  reason = refused_reason (reason_of fault) env name a h;
  left = inl (λ p. refl);
  failure = some_as (failure_of fault) _ _ (λ f u. (u.0, u.1, subst (IsSave u.0 name number kept a) (sym u.2.1) u.2.2)) k;
}
