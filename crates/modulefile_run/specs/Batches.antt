-- Edits of one path variable, one after another, of which the later ones wait to be made as one edit (own).
use Rattle.std.specs.Prelude.{◌≡◌, ℕ, ◌+◌, ◌≤◌, List, [], reverse, length, string_bytes, unwrap_or}
use Rattle.std.specs.Prelude.{Option, Some, None, Result, Ok, Err}
use Rattle.std.specs.Option.{option_map}
use Rattle.envvars.specs.Texts.{Text, texts_in}
use Rattle.envvars.specs.Environment.{Environment}
use Rattle.envvars.specs.Reasons.{EnvReason}
use Rattle.envstate.specs.paths.Paths.{HasRoom}
use Rattle.envstate.specs.paths.PathVariables.{path_in}
use Rattle.modulefile.specs.Effects.{path_edited}
use Rattle.modulefile.specs.declared.records.PathEdit.{PathEdit}
use Rattle.modulefile.specs.declared.records.PathEdit.TheVariants.{Front, Back, Remove}
use Rattle.modulefile_run.specs.declared.batch.PathBatch.{PathBatch}

-- The elements of edits wait in the order of the edits. One edit at the front puts its last element there first.
abbrev pub in_turn : {A : Type 0} → PathEdit → List A → List A
in_turn Front xs = reverse xs
in_turn Back xs = xs
in_turn Remove xs = xs

-- the environment of an outcome, or else the one before
abbrev pub made_of : Environment → Result Environment EnvReason → Environment
made_of before (Ok e) = e
made_of before (Err r) = before

-- the environment after the elements that wait, if any do
abbrev pub with_elements : PathEdit → ℕ → Text → Option (List Text) → Environment → Environment
with_elements edit delim var None e = e
with_elements edit delim var (Some xs) e = made_of e (path_edited edit delim var (in_turn edit xs) e)

-- the elements that wait
abbrev pub waiting_in : PathBatch → Option (List Text)
waiting_in b = option_map texts_in b.waiting

abbrev pub with_waiting : Option PathBatch → Environment → Environment
with_waiting None e = e
with_waiting (Some b) e = with_elements b.edit b.delim.character (string_bytes b.var) (waiting_in b) e

-- how many elements wait at most
abbrev pub most_waiting : ℕ
most_waiting = 1000000

-- Where elements are added, so many leave no counter past the largest.
abbrev pub HasRoomFor : PathEdit → ℕ → Text → Environment → Type 0
HasRoomFor Front delim var e = HasRoom (path_in e var delim) most_waiting
HasRoomFor Back delim var e = HasRoom (path_in e var delim) most_waiting
HasRoomFor Remove delim var e = Unit

-- Elements that wait can be written, and as many as may wait have room.
abbrev pub ElementsCanWait : PathEdit → ℕ → Text → Option (List Text) → Environment → Type 0
ElementsCanWait edit delim var None e = Unit
ElementsCanWait edit delim var (Some xs) e = HasRoomFor edit delim var e
    × (path_edited edit delim var (in_turn edit xs) e ≡ Ok (with_elements edit delim var (Some xs) e))

abbrev pub CanWait : Option PathBatch → Environment → Type 0
CanWait None e = Unit
CanWait (Some b) e = ElementsCanWait b.edit b.delim.character (string_bytes b.var) (waiting_in b) e

-- So many more may wait.
abbrev pub MoreCanWait : PathBatch → ℕ → Environment → Type 0
MoreCanWait b more e = HasRoomFor b.edit b.delim.character (string_bytes b.var) e
    × (length (unwrap_or (waiting_in b) []) + more ≤ most_waiting)

-- nothing waits
abbrev pub NothingWaits : Option PathBatch → Type 0
NothingWaits None = Unit
NothingWaits (Some b) = b.waiting ≡ None

-- As much waits as before, by what it makes of the environment.
abbrev pub WaitAlike : Option PathBatch → Option PathBatch → Environment → Type 0
WaitAlike old new e = CanWait new e × (with_waiting new e ≡ with_waiting old e)
