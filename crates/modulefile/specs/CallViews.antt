-- What the commands of the code stand for in the definitions (own).
use Rattle.std.specs.Prelude.{◌≡◌, ℕ, Bool, true, false, List, [], ◌∷◌, ◌++◌, map, string_bytes, String}
use Rattle.std.specs.Prelude.{if◌then◌else◌, Option, Some, None, IfSome}
use Rattle.std.specs.declared.alloc.Global.{Global}
use Rattle.envvars.specs.Texts.{Text}
use Rattle.modulefile.specs.Records as records
use Rattle.modulefile.specs.RecordViews.{record_view}
use Rattle.modulefile.specs.declared.call.InfoField.{InfoField}
use Rattle.modulefile.specs.declared.call.InfoField.TheVariants as info_fields
use Rattle.modulefile.specs.declared.call.Call.{Call}
use Rattle.modulefile.specs.declared.call.Call.TheVariants as code
use Rattle.modulefile.specs.declared.commands.Command.{Command}
use Rattle.modulefile.specs.declared.commands.Form.{Form}
use Rattle.modulefile.specs.declared.commands.Form.TheVariants as forms
use Rattle.modulefile.specs.declared.recording.PathWords.{PathWords}
use Rattle.modulefile.specs.declared.call_fault.CallFault.{CallFault}
use Rattle.modulefile.specs.declared.call_fault.CallFault.TheVariants as faults
use Rattle.modulefile.specs.Calls as calls
use Rattle.modulefile.specs.Calls.{CallForm, CallReason, without_option, var_and_value, var_and_optional, path_form}
use Rattle.modulefile.specs.Calls.{some_words, description, getenv_form, is_loaded_form, info_form, puts_form}
use Rattle.modulefile.specs.Calls.{of_default_files, unsupported_form}

-- strings as their bytes
abbrev pub texts_of : List (String Global) → List Text
texts_of ws = map string_bytes ws

-- what `module-info` is about
abbrev pub field_view : InfoField → calls.InfoField
field_view info_fields.Mode = calls.mode
field_view info_fields.Shell = calls.shell
field_view info_fields.ShellType = calls.shell_type

-- the delimiter of a path command, and its words from VAR on
abbrev pub path_words_view : PathWords → ℕ × List Text
path_words_view d = (d.delim.character, texts_of d.words.now)

-- the command of a call
abbrev pub call_view : Call → calls.Call
call_view (code.Adds recorded) = calls.adds_record (record_view recorded)
call_view (code.Puts text newline) = calls.adds_message (if newline then text.now ++ 10 ∷ [] else text.now)
call_view (code.Getenv var default) = calls.getenv var.now default.now
call_view (code.IsLoaded names) = calls.is_loaded (texts_of names.now)
call_view code.OwnName = calls.own_name
call_view code.TypedName = calls.typed_name
call_view (code.Info field) = calls.info (field_view field)
call_view (code.InfoTest field word) = calls.info_test (field_view field) word.now

-- the form of the words of a command
abbrev pub form_view : Form → Text → List Text → CallForm
form_view forms.Set name = without_option (var_and_value records.Set)
form_view forms.Unset name = without_option var_and_optional
form_view forms.Push name = without_option (var_and_value records.Push)
form_view (forms.Path edit) name = path_form edit
form_view forms.Conflict name = without_option (some_words records.Conflict)
form_view forms.Prereq name = without_option (some_words records.Prereq)
form_view forms.Whatis name = some_words description
form_view forms.Getenv name = without_option getenv_form
form_view forms.IsLoaded name = without_option is_loaded_form
form_view forms.Info name = info_form
form_view forms.Puts name = puts_form
form_view forms.OfDefaultFiles name = of_default_files
form_view forms.Unsupported name = unsupported_form name

-- a command, by its name and its form
abbrev pub command_view : Command → calls.Command
command_view c = (c.name.now, form_view c.form c.name.now)

-- a form is that of unsupported commands
abbrev pub is_unsupported : Form → Bool
is_unsupported forms.Unsupported = true
is_unsupported form = false

-- the reason that a fault names; want of memory is none
abbrev pub reason_of : CallFault → Option CallReason
reason_of faults.OutOfMemory = None
reason_of faults.Unknown = Some calls.unknown
reason_of (faults.LeftOut name) = Some (calls.unsupported (string_bytes name))
reason_of faults.BadArguments = Some calls.bad_arguments

-- the fault is this, or want of memory
abbrev pub HasReason : CallReason → CallFault → Type 0
HasReason reason fault = IfSome (reason_of fault) (λ r. r ≡ reason)
