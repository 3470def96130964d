-- A prereq that a command leaves names something.
use Rattle.std.proofs.Common.{◌≡◌, ℕ, Bool, true, false, cond, List, [], ◌∷◌, map, find, Some, None, Ok, Err, refl, ap, ◌∙◌, subst}
use Rattle.std.specs.Prelude.{bytes_eq, codes}
use Rattle.std.specs.List.{list_all}
use Rattle.envvars.specs.Texts.{Text}
use Rattle.tclrules.specs.Oracle.{CommandWords}
use Rattle.modulefile.specs.Records.{Record, Set, Unset, Push, Path, Conflict, Prereq}
use Rattle.modulefile.specs.declared.records.PathEdit.{PathEdit}
use Rattle.modulefile.specs.declared.records.PathEdit.TheVariants.{Front, Back, Remove}
use Rattle.modulefile.specs.Results.{◌>>=◌}
use Rattle.modulefile.specs.Calls.{Call, CallForm, CallReason, InfoField, mode, shell, shell_type, adds_record, adds_message, getenv, is_loaded, own_name, typed_name, info, info_test}
use Rattle.modulefile.specs.Calls.{no_option, without_option, var_and_value, var_and_optional, delimited, var_and_values, path_form, some_words, description, getenv_form, is_loaded_form}
use Rattle.modulefile.specs.Calls.{alone, field_form, info_form, puts_form, of_default_files, unsupported_form, unsupported_commands, Command, commands, called, call_of}
use Rattle.modulefile.specs.Answers.{record_of, records_in}
use Rattle.modulefile.proofs.Bound.{bound}
use Rattle.audit_certificate.proofs.UsedLemmas.{by_test}
use Rattle.audit_laws.proofs.returns.LoadEntry.{names_some}

-- what a form of words leaves names something
abbrev leaves : Record → CallForm
leaves r = Ok (adds_record r)

abbrev NamesSome : CallForm → Type 0
NamesSome form = (r : Record) → form ≡ leaves r → names_some r ≡ true

abbrev FormNamesSome : (List Text → CallForm) → Type 0
FormNamesSome form = (words : List Text) → NamesSome (form words)

of_record : (q r : Record) → names_some q ≡ true → leaves q ≡ leaves r → names_some r ≡ true
of_record q r h e = let same : q ≡ r = cc in subst (λ (x : Record). names_some x ≡ true) same h

refused : (reason : CallReason) → NamesSome (Err reason)
refused reason r e = absurd (cc)

optionless : (form : List Text → CallForm) → FormNamesSome form → FormNamesSome (without_option form)
optionless form h words r e = let b = bound (no_option words) form (adds_record r) e in h b.0 r b.2

by_value : (make : Text → Text → Record) → ((var value : Text) → names_some (make var value) ≡ true) → FormNamesSome (var_and_value make)
by_value make h [] r e = absurd (cc)
by_value make h (var ∷ []) r e = absurd (cc)
by_value make h (var ∷ value ∷ []) r e = of_record (make var value) r (h var value) e
by_value make h (var ∷ value ∷ x ∷ more) r e = absurd (cc)

by_optional : FormNamesSome var_and_optional
by_optional [] r e = absurd (cc)
by_optional (var ∷ []) r e = of_record (Unset var None) r refl e
by_optional (var ∷ value ∷ []) r e = of_record (Unset var (Some value)) r refl e
by_optional (var ∷ value ∷ x ∷ more) r e = absurd (cc)

by_values : (edit : PathEdit) (p : ℕ × List Text) → NamesSome (var_and_values edit p)
by_values edit (delim, []) r e = absurd (cc)
by_values edit (delim, var ∷ []) r e = absurd (cc)
by_values edit (delim, var ∷ value ∷ values) r e = of_record (Path edit delim var _) r refl e

by_path : (edit : PathEdit) → FormNamesSome (path_form edit)
by_path edit words r e = let b = bound (delimited words) (var_and_values edit) (adds_record r) e in by_values edit b.0 r b.2

by_words : (make : List Text → Record) → ((word : Text) (words : List Text) → names_some (make (word ∷ words)) ≡ true) → FormNamesSome (some_words make)
by_words make h [] r e = absurd (cc)
by_words make h (word ∷ words) r e = of_record (make (word ∷ words)) r (h word words) e

by_getenv : FormNamesSome getenv_form
by_getenv [] r e = absurd (cc)
by_getenv (var ∷ []) r e = absurd (cc)
by_getenv (var ∷ default ∷ []) r e = absurd (cc)
by_getenv (var ∷ default ∷ x ∷ more) r e = absurd (cc)

by_loaded : FormNamesSome is_loaded_form
by_loaded names r e = absurd (cc)

by_alone : (call : Call) → NamesSome (Ok call) → FormNamesSome (alone call)
by_alone call h [] r e = h r e
by_alone call h (word ∷ words) r e = absurd (cc)

by_field : (field : InfoField) → FormNamesSome (field_form field)
by_field field [] r e = absurd (cc)
by_field field (word ∷ []) r e = absurd (cc)
by_field field (word ∷ other ∷ others) r e = absurd (cc)

either_form : (b : Bool) (f g : CallForm) → NamesSome f → NamesSome g → NamesSome (cond b f g)
either_form true f g h k = h
either_form false f g h k = k

no_name : NamesSome (Ok own_name)
no_name r e = absurd (cc)

no_typed : NamesSome (Ok typed_name)
no_typed r e = absurd (cc)

by_info : FormNamesSome info_form
by_info [] r e = absurd (cc)
by_info (field ∷ words) r e =
    either_form (bytes_eq field (codes "mode")) _ _ (by_field mode words)
    (either_form (bytes_eq field (codes "name")) _ _ (by_alone own_name no_name words)
    (either_form (bytes_eq field (codes "specified")) _ _ (by_alone typed_name no_typed words)
    (either_form (bytes_eq field (codes "shell")) _ _ (by_field shell words)
    (either_form (bytes_eq field (codes "shelltype")) _ _ (by_field shell_type words) (refused _))))) r e

by_puts : FormNamesSome puts_form
by_puts [] r e = absurd (cc)
by_puts (a ∷ []) r e = absurd (cc)
by_puts (a ∷ b ∷ []) r e = absurd (cc)
by_puts (a ∷ b ∷ c ∷ []) r e = absurd (cc)
by_puts (a ∷ b ∷ c ∷ d ∷ more) r e = absurd (cc)

abbrev AllNameSome : List Command → Type 0
AllNameSome [] = Unit {0}
AllNameSome (command ∷ more) = FormNamesSome command.1 × AllNameSome more

unsupported_ones : (names : List Text) → AllNameSome (map (λ name. (name, unsupported_form name)) names)
unsupported_ones [] = tt
unsupported_ones (name ∷ names) = (λ words r e. absurd (cc), unsupported_ones names)

no_default_file : FormNamesSome of_default_files
no_default_file words r e = absurd (cc)

all_name_some : AllNameSome commands
unfolding commands
all_name_some =
    (optionless (var_and_value Set) (by_value Set (λ var value. refl)), (optionless var_and_optional by_optional, (optionless (var_and_value Push) (by_value Push (λ var value. refl)), (by_path Front, (by_path Back, (by_path Remove, (optionless (some_words Conflict) (by_words Conflict (λ word words. refl)), (optionless (some_words Prereq) (by_words Prereq (λ word words. refl)), (by_words description (λ word words. refl), (optionless getenv_form by_getenv, (optionless is_loaded_form by_loaded, (by_info, (by_puts, (no_default_file, unsupported_ones unsupported_commands))))))))))))))

found_form : (name : Text) (all : List Command) → AllNameSome all → (words : List Text) → NamesSome (called (find (λ command. bytes_eq name command.0) all) words)
found_form name [] h words r e = absurd (cc)
found_form name (command ∷ more) h words r e = by_test (bytes_eq name command.0) _
    (λ t. h.0 words r (rw t at e))
    (λ f. found_form name more h.1 words r (rw f at e))

call_names_some : (words : List Text) → NamesSome (call_of words)
unfolding call_of
call_names_some [] r e = absurd (cc)
call_names_some (name ∷ words) r e = found_form name commands all_name_some words r e

recorded_names_some : (call : Call) (r q : Record) → ((x : Record) → call ≡ adds_record x → names_some x ≡ true) → record_of call ≡ Ok r → names_some r ≡ true
recorded_names_some (adds_record x) r q h e = let same : x ≡ r = cc in subst (λ (y : Record). names_some y ≡ true) same (h x refl)
recorded_names_some (adds_message message) r q h e = absurd (cc)
recorded_names_some (getenv var default) r q h e = absurd (cc)
recorded_names_some (is_loaded names) r q h e = absurd (cc)
recorded_names_some own_name r q h e = absurd (cc)
recorded_names_some typed_name r q h e = absurd (cc)
recorded_names_some (info field) r q h e = absurd (cc)
recorded_names_some (info_test field word) r q h e = absurd (cc)

pub records_name_some : (commands : List CommandWords) (rs : List Record) → records_in commands ≡ Ok rs → list_all names_some rs ≡ true
records_name_some [] rs h = let e : [] ≡ rs = cc in subst (λ (l : List Record). list_all names_some l ≡ true) e refl
records_name_some (words ∷ more) rs h =
    let b = bound (call_of words >>= record_of) (λ x. records_in more >>= (λ xs. Ok (x ∷ xs))) rs h in
    let d = bound (records_in more) (λ xs. Ok (b.0 ∷ xs)) rs b.2 in
    let c = bound (call_of words) record_of b.0 b.1 in
    let same : b.0 ∷ d.0 ≡ rs = cc in
    let first : names_some b.0 ≡ true = recorded_names_some c.0 b.0 b.0 (λ x e. call_names_some words x (c.1 ∙ ap (λ (y : Call). Ok y) e)) c.2 in
    let rest : list_all names_some d.0 ≡ true = records_name_some more d.0 d.1 in
    subst (λ (l : List Record). list_all names_some l ≡ true) same (rw (first, rest) refl)
