-- The variables that were read rest, where all that was asked does.
use Rattle.std.proofs.Common.{◌≡◌, Bool, true, false, List, [], ◌∷◌, Option, Some, None, Ok, Err, refl, ap, sym, subst}
use Rattle.std.specs.Prelude.{bytes_eq}
use Rattle.std.specs.List.{list_all, cons_option}
use Rattle.std.proofs.lemmas.Bool.{and_parts}
use Rattle.envvars.specs.Texts.{Text, has}
use Rattle.envvars.proofs.TextLemmas.{same_text}
use Rattle.tclrules.specs.Oracle.{Question, OfCommand, OfVariable}
use Rattle.modulefile.specs.Records.{Record}
use Rattle.modulefile.specs.Calls.{CallForm, adds_record, adds_message, getenv, is_loaded, own_name, typed_name, info, info_test}
use Rattle.modulefile.specs.Calls.{call_of}
use Rattle.audit_laws.specs.determinism.StableInput.{is_stable_variable, is_stable_call, is_stable_input, read_by_call, read_by, variables_read}

by_call : (records : List Record) (form : CallForm) (v : Text) → is_stable_call records form ≡ true → read_by_call form ≡ Some v → is_stable_variable records v ≡ true
by_call records (Err reason) v h e = absurd (cc)
by_call records (Ok (adds_record r)) v h e = absurd (cc)
by_call records (Ok (adds_message text)) v h e = absurd (cc)
by_call records (Ok (getenv var default)) v h e = let same : var ≡ v = cc in subst (λ (x : Text). is_stable_variable records x ≡ true) same h
by_call records (Ok (is_loaded names)) v h e = absurd (cc)
by_call records (Ok own_name) v h e = absurd (cc)
by_call records (Ok typed_name) v h e = absurd (cc)
by_call records (Ok (info field)) v h e = absurd (cc)
by_call records (Ok (info_test field word)) v h e = absurd (cc)

one_rests : (records : List Record) (q : Question) (v : Text) → is_stable_input records q ≡ true → read_by q ≡ Some v → is_stable_variable records v ≡ true
one_rests records (OfCommand words answer) v h e = by_call records (call_of words) v h e
one_rests records (OfVariable name value) v h e = let same : name ≡ v = cc in subst (λ (x : Text). is_stable_variable records x ≡ true) same h

first_or : (records : List Record) (v : Text) (o : Option Text) (names : List Text) → has v (cons_option o names) ≡ true → (o ≡ Some v → is_stable_variable records v ≡ true)
    → (has v names ≡ true → is_stable_variable records v ≡ true) → is_stable_variable records v ≡ true
first_or records v None names h one more = more h
first_or records v (Some n) names h one more = go (bytes_eq v n) refl
  where
    go : (b : Bool) → bytes_eq v n ≡ b → is_stable_variable records v ≡ true
    go true e = one (ap (λ (x : Text). Some x) (sym (same_text v n e)))
    go false e = more (rw e at h)

pub read_rests : (records : List Record) (asked : List Question) (v : Text) → list_all (is_stable_input records) asked ≡ true → has v (variables_read asked) ≡ true
    → is_stable_variable records v ≡ true
read_rests records [] v h e = absurd (cc)
read_rests records (q ∷ asked) v h e =
    let p = and_parts (is_stable_input records q) (list_all (is_stable_input records) asked) h in
    first_or records v (read_by q) (variables_read asked) e (λ i. one_rests records q v p.0 i) (λ i. read_rests records asked v p.1 i)
