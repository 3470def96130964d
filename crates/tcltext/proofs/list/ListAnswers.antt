-- What a text is answered.
use Rattle.std.proofs.Common.{◌≡◌, ◌≢◌, ◌↔◌, ◌≤◌, List, ◌∷◌, length, map, string_bytes, Result, Ok, Err, ap, arith}
use Rattle.std.proofs.Common.{length-append}
use Rattle.std.specs.Prelude.{IfOk, IfErr, MatchResult}
use Rattle.std.specs.declared.vec.Vec.{Vec}
use Rattle.std.specs.declared.string.String.{String}
use Rattle.std.specs.declared.alloc.Global.{Global}
use Rattle.tcltext.specs.chars.Runs.{Text}
use Rattle.tcltext.specs.chars.Faults.{max_bytes}
use Rattle.tcltext.specs.chars.Reading.{remaining_of}
use Rattle.tcltext.specs.declared.chars.fault.Fault.{Fault}
use Rattle.tcltext.specs.declared.chars.fault.TextFault.{TextFault}
use Rattle.tcltext.specs.declared.chars.fault.TextFault.TheVariants.{OutOfMemory}
use Rattle.tcltext.proofs.chars.Whole as whole
use Rattle.tcltext.specs.list.ListGrammar.{IsList}
use Rattle.tcltext.specs.list.ListFaults as faults
use Rattle.tcltext.specs.list.ListFaults.{IsFault, ElementFault, here, following, IsListFault}
use Rattle.tcltext.specs.list.ListReading.{list_at, list_of, ReadsList}
use Rattle.tcltext.proofs.list.ReadLemmas.{piece_length, element_length, list_at-sound, list_at-faulty, list_at-read}
use Rattle.tcltext.proofs.list.ReadLemmas.{list_at-wrong}

wrong_left : {bs : Text} {f : Fault} → ElementFault bs f → remaining_of f ≤ length bs
wrong_left (faults.ElementFault.open_brace none) = omega arith
wrong_left (faults.ElementFault.joined_to_brace inside rest w is joined) = omega (arith, ap length w, length-append inside (125 ∷ rest))
wrong_left (faults.ElementFault.open_quote m last) = omega arith
wrong_left (faults.ElementFault.joined_to_quote m joined) = omega (arith, piece_length m)
wrong_left (faults.ElementFault.bad_in_quotes m nothing) = omega (arith, piece_length m)
wrong_left (faults.ElementFault.bad_in_bare starts m nothing) = omega (arith, piece_length m)

mark_left : {bs : Text} {f : Fault} → IsFault bs f → remaining_of f ≤ length bs
mark_left (here spaces body pass wrong) = omega (arith, wrong_left wrong, length-append spaces body)
mark_left (following spaces body pass is h more) = omega (arith, mark_left more, element_length is, length-append spaces body)

pub within : (bs : Text) (f : Fault) → list_at bs ≡ Err f → remaining_of f ≤ length bs
within bs f h = mark_left (list_at-faulty bs f h)

abbrev Found : Type 0
Found = Vec (String Global) Global

abbrev elements : Found → List Text
elements es = map string_bytes es.items

-- The clauses

pub reads_found : (bs : Text) (r : Result Found TextFault) → ReadsList r (list_of bs) → IfOk r (λ es. IsList bs (elements es))
unfolding list_of
reads_found bs r h = whole.reads_found list_at elements bs (IsList bs) (λ es k. list_at-sound bs es (whole.value_is list_at bs es k).0) r h

pub reads_only : (bs : Text) (r : Result Found TextFault) → ReadsList r (list_of bs) → (es : List Text) → IsList bs es
    → length bs ≤ max_bytes → MatchResult r (λ found. elements found ≡ es) (λ e. e ≡ OutOfMemory)
unfolding list_of
reads_only bs r h es is short = whole.reads_only list_at elements bs r h es (whole.value_met list_at bs es short (list_at-read bs es is))

pub reads_fault : (bs : Text) (r : Result Found TextFault) → ReadsList r (list_of bs) → IfErr r (IsListFault bs)
unfolding list_of
reads_fault bs r h = whole.reads_fault list_at IsFault list_at-faulty list_at-wrong within elements bs r h

-- The laws

pub elements_law : (bs : Text) (es : List Text) → length bs ≤ max_bytes → (list_of bs ≡ Ok es) ↔ IsList bs es
unfolding list_of
elements_law bs es short = (λ h. list_at-sound bs es (whole.value_is list_at bs es h).0, λ h. whole.value_met list_at bs es short (list_at-read bs es h))

pub fault_law : (bs : Text) (f : TextFault) → f ≢ OutOfMemory → (list_of bs ≡ Err f) ↔ IsListFault bs f
unfolding list_of
fault_law bs f some = (λ h. (whole.fault_is list_at IsFault list_at-faulty list_at-wrong within bs f h).0, λ h. whole.fault_met list_at IsFault list_at-faulty list_at-wrong within bs f some h)

pub no_memory : (bs : Text) → list_of bs ≢ Err OutOfMemory
unfolding list_of
no_memory = whole.no_memory list_at IsFault list_at-faulty list_at-wrong within

pub one_fault : (bs : Text) (f g : TextFault) → f ≢ OutOfMemory → g ≢ OutOfMemory → IsListFault bs f → IsListFault bs g → f ≡ g
one_fault = whole.one_fault list_at IsFault list_at-faulty list_at-wrong within

pub no_list : (bs : Text) (f : TextFault) (es : List Text) → f ≢ OutOfMemory → length bs ≤ max_bytes → IsListFault bs f → IsList bs es → ⊥
no_list bs f es some short h k = whole.no_value list_at IsFault list_at-faulty list_at-wrong within bs f es some h (whole.value_met list_at bs es short (list_at-read bs es k))
