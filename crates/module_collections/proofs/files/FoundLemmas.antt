-- What bytes of a file say.
use Rattle.std.proofs.Common.{◌≡◌, ℕ, ◌+◌, ◌<◌, ◌≤◌, Bool, true, false, length, take, refl, sym, ap, ◌∙◌, arith}
use Rattle.std.proofs.lemmas.Bool.{false≢true}
use Rattle.std.proofs.lemmas.Bool.Decides.{nat_tests}
use Rattle.std.specs.Prelude.{if◌then◌else◌, nat_lt, is_ok, is_some, IfSome, Option, Some, None, Result, Ok, Err}
use Rattle.std.specs.Option.{option_map}
use Rattle.std.specs.Str.{IsUtf8, is_utf8}
use Rattle.std.proofs.lemmas.Str.{IsUtf8-from_is_utf8}
use Rattle.envvars.specs.Texts.{Text}
use Rattle.module_collections.specs.texts.Lines.{Kept}
use Rattle.module_collections.specs.texts.Collections.{CollectionReason, max_length, no_text, read, too_long}
use Rattle.module_collections.specs.files.Entries.{Entry, Entries, bytes_at, bytes_at_end, bytes_in, end_of, file, is_file}
use Rattle.module_collections.specs.files.Faults.{FileReason, no_collection, no_file}
use Rattle.module_collections.specs.files.Found.{at_file, file_end, kept_in, said_of, short}
use Rattle.module_collections.proofs.files.ReadLemmas.{longer, whole_if_short}

is_less : (m n : ℕ) → m < n → nat_lt m n ≡ true
is_less m n l = grind (arith, nat_tests)

is_no_less : (m n : ℕ) → n ≤ m → nat_lt m n ≡ false
is_no_less m n l = grind (arith, nat_tests)

pub long_refused : (path shown all items : Text) → items ≡ take (max_length + 1) all → max_length < length items
    → shown ≡ path → short path (Some all) ≡ Err (no_collection shown too_long)
long_refused path shown all items h l e =
    ap (λ (t : Bool). if t then Err (no_collection path too_long) else Ok all)
    (is_less max_length (length all) (longer max_length all items (sym h) l))
    ∙ ap (λ (s : Text). Err (no_collection s too_long)) (sym e)

pub short_kept : (path all items : Text) → items ≡ take (max_length + 1) all → length items ≤ max_length
    → short path (Some all) ≡ Ok items
short_kept path all items h l =
    let same : all ≡ items = whole_if_short max_length all items (sym h) l in
    ap (λ (t : Bool). if t then Err (no_collection path too_long) else Ok all)
    (ap (λ (x : Text). nat_lt max_length (length x)) same ∙ is_no_less max_length (length items) l)
    ∙ ap (λ (x : Text). Ok x) same

abbrev value_or : Text → Result Text FileReason → Text
value_or other (Ok x) = x
value_or other (Err r) = other

file_case : (t : Bool) (path p end : Text) → (if t then Ok p else Err (no_file path)) ≡ Ok end → p ≡ end
file_case true path p end e = ap (value_or p) e
file_case false path p end e = absurd (false≢true (ap is_ok e))

file_leads : (path end : Text) (found : Option Text) (entries : Entries) → at_file path found entries ≡ Ok end
    → found ≡ Some end
file_leads path end None entries e = absurd (false≢true (ap is_ok e))
file_leads path end (Some p) entries e = ap (λ (t : Text). Some t) (file_case (is_file (entries p)) path p end e)

pub bytes_led : (e : Entries) (path end all : Text) → file_end e path ≡ Ok end → e end ≡ file all
    → bytes_at e path ≡ Some all
bytes_led e path end all leads is =
    ap (λ (o : Option Text). bytes_at_end e o) (file_leads path end (end_of e path) e leads)
    ∙ ap (λ (x : Entry). bytes_in x) is

no_utf8 : (items : Text) (t : Bool) → is_utf8 items ≡ t → (IsUtf8 items → ⊥) → t ≡ false
no_utf8 items true e h = absurd (h (IsUtf8-from_is_utf8 items e))
no_utf8 items false e h = refl

abbrev reason_or : FileReason → Option FileReason → FileReason
reason_or other (Some x) = x
reason_or other None = other

said_no_text : (wrong : Option FileReason) (x : FileReason) (y : Result Kept FileReason)
    → IfSome wrong (λ r. Some x ≡ Some r) → y ≡ Err x → IfSome wrong (λ r. y ≡ Err r)
said_no_text None x y h e = tt
said_no_text (Some r) x y h e = e ∙ ap (λ (z : FileReason). Err z) (ap (reason_or x) h)

-- bytes that are no text keep nothing
pub no_text_kept : (wrong : Option FileReason) (path items : Text) → (IsUtf8 items → ⊥)
    → IfSome wrong (λ r. Some (no_collection path no_text) ≡ Some r) → IfSome wrong (λ r. kept_in path (Ok items) ≡ Err r)
no_text_kept wrong path items bad h =
    said_no_text wrong (no_collection path no_text) (kept_in path (Ok items)) h
    (ap (λ (t : Bool). if t then said_of path (read items) else Err (no_collection path no_text)) (no_utf8 items (is_utf8 items) refl bad))

pub kept_is : (path text : Text) (kept : Kept) → is_utf8 text ≡ true → read text ≡ Ok kept → kept_in path (Ok text) ≡ Ok kept
kept_is path text kept utf8 reads =
    ap (λ (t : Bool). if t then said_of path (read text) else Err (no_collection path no_text)) utf8
    ∙ ap (λ (r : Result Kept CollectionReason). said_of path r) reads

-- a text that is wrong keeps nothing, for this reason
pub wrong_kept : (wrong : Option FileReason) (inner : Option CollectionReason) (path text : Text) → is_utf8 text ≡ true
    → IfSome inner (λ r. read text ≡ Err r) → IfSome wrong (λ r. option_map (λ x. no_collection path x) inner ≡ Some r)
    → IfSome wrong (λ r. kept_in path (Ok text) ≡ Err r)
wrong_kept None inner path text utf8 k h = tt
wrong_kept (Some r) None path text utf8 k h = absurd (false≢true (ap is_some h))
wrong_kept (Some r) (Some x) path text utf8 k h =
    ap (λ (t : Bool). if t then said_of path (read text) else Err (no_collection path no_text)) utf8
    ∙ (ap (λ (y : Result Kept CollectionReason). said_of path y) k
    ∙ ap (λ (z : FileReason). Err z) (ap (reason_or (no_collection path x)) h))
