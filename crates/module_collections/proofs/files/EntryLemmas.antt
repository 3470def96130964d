-- Where links lead, and what is read there after a write.
use Rattle.std.proofs.Common.{◌≡◌, ℕ, zero, suc, Bool, true, false, refl, sym, ap, ◌∙◌}
use Rattle.std.specs.Prelude.{bytes_eq, if◌then◌else◌, IfOk, Option, Some, None, Result, Ok, Err}
use Rattle.envvars.specs.Texts.{Text}
use Rattle.envvars.proofs.TextLemmas.{same_text}
use Rattle.module_collections.specs.files.Entries.{Entry, Entries, nothing, file, folder, link, other, bytes_at, bytes_at_end}
use Rattle.module_collections.specs.files.Entries.{behind, bytes_in, end_of, leads, led_on, max_links}
use Rattle.module_collections.specs.files.Calls.{Puts}
use Rattle.module_collections.proofs.files.ChangeLemmas.{put_there}

by_entry : (on on_b : Text → Option Text) (path end : Text) → ((next : Text) → on next ≡ Some end → on_b next ≡ Some end)
    → (x : Entry) → led_on on path x ≡ Some end → led_on on_b path x ≡ Some end
by_entry on on_b path end more nothing led = led
by_entry on on_b path end more (file bytes) led = led
by_entry on on_b path end more folder led = led
by_entry on on_b path end more (link target) led = more _ led
by_entry on on_b path end more other led = led

-- what is put at the end of the links of a path, where none was a link, leaves the way as it was
put_on_way : (end : Text) (text : Text) (a b : Entries) (path : Text) (t : Bool) → bytes_eq end path ≡ t
    → b path ≡ (if t then file text else a path)
    → (on : Text → Option Text) (on_b : Text → Option Text) → ((next : Text) → on next ≡ Some end → on_b next ≡ Some end)
    → led_on on path (a path) ≡ Some end → led_on on_b path (b path) ≡ Some end
put_on_way end text a b path true e puts on on_b more led =
    ap (λ (x : Entry). led_on on_b path x) puts ∙ ap (λ (x : Text). Some x) (sym (same_text end path e))
put_on_way end text a b path false e puts on on_b more led =
    ap (λ (x : Entry). led_on on_b path x) puts ∙ by_entry on on_b path end more (a path) led

leads_still : (n : ℕ) (end text : Text) (a b : Entries) → Puts end (file text) a b
    → (path : Text) → leads n a path ≡ Some end → leads n b path ≡ Some end
leads_still zero end text a b puts path led =
    put_on_way end text a b path (bytes_eq end path) refl (puts path) (λ next. None) (λ next. None) (λ next e. e) led
leads_still (suc n) end text a b puts path led =
    put_on_way end text a b path (bytes_eq end path) refl (puts path) (λ next. leads n a next) (λ next. leads n b next)
    (λ next. leads_still n end text a b puts next) led

-- after a write to the end of the links of a path, the path has this text
pub bytes_written : (path end text : Text) (a b : Entries) → Puts end (file text) a b
    → end_of a path ≡ Some end → bytes_at b path ≡ Some text
bytes_written path end text a b puts led =
    ap (λ (e : Option Text). bytes_at_end b e) (leads_still max_links end text a b puts path led)
    ∙ ap (λ (x : Entry). bytes_in x) (put_there end (file text) a b puts)

pub map_ok : {A E : Type 0} (r : Result A E) (P Q : A → Type 0) → ((x : A) → P x → Q x) → IfOk r P → IfOk r Q
map_ok (Ok x) P Q f h = f x h
map_ok (Err e) P Q f h = tt

-- a path at which a link is leads where the link leads
pub led_through : (left n : ℕ) (e : Entries) (path target next : Text) → left ≡ suc n → e path ≡ link target
    → next ≡ behind path target → leads left e path ≡ leads n e next
led_through left n e path target next more is to =
    ap (λ (k : ℕ). leads k e path) more
    ∙ (ap (λ (x : Entry). led_on (λ q. leads n e q) path x) is ∙ ap (λ (q : Text). leads n e q) (sym to))
