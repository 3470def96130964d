-- What only reports leaves the environment, and moves nothing.
use Rattle.std.proofs.Common.{◌≡◌, List, [], ◌∷◌, map, Result, Ok, Err, refl, ap, ◌∙◌, subst}
use Rattle.envvars.specs.Texts.{Text}
use Rattle.envvars.specs.Environment.{Environment}
use Rattle.filetree.specs.Relations.{Is, Then}
use Rattle.modulefile.specs.Records.{Record}
use Rattle.modulefile.specs.Effects as modes
use Rattle.modulefile.specs.Effects.{Mode}
use Rattle.lookup.specs.DefaultFileResults.{HasResult}
use Rattle.search.specs.Found as search
use Rattle.search.specs.Listed.{selected_of}
use Rattle.search.proofs.OneListing.{one_listed}
use Rattle.search.proofs.SelectedListing.{selected_listed}
use Rattle.requests.specs.Reasons.{RequestReason}
use Rattle.requests.specs.Requests.{RequestedAction, load, unload, switch, purge, list, avail, show, whatis}
use Rattle.requests.specs.Steps.{RequestContext, Done, nothing_done, entries_of, ShowsName, shown_text, described_text}
use Rattle.requests.specs.Steps.{Each, NeedsNames, ShowsNames, RequestStep}
use Rattle.requests.specs.Steps.{with_report, modulepath}
use Rattle.requests.specs.Reports.{avail_text}
use Rattle.requests.specs.Laws.{Reports, SelectionsReported}
use Rattle.requests.proofs.Bound.{went_on}

abbrev Still : Environment → Done → Type 0
Still e d = (d.env ≡ e) × (d.moves ≡ [])

abbrev Stays : Environment → (Result Done RequestReason → Type 0) → Type 0
Stays e Comes = (d : Done) → Comes (Ok d) → Still e d

stay_same : (e : Environment) (d : Done) → Still e d → Stays e (Is (Ok d))
stay_same e d still t h = let same : d ≡ t = cc in subst (λ x. Still e x) same still

stay_refused : (e : Environment) (r : RequestReason) → Stays e (Is (Err r))
stay_refused e r t h = absurd (let g : Ok t ≡ Err r = h in cc)

stay_then : {A : Type 0} {First : Result A RequestReason → Type 0} {Rest : A → Result Done RequestReason → Type 0}
    (e : Environment) → ((x : A) → First (Ok x) → Stays e (Rest x)) → Stays e (Then First Rest)
stay_then {First = First} {Rest = Rest} e stays t h = let g = went_on First Rest t h in stays g.0 g.1 t g.2

stay_show : (s : RequestContext) (mode : Mode) (text_of : search.FoundModule → List Record → Text) (e : Environment) (typed : Text) (d : Done) → Still e d → Stays e (ShowsName s mode text_of typed d)
stay_show s mode text_of e typed d still =
    stay_then e (λ xs h. stay_then e (λ m g. stay_then e (λ ran f. stay_same e _ still)))

stay_each : (e : Environment) (Does : Text → Done → Result Done RequestReason → Type 0)
    → ((name : Text) (d : Done) → Still e d → Stays e (Does name d)) → (names : List Text) (d : Done) → Still e d
    → Stays e (Each Does names d)
stay_each e Does stays [] d still = stay_same e d still
stay_each e Does stays (name ∷ names) d still =
    stay_then e (λ t h. stay_each e Does stays names t (stays name d still t h))

stay_shown : (s : RequestContext) (mode : Mode) (text_of : search.FoundModule → List Record → Text) (e : Environment)
    (names : List Text) → Stays e (NeedsNames names (ShowsNames s mode text_of e names))
stay_shown s mode text_of e [] = stay_refused e _
stay_shown s mode text_of e (name ∷ names) =
    stay_then {First = Is (entries_of e)} {Rest = λ xs. Each (ShowsName s mode text_of) (name ∷ names) (nothing_done e)}
    e (λ xs h. stay_each e (ShowsName s mode text_of) (stay_show s mode text_of e) (name ∷ names) (nothing_done e)
    (refl, refl))

pub selections_reported : SelectionsReported
selections_reported s e texts listings d all (ls, some, g) =
    let results = HasResult s.limits in
    let one : ls ≡ map (selected_of texts) listings = one_listed results s.files s.listings texts (modulepath e) ls _ some
    (selected_listed results s.files s.listings texts (modulepath e) listings all) in
    let same : d ≡ with_report (nothing_done e) [] (avail_text ls) = cc in
    same ∙ ap (λ x. with_report (nothing_done e) [] (avail_text x)) one

pub reports_leave : (s : RequestContext) (e : Environment) (asked : RequestedAction) (d : Done) → Reports asked → RequestStep s e asked (Ok d) → Still e d
reports_leave s e (load names) d r h = absurd r
reports_leave s e (unload names) d r h = absurd r
reports_leave s e (switch old new) d r h = absurd r
reports_leave s e purge d r h = absurd r
reports_leave s e list d r h = stay_then {First = Is (entries_of e)} e (λ xs g. stay_same e _ (refl, refl)) d h
reports_leave s e (avail texts) d r h = stay_same e _ (refl, refl) d h.2
reports_leave s e (show names) d r h = stay_shown s modes.display shown_text e names d h
reports_leave s e (whatis names) d r h = stay_shown s modes.whatis described_text e names d h
