-- What modules do and are, and what the program says of itself (module(1)).
use Rattle.std.specs.Prelude.{◌≡◌, ℕ, Bool, true, false, ◌||◌, List, [], ◌∷◌, ◌++◌, codes, string_bytes}
use Rattle.std.specs.Prelude.{Option, Some, None, Result, Ok}
use Rattle.std.specs.List.{flat_map}
use Rattle.std.specs.Option.{option_map}
use Rattle.message.specs.Messages.{Text}
use Rattle.envvars.specs.Environment.{Environment}
use Rattle.filetree.specs.Agreement.{Files, Listings, InEachPair}
use Rattle.shelltext.specs.declared.shell.Shell.{Shell}
use Rattle.requests.specs.Reasons.{RequestReason}
use Rattle.requests.specs.Steps.{Done}
use Rattle.module_reports.specs.descriptions.Helps.{HelpAnswer, Helps, described, own}
use Rattle.module_reports.specs.descriptions.Readable.{IsReadableDescription}
use Rattle.module_words.specs.declared.protocol.place.Place.{Place}
use Rattle.module_words.specs.function.Asked.{Command}
use Rattle.module_words.specs.subcommands.Subcommands.{name_of}
use Rattle.module_subcommands.specs.Changes.{RequestedStep}
use Rattle.module_subcommands.specs.Limits.{context, standard}
use Rattle.module_subcommands.specs.Reports.{IsLinesReply, IsReport}
use Rattle.module_subcommands.specs.Sites.{site_path}
use Rattle.module_subcommands.specs.declared.asking.Asking.{Asking}
use Rattle.module_subcommands.specs.declared.describing.Helped.{Helped}
use Rattle.module_subcommands.specs.declared.reply.Reply.{Reply}

-- messages, and behind them a report
abbrev pub with_messages : List Text → Text → Text
with_messages messages report = flat_map (λ message. message) messages ++ report

-- the request of `show` or `whatis` with its names
abbrev pub DescribingStep : Asking → Command → Files → Listings → Result Done RequestReason → Type 0
DescribingStep asking command = RequestedStep asking.shell asking.env (name_of command.0 ∷ command.1)

-- What `show` answers, and `whatis` with names: what the request of `modulecmd` says.
abbrev pub ReportsModules : (Files → Listings → Type 0) → Asking → Place → Command → Reply → Type 0
ReportsModules agrees asking place command reply =
    (d : Done) × InEachPair agrees (λ files listings. DescribingStep asking command files listings (Ok d))
    × IsLinesReply [] place (with_messages d.messages d.report) reply

-- a description with what is left out
abbrev pub with_left_out : Text → Text → Text
with_left_out text [] = text
with_left_out text (b ∷ left_out) = text ++ (codes "Left out:\n" ++ b ∷ left_out)

-- What `whatis` answers without names, and `keyword`.
abbrev pub DescribesAll : (Files → Listings → Type 0) → (Text → Bool) → ℕ → Asking → Place → Option Text → Reply
    → Type 0
DescribesAll agrees has_failed failures asking place sought reply =
    (text : Text) × (left_out : Text)
    × IsReadableDescription agrees has_failed failures standard asking.shell asking.env sought text left_out
    × IsLinesReply [] place (with_left_out text left_out) reply

abbrev pub DescribesSought : (Files → Listings → Type 0) → (Text → Bool) → ℕ → Asking → Place → List Text → Reply
    → Type 0
DescribesSought agrees has_failed failures asking place words reply =
    (text : Text) × (words ≡ text ∷ []) × DescribesAll agrees has_failed failures asking place (Some text) reply

-- ---- help

-- the text of an answer, and whether it says what a module is
abbrev pub text_of : HelpAnswer → Text
text_of (own text) = text
text_of (described text) = text

abbrev pub is_described : HelpAnswer → Bool
is_described (own text) = false
is_described (described text) = true

-- of several, one after another
abbrev pub AllHelp : Type 0
AllHelp = Text × Bool

abbrev pub helped_view : Helped → AllHelp
helped_view h = (string_bytes h.text, h.is_described)

abbrev pub in_front : HelpAnswer → AllHelp → AllHelp
in_front answer others = (text_of answer ++ others.0, is_described answer || others.1)

-- Each name has its answer, in each pair of maps that agrees.
abbrev pub HelpsEach : (Files → Listings → Type 0) → Shell → Environment → List Text → AllHelp → Type 0
HelpsEach agrees shell e [] all = all ≡ ([], false)
HelpsEach agrees shell e (name ∷ names) all =
    (answer : HelpAnswer) × (others : AllHelp)
    × InEachPair agrees (λ files listings. Helps (context shell files listings) e name (Ok answer))
    × HelpsEach agrees shell e names others × (all ≡ in_front answer others)

-- where the manual pages of a site are
abbrev pub pages_of : Asking → Option Text
pages_of asking = site_path (option_map string_bytes asking.site.called_as) (codes "share/man")

abbrev pub with_pages : Text → Option Text → Text → Text
with_pages text None others = text ++ others
with_pages text (Some pages) others =
    text ++ (codes "\n  man -M '" ++ (pages
    ++ (codes "' module\n  man -M '" ++ (pages ++ codes "' modulefile\n"))))

-- what is said, and where more is
abbrev pub more : Text
more = codes "\"module show NAME\" says what a module does. Manual pages:"

abbrev pub with_more : Asking → AllHelp → Text
with_more asking (text, false) = text
with_more asking (text, true) = with_pages (text ++ more) (pages_of asking) (codes "\n  man module\n  man modulefile\n")

-- What `help` answers with names.
abbrev pub HelpsOn : (Files → Listings → Type 0) → Asking → Place → List Text → Reply → Type 0
HelpsOn agrees asking place names reply =
    (all : AllHelp) × HelpsEach agrees asking.shell asking.env names all
    × IsLinesReply [] place (with_more asking all) reply

-- ---- the program itself

-- What `help` answers without names, of this usage, and `--version`, of this version.
abbrev pub SaysUsage : Text → Asking → Place → Reply → Type 0
SaysUsage usage asking place reply =
    IsReport [] place (with_pages (usage ++ codes "\nManual pages:") (pages_of asking)
    (codes " module(1), modulefile(5)\n")) reply

abbrev pub SaysVersion : Text → Place → Reply → Type 0
SaysVersion version place reply = IsReport [] place (version ++ codes "\n") reply
