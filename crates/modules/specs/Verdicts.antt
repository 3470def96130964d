-- Verdicts of the program, as the definitions see them (own).
use Rattle.std.specs.Prelude.{◌≡◌, true, Ok}
use Rattle.std.specs.List.{list_all}
use Rattle.envvars.specs.Texts.{Text}
use Rattle.envvars.specs.Environment.{Environment}
use Rattle.filetree.specs.Agreement.{Files, Listings}
use Rattle.shelltext.specs.declared.shell.Shell.TheVariants.{Sh}
use Rattle.tclrules.specs.declared.limits.Limits.{Limits}
use Rattle.modulefile.specs.Files.{Ran}
use Rattle.search.specs.Found as search
use Rattle.reversal.specs.VariableUses.{is_reversible}
use Rattle.requests.specs.Steps.{RequestContext, Finds, request_context_in}
use Rattle.requests.specs.Verdicts as verdicts
use Rattle.requests.specs.Verdicts.{AlwaysRecords}
use Rattle.modules.specs.declared.judged.Verdict.{Verdict}
use Rattle.modules.specs.declared.judged.Verdict.TheVariants.{Plain, Asked, OneWay}

-- what a verdict is given over: files evaluated for sh
abbrev pub in_sh : Limits → Files → Listings → RequestContext
in_sh limits files listings = request_context_in limits Sh files listings

-- the verdict
abbrev pub verdict_view : Verdict → verdicts.Verdict
verdict_view Plain = verdicts.plain
verdict_view Asked = verdicts.asked
verdict_view OneWay = verdicts.one_way

-- The name means a module whose file makes the same records in every context, or is refused there, and unloading undoes
-- each of them.
abbrev pub MeansPlainFile : RequestContext → Environment → Text → Type 0
MeansPlainFile s e name =
    (m : search.FoundModule) × (ran : Ran) × Finds s e name (Ok m)
    × (list_all is_reversible ran.records ≡ true) × AlwaysRecords s m ran

-- that is so where the verdict is plain
abbrev pub PlainVerdictHolds : RequestContext → Environment → Text → Verdict → Type 0
PlainVerdictHolds s e name Plain = MeansPlainFile s e name
PlainVerdictHolds s e name Asked = Unit {0}
PlainVerdictHolds s e name OneWay = Unit {0}
