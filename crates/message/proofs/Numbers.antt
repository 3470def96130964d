-- A refusal is found by its number, so no two have the same.
use Rattle.std.proofs.Common.{◌≡◌, ℕ, List, [], ◌∷◌, Option, Some, None, refl, sym, ◌∙◌, ap}
use Rattle.std.specs.Prelude.{◌==◌, find}
use Rattle.message.specs.Refusals.{number_of}
use Rattle.message.specs.declared.refusals.RefusalKind.{RefusalKind}
use Rattle.message.specs.declared.refusals.RefusalKind.TheVariants as kinds

all : List RefusalKind
all =
    kinds.MemoryForText ∷ kinds.OpenBrace ∷ kinds.OpenQuote ∷ kinds.OpenBracket ∷ kinds.JoinedToClose ∷
    kinds.TextTooDeep ∷ kinds.BadCharacter ∷ kinds.BadExpression ∷ kinds.TooLong ∷ kinds.MemoryForEvaluation ∷
    kinds.BadText ∷ kinds.TclError ∷ kinds.TooManyCommands ∷ kinds.EvaluationTooDeep ∷ kinds.ValueTooLong ∷
    kinds.NumberTooLarge ∷ kinds.FractionOperand ∷ kinds.LeftOut ∷ kinds.Stopped ∷ kinds.Host ∷
    kinds.MemoryForRequest ∷ kinds.BadVariable ∷ kinds.Protected ∷ kinds.CounterFull ∷ kinds.Inconsistent ∷
    kinds.BadStack ∷ kinds.BadValue ∷ kinds.MemoryForSearch ∷ kinds.NotFound ∷ kinds.Device ∷ kinds.BadName ∷
    kinds.BadDefaultFile ∷ kinds.NotUtf8 ∷ kinds.ConflictWith ∷ kinds.PrereqMissing ∷ kinds.StillNeededBy ∷
    kinds.FileGone ∷ kinds.NotAModulefile ∷ kinds.BadArguments ∷ kinds.UnknownSubcommand ∷ kinds.MemoryForPrinting ∷
    kinds.NotSayable ∷ kinds.UnknownShell ∷ kinds.WriteFailed ∷ []

named_by : ℕ → Option RefusalKind
named_by n = find (λ kind. number_of kind == n) all

found : (kind : RefusalKind) → named_by (number_of kind) ≡ Some kind
unfolding named_by all
found kinds.MemoryForText = refl
found kinds.OpenBrace = refl
found kinds.OpenQuote = refl
found kinds.OpenBracket = refl
found kinds.JoinedToClose = refl
found kinds.TextTooDeep = refl
found kinds.BadCharacter = refl
found kinds.BadExpression = refl
found kinds.TooLong = refl
found kinds.MemoryForEvaluation = refl
found kinds.BadText = refl
found kinds.TclError = refl
found kinds.TooManyCommands = refl
found kinds.EvaluationTooDeep = refl
found kinds.ValueTooLong = refl
found kinds.NumberTooLarge = refl
found kinds.FractionOperand = refl
found kinds.LeftOut = refl
found kinds.Stopped = refl
found kinds.Host = refl
found kinds.MemoryForRequest = refl
found kinds.BadVariable = refl
found kinds.Protected = refl
found kinds.CounterFull = refl
found kinds.Inconsistent = refl
found kinds.BadStack = refl
found kinds.BadValue = refl
found kinds.MemoryForSearch = refl
found kinds.NotFound = refl
found kinds.Device = refl
found kinds.BadName = refl
found kinds.BadDefaultFile = refl
found kinds.NotUtf8 = refl
found kinds.ConflictWith = refl
found kinds.PrereqMissing = refl
found kinds.StillNeededBy = refl
found kinds.FileGone = refl
found kinds.NotAModulefile = refl
found kinds.BadArguments = refl
found kinds.UnknownSubcommand = refl
found kinds.MemoryForPrinting = refl
found kinds.NotSayable = refl
found kinds.UnknownShell = refl
found kinds.WriteFailed = refl

abbrev or_else : RefusalKind → Option RefusalKind → RefusalKind
or_else kind None = kind
or_else kind (Some named) = named

pub differ : (kind other : RefusalKind) → number_of kind ≡ number_of other → kind ≡ other
differ kind other same = ap (or_else kind) (sym (found kind) ∙ (ap named_by same ∙ found other))
