-- The names that one request loaded, for the contracts of this crate's private functions.
use Rattle.std.specs.Prelude.{List, []}
use Rattle.envvars.specs.Texts.{Text, texts_in}
use Rattle.modules.specs.declared.sessions.Outcome.{Outcome}
use Rattle.modules.specs.declared.sessions.Outcome.TheVariants.{Accepted, Refused}

-- none for a refused one
abbrev pub loaded_in : Outcome → List Text
loaded_in (Accepted done) = texts_in done.loaded
loaded_in (Refused refusal) = []
