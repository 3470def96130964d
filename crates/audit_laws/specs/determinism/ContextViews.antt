-- What the contexts and the undone records of the code stand for in the definitions (own).
use Rattle.std.specs.Prelude.{List, [], Some, map, string_bytes, String}
use Rattle.std.specs.Borrow.{Bor}
use Rattle.std.specs.declared.alloc.Global.{Global}
use Rattle.envvars.specs.Texts.{Text, texts_in}
use Rattle.modulefile.specs.Records as records
use Rattle.modulefile.specs.RecordViews.{mode_view}
use Rattle.modulefile.specs.declared.records.PathEdit.TheVariants.{Front}
use Rattle.audit_laws.specs.determinism.Contexts as ways
use Rattle.audit_laws.specs.declared.determinism.contexts.EvaluationContext.{EvaluationContext}
use Rattle.audit_laws.specs.declared.determinism.undone.UndoneRecord.{UndoneRecord}
use Rattle.audit_laws.specs.declared.determinism.undone.UndoneRecord.TheVariants as code

-- a context
abbrev pub context_view : EvaluationContext → ways.EvaluationContext
context_view way =
    record {
      mode = mode_view way.mode;
      in_switch = way.in_switch;
      shell = way.shell;
      loaded = texts_in way.loaded;
    }

-- lists of texts
abbrev pub text_lists : List (Bor (List (String Global))) → List (List Text)
text_lists lists = map (λ texts. map string_bytes texts.now) lists

-- a record as an unload sees it
abbrev pub undone_view : UndoneRecord → records.Record
undone_view (code.Set variable) = records.Set variable.now []
undone_view (code.Unset variable value) = records.Unset variable.now (Some value.now)
undone_view (code.Push variable) = records.Push variable.now []
undone_view (code.Path delim variable elements) =
    records.Path Front delim.character variable.now (map string_bytes elements.now)
