use Rattle.std.proofs.Common.{◌≡◌, false, [], map, Some, None, Ok, Err, subst, sym, rules}
use Rattle.std.specs.Prelude.{codes, option_map, string_bytes}
use Rattle.tclrules.specs.Oracle.{unnamed}
use Rattle.tclrules.specs.Promise.{texts_of, is_out_of_memory, Evaluates}
use Rattle.tclrules.specs.Variables.{lookup}
use Rattle.lookup.specs.DefaultFileResults.{default_oracle, unset_read, HasResult}
use Rattle.lookup.specs.CommandAnswers.{texts_of_words}
use Rattle.lookup.proofs.Ends.{globals_of, ending_has_result, fault_has_result}
use Rattle.lookup.proofs.evaluated.EvaluatedDefaultFilesDefaultFiles.evaluate.Goals as goal

pub returns-in_ok-version-in-Ok : goal.returns-in_ok-version-in-Ok
returns-in_ok-version-in-Ok c =
    let g : texts_of c.in_ok-globals.globals.items ≡ globals_of c.args.path.now = search rules in
    let v : Evaluates c.args.self.now.limits c.args.text.now (texts_of c.in_ok-globals.globals.items) default_oracle
    (record { records = map texts_of_words c.new.result.items; messages = []; asked = map unset_read c.new-2.result.items; refused = None })
    (Ok c.in-Ok.evaluation) (record {
      records = map texts_of_words c.evaluate.new.host.commands.items;
      messages =
          [];
      asked = map unset_read c.evaluate.new.host.asked.items;
      refused = option_map unnamed c.evaluate.new.host.refused;
    }) =
    c.in-Ok.ensures.evaluates in
    let d = ending_has_result c.args.self.now.limits c.args.path.now c.args.text.now c.in-Ok.evaluation _ (rw (g, c.new.ensures.items, c.new-2.ensures.items) at v) in
    let e : option_map string_bytes c.in_ok-version-in-Ok.version ≡ lookup (texts_of c.in-Ok.evaluation.globals.items) (codes "ModulesVersion") = search rules in
    subst (λ v. HasResult c.args.self.now.limits c.args.path.now c.args.text.now (Some (record { commands = map texts_of_words c.evaluate.new.host.commands.items; version = v }))) (sym e) d

pub returns-else-is_out_of_memory : goal.returns-else-is_out_of_memory
returns-else-is_out_of_memory c =
    let g : texts_of c.in_ok-globals.globals.items ≡ globals_of c.args.path.now = search rules in
    let m : is_out_of_memory c.in-Err.fault ≡ false = search rules in
    let v : Evaluates c.args.self.now.limits c.args.text.now (texts_of c.in_ok-globals.globals.items) default_oracle
    (record { records = map texts_of_words c.new.result.items; messages = []; asked = map unset_read c.new-2.result.items; refused = None })
    (Err c.in-Err.fault) (record {
      records = map texts_of_words c.evaluate.new.host.commands.items;
      messages = [];
      asked = map unset_read c.evaluate.new.host.asked.items;
      refused = option_map unnamed c.evaluate.new.host.refused;
    }) =
    c.in-Err.ensures.evaluates in
    fault_has_result c.args.self.now.limits c.args.path.now c.args.text.now c.in-Err.fault _ m (rw (g, c.new.ensures.items, c.new-2.ensures.items) at v)
